-- Each request once: an invariant that every event keeps.
use Rattle.std.proofs.Common.{◌≡◌, ℕ, suc, ◌+◌, ◌≤◌, All, ◌==◌, ◌||◌, not, Bool, true, false, cond, nat_lt, is_none, List, [], ◌∷◌, ◌++◌, length, Option, Some, None, slice_get, refl, ap, sym, ◌∙◌, subst, append-nil, length-append, arith}
use Rattle.std.specs.List.{AllByRecursion}
use Rattle.std.specs.Option.{option_map, option_to_list}
use Rattle.std.proofs.lemmas.Bool.{eq-eqb, eqb-true, ltb-false, and_right, or_parts, lt-ltb, ne_eqb}
use Rattle.exb_csp.specs.declared.message.Request.{Request}
use Rattle.exb_csp.specs.declared.message.Response.{Response}
use Rattle.exb_csp.specs.declared.message.Body.TheVariants as body
use Rattle.exb_csp.specs.declared.message.Message.{Message}
use Rattle.exb_csp.specs.RequestKinds.{kind_of, number_of, same_kind}
use Rattle.exb_csp.specs.Encoding.{IsSpelledRequest, IsSpelledBody, HasSpelling}
use Rattle.exb_csp.specs.declared.session.asker.Taken.{Taken}
use Rattle.exb_csp.specs.declared.session.asker.Taken.TheVariants as taken
use Rattle.exb_csp.specs.declared.session.answerer.Due.{Due}
use Rattle.exb_csp.specs.declared.session.answerer.Due.TheVariants.{Execute, Again, Ignore}
use Rattle.exb_csp.specs.Sessions.AskingEnd.{AskerState, message_again, took_body}
use Rattle.exb_csp.specs.Sessions.AnsweringEnd.{AnswererState, is_owing, arrived, stored_message}
use Rattle.exb_csp.specs.Sessions.Runs.{Event, Asks, AsksAgain, RequestComes, Stores, SendsAnswer, AnswerComes, Session, opened, executed_by, answered_by, asking, arriving, storing, taking, arriving_body, arriving_message, taking_message, stepped, run, IsFront, EachRequestOnce, RequestsAreAnswered, IsAsked, IsStored, MessagesAreNumbered, MessagesAreSpelled}
use Rattle.exb_csp.proofs.Sessions.Prefixes.{each_weaker, each_push, each_append, each_at, get_front, get_last, front_more, front_next, all_from, all_get}

abbrev one_if : Bool → ℕ
one_if true = 1
one_if false = 0

abbrev one_for : Option Request → ℕ
one_for None = 0
one_for (Some request) = 1

record Holds (s : Session) : Type 0 where
  numbered : s.asker.serial ≡ length s.asks
  executed_all : s.answerer.last ≡ length s.executed
  executed_front : IsFront s.executed s.asks
  requests : AllByRecursion (IsAsked s.asks) s.requests
  answers : AllByRecursion (IsStored s.responses) s.answers
  stored_all : length s.responses + one_if (is_owing s.answerer) ≡ s.answerer.last
  answered_front : IsFront s.answered s.responses
  answered_all : length s.answered + one_for s.asker.waiting ≡ s.asker.serial
  waits_for : (request : Request) → s.asker.waiting ≡ Some request → IsAsked s.asks (record { serial = s.asker.serial; body = body.Ask request })
  has_stored : (response : Response) → s.answerer.answer ≡ Some response → IsStored s.responses (record { serial = s.answerer.last; body = body.Answer response })

holds_opened : Holds opened
holds_opened = record {
  numbered = refl;
  executed_all = refl;
  executed_front = ([], refl);
  requests = tt;
  answers = tt;
  stored_all = refl;
  answered_front = ([], refl);
  answered_all = refl;
  waits_for = λ request e. absurd cc;
  has_stored = λ response e. absurd cc;
}

-- ---- asking

asked_later : (asks : List Request) (request : Request) (m : Message) → IsAsked asks m → IsAsked (asks ++ request ∷ []) m
asked_later asks request m h = record { before = h.before; request = h.request; is = h.is; there = get_front asks (request ∷ []) h.before h.request h.there }

asked_now : (asks : List Request) (request : Request) (serial : ℕ) → serial ≡ length asks → IsAsked (asks ++ request ∷ []) (record { serial = serial + 1; body = body.Ask request })
asked_now asks request serial is =
    let next : serial + 1 ≡ suc (length asks) = omega arith in
    record { before = length asks; request = request; is = ap (λ (n : ℕ). record { serial = n; body = body.Ask request }) next; there = get_last asks request }

keeps_asking : (s : Session) (request : Request) → s.asker.waiting ≡ None → Holds s → Holds (asking s request)
keeps_asking s request idle h =
    let none : length s.answered + one_for None ≡ s.asker.serial = ap (λ w. length s.answered + one_for w) (sym idle) ∙ h.answered_all in
    record {
      numbered = (let n : s.asker.serial ≡ length s.asks = h.numbered in omega (arith, length-append s.asks (request ∷ [])));
      executed_all = h.executed_all;
      executed_front = front_more s.executed s.asks (request ∷ []) h.executed_front;
      requests = each_push _ s.requests _ (each_weaker _ _ (asked_later s.asks request) s.requests h.requests) (asked_now s.asks request s.asker.serial h.numbered);
      answers = h.answers;
      stored_all = h.stored_all;
      answered_front = h.answered_front;
      answered_all = omega (arith, none);
      waits_for = λ other e. let same : request ≡ other = cc in subst (λ (r : Request). IsAsked (s.asks ++ request ∷ []) (record { serial = s.asker.serial + 1; body = body.Ask r })) same (asked_now s.asks request s.asker.serial h.numbered);
      has_stored = h.has_stored;
    }

is_none_true : (w : Option Request) → is_none w ≡ true → w ≡ None
is_none_true None e = refl
is_none_true (Some request) e = absurd cc

keeps_asks : (b : Bool) (s : Session) (request : Request) → is_none s.asker.waiting ≡ b → Holds s → Holds (cond b (asking s request) s)
keeps_asks true s request e h = keeps_asking s request (is_none_true s.asker.waiting e) h
keeps_asks false s request e h = h

-- ---- a request comes

-- where nothing is executed
keeps_still : (s : Session) → Holds s → Holds (record s { answerer = s.answerer; executed = s.executed ++ [] })
keeps_still s h = record {
  numbered = h.numbered;
  executed_all = h.executed_all ∙ ap length (sym (append-nil s.executed));
  executed_front = subst (λ xs. IsFront xs s.asks) (sym (append-nil s.executed)) h.executed_front;
  requests = h.requests;
  answers = h.answers;
  stored_all = h.stored_all;
  answered_front = h.answered_front;
  answered_all = h.answered_all;
  waits_for = h.waits_for;
  has_stored = h.has_stored;
}

owes : (n : ℕ) → is_owing (record { last = suc n; answer = None }) ≡ true
owes n = let e : nat_lt 0 (suc n) ≡ true = lt-ltb 0 (suc n) (omega arith) in rw e refl

-- where the next one is executed
keeps_executing : (s : Session) (k : ℕ) (request : Request) → slice_get s.asks k ≡ Some request → suc k ≡ s.answerer.last + 1 → is_owing s.answerer ≡ false
    → Holds s → Holds (record s { answerer = record { last = suc k; answer = None }; executed = s.executed ++ request ∷ [] })
keeps_executing s k request at next even h =
    let executed_all : s.answerer.last ≡ length s.executed = h.executed_all in
    let place : k ≡ length s.executed = omega arith in
    let stored_all : length s.responses + one_if false ≡ s.answerer.last = ap (λ b. length s.responses + one_if b) (sym even) ∙ h.stored_all in
    record {
      numbered = h.numbered;
      executed_all = omega (arith, length-append s.executed (request ∷ []));
      executed_front = front_next s.executed s.asks request h.executed_front (ap (slice_get s.asks) (sym place) ∙ at);
      requests = h.requests;
      answers = h.answers;
      stored_all = ap (λ b. length s.responses + one_if b) (owes k) ∙ omega (arith, stored_all);
      answered_front = h.answered_front;
      answered_all = h.answered_all;
      waits_for = h.waits_for;
      has_stored = λ response e. absurd cc;
    }

-- the session after what is due
abbrev with_due : Session → AnswererState × Due → Session
with_due s t = record s { answerer = t.0; executed = s.executed ++ executed_by t.1 }

keeps_third : (b : Bool) (s : Session) (k : ℕ) (request : Request) → (suc k == s.answerer.last + 1) ≡ b → slice_get s.asks k ≡ Some request → is_owing s.answerer ≡ false
    → Holds s → Holds (with_due s (cond b (record { last = suc k; answer = None }, Execute request) (s.answerer, Ignore)))
keeps_third true s k request e at even h = keeps_executing s k request at (eqb-true _ _ e) even h
keeps_third false s k request e at even h = keeps_still s h

keeps_second : (b : Bool) (s : Session) (k : ℕ) (request : Request) → slice_get s.asks k ≡ Some request → is_owing s.answerer ≡ false
    → Holds s → Holds (with_due s (cond b (s.answerer, Again) (cond (suc k == s.answerer.last + 1) (record { last = suc k; answer = None }, Execute request) (s.answerer, Ignore))))
keeps_second true s k request at even h = keeps_still s h
keeps_second false s k request at even h = keeps_third (suc k == s.answerer.last + 1) s k request refl at even h

keeps_arriving : (s : Session) (k : ℕ) (request : Request) → slice_get s.asks k ≡ Some request → is_owing s.answerer ≡ false → Holds s → Holds (arriving s (suc k) request)
keeps_arriving s k request at even h =
    let some : (suc k == 0) ≡ false = ne_eqb (suc k) 0 (λ z. omega arith) in
    let first : arrived s.answerer (suc k) request ≡ cond (suc k == s.answerer.last) (s.answerer, Again) (cond (suc k == s.answerer.last + 1) (record { last = suc k; answer = None }, Execute request) (s.answerer, Ignore)) = rw some refl in
    subst (λ t. Holds (with_due s t)) (sym first) (keeps_second (suc k == s.answerer.last) s k request at even h)

keeps_arrives : (b : Bool) (s : Session) (k : ℕ) (request : Request) → is_owing s.answerer ≡ b → slice_get s.asks k ≡ Some request → Holds s → Holds (cond b s (arriving s (suc k) request))
keeps_arrives true s k request e at h = h
keeps_arrives false s k request e at h = keeps_arriving s k request at e h

keeps_request : (s : Session) (m : Message) → IsAsked s.asks m → Holds s → Holds (arriving_body s m.serial m.body)
keeps_request s m is h =
    subst (λ (n : Message). Holds (arriving_body s n.serial n.body)) (sym is.is) (keeps_arrives (is_owing s.answerer) s is.before is.request refl is.there h)

keeps_requests : (s : Session) (found : Option Message) → ((m : Message) → found ≡ Some m → IsAsked s.asks m) → Holds s → Holds (arriving_message s found)
keeps_requests s None is h = h
keeps_requests s (Some m) is h = keeps_request s m (is m refl) h

-- ---- a response is stored

stored_later : (responses : List Response) (response : Response) (m : Message) → IsStored responses m → IsStored (responses ++ response ∷ []) m
stored_later responses response m h = record { before = h.before; response = h.response; is = h.is; there = get_front responses (response ∷ []) h.before h.response h.there }

stored_now : (responses : List Response) (response : Response) (last : ℕ) → length responses + 1 ≡ last → IsStored (responses ++ response ∷ []) (record { serial = last; body = body.Answer response })
stored_now responses response last is =
    let next : last ≡ suc (length responses) = omega arith in
    record { before = length responses; response = response; is = ap (λ (n : ℕ). record { serial = n; body = body.Answer response }) next; there = get_last responses response }

not_owing : (last : ℕ) (response : Response) → is_owing (record { last = last; answer = Some response }) ≡ false
not_owing last response = and_right (nat_lt 0 last) false refl

keeps_storing : (s : Session) (response : Response) → is_owing s.answerer ≡ true → Holds s → Holds (storing s response)
keeps_storing s response owing h =
    let owed : length s.responses + 1 ≡ s.answerer.last = ap (λ b. length s.responses + one_if b) (sym owing) ∙ h.stored_all in
    record {
      numbered = h.numbered;
      executed_all = h.executed_all;
      executed_front = h.executed_front;
      requests = h.requests;
      answers = each_weaker _ _ (stored_later s.responses response) s.answers h.answers;
      stored_all = ap (λ b. length (s.responses ++ response ∷ []) + one_if b) (not_owing s.answerer.last response) ∙ omega (arith, owed, length-append s.responses (response ∷ []));
      answered_front = front_more s.answered s.responses (response ∷ []) h.answered_front;
      answered_all = h.answered_all;
      waits_for = h.waits_for;
      has_stored = λ other e. let same : response ≡ other = cc in subst (λ (r : Response). IsStored (s.responses ++ response ∷ []) (record { serial = s.answerer.last; body = body.Answer r })) same (stored_now s.responses response s.answerer.last owed);
    }

keeps_stores : (b : Bool) (s : Session) (response : Response) → is_owing s.answerer ≡ b → Holds s → Holds (cond b (storing s response) s)
keeps_stores true s response e h = keeps_storing s response e h
keeps_stores false s response e h = h

-- ---- an answer comes

-- the session after a message is taken
abbrev with_taken : Session → AskerState × Taken → Session
with_taken s t = record s { asker = t.0; answered = s.answered ++ answered_by t.1 }

-- where it is not the answer that is waited for
keeps_waiting : (s : Session) → Holds s → Holds (record s { asker = s.asker; answered = s.answered ++ [] })
keeps_waiting s h = record {
  numbered = h.numbered;
  executed_all = h.executed_all;
  executed_front = h.executed_front;
  requests = h.requests;
  answers = h.answers;
  stored_all = h.stored_all;
  answered_front = subst (λ xs. IsFront xs s.responses) (sym (append-nil s.answered)) h.answered_front;
  answered_all = ap (λ xs. length xs + one_for s.asker.waiting) (append-nil s.answered) ∙ h.answered_all;
  waits_for = h.waits_for;
  has_stored = h.has_stored;
}

-- where it is
keeps_ending : (s : Session) (k : ℕ) (request : Request) (response : Response) → s.asker.waiting ≡ Some request → suc k ≡ s.asker.serial → slice_get s.responses k ≡ Some response
    → Holds s → Holds (record s { asker = record { serial = s.asker.serial; waiting = None; beats = 0 }; answered = s.answered ++ response ∷ [] })
keeps_ending s k request response waits is at h =
    let counted : length s.answered + 1 ≡ s.asker.serial = ap (λ w. length s.answered + one_for w) (sym waits) ∙ h.answered_all in
    let place : k ≡ length s.answered = omega arith in
    record {
      numbered = h.numbered;
      executed_all = h.executed_all;
      executed_front = h.executed_front;
      requests = h.requests;
      answers = h.answers;
      stored_all = h.stored_all;
      answered_front = front_next s.answered s.responses response h.answered_front (ap (slice_get s.responses) (sym place) ∙ at);
      answered_all = omega (arith, counted, length-append s.answered (response ∷ []));
      waits_for = λ other e. absurd cc;
      has_stored = h.has_stored;
    }

keeps_ours : (b : Bool) (s : Session) (k : ℕ) (request : Request) (response : Response) → (nat_lt s.asker.serial (suc k) || not (same_kind response.to (kind_of request))) ≡ b
    → s.asker.waiting ≡ Some request → s.asker.serial ≤ suc k → slice_get s.responses k ≡ Some response
    → Holds s → Holds (with_taken s (cond b (s.asker, taken.NotOurs) (record { serial = s.asker.serial; waiting = None; beats = 0 }, taken.Answer response)))
keeps_ours true s k request response e waits least at h = keeps_waiting s h
keeps_ours false s k request response e waits least at h =
    let most : suc k ≤ s.asker.serial = ltb-false _ _ (or_parts _ _ e).0 in
    keeps_ending s k request response waits (omega arith) at h

keeps_answer : (b : Bool) (s : Session) (k : ℕ) (request : Request) (response : Response) → nat_lt (suc k) s.asker.serial ≡ b → s.asker.waiting ≡ Some request → slice_get s.responses k ≡ Some response
    → Holds s → Holds (with_taken s (cond b (s.asker, taken.Stale) (cond (nat_lt s.asker.serial (suc k) || not (same_kind response.to (kind_of request))) (s.asker, taken.NotOurs) (record { serial = s.asker.serial; waiting = None; beats = 0 }, taken.Answer response))))
keeps_answer true s k request response e waits at h = keeps_waiting s h
keeps_answer false s k request response e waits at h = keeps_ours (nat_lt s.asker.serial (suc k) || not (same_kind response.to (kind_of request))) s k request response refl waits (ltb-false _ _ e) at h

keeps_taken : (s : Session) (waiting : Option Request) (k : ℕ) (response : Response) → s.asker.waiting ≡ waiting → slice_get s.responses k ≡ Some response
    → Holds s → Holds (with_taken s (took_body s.asker waiting (suc k) (body.Answer response)))
keeps_taken s None k response e at h = keeps_waiting s h
keeps_taken s (Some request) k response e at h = keeps_answer (nat_lt (suc k) s.asker.serial) s k request response refl e at h

keeps_taking : (s : Session) (m : Message) → IsStored s.responses m → Holds s → Holds (taking s m)
keeps_taking s m is h = subst (λ (n : Message). Holds (taking s n)) (sym is.is) (keeps_taken s s.asker.waiting is.before is.response refl is.there h)

keeps_answers : (s : Session) (found : Option Message) → ((m : Message) → found ≡ Some m → IsStored s.responses m) → Holds s → Holds (taking_message s found)
keeps_answers s None is h = h
keeps_answers s (Some m) is h = keeps_taking s m (is m refl) h

-- ---- messages that are sent

keeps_sent_requests : (s : Session) (sent : List Message) → AllByRecursion (IsAsked s.asks) sent → Holds s → Holds (record s { requests = s.requests ++ sent })
keeps_sent_requests s sent are h = record {
  numbered = h.numbered;
  executed_all = h.executed_all;
  executed_front = h.executed_front;
  requests = each_append _ s.requests sent h.requests are;
  answers = h.answers;
  stored_all = h.stored_all;
  answered_front = h.answered_front;
  answered_all = h.answered_all;
  waits_for = h.waits_for;
  has_stored = h.has_stored;
}

keeps_sent_answers : (s : Session) (sent : List Message) → AllByRecursion (IsStored s.responses) sent → Holds s → Holds (record s { answers = s.answers ++ sent })
keeps_sent_answers s sent are h = record {
  numbered = h.numbered;
  executed_all = h.executed_all;
  executed_front = h.executed_front;
  requests = h.requests;
  answers = each_append _ s.answers sent h.answers are;
  stored_all = h.stored_all;
  answered_front = h.answered_front;
  answered_all = h.answered_all;
  waits_for = h.waits_for;
  has_stored = h.has_stored;
}

asked_again : (asks : List Request) (serial : ℕ) (waiting : Option Request) → ((request : Request) → waiting ≡ Some request → IsAsked asks (record { serial = serial; body = body.Ask request }))
    → AllByRecursion (IsAsked asks) (option_to_list (option_map (λ (request : Request). record { serial = serial; body = body.Ask request }) waiting))
asked_again asks serial None is = tt
asked_again asks serial (Some request) is = (is request refl, tt)

sent_again : (responses : List Response) (last : ℕ) (answer : Option Response) → ((response : Response) → answer ≡ Some response → IsStored responses (record { serial = last; body = body.Answer response }))
    → AllByRecursion (IsStored responses) (option_to_list (option_map (λ (response : Response). record { serial = last; body = body.Answer response }) answer))
sent_again responses last None is = tt
sent_again responses last (Some response) is = (is response refl, tt)

-- ---- every list of events

keeps : (event : Event) (s : Session) → Holds s → Holds (stepped event s)
keeps (Asks request) s h = keeps_asks (is_none s.asker.waiting) s request refl h
keeps AsksAgain s h = keeps_sent_requests s (option_to_list (message_again s.asker)) (asked_again s.asks s.asker.serial s.asker.waiting h.waits_for) h
keeps (RequestComes k) s h = keeps_requests s (slice_get s.requests k) (λ m e. each_at (IsAsked s.asks) s.requests k m h.requests e) h
keeps (Stores response) s h = keeps_stores (is_owing s.answerer) s response refl h
keeps SendsAnswer s h = keeps_sent_answers s (option_to_list (stored_message s.answerer)) (sent_again s.responses s.answerer.last s.answerer.answer h.has_stored) h
keeps (AnswerComes k) s h = keeps_answers s (slice_get s.answers k) (λ m e. each_at (IsStored s.responses) s.answers k m h.answers e) h

holds_after : (events : List Event) (s : Session) → Holds s → Holds (run events s)
holds_after [] s h = h
holds_after (event ∷ more) s h = holds_after more (stepped event s) (keeps event s h)

pub each_once : EachRequestOnce
each_once events = let h = holds_after events opened holds_opened in (h.executed_front, h.answered_front)

pub are_answered : RequestsAreAnswered
are_answered request response is =
    let same : same_kind response.to (kind_of request) ≡ true = eq-eqb (number_of response.to) (number_of (kind_of request)) (ap number_of is) in
    (refl, rw same refl)

pub are_numbered : MessagesAreNumbered
are_numbered events =
    let h = holds_after events opened holds_opened in
    record { requests = all_from (IsAsked (run events opened).asks) (run events opened).requests h.requests; answers = all_from (IsStored (run events opened).responses) (run events opened).answers h.answers }

-- ---- spellings

request_spelled : (asks : List Request) → All IsSpelledRequest asks → (m : Message) → IsAsked asks m → HasSpelling m
request_spelled asks spelled m h =
    subst HasSpelling (sym h.is) (record { numbered = omega arith; spelled = all_get IsSpelledRequest asks h.before h.request spelled h.there })

answer_spelled : (responses : List Response) → All (λ response. IsSpelledBody (body.Answer response)) responses → (m : Message) → IsStored responses m → HasSpelling m
answer_spelled responses spelled m h =
    subst HasSpelling (sym h.is) (record { numbered = omega arith; spelled = all_get (λ response. IsSpelledBody (body.Answer response)) responses h.before h.response spelled h.there })

pub are_spelled : MessagesAreSpelled
are_spelled events =
    let s : Session = run events opened in
    let h = holds_after events opened holds_opened in
    record {
      requests = λ spelled. all_from HasSpelling s.requests (each_weaker (IsAsked s.asks) HasSpelling (request_spelled s.asks spelled) s.requests h.requests);
      answers = λ spelled. all_from HasSpelling s.answers (each_weaker (IsStored s.responses) HasSpelling (answer_spelled s.responses spelled) s.answers h.answers);
    }
