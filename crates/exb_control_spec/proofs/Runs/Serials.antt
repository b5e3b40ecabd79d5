-- Who waits after each step, and the serials of requests.
use Rattle.std.proofs.Common.{append-nil, length-append, ◌⊎◌, ◌≡◌, ◌≢◌, ℕ, ◌+◌, ◌==◌, ◌||◌, ◌++◌, not, nat_lt, Bool, true, false, List, [], ◌∷◌, Option, Some, None, filter, refl, sym, ◌∙◌, ap, subst, inl, inr, arith, eq-eqb}
use Rattle.std.proofs.lemmas.List.Elements.{filter-append}
use Rattle.std.proofs.lemmas.Bool.{cases_Bool, cases_eq, ne_eqb}
use Rattle.exb_csp.specs.declared.message.Request.{Request}
use Rattle.exb_csp.specs.declared.message.Response.{Response}
use Rattle.exb_csp.specs.declared.message.Body.{Body}
use Rattle.exb_csp.specs.declared.message.Body.TheVariants as body
use Rattle.exb_csp.specs.declared.message.Message.{Message}
use Rattle.exb_csp.specs.RequestKinds.{kind_of, same_kind}
use Rattle.exb_csp.specs.declared.session.asker.Taken.{Taken}
use Rattle.exb_csp.specs.declared.session.asker.Taken.TheVariants as taken
use Rattle.exb_csp.specs.Sessions.AskingEnd.{AskerState, asked, beaten, took, took_body}
use Rattle.exb_csp.specs.declared.ask_at.AskAt.{AskAt}
use Rattle.exb_control_spec.specs.declared.plan.change.Change.{Change}
use Rattle.exb_control_spec.specs.declared.extender_message.Asked.{Asked}
use Rattle.exb_control_spec.specs.declared.job.Job.{Job}
use Rattle.exb_control_spec.specs.declared.job.Job.TheVariants as job
use Rattle.exb_control_spec.specs.declared.job.Phase.{Phase}
use Rattle.exb_control_spec.specs.declared.job.Phase.TheVariants.{Preparing, Cleaning}
use Rattle.exb_control_spec.specs.Decisions.{Outcome, Refused, Ready, Decide, bridge_after}
use Rattle.exb_control_spec.specs.Machine.{Work, State, Moved, still, followed_by, works, cleans, commits, prepares, starts, waits, after_start, goes_on, wakes_by, ends, answered_by, answered_in, answered_where, answered, with_asker, beats_in}
use Rattle.exb_control_spec.specs.Runs.Systems.{System, Step, Order, Hear, Execute, Answer, Stray, Beat, takes_answer, answer_message, stepped, run}
use Rattle.exb_control_spec.specs.Runs.MachineInvariant.{waited_for, OneWaits}
use Rattle.exb_control_spec.specs.Runs.InitialSystem.{first_system}
use Rattle.exb_control_spec.specs.Runs.WaitingAskers.{asked_in, asked_over, asked_of, AreNumbered, StepsWait, OneWaitsAlways, StepsNumber, SerialsCount}
use Rattle.exb_control_spec.proofs.Runs.AskerAnswers.{unchanged, same_asker, beat_serial}
use Rattle.exb_control_spec.proofs.Runs.WaitingAskers.{NoneWaits, wakes_waits, answered_waits, none_waits, beats_waits}

-- ---- who waits
-- what an asker took: the answer that it waited for, or nothing changed
pub record Took (a : AskerState) (m : Message) : Type 0 where
  pub serial : (took a m).0.serial ≡ a.serial
  pub free : (response : Response) → (took a m).1 ≡ taken.Answer response → ((took a m).0.waiting ≡ None) × ((request : Request) × (a.waiting ≡ Some request))
  pub same : ((response : Response) → (took a m).1 ≢ taken.Answer response) → (took a m).0 ≡ a

pub took_is : (a : AskerState) (m : Message) → Took a m
took_is a m = record { serial = by_serial a.waiting m.body; free = λ response e. by_body a.waiting m.body response e refl; same = unchanged a a.waiting m.serial m.body }
  where
    by_serial : (o : Option Request) (content : Body) → (took_body a o m.serial content).0.serial ≡ a.serial
    by_serial None content = refl
    by_serial (Some request) (body.Ask other) = refl
    by_serial (Some request) (body.Answer response) =
        elim (cases_Bool (nat_lt m.serial a.serial)) [
          | inl e ↦ rw e refl
          | inr e ↦ elim (cases_Bool (nat_lt a.serial m.serial || not (same_kind response.to (kind_of request)))) [ inl g ↦ rw (e, g) refl | inr g ↦ rw (e, g) refl ]
        ]

    by_body : (o : Option Request) (content : Body) (response : Response) → (took_body a o m.serial content).1 ≡ taken.Answer response → a.waiting ≡ o →
        ((took_body a o m.serial content).0.waiting ≡ None) × ((request : Request) × (a.waiting ≡ Some request))
    by_body None content response e w = absurd (cc)
    by_body (Some request) (body.Ask other) response e w = absurd (cc)
    by_body (Some request) (body.Answer given) response e w =
        elim (cases_Bool (nat_lt m.serial a.serial)) [
          | inl f ↦ absurd (let k = rw f at e in cc)
          | inr f ↦ elim (cases_Bool (nat_lt a.serial m.serial || not (same_kind given.to (kind_of request)))) [
            | inl g ↦ absurd (let k = rw (f, g) at e in cc)
            | inr g ↦ rw (f, g) (refl, (request, w))
          ]
        ]

pub taken_cases : (u : Taken) → ((response : Response) × (u ≡ taken.Answer response)) ⊎ ((response : Response) → u ≢ taken.Answer response)
taken_cases (taken.Answer response) = inl (response, refl)
taken_cases taken.Stale = inr (λ response e. absurd (cc))
taken_cases taken.NotOurs = inr (λ response e. absurd (cc))

-- where nothing is taken, nothing changes
pub not_taken : (decide : Decide) (u : Taken) (s : State) → ((response : Response) → u ≢ taken.Answer response) → answered_where decide u s ≡ still s
not_taken decide (taken.Answer response) s f = absurd (f response refl)
not_taken decide taken.Stale s f = refl
not_taken decide taken.NotOurs s f = refl

-- where one who waits is set free, nobody waits
pub others_free : (decide : Decide) (o : Option Work) (s : State) (n : ℕ) (a : AskerState) (request : Request) → s.work ≡ o → OneWaits s → a.waiting ≡ None → (s.askers n).waiting ≡ Some request →
    NoneWaits (with_asker n a s)
others_free decide None s n a request e h free w =
    absurd (let k : (s.askers n).waiting ≡ waited_for s.work n = h n in let z : Some request ≡ None = sym w ∙ (rw e at k) in cc)
others_free decide (Some v) s n a request e h free w =
    let k : (s.askers n).waiting ≡ waited_for s.work n = h n in
    elim (cases_eq n v.first.extender) [
      | inl f ↦ subst (λ (m : ℕ). NoneWaits (with_asker m a s)) (sym f) (none_waits decide v s e h a free)
      | inr f ↦ absurd (let z : Some request ≡ None = sym w ∙ (rw (e, ne_eqb n v.first.extender f) at k) in cc)
    ]

-- a message that comes, whatever it is
message_waits : (decide : Decide) (n : ℕ) (m : Message) (s : State) → OneWaits s → OneWaits (answered decide n m s).state
message_waits decide n m s h =
    let k = took_is (s.askers n) m in
    elim (taken_cases (took (s.askers n) m).1) [
      | inl e ↦
          let f = k.free e.0 e.1 in
          subst (λ (u : Taken). OneWaits (answered_where decide u (with_asker n (took (s.askers n) m).0 s)).state) (sym e.1)
          (answered_waits decide s.work (with_asker n (took (s.askers n) m).0 s) refl (others_free decide s.work s n (took (s.askers n) m).0 (f.1.0) refl h f.0 f.1.1))
      | inr f ↦
          let same : with_asker n (took (s.askers n) m).0 s ≡ s = ap (λ (a : AskerState). with_asker n a s) (k.same f) ∙ same_asker n s in
          subst (λ (x : Moved). OneWaits x.state) (sym (not_taken decide (took (s.askers n) m).1 (with_asker n (took (s.askers n) m).0 s) f ∙ ap still same)) h
    ]

takes_waits : (decide : Decide) (o : Option Work) (answer : Option Response) (s : State) → OneWaits s → OneWaits (takes_answer decide o answer s).state
takes_waits decide None answer s h n = h n
takes_waits decide (Some w) None s h n = h n
takes_waits decide (Some w) (Some response) s h n = message_waits decide w.first.extender (answer_message (s.askers w.first.extender).serial response) s h n

pub steps_wait : StepsWait
steps_wait decide y (Order c) h = wakes_waits decide y.state.work (record y.state { queue = y.state.queue ++ job.Ordered (y.state.given + 1) c ∷ []; given = y.state.given + 1 }) refl h
steps_wait decide y (Hear n) h = wakes_waits decide y.state.work (record y.state { heard = λ m. m == n || y.state.heard m }) refl h
steps_wait decide y Execute h = h
steps_wait decide y Answer h = takes_waits decide y.state.work y.answer y.state h
steps_wait decide y (Stray n m) h = message_waits decide n m y.state h
steps_wait decide y Beat h = beats_waits y.state.work y.state h

runs_wait : (decide : Decide) (steps : List Step) (y : System) → OneWaits y.state → OneWaits (run decide steps y).state
runs_wait decide [] y h n = h n
runs_wait decide (step ∷ steps) y h n = runs_wait decide steps (stepped decide y step) (steps_wait decide y step h) n

pub one_waits_always : OneWaitsAlways
one_waits_always t l b decide steps = runs_wait decide steps (first_system t l b) (λ n. refl)

-- ---- serials
abbrev pub one_if : Bool → ℕ
one_if true = 1
one_if false = 0

-- the one request that goes out
abbrev asked_at : (ℕ → AskerState) → AskAt → Asked
asked_at askers a = record { extender = a.extender; message = (asked (askers a.extender) a.request).1 }

-- By what is at work afterwards: nothing was asked, or the one request that is outstanding.
abbrev pub AsksBy : Option Work → (ℕ → AskerState) → List Asked → (ℕ → AskerState) → Type 0
AsksBy None old asks new = (asks ≡ []) × ((n : ℕ) → (new n).serial ≡ (old n).serial)
AsksBy (Some w) old asks new = (asks ≡ asked_at old w.first ∷ []) × ((n : ℕ) → (new n).serial ≡ (old n).serial + one_if (n == w.first.extender))

abbrev pub AsksIn : (ℕ → AskerState) → Moved → Type 0
AsksIn old m = AsksBy m.state.work old m.asks m.state.askers

pub works_ask : (j : Job) (x : Change) (q : Phase) (a : AskAt) (more : List AskAt) (s : State) → AsksIn s.askers (works j x q a more s)
works_ask j x q a more s = (refl, by_number)
  where
    by_number : (n : ℕ) → ((works j x q a more s).state.askers n).serial ≡ (s.askers n).serial + one_if (n == a.extender)
    by_number n = elim (cases_eq n a.extender) [ inl e ↦ rw (eq-eqb n a.extender e, e) refl | inr e ↦ rw (ne_eqb n a.extender e) (omega arith) ]

pub cleans_ask : (j : Job) (x : Change) (left : List AskAt) (s : State) → AsksIn s.askers (cleans j x left s)
cleans_ask j x [] s = (refl, λ n. refl)
cleans_ask j x (a ∷ more) s = works_ask j x Cleaning a more s

prepares_ask : (j : Job) (x : Change) (left : List AskAt) (s : State) → AsksIn s.askers (prepares j x left s)
prepares_ask j x [] s = cleans_ask j x x.cleanup (record s { bridge = bridge_after j s.bridge })
prepares_ask j x (a ∷ more) s = works_ask j x Preparing a more s

starts_ask : (j : Job) (d : Outcome) (s : State) → s.work ≡ None → AsksIn s.askers (starts j d s)
starts_ask j (Refused cause) s n = rw n (refl, λ n. refl)
starts_ask j (Ready x claimed) s n = prepares_ask j x x.prepare (record s { held = claimed })

-- after a step that asked nothing
asks_onward : (o : Option Work) (old mid new : ℕ → AskerState) (asks : List Asked) → ((n : ℕ) → (mid n).serial ≡ (old n).serial) → AsksBy o mid asks new → AsksBy o old asks new
asks_onward None old mid new asks same h = (h.0, λ n. h.1 n ∙ same n)
asks_onward (Some w) old mid new asks same h =
    let e : w.first.extender ≡ w.first.extender = refl in (
      h.0 ∙ ap (λ (k : ℕ). record { extender = w.first.extender; message = record { serial = k + 1; body = body.Ask w.first.request } } ∷ []) (same w.first.extender),
      λ n. let k = h.1 n in let l = same n in omega (arith, k, l),
    )

module _ (decide : Decide) where
  after_start_asks : (old : ℕ → AskerState) (m : Moved) (js : List Job) (onward : Moved) (o : Option Work) → m.state.work ≡ o → AsksIn old m → (m.state.work ≡ None → AsksIn m.state.askers onward) →
      AsksIn old (after_start js o m onward)
  after_start_asks old m js onward None e h f =
      let k : AsksBy None old m.asks m.state.askers = rw e at h in
      subst (λ (asks : List Asked). AsksBy onward.state.work old (asks ++ onward.asks) onward.state.askers) (sym k.0) (asks_onward onward.state.work old m.state.askers onward.state.askers onward.asks k.1 (f e))
  after_start_asks old m js onward (Some w) e h f = h

  pub goes_on_asks : (js : List Job) (s : State) → s.work ≡ None → AsksIn s.askers (goes_on decide js s)
  unfolding goes_on
  goes_on_asks [] s n = rw n (refl, λ n. refl)
  goes_on_asks (j ∷ js) s n =
      elim (cases_Bool (waits s j)) [
        | inl w ↦ rw (w, n) (refl, λ n. refl)
        | inr w ↦
            rw w (
            let m : Moved = starts j (decide s.bridge s.held j) s in
            after_start_asks s.askers m js (goes_on decide js m.state) m.state.work refl (starts_ask j (decide s.bridge s.held j) s n) (λ e. goes_on_asks js m.state e))
      ]

  -- ---- what a call asks
  -- the requests add up, and have the new serials
  record Numbered (old : ℕ → AskerState) (m : Moved) : Type 0 where
    serials : (n : ℕ) → (m.state.askers n).serial ≡ (old n).serial + asked_of n m.asks
    numbered : AreNumbered m.state m.asks

  none_numbered : (old : ℕ → AskerState) (m : Moved) → m.asks ≡ [] → ((n : ℕ) → (m.state.askers n).serial ≡ (old n).serial) → Numbered old m
  none_numbered old m e h = record { serials = λ n. let k = h n in rw e (omega (arith, k)); numbered = rw e tt }

  numbered_by : (o : Option Work) (old : ℕ → AskerState) (m : Moved) → AsksBy o old m.asks m.state.askers → Numbered old m
  numbered_by None old m h = none_numbered old m h.0 h.1
  numbered_by (Some w) old m h = record { serials = λ n. rw (h.0) (h.1 n ∙ count n); numbered = rw (h.0) (first, tt) }
    where
      first : (old w.first.extender).serial + 1 ≡ (m.state.askers w.first.extender).serial
      first = sym (h.1 w.first.extender ∙ (rw (eq-eqb w.first.extender w.first.extender refl) refl))

      count : (n : ℕ) → (old n).serial + one_if (n == w.first.extender) ≡ (old n).serial + asked_of n (asked_at old w.first ∷ [])
      count n = elim (cases_eq n w.first.extender) [
        | inl e ↦ rw (e, eq-eqb w.first.extender w.first.extender refl) refl
        | inr e ↦ rw (ne_eqb n w.first.extender e, ne_eqb w.first.extender n (λ f. e (sym f))) refl
      ]

  wakes_numbered : (o : Option Work) (s : State) → s.work ≡ o → Numbered s.askers (wakes_by decide o s)
  wakes_numbered None s e = numbered_by (goes_on decide s.queue s).state.work s.askers (goes_on decide s.queue s) (goes_on_asks s.queue s e)
  wakes_numbered (Some w) s e = none_numbered s.askers (still s) refl (λ n. refl)

  followed_asks : (o : Option Work) (old : ℕ → AskerState) (m : Moved) → m.state.work ≡ o → AsksIn old m → AsksIn old (followed_by m (wakes_by decide o m.state))
  followed_asks None old m e h = after_start_asks old m m.state.queue (goes_on decide m.state.queue m.state) None e h (λ f. goes_on_asks m.state.queue m.state f)
  followed_asks (Some w) old m e h = subst (λ (asks : List Asked). AsksBy m.state.work old asks m.state.askers) (sym (append-nil m.asks)) h

  answered_numbered : (o : Option Work) (s : State) → s.work ≡ o → Numbered s.askers (answered_in decide o s)
  answered_numbered None s e = none_numbered s.askers (still s) refl (λ n. refl)
  answered_numbered (Some w) s e = by_phase w.phase w.rest refl
    where
      by_phase : (q : Phase) (left : List AskAt) → w.phase ≡ q → Numbered s.askers (answered_by decide w left s)
      by_phase q (a ∷ more) f = numbered_by (works w.job w.change w.phase a more s).state.work s.askers (works w.job w.change w.phase a more s) (works_ask w.job w.change w.phase a more s)
      by_phase Preparing [] f =
          let m : Moved = commits w.job w.change (record s { work = None }) in
          let k : AsksIn s.askers m = cleans_ask w.job w.change w.change.cleanup (record s { work = None; bridge = bridge_after w.job s.bridge }) in
          let after : Moved = followed_by m (wakes_by decide m.state.work m.state) in
          rw f (numbered_by after.state.work s.askers after (followed_asks m.state.work s.askers m refl k))
      by_phase Cleaning [] f =
          let c : State = ends w.change s in
          rw f (numbered_by (goes_on decide c.queue c).state.work s.askers (goes_on decide c.queue c) (goes_on_asks c.queue c refl))

  -- where the serials were the same before
  numbered_from : (old mid : ℕ → AskerState) (m : Moved) → ((n : ℕ) → (mid n).serial ≡ (old n).serial) → Numbered mid m → Numbered old m
  numbered_from old mid m same h = record { serials = λ n. rw (sym (same n)) (h.serials n); numbered = h.numbered }

  pub with_serial : (n : ℕ) (a : AskerState) (s : State) → a.serial ≡ (s.askers n).serial → (m : ℕ) → ((with_asker n a s).askers m).serial ≡ (s.askers m).serial
  with_serial n a s e m = elim (cases_eq m n) [ inl f ↦ rw (f, eq-eqb n n refl) e | inr f ↦ rw (ne_eqb m n f) refl ]

  message_numbered : (n : ℕ) (m : Message) (s : State) → Numbered s.askers (answered decide n m s)
  message_numbered n m s = by_taken (took (s.askers n) m).1 (took (s.askers n) m).0 ((took_is (s.askers n) m).serial)
    where
      by_taken : (u : Taken) (a : AskerState) → a.serial ≡ (s.askers n).serial → Numbered s.askers (answered_where decide u (with_asker n a s))
      by_taken (taken.Answer response) a e =
          numbered_from s.askers (with_asker n a s).askers (answered_in decide s.work (with_asker n a s)) (with_serial n a s e) (answered_numbered s.work (with_asker n a s) refl)
      by_taken taken.Stale a e = none_numbered s.askers (still (with_asker n a s)) refl (with_serial n a s e)
      by_taken taken.NotOurs a e = none_numbered s.askers (still (with_asker n a s)) refl (with_serial n a s e)

  takes_numbered : (o : Option Work) (answer : Option Response) (s : State) → Numbered s.askers (takes_answer decide o answer s)
  takes_numbered None answer s = none_numbered s.askers (still s) refl (λ n. refl)
  takes_numbered (Some w) None s = none_numbered s.askers (still s) refl (λ n. refl)
  takes_numbered (Some w) (Some response) s = message_numbered w.first.extender (answer_message (s.askers w.first.extender).serial response) s

  beats_serials : (o : Option Work) (s : State) (n : ℕ) → ((beats_in o s).state.askers n).serial ≡ (s.askers n).serial
  beats_serials None s n = refl
  beats_serials (Some w) s n = with_serial w.first.extender (beaten (s.askers w.first.extender)).0 s (beat_serial (s.askers w.first.extender)) n

pub steps_number : StepsNumber
steps_number decide y (Order c) =
    let s : State = record y.state { queue = y.state.queue ++ job.Ordered (y.state.given + 1) c ∷ []; given = y.state.given + 1 } in
    let k = wakes_numbered decide y.state.work s refl in
    record { serials = k.serials; numbered = k.numbered }
steps_number decide y (Hear n) =
    let s : State = record y.state { heard = λ m. m == n || y.state.heard m } in
    let k = wakes_numbered decide y.state.work s refl in
    record { serials = k.serials; numbered = k.numbered }
steps_number decide y Execute = let k = none_numbered decide y.state.askers (still y.state) refl (λ n. refl) in record { serials = k.serials; numbered = k.numbered }
steps_number decide y Answer = let k = takes_numbered decide y.state.work y.answer y.state in record { serials = k.serials; numbered = k.numbered }
steps_number decide y (Stray n m) = let k = message_numbered decide n m y.state in record { serials = k.serials; numbered = k.numbered }
steps_number decide y Beat = record { serials = λ n. let k = beats_serials decide y.state.work y.state n in omega (arith, k); numbered = tt }

asked_more : (n : ℕ) (xs ys : List Asked) → asked_of n (xs ++ ys) ≡ asked_of n xs + asked_of n ys
asked_more n xs ys = rw (filter-append (λ (a : Asked). a.extender == n) xs ys) (length-append (filter (λ a. a.extender == n) xs) _)

runs_number : (decide : Decide) (steps : List Step) (y : System) (n : ℕ) → ((run decide steps y).state.askers n).serial ≡ (y.state.askers n).serial + asked_of n (asked_over decide y steps)
runs_number decide [] y n = omega arith
runs_number decide (step ∷ steps) y n =
    let more = runs_number decide steps (stepped decide y step) n in
    let one = (steps_number decide y step).serials n in
    let both = asked_more n (asked_in decide y step) (asked_over decide (stepped decide y step) steps) in
    omega (arith, more, one, both)

pub serials_count : SerialsCount
serials_count t l b decide steps n = let k = runs_number decide steps (first_system t l b) n in omega (arith, k)
