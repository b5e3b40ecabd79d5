-- Lines of a journal are read back as what they were written of.
use Rattle.std.proofs.Common.{◌≡◌, ℕ, ◌^◌, ◌<◌, true, List, [], ◌∷◌, ◌++◌, Some, refl, ap, sym, ◌∙◌, arith, append_assoc, append-nil}
use Rattle.std.specs.Prelude.{codes, decimal, flat_map, option_map, option_and_then}
use Rattle.std.specs.List.{join_with_byte}
use Rattle.std.proofs.lemmas.List.Concat.{flat_map-append}
use Rattle.exb_model.specs.declared.event.Cause.{Cause}
use Rattle.exb_model.specs.declared.event.Cause.TheVariants as cause
use Rattle.exb_model.specs.declared.event.Event.{Event}
use Rattle.exb_model.specs.declared.event.Event.TheVariants as event
use Rattle.exb_model.specs.History.{History, ◌then◌}
use Rattle.exb_model.specs.declared.arrival.Arrival.{Arrival}
use Rattle.exb_model.specs.Texts.{port_name, cause_text, line_of, journal_text}
use Rattle.exb_trace_spec.specs.Traversals.{Each}
use Rattle.exb_trace_spec.specs.JournalLines.{Entry, Relayed, Ignored, Ticked, Committed, Refused, Rose, Stayed, Settled, entry_of, cause_words, entry_words, entry_text, arrival_by, refused_in, entry_by, entry_in, relay_of, event_by, event_in, history_in, IsCounted, IsWritable, IsFound, IsRecorded}
use Rattle.exb_trace_spec.specs.TextFields.{lines_in, words_in, all_read}
use Rattle.exb_trace_spec.specs.RoundTrips.{EntriesReadBack, JournalsReadBack, JournalsDiffer}
use Rattle.exb_trace_spec.specs.JournalLines.{journal_of}
use Rattle.exb_trace_spec.proofs.TextFields.{lacks, lacks_both, parts_joined, lines_back, all_both, decimal_lacks, number_back, port_back, port_lacks}

-- ---- words
-- Each word of a line lacks spaces and newlines.
cause_lacks : (c : ℕ) (x : Cause) → c < 46 → lacks c (codes "channels") ≡ true → lacks c (codes "groups") ≡ true → IsCounted x → Each (λ (w : List ℕ). lacks c w ≡ true) (cause_words x)
cause_lacks c (cause.Channels needed limit) low a b k = (a, (decimal_lacks c needed (omega (arith, low)) k.0, (decimal_lacks c limit (omega (arith, low)) k.1, tt)))
cause_lacks c (cause.Groups needed limit) low a b k = (b, (decimal_lacks c needed (omega (arith, low)) k.0, (decimal_lacks c limit (omega (arith, low)) k.1, tt)))

pub words_lack_space : (e : Entry) → IsWritable e → Each (λ (w : List ℕ). lacks 32 w ≡ true) (entry_words e)
words_lack_space (Relayed p n) k = (refl, (port_lacks 32 p (omega arith) k.0, (decimal_lacks 32 n (omega arith) k.1, tt)))
words_lack_space (Ignored p n) k = (refl, (port_lacks 32 p (omega arith) k.0, (decimal_lacks 32 n (omega arith) k.1, tt)))
words_lack_space (Ticked n) k = (refl, (decimal_lacks 32 n (omega arith) k, tt))
words_lack_space (Committed n) k = (refl, (decimal_lacks 32 n (omega arith) k, tt))
words_lack_space (Refused n x) k = (refl, (decimal_lacks 32 n (omega arith) k.0, cause_lacks 32 x (omega arith) refl refl k.1))
words_lack_space (Rose p) k = (refl, (port_lacks 32 p (omega arith) k, tt))
words_lack_space (Stayed p x) k = (refl, (port_lacks 32 p (omega arith) k.0, cause_lacks 32 x (omega arith) refl refl k.1))
words_lack_space Settled k = (refl, tt)

words_lack_newline : (e : Entry) → IsWritable e → Each (λ (w : List ℕ). lacks 10 w ≡ true) (entry_words e)
words_lack_newline (Relayed p n) k = (refl, (port_lacks 10 p (omega arith) k.0, (decimal_lacks 10 n (omega arith) k.1, tt)))
words_lack_newline (Ignored p n) k = (refl, (port_lacks 10 p (omega arith) k.0, (decimal_lacks 10 n (omega arith) k.1, tt)))
words_lack_newline (Ticked n) k = (refl, (decimal_lacks 10 n (omega arith) k, tt))
words_lack_newline (Committed n) k = (refl, (decimal_lacks 10 n (omega arith) k, tt))
words_lack_newline (Refused n x) k = (refl, (decimal_lacks 10 n (omega arith) k.0, cause_lacks 10 x (omega arith) refl refl k.1))
words_lack_newline (Rose p) k = (refl, (port_lacks 10 p (omega arith) k, tt))
words_lack_newline (Stayed p x) k = (refl, (port_lacks 10 p (omega arith) k.0, cause_lacks 10 x (omega arith) refl refl k.1))
words_lack_newline Settled k = (refl, tt)

-- a line of words that lack newlines lacks them
pub joined_lacks : (ws : List (List ℕ)) → Each (λ (w : List ℕ). lacks 10 w ≡ true) ws → lacks 10 (join_with_byte 32 ws) ≡ true
joined_lacks [] all = refl
joined_lacks (w ∷ []) all = all.0
joined_lacks (w ∷ v ∷ ws) all = lacks_both 10 w (32 ∷ join_with_byte 32 (v ∷ ws)) all.0 (joined_lacks (v ∷ ws) all.1)

pub entry_lacks : (e : Entry) → IsWritable e → lacks 10 (entry_text e) ≡ true
unfolding entry_text
entry_lacks e k = joined_lacks (entry_words e) (words_lack_newline e k)

-- the words of a line that has any are those that it was written of
pub words_back : (w : List ℕ) (ws : List (List ℕ)) → Each (λ (x : List ℕ). lacks 32 x ≡ true) (w ∷ ws) → words_in (join_with_byte 32 (w ∷ ws)) ≡ w ∷ ws
unfolding words_in
words_back w ws all = parts_joined 32 w ws all.0 all.1

entry_cut : (e : Entry) → IsWritable e → words_in (entry_text e) ≡ entry_words e
unfolding entry_text
entry_cut e k = by_words (entry_words e) (words_lack_space e k) (some_words e)
  where
    by_words : (ws : List (List ℕ)) → Each (λ (x : List ℕ). lacks 32 x ≡ true) ws → (ws ≡ [] → ⊥) → words_in (join_with_byte 32 ws) ≡ ws
    by_words [] all some = absurd (some refl)
    by_words (w ∷ ws) all some = words_back w ws all

    none : (w : List ℕ) (ws : List (List ℕ)) → w ∷ ws ≡ [] → ⊥
    none w ws z = cc

    some_words : (e : Entry) → entry_words e ≡ [] → ⊥
    some_words (Relayed p n) z = none _ _ z
    some_words (Ignored p n) z = none _ _ z
    some_words (Ticked n) z = none _ _ z
    some_words (Committed n) z = none _ _ z
    some_words (Refused n x) z = none _ _ z
    some_words (Rose p) z = none _ _ z
    some_words (Stayed p x) z = none _ _ z
    some_words Settled z = none _ _ z

-- ---- entries
arrival_back : (kind : List ℕ) (p n : ℕ) → p < 4160 → n < 2 ^ 64 → entry_by (kind ∷ port_name p ∷ decimal n ∷ []) ≡ arrival_by kind p n
arrival_back kind p n low small = rw (port_back p low, number_back n small) refl

cause_back : (kind what : List ℕ) (x : Cause) → IsCounted x → entry_by (kind ∷ what ∷ cause_words x) ≡ refused_in kind what x
cause_back kind what (cause.Channels needed limit) k = rw (number_back needed k.0, number_back limit k.1) refl
cause_back kind what (cause.Groups needed limit) k = rw (number_back needed k.0, number_back limit k.1) refl

entry_back : (e : Entry) → IsWritable e → entry_by (entry_words e) ≡ Some e
entry_back (Relayed p n) k = arrival_back (codes "relay") p n k.0 k.1
entry_back (Ignored p n) k = arrival_back (codes "ignore") p n k.0 k.1
entry_back (Ticked n) k = ap (option_map Ticked) (number_back n k)
entry_back (Committed n) k = ap (option_map Committed) (number_back n k)
entry_back (Refused n x) k = cause_back (codes "refuse") (decimal n) x k.1 ∙ ap (option_map (λ m. Refused m x)) (number_back n k.0)
entry_back (Rose p) k = ap (option_map Rose) (port_back p k)
entry_back (Stayed p x) k = cause_back (codes "noup") (port_name p) x k.1 ∙ ap (option_map (λ q. Stayed q x)) (port_back p k.0)
entry_back Settled k = refl

pub entries_read_back : EntriesReadBack
unfolding entry_in
entries_read_back e k = ap entry_by (entry_cut e k) ∙ entry_back e k

-- ---- the line of an event is that of its entry
cause_is : (x : Cause) → cause_text x ≡ 32 ∷ join_with_byte 32 (cause_words x)
cause_is (cause.Channels needed limit) = ap (λ (zs : List ℕ). codes " channels " ++ zs) (append_assoc (decimal needed) (codes " ") (decimal limit))
cause_is (cause.Groups needed limit) = ap (λ (zs : List ℕ). codes " groups " ++ zs) (append_assoc (decimal needed) (codes " ") (decimal limit))

refused_is : (kind what : List ℕ) (x : Cause) → join_with_byte 32 (kind ∷ what ∷ cause_words x) ≡ kind ++ (32 ∷ (what ++ (32 ∷ join_with_byte 32 (cause_words x))))
refused_is kind what (cause.Channels needed limit) = refl
refused_is kind what (cause.Groups needed limit) = refl

pub line_is : (e : Event) → line_of e ≡ entry_text (entry_of e)
unfolding line_of entry_text
line_is (event.Relay p n moment f) = ap (λ (zs : List ℕ). codes "relay " ++ zs) (append_assoc (port_name p) (codes " ") (decimal n))
line_is (event.Ignored p n) = ap (λ (zs : List ℕ). codes "ignore " ++ zs) (append_assoc (port_name p) (codes " ") (decimal n))
line_is (event.Tick n) = refl
line_is (event.Commit n) = refl
line_is (event.Refuse n x) = ap (λ (zs : List ℕ). codes "refuse " ++ (decimal n ++ zs)) (cause_is x) ∙ sym (refused_is (codes "refuse") (decimal n) x)
line_is (event.Up p) = refl
line_is (event.NoUp p x) = ap (λ (zs : List ℕ). codes "noup " ++ (port_name p ++ zs)) (cause_is x) ∙ sym (refused_is (codes "noup") (port_name p) x)
line_is event.Settled = refl

-- ---- a whole journal
event_back : (arrivals : ℕ → List Arrival) (e : Event) → IsFound arrivals e → event_by arrivals (entry_of e) ≡ Some e
event_back arrivals (event.Relay p n moment f) k = ap (option_map relay_of) k
event_back arrivals (event.Ignored p n) k = refl
event_back arrivals (event.Tick n) k = refl
event_back arrivals (event.Commit n) k = refl
event_back arrivals (event.Refuse n x) k = refl
event_back arrivals (event.Up p) k = refl
event_back arrivals (event.NoUp p x) k = refl
event_back arrivals event.Settled k = refl

line_back : (arrivals : ℕ → List Arrival) (e : Event) → IsRecorded arrivals e → event_in arrivals (line_of e) ≡ Some e
line_back arrivals e k = ap (event_in arrivals) (line_is e) ∙ (ap (option_and_then (event_by arrivals)) (entries_read_back (entry_of e) k.writable) ∙ event_back arrivals e k.found)

pub text_is : (h : History) → journal_text h ≡ flat_map (λ (l : List ℕ). l ++ 10 ∷ []) (journal_of h)
unfolding journal_text
text_is [] = refl
text_is (e ∷ h) =
    append_assoc (journal_text h) (line_of e) (10 ∷ [])
    ∙ (ap (λ (zs : List ℕ). zs ++ (line_of e ++ 10 ∷ [])) (text_is h)
    ∙ (ap (λ (zs : List ℕ). flat_map (λ (l : List ℕ). l ++ 10 ∷ []) (journal_of h) ++ zs) (sym (append-nil (line_of e ++ 10 ∷ []))) ∙ sym (flat_map-append (λ (l : List ℕ). l ++ 10 ∷ []) (journal_of h) (line_of e ∷ []))))

pub each_last : (P : List ℕ → Type 0) (xs : List (List ℕ)) (x : List ℕ) → Each P xs → P x → Each P (xs ++ x ∷ [])
each_last P [] x all one = (one, tt)
each_last P (y ∷ xs) x all one = (all.0, each_last P xs x all.1 one)

lines_lack : (arrivals : ℕ → List Arrival) (h : History) → Each (IsRecorded arrivals) h → Each (λ (x : List ℕ). lacks 10 x ≡ true) (journal_of h)
lines_lack arrivals [] all = tt
lines_lack arrivals (e ∷ h) all = each_last (λ (x : List ℕ). lacks 10 x ≡ true) (journal_of h) (line_of e) (lines_lack arrivals h all.1) (ap (lacks 10) (line_is e) ∙ entry_lacks (entry_of e) all.0.writable)

then_last : (h : History) (es : List Event) (e : Event) → (h then (es ++ e ∷ [])) ≡ e ∷ (h then es)
then_last h [] e = refl
then_last h (x ∷ es) e = then_last (x ∷ h) es e

-- the events are read oldest first
record AreRead (arrivals : ℕ → List Arrival) (h : History) : Type 0 where
  events : List Event
  read : all_read (event_in arrivals) (journal_of h) ≡ Some events
  is : ([] then events) ≡ h

are_read : (arrivals : ℕ → List Arrival) (h : History) → Each (IsRecorded arrivals) h → AreRead arrivals h
are_read arrivals [] all = record { events = []; read = refl; is = refl }
are_read arrivals (e ∷ h) all =
    let k : AreRead arrivals h = are_read arrivals h all.1 in
    let one : all_read (event_in arrivals) (line_of e ∷ []) ≡ Some (e ∷ []) = ap (option_and_then (λ (x : Event). Some (x ∷ []))) (line_back arrivals e all.0) in
    record {
      events = k.events ++ e ∷ [];
      read = all_both (event_in arrivals) (journal_of h) (line_of e ∷ []) k.events (e ∷ []) k.read one;
      is = then_last [] k.events e ∙ ap (λ (z : History). e ∷ z) k.is;
    }

pub journals_read_back : JournalsReadBack
unfolding history_in
journals_read_back arrivals h all =
    let k : AreRead arrivals h = are_read arrivals h all in
    let cut : lines_in (journal_text h) ≡ Some (journal_of h) = ap lines_in (text_is h) ∙ lines_back (journal_of h) (lines_lack arrivals h all) in
    ap (option_and_then (λ (lines : List (List ℕ)). option_map (λ (events : List Event). [] then events) (all_read (event_in arrivals) lines))) cut
    ∙ (ap (option_map (λ (events : List Event). [] then events)) k.read ∙ ap (λ (z : History). Some z) k.is)

pub journals_differ : JournalsDiffer
journals_differ arrivals g h all_g all_h same = some_same (sym (journals_read_back arrivals g all_g) ∙ (ap (history_in arrivals) same ∙ journals_read_back arrivals h all_h))
  where
    some_same : {x y : History} → Some x ≡ Some y → x ≡ y
    some_same z = cc
