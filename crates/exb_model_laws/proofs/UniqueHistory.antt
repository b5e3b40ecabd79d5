-- A journal and an input tell one history.
use Rattle.std.proofs.Common.{◌≡◌, inr, ℕ, List, [], ◌∷◌, ◌++◌, reverse, refl, sym, ap, subst, ◌∙◌, append_assoc, arith}
use Rattle.std.specs.Prelude.{Some, codes, decimal, flat_map, slice_index}
use Rattle.std.specs.List.{AllByRecursion}
use Rattle.std.proofs.lemmas.List.{append-nil, append_cancel_left}
use Rattle.std.proofs.lemmas.List.Elements.{recursion_from_All}
use Rattle.std.proofs.lemmas.Grind.{reverse_onto}
use Rattle.exb_model.specs.declared.event.Event.{Event}
use Rattle.exb_model.specs.declared.event.Event.TheVariants as event
use Rattle.exb_model.specs.declared.event.Cause.{Cause}
use Rattle.exb_model.specs.Lists.{numbered}
use Rattle.exb_model.specs.History.{History, ◌then◌}
use Rattle.exb_model.specs.declared.arrival.Arrival.{Arrival}
use Rattle.exb_model.specs.Input.{Input, arrivals_at}
use Rattle.exb_model.specs.Texts.{port_name, cause_text, line_of, journal_text}
use Rattle.exb_model_laws.specs.UniqueHistory.{IsWord, IsPort, IsRecordOf, IsTold, JournalTellsHistory}
use Rattle.exb_model_laws.proofs.EagerSegments.{then-append}
use Rattle.exb_model_laws.proofs.JournalLines.{tails, space, last_number, port_tells, last_port, IsKnown, number_and_cause, port_and_cause}

-- ---- one line
-- ports are ports, and other numbers have 64 bits
abbrev pub Fits : Event → Type 0
Fits (event.Relay p n t f) = IsPort p × IsWord n
Fits (event.Ignored p n) = IsPort p × IsWord n
Fits (event.Tick seconds) = IsWord seconds
Fits (event.Commit n) = IsWord n
Fits (event.Refuse n x) = IsWord n
Fits (event.Up p) = IsPort p
Fits (event.NoUp p x) = IsPort p
Fits event.Settled = Unit {0}

-- what the line leaves out is the same where what it says is
abbrev pub AreAlike : Event → Event → Type 0
AreAlike (event.Relay p n t f) (event.Relay q m u g) = p ≡ q → n ≡ m → (t ≡ u) × (f ≡ g)
AreAlike (event.Refuse n x) (event.Refuse m y) = n ≡ m → IsKnown x y
AreAlike (event.NoUp p x) (event.NoUp q y) = p ≡ q → IsKnown x y
AreAlike e g = Unit {0}

four_parts : (a b c d e : List ℕ) → (((a ++ b) ++ c) ++ d) ++ e ≡ a ++ (b ++ (c ++ (d ++ e)))
four_parts a b c d e = simp append_assoc

three_parts : (a b c d : List ℕ) → ((a ++ b) ++ c) ++ d ≡ a ++ (b ++ (c ++ d))
three_parts a b c d = simp append_assoc

-- the text of a line, with what follows it
relay_text : (p n t : ℕ) (f r : List ℕ) → line_of (event.Relay p n t f) ++ (10 ∷ r) ≡ codes "relay " ++ (port_name p ++ (32 ∷ (decimal n ++ (10 ∷ r))))
unfolding line_of
relay_text p n t f r = four_parts (codes "relay ") (port_name p) (codes " ") (decimal n) (10 ∷ r)

ignore_text : (p n : ℕ) (r : List ℕ) → line_of (event.Ignored p n) ++ (10 ∷ r) ≡ codes "ignore " ++ (port_name p ++ (32 ∷ (decimal n ++ (10 ∷ r))))
unfolding line_of
ignore_text p n r = four_parts (codes "ignore ") (port_name p) (codes " ") (decimal n) (10 ∷ r)

refuse_text : (n : ℕ) (x : Cause) (r : List ℕ) → line_of (event.Refuse n x) ++ (10 ∷ r) ≡ codes "refuse " ++ (decimal n ++ (cause_text x ++ (10 ∷ r)))
unfolding line_of
refuse_text n x r = three_parts (codes "refuse ") (decimal n) (cause_text x) (10 ∷ r)

noup_text : (p : ℕ) (x : Cause) (r : List ℕ) → line_of (event.NoUp p x) ++ (10 ∷ r) ≡ codes "noup " ++ (port_name p ++ (cause_text x ++ (10 ∷ r)))
unfolding line_of
noup_text p x r = three_parts (codes "noup ") (port_name p) (cause_text x) (10 ∷ r)

-- a port and a number after it
port_and_number : (p q n m : ℕ) (r s : List ℕ) → IsPort p × IsWord n → IsPort q × IsWord m → port_name p ++ (32 ∷ (decimal n ++ (10 ∷ r))) ≡ port_name q ++ (32 ∷ (decimal m ++ (10 ∷ s))) →
    (p ≡ q) × (n ≡ m) × (r ≡ s)
port_and_number p q n m r s h k e =
    let first = port_tells p q 32 32 (decimal n ++ (10 ∷ r)) (decimal m ++ (10 ∷ s)) h.0 k.0 space space e in
    let second = last_number n m r s h.1 k.1 (tails first.1) in
    (first.0, second.0, second.1)

-- the third byte tells of which sort the event is
pub line_tells : (e g : Event) (r s : List ℕ) → Fits e → Fits g → AreAlike e g → line_of e ++ (10 ∷ r) ≡ line_of g ++ (10 ∷ s) → (e ≡ g) × (r ≡ s)
unfolding line_of
line_tells (event.Relay p n t f) (event.Relay q m u g) r s h k alike e =
    let z = port_and_number p q n m r s h k (append_cancel_left (codes "relay ") _ _ (sym (relay_text p n t f r) ∙ e ∙ relay_text q m u g s)) in
    let y = alike z.0 z.1 in
    ((let a : p ≡ q = z.0 in let b : n ≡ m = z.1 in let c : t ≡ u = y.0 in let d : f ≡ g = y.1 in cc), z.2)
line_tells (event.Ignored p n) (event.Ignored q m) r s h k alike e =
    let z = port_and_number p q n m r s h k (append_cancel_left (codes "ignore ") _ _ (sym (ignore_text p n r) ∙ e ∙ ignore_text q m s)) in
    ((let a : p ≡ q = z.0 in let b : n ≡ m = z.1 in cc), z.2)
line_tells (event.Tick n) (event.Tick m) r s h k alike e =
    let z = last_number n m r s h k (append_cancel_left (codes "tick ") (decimal n ++ (10 ∷ r)) (decimal m ++ (10 ∷ s)) e) in
    (ap (λ (x : ℕ). event.Tick x) z.0, z.1)
line_tells (event.Commit n) (event.Commit m) r s h k alike e =
    let z = last_number n m r s h k (append_cancel_left (codes "commit ") (decimal n ++ (10 ∷ r)) (decimal m ++ (10 ∷ s)) e) in
    (ap (λ (x : ℕ). event.Commit x) z.0, z.1)
line_tells (event.Refuse n x) (event.Refuse m y) r s h k alike e =
    let z = number_and_cause x y r s n m h k alike (append_cancel_left (codes "refuse ") _ _ (sym (refuse_text n x r) ∙ e ∙ refuse_text m y s)) in
    ((let a : n ≡ m = z.0 in let b : x ≡ y = z.1 in cc), z.2)
line_tells (event.Up p) (event.Up q) r s h k alike e =
    let z = last_port p q r s h k (append_cancel_left (codes "up ") (port_name p ++ (10 ∷ r)) (port_name q ++ (10 ∷ s)) e) in
    (ap (λ (x : ℕ). event.Up x) z.0, z.1)
line_tells (event.NoUp p x) (event.NoUp q y) r s h k alike e =
    let z = port_and_cause x y r s p q h k alike (append_cancel_left (codes "noup ") _ _ (sym (noup_text p x r) ∙ e ∙ noup_text q y s)) in
    ((let a : p ≡ q = z.0 in let b : x ≡ y = z.1 in cc), z.2)
line_tells event.Settled event.Settled r s h k alike e = (refl, tails (append_cancel_left (codes "settled") (10 ∷ r) (10 ∷ s) e))
line_tells e g r s h k alike is = absurd (omega (arith, ap (λ (xs : List ℕ). slice_index xs 2) is))

-- ---- all lines
abbrev ended_line : Event → List ℕ
ended_line e = line_of e ++ 10 ∷ []

abbrev pub lines : List Event → List ℕ
lines es = flat_map ended_line es

pub journal_then : (h : History) (es : List Event) → journal_text (h then es) ≡ journal_text h ++ lines es
unfolding journal_text
journal_then h [] = sym (append-nil (journal_text h))
journal_then h (e ∷ es) = journal_then (e ∷ h) es ∙ ap (λ (xs : List ℕ). xs ++ lines es) (append_assoc (journal_text h) (line_of e) (10 ∷ [])) ∙ append_assoc (journal_text h) (ended_line e) (lines es)

-- a fact of each event and the history before it, of events after a history
module _ (P : History → Event → Type 0) where
  abbrev pub EachAfter : History → List Event → Type 0
  EachAfter h [] = Unit {0}
  EachAfter h (e ∷ es) = P h e × EachAfter (e ∷ h) es

  -- where the facts of two events after one history are enough for their lines to tell them
  module _ (fits : (h : History) (e : Event) → P h e → Fits e) (alike : (h : History) (e g : Event) → P h e → P h g → AreAlike e g) where
    pub lines_tell : (h : History) (es gs : List Event) → EachAfter h es → EachAfter h gs → lines es ≡ lines gs → es ≡ gs
    lines_tell h [] [] all more is = refl
    lines_tell h [] (g ∷ gs) all more is = absurd (nothing (line_of g) (lines gs) is)
      where
        nothing : (xs ys : List ℕ) → [] ≡ (xs ++ 10 ∷ []) ++ ys → ⊥
        nothing [] ys e = cc
        nothing (x ∷ xs) ys e = cc
    lines_tell h (e ∷ es) [] all more is = absurd (nothing (line_of e) (lines es) is)
      where
        nothing : (xs ys : List ℕ) → (xs ++ 10 ∷ []) ++ ys ≡ [] → ⊥
        nothing [] ys e = cc
        nothing (x ∷ xs) ys e = cc
    lines_tell h (e ∷ es) (g ∷ gs) all more is =
        let z = line_tells e g (lines es) (lines gs) (fits h e all.0) (fits h g more.0) (alike h e g all.0 more.0)
        (sym (append_assoc (line_of e) (10 ∷ []) (lines es)) ∙ is ∙ append_assoc (line_of g) (10 ∷ []) (lines gs)) in
        let rest : es ≡ gs = lines_tell (e ∷ h) es gs all.1 (subst (λ (x : Event). EachAfter (x ∷ h) gs) (sym z.0) more.1) z.1 in
        (let a : e ≡ g = z.0 in cc)

-- ---- histories of an input
told_fits : (i : Input) (e : Event) → IsTold i e → Fits e
told_fits i (event.Relay p n t f) k = (k.0, k.1)
told_fits i (event.Ignored p n) k = k
told_fits i (event.Tick seconds) k = k
told_fits i (event.Commit n) k = k
told_fits i (event.Refuse n x) k = k.0
told_fits i (event.Up p) k = k
told_fits i (event.NoUp p x) k = k.0
told_fits i event.Settled k = tt

-- one record has one moment and one frame
pub one_record : (i : Input) (p q n m t u : ℕ) (f g : List ℕ) → IsRecordOf i (record { port = p; index = n; moment = t; bytes = f }) → IsRecordOf i (record { port = q; index = m; moment = u; bytes = g }) → p ≡ q → n ≡ m → (t ≡ u) × (f ≡ g)
one_record i p q n m t u f g h k same number =
    let a : Arrival = record { port = p; index = n; moment = t; bytes = f } in
    let b : Arrival = record { port = q; index = m; moment = u; bytes = g } in
    let there : numbered (arrivals_at i p) n ≡ numbered (arrivals_at i q) m = ap (λ (x : ℕ). numbered (arrivals_at i x) n) same ∙ ap (numbered (arrivals_at i q)) number in
    let is : a ≡ b = one_of a b (sym h ∙ there ∙ k) in
    (ap (λ (x : Arrival). x.moment) is, ap (λ (x : Arrival). x.bytes) is)
  where
    one_of : (a b : Arrival) → Some a ≡ Some b → a ≡ b
    one_of a b e = cc

told_alike : (i : Input) (e g : Event) → IsTold i e → IsTold i g → AreAlike e g
told_alike i (event.Relay p n t f) (event.Relay q m u g) h k = one_record i p q n m t u f g h.2 k.2
told_alike i (event.Refuse n x) (event.Refuse m y) h k = λ same. inr (h.1, k.1)
told_alike i (event.NoUp p x) (event.NoUp q y) h k = λ same. inr (h.1, k.1)
told_alike i e g h k = tt

-- a history, from its oldest event on
from_oldest : (h : History) → h ≡ ([] then reverse h)
from_oldest [] = refl
from_oldest (e ∷ h) = ap (λ (g : History). e ∷ g) (from_oldest h) ∙ sym (ap (λ (es : List Event). [] then es) (reverse_onto h e []) ∙ then-append [] (reverse h) (e ∷ []))

each_told : (i : Input) (h : History) (es : List Event) → AllByRecursion (IsTold i) es → EachAfter (λ g. IsTold i) h es
each_told i h [] all = tt
each_told i h (e ∷ es) all = (all.0, each_told i (e ∷ h) es all.1)

each_reversed : (P : Event → Type 0) (h : History) → AllByRecursion P h → AllByRecursion P (reverse h)
each_reversed P [] all = tt
each_reversed P (e ∷ h) all = subst (AllByRecursion P) (sym (reverse_onto h e [])) (with_last (reverse h) (each_reversed P h all.1))
  where
    with_last : (es : List Event) → AllByRecursion P es → AllByRecursion P (es ++ e ∷ [])
    with_last [] more = (all.0, tt)
    with_last (x ∷ es) more = (more.0, with_last es more.1)

pub journal_tells_history : JournalTellsHistory
unfolding journal_text
journal_tells_history i h g all more is =
    let text : (k : History) → journal_text k ≡ lines (reverse k) = λ k. ap journal_text (from_oldest k) ∙ journal_then [] (reverse k) in
    let same : reverse h ≡ reverse g =
    lines_tell (λ k. IsTold i) (λ k. told_fits i) (λ k. told_alike i) [] (reverse h) (reverse g)
    (each_told i [] (reverse h) (each_reversed (IsTold i) h (recursion_from_All (IsTold i) h all)))
    (each_told i [] (reverse g) (each_reversed (IsTold i) g (recursion_from_All (IsTold i) g more)))
    (sym (text h) ∙ is ∙ text g) in
    from_oldest h ∙ ap (λ (es : List Event). [] then es) same ∙ sym (from_oldest g)
