-- Machines that go through lines, one for each number, and what all numbers of extenders or of external ports pass.
use Rattle.std.proofs.Common.{◌≡◌, ℕ, ◌%◌, ◌<◌, ◌||◌, ◌==◌, nat_lt, not, Bool, true, false, List, [], ◌∷◌, refl, arith, inl, inr}
use Rattle.std.specs.Prelude.{slice_index}
use Rattle.std.specs.Bool.{Decides}
use Rattle.std.proofs.lemmas.Bool.{cases_lt, and_parts, ltb-true, false≢true}
use Rattle.std.proofs.lemmas.Bool.Decides.{Decides-eqb, Decides-like, Decides-below_and}
use Rattle.std.proofs.lemmas.List.{get_or_past}
use Rattle.exb_model.specs.Traces.{TraceLine}
use Rattle.exb_model.specs.Tree.{Shape, device, is_port, is_cascade, is_extender, is_external}
use Rattle.exb_trace_spec.specs.TraceChecker.{through, for_each, all_below, all_extenders, all_external}
use Rattle.exb_trace_spec.specs.CheckerLaws.{IsSized}

pub at_each : {S : Type 0} (step : ℕ → S → TraceLine → S) (s : ℕ → S) (lines : List TraceLine) (n : ℕ) → through (for_each step) s lines n ≡ through (step n) (s n) lines
at_each step s [] n = refl
at_each step s (l ∷ ls) n = at_each step (for_each step s l) ls n

pub below_and : (p : ℕ → Bool) (P : ℕ → Type 0) → ((k : ℕ) → Decides (p k) (P k)) → (n : ℕ) → Decides (all_below p n) ((k : ℕ) → k < n → P k)
unfolding all_below
below_and p P each n = Decides-below_and p P (all_below p) each refl (λ k. refl) n

pub implied : (a b : Bool) (Q : Type 0) → Decides b Q → Decides (not a || b) (a ≡ true → Q)
implied true b Q d = (λ h e. d.0 h, λ k. d.1 (k refl))
implied false b Q d = (λ h e. absurd (false≢true e), λ k. refl)

pub if_equal : (m n : ℕ) (b : Bool) (Q : Type 0) → Decides b Q → Decides (not (m == n) || b) (m ≡ n → Q)
if_equal m n b Q d = Decides-like (not (m == n) || b) (λ k e. k ((Decides-eqb m n).1 e)) (λ k e. k ((Decides-eqb m n).0 e)) (implied (m == n) b Q d)

device_below : (t : Shape) (n : ℕ) → IsSized t → nat_lt 0 (slice_index t.ports n) ≡ true → n < 65
device_below t n sized e =
    elim (cases_lt n 65) [
      | inl l ↦ l
      | inr g ↦ (let none : slice_index t.ports n ≡ 0 = get_or_past t.ports n 0 (omega (arith, sized)) in let some : 0 < slice_index t.ports n = ltb-true 0 (slice_index t.ports n) e in absurd (omega arith))
    ]

pub extender_below : (t : Shape) (n : ℕ) → IsSized t → is_extender t n ≡ true → n < 65
extender_below t n sized e = device_below t n sized (and_parts (nat_lt 0 n) (nat_lt 0 (slice_index t.ports n)) e).1

external_below : (t : Shape) (p : ℕ) → IsSized t → is_external t p ≡ true → p < 4160
external_below t p sized e =
    let port : is_port t p ≡ true = (and_parts (is_port t p) (not (is_cascade t p)) e).0 in
    let some : p % 64 < slice_index t.ports (device p) = ltb-true (p % 64) (slice_index t.ports (device p)) port in
    elim (cases_lt (device p) 65) [
      | inl l ↦ omega arith
      | inr g ↦ (let none : slice_index t.ports (device p) ≡ 0 = get_or_past t.ports (device p) 0 (omega (arith, sized)) in absurd (omega arith))
    ]

pub extenders_decided : (t : Shape) (test : ℕ → Bool) (Q : ℕ → Type 0) → IsSized t → ((n : ℕ) → Decides (test n) (Q n)) → Decides (all_extenders t test) ((n : ℕ) → is_extender t n ≡ true → Q n)
extenders_decided t test Q sized each =
    Decides-like (all_extenders t test) (λ k n there. k n (extender_below t n sized there) there) (λ k n low there. k n there)
    (below_and (λ n. not (is_extender t n) || test n) (λ n. is_extender t n ≡ true → Q n) (λ n. implied (is_extender t n) (test n) (Q n) (each n)) 65)

pub external_decided : (t : Shape) (test : ℕ → Bool) (Q : ℕ → Type 0) → IsSized t → ((p : ℕ) → Decides (test p) (Q p)) → Decides (all_external t test) ((p : ℕ) → is_external t p ≡ true → Q p)
external_decided t test Q sized each =
    Decides-like (all_external t test) (λ k p out. k p (external_below t p sized out) out) (λ k p low out. k p out)
    (below_and (λ p. not (is_external t p) || test p) (λ p. is_external t p ≡ true → Q p) (λ p. implied (is_external t p) (test p) (Q p) (each p)) 4160)
