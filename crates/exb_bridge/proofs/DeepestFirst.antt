-- The extenders from the deepest: how many there are, and how the list is made.
use Rattle.std.proofs.Common.{false, ◌≡◌, ℕ, zero, suc, ◌+◌, ◌-◌, ◌<◌, ◌≤◌, ◌++◌, List, [], All, true, length, slice_index, refl, ap, sym, ◌∙◌, arith, inl, inr, add-one, length-append}
use Rattle.std.proofs.lemmas.Bool.{and_from, and_parts, cases_Bool, false_from_ne_true, lt-ltb, ltb-true}
use Rattle.std.proofs.lemmas.List.{append-nil, append_assoc}
use Rattle.std.proofs.lemmas.List.Elements.{All-nil, All-weaker, All-push, All-append}
use Rattle.std.specs.Prelude.{nat_lt, ◌==◌}
use Rattle.exb_model.specs.Tree.{Shape, IsTree, depth, hangs_at_depth, is_extender, level, levels, by_depth}
use Rattle.exb_model.proofs.TreeTrunks.{extender-low}
use Rattle.exb_model.proofs.TreeLoops.{level_none, level_in, level_out, levels_none, levels_more, by_depth_is}
use Rattle.exb_control_spec.proofs.Plans.PlanLengths.{few_extenders}
use Rattle.exb_world_spec.specs.Settling.{deepest_first}
use Rattle.exb_model.specs.DeviceSets.{IsNumber}

-- ---- how it is made
-- the lowest i of 64 depths
pub deeper : Shape → ℕ → List ℕ
deeper t zero = []
deeper t (suc i) = deeper t i ++ level t (64 - i) 64

pub deeper_none : (t : Shape) → deeper t 0 ≡ []
unfolding deeper
deeper_none t = refl

pub deeper_more : (t : Shape) (i : ℕ) → deeper t (i + 1) ≡ deeper t i ++ level t (64 - i) 64
unfolding deeper
deeper_more t i = rw add-one refl

pub none_first : (t : Shape) → deepest_first t 0 ≡ []
unfolding deepest_first
none_first t = refl

pub more_first : (t : Shape) (d : ℕ) → deepest_first t (d + 1) ≡ level t (d + 1) 64 ++ deepest_first t d
unfolding deepest_first
more_first t d = rw add-one refl

with_rest : (t : Shape) (i : ℕ) → i ≤ 64 → deeper t i ++ deepest_first t (64 - i) ≡ deepest_first t 64
with_rest t zero low = rw (deeper_none t) refl
with_rest t (suc i) low =
    let e : 64 - i ≡ (64 - suc i) + 1 = omega arith in
    rw (← add-one i, deeper_more t i) (
    append_assoc (deeper t i) (level t (64 - i) 64) (deepest_first t (64 - (i + 1)))
    ∙ (ap (λ xs. deeper t i ++ xs) (rw add-one (rw (e, more_first t (64 - suc i)) refl)) ∙ with_rest t i (omega arith)))

pub deepest_is : (t : Shape) → deeper t 64 ≡ deepest_first t 64
deepest_is t = sym (append-nil (deeper t 64)) ∙ (rw (none_first t) at (with_rest t 64 (omega arith)))

-- ---- whose they are
extends_level : (t : Shape) (d k : ℕ) → All (λ n. is_extender t n ≡ true) (level t d k)
extends_level t d zero = rw (level_none t d) (All-nil (λ n. is_extender t n ≡ true))
extends_level t d (suc k) =
    rw (← add-one k) (
    elim (cases_Bool (hangs_at_depth t (k + 1) d)) [
      | inl e ↦
          let here : is_extender t (k + 1) ≡ true = and_from _ _ (lt-ltb 0 (k + 1) (omega arith)) (and_parts (nat_lt 0 (slice_index t.ports (k + 1))) (depth t (k + 1) == d) e).0 in
          rw (level_in t d k e) (All-push (λ n. is_extender t n ≡ true) (level t d k) (k + 1) (extends_level t d k) here)
      | inr e ↦ rw (level_out t d k e) (extends_level t d k)
    ])

extends_levels : (t : Shape) (d : ℕ) → All (λ n. is_extender t n ≡ true) (levels t d)
extends_levels t zero = rw (levels_none t) (All-nil (λ n. is_extender t n ≡ true))
extends_levels t (suc d) =
    rw (← add-one d, levels_more t d) (All-append (λ n. is_extender t n ≡ true) (levels t d) (level t (d + 1) 64) (extends_levels t d) (extends_level t (d + 1) 64))

extends_first : (t : Shape) (d : ℕ) → All (λ n. is_extender t n ≡ true) (deepest_first t d)
extends_first t zero = rw (none_first t) (All-nil (λ n. is_extender t n ≡ true))
extends_first t (suc d) =
    rw (← add-one d, more_first t d) (All-append (λ n. is_extender t n ≡ true) (level t (d + 1) 64) (deepest_first t d) (extends_level t (d + 1) 64) (extends_first t d))

pub depth_extends : (t : Shape) → All (λ n. is_extender t n ≡ true) (by_depth t)
depth_extends t = rw (by_depth_is t) (extends_levels t 64)

pub deepest_extends : (t : Shape) → All (λ n. is_extender t n ≡ true) (deepest_first t 64)
deepest_extends t = extends_first t 64

pub all_low : (t : Shape) (ns : List ℕ) → IsTree t → All (λ n. is_extender t n ≡ true) ns → All (λ n. n < 65) ns
all_low t ns tree all = All-weaker (λ n. is_extender t n ≡ true) (λ n. n < 65) (λ n h. extender-low t tree n h) ns all

-- each has a number
pub extender_number : (t : Shape) → IsTree t → (n : ℕ) → is_extender t n ≡ true → IsNumber n
extender_number t tree n is = (ltb-true 0 n (and_parts (nat_lt 0 n) (nat_lt 0 (slice_index t.ports n)) is).0, extender-low t tree n is)

pub all_numbered : (t : Shape) (ns : List ℕ) → IsTree t → All (λ n. is_extender t n ≡ true) ns → All (λ n. IsNumber n) ns
all_numbered t ns tree all = All-weaker (λ n. is_extender t n ≡ true) (λ n. IsNumber n) (λ n h. extender_number t tree n h) ns all

-- none has a number past 64
pub extender_past : (t : Shape) → IsTree t → (n : ℕ) → 65 ≤ n → is_extender t n ≡ false
extender_past t tree n past = false_from_ne_true (is_extender t n) (λ e. let low = extender-low t tree n e in absurd (omega (arith, past, low)))

-- ---- how many there are
same_length : (t : Shape) (d : ℕ) → length (deepest_first t d) ≡ length (levels t d)
same_length t zero = rw (none_first t, levels_none t) refl
same_length t (suc d) =
    let rest = same_length t d in
    rw (← add-one d, more_first t d, levels_more t d, length-append (level t (d + 1) 64) (deepest_first t d), length-append (levels t d) (level t (d + 1) 64)) (omega (arith, rest))

pub few_by_depth : (t : Shape) → length (by_depth t) ≤ 64
few_by_depth t = few_extenders t

pub few_first : (t : Shape) → length (deepest_first t 64) ≤ 64
few_first t = let same = same_length t 64 in let few = few_extenders t in let is = ap length (by_depth_is t) in omega (arith, same, few, is)
