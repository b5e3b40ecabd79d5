-- Whether extenders leave something to be done, asked of their set.
use Rattle.std.proofs.Common.{◌≡◌, ℕ, Bool, true, false, refl, sym, ◌∙◌, arith}
use Rattle.std.specs.Prelude.{if◌then◌else◌}
use Rattle.exb_model.specs.Tree.{Shape, is_extender}
use Rattle.exb_model.specs.DeviceSets.{number_in}
use Rattle.exb_bridge.specs.TreeIndexes.{AreExtenders}

abbrev pub mark : Bool → ℕ
mark b = if b then 1 else 0

pub in_all : (t : Shape) (all n : ℕ) → AreExtenders t all → is_extender t n ≡ true → number_in all n ≡ 1
in_all t all n are is = rw is at (are n)

pub of_all : (t : Shape) (all n : ℕ) → AreExtenders t all → number_in all n ≡ 1 → is_extender t n ≡ true
of_all t all n are here = by_test (is_extender t n) (sym (are n) ∙ here)
  where
    by_test : (b : Bool) → mark b ≡ 1 → b ≡ true
    by_test true e = refl
    by_test false e = let f : 0 ≡ 1 = e in absurd (omega (arith, f))

-- what is so of all that are in the set is so of all extenders
pub each_extender : (t : Shape) (all : ℕ) (P : ℕ → Type 0) → AreExtenders t all → ((n : ℕ) → number_in all n ≡ 1 → P n) → (n : ℕ) → is_extender t n ≡ true → P n
each_extender t all P are every n is = every n (in_all t all n are is)

pub each_of_all : (t : Shape) (all : ℕ) (P : ℕ → Type 0) → AreExtenders t all → ((n : ℕ) → is_extender t n ≡ true → P n) → (n : ℕ) → number_in all n ≡ 1 → P n
each_of_all t all P are every n here = every n (of_all t all n are here)

pub none_in : (t : Shape) (all n : ℕ) → AreExtenders t all → number_in all n ≡ 0 → is_extender t n ≡ false
none_in t all n are none = by_test (is_extender t n) (sym (are n) ∙ none)
  where
    by_test : (b : Bool) → mark b ≡ 0 → b ≡ false
    by_test true e = let f : 1 ≡ 0 = e in absurd (omega (arith, f))
    by_test false e = refl
