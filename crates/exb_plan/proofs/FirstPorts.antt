-- The first port or bridge port of which something holds.
use Rattle.std.proofs.Common.{◌≡◌, ℕ, ◌+◌, ◌<◌, ◌≤◌, ◌&&◌, Bool, true, false, cond, List, Some, None, refl, sym, ap, arith}
use Rattle.std.specs.Prelude.{nat_lt}
use Rattle.exb_model.specs.declared.event.Cause.{Cause}
use Rattle.exb_model.specs.Ports.{below}
use Rattle.exb_model.specs.Tree.{Shape, is_cascade}
use Rattle.exb_model.specs.Setup.{Limits}
use Rattle.exb_model.specs.Configuration.{Bridge}
use Rattle.exb_control_spec.specs.Plans.Sets.{PortsAt}
use Rattle.exb_control_spec.specs.Plans.Differences.{rises, goes_up}
use Rattle.exb_control_spec.specs.Plans.FreshSets.{needed_at, short_at, is_short, short_of, short_by}
use Rattle.exb_control_spec.proofs.Plans.Ranges.{find_first, find_none}

pub goes_up_found : (t : Shape) (old new : Bridge) (n : ℕ) → n < 4160 → ((k : ℕ) → k < n → rises t old new k ≡ false) → rises t old new n ≡ true → Some n ≡ goes_up t old new
unfolding goes_up below
goes_up_found t old new n low before is = sym (find_first (rises t old new) 0 4160 n (omega arith) (omega (arith, low)) is (λ c l h. before c h))

pub goes_up_none : (t : Shape) (old new : Bridge) (n : ℕ) → 4160 ≤ n → ((k : ℕ) → k < n → rises t old new k ≡ false) → None ≡ goes_up t old new
unfolding goes_up below
goes_up_none t old new n all none = sym (find_none (rises t old new) 0 4160 (λ c l h. none c (omega (arith, h, all))))

module _ (t : Shape) (l : Limits) (had fresh : List PortsAt) where
  -- a bridge port is short where it has a cause
  pub short_cause : (k : ℕ) (x : Cause) → is_cascade t k ≡ true → Some x ≡ short_at l had fresh (k + 1) → is_short t l had fresh k ≡ true
  short_cause k x c e = by_test (nat_lt l.groups (needed_at had fresh (k + 1))) _ e
    where
      by_test : (b : Bool) (y : Cause) → Some x ≡ cond b (Some y) None → (is_cascade t k && b) ≡ true
      by_test true y e = rw c refl
      by_test false y e = cc

  pub no_cause : (k : ℕ) → None ≡ short_at l had fresh (k + 1) → is_short t l had fresh k ≡ false
  no_cause k e = by_test (is_cascade t k) (nat_lt l.groups (needed_at had fresh (k + 1))) _ e
    where
      by_test : (a b : Bool) (y : Cause) → None ≡ cond b (Some y) None → (a && b) ≡ false
      by_test a true y e = cc
      by_test true false y e = refl
      by_test false false y e = refl

  pub short_found : (k : ℕ) → k < 64 → ((m : ℕ) → m < k → is_short t l had fresh m ≡ false) → is_short t l had fresh k ≡ true → short_by t l had fresh ≡ short_at l had fresh (k + 1)
  unfolding short_by below
  short_found k low before is = ap (short_of l had fresh) (find_first (is_short t l had fresh) 0 64 k (omega arith) (omega (arith, low)) is (λ m a h. before m h))

  pub short_none : (n : ℕ) → 64 ≤ n → ((m : ℕ) → m < n → is_short t l had fresh m ≡ false) → None ≡ short_by t l had fresh
  unfolding short_by below
  short_none n all none = sym (ap (short_of l had fresh) (find_none (is_short t l had fresh) 0 64 (λ m a h. none m (omega (arith, h, all)))))
