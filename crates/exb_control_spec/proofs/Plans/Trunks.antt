-- Ports of extenders and the bridge ports above them.
use Rattle.std.proofs.Common.{◌≡◌, ℕ, zero, suc, ◌+◌, ◌-◌, ◌/◌, ◌<◌, ◌≤◌, ◌==◌, ◌&&◌, Bool, true, false, not, nat_le, slice_index, refl, sym, ◌∙◌, ap, subst, arith, inl, inr, eq-eqb}
use Rattle.std.proofs.lemmas.Bool.{cases_Bool, eqb-true, ne_eqb, ltb-true, lt-ltb, leb-true, le-leb, and_parts, and_from, false≢true, false_from_ne_true}
use Rattle.exb_model.specs.declared.role.Role.{Role}
use Rattle.exb_model.specs.declared.role.Role.TheVariants as role
use Rattle.exb_model.specs.Tree.{Shape, IsTree, HangsOn, IsCascade, HasRole, device, on, top, trunk, is_port, is_cascade, is_extender, is_external, is_extended, is_under, is_cascade_under}
use Rattle.exb_model.proofs.TreeWays.{any_below-from, top_high, top_hangs, top_below, number_at_most, port_below}
use Rattle.exb_model.proofs.TreeTrunks.{cascade_hangs}
use Rattle.exb_control_spec.proofs.Plans.Bools.{is_not}

pub extended_high : (t : Shape) (q : ℕ) → is_extended t q ≡ true → 64 ≤ q
extended_high t q e = leb-true 64 q (and_parts _ (is_external t q) e).0

pub extended_external : (t : Shape) (q : ℕ) → is_extended t q ≡ true → is_external t q ≡ true
extended_external t q e = (and_parts _ (is_external t q) e).1

pub extended_port : (t : Shape) (q : ℕ) → is_extended t q ≡ true → is_port t q ≡ true
extended_port t q e = (and_parts (is_port t q) (not (is_cascade t q)) (extended_external t q e)).0

pub port_extender : (t : Shape) (q : ℕ) → 64 ≤ q → is_port t q ≡ true → is_extender t (q / 64) ≡ true
port_extender t q high known =
    let l = ltb-true _ _ known in
    and_from _ _ (lt-ltb 0 (q / 64) (omega arith)) (lt-ltb 0 (slice_index t.ports (q / 64)) (omega (arith, l)))

pub extended_extender : (t : Shape) (q : ℕ) → is_extended t q ≡ true → is_extender t (q / 64) ≡ true
extended_extender t q e = port_extender t q (extended_high t q e) (extended_port t q e)

pub under_extended : (t : Shape) (k q : ℕ) → is_under t k q ≡ true → is_extended t q ≡ true
under_extended t k q u = (and_parts (is_extended t q) (trunk t (device q) == k) u).0

pub under_trunk : (t : Shape) (k q : ℕ) → is_under t k q ≡ true → trunk t (device q) ≡ k
under_trunk t k q u = eqb-true _ _ (and_parts (is_extended t q) (trunk t (device q) == k) u).1

pub under_home : (t : Shape) (q : ℕ) → is_extended t q ≡ true → is_under t (trunk t (device q)) q ≡ true
under_home t q e = and_from _ _ e (eq-eqb _ _ refl)

module _ (t : Shape) (valid : IsTree t) where
  pub hung_cascade : (n p : ℕ) → HangsOn t n p → is_cascade t p ≡ true
  unfolding is_cascade
  hung_cascade n p h =
      let most = number_at_most t valid n p h in
      any_below-from (λ n. is_extender t n && on t n == p) 65 n (omega (arith, most))
      (and_from _ _ (and_from _ _ (lt-ltb 0 n h.extender) (lt-ltb 0 _ h.there)) (eq-eqb _ _ h.at))

  -- nothing hangs on a port that isn't there, or has another role
  pub other_role : (p : ℕ) (r : Role) → HasRole t p r → ((n : ℕ) → r ≡ role.Cascade n → ⊥) → is_cascade t p ≡ false
  other_role p role.Unknown is other =
      false_from_ne_true _ (λ c. let h : (n : ℕ) × HangsOn t n p = cascade_hangs t p c in
      false≢true (sym is ∙ ap (is_port t) (sym h.1.at) ∙ valid.on_port h.0 h.1.extender h.1.there))
  other_role p role.External is other = is_not (is_cascade t p) (and_parts (is_port t p) (not (is_cascade t p)) is).1
  other_role p (role.Cascade n) is other = absurd (other n refl)

  pub not_extended : (p : ℕ) (r : Role) → HasRole t p r → (r ≡ role.External → ⊥) → is_extended t p ≡ false
  not_extended p role.Unknown h other = rw h (none (nat_le 64 p))
    where
      none : (b : Bool) → (b && false) ≡ false
      none true = refl
      none false = refl
  not_extended p role.External h other = absurd (other refl)
  not_extended p (role.Cascade n) h other = rw (h.0, hung_cascade n p h.1) (none (nat_le 64 p))
    where
      none : (b : Bool) → (b && false) ≡ false
      none true = refl
      none false = refl

  -- the test of a cascade port under a bridge port, numbered from 1
  pub cascade_under_is : (p n k x : ℕ) → 64 ≤ p → is_port t p ≡ true → HangsOn t n p → x ≡ trunk t (p / 64) + 1 → 1 ≤ k → (x == k) ≡ is_cascade_under t (k - 1) p
  cascade_under_is p n zero x high known h is low = absurd (omega arith)
  cascade_under_is p n (suc k) x high known h is low =
      rw (le-leb 64 p high, known, hung_cascade n p h) (same (trunk t (p / 64)) k x is)
    where
      same : (m k x : ℕ) → x ≡ m + 1 → (x == suc k) ≡ (m == suc k - 1)
      same m k x e =
          elim (cases_Bool (m == suc k - 1)) [
            | inl f ↦ rw (f, eq-eqb x (suc k) (let g = eqb-true _ _ f in omega (arith, g, e))) refl
            | inr f ↦ rw (f, ne_eqb x (suc k) (λ g. false≢true (sym f ∙ eq-eqb m (suc k - 1) (omega (arith, g, e))))) refl
          ]

  pub other_cascade_under : (p k : ℕ) (r : Role) → HasRole t p r → ((n : ℕ) → r ≡ role.Cascade n → ⊥) → is_cascade_under t k p ≡ false
  other_cascade_under p k r is other = rw (other_role p r is other) (none (nat_le 64 p) (is_port t p) (trunk t (device p) == k))
    where
      none : (a b c : Bool) → (a && b && false && c) ≡ false
      none true true c = refl
      none true false c = refl
      none false b c = refl

  -- the bridge port above an extended port is a cascade port
  pub home_low : (q : ℕ) → is_extended t q ≡ true → trunk t (device q) < 64
  unfolding trunk
  home_low q e = let g = extended_high t q e in subst (λ (x : ℕ). x < 64) (top_high t 63 q g) (top_below t valid q g (extended_port t q e))

  pub home_cascade : (q : ℕ) → is_extended t q ≡ true → is_cascade t (trunk t (device q)) ≡ true
  unfolding trunk
  home_cascade q e =
      let g = extended_high t q e in
      let known = extended_port t q e in
      let c : IsCascade t (top t.on 64 q) = top_hangs t valid 64 q g known (top_below t valid q g known) in
      subst (λ (x : ℕ). is_cascade t x ≡ true) (top_high t 63 q g) (hung_cascade c.0 (top t.on 64 q) c.1)

  pub extended_below : (q : ℕ) → is_extended t q ≡ true → q < 4160
  extended_below q e = port_below t valid q (extended_high t q e) (extended_port t q e)
