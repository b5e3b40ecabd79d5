-- Ports below a bridge port, and extenders on it.
use Rattle.std.proofs.Common.{◌≡◌, ◌≢◌, ℕ, zero, suc, ◌+◌, ◌<◌, ◌≤◌, ◌==◌, ◌&&◌, Bool, true, false, not, List, [], Some, nat_lt, slice_index, refl, sym, ◌∙◌, ap, subst, arith, inl, inr, eq-eqb}
use Rattle.std.specs.List.{range_with_len}
use Rattle.std.proofs.lemmas.Bool.{cases_lt, eqb-true, ne_eqb, ltb-true, lt-ltb, leb-true, le-leb, and_parts, and_from, false≢true, false_from_ne_true}
use Rattle.exb_model.specs.Ports.{below}
use Rattle.exb_model.specs.Tree.{Shape, IsTree, HangsOn, IsCascade, device, on, top, trunk, is_port, is_cascade, is_extender, is_external, is_extended, is_under}
use Rattle.exb_model.specs.ExtenderForwarding.{Tables}
use Rattle.exb_model.specs.Carriage.{carried, carried_in}
use Rattle.exb_model.proofs.TreeWays.{any_below-true, any_below-from, top_high, top_hangs, top_below, number_at_most, port_below}
use Rattle.exb_relay.specs.TreeEgress.{extender_on}
use Rattle.exb_relay.proofs.Lists.{member_range, find_only}

pub under_extended : (t : Shape) (k q : ℕ) → is_under t k q ≡ true → is_extended t q ≡ true
under_extended t k q u = (and_parts (is_extended t q) (trunk t (device q) == k) u).0

pub under_trunk : (t : Shape) (k q : ℕ) → is_under t k q ≡ true → trunk t (device q) ≡ k
under_trunk t k q u = eqb-true _ _ (and_parts (is_extended t q) (trunk t (device q) == k) u).1

pub extended_high : (t : Shape) (q : ℕ) → is_extended t q ≡ true → 64 ≤ q
extended_high t q e = leb-true 64 q (and_parts _ (is_external t q) e).0

pub extended_external : (t : Shape) (q : ℕ) → is_extended t q ≡ true → is_external t q ≡ true
extended_external t q e = (and_parts _ (is_external t q) e).1

pub external_port : (t : Shape) (q : ℕ) → is_external t q ≡ true → is_port t q ≡ true
external_port t q e = (and_parts (is_port t q) (not (is_cascade t q)) e).0

pub external_free : (t : Shape) (q : ℕ) → is_external t q ≡ true → is_cascade t q ≡ false
external_free t q e = not_true (is_cascade t q) (and_parts (is_port t q) (not (is_cascade t q)) e).1
  where
    not_true : (b : Bool) → not b ≡ true → b ≡ false
    not_true true h = sym h
    not_true false h = refl

pub under_high : (t : Shape) (k q : ℕ) → is_under t k q ≡ true → 64 ≤ q
under_high t k q u = extended_high t q (under_extended t k q u)

-- no port of the bridge is below one
pub none_low : (t : Shape) (k q : ℕ) → q < 64 → is_under t k q ≡ false
none_low t k q l = false_from_ne_true _ (λ u. let g = under_high t k q u in omega (arith, g, l))

pub extended_from : (t : Shape) (q : ℕ) → 64 ≤ q → is_external t q ≡ true → is_extended t q ≡ true
extended_from t q g e = and_from _ _ (le-leb 64 q g) e

-- a port of an extender is below its trunk
pub under_home : (t : Shape) (q : ℕ) → is_extended t q ≡ true → is_under t (trunk t (device q)) q ≡ true
under_home t q e = and_from _ _ e (eq-eqb _ _ refl)

pub under_other : (t : Shape) (k q : ℕ) → k ≢ trunk t (device q) → is_under t k q ≡ false
under_other t k q n = false_from_ne_true _ (λ u. n (sym (under_trunk t k q u)))

module _ (t : Shape) (valid : IsTree t) where
  pub home_low : (q : ℕ) → is_extended t q ≡ true → trunk t (device q) < 64
  unfolding trunk
  home_low q e = let g = extended_high t q e in
      subst (λ (x : ℕ). x < 64) (top_high t 63 q g) (top_below t valid q g (external_port t q (extended_external t q e)))

  pub external_below : (q : ℕ) → is_external t q ≡ true → q < 4160
  external_below q e = elim (cases_lt q 64) [ inl l ↦ omega (arith, l) | inr g ↦ port_below t valid q g (external_port t q e) ]

  -- ---- cascade ports of the bridge
  pub hangs : (k : ℕ) → is_cascade t k ≡ true → IsCascade t k
  unfolding is_cascade
  hangs k c =
      let found : (n : ℕ) × (n < 65) × ((is_extender t n && on t n == k) ≡ true) = any_below-true (λ n. is_extender t n && on t n == k) 65 c in
      let both = and_parts (is_extender t found.0) (on t found.0 == k) found.2 in
      let there = and_parts (nat_lt 0 found.0) (nat_lt 0 (slice_index t.ports found.0)) both.0 in
      (found.0, record { extender = ltb-true 0 _ there.0; there = ltb-true 0 _ there.1; at = eqb-true _ _ both.1 })

  is_hung : (n k : ℕ) → HangsOn t n k → (is_extender t n && on t n == k) ≡ true
  is_hung n k h = and_from _ _ (and_from _ _ (lt-ltb 0 n h.extender) (lt-ltb 0 _ h.there)) (eq-eqb _ _ h.at)

  pub cascade_from : (n k : ℕ) → HangsOn t n k → is_cascade t k ≡ true
  unfolding is_cascade
  cascade_from n k h =
      let most = number_at_most t valid n k h in
      any_below-from (λ n. is_extender t n && on t n == k) 65 n (omega (arith, most)) (is_hung n k h)

  -- an extender hangs on the bridge port above a port
  pub under_cascade : (k q : ℕ) → is_under t k q ≡ true → is_cascade t k ≡ true
  unfolding trunk
  under_cascade k q u =
      let e = under_extended t k q u in
      let g = extended_high t q e in
      let known = external_port t q (extended_external t q e) in
      let at : top t.on 64 q ≡ k = top_high t 63 q g ∙ under_trunk t k q u in
      let c : IsCascade t (top t.on 64 q) = top_hangs t valid 64 q g known (top_below t valid q g known) in
      subst (λ (x : ℕ). is_cascade t x ≡ true) at (cascade_from c.0 (top t.on 64 q) c.1)

  pub none_under : (k : ℕ) → is_cascade t k ≡ false → (q : ℕ) → is_under t k q ≡ false
  none_under k n q = false_from_ne_true _ (λ u. false≢true (sym n ∙ under_cascade k q u))

  -- the extender that is found on a bridge port
  pub extender_there : (n k : ℕ) → HangsOn t n k → extender_on t (k + 1) ≡ Some n
  unfolding extender_on below
  extender_there n k h =
      let most = number_at_most t valid n k h in
      find_only (λ n. is_extender t n && on t n + 1 == k + 1) n
      (and_from _ _ (and_parts _ _ (is_hung n k h)).0 (eq-eqb _ _ (ap (λ (x : ℕ). x + 1) h.at)))
      (λ x e. alone x e) (range_with_len 0 65) (member_range 0 65 n (omega arith) (omega (arith, most)))
    where
      alone : (x : ℕ) → (is_extender t x && on t x + 1 == k + 1) ≡ true → x ≡ n
      alone x e =
          let both = and_parts (is_extender t x) (on t x + 1 == k + 1) e in
          let there = and_parts (nat_lt 0 x) (nat_lt 0 (slice_index t.ports x)) both.0 in
          let same : on t x + 1 ≡ k + 1 = eqb-true _ _ both.1 in
          let hung : HangsOn t x k = record { extender = ltb-true 0 _ there.0; there = ltb-true 0 _ there.1; at = omega (arith, same) } in
          valid.alone x n k hung h

-- nothing that enters an extender comes out at the bridge
stays_down : (t : Shape) (u : Tables) (d n : ℕ) (f : List ℕ) (q : ℕ) → 0 < n → q < 64 → carried_in t u d n f q ≡ []
unfolding carried_in
stays_down t u zero n f q p l = rw (ne_eqb (device q) n (omega (arith, p, l))) refl
stays_down t u (suc d) n f q p l = rw (ne_eqb (device q) n (omega (arith, p, l)), lt-ltb q 64 l) refl

pub none_at_bridge : (t : Shape) (u : Tables) (n : ℕ) (f : List ℕ) (q : ℕ) → 0 < n → q < 64 → carried t u n f q ≡ []
unfolding carried
none_at_bridge t u n f q p l = stays_down t u 64 n f q p l
