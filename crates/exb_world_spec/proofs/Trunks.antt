-- Trunks, and who hangs on a port.
use Rattle.std.proofs.Common.{◌≡◌, ℕ, zero, suc, ◌<◌, ◌≤◌, ◌==◌, ◌&&◌, Bool, true, false, nat_lt, slice_index, Some, None, refl, ap, sym, ◌∙◌, subst, arith, inl, inr}
use Rattle.std.proofs.lemmas.Bool.{cases_Bool, cases_lt, and_parts, and_from, eqb-true, eq-eqb, ltb-true, lt-ltb}
use Rattle.exb_model.specs.Tree.{Shape, HangsOn, IsTree, device, on, is_extender, top, trunk, port_number}
use Rattle.exb_model.proofs.TreeTrunks.{trunk-low, extender-low}
use Rattle.exb_model.proofs.TreeLoops.{trunk_is}
use Rattle.exb_model.proofs.TreeWays.{top_high, top_low, top_none, extender_of}
use Rattle.exb_csp.specs.AllTables.{port_of}
use Rattle.exb_world_spec.specs.ExtenderSteps.{hung_below, hung_on}

-- ---- trunks
-- an extender on the bridge has its port as trunk
pub trunk_low_on : (t : Shape) (n : ℕ) → on t n < 64 → trunk t n ≡ on t n
trunk_low_on t n low = trunk_is t n ∙ top_low t 63 (on t n) low

top_more : (t : Shape) (d p : ℕ) → top t.on d p < 64 → top t.on (suc d) p ≡ top t.on d p
top_more t zero p low =
    let l : p < 64 = subst (λ (x : ℕ). x < 64) (top_none t p) low in
    top_low t 1 p l ∙ sym (top_none t p)
top_more t (suc d) p low =
    elim (cases_lt p 64) [
      | inl l ↦ top_low t (suc (suc d)) p l ∙ sym (top_low t (suc d) p l)
      | inr l ↦ top_high t (suc d) p l ∙ top_more t d (on t (device p)) (subst (λ (x : ℕ). x < 64) (top_high t d p l) low) ∙ sym (top_high t d p l)
    ]

-- a deeper one has the trunk of the extender on which it hangs
pub trunk_above : (t : Shape) → IsTree t → (n : ℕ) → is_extender t n ≡ true → 64 ≤ on t n → trunk t (device (on t n)) ≡ trunk t n
trunk_above t tree n there deep =
    let x : ℕ = on t (device (on t n)) in
    let is : trunk t n ≡ top t.on 62 x = trunk_is t n ∙ top_high t 62 (on t n) deep in
    let low : top t.on 62 x < 64 = subst (λ (y : ℕ). y < 64) is (trunk-low t tree n there) in
    trunk_is t (device (on t n)) ∙ top_more t 62 x low ∙ sym is

-- ---- extenders
pub hangs_there : (t : Shape) (n : ℕ) → is_extender t n ≡ true → HangsOn t n (on t n)
hangs_there t n h = let p = and_parts (nat_lt 0 n) (nat_lt 0 (slice_index t.ports n)) h in record { extender = ltb-true _ _ p.0; there = ltb-true _ _ p.1; at = refl }

pub extender_there : (t : Shape) (n p : ℕ) → HangsOn t n p → is_extender t n ≡ true
extender_there t n p h = and_from (nat_lt 0 n) (nat_lt 0 (slice_index t.ports n)) (lt-ltb 0 n h.extender) (lt-ltb 0 (slice_index t.ports n) h.there)

-- the device on which a deeper one hangs is an extender
pub above_there : (t : Shape) → IsTree t → (n : ℕ) → is_extender t n ≡ true → 64 ≤ on t n → is_extender t (device (on t n)) ≡ true
above_there t tree n there deep =
    let h = hangs_there t n there in
    extender_there t (device (on t n)) (on t (device (on t n))) (extender_of t (on t n) deep (tree.on_port n h.extender h.there))

-- who is found there hangs there
hung_below_is : (t : Shape) (p k n : ℕ) → hung_below t p k ≡ Some n → HangsOn t n p
unfolding hung_below
hung_below_is t p zero n e = absurd (none_some e)
  where
    none_some : None ≡ Some n → ⊥
    none_some f = cc
hung_below_is t p (suc k) n e =
    elim (cases_Bool (is_extender t k && on t k == p)) [
      | inl y ↦
          let both = and_parts (is_extender t k) (on t k == p) y in
          let h = hangs_there t k both.0 in
          let same : k ≡ n = some_same (rw y at e) in
          let Q : ℕ → Type 0 = λ x. HangsOn t x p in
          subst Q same (record { extender = h.extender; there = h.there; at = eqb-true _ _ both.1 })
      | inr y ↦ hung_below_is t p k n (rw y at e)
    ]
  where
    some_same : Some k ≡ Some n → k ≡ n
    some_same f = cc

pub hung_is : (t : Shape) (p n : ℕ) → hung_on t p ≡ Some n → HangsOn t n p
hung_is t p n e = hung_below_is t p 65 n e

-- who hangs there is found
hung_below_found : (t : Shape) → IsTree t → (n p k : ℕ) → HangsOn t n p → n < k → hung_below t p k ≡ Some n
unfolding hung_below
hung_below_found t tree n p zero h few = absurd (omega arith)
hung_below_found t tree n p (suc k) h few =
    elim (cases_Bool (is_extender t k && on t k == p)) [
      | inl y ↦
          let both = and_parts (is_extender t k) (on t k == p) y in
          let g = hangs_there t k both.0 in
          let same : k ≡ n = tree.alone k n p (record { extender = g.extender; there = g.there; at = eqb-true _ _ both.1 }) h in
          rw y (ap Some same)
      | inr y ↦
          elim (cases_lt n k) [
            | inl l ↦ rw y (hung_below_found t tree n p k h l)
            | inr l ↦
                let same : k ≡ n = omega arith in
                let yes : (is_extender t k && on t k == p) ≡ true = rw same (and_from (is_extender t n) (on t n == p) (extender_there t n p h) (eq-eqb _ _ h.at)) in
                absurd (both_ways (is_extender t k && on t k == p) yes y)
          ]
    ]
  where
    both_ways : (b : Bool) → b ≡ true → b ≡ false → ⊥
    both_ways b x z = cc

pub hung_found : (t : Shape) → IsTree t → (n p : ℕ) → HangsOn t n p → hung_on t p ≡ Some n
hung_found t tree n p h = hung_below_found t tree n p 65 h (extender-low t tree n (extender_there t n p h))

-- ---- ports
pub port_there : (p : ℕ) → port_of (device p) (port_number p) ≡ p
port_there p = omega arith
