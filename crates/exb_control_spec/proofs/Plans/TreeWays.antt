-- Ways up the tree: what lies above what, and under which bridge port.
use Rattle.std.proofs.Common.{◌≡◌, ◌≢◌, ℕ, zero, suc, ◌<◌, ◌≤◌, ◌==◌, ◌&&◌, Bool, true, false, not, [], refl, sym, ◌∙◌, ap, arith, inl, inr, eq-eqb, eqb-true, nat_le}
use Rattle.std.proofs.lemmas.Bool.{cases_lt, le-leb, leb-true, lt-ltb, and_parts, false≢true}
use Rattle.exb_model.specs.Tree.{Shape, device, on, is_port, is_extender, is_cascade, is_extended, is_under, is_cascade_under, HangsOn, up, top, trunk, IsTree, depth}
use Rattle.exb_model.specs.TreeSets.{covers}
use Rattle.exb_model.proofs.TreeWays.{any_below-from, up_high, up_low, up_none, top_high, top_low, top_none, among, among_cases, among_none, path_is, top_below, port_above, cascade_above, extender_of, number_at_most, covers-true, covers-from}
use Rattle.exb_model.proofs.TreeLoops.{trunk_is}
use Rattle.exb_model.proofs.TreeOrder.{less_deep}
use Rattle.exb_model.proofs.TreeCover.{among_next}
use Rattle.exb_control_spec.specs.Plans.LaidRows.{is_port_under}
use Rattle.exb_control_spec.proofs.Plans.Bools.{is_not}

-- a port of an extender with trunk k
pub record Under (s : Shape) (k p : ℕ) : Type 0 where
  pub deep : 64 ≤ p
  pub known : is_port s p ≡ true
  pub at : trunk s (device p) ≡ k

pub under_test : (s : Shape) (k p : ℕ) → Under s k p → is_port_under s k p ≡ true
under_test s k p u = rw (le-leb 64 p u.deep, u.known, eq-eqb (trunk s (device p)) k u.at) refl

pub cascade_test : (s : Shape) (k p : ℕ) → Under s k p → is_cascade s p ≡ true → is_cascade_under s k p ≡ true
cascade_test s k p u c = rw (le-leb 64 p u.deep, u.known, c, eq-eqb (trunk s (device p)) k u.at) refl

pub from_test : (s : Shape) (k p : ℕ) → is_port_under s k p ≡ true → Under s k p
from_test s k p h =
    let both = and_parts (nat_le 64 p && is_port s p) (trunk s (device p) == k) h in
    let rest = and_parts (nat_le 64 p) (is_port s p) both.0 in
    record { deep = leb-true 64 p rest.0; known = rest.1; at = eqb-true (trunk s (device p)) k both.1 }

pub from_extended : (s : Shape) (q : ℕ) → is_extended s q ≡ true → (64 ≤ q) × (is_port s q ≡ true) × (is_cascade s q ≡ false)
from_extended s q h =
    let both = and_parts (nat_le 64 q) (is_port s q && not (is_cascade s q)) h in
    let rest = and_parts (is_port s q) (not (is_cascade s q)) both.1 in
    (leb-true 64 q both.0, rest.0, is_not (is_cascade s q) rest.1)

-- an external port under k
pub from_under : (s : Shape) (k p : ℕ) → is_under s k p ≡ true → Under s k p × (is_cascade s p ≡ false)
from_under s k p h =
    let both = and_parts (is_extended s p) (trunk s (device p) == k) h in
    let parts = from_extended s p both.0 in
    (record { deep = parts.0; known = parts.1; at = eqb-true (trunk s (device p)) k both.1 }, parts.2)

-- a cascade port under k
pub from_cascade : (s : Shape) (k p : ℕ) → is_cascade_under s k p ≡ true → Under s k p × (is_cascade s p ≡ true)
from_cascade s k p h =
    let both = and_parts (nat_le 64 p && is_port s p && is_cascade s p) (trunk s (device p) == k) h in
    let rest = and_parts (nat_le 64 p && is_port s p) (is_cascade s p) both.0 in
    let first = and_parts (nat_le 64 p) (is_port s p) rest.0 in
    (record { deep = leb-true 64 p first.0; known = first.1; at = eqb-true (trunk s (device p)) k both.1 }, rest.1)

-- what hangs makes a cascade port
pub hung_cascade : (s : Shape) → IsTree s → (n p : ℕ) → HangsOn s n p → is_cascade s p ≡ true
unfolding is_cascade
hung_cascade s valid n p h =
    let few : n ≤ 64 = number_at_most s valid n p h in
    any_below-from (λ m. is_extender s m && on s m == p) 65 n (omega arith)
    (rw (lt-ltb 0 n h.extender, lt-ltb 0 _ h.there, eq-eqb (on s n) p h.at) refl)

-- more steps lead to the same end
pub top_settled : (s : Shape) (d p : ℕ) → top s.on d p < 64 → top s.on (suc d) p ≡ top s.on d p
top_settled s zero p low =
    let z : top s.on zero p ≡ p = top_none s p in
    let l : p < 64 = omega arith in
    rw (top_low s (suc zero) p l, top_none s p) refl
top_settled s (suc d) p low =
    elim (cases_lt p 64) [
      | inl l ↦ rw (top_low s (suc (suc d)) p l, top_low s (suc d) p l) refl
      | inr h ↦ rw (top_high s (suc d) p h, top_high s d p h) (top_settled s d (on s (device p)) (rw (top_high s d p h) at low))
    ]

pub trunk_top : (s : Shape) (p : ℕ) → 64 ≤ p → trunk s (device p) ≡ top s.on 64 p
trunk_top s p h = trunk_is s (device p) ∙ sym (top_high s 63 p h)

module _ (s : Shape) (valid : IsTree s) where
  -- extenders on one way have one trunk
  pub trunk_above : (p : ℕ) → 64 ≤ p → is_port s p ≡ true → 64 ≤ on s (device p) → trunk s (device (on s (device p))) ≡ trunk s (device p)
  trunk_above p h known g =
      let next = on s (device p) in
      let e = extender_of s p h known in
      let low : top s.on 63 next < 64 = valid.rooted (device p) e.extender e.there in
      let low_next : top s.on 62 (on s (device next)) < 64 = rw (top_high s 62 next g) at low in
      trunk_is s (device next) ∙ (top_settled s 62 (on s (device next)) low_next ∙ (sym (top_high s 62 next g) ∙ sym (trunk_is s (device p))))

  pub under_above : (k p : ℕ) → Under s k p → 64 ≤ on s (device p) → Under s k (on s (device p))
  under_above k p u g =
      record { deep = g; known = port_above s valid p u.deep u.known; at = trunk_above p u.deep u.known g ∙ u.at }

  pub trunk_along : (d p x : ℕ) → 64 ≤ p → is_port s p ≡ true → 64 ≤ x → among x (up s.on d p) ≡ true → trunk s (device x) ≡ trunk s (device p)
  trunk_along zero p x h known g a =
      elim (among_cases x p [] (rw (up_none s p) at a)) [ inl e ↦ ap (λ y. trunk s (device y)) e | inr e ↦ absurd (among_none x e) ]
  trunk_along (suc d) p x h known g a =
      elim (among_cases x p _ (rw (up_high s d p h) at a)) [
        | inl e ↦ ap (λ y. trunk s (device y)) e
        | inr e ↦ elim (cases_lt (on s (device p)) 64) [
          | inl l ↦ absurd (low_only d (on s (device p)) x l g e)
          | inr k ↦ trunk_along d (on s (device p)) x k (port_above s valid p h known) g e ∙ trunk_above p h known k
        ]
      ]
    where
      low_only : (d p x : ℕ) → p < 64 → 64 ≤ x → among x (up s.on d p) ≡ true → ⊥
      low_only d p x l g a =
          elim (among_cases x p [] (rw (up_low s d p l) at a)) [ inl e ↦ absurd (omega arith) | inr e ↦ among_none x e ]

  -- what lies above a port hangs no deeper
  pub not_deeper : (d p x : ℕ) → 64 ≤ p → is_port s p ≡ true → 64 ≤ x → among x (up s.on d p) ≡ true → depth s (device x) ≤ depth s (device p)
  not_deeper zero p x h known g a =
      elim (among_cases x p [] (rw (up_none s p) at a)) [
        | inl e ↦ let same : depth s (device x) ≡ depth s (device p) = ap (λ y. depth s (device y)) e in omega arith
        | inr e ↦ absurd (among_none x e)
      ]
  not_deeper (suc d) p x h known g a =
      elim (among_cases x p _ (rw (up_high s d p h) at a)) [
        | inl e ↦ let same : depth s (device x) ≡ depth s (device p) = ap (λ y. depth s (device y)) e in omega arith
        | inr e ↦ elim (cases_lt (on s (device p)) 64) [
          | inl l ↦ elim (among_cases x (on s (device p)) [] (rw (up_low s d (on s (device p)) l) at e)) [ inl f ↦ absurd (omega arith) | inr f ↦ absurd (among_none x f) ]
          | inr k ↦
              let rest = not_deeper d (on s (device p)) x k (port_above s valid p h known) g e in
              let less = less_deep s valid (device p) (on s (device p)) (extender_of s p h known) k in
              omega (arith, rest, less)
        ]
      ]

  -- and above its own extender less deep
  pub less_above : (d p x : ℕ) → 64 ≤ p → is_port s p ≡ true → 64 ≤ x → among x (up s.on d (on s (device p))) ≡ true → depth s (device x) < depth s (device p)
  less_above d p x h known g a =
      elim (cases_lt (on s (device p)) 64) [
        | inl l ↦ elim (among_cases x (on s (device p)) [] (rw (up_low s d (on s (device p)) l) at a)) [ inl f ↦ absurd (omega arith) | inr f ↦ absurd (among_none x f) ]
        | inr k ↦
            let rest = not_deeper d (on s (device p)) x k (port_above s valid p h known) g a in
            let less = less_deep s valid (device p) (on s (device p)) (extender_of s p h known) k in
            omega (arith, rest, less)
      ]

  -- what lies above a port of a way is on that way
  pub among_trans : (m : ℕ) → top s.on 64 m < 64 → (d q x : ℕ) → among q (up s.on 64 m) ≡ true → among x (up s.on d q) ≡ true → among x (up s.on 64 m) ≡ true
  among_trans m low zero q x a b =
      elim (among_cases x q [] (rw (up_none s q) at b)) [ inl e ↦ rw e a | inr e ↦ absurd (among_none x e) ]
  among_trans m low (suc d) q x a b =
      elim (cases_lt q 64) [
        | inl l ↦ elim (among_cases x q [] (rw (up_low s (suc d) q l) at b)) [ inl e ↦ rw e a | inr e ↦ absurd (among_none x e) ]
        | inr h ↦ elim (among_cases x q _ (rw (up_high s d q h) at b)) [
          | inl e ↦ rw e a
          | inr e ↦ among_trans m low d (on s (device q)) x (among_next s 64 m q low a h) e
        ]
      ]

  pub top_low_all : (m : ℕ) → is_port s m ≡ true → top s.on 64 m < 64
  top_low_all m known = elim (cases_lt m 64) [ inl l ↦ rw (top_low s 64 m l) l | inr g ↦ top_below s valid m g known ]

  -- what covers a port covers all above it
  pub covers_above : (set : ℕ → Bool) (d q x : ℕ) → covers s set q ≡ true → among x (up s.on d q) ≡ true → covers s set x ≡ true
  covers_above set d q x v a =
      let c = covers-true s set q v in
      covers-from s set x
      (record {
        member = c.member;
        within = c.within;
        chosen = c.chosen;
        known = c.known;
        below = rw (path_is s c.member) (among_trans c.member (top_low_all c.member c.known) d q x (rw (path_is s c.member) at c.below) a);
      })

  -- a port that is covered, and isn't of the set, is a cascade port
  pub covered_cascade : (set : ℕ → Bool) (q : ℕ) → covers s set q ≡ true → set q ≡ false → is_cascade s q ≡ true
  covered_cascade set q v out =
      let c = covers-true s set q v in
      let other : q ≢ c.member = λ e. false≢true (sym out ∙ (rw e c.chosen)) in
      let found = (cascade_above s valid 64 c.member q c.known other (rw (path_is s c.member) at c.below)).0 in
      hung_cascade s valid found.0 q found.1
