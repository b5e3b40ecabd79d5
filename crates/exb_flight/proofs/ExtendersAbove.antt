-- Extenders above others, and the rows between.
use Rattle.std.proofs.Common.{◌≡◌, ◌≢◌, ℕ, zero, suc, ◌<◌, ◌≤◌, Bool, true, List, [], ◌∷◌, sym, ◌∙◌, subst, arith, inl, inr, ap, ◌⊎◌}
use Rattle.std.proofs.lemmas.Bool.{cases_eq, cases_lt, false≢true}
use Rattle.exb_model.specs.Tree.{Shape, device, on, is_extended, trunk, HangsOn, IsTree, up, top, depth}
use Rattle.exb_model.specs.TreeSets.{covers}
use Rattle.exb_model.proofs.TreeWays.{covers-true, covers-from, among, among_cases, among_none, among_first, among_rest, up_high, up_low, up_none, top_high, path_is, extender_of, port_above}
use Rattle.exb_model.proofs.TreeOrder.{less_deep}
use Rattle.exb_model.proofs.TreeLoops.{trunk_is}
use Rattle.exb_control_spec.proofs.Plans.TreeWays.{from_extended, hung_cascade, top_settled}
use Rattle.exb_flight.specs.Tree.{Over, itself, further, Above, IsLink, IsDeep, HasRow}

pub over_trans : (s : Shape) (x m n : ℕ) → Over s x m → Over s m n → Over s x n
over_trans s x m n h (itself e) = subst (λ (k : ℕ). Over s x k) (sym e) h
over_trans s x m n h (further g r) = further g (over_trans s x m (device (on s n)) h r)

-- a child's extenders are those of the one it hangs on
pub over_child : (s : Shape) (m k n : ℕ) → 64 ≤ on s k → device (on s k) ≡ m → Over s k n → Over s m n
over_child s m k n g e h = over_trans s m k n (further g (itself e)) h

pub above_child : (s : Shape) (m k n : ℕ) → 64 ≤ on s k → device (on s k) ≡ m → Above s k n → Above s m n
above_child s m k n g e h = (h.0, over_child s m k (device (on s n)) g e h.1)

pub above_itself : (s : Shape) (m k : ℕ) → 64 ≤ on s k → device (on s k) ≡ m → Above s m k
above_itself s m k g e = (g, itself e)

pub over_above : (s : Shape) (m n : ℕ) → Over s m n → m ≢ n → Above s m n
over_above s m n (itself e) h = absurd (h (sym e))
over_above s m n (further g r) h = (g, r)

pub above_over : (s : Shape) (m n : ℕ) → Above s m n → Over s m n
above_over s m n a = further a.0 a.1

-- of two extenders above a third one is above the other
pub over_both : (s : Shape) (m n x : ℕ) → Over s m x → Over s n x → Over s m n ⊎ Over s n m
over_both s m n x (itself e) o = inr (subst (Over s n) e o)
over_both s m n x (further g r) (itself e) = inl (subst (Over s m) e (further g r))
over_both s m n x (further g r) (further h q) = over_both s m n (device (on s x)) r q

-- nothing is above an extender that hangs on the bridge
pub top_alone : (s : Shape) (m n : ℕ) → on s n < 64 → Over s m n → m ≡ n
top_alone s m n low (itself e) = sym e
top_alone s m n low (further g r) = absurd (omega (arith, low, g))

-- ---- rows
among_one : (x y : ℕ) (ys : List ℕ) → among x (y ∷ ys) ≡ true → x ≢ y → among x ys ≡ true
among_one x y ys h n = elim (among_cases x y ys h) [ inl e ↦ absurd (n e) | inr e ↦ e ]

record Before (s : Shape) (d p q : ℕ) : Type 0 where
  port : ℕ
  deep : IsDeep s port
  at : on s (device port) ≡ p
  below : among port (up s.on d q) ≡ true

module _ (s : Shape) (valid : IsTree s) where
  -- the port before p on the way up
  before : (d p q : ℕ) → IsDeep s q → among p (up s.on d q) ≡ true → p ≢ q → Before s d p q
  before zero p q h a n = absurd (among_none p (among_one p q [] (rw (up_none s q) at a) n))
  before (suc d) p q h a n =
      let next = on s (device q) in
      let rest : among p (up s.on d next) ≡ true = among_one p q (up s.on d next) (rw (up_high s d q h.deep) at a) n in
      elim (cases_eq p next) [
        | inl e ↦ record { port = q; deep = h; at = sym e; below = rw (up_high s d q h.deep) (among_first q (up s.on d next)) }
        | inr e ↦ elim (cases_lt next 64) [
          | inl l ↦ absurd (among_none p (among_one p next [] (rw (up_low s d next l) at rest) e))
          | inr g ↦
              let deep : IsDeep s next = record { deep = g; known = port_above s valid q h.deep h.known } in
              let b : Before s d p next = before d p next deep rest e in
              record { port = b.port; deep = b.deep; at = b.at; below = rw (up_high s d q h.deep) (among_rest b.port q (up s.on d next) b.below) }
        ]
      ]

  -- an external port is no cascade port
  pub not_hung : (q k p : ℕ) → is_extended s q ≡ true → HangsOn s k p → p ≢ q
  not_hung q k p ext hung e = false≢true (sym (from_extended s q ext).2 ∙ hung_cascade s valid k q (subst (HangsOn s k) e hung))

  -- a port below which a port of the set lies has an extender with a row
  pub row_below : (set : ℕ → Bool) (p k : ℕ) → ((q : ℕ) → set q ≡ true → is_extended s q ≡ true) → HangsOn s k p → covers s set p ≡ true → HasRow s set k
  row_below set p k outer hung h =
      let c = covers-true s set p h in
      let ex = outer c.member c.chosen in
      let d = from_extended s c.member ex in
      let other : p ≢ c.member = not_hung c.member k p ex hung in
      let b : Before s 64 p c.member = before 64 p c.member (record { deep = d.0; known = d.1 }) (rw (path_is s c.member) at c.below) other in
      let there = extender_of s b.port b.deep.deep b.deep.known in
      let same : device b.port ≡ k = valid.alone (device b.port) k p (subst (λ (x : ℕ). HangsOn s (device b.port) x) b.at there) hung in
      record {
        port = b.port;
        deep = b.deep;
        here = same;
        covered = covers-from s set b.port (record { member = c.member; within = c.within; chosen = c.chosen; known = c.known; below = rw (path_is s c.member) b.below });
      }

-- ---- no extender is above itself
pub link_above : (s : Shape) → IsTree s → (n : ℕ) → IsLink s n → 64 ≤ on s n → IsLink s (device (on s n))
link_above s valid n k g = extender_of s (on s n) g (valid.on_port n k.extender k.there)

-- and so is each one above
pub link_over : (s : Shape) → IsTree s → (m n : ℕ) → IsLink s n → Over s m n → IsLink s m
link_over s valid m n k (itself e) = subst (IsLink s) e k
link_over s valid m n k (further g r) = link_over s valid m (device (on s n)) (link_above s valid n k g) r

over_depth : (s : Shape) → IsTree s → (m n : ℕ) → IsLink s n → Over s m n → depth s m ≤ depth s n
over_depth s valid m n k (itself e) = rw e (same (depth s m))
  where
    same : (x : ℕ) → x ≤ x
    same x = omega arith
over_depth s valid m n k (further g r) =
    let rest = over_depth s valid m (device (on s n)) (link_above s valid n k g) r in
    let less = less_deep s valid n (on s n) k g in
    below (depth s m) (depth s (device (on s n))) (depth s n) rest less
  where
    below : (a b c : ℕ) → a ≤ b → b < c → a ≤ c
    below a b c x y = omega (arith, x, y)

pub no_circle : (s : Shape) → IsTree s → (n : ℕ) → IsLink s n → 64 ≤ on s n → Over s n (device (on s n)) → ⊥
no_circle s valid n k g o =
    let rest = over_depth s valid n (device (on s n)) (link_above s valid n k g) o in
    let less = less_deep s valid n (on s n) k g in
    both (depth s n) (depth s (device (on s n))) rest less
  where
    both : (a b : ℕ) → a ≤ b → b < a → ⊥
    both a b x y = omega (arith, x, y)

-- ---- trunks
-- the link into the extender of a port
pub home_link : (s : Shape) (p : ℕ) → IsDeep s p → IsLink s (device p)
home_link s p h = extender_of s p h.deep h.known

pub trunk_child : (s : Shape) → IsTree s → (n : ℕ) → IsLink s n → 64 ≤ on s n → trunk s n ≡ trunk s (device (on s n))
trunk_child s valid n k g =
    let low : top s.on 62 (on s (device (on s n))) < 64 = rw (top_high s 62 (on s n) g) at (valid.rooted n k.extender k.there) in
    trunk_is s n ∙ (top_high s 62 (on s n) g ∙ (sym (top_settled s 62 (on s (device (on s n))) low) ∙ sym (trunk_is s (device (on s n)))))

pub trunk_over : (s : Shape) → IsTree s → (m n : ℕ) → IsLink s n → Over s m n → trunk s m ≡ trunk s n
trunk_over s valid m n k (itself e) = ap (trunk s) (sym e)
trunk_over s valid m n k (further g r) = trunk_over s valid m (device (on s n)) (link_above s valid n k g) r ∙ sym (trunk_child s valid n k g)

-- the port on which an extender hangs
pub hung_deep : (s : Shape) → IsTree s → (n : ℕ) → IsLink s n → 64 ≤ on s n → IsDeep s (on s n)
hung_deep s valid n k g = record { deep = g; known = valid.on_port n k.extender k.there }
