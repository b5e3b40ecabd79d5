-- Marking, from the deepest extender up, each port whose subtree has a port of a set.
use Rattle.std.proofs.Common.{◌≡◌, ◌≢◌, ℕ, zero, suc, ◌+◌, ◌*◌, ◌/◌, ◌%◌, ◌^◌, ◌<◌, ◌≤◌, ◌==◌, ◌&&◌, ◌||◌, Bool, true, false, List, [], length, slice_index, refl, sym, ◌∙◌, ap, subst, arith, inl, inr, eq-eqb, eqb-true}
use Rattle.std.specs.Int.{bit_at}
use Rattle.std.proofs.lemmas.Bool.{cases_eq, cases_lt, cases_Bool, or_cases, or_left, or_right, and_parts, false≢true, false_from_ne_true}
use Rattle.std.proofs.lemmas.Bool.Decides.{nat_tests}
use Rattle.std.proofs.lemmas.Nat.Bits.{bit_at-zero, bit_at-lt, same_from_bits_below}
use Rattle.exb_model.specs.PortBits.{has_port}
use Rattle.exb_model.specs.Tree.{Shape, device, on, is_port, HangsOn, up, top, IsTree, depth, by_depth}
use Rattle.exb_model.specs.TreeSets.{covers}
use Rattle.exb_model.proofs.TreeWays.{up_high, up_low, up_none, top_high, top_low, top_none, among, among_cases, among_rest, among_none, path_is, up_itself, top_below, port_above, port_below, covers-true, covers-from}
use Rattle.exb_model.proofs.TreeOrder.{by_depth-sorted, by_depth-hangs, in_order, place_of, less_deep}

-- what the way from a port goes through, the port above it too
pub among_next : (s : Shape) (d p x : ℕ) → top s.on d p < 64 → among x (up s.on d p) ≡ true → 64 ≤ x → among (on s (device x)) (up s.on d p) ≡ true
among_next s zero p x low a h =
    elim (among_cases x p [] (rw (up_none s p) at a)) [
      | inl e ↦ let z : top s.on zero p ≡ p = top_none s p in absurd (omega arith)
      | inr e ↦ absurd (among_none x e)
    ]
among_next s (suc d) p x low a h =
    elim (cases_lt p 64) [
      | inl l ↦ elim (among_cases x p [] (rw (up_low s (suc d) p l) at a)) [ inl e ↦ absurd (omega arith) | inr e ↦ absurd (among_none x e) ]
      | inr g ↦ elim (among_cases x p _ (rw (up_high s d p g) at a)) [
        | inl e ↦ rw (e, up_high s d p g) (among_rest _ p _ (up_itself s d (on s (device p))))
        | inr e ↦ rw (up_high s d p g) (among_rest _ p _ (among_next s d (on s (device p)) x (rw (top_high s d p g) at low) e h))
      ]
    ]

-- what covers a port of an extender covers the port above it
pub covers_up : (s : Shape) (set : ℕ → Bool) → IsTree s → (x : ℕ) → 64 ≤ x → covers s set x ≡ true → covers s set (on s (device x)) ≡ true
covers_up s set valid x h v =
    let c = covers-true s set x v in
    let low : top s.on 64 c.member < 64 =
    elim (cases_lt c.member 64) [ inl l ↦ rw (top_low s 64 c.member l) l | inr g ↦ top_below s valid c.member g c.known ] in
    covers-from s set (on s (device x))
    (record {
      member = c.member;
      within = c.within;
      chosen = c.chosen;
      known = c.known;
      below = rw (path_is s c.member) (among_next s 64 c.member x low (rw (path_is s c.member) at c.below) h);
    })

-- The extenders from place i on have had their turn.
pub record Marked (s : Shape) (set : ℕ → Bool) (marks : List ℕ) (i : ℕ) : Type 0 where
  pub sound : (p : ℕ) → has_port marks p ≡ true → covers s set p ≡ true
  pub base : (p : ℕ) → (set p && is_port s p) ≡ true → has_port marks p ≡ true
  pub closed : (j p : ℕ) → i ≤ j → j < length (by_depth s) → device p ≡ slice_index (by_depth s) j → has_port marks p ≡ true →
      has_port marks (on s (device p)) ≡ true

-- a word without bits marks nothing
no_bit : (marks : List ℕ) (n p : ℕ) → device p ≡ n → slice_index marks n ≡ 0 → has_port marks p ≡ false
unfolding has_port
no_bit marks n p e none = rw (e, none, bit_at-zero (p % 64)) refl

all_zero : (marks : List ℕ) (n : ℕ) → slice_index marks n < 2 ^ 64 → ((i : ℕ) → i < 64 → has_port marks (64 * n + i) ≡ false) → slice_index marks n ≡ 0
unfolding has_port
all_zero marks n low none =
    same_from_bits_below 64 (slice_index marks n) 0 low (omega arith) (λ i l.
    let word : (64 * n + i) / 64 ≡ n = omega arith in
    let bit : (64 * n + i) % 64 ≡ i = omega arith in
    zero_bit (slice_index marks n) i (rw (word, bit) at (none i l)))
  where
    zero_bit : (w i : ℕ) → (bit_at w i == 1) ≡ false → bit_at w i ≡ bit_at 0 i
    zero_bit w i h = rw (bit_at-zero i) (low_bit (bit_at w i) (bit_at-lt w i) h)
      where
        low_bit : (b : ℕ) → b < 2 → (b == 1) ≡ false → b ≡ 0
        low_bit b l e = grind (arith, nat_tests)

-- and one with some marks a port
some_bit : (marks : List ℕ) (n : ℕ) → slice_index marks n < 2 ^ 64 → slice_index marks n ≢ 0 → (k : ℕ) → k ≤ 64 →
    ((i : ℕ) → k ≤ i → i < 64 → has_port marks (64 * n + i) ≡ false) → (p : ℕ) × (device p ≡ n) × (has_port marks p ≡ true)
some_bit marks n low some zero h none = absurd (some (all_zero marks n low (λ i l. none i (omega arith) l)))
some_bit marks n low some (suc k) h none =
    elim (cases_Bool (has_port marks (64 * n + k))) [
      | inl e ↦ (64 * n + k, omega arith, e)
      | inr e ↦ some_bit marks n low some k (omega arith) (λ i l m. elim (cases_eq i k) [ inl f ↦ rw f e | inr f ↦ none i (omega arith) m ])
    ]

module _ (s : Shape) (set : ℕ → Bool) (valid : IsTree s) where
  pub begins : (marks : List ℕ) → ((q : ℕ) → has_port marks q ≡ (set q && is_port s q)) → (i : ℕ) → length (by_depth s) ≤ i → Marked s set marks i
  begins marks is i past =
      record {
        sound = λ p h. own p (sym (is p) ∙ h);
        base = λ p h. is p ∙ h;
        closed = λ j p l m e h. absurd (omega arith);
      }
    where
      own : (p : ℕ) → (set p && is_port s p) ≡ true → covers s set p ≡ true
      own p h =
          let both = and_parts (set p) (is_port s p) h in
          let low : p < 4160 = elim (cases_lt p 64) [ inl l ↦ omega arith | inr g ↦ port_below s valid p g both.1 ] in
          covers-from s set p (record { member = p; within = low; chosen = both.0; known = both.1; below = rw (path_is s p) (up_itself s 64 p) })

  pub skips : (marks : List ℕ) (i n : ℕ) → n ≡ slice_index (by_depth s) i → slice_index marks n ≡ 0 → Marked s set marks (i + 1) → Marked s set marks i
  skips marks i n is none m =
      record {
        sound = m.sound;
        base = m.base;
        closed = λ j p l k e h.
            elim (cases_eq i j) [
              | inl f ↦ absurd (false≢true (sym (no_bit marks n p (e ∙ sym (is ∙ ap (slice_index (by_depth s)) f)) none) ∙ h))
              | inr f ↦ m.closed j p (omega arith) k e h
            ];
      }

  pub marks_up : (marks after : List ℕ) (i n : ℕ) → i < length (by_depth s) → n ≡ slice_index (by_depth s) i → slice_index marks n < 2 ^ 64 → slice_index marks n ≢ 0 →
      ((q : ℕ) → has_port after q ≡ (q == on s n || has_port marks q)) → Marked s set marks (i + 1) → Marked s set after i
  marks_up marks after i n within is low some grown m =
      record {
        sound = λ p h.
            elim (or_cases (p == on s n) (has_port marks p) (sym (grown p) ∙ h)) [
              | inl e ↦
                  let found = some_bit marks n low some 64 (omega arith) (λ j a b. absurd (omega arith)) in
                  let deep : 64 ≤ found.0 = omega (arith, found.1, positive) in
                  rw (eqb-true p (on s n) e, ← found.1) (covers_up s set valid found.0 deep (m.sound found.0 found.2))
              | inr e ↦ m.sound p e
            ];
        base = λ p h. grown p ∙ or_right (p == on s n) (has_port marks p) (m.base p h);
        closed = λ j p l k e h.
            elim (or_cases (p == on s n) (has_port marks p) (sym (grown p) ∙ h)) [
              | inl f ↦ absurd (not_above j p l k e (eqb-true p (on s n) f))
              | inr f ↦ grown (on s (device p)) ∙ (elim (cases_eq i j) [
                | inl g ↦ or_left (on s (device p) == on s n) (has_port marks (on s (device p)))
                    (eq-eqb _ _ (ap (on s) (e ∙ sym (is ∙ ap (slice_index (by_depth s)) g))))
                | inr g ↦ or_right (on s (device p) == on s n) (has_port marks (on s (device p))) (m.closed j p (omega arith) k e f)
              ])
            ];
      }
    where
      positive : 0 < n
      positive = rw is (by_depth-hangs s i within).extender

      -- the extender on which n hangs stands before it
      not_above : (j p : ℕ) → i ≤ j → j < length (by_depth s) → device p ≡ slice_index (by_depth s) j → p ≡ on s n → ⊥
      not_above j p l k e f =
          let there = by_depth-hangs s i within in
          let later = by_depth-hangs s j k in
          let after_it : depth s (slice_index (by_depth s) i) ≤ depth s (slice_index (by_depth s) j) = by_depth-sorted s i j l k in
          let deep : 64 ≤ p = omega (arith, later.extender, e) in
          let above_it : depth s (device p) < depth s (slice_index (by_depth s) i) =
          less_deep s valid (slice_index (by_depth s) i) p (subst (λ (x : ℕ). HangsOn s (slice_index (by_depth s) i) x) (sym (f ∙ ap (on s) is)) there) deep in
          let same : depth s (device p) ≡ depth s (slice_index (by_depth s) j) = ap (depth s) e in
          omega (arith, after_it, above_it, same)

  -- a mark goes up the whole way
  climbs : (marks : List ℕ) → Marked s set marks 0 → (d x p : ℕ) → is_port s x ≡ true → has_port marks x ≡ true → among p (up s.on d x) ≡ true → has_port marks p ≡ true
  climbs marks m zero x p known h a =
      elim (among_cases p x [] (rw (up_none s x) at a)) [ inl e ↦ rw e h | inr e ↦ absurd (among_none p e) ]
  climbs marks m (suc d) x p known h a =
      elim (cases_lt x 64) [
        | inl l ↦ elim (among_cases p x [] (rw (up_low s (suc d) x l) at a)) [ inl e ↦ rw e h | inr e ↦ absurd (among_none p e) ]
        | inr g ↦ elim (among_cases p x _ (rw (up_high s d x g) at a)) [
          | inl e ↦ rw e h
          | inr e ↦
              let place = place_of (device x) (by_depth s) (in_order s x valid g known) in
              climbs marks m d (on s (device x)) p (port_above s valid x g known)
              (m.closed place.0 x (omega arith) place.1 (sym place.2) h) e
        ]
      ]

  pub marked_is : (marks : List ℕ) → Marked s set marks 0 → (p : ℕ) → has_port marks p ≡ covers s set p
  marked_is marks m p =
      elim (cases_Bool (covers s set p)) [
        | inl v ↦
            let c = covers-true s set p v in
            climbs marks m 64 c.member p c.known (m.base c.member (and_both c.chosen c.known)) (rw (path_is s c.member) at c.below) ∙ sym v
        | inr v ↦ false_from_ne_true (has_port marks p) (λ h. false≢true (sym v ∙ m.sound p h)) ∙ sym v
      ]
    where
      and_both : {a b : Bool} → a ≡ true → b ≡ true → (a && b) ≡ true
      and_both e f = rw (e, f) refl
