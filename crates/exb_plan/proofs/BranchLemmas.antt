-- The trunks of extenders, and the ports below a bridge port.
use Rattle.std.proofs.Common.{◌≡◌, ℕ, ◌+◌, ◌/◌, ◌%◌, ◌<◌, ◌≤◌, ◌==◌, ◌&&◌, Bool, true, false, not, cond, List, length, slice_index, slice_set, refl, ◌∙◌, ap, inl, inr, arith, nat_le}
use Rattle.std.proofs.lemmas.Bool.{cases_eq, cases_lt, cases_Bool, lt-ltb, le-ltb, le-leb, lt-leb, ltb-true, leb-true, and_parts, eq-eqb, ne_eqb}
use Rattle.std.specs.Prelude.{nat_lt}
use Rattle.std.proofs.lemmas.List.{get_or-set_same, get_or-set_other}
use Rattle.exb_model.specs.Tree.{Shape, is_port, is_extender, is_cascade, is_extended, is_under, trunk}

-- ---- one trunk more
pub trunks-in : (t : Shape) (trunks : List ℕ) (k x : ℕ) → length trunks ≡ 65 → k < 65 →
    ((n : ℕ) → n < k → slice_index trunks n ≡ cond (is_extender t n) (trunk t n + 1) 0) → ((n : ℕ) → k ≤ n → slice_index trunks n ≡ 0) →
    is_extender t k ≡ true → x ≡ trunk t k + 1 → (n : ℕ) → n < k + 1 → slice_index (slice_set trunks k x) n ≡ cond (is_extender t n) (trunk t n + 1) 0
trunks-in t trunks k x sized low before after there is n h =
    elim (cases_eq n k) [
      | inl e ↦ rw (e, get_or-set_same trunks k x 0 (omega arith), there) is
      | inr e ↦ rw (get_or-set_other trunks k n x 0 e) (before n (omega arith))
    ]

pub trunks-out : (t : Shape) (trunks : List ℕ) (k : ℕ) → ((n : ℕ) → n < k → slice_index trunks n ≡ cond (is_extender t n) (trunk t n + 1) 0) →
    ((n : ℕ) → k ≤ n → slice_index trunks n ≡ 0) → is_extender t k ≡ false → (n : ℕ) → n < k + 1 → slice_index trunks n ≡ cond (is_extender t n) (trunk t n + 1) 0
trunks-out t trunks k before after none n h =
    elim (cases_eq n k) [
      | inl e ↦ rw (e, none) (after k (omega arith))
      | inr e ↦ before n (omega arith)
    ]

-- ---- a port below a bridge port
-- the test on the trunk is that of an extended port's extender
pub under_is : (t : Shape) (k q x : ℕ) (rest : Bool) → x ≡ cond (is_extender t (q / 64)) (trunk t (q / 64) + 1) 0 →
    (x == k + 1 && (is_extended t q && rest)) ≡ (is_under t k q && rest)
under_is t k q x rest is =
    elim (cases_Bool (is_extended t q)) [
      | inr e ↦ rw e (none (x == k + 1))
      | inl e ↦
          let parts = and_parts (nat_le 64 q) (is_port t q && not (is_cascade t q)) e in
          let known = and_parts (is_port t q) (not (is_cascade t q)) parts.1 in
          let there : is_extender t (q / 64) ≡ true =
          rw (lt-ltb 0 (q / 64) (some q (leb-true 64 q parts.0)), lt-ltb 0 (slice_index t.ports (q / 64)) (more q (ltb-true (q % 64) (slice_index t.ports (q / 64)) known.0))) refl in
          let at : x ≡ trunk t (q / 64) + 1 = is ∙ (rw there refl) in
          rw (e, at) (ap (λ b. b && rest) (shifted (trunk t (q / 64)) k))
    ]
  where
    none : (b : Bool) → (b && false) ≡ false
    none true = refl
    none false = refl

    some : (q : ℕ) → 64 ≤ q → 0 < q / 64
    some q h = omega arith

    more : (q : ℕ) → q % 64 < slice_index t.ports (q / 64) → 0 < slice_index t.ports (q / 64)
    more q h = omega arith

    shifted : (a b : ℕ) → (a + 1 == b + 1) ≡ (a == b)
    shifted a b =
        elim (cases_eq a b) [
          | inl f ↦ rw (eq-eqb a b f, eq-eqb (a + 1) (b + 1) (ap (λ (n : ℕ). n + 1) f)) refl
          | inr f ↦ rw (ne_eqb a b f, ne_eqb (a + 1) (b + 1) (λ g. f (omega arith))) refl
        ]

-- ---- the bridge ports that a port is under
pub one_of : (first past k : ℕ) → first ≤ k + 1 → k + 1 < past → true ≡ (nat_le first (k + 1) && nat_lt (k + 1) past)
one_of first past k low high = rw (le-leb first (k + 1) low, lt-ltb (k + 1) past high) refl

none_of : (first past k : ℕ) → past ≤ k + 1 → false ≡ (nat_le first (k + 1) && nat_lt (k + 1) past)
none_of first past k high = rw (le-ltb (k + 1) past high) (and_no (nat_le first (k + 1)))
  where
    and_no : (c : Bool) → false ≡ (c && false)
    and_no true = refl
    and_no false = refl

-- none where it isn't extended
pub not_under : (t : Shape) (p first past k : ℕ) → is_extended t p ≡ false → past ≤ k + 1 → is_under t k p ≡ (nat_le first (k + 1) && nat_lt (k + 1) past)
not_under t p first past k h high = rw h (none_of first past k high)

-- else its trunk alone
pub under_trunk : (t : Shape) (p first past k : ℕ) → is_extended t p ≡ true → first ≡ trunk t (p / 64) + 1 → past ≡ first + 1 →
    is_under t k p ≡ (nat_le first (k + 1) && nat_lt (k + 1) past)
under_trunk t p first past k h is next = rw h (by_trunk (trunk t (p / 64)) is)
  where
    by_trunk : (a : ℕ) → first ≡ a + 1 → (a == k) ≡ (nat_le first (k + 1) && nat_lt (k + 1) past)
    by_trunk a e =
        elim (cases_eq a k) [
          | inl same ↦ rw (eq-eqb a k same) (one_of first past k (omega (arith, e, same)) (omega (arith, e, same, next)))
          | inr other ↦ elim (cases_lt a k) [
            | inl less ↦ rw (ne_eqb a k other) (none_of first past k (omega (arith, e, less, next)))
            | inr more ↦ rw (ne_eqb a k other, lt-leb first (k + 1) (omega (arith, e, more, other))) refl
          ]
        ]
