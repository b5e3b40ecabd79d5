-- Which VLANs have a member, by their rows.
use Rattle.std.proofs.Common.{◌≡◌, ℕ, ◌+◌, ◌<◌, ◌≤◌, Bool, true, false, cond, not, ◌&&◌, ◌==◌, ◌≢◌, List, length, replicate, refl, sym, subst, ap, max, ◌∙◌, inl, inr, ◌⊎◌, ◌||◌, ◌*◌, ◌^◌, ◌%◌, arith, ◌/◌, eq-eqb, bit_or, w64}
use Rattle.std.specs.Prelude.{slice_index, Option, Some, None, is_some, slice_set, IsTrue, ◌↔◌}
use Rattle.std.specs.Int.{bit_at}
use Rattle.std.specs.List.{list_any}
use Rattle.std.proofs.lemmas.Nat.Bits.{bit_at_set_same, bit_at_set_other, bit_at_or, bit_at-lt}
use Rattle.std.proofs.lemmas.Bool.{cases_Bool, cases_lt, cases_eq, ne_eqb, false≢true}
use Rattle.std.proofs.lemmas.List.{get_or_past, get_or-set_same, get_or-set_other}
use Rattle.exb_model.specs.declared.port_set.PortSet.{PortSet}
use Rattle.exb_model.specs.declared.vlan.Kind.TheVariants.{Tagged, Untagged}
use Rattle.exb_model.specs.PortBits.{has_port}
use Rattle.exb_model.specs.Ports.{port_in, below, all_ports}
use Rattle.exb_model.specs.Configuration.{kind_in}
use Rattle.exb_model.proofs.PortLemmas.{any_below-true, any_below-false}
use Rattle.exb_config.specs.declared.members.Members.{Members}
use Rattle.exb_config.specs.Rows.{has_member, kind_by, row_at, member_of, is_marked}
use Rattle.exb_model.proofs.JoinedWords.{none_past}
use Rattle.exb_model.proofs.PortBits.{get_or-same}

none_of_below : (p : ℕ → Bool) (n : ℕ) → list_any p (below n) ≡ false → (k : ℕ) → k < n → p k ≡ false
none_of_below p n none k low =
    elim (cases_Bool (p k)) [
      | inl hit ↦ absurd (false≢true (sym none ∙ any_below-true p n k low hit))
      | inr miss ↦ miss
    ]

port_past : (s : PortSet) (q : ℕ) → 4160 ≤ q → port_in s q ≡ false
port_past s q high = none_past s.words q (get_or_past s.words (q / 64) 0 (let sized = s.sized in omega arith))

-- ---- the members of one VLAN
kind_none : (m : Members) (q : ℕ) → is_some (kind_in m.tagged m.untagged q) ≡ false → (port_in m.tagged q ≡ false) × (port_in m.untagged q ≡ false)
kind_none m q h = by_tests (port_in m.tagged q) (port_in m.untagged q) h
  where
    by_tests : (t u : Bool) → is_some (cond u (Some Untagged) (cond t (Some Tagged) None)) ≡ false → (t ≡ false) × (u ≡ false)
    by_tests false false h = (refl, refl)
    by_tests true false h = absurd (false≢true (sym h))
    by_tests t true h = absurd (false≢true (sym h))

no_port : (m : Members) → has_member m ≡ false → (q : ℕ) → (port_in m.tagged q ≡ false) × (port_in m.untagged q ≡ false)
unfolding has_member
no_port m none q =
    elim (cases_lt q 4160) [
      | inl low ↦ kind_none m q (none_of_below (λ k. is_some (kind_in m.tagged m.untagged k)) 4160 none q low)
      | inr high ↦ (port_past m.tagged q high, port_past m.untagged q high)
    ]

pub no_kind : (m : Members) → has_member m ≡ false → (q : ℕ) → kind_in m.tagged m.untagged q ≡ None
no_kind m none q = let none_at = no_port m none q in rw (none_at.1, none_at.0) refl

none_has : (m : Members) → ((q : ℕ) → port_in m.tagged q ≡ false) → ((q : ℕ) → port_in m.untagged q ≡ false) → has_member m ≡ false
unfolding has_member
none_has m no_tagged no_untagged = any_below-false (λ q. is_some (kind_in m.tagged m.untagged q)) 4160 (λ q low. rw (no_untagged q, no_tagged q) refl)

pub not_empty : (m : Members) (a : Bool) → a ≡ false → (IsTrue a ↔ ((q : ℕ) → port_in m.tagged q ≡ false)) → a ≡ not (has_member m)
not_empty m a is no_tagged = by_test (cases_Bool (has_member m))
  where
    by_test : (has_member m ≡ true) ⊎ (has_member m ≡ false) → a ≡ not (has_member m)
    by_test (inl hit) = is ∙ sym (rw hit refl)
    by_test (inr miss) = absurd (false≢true (sym is ∙ no_tagged.1 (λ q. (no_port m miss q).0)))

-- no member where neither set has a port
pub empty_test : (m : Members) (a b : Bool) → (IsTrue a ↔ ((q : ℕ) → port_in m.tagged q ≡ false)) → (IsTrue b ↔ ((q : ℕ) → port_in m.untagged q ≡ false)) → (a && b) ≡ not (has_member m)
empty_test m true true no_tagged no_untagged = sym (rw (none_has m (no_tagged.0 refl) (no_untagged.0 refl)) refl)
empty_test m false b no_tagged no_untagged = not_empty m false refl no_tagged
empty_test m true false no_tagged no_untagged = by_test (cases_Bool (has_member m))
  where
    by_test : (has_member m ≡ true) ⊎ (has_member m ≡ false) → false ≡ not (has_member m)
    by_test (inl hit) = sym (rw hit refl)
    by_test (inr miss) = absurd (false≢true (no_untagged.1 (λ q. (no_port m miss q).1)))

-- ---- the row of a VLAN
pub none_known : list_any (λ q. is_some (kind_by None q)) all_ports ≡ false
none_known = any_below-false (λ q. is_some (kind_by None q)) 4160 (λ q low. refl)

pub is_known : (m : Members) → has_member m ≡ true → list_any (λ q. is_some (kind_in m.tagged m.untagged q)) all_ports ≡ true
unfolding has_member
is_known m has = has

-- ---- which devices have a member
mark_same : (s d e : ℕ) → (bit_at (bit_or s (1 * 2 ^ (d % 64) % 2 ^ 64)) (e % 64) == 1) ≡ (e % 64 == d % 64 || (bit_at s (e % 64) == 1))
mark_same s d e =
    elim (cases_eq (e % 64) (d % 64)) [
      | inl is ↦ rw (is, bit_at_set_same w64 s (d % 64) (omega arith), eq-eqb (d % 64) (d % 64) refl) refl
      | inr other ↦ rw (bit_at_set_other w64 s (d % 64) (omega arith) (e % 64) other, ne_eqb (e % 64) (d % 64) other) refl
    ]

pub is_marked-mark : (s d e : ℕ) → is_marked (bit_or s (1 * 2 ^ (d % 64) % 2 ^ 64)) e ≡ (e % 64 == d % 64 || is_marked s e)
unfolding is_marked
is_marked-mark s d e = mark_same s d e

-- no device before this one has a member unless it is marked
abbrev pub IsSpreadTo : ℕ → Members → ℕ → Type 0
IsSpreadTo spread m device = (q : ℕ) → q / 64 < device → is_marked spread (q / 64) ≡ false → kind_in m.tagged m.untagged q ≡ None

not_or : (a b : Bool) → (a || b) ≡ false → (a ≡ false) × (b ≡ false)
not_or false false h = (refl, refl)
not_or true b h = absurd (false≢true (sym h))
not_or false true h = absurd (false≢true (sym h))

-- a device that is marked may have a member
pub spread_marked : (s t d : ℕ) (m : Members) → ((e : ℕ) → is_marked t e ≡ (e % 64 == d % 64 || is_marked s e)) → IsSpreadTo s m d → IsSpreadTo t m (d + 1)
spread_marked s t d m marks before q low none =
    let two = not_or (q / 64 % 64 == d % 64) (is_marked s (q / 64)) (sym (marks (q / 64)) ∙ none) in
    elim (cases_lt (q / 64) d) [
      | inl lower ↦ before q lower two.1
      | inr not_lower ↦
          let is : q / 64 ≡ d = omega arith in
          absurd (false≢true (sym two.0 ∙ eq-eqb (q / 64 % 64) (d % 64) (ap (λ k. k % 64) is)))
    ]

-- one that has none needs no mark
pub spread_passed : (s d : ℕ) (m : Members) → ((q : ℕ) → q / 64 ≡ d → kind_in m.tagged m.untagged q ≡ None) → IsSpreadTo s m d → IsSpreadTo s m (d + 1)
spread_passed s d m none_on before q low none =
    elim (cases_lt (q / 64) d) [
      | inl lower ↦ before q lower none
      | inr not_lower ↦ none_on q (omega arith)
    ]

no_kind_at : (m : Members) (q : ℕ) → port_in m.tagged q ≡ false → port_in m.untagged q ≡ false → kind_in m.tagged m.untagged q ≡ None
no_kind_at m q no_tagged no_untagged = rw (no_untagged, no_tagged) refl

pub spread_whole : (s d : ℕ) (m : Members) → 65 ≤ d → IsSpreadTo s m d → (q : ℕ) → is_marked s (q / 64) ≡ false → kind_in m.tagged m.untagged q ≡ None
spread_whole s d m whole before q none =
    elim (cases_lt q 4160) [
      | inl low ↦ before q (omega arith) none
      | inr high ↦ no_kind_at m q (port_past m.tagged q high) (port_past m.untagged q high)
    ]

-- ---- which places have a member
-- no device before this one has a member at a place whose bit isn't set
abbrev pub IsPlacedTo : ℕ → Members → ℕ → Type 0
IsPlacedTo places m device = (q : ℕ) → q / 64 < device → is_marked places (q % 64) ≡ false → kind_in m.tagged m.untagged q ≡ None

-- a bit that two words together don't have, neither has
no_bit : (a b i : ℕ) → (bit_at (bit_or a b) i == 1) ≡ false → ((bit_at a i == 1) ≡ false) × ((bit_at b i == 1) ≡ false)
no_bit a b i none = (first (cases_eq (bit_at a i) 1), second (cases_eq (bit_at b i) 1))
  where
    first : (bit_at a i ≡ 1) ⊎ (bit_at a i ≢ 1) → (bit_at a i == 1) ≡ false
    first (inl is) =
        let both : bit_at (bit_or a b) i ≡ max 1 (bit_at b i) = bit_at_or a b i ∙ ap (λ x. max x (bit_at b i)) is in
        absurd (false≢true (sym none ∙ eq-eqb (bit_at (bit_or a b) i) 1 (omega (arith, both, bit_at-lt b i))))
    first (inr other) = ne_eqb (bit_at a i) 1 other

    second : (bit_at b i ≡ 1) ⊎ (bit_at b i ≢ 1) → (bit_at b i == 1) ≡ false
    second (inl is) =
        let both : bit_at (bit_or a b) i ≡ max (bit_at a i) 1 = bit_at_or a b i ∙ ap (max (bit_at a i)) is in
        absurd (false≢true (sym none ∙ eq-eqb (bit_at (bit_or a b) i) 1 (omega (arith, both, bit_at-lt a i))))
    second (inr other) = ne_eqb (bit_at b i) 1 other

-- the places of one device more
pub placed_more : (places d : ℕ) (m : Members) → IsPlacedTo places m d → IsPlacedTo (bit_or places (bit_or (slice_index m.tagged.words d) (slice_index m.untagged.words d))) m (d + 1)
unfolding is_marked has_port
placed_more places d m before q low none =
    let i : ℕ = q % 64 % 64 in
    let tagged = slice_index m.tagged.words d in
    let untagged = slice_index m.untagged.words d in
    let parts = no_bit places (bit_or tagged untagged) i none in
    let words = no_bit tagged untagged i parts.1 in
    let place : i ≡ q % 64 = omega arith in
    elim (cases_lt (q / 64) d) [
      | inl lower ↦ before q lower parts.0
      | inr not_lower ↦
          let is : d ≡ q / 64 = omega arith in
          no_kind_at m q
          (subst (λ (j : ℕ). (bit_at (slice_index m.tagged.words (q / 64)) j == 1) ≡ false) place (subst (λ (e : ℕ). (bit_at (slice_index m.tagged.words e) i == 1) ≡ false) is words.0))
          (subst (λ (j : ℕ). (bit_at (slice_index m.untagged.words (q / 64)) j == 1) ≡ false) place (subst (λ (e : ℕ). (bit_at (slice_index m.untagged.words e) i == 1) ≡ false) is words.1))
    ]

pub placed_whole : (places d : ℕ) (m : Members) → 65 ≤ d → IsPlacedTo places m d → (q : ℕ) → is_marked places (q % 64) ≡ false → kind_in m.tagged m.untagged q ≡ None
placed_whole places d m whole before q none =
    elim (cases_lt q 4160) [
      | inl low ↦ before q (omega arith) none
      | inr high ↦ no_kind_at m q (port_past m.tagged q high) (port_past m.untagged q high)
    ]

none_on_word : (words : List ℕ) (d q : ℕ) → slice_index words d ≡ 0 → q / 64 ≡ d → slice_index words (q / 64) ≡ 0
none_on_word words d q zero_at is = ap (slice_index words) is ∙ zero_at

is_zero : (x : ℕ) → not (x == 0) ≡ false → x ≡ 0
is_zero x told =
    elim (cases_eq x 0) [
      | inl is ↦ is
      | inr other ↦ absurd (false≢true (sym told ∙ ap not (ne_eqb x 0 other)))
    ]

-- a device has no member where both sets have no port of it
pub none_on : (m : Members) (d : ℕ) → slice_index m.tagged.words d ≡ 0 → not (slice_index m.untagged.words d == 0) ≡ false →
    (q : ℕ) → q / 64 ≡ d → kind_in m.tagged m.untagged q ≡ None
none_on m d no_tagged no_untagged q is =
    no_kind_at m q (none_past m.tagged.words q (none_on_word m.tagged.words d q no_tagged is)) (none_past m.untagged.words q (none_on_word m.untagged.words d q (is_zero (slice_index m.untagged.words d) no_untagged) is))

-- what a test says where its opposite is told
pub has_of : (a b : Bool) → a ≡ not b → a ≡ false → b ≡ true
has_of a true is told = refl
has_of a false is told = absurd (false≢true (sym told ∙ is))

pub has_not : (a b : Bool) → a ≡ not b → a ≡ true → b ≡ false
has_not a false is told = refl
has_not a true is told = absurd (false≢true (sym is ∙ told))

-- ---- the rows by VLAN
-- a row is put at its place
row_put : (rows : List (Option Members)) (v : ℕ) (o : Option Members) → v < length rows → (w : ℕ) → row_at (slice_set rows v o) w ≡ cond (w == v) o (row_at rows w)
row_put rows v o low w =
    elim (cases_eq w v) [
      | inl is ↦ rw (is, eq-eqb v v refl) (get_or-set_same rows v o None low)
      | inr other ↦ rw (ne_eqb w v other) (get_or-set_other rows v w o None other)
    ]

pub put_member : (rows : List (Option Members)) (v : ℕ) (row : Option Members) (m : Members) → v < length rows → ((q : ℕ) → kind_by row q ≡ kind_in m.tagged m.untagged q) → (w q : ℕ) →
    member_of (slice_set rows v row) w q ≡ cond (w == v) (kind_in m.tagged m.untagged q) (member_of rows w q)
put_member rows v row m low is w q = rw (row_put rows v row low w) (by_test (w == v))
  where
    by_test : (b : Bool) → kind_by (cond b row (row_at rows w)) q ≡ cond b (kind_in m.tagged m.untagged q) (member_of rows w q)
    by_test true = is q
    by_test false = refl

-- no VLAN has a member to begin with
pub first_kinds : (n v q : ℕ) → member_of (replicate n None) v q ≡ None
first_kinds n v q = rw (get_or-same {X = Option Members} n v None) refl
