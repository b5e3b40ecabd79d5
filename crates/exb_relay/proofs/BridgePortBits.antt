-- The ports of the bridge at which a frame may go out, as the bits of a word that are gone through, lowest first.
use Rattle.std.proofs.Common.{◌≡◌, ◌≢◌, ◌⊎◌, ℕ, zero, suc, ◌+◌, ◌*◌, ◌%◌, ◌^◌, ◌<◌, ◌≤◌, ◌==◌, ◌&&◌, ◌||◌, ◌++◌, cond, max, Bool, true, false, List, [], length, Option, Some, None, refl, sym, ◌∙◌, ap, arith, inl, inr, eq-eqb, append_assoc, length-append, bit_and, bit_or, w64}
use Rattle.std.specs.List.{flat_map, range_with_len}
use Rattle.std.specs.Int.{bit_at, bit_not, trailing_zeros}
use Rattle.std.proofs.lemmas.List.{append-nil}
use Rattle.std.proofs.lemmas.Bool.Decides.{nat_tests}
use Rattle.std.proofs.lemmas.Bool.{cases_eq, cases_Bool, eqb-true, false≢true, false_from_ne_true}
use Rattle.std.proofs.lemmas.Nat.{and_le_l}
use Rattle.std.proofs.lemmas.Nat.Bits.{bit_at_or, bit_at_set_same, bit_at_set_other, bit_at_clear_same, bit_at_clear_other, bit_at-trailing_zeros, bit_at-lt, bit_at-zero}
use Rattle.exb_model.specs.declared.vlan.Kind.{Kind}
use Rattle.exb_model.specs.declared.vlan.Kind.TheVariants.{Tagged, Untagged}
use Rattle.exb_model.specs.Masks.{bits_of}
use Rattle.exb_model.specs.Ports.{below}
use Rattle.exb_model.specs.Refusals.{is_empty_set}
use Rattle.exb_model.specs.Tree.{Shape, IsTree, device, trunk, is_under, by_depth}
use Rattle.exb_model.specs.Numbers.{Numbers}
use Rattle.exb_config.proofs.PortMasks.{mask_bit}
use Rattle.exb_model.proofs.PortLemmas.{filter_below-none}
use Rattle.exb_model.proofs.TreeOrder.{in_order}
use Rattle.exb_relay.specs.declared.send.SendTo.{SendTo}
use Rattle.exb_relay.specs.declared.source.Source.{Source}
use Rattle.exb_relay.specs.Sends.{local_send}
use Rattle.exb_relay.specs.SendsBySource.{kind_among, set_below, set_word, words_for, member_sends, member_list}
use Rattle.exb_relay.proofs.HearersBelow.{among}
use Rattle.exb_relay.proofs.Lists.{no_one}
use Rattle.exb_relay.proofs.PortSends.{flat_agree}
use Rattle.exb_relay.proofs.PortsBelow.{under_extended, under_trunk, extended_high, extended_external, external_port}

-- ---- which ports they are
either_one : (a b : ℕ) → a < 2 → b < 2 → (max a b == 1) ≡ (a == 1 || b == 1)
either_one a b low_a low_b = grind (arith, nat_tests)

neither : (a b : Bool) → (a || b) ≡ false → (a ≡ false) × (b ≡ false)
neither true b h = absurd (false≢true (sym h))
neither false b h = (refl, h)

-- a port whose bit is 0 in both of two masks
no_bit : (f g : ℕ → Bool) (k : ℕ) → k < 64 → (bit_at (bit_or (bits_of (λ j. f (64 * 0 + j)) 64) (bits_of (λ j. g (64 * 0 + j)) 64)) k == 1) ≡ false → (f k ≡ false) × (g k ≡ false)
no_bit f g k low none =
    let fs = bits_of (λ j. f (64 * 0 + j)) 64 in
    let gs = bits_of (λ j. g (64 * 0 + j)) 64 in
    let here : 64 * 0 + k ≡ k = omega arith in
    let f_bit : (bit_at fs k == 1) ≡ f k = mask_bit (λ j. f (64 * 0 + j)) k low ∙ ap f here in
    let g_bit : (bit_at gs k == 1) ≡ g k = mask_bit (λ j. g (64 * 0 + j)) k low ∙ ap g here in
    let bits : (bit_at (bit_or fs gs) k == 1) ≡ (f k || g k) =
    ap (λ (n : ℕ). n == 1) (bit_at_or fs gs k) ∙ (either_one (bit_at fs k) (bit_at gs k) (bit_at-lt fs k) (bit_at-lt gs k) ∙ (λ at. f_bit at || g_bit at)) in
    neither (f k) (g k) (sym bits ∙ none)

pub at_bridge : (f : Kind → ℕ → Bool) (tagged untagged : ℕ) → tagged ≡ bits_of (λ j. f Tagged (64 * 0 + j)) 64 → untagged ≡ bits_of (λ j. f Untagged (64 * 0 + j)) 64 →
    (kind : Kind) (k : ℕ) → k < 64 → (bit_at (bit_or tagged untagged) k == 1) ≡ false → f kind k ≡ false
at_bridge f tagged untagged t u Tagged k low none = (no_bit (f Tagged) (f Untagged) k low (rw (t, u) at none)).0
at_bridge f tagged untagged t u Untagged k low none = (no_bit (f Tagged) (f Untagged) k low (rw (t, u) at none)).1

module _ (ways p : ℕ) (low : p < 64) where
  -- one bit more
  pub bit_here : bit_at (bit_or ways (1 * 2 ^ p % 2 ^ 64)) p ≡ 1
  bit_here = bit_at_set_same w64 ways p low

  pub bit_stays : (k : ℕ) → bit_at ways k ≡ 1 → bit_at (bit_or ways (1 * 2 ^ p % 2 ^ 64)) k ≡ 1
  bit_stays k one =
      elim (cases_eq k p) [
        | inl e ↦ rw e bit_here
        | inr n ↦ bit_at_set_other w64 ways p low k n ∙ one
      ]

  pub bit_was : (k : ℕ) → (bit_at (bit_or ways (1 * 2 ^ p % 2 ^ 64)) k == 1) ≡ false → (bit_at ways k == 1) ≡ false
  bit_was k none = false_from_ne_true _ (λ h. false≢true (sym none ∙ eq-eqb _ _ (bit_stays k (one_from (bit_at ways k) h))))
    where
      one_from : (n : ℕ) → (n == 1) ≡ true → n ≡ 1
      one_from n h = eqb-true n 1 h

-- no port is below a bridge port on which no extender hangs
pub none_deep : (t : Shape) → IsTree t → (items : List ℕ) → items ≡ by_depth t → (ways : ℕ) → ((n : ℕ) → among items n ≡ true → bit_at ways (trunk t n) ≡ 1) →
    (k q : ℕ) → (bit_at ways k == 1) ≡ false → is_under t k q ≡ false
none_deep t valid items order ways hung k q none = false_from_ne_true _ (λ u.
    let deep = under_extended t k q u in
    let listed : among items (device q) ≡ true = rw order (in_order t q valid (extended_high t q deep) (external_port t q (extended_external t q deep))) in
    let one : bit_at ways k ≡ 1 = ap (bit_at ways) (sym (under_trunk t k q u)) ∙ hung (device q) listed in
    false≢true (sym none ∙ eq-eqb _ _ one))

-- ---- lists that are made of the numbers of a range
module _ {X : Type 0} (f g : ℕ → List X) where
  agree : (a n : ℕ) → ((q : ℕ) → a ≤ q → q < a + n → f q ≡ g q) → flat_map f (range_with_len a n) ≡ flat_map g (range_with_len a n)
  agree a zero same = refl
  agree a (suc n) same =
      ap (λ xs. xs ++ flat_map f (range_with_len (a + 1) n)) (same a (omega arith) (omega arith))
      ∙ ap (λ xs. g a ++ xs) (agree (a + 1) n (λ q low high. same q (omega arith) (omega arith)))

  -- where the first number that gives something gives it no more
  first : (a n k : ℕ) → a ≤ k → k < a + n
      → ((q : ℕ) → q < k → f q ≡ []) → ((q : ℕ) → q ≤ k → g q ≡ []) → ((q : ℕ) → k < q → q < a + n → f q ≡ g q)
      → flat_map f (range_with_len a n) ≡ f k ++ flat_map g (range_with_len a n)
  first a zero k low high before none after = absurd (omega arith)
  first a (suc n) k low high before none after =
      elim (cases_eq a k) [
        | inl here ↦
            ap (λ q. f q ++ flat_map f (range_with_len (a + 1) n)) here
            ∙ ap (λ xs. f k ++ xs) (agree (a + 1) n (λ q above under. after q (omega arith) (omega arith)))
            ∙ ap (λ xs. f k ++ (xs ++ flat_map g (range_with_len (a + 1) n))) (sym (none a (omega arith)))
        | inr later ↦
            ap (λ xs. xs ++ flat_map f (range_with_len (a + 1) n)) (before a (omega arith))
            ∙ first (a + 1) n k (omega arith) (omega arith) before none (λ q above under. after q above (omega arith))
            ∙ ap (λ xs. f k ++ (xs ++ flat_map g (range_with_len (a + 1) n))) (sym (none a (omega arith)))
      ]

few_of : {X : Type 0} (f : ℕ → List X) (c : ℕ) → ((q : ℕ) → length (f q) ≤ c) → (a n : ℕ) → length (flat_map f (range_with_len a n)) ≤ c * n
few_of f c few a zero = omega arith
few_of f c few a (suc n) =
    let rest = few_of f c few (a + 1) n in
    let first = few a in
    let whole = length-append (f a) (flat_map f (range_with_len (a + 1) n)) in
    let times : c * suc n ≡ c * n + c = omega arith in
    omega (arith, whole, rest, first, times)

-- ---- the bits of a word
-- what is given for number k, if its bit is 1
abbrev pub at_bits : {X : Type 0} → ℕ → (ℕ → List X) → ℕ → List X
at_bits w f k = cond (bit_at w k == 1) (f k) []

abbrev pub cleared : ℕ → ℕ → ℕ
cleared w at = bit_and w (bit_not w64 (1 * 2 ^ at % 2 ^ 64))

pub record IsLowest (w at : ℕ) : Type 0 where
  pub few : at < 64
  pub bit : bit_at w at ≡ 1
  pub below : (q : ℕ) → q < at → bit_at w q ≡ 0

pub lowest : (w : ℕ) → w ≢ 0 → w < 2 ^ 64 → IsLowest w (trailing_zeros w64 w)
lowest w some small =
    let bits = bit_at-trailing_zeros w64 w (omega arith) small in
    record { few = bits.0; bit = bits.1; below = λ q low. bits.2 q low }

pub cleared_lower : (w at : ℕ) → at < 64 → bit_at w at ≡ 1 → cleared w at < w
cleared_lower w at few one =
    elim (cases_eq (cleared w at) w) [
      | inl same ↦ absurd (not_both (bit_at_clear_same w64 w at few) (ap (λ n. bit_at n at) same ∙ one))
      | inr other ↦ omega (arith, and_le_l w (bit_not w64 (1 * 2 ^ at % 2 ^ 64)))
    ]
  where
    not_both : {b : ℕ} → b ≡ 0 → b ≡ 1 → ⊥
    not_both none one = omega arith

module _ {X : Type 0} (f : ℕ → List X) where
  bits_first : (w at : ℕ) → IsLowest w at → flat_map (at_bits w f) (below 64) ≡ f at ++ flat_map (at_bits (cleared w at) f) (below 64)
  unfolding below
  bits_first w at low =
      first (at_bits w f) (at_bits (cleared w at) f) 0 64 at (omega arith) (omega (arith, low.few))
      (λ q under. rw (low.below q under) refl)
      (λ q under. gone q (cases_eq q at) under)
      (λ q above few. rw (bit_at_clear_other w64 w at low.few q few (λ e. omega (arith, e, above))) refl)
      ∙ rw low.bit refl
    where
      gone : (q : ℕ) → (q ≡ at) ⊎ (q ≢ at) → q ≤ at → at_bits (cleared w at) f q ≡ []
      gone q (inl same) under = rw (same, bit_at_clear_same w64 w at low.few) refl
      gone q (inr other) under =
          let few = low.few in
          rw (bit_at_clear_other w64 w at low.few q (omega (arith, few, under)) other, low.below q (omega (arith, under, other))) refl

  pub begins : (w : ℕ) (xs : List X) → xs ≡ [] → ((k : ℕ) → k < 64 → (bit_at w k == 1) ≡ false → f k ≡ []) →
      xs ++ flat_map (at_bits w f) (below 64) ≡ flat_map f (below 64)
  begins w xs empty none =
      ap (λ ys. ys ++ flat_map (at_bits w f) (below 64)) empty
      ∙ flat_agree (at_bits w f) f 64 (λ k low. by_bit k low (cases_Bool (bit_at w k == 1)))
    where
      by_bit : (k : ℕ) → k < 64 → ((bit_at w k == 1) ≡ true) ⊎ ((bit_at w k == 1) ≡ false) → at_bits w f k ≡ f k
      by_bit k low (inl e) = rw e refl
      by_bit k low (inr e) = rw e (sym (none k low e))

  pub goes_on : (w at : ℕ) (xs ys zs : List X) → IsLowest w at → xs ++ flat_map (at_bits w f) (below 64) ≡ zs → ys ≡ xs ++ f at →
      ys ++ flat_map (at_bits (cleared w at) f) (below 64) ≡ zs
  goes_on w at xs ys zs low so_far more =
      ap (λ us. us ++ flat_map (at_bits (cleared w at) f) (below 64)) more
      ∙ append_assoc xs (f at) (flat_map (at_bits (cleared w at) f) (below 64))
      ∙ ap (λ us. xs ++ us) (sym (bits_first w at low))
      ∙ so_far

  pub ends : (w : ℕ) (xs zs : List X) → w ≡ 0 → xs ++ flat_map (at_bits w f) (below 64) ≡ zs → xs ≡ zs
  ends w xs zs none so_far =
      sym (append-nil xs) ∙ ap (λ us. xs ++ us) (sym (no_one (at_bits w f) 64 (λ k low. rw (none, bit_at-zero k) refl))) ∙ so_far

-- ---- the sends at them
module _ (t : Shape) (m : Numbers) (s : Source) (tagged untagged : ℕ → Bool) where
  one_local : (k : ℕ) (o : Option Kind) → length (local_send k o) ≤ 1
  one_local k None = omega arith
  one_local k (Some kind) = omega arith

  one_word : (k : ℕ) (kind : Kind) (set : List ℕ) → length (set_word m s k kind set) ≤ 1
  one_word k kind set = by_tests (is_empty_set set) (m.group k set)
    where
      by_tests : (c : Bool) (o : Option ℕ) → length (cond c [] (words_for s k kind o)) ≤ 1
      by_tests true o = omega arith
      by_tests false None = omega arith
      by_tests false (Some g) = omega arith

  few_at : (k : ℕ) → length (member_sends t m s tagged untagged k) ≤ 3
  few_at k =
      let here = local_send k (cond (k == s.port) None (kind_among tagged untagged k)) in
      let one = set_word m s k Tagged (set_below t k tagged) in
      let two = set_word m s k Untagged (set_below t k untagged) in
      let a = one_local k (cond (k == s.port) None (kind_among tagged untagged k)) in
      let b = one_word k Tagged (set_below t k tagged) in
      let c = one_word k Untagged (set_below t k untagged) in
      let d = length-append one two in
      let e = length-append here (one ++ two) in
      omega (arith, a, b, c, d, e)

  -- there is room for two more
  pub has_room : (w : ℕ) (xs : List SendTo) → xs ++ flat_map (at_bits w (member_sends t m s tagged untagged)) (below 64) ≡ member_list t m s tagged untagged → length xs + 2 ≤ 256
  unfolding member_list below
  has_room w xs so_far =
      let all = few_of (member_sends t m s tagged untagged) 3 few_at 0 64 in
      let whole = length-append xs (flat_map (at_bits w (member_sends t m s tagged untagged)) (range_with_len 0 64)) in
      let same = ap length so_far in
      omega (arith, all, whole, same)

  -- nothing is sent where no hearer is, and no extender hangs
  pub nothing_at : (k : ℕ) → tagged k ≡ false → untagged k ≡ false → ((q : ℕ) → is_under t k q ≡ false) → member_sends t m s tagged untagged k ≡ []
  nothing_at k no_tagged no_untagged none =
      rw (no_tagged, no_untagged, no_set tagged, no_set untagged) (either (k == s.port))
    where
      and_false : (c : Bool) → (c && false) ≡ false
      and_false true = refl
      and_false false = refl

      no_set : (test : ℕ → Bool) → set_below t k test ≡ []
      no_set test = filter_below-none _ 4160 (λ q. rw (none q) (and_false (test q)))

      either : (c : Bool) → local_send k (cond c None None) ++ [] ≡ []
      either true = refl
      either false = refl
