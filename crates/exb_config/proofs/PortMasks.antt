-- The ports of a device as bits.
use Rattle.std.proofs.Common.{◌≡◌, ℕ, ◌+◌, ◌-◌, ◌*◌, ◌^◌, ◌<◌, ◌==◌, cond, min, not, ◌&&◌, Bool, true, false, refl, sym, ap, ◌∙◌, arith, bit_and, w64}
use Rattle.std.specs.Prelude.{Some, None}
use Rattle.std.specs.Int.{bit_at, bit_not}
use Rattle.std.proofs.lemmas.Bool.Decides.{nat_tests}
use Rattle.std.proofs.lemmas.Nat.{and_le_l}
use Rattle.std.proofs.lemmas.Nat.Bits.{bit_at_and, bit_at_not, bit_at-lt, same_from_bits_below}
use Rattle.exb_model.specs.declared.vlan.Kind.TheVariants.{Tagged, Untagged}
use Rattle.exb_model.specs.Masks.{bits_of}
use Rattle.exb_model.specs.Ports.{port_in}
use Rattle.exb_model.specs.Configuration.{kind_in}
use Rattle.exb_model.specs.Refusals.{is_kind}
use Rattle.exb_model.proofs.MaskLemmas.{bits_of-lt, bit_at-bits_of, bit_is_one, bits_of-same}
use Rattle.exb_model.proofs.PortBits.{same_test}
use Rattle.exb_config.specs.declared.members.Members.{Members}

both_ones : (a b : ℕ) → a < 2 → b < 2 → (min a b == 1) ≡ (a == 1 && b == 1)
both_ones a b low_a low_b = grind (arith, nat_tests)

other_one : (a : ℕ) → a < 2 → (1 - a == 1) ≡ not (a == 1)
other_one a low = grind (arith, nat_tests)

-- a bit is 1 where the test passes
pub mask_bit : (f : ℕ → Bool) (i : ℕ) → i < 64 → (bit_at (bits_of f 64) i == 1) ≡ f i
mask_bit f i few = ap (λ (n : ℕ). n == 1) (bit_at-bits_of f 64 i few) ∙ bit_is_one (f i)

-- a number is told by its bits
mask_is : (n : ℕ) (f : ℕ → Bool) → n < 2 ^ 64 → ((i : ℕ) → i < 64 → (bit_at n i == 1) ≡ f i) → n ≡ bits_of f 64
mask_is n f low bits =
    same_from_bits_below 64 n (bits_of f 64) low (bits_of-lt f 64) (λ i few.
    same_test (bit_at n i) (bit_at (bits_of f 64) i) (bit_at-lt n i) (bit_at-lt (bits_of f 64) i) (bits i few ∙ sym (mask_bit f i few)))

-- the ports that pass both tests
pub mask_both : (f g : ℕ → Bool) → bit_and (bits_of f 64) (bits_of g 64) ≡ bits_of (λ j. f j && g j) 64
mask_both f g =
    let x = bits_of f 64 in
    let y = bits_of g 64 in
    let low = and_le_l x y in
    let fits = bits_of-lt f 64 in
    mask_is (bit_and x y) (λ j. f j && g j) (omega (arith, low, fits)) (λ i few.
    ap (λ (n : ℕ). n == 1) (bit_at_and x y i) ∙ (both_ones (bit_at x i) (bit_at y i) (bit_at-lt x i) (bit_at-lt y i)
    ∙ (λ at. mask_bit f i few at && mask_bit g i few at)))

-- those that pass the first alone
pub mask_except : (f g : ℕ → Bool) → bit_and (bits_of f 64) (bit_not w64 (bits_of g 64)) ≡ bits_of (λ j. f j && not (g j)) 64
mask_except f g =
    let x = bits_of f 64 in
    let y = bits_of g 64 in
    let low = and_le_l x (bit_not w64 y) in
    let fits = bits_of-lt f 64 in
    mask_is (bit_and x (bit_not w64 y)) (λ j. f j && not (g j)) (omega (arith, low, fits)) (λ i few.
    let turned : (1 - bit_at y i == 1) ≡ not (g i) = other_one (bit_at y i) (bit_at-lt y i) ∙ ap not (mask_bit g i few) in
    let small : 1 - bit_at y i < 2 = omega arith in
    ap (λ (n : ℕ). n == 1) (bit_at_and x (bit_not w64 y) i ∙ ap (min (bit_at x i)) (bit_at_not w64 y i (bits_of-lt g 64) few))
    ∙ (both_ones (bit_at x i) (1 - bit_at y i) (bit_at-lt x i) small ∙ (λ at. mask_bit f i few at && turned at)))

-- ---- the members of a kind
tagged_test : (t u : Bool) → (t && not u) ≡ is_kind Tagged (cond u (Some Untagged) (cond t (Some Tagged) None))
tagged_test true true = refl
tagged_test true false = refl
tagged_test false true = refl
tagged_test false false = refl

untagged_test : (t u : Bool) → u ≡ is_kind Untagged (cond u (Some Untagged) (cond t (Some Tagged) None))
untagged_test true true = refl
untagged_test true false = refl
untagged_test false true = refl
untagged_test false false = refl

module _ (m : Members) (d : ℕ) where
  pub tagged_mask : bit_and (bits_of (λ j. port_in m.tagged (64 * d + j)) 64) (bit_not w64 (bits_of (λ j. port_in m.untagged (64 * d + j)) 64))
      ≡ bits_of (λ j. is_kind Tagged (kind_in m.tagged m.untagged (64 * d + j))) 64
  tagged_mask =
      mask_except (λ j. port_in m.tagged (64 * d + j)) (λ j. port_in m.untagged (64 * d + j))
      ∙ bits_of-same _ _ 64 (λ j. tagged_test (port_in m.tagged (64 * d + j)) (port_in m.untagged (64 * d + j)))

  pub untagged_mask : bits_of (λ j. port_in m.untagged (64 * d + j)) 64 ≡ bits_of (λ j. is_kind Untagged (kind_in m.tagged m.untagged (64 * d + j))) 64
  untagged_mask = bits_of-same _ _ 64 (λ j. untagged_test (port_in m.tagged (64 * d + j)) (port_in m.untagged (64 * d + j)))
