-- The rows of a set have the ports that it covers.
use Rattle.std.proofs.Common.{◌≡◌, ℕ, ◌+◌, ◌*◌, ◌/◌, ◌%◌, ◌==◌, ◌||◌, ◌&&◌, Bool, true, false, List, [], ◌∷◌, refl, sym, ◌∙◌, inl, inr, eq-eqb, arith}
use Rattle.std.specs.List.{list_any, filter_map}
use Rattle.std.specs.Int.{bit_at}
use Rattle.std.proofs.lemmas.Bool.{cases_eq, ne_eqb}
use Rattle.std.proofs.lemmas.Nat.Bits.{bit_at-zero}
use Rattle.exb_model.specs.Tree.{Shape, device, by_depth}
use Rattle.exb_model.specs.TreeSets.{covers, mask_of}
use Rattle.exb_model.proofs.MaskLemmas.{bit_is_one, bit_at-bits_of}
use Rattle.exb_model.proofs.TreeOrder.{in_order}
use Rattle.exb_control_spec.specs.Plans.Rows.{row_of, rows_of, rows_have, RowsCover}
use Rattle.exb_control_spec.specs.Plans.LaidRows.{RowsLie}
use Rattle.exb_control_spec.proofs.Plans.TreeWays.{from_test}

-- ---- one port of one row
own_bit : (s : Shape) (set : ℕ → Bool) (p : ℕ) → (bit_at (mask_of s set (device p)) (p % 64) == 1) ≡ covers s set p
own_bit s set p =
    let j = p % 64 in
    let whole : 64 * (p / 64) + p % 64 ≡ p = omega arith in
    rw (bit_at-bits_of (λ i. covers s set (64 * device p + i)) 64 j (omega arith), whole) (bit_is_one (covers s set p))

-- whether an extender is in a list
abbrev listed : ℕ → List ℕ → Bool
listed n xs = list_any (λ x. x == n) xs

in_rows : (s : Shape) (set : ℕ → Bool) (p : ℕ) (xs : List ℕ) → rows_have (filter_map (row_of s set) xs) p ≡ (listed (device p) xs && covers s set p)
in_rows s set p [] = refl
in_rows s set p (x ∷ xs) =
    let rest = in_rows s set p xs in
    elim (cases_eq (mask_of s set x) 0) [
      | inl e ↦ rw (eq-eqb _ 0 e) (
          elim (cases_eq x (device p)) [
            | inl f ↦
                let none : covers s set p ≡ false = sym (own_bit s set p) ∙ (rw (← f, e, bit_at-zero) refl) in
                rest ∙ (rw (none, eq-eqb x (device p) f) (both_none (listed (device p) xs)))
            | inr f ↦ rw (ne_eqb x (device p) f) rest
          ])
      | inr e ↦ rw (ne_eqb _ 0 e) (
          elim (cases_eq x (device p)) [
            | inl f ↦ rw (f, eq-eqb (device p) (device p) refl, own_bit s set p, rest) (absorbed (covers s set p) (listed (device p) xs))
            | inr f ↦ rw (ne_eqb x (device p) f) rest
          ])
    ]
  where
    both_none : (b : Bool) → (b && false) ≡ false
    both_none true = refl
    both_none false = refl

    absorbed : (c b : Bool) → (c || (b && c)) ≡ c
    absorbed true b = refl
    absorbed false b = both_none b

pub rows_cover : RowsCover
unfolding rows_of
rows_cover s set p valid deep known =
    let there : list_any (λ x. x == device p) (by_depth s) ≡ true = in_order s p valid deep known in
    in_rows s set p (by_depth s) ∙ (rw there refl)

pub rows_lie : RowsLie
rows_lie s t k set number valid free ways kinds channels =
    record {
      rows = λ p h.
          let u = from_test s k p h in
          rw (free p h, eq-eqb number number refl) (rows_cover s set p valid u.deep u.known);
      ways = λ p c v out. let w = ways p c v out in record { kind = w.kind; channel = w.channel; other = w.other };
      kinds = kinds;
      channels = channels;
    }
