-- Stations are the same where they are one number.
use Rattle.std.proofs.Common.{◌≡◌, ◌<◌, ℕ, zero, suc, ◌+◌, ◌*◌, Bool, true, false, ◌==◌, eq-eqb, refl, sym, ap, ◌∙◌, arith, List, [], ◌∷◌, length, get_or}
use Rattle.std.specs.Prelude.{◌/◌, ◌%◌, slice_index}
use Rattle.std.specs.Int.{w64, from_le_bytes, to_le_bytes}
use Rattle.std.proofs.lemmas.Bool.{eqb-true}
use Rattle.std.proofs.lemmas.Nat.{le_bytes_8}
use Rattle.exb_learn.specs.declared.key.StationKey.{StationKey}
use Rattle.exb_learn.specs.Keys.{bytes_of, packed, IsSpelled}
use Rattle.exb_learn.specs.Stations.{same}
use Rattle.exb_learn.proofs.Lookups.{same_is, same_itself}

six : (m : List ℕ) → length m ≡ 6 → m ≡ slice_index m 0 ∷ slice_index m 1 ∷ slice_index m 2 ∷ slice_index m 3 ∷ slice_index m 4 ∷ slice_index m 5 ∷ []
six [] h = absurd (omega arith)
six (a ∷ []) h = absurd (omega arith)
six (a ∷ b ∷ []) h = absurd (omega arith)
six (a ∷ b ∷ c ∷ []) h = absurd (omega arith)
six (a ∷ b ∷ c ∷ d ∷ []) h = absurd (omega arith)
six (a ∷ b ∷ c ∷ d ∷ e ∷ []) h = absurd (omega arith)
six (a ∷ b ∷ c ∷ d ∷ e ∷ f ∷ []) h = refl
six (a ∷ b ∷ c ∷ d ∷ e ∷ f ∷ g ∷ m) h = absurd (omega arith)

are_bytes : (k : StationKey) → IsSpelled k → (i : ℕ) → get_or (bytes_of k.vid k.address.0) i 0 < 256
are_bytes k is zero = omega arith
are_bytes k is (suc zero) = (let low = is.vid in omega (arith, low))
are_bytes k is (suc (suc zero)) = is.bytes 0
are_bytes k is (suc (suc (suc zero))) = is.bytes 1
are_bytes k is (suc (suc (suc (suc zero)))) = is.bytes 2
are_bytes k is (suc (suc (suc (suc (suc zero))))) = is.bytes 3
are_bytes k is (suc (suc (suc (suc (suc (suc zero)))))) = is.bytes 4
are_bytes k is (suc (suc (suc (suc (suc (suc (suc zero))))))) = is.bytes 5
are_bytes k is (suc (suc (suc (suc (suc (suc (suc (suc i)))))))) = omega arith

-- the bytes of a number are those of which it was made
unpacked : (k : StationKey) → IsSpelled k → to_le_bytes w64 (packed k) ≡ bytes_of k.vid k.address.0
unfolding packed
unpacked k is = le_bytes_8 (bytes_of k.vid k.address.0) (from_le_bytes w64 (bytes_of k.vid k.address.0)) refl (are_bytes k is) refl

behind_two : List ℕ → List ℕ
behind_two [] = []
behind_two (a ∷ []) = []
behind_two (a ∷ b ∷ xs) = xs

joined : (v : ℕ) → v ≡ v % 256 + v / 256 * 256
joined v = omega arith

alike : (x y : StationKey) → IsSpelled x → IsSpelled y → packed x ≡ packed y → x ≡ y
unfolding behind_two
alike x y a b e =
    let bytes : bytes_of x.vid x.address.0 ≡ bytes_of y.vid y.address.0 = sym (unpacked x a) ∙ ap (to_le_bytes w64) e ∙ unpacked y b in
    let low : x.vid % 256 ≡ y.vid % 256 = ap (λ xs. get_or xs 0 0) bytes in
    let high : x.vid / 256 ≡ y.vid / 256 = ap (λ xs. get_or xs 1 0) bytes in
    let vid : x.vid ≡ y.vid = joined x.vid ∙ (λ i. low i + high i * 256) ∙ sym (joined y.vid) in
    let address : x.address.0 ≡ y.address.0 = six x.address.0 a.long ∙ ap behind_two bytes ∙ sym (six y.address.0 b.long) in
    λ i. record { vid = vid i; address = record { 0 = address i } }

pub same_by_number : (x y : StationKey) → IsSpelled x → IsSpelled y → (packed x == packed y) ≡ same x y
same_by_number x y a b = by_tests (packed x == packed y) (same x y) refl refl
  where
    by_tests : (c d : Bool) → (packed x == packed y) ≡ c → same x y ≡ d → c ≡ d
    by_tests true true h g = refl
    by_tests true false h g = sym (ap (λ z. same x z) (sym (alike x y a b (eqb-true (packed x) (packed y) h))) ∙ same_itself x) ∙ g
    by_tests false true h g = sym h ∙ eq-eqb (packed x) (packed y) (ap packed (same_is x y g))
    by_tests false false h g = refl
