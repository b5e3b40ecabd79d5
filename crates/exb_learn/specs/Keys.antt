-- Stations as numbers, by which they are compared and hashed.
use Rattle.std.specs.Prelude.{◌≡◌, ◌<◌, ℕ, true, List, [], ◌∷◌, ◌/◌, ◌%◌, ◌==◌, length, slice_index, bytes_eq}
use Rattle.std.specs.Cmp.{IsEquivalence, and_equiv, on_equiv, nat_eq_equiv, first_so, second_so}
use Rattle.std.specs.Cmp.Lexicographic.{nat_list_eq_equiv}
use Rattle.std.specs.Hash as fed
use Rattle.std.specs.Int.{w64, from_le_bytes}
use Rattle.std.proofs.lemmas.Bool.Decides.{Decides-eqb}
use Rattle.std.proofs.lemmas.Slice.Eq.{bytes_eq-Decides}
use Rattle.exb_learn.specs.declared.key.StationKey.{StationKey}
use Rattle.exb_learn.specs.Stations.{same}

-- its VLAN, the lower byte first, and its address
abbrev pub bytes_of : ℕ → List ℕ → List ℕ
bytes_of v m = v % 256 ∷ v / 256 ∷ slice_index m 0 ∷ slice_index m 1 ∷ slice_index m 2 ∷ slice_index m 3
    ∷ slice_index m 4 ∷ slice_index m 5 ∷ []

-- these bytes as one number
unfoldable pub packed : StationKey → ℕ
packed k = from_le_bytes w64 (bytes_of k.vid k.address.0)

-- its VLAN has two bytes, and its address six
pub record IsSpelled (k : StationKey) : Type 0 where
  pub vid : k.vid < 65536
  pub long : length k.address.0 ≡ 6
  pub bytes : (i : ℕ) → slice_index k.address.0 i < 256

pub same_equiv : IsEquivalence same
same_equiv = and_equiv (on_equiv (λ (k : StationKey). k.vid) nat_eq_equiv)
    (on_equiv (λ (k : StationKey). k.address.0) nat_list_eq_equiv)

-- equal stations are hashed alike
pub fed_alike : (x y : StationKey) → same x y ≡ true → fed.u64 (packed x) ≡ fed.u64 (packed y)
fed_alike x y h i =
    fed.u64
    (packed (record {
      vid = (Decides-eqb x.vid y.vid).0 (first_so (x.vid == y.vid) (bytes_eq x.address.0 y.address.0) h) i;
      address = record {
        0 = (bytes_eq-Decides x.address.0 y.address.0).0
            (second_so (x.vid == y.vid) (bytes_eq x.address.0 y.address.0) h) i;
      };
    }))
