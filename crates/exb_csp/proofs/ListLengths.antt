-- How long the lists of messages for many are.
use Rattle.std.proofs.Common.{◌≡◌, ℕ, ◌*◌, List, [], ◌∷◌, length, refl, ap, arith, length-append}
use Rattle.std.specs.List.{flat_map}
use Rattle.std.proofs.lemmas.List.Concat.{flat_map-cons}
use Rattle.exb_csp.specs.declared.group_rows.GroupRow.{GroupRow}
use Rattle.exb_csp.specs.Encoding.{row_bytes, ecid_bytes}

pub length_rows : (rows : List GroupRow) → length (flat_map row_bytes rows) ≡ 10 * length rows
length_rows [] = refl
length_rows (row ∷ rows) = omega (arith, ap length (flat_map-cons row_bytes row rows), length-append (row_bytes row) (flat_map row_bytes rows), length_rows rows)

pub length_ecids : (ecids : List ℕ) → length (flat_map ecid_bytes ecids) ≡ 2 * length ecids
length_ecids [] = refl
length_ecids (ecid ∷ ecids) = omega (arith, ap length (flat_map-cons ecid_bytes ecid ecids), length-append (ecid_bytes ecid) (flat_map ecid_bytes ecids), length_ecids ecids)

-- both
pub ruleset lengths = (length_rows, length_ecids)
