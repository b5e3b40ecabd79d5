-- A space that is there.
use Rattle.std.proofs.Common.{◌≡◌, ℕ, ◌<◌, ◌&&◌, true, false}
use Rattle.std.specs.Prelude.{nat_lt, length, slice_index_or}
use Rattle.exb_numbers.specs.Spaces.{Spaces, has_space}
use Rattle.std.proofs.lemmas.Bool.{and_parts, ltb-true}

pub space_parts : (v : Spaces) (k : ℕ) → has_space v k ≡ true → (k < length v.channels) × (k < length v.groups)
space_parts v k there =
    let one = and_parts (nat_lt k (length v.channels) && nat_lt k (length v.groups)) (slice_index_or v.cascades k false) there in
    let two = and_parts (nat_lt k (length v.channels)) (nat_lt k (length v.groups)) one.0 in
    (ltb-true k (length v.channels) two.0, ltb-true k (length v.groups) two.1)
