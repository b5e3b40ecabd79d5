-- The groups of a space.
use Rattle.std.specs.Prelude.{ℕ, ◌-◌, Bool, not, nat_le, List, [], Option, None, if◌then◌else◌, find, map, bytes_eq, slice_index_or}
use Rattle.std.specs.List.{range_with_len}
use Rattle.exb_model.specs.declared.port_set.PortSet.{PortSet}
use Rattle.exb_model.specs.Ports.{ports_of}
use Rattle.exb_model.specs.Refusals.{is_empty_set}
use Rattle.exb_model.specs.LowestFree.{lowest_free}

-- how many groups there are, and the ports of each in order, from number 4096 on; a free one has none
pub record Groups : Type 0 where
  pub limit : ℕ
  pub sets : List (List ℕ)

-- the ports of a group
abbrev pub set_of : Groups → ℕ → List ℕ
set_of v g = if nat_le 4096 g then slice_index_or v.sets (g - 4096) [] else []

abbrev pub is_used : Groups → ℕ → Bool
is_used v g = not (is_empty_set (set_of v g))

-- the group of a set of ports, among all groups that there can be
unfoldable pub group_of : Groups → List ℕ → Option ℕ
group_of v set = if is_empty_set set then None else find (λ g. bytes_eq set (set_of v g)) (range_with_len 4096 12288)

abbrev pub lowest_group : Groups → Option ℕ
lowest_group v = lowest_free (is_used v) 4096 v.limit

abbrev pub sets_of : List PortSet → List (List ℕ)
sets_of sets = map ports_of sets
