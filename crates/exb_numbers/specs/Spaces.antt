-- The spaces of the bridge's cascade ports, by the bridge port's place, which is its number less 1.
use Rattle.std.specs.Prelude.{◌≡◌, ℕ, ◌+◌, Bool, false, ◌&&◌, List, [], ◌∷◌, ◌++◌, Option, None, length, replicate, if◌then◌else◌, nat_lt, slice_index_or, slice_set}
use Rattle.exb_numbers.specs.Groups.{Groups, set_of}

-- which bridge ports have a space, and the channels and groups of each
pub record Spaces : Type 0 where
  pub cascades : List Bool
  pub channels : List (List (Option ℕ))
  pub groups : List Groups

-- bridge port k has a space
abbrev pub has_space : Spaces → ℕ → Bool
has_space v k = nat_lt k (length v.channels) && nat_lt k (length v.groups) && slice_index_or v.cascades k false

-- its channels, by the port of each
abbrev pub channels_at : Spaces → ℕ → List (Option ℕ)
channels_at v k = slice_index_or v.channels k []

abbrev pub no_groups : Groups
no_groups = record { limit = 0; sets = [] }

abbrev pub groups_at : Spaces → ℕ → Groups
groups_at v k = slice_index_or v.groups k no_groups

-- the spaces with other channels, or other groups, at one bridge port
abbrev pub with_channels : Spaces → ℕ → List (Option ℕ) → Spaces
with_channels v k x = record v { channels = slice_set v.channels k x }

abbrev pub with_groups : Spaces → ℕ → Groups → Spaces
with_groups v k x = record v { groups = slice_set v.groups k x }

-- the space of one bridge port more: so many channels and groups, all free, or none
pub record IsAdded (old : Spaces) (is_cascade : Bool) (channels groups : ℕ) (new : Spaces) : Type 0 where
  pub group : Groups
  pub limit : group.limit ≡ (if is_cascade then groups else 0)
  pub free : (g : ℕ) → set_of group g ≡ []
  pub cascades : new.cascades ≡ old.cascades ++ is_cascade ∷ []
  pub channels_are : new.channels ≡ old.channels ++ replicate ((if is_cascade then channels else 0) + 1) None ∷ []
  pub groups_are : new.groups ≡ old.groups ++ group ∷ []
