-- What never changes in a network.
use Rattle.std.specs.Prelude.{◌≡◌, ℕ, ◌<◌, if◌then◌else◌, List, Some, slice_get, slice_index}
use Rattle.exb_model.specs.Tree.{Shape, by_depth, is_extender}
use Rattle.exb_model.specs.Setup.{Limits}
use Rattle.exb_world_spec.specs.Settling.{deepest_first}
use Rattle.exb_model.specs.DeviceSets.{number_in}

-- the tree, and how many E-channels and groups the space of a bridge port has
pub record Site : Type 0 where
  pub tree : Shape
  pub channels : ℕ
  pub groups : ℕ

abbrev pub limits_in : Site → Limits
limits_in s = record { channels = s.channels; groups = s.groups }

-- exactly the extenders of a tree are in a set of numbers
abbrev pub AreExtenders : Shape → ℕ → Type 0
AreExtenders t bits = (n : ℕ) → number_in bits n ≡ (if is_extender t n then 1 else 0)

-- by extender its place in an order, and 64 where it isn't in it
pub record ArePlaces (order places : List ℕ) : Type 0 where
  pub back : (n : ℕ) → n < 65 → slice_index places n < 64 → slice_get order (slice_index places n) ≡ Some n
  pub forth : (k n : ℕ) → slice_get order k ≡ Some n → slice_index places n ≡ k

-- none stands twice in an order
abbrev pub StandsOnce : List ℕ → Type 0
StandsOnce order = (j k n : ℕ) → slice_get order j ≡ Some n → slice_get order k ≡ Some n → j ≡ k

-- The tables beside a tree: how many ports each device has, the port on which each extender hangs, the extenders from
-- the deepest, their set, and by extender its place among those from the deepest and among those by depth.
pub record HasTables (t : Shape) (ports on deepest : List ℕ) (extenders : ℕ) (up down : List ℕ) : Type 0 where
  pub counts : ports ≡ t.ports
  pub places : on ≡ t.on
  pub upwards : deepest ≡ deepest_first t 64
  pub all : AreExtenders t extenders
  pub up_places : ArePlaces (deepest_first t 64) up
  pub down_places : ArePlaces (by_depth t) down
