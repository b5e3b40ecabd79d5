-- When a network stands.
use Rattle.exb_model.specs.History.{Basis, History}
use Rattle.std.specs.Prelude.{List}
use Rattle.exb_world_spec.specs.Worlds.{Left}
use Rattle.exb_world.specs.WorldContracts.{Network, world_of, tree_of, bounds_of}
use Rattle.exb_flight.specs.Promises.{IsClean}
use Rattle.exb_world_laws.specs.WorldInput.{Given}
use Rattle.exb_world_laws.specs.OneBridge.{Stands}

-- The network stands after what was given, what was told and what has left, from a configuration on.
abbrev pub IsStanding : Basis → Network → List Given → History → List Left → Type 0
IsStanding i n g h left = Stands (tree_of n) (bounds_of n) i (world_of n) g h left

abbrev pub HasCleanLinks : Network → Type 0
HasCleanLinks n = IsClean (tree_of n) (world_of n)
