-- Networks that runs reach.
use Rattle.std.specs.Prelude.{◌≡◌, false}
use Rattle.exb_world.specs.WorldContracts.{Network, world_of, tree_of, bounds_of}
use Rattle.exb_world_spec.specs.Runs.ReachedWorlds as runs

-- It began with a valid setup, and came here by steps that may be made.
abbrev pub Reached : Network → Type 0
Reached n = runs.IsReached (tree_of n) (bounds_of n) (world_of n)

-- so it is as long as memory hasn't run out
abbrev pub IsReached : Network → Type 0
IsReached n = n.failed ≡ false → Reached n
