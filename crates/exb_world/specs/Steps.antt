-- The steps of the code as those of the machine.
use Rattle.std.specs.Prelude.{◌≡◌, ◌<◌, ℕ, true}
use Rattle.exb_model.specs.Tree.{Shape, is_extender}
use Rattle.exb_link.specs.LinkFrames.{leading}
use Rattle.exb_world_spec.specs.Steps.{words_on}
use Rattle.exb_world_spec.specs.Worlds.{World}
use Rattle.exb_world_spec.specs.Worlds.{Way as Direction}
use Rattle.exb_world_spec.specs.Worlds.{Up as Upwards, Down as Downwards}
use Rattle.exb_world.specs.declared.step.Way.{Way}
use Rattle.exb_world.specs.declared.step.Way.TheVariants as way

abbrev pub way_of : Way → Direction
way_of way.Up = Upwards
way_of way.Down = Downwards

-- a control word is at that position, and no data word sent before it is left
abbrev pub IsFree : Shape → World → ℕ → Direction → ℕ → Type 0
IsFree t w n way k = (is_extender t n ≡ true) × (k < leading (words_on n way w))
