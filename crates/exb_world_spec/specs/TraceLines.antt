-- The lines that a step tells, as a trace has them.
use Rattle.std.specs.Prelude.{ℕ, List, map}
use Rattle.exb_model.specs.Texts.{line_of}
use Rattle.exb_model.specs.Traces.{TraceLine, In, Out, Beat, Journal}
use Rattle.exb_extender.specs.declared.sends.Side.{Side}
use Rattle.exb_extender.specs.declared.sends.Side.TheVariants as side
use Rattle.exb_world_spec.specs.Worlds.{Line}
use Rattle.exb_world_spec.specs.Worlds as world

abbrev pub side_number : Side → ℕ
side_number side.Up = 0
side_number (side.Port k) = k

abbrev pub told : Line → TraceLine
told (world.In n s f) = In n (side_number s) f
told (world.Out n s f) = Out n (side_number s) f
told (world.BridgeIn k f) = In 0 k f
told (world.BridgeOut k f) = Out 0 k f
told world.BeatLine = Beat
told (world.Journal e) = Journal (line_of e)

abbrev pub all_told : List Line → List TraceLine
all_told ls = map told ls
