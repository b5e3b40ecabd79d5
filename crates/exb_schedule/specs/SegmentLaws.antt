-- What is true of a network that has played segments of an input.
use Rattle.std.specs.Prelude.{◌≡◌, Bool, List, []}
use Rattle.exb_model.specs.declared.event.Event.{Event}
use Rattle.exb_model.specs.Input.{Input, Segment, Mode, Eager, basis_of, segments}
use Rattle.exb_model.specs.Traces.{TraceLine}
use Rattle.exb_world_spec.specs.Steps.{Stepped}
use Rattle.exb_world_spec.specs.Worlds.{Left}
use Rattle.exb_world_spec.specs.Runs.PassedFrames.{passed_over}
use Rattle.exb_world_laws.specs.SegmentRuns.{IsTimely}
use Rattle.exb_world.specs.WorldContracts.{Network, world_of}
use Rattle.exb_world_laws.specs.Runs.SegmentRuns.{IsUnderWay, HasWritten, HasWrittenIn}
use Rattle.exb_schedule.specs.SegmentRuns.{HasPlayed}

-- where a network is, what was told and what has left
abbrev pub shown : Network → List Event → List Left → Stepped
shown n events left = record { world = world_of n; events = events; passed = []; left = left; lines = [] }

-- The next index of each port, the number of commands and the clock follow what was played, and what has left are
-- copies of its arrivals.
abbrev pub PlayedIsUnderWay : Type 0
PlayedIsUnderWay =
    (m : Mode) (i : Input) (so_far : List Segment) (n : Network) (events : List Event) (passed : List Bool)
    (left : List Left) (lines : List TraceLine) →
    HasPlayed m i so_far n events passed left lines → IsUnderWay i so_far (shown n events left)

-- Where all segments are played a history was told that the input allows, and what has left each external port is what
-- the one bridge sends there over it.
abbrev pub PlayedWritesLegally : Type 0
PlayedWritesLegally =
    (m : Mode) (i : Input) (n : Network) (events : List Event) (passed : List Bool) (left : List Left)
    (lines : List TraceLine) → IsTimely i →
    HasPlayed m i (segments m i) n events passed left lines → HasWrittenIn m i (shown n events left)

-- In the eager mode it is the eager history.
abbrev pub PlayedWritesEagerly : Type 0
PlayedWritesEagerly =
    (i : Input) (n : Network) (events : List Event) (passed : List Bool) (left : List Left) (lines : List TraceLine)
    → IsTimely i →
    HasPlayed Eager i (segments Eager i) n events passed left lines → HasWritten i (shown n events left)

-- Where all segments are played it was said of each Relay that was told, in order, whether its frame passed in the
-- configuration before it.
abbrev pub PlayedSaysPassed : Type 0
PlayedSaysPassed =
    (m : Mode) (i : Input) (n : Network) (events : List Event) (passed : List Bool) (left : List Left)
    (lines : List TraceLine) → IsTimely i →
    HasPlayed m i (segments m i) n events passed left lines → passed ≡ passed_over (basis_of i) [] events
