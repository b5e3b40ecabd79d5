-- The traces of all runs of a valid setup, and of those that play an input.
use Rattle.std.specs.Prelude.{List, [], ◌++◌, All}
use Rattle.exb_model.specs.declared.setup.Setup.{Setup}
use Rattle.exb_model.specs.History.{Basis, History, ◌then◌}
use Rattle.exb_model.specs.Input.{Input, Mode, tree_of, segments}
use Rattle.exb_model.specs.Setup.{IsValid, shape_of, limits_of}
use Rattle.exb_world_spec.specs.AllowedSteps.{IsSettled}
use Rattle.exb_world_spec.specs.Settling.{run}
use Rattle.exb_world_spec.specs.Steps.{Stepped}
use Rattle.exb_world_spec.specs.Worlds.{Step, Left}
use Rattle.exb_model.specs.Traces.{TraceLine}
use Rattle.exb_world_laws.specs.WorldInput.{Given, arrivals_of}
use Rattle.exb_world_spec.specs.Runs.ReachedWorlds.{HasVid, MayTakeAll, beginning, reached_by}
use Rattle.exb_world_laws.specs.SegmentRuns.{IsTimely}
use Rattle.exb_world_laws.specs.OneBridge.{Stands}
use Rattle.exb_world_laws.specs.Runs.SegmentRuns.{PlaysIn}
use Rattle.exb_trace_laws.specs.TraceLaws.{given_in, told_after}
use Rattle.exb_trace_spec.specs.InputFrames.{frames_in, frames_out}
use Rattle.exb_trace_spec.specs.LegalTrace.{LegalTrace}
use Rattle.exb_world_spec.specs.TraceLines.{all_told}
use Rattle.exb_trace_spec.specs.JournalLines.{journal_of}
use Rattle.exb_trace_laws.specs.TraceRelation.{Traced, captures_of, outputs_of}

-- what these steps do, from the beginning of a setup
abbrev pub done_by : Setup → List Step → Stepped
done_by s steps = run (shape_of s) (limits_of s) steps (beginning s)

-- The trace is legal so far, of the journal, of the frames that arrived at each external port and of those that left
-- there; and it is legal whole where the world is settled.
pub record TellsLegally (s : Setup) (steps : List Step) : Type 0 where
  pub traced : Traced (shape_of s) (done_by s steps).world (given_in steps) ([] then (done_by s steps).events)
      (done_by s steps).left (all_told (done_by s steps).lines)
  pub whole : IsSettled (shape_of s) (done_by s steps).world →
      LegalTrace (shape_of s) (journal_of ([] then (done_by s steps).events)) (captures_of (given_in steps))
      (outputs_of (done_by s steps).left) (all_told (done_by s steps).lines)

-- So it is over all steps that may be made.
abbrev pub SetupsTellLegally : Type 0
SetupsTellLegally = (s : Setup) (steps : List Step) → IsValid s → All HasVid s.start
    → MayTakeAll (shape_of s) (limits_of s) (beginning s) steps → TellsLegally s steps

-- ---- runs that play an input
-- Where all segments are played the trace is legal whole, of the history that was told, of the captures of the input
-- and of what the one bridge sends over that history.
abbrev pub RunsTellLegally : Type 0
RunsTellLegally =
    (m : Mode) (i : Input) (done : Stepped) → IsTimely i → PlaysIn m i (segments m i) done →
    let h = [] then done.events in
    LegalTrace (tree_of i) (journal_of h) (frames_in i) (frames_out i h) (all_told done.lines)

-- ---- with any history
-- Whatever was given, told and has left, and whatever trace was told: where a world that a run of a valid setup reaches
-- stands with it and is tied to that trace, any steps keep it so, with the lines that they tell behind it.
abbrev pub StandingStaysTraced : Type 0
StandingStaysTraced =
    (s : Setup) (before steps : List Step) → IsValid s → All HasVid s.start
    → MayTakeAll (shape_of s) (limits_of s) (beginning s) before
    → MayTakeAll (shape_of s) (limits_of s) (reached_by s before) steps →
    (i : Basis) (g : List Given) (h : History) (left : List Left) (lines : List TraceLine)
    → Stands (shape_of s) (limits_of s) i (reached_by s before) g h left →
    Traced (shape_of s) (reached_by s before) (arrivals_of g) h left lines →
    let done = run (shape_of s) (limits_of s) steps (reached_by s before) in
    Traced (shape_of s) done.world (arrivals_of g ++ given_in steps) (h then done.events) (left ++ done.left)
    (told_after lines done)
