-- What a run of a valid setup keeps makes each of its worlds ready to tell; so its trace is legal.
use Rattle.std.proofs.Common.{List, [], ◌∷◌, subst}
use Rattle.exb_model.specs.History.{Basis}
use Rattle.exb_model.specs.Setup.{Limits, shape_of, limits_of, start_of}
use Rattle.exb_model.specs.Tree.{Shape, trunk}
use Rattle.exb_frame.specs.TagValues.{TagRoundTrip}
use Rattle.exb_relay.specs.Laws.{SendsAreWords, SendsLeaveAsFlat}
use Rattle.exb_control_spec.specs.Runs.Journal.{StepsTell}
use Rattle.exb_world_spec.specs.Steps.{stepped}
use Rattle.exb_world_spec.specs.Worlds.{World, Step}
use Rattle.exb_world_spec.specs.Runs.SessionLaws.{MayMakeAll, BeginsSound}
use Rattle.exb_world_spec.specs.Runs.FrameBytes.{StepsStayWritten}
use Rattle.exb_flight.specs.FlightFacts.{CleanUp}
use Rattle.exb_flight.specs.Items.{Word as Datum, Each}
use Rattle.exb_flight.specs.Promises.{IsClean}
use Rattle.exb_flight.proofs.SimulatedAscents.{data_first, link_there}
use Rattle.exb_world_laws.specs.WorldInvariant.{MayStart, MayDoAll, basis_of}
use Rattle.exb_world_laws.proofs.FrameBytes.{runs_go_on}
use Rattle.exb_world_laws.proofs.InvariantSteps.{kept_pvids}
use Rattle.exb_world_laws.proofs.UpwardFrames.{record_of}
use Rattle.exb_world_laws.proofs.Setups.{setups_may_start}
use Rattle.exb_world_laws.proofs.OneBridge.{kept_is_clean}
use Rattle.exb_world_spec.specs.Runs.ReachedWorlds.{MayTakeAll, beginning}
use Rattle.exb_world_laws.proofs.Runs.Settling.{IsRun, step_run, begins, runs_stay_low}
use Rattle.exb_trace_laws.specs.TraceLaws.{BeginsTraced, BeginsServing, RunsStayTraced, SettledIsLegal, StaysReady, given_in}
use Rattle.exb_world_spec.specs.TraceLines.{all_told}
use Rattle.exb_trace_laws.specs.TraceConditions.{AreHeld}
use Rattle.exb_trace_laws.specs.RunTraces.{done_by, SetupsTellLegally}

-- ---- ready to tell
-- Where links are clean, the channel of a data word that comes to the bridge is the one that the port of its stamp holds.
are_held : (t : Shape) (w : World) → IsClean t w → AreHeld t w
are_held t w clean n x s there low found stamped =
    let first = data_first (w.up n) x found in
    let its = subst (λ (fs : List Datum). Each (CleanUp t w.control.held (trunk t n)) fs) first.1 (clean.up n (link_there t n there)) in
    (record_of t w n x s low stamped its.0).1.held

pub may_make : (t : Shape) (l : Limits) (steps : List Step) (w : World) → MayDoAll t l w steps → MayMakeAll t l w steps
may_make t l [] w may = tt
may_make t l (step ∷ steps) w may = (may.0.may, may_make t l steps (stepped t l step w).world may.1)

module _ (round : TagRoundTrip) (words : SendsAreWords) (leave : SendsLeaveAsFlat) (law : StepsTell) (stay : StepsStayWritten) where
  pub stays_ready : (t : Shape) (l : Limits) (i : Basis) (start : MayStart t l i) (steps : List Step) (w : World) → MayTakeAll t l w steps → IsRun t l i w → StaysReady t l w steps
  stays_ready t l i start [] w may k = tt
  stays_ready t l i start (step ∷ steps) w may k = (
    record {
      pvids = kept_pvids t l i w k.given k.history k.left k.kept start.pvids;
      held = are_held t w (kept_is_clean t l i start w k.given k.history k.left k.kept);
    },
    stays_ready t l i start steps (stepped t l step w).world may.1 (step_run round words leave law stay t l i start step w may.0 k),
  )

  -- ---- the trace
  module _ (begins_traced : BeginsTraced) (begins_serving : BeginsServing) (begins_sound : BeginsSound) (runs_stay_traced : RunsStayTraced) (settled_is_legal : SettledIsLegal) where
    pub setups_tell_legally : SetupsTellLegally
    setups_tell_legally s steps valid vids may =
        let t : Shape = shape_of s in
        let l : Limits = limits_of s in
        let w : World = beginning s in
        let start : MayStart t l (basis_of s) = setups_may_start s valid vids in
        let make : MayMakeAll t l w steps = may_make t l steps w (runs_go_on round words leave law stay t l (basis_of s) start steps (runs_stay_low round words leave law stay s steps valid vids may)).may in
        let ready : StaysReady t l w steps = stays_ready t l (basis_of s) start steps w may (begins round words leave law stay s valid start) in
        let end = runs_stay_traced t l start.setting start.few w steps [] [] [] []
        (begins_sound t l (start_of s) s.ageing start.setting start.few start.begin) (begins_serving t l (start_of s) s.ageing) make ready (begins_traced t l (start_of s) s.ageing) in
        record {
          traced = end;
          whole = λ settled. settled_is_legal t (done_by s steps).world (given_in steps) _ (done_by s steps).left (all_told (done_by s steps).lines) settled end;
        }
