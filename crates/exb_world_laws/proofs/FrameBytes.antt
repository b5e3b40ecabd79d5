-- Words stay bytes and short over each run from the beginning.
use Rattle.std.proofs.Common.{◌++◌, List, [], ◌∷◌}
use Rattle.exb_model.specs.History.{Basis, History, ◌then◌}
use Rattle.exb_model.specs.Setup.{Limits, shape_of, limits_of}
use Rattle.exb_model.specs.Tree.{Shape}
use Rattle.exb_frame.specs.TagValues.{TagRoundTrip}
use Rattle.exb_relay.specs.Laws.{SendsAreWords, SendsLeaveAsFlat}
use Rattle.exb_control_spec.specs.Runs.Journal.{StepsTell}
use Rattle.exb_world_spec.specs.Settling.{run}
use Rattle.exb_world_spec.specs.Steps.{Stepped, stepped}
use Rattle.exb_world_spec.specs.Worlds.{World, Step, Left, first_world}
use Rattle.exb_world_spec.specs.Runs.FrameBytes.{AreWritten, StepsStayWritten}
use Rattle.exb_world_spec.proofs.FrameBytes.{begins_written, written_are_short}
use Rattle.exb_world_laws.specs.WorldInput.{Given, given_by}
use Rattle.exb_world_laws.specs.FrameBytes.{MayGoAll, StepsGoOn, RunsGoOn, SetupsGoOn}
use Rattle.exb_world_laws.specs.WorldInvariant.{MayStart, MayDoAll, Kept, basis_of}
use Rattle.exb_world_laws.proofs.InvariantSteps.{kept_pvids, step_kept}
use Rattle.exb_world_laws.proofs.Setups.{setups_may_start}
use Rattle.exb_world_laws.proofs.OneBridge.{begins_kept}

pub steps_go_on : StepsStayWritten → StepsGoOn
steps_go_on stay t l i start w g h left k written step may = (
  record { may = record { can = may.can; has = may.has; bytes = (written_are_short w written).0; low = may.low; after = may.after }; vid = may.vid },
  stay t l start.setting w step k.stood.sound (kept_pvids t l i w g h left k start.pvids) may.can may.has may.low may.after written,
)

module _ (round : TagRoundTrip) (words : SendsAreWords) (leave : SendsLeaveAsFlat) (law : StepsTell) (stay : StepsStayWritten) where
  pub going : (t : Shape) (l : Limits) (i : Basis) → MayStart t l i → (steps : List Step) (w : World) (g : List Given) (h : History) (left : List Left) → Kept t l i w g h left → AreWritten w → MayGoAll t l w steps →
      MayDoAll t l w steps × AreWritten (run t l steps w).world
  unfolding run
  going t l i start [] w g h left k written may = (tt, written)
  going t l i start (step ∷ steps) w g h left k written may =
      let s : Stepped = stepped t l step w in
      let one = steps_go_on stay t l i start w g h left k written step may.0 in
      let rest = going t l i start steps s.world (g ++ given_by step) (h then s.events) (left ++ s.left) (step_kept round words leave law t l i start w g h left k step one.0) one.1 may.1 in
      ((one.0, rest.0), rest.1)

  pub runs_go_on : RunsGoOn
  runs_go_on t l i start steps may =
      let w : World = first_world t l i.start i.ageing in
      let all = going t l i start steps w [] [] [] (begins_kept t l i start) (begins_written t l i.start i.ageing) may in
      let short = written_are_short (run t l steps w).world all.1 in
      record { may = all.0; written = all.1; bytes = short.0; short = short.1 }

  pub setups_go_on : SetupsGoOn
  setups_go_on s steps valid vids may = runs_go_on (shape_of s) (limits_of s) (basis_of s) (setups_may_start s valid vids) steps may
