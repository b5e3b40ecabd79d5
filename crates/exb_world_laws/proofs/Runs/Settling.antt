-- Every run from a valid setup keeps all that the bound on settling asks; so settling ends from wherever it comes to.
use Rattle.std.proofs.Common.{true, ◌≡◌, inl, inr, ℕ, ◌+◌, ◌≤◌, ◌<◌, ◌++◌, List, [], ◌∷◌, length, length-append, ap, sym, ◌∙◌, subst, arith}
use Rattle.exb_model.specs.declared.command.Command.{Command}
use Rattle.exb_model.specs.declared.setup.Setup.{Setup}
use Rattle.exb_model.specs.History.{Basis, History, ◌then◌}
use Rattle.exb_model.specs.Rounds.{rounds}
use Rattle.exb_model.specs.Setup.{Limits, IsValid, shape_of, limits_of, start_of}
use Rattle.exb_model.specs.Tree.{Shape, IsTree}
use Rattle.exb_frame.specs.TagValues.{TagRoundTrip}
use Rattle.exb_relay.specs.Laws.{SendsAreWords, SendsLeaveAsFlat}
use Rattle.exb_csp.specs.Sessions.AskingEnd.{AskerState}
use Rattle.exb_control_spec.specs.Runs.Journal.{StepsTell}
use Rattle.exb_control_spec.specs.Runs.OpeningOrder.{InTurn}
use Rattle.exb_control_spec.specs.Runs.Systems.{System}
use Rattle.exb_control_spec.proofs.Runs.OpeningOrder.{begins_in_turn, steps_keep_turns, serials_stay_low}
use Rattle.exb_world_spec.specs.AllowedSteps.{Can}
use Rattle.exb_world_spec.specs.Settling.{run, settled_within, is_settled, planned_in}
use Rattle.exb_world_spec.specs.Steps.{Stepped, stepped}
use Rattle.exb_world_spec.specs.Worlds.{World, Step, Arrive, Carry, Control, Lose, Beat, Tick, Order, Mark, Left, first_world}
use Rattle.exb_world_spec.specs.Runs.SessionLaws.{ordered_by}
use Rattle.exb_world_spec.specs.Runs.Sessions.{AreLow}
use Rattle.exb_world_spec.specs.Runs.Simulation.{system_of, IsSound, Follows, StaysSound}
use Rattle.exb_world_spec.specs.Runs.FrameBytes.{AreWritten, StepsStayWritten}
use Rattle.exb_world_spec.proofs.CascadeChannels.{forget}
use Rattle.exb_world_spec.proofs.BeatSteps.{sound_after}
use Rattle.exb_world_spec.proofs.Rounds.{run_then, settled_exactly}
use Rattle.exb_world_spec.proofs.SessionLaws.{steps_stay_sound}
use Rattle.exb_world_spec.proofs.FrameBytes.{begins_written, written_are_short}
use Rattle.exb_world_laws.specs.WorldInput.{Given, given_by, commands_of}
use Rattle.exb_world_laws.specs.FrameBytes.{MayGo, MayGoAll}
use Rattle.exb_world_laws.specs.WorldInvariant.{MayStart, MayDo, Kept, basis_of}
use Rattle.exb_world_laws.proofs.FrameBytes.{steps_go_on}
use Rattle.exb_world_laws.proofs.InvariantSteps.{commands_append, step_kept}
use Rattle.exb_world_laws.proofs.SegmentHistories.{settling_plays}
use Rattle.exb_world_laws.proofs.Setups.{setups_may_start}
use Rattle.exb_world_laws.proofs.OneBridge.{begins_kept}
use Rattle.exb_settling_laws.specs.SettlingFacts.{OnLink, carries, delivers, loses}
use Rattle.exb_settling_laws.specs.SessionInvariant.{HasRoom, IsGoing, IsOrderly}
use Rattle.exb_settling_laws.specs.SettlingLaws.{MayMove, MayMoveAll, KeepsOrder, KeepsFacts}
use Rattle.exb_world_laws.specs.Runs.Settling.{AreRoomy, RunsAreReady, RunsStayLow, Settles, SettlingAlwaysPlays}
use Rattle.exb_world_spec.specs.Runs.ReachedWorlds.{MayTake, MayTakeAll, beginning, reached_by}
use Rattle.exb_settling_laws.proofs.InvariantSteps.{step_going, beat_going}
use Rattle.exb_settling_laws.proofs.OrderlyWorlds.{setups_begin_going, order_keeps_facts}
use Rattle.exb_settling_laws.proofs.OrderFacts.{orderly}
use Rattle.exb_settling_laws.proofs.InputSteps.{arrival_going, order_going, tick_going, mark_going}
use Rattle.exb_settling_laws.proofs.SerialNumbers.{serials_rise}
use Rattle.exb_settling_laws.proofs.SettlingLaws.{settling_ends}

-- ---- serials
room_of : (askers : ℕ → AskerState) → AreRoomy askers → HasRoom askers
room_of askers roomy n = (let low : (askers n).serial < 274877906944 = roomy n in more low)
  where
    more : (askers n).serial < 274877906944 → (askers n).serial + 1 < 18446744073709551616
    more low = omega (arith, low)

low_of : (askers : ℕ → AskerState) → AreRoomy askers → AreLow askers
low_of askers roomy n = more (roomy n)
  where
    more : (askers n).serial < 274877906944 → (askers n).serial < 18446744073709551616
    more low = omega (arith, low)

low_after : (old new : ℕ → AskerState) → AreRoomy old → ((n : ℕ) → (new n).serial ≤ (old n).serial + 1) → AreLow new
low_after old new roomy rises n = more (roomy n) (rises n)
  where
    more : (old n).serial < 274877906944 → (new n).serial ≤ (old n).serial + 1 → (new n).serial < 18446744073709551616
    more low rise = omega (arith, low, rise)

-- ---- commands
-- a step gives one command at most, and as long as there are fewer than 65,536
given_few : (t : Shape) (w : World) (step : Step) → Can t w step → w.control.given ≤ 65536 → w.control.given + length (commands_of (given_by step)) ≤ 65536
given_few t w (Order c) can few = (let less = can.1 in omega (arith, less))
given_few t w (Arrive a) can few = omega (arith, few)
given_few t w (Carry n way) can few = omega (arith, few)
given_few t w (Control n way k keep) can few = omega (arith, few)
given_few t w (Lose n way k) can few = omega (arith, few)
given_few t w Beat can few = omega (arith, few)
given_few t w (Tick seconds) can few = omega (arith, few)
given_few t w Mark can few = omega (arith, few)

-- ---- what every step keeps
pub record IsRun (t : Shape) (l : Limits) (i : Basis) (w : World) : Type 0 where
  pub given : List Given
  pub history : History
  pub left : List Left
  pub kept : Kept t l i w given history left
  pub written : AreWritten w
  pub going : IsGoing t l w
  pub turn : InTurn t w.control
  pub few : w.control.given ≤ 65536

module _ (round : TagRoundTrip) (words : SendsAreWords) (leave : SendsLeaveAsFlat) (law : StepsTell) (stay : StepsStayWritten) (t : Shape) (l : Limits) (i : Basis) (start : MayStart t l i) where
  roomy : (w : World) → IsRun t l i w → AreRoomy w.control.askers
  roomy w k = serials_stay_low t w.control k.turn k.few

  orderly_now : (w : World) → IsRun t l i w → IsOrderly t w
  orderly_now w k = orderly t l start.setting w k.going.sound k.turn (written_are_short w k.written).0 (room_of w.control.askers (roomy w k))

  -- a step is one of which all laws speak
  goes : (step : Step) (w : World) → MayTake t w step → IsRun t l i w → MayGo t l w step
  goes step w may k =
      record {
        can = may.can;
        has = may.has;
        low = low_of w.control.askers (roomy w k);
        after = low_after w.control.askers (stepped t l step w).world.control.askers (roomy w k) (serials_rise t l start.setting.tree step w);
        vid = may.vid;
      }

  turn_after : (w v : World) (cs : List Command) (es : List _) → IsSound t l w → InTurn t w.control → StaysSound t l cs w v es → InTurn t v.control
  turn_after w v cs es sound turn stays = by_step stays.follows
    where
      by_step : Follows t l cs (system_of w) (system_of v) es w.table v.table → InTurn t v.control
      by_step (inl n) = subst (λ (y : System). InTurn t y.state) (sym n.is) turn
      by_step (inr s) = subst (λ (y : System). InTurn t y.state) (sym s.is) (steps_keep_turns t l start.setting (system_of w) s.step (forget t l (system_of w) sound.stands) s.may turn)

  going_after : (step : Step) (w : World) → MayTake t w step → IsGoing t l w → IsOrderly t w → IsOrderly t (stepped t l step w).world → IsGoing t l (stepped t l step w).world
  going_after (Arrive a) w may k o after = arrival_going t l start.setting.tree start.setting round a w may.has may.can k o after
  going_after (Carry n way) w may k o after = step_going t l start.setting.tree start.setting round (Carry n way) w (carries n way) may.can k o after
  going_after (Control n way at keep) w may k o after = step_going t l start.setting.tree start.setting round (Control n way at keep) w (delivers n way at keep) may.can k o after
  going_after (Lose n way at) w may k o after = step_going t l start.setting.tree start.setting round (Lose n way at) w (loses n way at) may.can k o after
  going_after Beat w may k o after = beat_going t l start.setting.tree start.setting round w k o after
  going_after (Tick seconds) w may k o after = tick_going t l start.setting.tree start.setting round seconds w may.can k o after
  going_after (Order c) w may k o after = order_going t l start.setting.tree start.setting round c w may.can k o after
  going_after Mark w may k o after = mark_going t l start.setting.tree start.setting round w may.can k o after

  pub step_run : (step : Step) (w : World) → MayTake t w step → IsRun t l i w → IsRun t l i (stepped t l step w).world
  step_run step w may k =
      let v : World = (stepped t l step w).world in
      let go : MayGo t l w step = goes step w may k in
      let one : MayDo t l w step × AreWritten v = steps_go_on stay t l i start w k.given k.history k.left k.kept k.written step go in
      let kept : Kept t l i v (k.given ++ given_by step) (k.history then (stepped t l step w).events) (k.left ++ (stepped t l step w).left) = step_kept round words leave law t l i start w k.given k.history k.left k.kept step one.0 in
      let stays : StaysSound t l (ordered_by step) w v (stepped t l step w).events = steps_stay_sound round t l start.setting w step k.going.sound one.0.may in
      let sound : IsSound t l v = sound_after t l start.setting.tree start.setting round (ordered_by step) w v (stepped t l step w).events k.going.sound stays in
      let turn : InTurn t v.control = turn_after w v (ordered_by step) (stepped t l step w).events k.going.sound k.turn stays in
      let before : w.control.given ≡ length (commands_of k.given) = k.kept.follows.commands in
      let now : v.control.given ≡ length (commands_of (k.given ++ given_by step)) = kept.follows.commands in
      let more : length (commands_of (k.given ++ given_by step)) ≡ length (commands_of k.given) + length (commands_of (given_by step)) = ap length (commands_append k.given (given_by step)) ∙ length-append (commands_of k.given) (commands_of (given_by step)) in
      let room = given_few t w step may.can k.few in
      let few : v.control.given ≤ 65536 = omega (arith, before, now, more, room) in
      let after : IsOrderly t v = orderly t l start.setting v sound turn (written_are_short v one.1).0 (room_of v.control.askers (serials_stay_low t v.control turn few)) in
      record {
        given = k.given ++ given_by step;
        history = k.history then (stepped t l step w).events;
        left = k.left ++ (stepped t l step w).left;
        kept = kept;
        written = one.1;
        going = going_after step w may k.going (orderly_now w k) after;
        turn = turn;
        few = few;
      }

  pub run_after : (steps : List Step) (w : World) → MayTakeAll t l w steps → IsRun t l i w → IsRun t l i (run t l steps w).world
  unfolding run
  run_after [] w may k = k
  run_after (step ∷ steps) w may k = run_after steps (stepped t l step w).world may.1 (step_run step w may.0 k)

  pub go_after : (steps : List Step) (w : World) → MayTakeAll t l w steps → IsRun t l i w → MayGoAll t l w steps
  go_after [] w may k = tt
  go_after (step ∷ steps) w may k = (goes step w may.0 k, go_after steps (stepped t l step w).world may.1 (step_run step w may.0 k))

  -- the steps of rounds are such
  takes_move : (step : Step) (w : World) → MayMove t w step → MayTake t w step
  takes_move step w (inl on) = by_link step on.0 on.1
    where
      by_link : (x : Step) → OnLink x → Can t w x → MayTake t w x
      by_link _ (carries n way) can = record { can = can; has = tt; vid = tt }
      by_link _ (delivers n way k keep) can = record { can = can; has = tt; vid = tt }
      by_link _ (loses n way k) can = record { can = can; has = tt; vid = tt }
  takes_move step w (inr is) = subst (MayTake t w) (sym is) (record { can = tt; has = tt; vid = tt })

  take_all : (steps : List Step) (w : World) → MayMoveAll t l w steps → MayTakeAll t l w steps
  take_all [] w may = tt
  take_all (step ∷ steps) w may = (takes_move step w may.0, take_all steps (stepped t l step w).world may.1)

  keeps_order : (w : World) → IsRun t l i w → KeepsOrder t l w
  keeps_order w k = record { each = λ steps may. orderly_now (run t l steps w).world (run_after steps w (take_all steps w may) k) }

  keeps_facts : (w : World) → IsRun t l i w → KeepsFacts t l w
  keeps_facts w k = order_keeps_facts round t l w start.setting k.going (keeps_order w k)

-- ---- from a valid setup
module _ (round : TagRoundTrip) (words : SendsAreWords) (leave : SendsLeaveAsFlat) (law : StepsTell) (stay : StepsStayWritten) where
  pub begins : (s : Setup) → IsValid s → (start : MayStart (shape_of s) (limits_of s) (basis_of s)) → IsRun (shape_of s) (limits_of s) (basis_of s) (first_world (shape_of s) (limits_of s) (start_of s) s.ageing)
  begins s valid start =
      record {
        given = [];
        history = [];
        left = [];
        kept = begins_kept (shape_of s) (limits_of s) (basis_of s) start;
        written = begins_written (shape_of s) (limits_of s) (start_of s) s.ageing;
        going = (setups_begin_going s valid).1;
        turn = begins_in_turn (shape_of s) (limits_of s) (start_of s) start.setting.tree;
        few = omega arith;
      }

  pub runs_are_ready : RunsAreReady
  runs_are_ready s steps valid vids may =
      let start = setups_may_start s valid vids in
      let k = run_after round words leave law stay (shape_of s) (limits_of s) (basis_of s) start steps _ may (begins s valid start) in
      record {
        orderly = orderly_now round words leave law stay (shape_of s) (limits_of s) (basis_of s) start _ k;
        roomy = roomy round words leave law stay (shape_of s) (limits_of s) (basis_of s) start _ k;
        facts = keeps_facts round words leave law stay (shape_of s) (limits_of s) (basis_of s) start _ k;
      }

  pub runs_stay_low : RunsStayLow
  runs_stay_low s steps valid vids may =
      let start = setups_may_start s valid vids in
      go_after round words leave law stay (shape_of s) (limits_of s) (basis_of s) start steps _ may (begins s valid start)

  pub settles : Settles
  settles s steps valid vids may b verdicts few =
      settling_ends round (shape_of s) (limits_of s) _ (setups_may_start s valid vids).setting.tree (runs_are_ready s steps valid vids may).facts b verdicts few

  pub settling_always_plays : SettlingAlwaysPlays
  settling_always_plays s steps more valid vids may i segment gives b verdicts few =
      let t : Shape = shape_of s in
      let l : Limits = limits_of s in
      let w : World = reached_by s steps in
      let v : World = (run t l more w).world in
      let tree : IsTree t = (setups_may_start s valid vids).setting.tree in
      let same : reached_by s (steps ++ more) ≡ v = ap (λ (z : Stepped). z.world) (run_then t l steps more (beginning s)) in
      let ends : is_settled t (settled_within t l (rounds b (planned_in t l v)) v verdicts).done.world ≡ true =
      subst (λ (u : World). is_settled t (settled_within t l (rounds b (planned_in t l u)) u verdicts).done.world ≡ true) same (settles s (steps ++ more) valid vids may b verdicts few) in
      settling_plays t l i segment w more verdicts (rounds b (planned_in t l v)) gives ((settled_exactly t (settled_within t l (rounds b (planned_in t l v)) v verdicts).done.world tree).0 ends)
