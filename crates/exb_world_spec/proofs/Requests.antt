-- Whatever the machine of changes asks in a sound world can be sent.
use Rattle.std.proofs.Common.{ℕ, Bool, true, false, cond, List, [], ◌∷◌}
use Rattle.exb_model.specs.declared.command.Command.{Command}
use Rattle.exb_model.specs.Tree.{Shape}
use Rattle.exb_model.specs.Setup.{Limits, NamesExternal}
use Rattle.exb_csp.specs.declared.message.Message.{Message}
use Rattle.exb_control_spec.specs.declared.extender_message.Asked.{Asked}
use Rattle.exb_control_spec.specs.Decisions.{decide}
use Rattle.exb_control_spec.specs.Machine.{Moved, still, heard, ordered, answered, beats}
use Rattle.exb_control_spec.specs.Runs.Systems.{Step, Order, Hear, Stray, Beat, moved}
use Rattle.exb_control_spec.specs.Runs.PlannedChanges.{IsSetting}
use Rattle.exb_control_spec.specs.Runs.RequestTargets.{AreAddressed, NamesPorts}
use Rattle.exb_control_spec.proofs.Runs.RequestTargets.{steps_know}
use Rattle.exb_world_spec.specs.Worlds.{World}
use Rattle.exb_world_spec.specs.BridgeLearning.{is_of}
use Rattle.exb_world_spec.specs.Runs.Requests.{CanGo, AsksGo, AsksCanBeSent}
use Rattle.exb_world_spec.specs.Runs.Sessions.{Each, AskedOf, AreSent}
use Rattle.exb_world_spec.specs.Runs.Simulation.{system_of, IsSound}
use Rattle.exb_world_spec.proofs.OneRequest.{answered_asks, heard_asks, ordered_asks}
use Rattle.exb_world_spec.proofs.BeatSteps.{has_beaten}
use Rattle.exb_world_spec.proofs.ControlSteps.{was_each}
use Rattle.exb_world_spec.proofs.WritableRequests.{moved_wrote, all_be_sent}

both_go : (t : Shape) (xs : List Asked) → AreAddressed t xs → AreSent xs → Each (CanGo t) xs
both_go t [] there sent = tt
both_go t (x ∷ xs) there sent = (record { there = there.0; sent = sent.0 }, both_go t xs there.1 sent.1)

module _ (t : Shape) (l : Limits) (setting : IsSetting t l) (w : World) (sound : IsSound t l w) where
  -- of a step of the machine of changes, each request of which was asked
  step_goes : (step : Step) → NamesPorts t step → let m : Moved = moved (decide t l) (system_of w) step in
      Each (λ (x : Asked). AskedOf m.state.askers x.extender x.message.serial x.message.body) m.asks → AsksGo t m
  step_goes step names was low =
      let m : Moved = moved (decide t l) (system_of w) step in
      both_go t m.asks (steps_know t l (system_of w) step sound.fits.ends.knows names).1
      (all_be_sent m.state.askers m.asks (moved_wrote t l setting (system_of w) step sound.fits.ends.writes sound.fits.ends.waits).asks was low)

  message_goes : (n : ℕ) (m : Message) → AsksGo t (answered (decide t l) n m w.control)
  message_goes n m =
      let k = answered_asks (decide t l) n m w.control in
      step_goes (Stray n m) tt (was_each _ (answered (decide t l) n m w.control).state.askers (answered (decide t l) n m w.control).asks k.one)

  command_goes : (c : Command) → NamesExternal t c → AsksGo t (ordered (decide t l) c w.control)
  command_goes c names =
      let k = ordered_asks (decide t l) c w.control in
      step_goes (Order c) names (was_each _ (ordered (decide t l) c w.control).state.askers (ordered (decide t l) c w.control).asks k.one)

  announcement_goes : (n : ℕ) (ours : Bool) → AsksGo t (cond ours (heard (decide t l) n w.control) (still w.control))
  announcement_goes n true =
      let k = heard_asks (decide t l) n w.control in
      step_goes (Hear n) tt (was_each _ (heard (decide t l) n w.control).state.askers (heard (decide t l) n w.control).asks k.one)
  announcement_goes n false = λ low. tt

  beat_goes : AsksGo t (beats w.control)
  beat_goes = step_goes Beat tt (has_beaten w.control w.control.work w.far sound.fits.ends.paired).was

pub asks_can_be_sent : AsksCanBeSent
asks_can_be_sent t l w setting sound =
    record {
      answers = message_goes t l setting w sound;
      hears = λ n a. announcement_goes t l setting w sound n (is_of t n a);
      orders = command_goes t l setting w sound;
      beats = beat_goes t l setting w sound;
    }
