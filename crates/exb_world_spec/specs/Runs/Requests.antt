-- Whatever the machine of changes asks can be sent.
use Rattle.std.specs.Prelude.{◌≡◌, ℕ, true}
use Rattle.exb_model.specs.declared.command.Command.{Command}
use Rattle.exb_model.specs.Tree.{Shape, is_extender}
use Rattle.exb_model.specs.Setup.{Limits, NamesExternal}
use Rattle.exb_lldp.specs.declared.announce.Announce.{Announce}
use Rattle.exb_csp.specs.declared.message.Message.{Message}
use Rattle.exb_control_spec.specs.declared.extender_message.Asked.{Asked}
use Rattle.exb_control_spec.specs.Decisions.{decide}
use Rattle.exb_control_spec.specs.Machine.{State, Moved, answered, ordered, beats}
use Rattle.exb_control_spec.specs.Runs.PlannedChanges.{IsSetting}
use Rattle.exb_world_spec.specs.Worlds.{World}
use Rattle.exb_world_spec.specs.BridgeLearning.{announced}
use Rattle.exb_world_spec.specs.Runs.Sessions.{Each, CanBeSent, AreLow}
use Rattle.exb_world_spec.specs.Runs.Simulation.{IsSound}

-- It goes to an extender of the tree, and its message can be written and is short.
pub record CanGo (t : Shape) (a : Asked) : Type 0 where
  pub there : is_extender t a.extender ≡ true
  pub sent : CanBeSent a.message

-- where the serials after the step fit their field, all that it asks is so
abbrev pub AsksGo : Shape → Moved → Type 0
AsksGo t m = AreLow m.state.askers → Each (CanGo t) m.asks

-- Whatever message or announcement comes, whatever command is given, and at a beat.
pub record AsksWell (t : Shape) (l : Limits) (s : State) : Type 0 where
  pub answers : (n : ℕ) (m : Message) → AsksGo t (answered (decide t l) n m s)
  pub hears : (n : ℕ) (a : Announce) → AsksGo t (announced (decide t l) t n a s)
  pub orders : (c : Command) → NamesExternal t c → AsksGo t (ordered (decide t l) c s)
  pub beats : AsksGo t (beats s)

-- So it is in each sound world.
abbrev pub AsksCanBeSent : Type 0
AsksCanBeSent = (t : Shape) (l : Limits) (w : World) → IsSetting t l → IsSound t l w → AsksWell t l w.control
