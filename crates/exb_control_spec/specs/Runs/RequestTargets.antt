-- To whom requests go.
use Rattle.std.specs.Prelude.{◌≡◌, true, List, [], ◌∷◌, Option, Some, None}
use Rattle.exb_model.specs.Tree.{Shape, is_extender}
use Rattle.exb_model.specs.Setup.{Limits, NamesExternal}
use Rattle.exb_model.specs.Configuration.{Bridge}
use Rattle.exb_control_spec.specs.declared.extender_message.Asked.{Asked}
use Rattle.exb_control_spec.specs.Decisions.{decide}
use Rattle.exb_control_spec.specs.JobsOfTree.{AreFit}
use Rattle.exb_control_spec.specs.Machine.{Work, State}
use Rattle.exb_control_spec.specs.RequestLaws.{AreKnown}
use Rattle.exb_control_spec.specs.Runs.Systems.{System, Step, Order, moved, stepped}
use Rattle.exb_control_spec.specs.Runs.InitialSystem.{first_system}

-- The outstanding request, and those of the change at work that follow, go to extenders of the tree.
pub record IsWorkKnown (t : Shape) (w : Work) : Type 0 where
  pub first : is_extender t w.first.extender ≡ true
  pub rest : AreKnown t w.rest
  pub cleanup : AreKnown t w.change.cleanup

abbrev pub KnowsWork : Shape → Option Work → Type 0
KnowsWork t None = Unit {0}
KnowsWork t (Some w) = IsWorkKnown t w

-- and each job that waits is one of the tree
pub record Knows (t : Shape) (s : State) : Type 0 where
  pub work : KnowsWork t s.work
  pub queue : AreFit t s.queue

-- each message that goes out goes to an extender of the tree
abbrev pub AreAddressed : Shape → List Asked → Type 0
AreAddressed t [] = Unit {0}
AreAddressed t (a ∷ asks) = (is_extender t a.extender ≡ true) × AreAddressed t asks

-- a command that comes names external ports of the tree
abbrev pub NamesPorts : Shape → Step → Type 0
NamesPorts t (Order c) = NamesExternal t c
NamesPorts t _ = Unit {0}

-- It is so at the beginning, and each step keeps it; so no message goes to an extender that there isn't.
abbrev pub BeginsKnowing : Type 0
BeginsKnowing = (t : Shape) (l : Limits) (b : Bridge) → Knows t (first_system t l b).state

abbrev pub StepsKnow : Type 0
StepsKnow =
    (t : Shape) (l : Limits) (y : System) (step : Step) → Knows t y.state → NamesPorts t step →
    Knows t (stepped (decide t l) y step).state × AreAddressed t (moved (decide t l) y step).asks
