use Rattle.std.proofs.Common.{◌≡◌, ℕ, ◌<◌, slice_index_or}
use Rattle.exb_model.specs.Ports.{port_in}
use Rattle.exb_model.specs.Tree.{Shape, is_external}
use Rattle.exb_model.specs.Setup.{IsStart}
use Rattle.exb_model.specs.declared.command.Command.{Command}
use Rattle.exb_model.proofs.setup.are_start.Given as goal

abbrev pub invariant-loop-command : goal.invariant-loop-command
invariant-loop-command l = (t : Shape) → ((q : ℕ) → port_in l.external q ≡ is_external t q) → (k : ℕ) (d : Command) → k < l.command-index → IsStart t (slice_index_or l.commands k d)
