use Rattle.std.proofs.Common.{◌≡◌, []}
use Rattle.exb_model.specs.Tree.{Shape}
use Rattle.exb_topology.specs.Checks.{file_ok, output_names}
use Rattle.exb_topology.proofs.ElementChecks.{So}
use Rattle.exb_topology.proofs.checks.check_each_file.Given as goal

abbrev pub invariant-loop-capture : goal.invariant-loop-capture
invariant-loop-capture l = (t : Shape) → l.ends ≡ output_names [] t → So (file_ok (output_names l.prefix t)) l.captures l.capture-index
