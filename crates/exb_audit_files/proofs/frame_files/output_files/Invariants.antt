use Rattle.std.proofs.Common.{◌≡◌}
use Rattle.std.specs.Prelude.{flat_map}
use Rattle.exb_model.specs.Ports.{below}
use Rattle.exb_audit_files.specs.Scopes.{output_file}
use Rattle.exb_audit_files.proofs.frame_files.output_files.Given as goal

abbrev pub invariant-ports : goal.invariant-ports
invariant-ports l = l.files.items ≡ flat_map (output_file l.tree l.prefix) (below l.number)
