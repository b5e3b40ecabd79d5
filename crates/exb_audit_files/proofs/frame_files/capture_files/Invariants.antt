use Rattle.std.proofs.Common.{◌≡◌}
use Rattle.std.specs.Prelude.{flat_map}
use Rattle.exb_model.specs.Ports.{below}
use Rattle.exb_audit_files.specs.Scopes.{capture_file}
use Rattle.exb_audit_files.proofs.frame_files.capture_files.Given as goal

abbrev pub invariant-ports : goal.invariant-ports
invariant-ports l = l.files.items ≡ flat_map (capture_file l.names) (below l.number)
