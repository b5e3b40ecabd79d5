use Rattle.std.proofs.Common.{◌≡◌, drop}
use Rattle.std.specs.List.{list_any}
use Rattle.exb_net_file.specs.Members.{is_output_of_net}
use Rattle.exb_net_file.proofs.members.has_written.Given as goal

abbrev pub invariant-loop-capture : goal.invariant-loop-capture
invariant-loop-capture l = list_any (λ x. is_output_of_net l.members x.name) (drop l.capture-index l.captures) ≡ list_any (λ x. is_output_of_net l.members x.name) l.captures
