use Rattle.std.proofs.Common.{◌≡◌, ◌==◌, drop}
use Rattle.std.specs.List.{list_any}
use Rattle.exb_model.specs.Setup.{port_at}
use Rattle.exb_topology.proofs.trees.is_taken.Given as goal

abbrev pub invariant-loop-extender : goal.invariant-loop-extender
invariant-loop-extender l = list_any (λ f. port_at f.on == l.port) (drop l.extender-index l.extenders) ≡ list_any (λ f. port_at f.on == l.port) l.extenders
