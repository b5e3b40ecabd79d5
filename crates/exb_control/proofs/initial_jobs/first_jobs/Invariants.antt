use Rattle.std.proofs.Common.{◌≡◌, take}
use Rattle.std.specs.List.{flat_map}
use Rattle.exb_control_spec.specs.InitialState.{jobs_of}
use Rattle.exb_control.proofs.initial_jobs.first_jobs.Given as goal

abbrev pub invariant-loop-extender : goal.invariant-loop-extender
invariant-loop-extender l = l.queue ≡ flat_map (jobs_of l.tree) (take l.extender-index l.order)
