use Rattle.std.proofs.Common.{◌≡◌, ◌*◌, ◌++◌}
use Rattle.std.specs.List.{range_with_len}
use Rattle.exb_control_spec.proofs.FirstJobs.{ups}
use Rattle.exb_control.proofs.initial_jobs.put_ups.Given as goal

abbrev pub invariant-loop-place : goal.invariant-loop-place
invariant-loop-place l = l.queue ≡ l.initial.queue ++ ups l.tree (range_with_len (64 * l.extender) l.place)
