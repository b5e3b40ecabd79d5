use Rattle.std.proofs.Common.{◌<◌, ◌^◌}
use Rattle.exb_inputs.proofs.CaptureFaults.{all_more}
use Rattle.exb_run.proofs.fates.add_fate.Goals as goal

pub returns-clause-each : goal.returns-clause-each
returns-clause-each g c = λ all. all_more (λ f. (goal.Fate-dyn g (f.vtable, f.value)).left f.value < 2 ^ 56) _ _ c.args.fate c.in_ok-push.ensures.items all c.requires
