use Rattle.std.proofs.Common.{refl}
use Rattle.exb_world.proofs.StepLines.{kept_off}
use Rattle.exb_world.proofs.trace_lines.tell_rest.Goals as goal

pub returns-else-post : goal.returns-else-post
returns-else-post c = record { events = refl; passed = refl; left = refl; lines = kept_off c.args.post.now.log.tracing c.args.post.now.log.lines _ c.if-post.false; tracing = refl }
