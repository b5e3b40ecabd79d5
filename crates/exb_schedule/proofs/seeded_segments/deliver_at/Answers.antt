use Rattle.exb_world_spec.specs.Worlds.{Control}
use Rattle.exb_world.specs.Steps.{way_of}
use Rattle.exb_bridge.proofs.IncomingFrames.{on_ok_two}
use Rattle.exb_schedule.proofs.SeededSegments.{keeps_by}
use Rattle.exb_schedule.proofs.seeded_segments.deliver_at.Goals as goal

pub returns-clause-ok : goal.returns-clause-ok
returns-clause-ok c =
    on_ok_two c.deliver-2.result (λ made may. keeps_by (Control c.args.link (way_of c.args.way) c.args.place c.args.keep) c.args.world.now c.deliver-2.new.self tt made may) c.deliver-2.ensures.ok c.deliver-2.ensures.may
