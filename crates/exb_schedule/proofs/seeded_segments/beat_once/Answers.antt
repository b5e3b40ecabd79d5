use Rattle.exb_world_spec.specs.Worlds.{Beat}
use Rattle.exb_bridge.proofs.IncomingFrames.{on_ok_two}
use Rattle.exb_schedule.proofs.SeededSegments.{keeps_by}
use Rattle.exb_schedule.proofs.seeded_segments.beat_once.Goals as goal

pub returns-clause-ok : goal.returns-clause-ok
returns-clause-ok c =
    on_ok_two c.beat.result (λ made may. keeps_by Beat c.args.world.now c.beat.new.self tt made may) c.beat.ensures.ok c.beat.ensures.may
