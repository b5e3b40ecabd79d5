use Rattle.exb_world_spec.specs.Worlds.{Lose}
use Rattle.exb_world.specs.Steps.{way_of}
use Rattle.exb_bridge.proofs.IncomingFrames.{on_ok_two}
use Rattle.exb_schedule.proofs.SeededSegments.{keeps_by}
use Rattle.exb_schedule.proofs.seeded_segments.lose_at.Goals as goal

pub returns-clause-ok : goal.returns-clause-ok
returns-clause-ok c =
    on_ok_two c.lose-2.result (λ made may. keeps_by (Lose c.args.link (way_of c.args.way) c.args.place) c.args.world.now c.lose-2.new.self tt made may) c.lose-2.ensures.ok c.lose-2.ensures.may
