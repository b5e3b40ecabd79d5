use Rattle.exb_world_spec.specs.Worlds.{Carry}
use Rattle.exb_world.specs.Steps.{way_of}
use Rattle.exb_bridge.proofs.IncomingFrames.{on_ok_two}
use Rattle.exb_schedule.proofs.SeededSegments.{keeps_by}
use Rattle.exb_schedule.proofs.seeded_segments.take_data.Goals as goal

pub returns-clause-ok : goal.returns-clause-ok
returns-clause-ok c =
    on_ok_two c.carry-2.result (λ made may. keeps_by (Carry c.args.link (way_of c.args.way)) c.args.world.now c.carry-2.new.self tt made may) c.carry-2.ensures.ok c.carry-2.ensures.may
