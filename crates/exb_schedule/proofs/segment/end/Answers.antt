use Rattle.exb_bridge.proofs.IncomingFrames.{on_ok_two}
use Rattle.exb_schedule.proofs.PlayedSegments.{has_ended, stays_settled}
use Rattle.exb_schedule.proofs.segment.end.Goals as goal

pub returns-clause-ok : goal.returns-clause-ok
returns-clause-ok g c =
    on_ok_two c.set_mark.result
    (λ made may.
    has_ended _ c.args.world.now c.settle.new.world c.set_mark.new.world c.in_ok-settle.ensures.ok.gone c.in_ok-settle.ensures.settled made may)
    c.set_mark.ensures.ok c.set_mark.ensures.may

pub returns-clause-settled : goal.returns-clause-settled
returns-clause-settled g c =
    on_ok_two c.set_mark.result
    (λ made may. stays_settled c.settle.new.world c.set_mark.new.world c.in_ok-settle.ensures.settled made)
    c.set_mark.ensures.ok c.set_mark.ensures.may
