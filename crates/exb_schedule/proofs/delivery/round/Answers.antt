use Rattle.std.proofs.Common.{arith}
use Rattle.exb_bridge.proofs.IncomingFrames.{on_ok_two}
use Rattle.exb_schedule.proofs.DirectionOrder.{has_round}
use Rattle.exb_schedule.proofs.delivery.round.Goals as goal

pub returns-clause-ok : goal.returns-clause-ok
returns-clause-ok g c =
    on_ok_two c.beat.result
    (λ made may.
    has_round _ _ _ _ c.args.world.now c.go_one_way.new.world c.go_one_way-2.new.world c.beat.new.self c.in_ok-go_one_way.ensures.ok c.in_ok-go_one_way-2.ensures.ok made may
    (omega arith))
    c.beat.ensures.ok c.beat.ensures.may
