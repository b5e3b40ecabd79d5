use Rattle.exb_model.specs.Input.{Eager}
use Rattle.exb_schedule.specs.SegmentRuns.{gives}
use Rattle.exb_schedule.proofs.SegmentInput.{on_ok_any}
use Rattle.exb_schedule.proofs.PlayedSegments.{in_order, played_more, played_out}
use Rattle.exb_schedule.proofs.segment.play_in_order.Goals as goal

pub returns-clause-segment : goal.returns-clause-segment
returns-clause-segment g c =
    on_ok_any c.end.result
    (played_out (gives c.args.seconds c.args.commands.now c.args.arrivals.now) c.args.world.now c.give_all.new.world c.end.new.world c.in_ok-give_all.ensures.ok)
    c.end.ensures.ok

pub returns-clause-plays : goal.returns-clause-plays
returns-clause-plays g c =
    on_ok_any c.end.result
    (λ e. λ i so_far s events passed left lines is k.
    played_more Eager i so_far s (gives c.args.seconds c.args.commands.now c.args.arrivals.now) c.args.world.now c.give_all.new.world c.end.new.world events passed left lines
    (in_order Eager i s c.args.seconds c.args.commands.now c.args.arrivals.now is) c.in_ok-give_all.ensures.ok e k)
    c.end.ensures.ok
