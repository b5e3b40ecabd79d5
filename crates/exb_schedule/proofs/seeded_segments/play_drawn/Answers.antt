use Rattle.std.proofs.Common.{refl}
use Rattle.exb_model.specs.Input.{Seeded}
use Rattle.exb_schedule.proofs.SeededSegments.{drawn_last, these_give}
use Rattle.exb_schedule.proofs.SegmentInput.{on_ok_any}
use Rattle.exb_schedule.proofs.PlayedSegments.{played_more, played_out}
use Rattle.exb_schedule.proofs.seeded_segments.play_drawn.Goals as goal

pub returns-clause-segment : goal.returns-clause-segment
returns-clause-segment g c =
    let z = c.in_ok-give_drawn.ensures.ok in
    on_ok_any c.end.result
    (λ e. record {
      steps = z.drawn.steps;
      gives = drawn_last c.args.seconds c.args.commands.now c.args.arrivals.now 0 z.taken z.given c.args.world.now c.give_drawn.new.world c.give_drawn.new.world z.drawn refl z.commands z.arrivals;
      played = played_out z.drawn.steps c.args.world.now c.give_drawn.new.world c.end.new.world z.drawn.made e;
    })
    c.end.ensures.ok

pub returns-clause-plays : goal.returns-clause-plays
returns-clause-plays g c =
    let z = c.in_ok-give_drawn.ensures.ok in
    on_ok_any c.end.result
    (λ e. λ i so_far s events passed left lines is k.
    played_more Seeded i so_far s z.drawn.steps c.args.world.now c.give_drawn.new.world c.end.new.world events passed left lines
    (these_give i s c.args.seconds c.args.commands.now c.args.arrivals.now z.drawn.steps is
    (drawn_last c.args.seconds c.args.commands.now c.args.arrivals.now 0 z.taken z.given c.args.world.now c.give_drawn.new.world c.give_drawn.new.world z.drawn refl z.commands z.arrivals))
    z.drawn.made e k)
    c.end.ensures.ok
