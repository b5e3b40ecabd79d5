use Rattle.exb_schedule.proofs.SeededSegments.{drawn_tick}
use Rattle.exb_schedule.proofs.remaining_input.pass.Goals as goal

pub returns-clause-ok : goal.returns-clause-ok
returns-clause-ok c cs frames all old k =
    drawn_tick all cs frames c.args.rest.now.seconds c.args.rest.now.taken c.args.rest.now.given.items old c.args.world.now c.tick.new.self k c.if-rest-eq0.false c.in_ok-tick.ensures.ok c.in_ok-tick.ensures.may
