use Rattle.exb_schedule.proofs.SeededSegments.{drawn_begin}
use Rattle.exb_schedule.proofs.seeded_segments.give_drawn.Goals as goal

pub give_rest-requires-clause-drawn : goal.give_rest-requires-clause-drawn
give_rest-requires-clause-drawn g c =
    drawn_begin c.args.seconds c.args.commands.now c.args.arrivals.now c.in-Ok.rest.seconds c.in-Ok.rest.taken c.in-Ok.rest.given.items c.args.world.now c.in-Ok.ensures.seconds c.in-Ok.ensures.taken
    c.in-Ok.ensures.given c.requires.can
