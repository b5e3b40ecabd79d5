use Rattle.exb_schedule.proofs.SeededSegments.{drawn_order}
use Rattle.exb_schedule.proofs.remaining_input.command.Goals as goal

pub returns-clause-ok : goal.returns-clause-ok
returns-clause-ok g c frames all old k =
    drawn_order all c.args.commands.now frames c.args.rest.now.seconds c.args.rest.now.taken c.args.rest.now.given.items old c.args.world.now c.give_one.new.world k c.index-commands-rest.result
    c.requires.some c.index-commands-rest.is c.in_ok-give_one.ensures.ok c.in_ok-give_one.ensures.may
