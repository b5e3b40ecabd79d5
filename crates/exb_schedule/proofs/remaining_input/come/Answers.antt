use Rattle.std.proofs.Common.{◌<◌, true, length, arith, sym, ◌∙◌}
use Rattle.std.proofs.lemmas.List.{get_or_default}
use Rattle.exb_schedule.proofs.SeededSegments.{drawn_arrival}
use Rattle.exb_schedule.proofs.remaining_input.come.Goals as goal

pub returns-clause-ok : goal.returns-clause-ok
returns-clause-ok c cs all old k =
    let there = c.requires.there in
    let whole = c.requires.whole in
    let low : c.args.at < length c.args.rest.now.given.items = omega (arith, there, whole) in
    drawn_arrival all cs c.args.arrivals.now c.args.rest.now.seconds c.args.rest.now.taken c.args.rest.now.given.items old c.args.world.now c.arrive.new.self k c.args.at c.index-arrivals-at.result low c.requires.there
    (get_or_default c.args.rest.now.given.items c.args.at true c.index.result.now low ∙ (sym c.index.ensures ∙ c.if-index.false)) c.index-arrivals-at.is
    c.in_ok-arrive.ensures.ok c.in_ok-arrive.ensures.may
