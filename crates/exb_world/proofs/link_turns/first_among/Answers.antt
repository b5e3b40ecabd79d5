use Rattle.std.proofs.Common.{arith}
use Rattle.std.proofs.lemmas.Option.{IfSome_then}
use Rattle.exb_world.proofs.LinkTurns.{none_so_far, one_more, first_is, if_none, none_is}
use Rattle.exb_world.proofs.link_turns.first_among.Goals as goal

pub links-init : goal.links-init
links-init c = (omega arith, none_so_far c.args.order.now c.args.links.now c.args.from)

pub links-preserved : goal.links-preserved
links-preserved c =
    let one = c.in-Some.ensures.found in
    let low = one.low in
    (omega (arith, low), one_more c.args.order.now c.args.places.now c.args.links.now c.args.from c.requires.places c.links.number c.links.first c.in-Some.link c.earlier-first.result c.links.invariant.1 one c.earlier-first.ensures)

pub returns-clause-found : goal.returns-clause-found
returns-clause-found c =
    IfSome_then c.turn_at.result c.turn_at.ensures.found
    (first_is c.args.order.now c.args.links.now c.args.from c.links.number c.links.first c.links.invariant.1 c.in_default.ensures.none c.requires.few)

pub returns-clause-none : goal.returns-clause-none
returns-clause-none c =
    if_none c.turn_at.result _ _
    (none_is c.args.order.now c.args.links.now c.args.from c.links.number c.links.first c.links.invariant.1 c.in_default.ensures.none) c.turn_at.ensures.none
