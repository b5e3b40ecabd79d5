use Rattle.std.proofs.Common.{◌<◌, length, set, sym, subst, arith}
use Rattle.std.specs.Prelude.{◌/◌}
use Rattle.exb_timeline.specs.Tournaments.{HasLeaves, HasPending}
use Rattle.exb_timeline.proofs.TournamentTree.{pending_less, leaves_less}
use Rattle.exb_timeline.proofs.tournament.settle.Goals as goal

pub nodes-preserved : goal.nodes-preserved
nodes-preserved c =
    let ms = c.args.moments.now in
    let firsts = c.nodes.firsts in
    let node = c.nodes.node in
    let h = c.nodes.invariant in
    let some : 0 < node = omega (arith, c.nodes-test.true) in
    subst (λ w. HasPending ms (set firsts node w) (node / 2) × HasLeaves (length ms) c.args.firsts.now (set firsts node w)) (sym c.sooner.ensures)
    (pending_less ms firsts node h.0 some, leaves_less ms firsts node h.0 some c.args.firsts.now h.1)
