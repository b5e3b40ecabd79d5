use Rattle.std.proofs.Common.{arith}
use Rattle.exb_world.specs.Steps.{way_of}
use Rattle.exb_schedule.proofs.NextFrames.{there_still, through_first, through_last}
use Rattle.exb_schedule.proofs.delivery.go_through.Goals as goal

pub words-init : goal.words-init
words-init g c =
    record {
      whole = through_first c.args.link (way_of c.args.way) _ c.args.world.now _ _ c.counts-counts.ensures.frames c.counts-counts.ensures.control;
      low = omega arith;
      falls = omega arith;
    }

pub words-preserved : goal.words-preserved
words-preserved g c =
    let falls = c.in_ok-take_next.ensures.falls in
    let before = c.words.invariant.falls in
    record {
      whole = c.in_ok-take_next.ensures.ok _ _ _ c.words.invariant.whole;
      low = c.in_ok-take_next.ensures.low;
      falls = omega (arith, falls, before);
    }

pub words-smaller : goal.words-smaller
words-smaller g c = (let less = c.in_ok-take_next.ensures.fewer in omega (arith, less))

pub take_next-requires-clause-there : goal.take_next-requires-clause-there
take_next-requires-clause-there g c = there_still c.args.link (way_of c.args.way) _ _ _ _ _ _ c.words.invariant.whole c.requires

pub take_next-requires-clause-next : goal.take_next-requires-clause-next
take_next-requires-clause-next g c = c.words.invariant.whole.next

pub take_next-requires-clause-low : goal.take_next-requires-clause-low
take_next-requires-clause-low g c = c.words.invariant.low

pub returns-clause-ok : goal.returns-clause-ok
returns-clause-ok g c = through_last c.args.link (way_of c.args.way) _ _ _ _ _ _ c.words.invariant.whole (omega arith) (omega arith)
