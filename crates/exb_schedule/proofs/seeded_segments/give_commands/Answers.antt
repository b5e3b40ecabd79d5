use Rattle.std.proofs.Common.{◌∙◌, refl, ap, sym, arith, drop}
use Rattle.exb_schedule.specs.SegmentRuns.{letters_in}
use Rattle.exb_schedule.proofs.SeededSegments.{order_can}
use Rattle.exb_schedule.proofs.seeded_segments.give_commands.Goals as goal

pub commands-init : goal.commands-init
commands-init g c = record { on = λ all old k. k; few = omega arith; seconds = refl; failed = refl }

pub commands-preserved : goal.commands-preserved
commands-preserved g c =
    let before = c.commands.invariant.few in
    let fate = c.command.ensures.fate in
    let next = ap (λ n. letters_in (drop n c.args.commands.now)) c.in_ok-command.ensures.taken in
    record {
      on = λ all old k. c.in_ok-command.ensures.ok c.args.arrivals.now all old (c.commands.invariant.on all old k);
      few = omega (arith, before, fate, next);
      seconds = c.command.ensures.seconds ∙ c.commands.invariant.seconds;
      failed = (let r = c.requires.drawn in (c.in_ok-command.ensures.ok c.args.arrivals.now r.0 r.1 (c.commands.invariant.on r.0 r.1 r.2)).made.moved.same.failed ∙ sym r.2.made.moved.same.failed);
    }

pub command-requires-clause-can : goal.command-requires-clause-can
command-requires-clause-can g c x is =
    let r = c.requires.drawn in
    order_can r.0 c.args.commands.now c.args.arrivals.now _ _ _ r.1 c.commands.world c.commands.world (c.commands.invariant.on r.0 r.1 r.2) x c.commands-test.true is

pub command-requires-clause-few : goal.command-requires-clause-few
command-requires-clause-few g c =
    let before = c.commands.invariant.few in
    let few = c.requires.few in
    omega (arith, before, few)
