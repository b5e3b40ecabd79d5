use Rattle.std.proofs.Common.{arith}
use Rattle.exb_model.specs.declared.setup.Timed.{Timed}
use Rattle.exb_world_spec.specs.Worlds.{Order}
use Rattle.exb_schedule.proofs.SegmentInput.{given_can, given_first, given_on, letters_next}
use Rattle.exb_schedule.proofs.segment.give.Goals as goal

pub loop-command-init : goal.loop-command-init
loop-command-init g c = record { given = given_first (λ (x : Timed). Order x.command) c.args.commands.now c.args.world.now c.requires.can; few = omega arith }

pub loop-command-preserved : goal.loop-command-preserved
loop-command-preserved g c =
    let few = c.loop-command.invariant.few in
    let next = letters_next c.args.commands.now c.loop-command.command-index c.command-item.result c.loop-command-test.true c.command-item.is in
    let fate = c.give_one.ensures.fate in
    record {
      given = given_on (λ (x : Timed). Order x.command) c.args.commands.now c.loop-command.command-index c.command-item.result c.args.world.now c.loop-command.world c.give_one.new.world
          c.loop-command-test.true c.command-item.is c.loop-command.invariant.given c.in_ok-give_one.ensures.ok c.in_ok-give_one.ensures.may;
      few = omega (arith, few, next, fate);
    }

pub give_one-requires-clause-can : goal.give_one-requires-clause-can
give_one-requires-clause-can g c =
    given_can (λ (x : Timed). Order x.command) c.args.commands.now c.loop-command.command-index c.command-item.result c.args.world.now c.loop-command.world c.loop-command-test.true c.command-item.is
    c.loop-command.invariant.given

pub give_one-requires-clause-few : goal.give_one-requires-clause-few
give_one-requires-clause-few g c =
    let few = c.loop-command.invariant.few in
    let next = letters_next c.args.commands.now c.loop-command.command-index c.command-item.result c.loop-command-test.true c.command-item.is in
    let all = c.requires.few in
    omega (arith, few, next, all)
