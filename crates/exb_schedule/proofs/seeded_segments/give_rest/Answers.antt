use Rattle.std.proofs.Common.{ℕ, ◌∙◌, arith, subst}
use Rattle.exb_schedule.specs.SeededSegments.{HasDrawn}
use Rattle.exb_schedule.proofs.SeededSegments.{on_ok_four, tick_can}
use Rattle.exb_schedule.proofs.seeded_segments.give_rest.Goals as goal

pub draw_all-requires-clause-drawn : goal.draw_all-requires-clause-drawn
draw_all-requires-clause-drawn g c = (c.args.seconds, c.requires.drawn)

pub pass-requires : goal.pass-requires
pass-requires g c =
    record {
      can = λ some.
          tick_can c.args.seconds c.args.commands.now c.args.arrivals.now _ _ _ c.args.world.now c.draw_all.new.world c.draw_all.new.world
          (c.in_ok-draw_all.ensures.ok c.args.seconds c.requires.drawn) some;
    }

pub give_commands-requires-clause-drawn : goal.give_commands-requires-clause-drawn
give_commands-requires-clause-drawn g c =
    (c.args.seconds, c.args.world.now, c.in_ok-pass.ensures.ok c.args.commands.now c.args.arrivals.now c.args.seconds c.args.world.now (c.in_ok-draw_all.ensures.ok c.args.seconds c.requires.drawn))

pub give_arrivals-requires : goal.give_arrivals-requires
give_arrivals-requires g c =
    record {
      drawn = (
        c.args.seconds,
        c.args.world.now,
        c.in_ok-give_commands.ensures.ok c.args.seconds c.args.world.now
            (c.in_ok-pass.ensures.ok c.args.commands.now c.args.arrivals.now c.args.seconds c.args.world.now (c.in_ok-draw_all.ensures.ok c.args.seconds c.requires.drawn)),
      );
    }

pub returns-clause-ok : goal.returns-clause-ok
returns-clause-ok g c =
    let old = c.args.world.now in
    let q = c.in_ok-give_commands.ensures.ok c.args.seconds c.args.world.now
    (c.in_ok-pass.ensures.ok c.args.commands.now c.args.arrivals.now c.args.seconds c.args.world.now (c.in_ok-draw_all.ensures.ok c.args.seconds c.requires.drawn)) in
    let last = c.in_ok-give_commands.ensures.all in
    on_ok_four c.give_arrivals.result
    (λ ok all seconds taken.
    record {
      taken = c.give_arrivals.new.rest.taken;
      given = c.give_arrivals.new.rest.given.items;
      drawn = subst (λ (n : ℕ). HasDrawn c.args.seconds c.args.commands.now c.args.arrivals.now n c.give_arrivals.new.rest.taken c.give_arrivals.new.rest.given.items c.args.world.now c.give_arrivals.new.world)
          (seconds ∙ (c.in_ok-give_commands.ensures.seconds ∙ c.in_ok-pass.ensures.seconds)) (ok c.args.seconds c.args.world.now q);
      commands = omega (arith, last, taken);
      arrivals = all;
    })
    c.give_arrivals.ensures.ok c.give_arrivals.ensures.all c.give_arrivals.ensures.seconds c.give_arrivals.ensures.taken
