use Rattle.std.proofs.Common.{arith}
use Rattle.exb_run.proofs.fates.run_armed.Goals as goal

pub run-requires-clause-each : goal.run-requires-clause-each
run-requires-clause-each g c =
    c.in_ok-add_fate-15.ensures.each (c.in_ok-add_fate-14.ensures.each (c.in_ok-add_fate-13.ensures.each (c.in_ok-add_fate-12.ensures.each (c.in_ok-add_fate-11.ensures.each (c.in_ok-add_fate-10.ensures.each (c.in_ok-add_fate-9.ensures.each (c.in_ok-add_fate-8.ensures.each (c.in_ok-add_fate-7.ensures.each (c.in_ok-add_fate-6.ensures.each (c.in_ok-add_fate-5.ensures.each (c.in_ok-add_fate-4.ensures.each (c.in_ok-add_fate-3.ensures.each (c.in_ok-add_fate-2.ensures.each (c.in_ok-add_fate.ensures.each (λ k d h. absurd (omega arith))))))))))))))))
