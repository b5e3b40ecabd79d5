use Rattle.std.proofs.Common.{[], sym, ◌∙◌, arith}
use Rattle.exb_wire_tests.proofs.PlainLemmas.{stray_found, stray_none, has_stray-is}
use Rattle.exb_wire_tests.proofs.plain_tables.has_stray.Goals as goal

pub returns-then-is_shut : goal.returns-then-is_shut
returns-then-is_shut c = λ words.
    stray_found c.args.own.now c.args.mask c.ports.k (omega arith) (sym c.has_bit.ensures ∙ c.if-has_bit.true) (sym c.is_shut.ensures ∙ c.if-is_shut.true)
    ∙ has_stray-is c.args.own.now [] words c.args.mask

pub returns : goal.returns
returns c = λ words. stray_none c.args.own.now c.args.mask (λ k low. c.ports.invariant k (omega (arith, c.ports-test.false))) ∙ has_stray-is c.args.own.now [] words c.args.mask
