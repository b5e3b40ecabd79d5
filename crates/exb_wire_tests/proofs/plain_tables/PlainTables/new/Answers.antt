use Rattle.exb_wire_tests.proofs.PlainLemmas.{lists_on}
use Rattle.exb_wire_tests.proofs.plain_tables.PlainTables.new.Goals as goal

pub returns : goal.returns
returns c = lists_on _ _ _ _ c.in_ok-own.ensures.long c.in_ok-own.ensures.each c.in_ok-cascade.ensures.each c.in_ok-words.ensures.each
