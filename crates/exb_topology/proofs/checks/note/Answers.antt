use Rattle.exb_topology.proofs.StaticEntrySets.{given_before, knows_more}
use Rattle.exb_topology.proofs.checks.note.Goals as goal

pub returns-clause-again : goal.returns-clause-again
returns-clause-again c =
    λ before known. given_before c.args.given.now c.args.entry.now c.number.result before c.in_ok-is_new.is_new c.number.ensures.value c.in_ok-is_new.ensures.added known

pub returns-clause-noted : goal.returns-clause-noted
returns-clause-noted c =
    λ before known. knows_more c.args.given.now c.insert.new.self c.args.entry.now c.number.result before c.number.ensures.value c.in_ok-is_new.ensures.updates known
