use Rattle.std.proofs.Common.{List, ap, length, arith, ◌∙◌}
use Rattle.std.proofs.lemmas.List.{length-replicate}
use Rattle.exb_ecp.specs.StopAndWait.{State, new_state}
use Rattle.exb_ecp.specs.Ends.{near_of}
use Rattle.exb_ecp.proofs.EndLemmas.{none_sends}
use Rattle.exb_model.proofs.NumberedTables.{at_all}
use Rattle.exb_ecp.proofs.ends.Ends.new.Goals as goal

pub returns : goal.returns
returns c = ap near_of c.loop.invariant ∙ at_all c.loop.counter new_state

pub invariant_of-result : goal.invariant_of-result
invariant_of-result c =
    let same = ap (λ (ends : List State). length ends) c.loop.invariant in
    let long = length-replicate {A = State} c.loop.counter new_state in
    let past = c.loop-test.false in
    let end = c.loop.auto.counter-end in
    none_sends c.loop.ends.items (omega (arith, same, long, past, end)) (ap near_of c.loop.invariant ∙ at_all c.loop.counter new_state)
