use Rattle.std.proofs.Common.{List, [], ap, length, arith, ◌∙◌}
use Rattle.std.proofs.lemmas.List.{length-replicate}
use Rattle.exb_link.specs.declared.link_frame.LinkFrame.{LinkFrame}
use Rattle.exb_link.specs.Links.{words_of}
use Rattle.exb_link.proofs.LinkLemmas.{none_busy}
use Rattle.exb_model.proofs.NumberedTables.{at_all}
use Rattle.exb_link.proofs.links.Links.new.Goals as goal

pub returns : goal.returns
returns c = ap words_of c.loop.invariant ∙ at_all c.loop.counter []

pub invariant_of-result : goal.invariant_of-result
invariant_of-result c =
    let same = ap (λ (links : List (List LinkFrame)). length links) c.loop.invariant in
    let long = length-replicate {A = List LinkFrame} c.loop.counter [] in
    let past = c.loop-test.false in
    let end = c.loop.auto.counter-end in
    none_busy c.loop.links.items (omega (arith, same, long, past, end)) (ap words_of c.loop.invariant ∙ at_all c.loop.counter [])
