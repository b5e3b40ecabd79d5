use Rattle.std.proofs.Common.{ap, ◌∙◌}
use Rattle.exb_learn.specs.RingLinks.{Links, in_table, placed, taken}
use Rattle.exb_learn.proofs.rings.replace.Goals as goal

pub returns-clause-links : goal.returns-clause-links
returns-clause-links c =
    let l = in_table c.args.links.now in
    c.place.ensures.links ∙ ap (λ (m : Links). placed m c.link_of-behind.result.next c.args.node) (c.take-2.ensures.links ∙ ap (λ (m : Links). taken m c.args.other) c.take.ensures.links)
    ∙ ap (λ b. placed (taken (taken l c.args.node) c.args.other) b c.args.node) (c.link_of-behind.ensures.next ∙ ap (λ (m : Links). m.next c.args.other) c.take.ensures.links)
