use Rattle.std.proofs.Common.{ap, ◌∙◌}
use Rattle.exb_learn.specs.RingLinks.{Links, placed}
use Rattle.exb_learn.proofs.rings.relocate.Goals as goal

pub returns-clause-links : goal.returns-clause-links
returns-clause-links c = c.place.ensures.links ∙ ap (λ (m : Links). placed m c.args.behind c.args.node) c.take.ensures.links
