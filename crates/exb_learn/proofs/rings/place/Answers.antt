use Rattle.std.proofs.Common.{◌∙◌}
use Rattle.exb_learn.proofs.LinkTables.{laid_in, closed_placed, read_prev}
use Rattle.exb_learn.proofs.rings.place.Goals as goal

pub returns-clause-links : goal.returns-clause-links
returns-clause-links c =
    laid_in c.args.links.now c.set_next.new.links c.set_next-2.new.links c.set_prev.new.links c.set_prev-2.new.links c.args.behind c.args.node _
    (read_prev c.args.links.now c.args.behind _ c.requires.behind) c.set_next.ensures.links c.set_next-2.ensures.links c.set_prev.ensures.links c.set_prev-2.ensures.links

pub returns-clause-closed : goal.returns-clause-closed
returns-clause-closed c =
    closed_placed c.args.links.now c.set_prev-2.new.links c.args.behind c.args.node c.requires.closed c.requires.behind c.requires.node
    (c.set_prev-2.ensures.len ∙ c.set_prev.ensures.len ∙ c.set_next-2.ensures.len ∙ c.set_next.ensures.len) (returns-clause-links c)
