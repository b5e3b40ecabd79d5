use Rattle.std.proofs.Common.{◌∙◌}
use Rattle.exb_learn.proofs.LinkTables.{took, closed_taken, read_next, read_prev}
use Rattle.exb_learn.proofs.rings.take.Goals as goal

pub returns-clause-links : goal.returns-clause-links
returns-clause-links c =
    took c.args.links.now c.set_next.new.links c.set_prev.new.links c.args.node _ _
    (read_prev c.args.links.now c.args.node _ c.requires.node) (read_next c.args.links.now c.args.node _ c.requires.node) c.set_next.ensures.links c.set_prev.ensures.links

pub returns-clause-closed : goal.returns-clause-closed
returns-clause-closed c =
    closed_taken c.args.links.now c.set_prev.new.links c.args.node c.requires.closed c.requires.node (c.set_prev.ensures.len ∙ c.set_next.ensures.len) (returns-clause-links c)
