use Rattle.std.proofs.Common.{◌∷◌, ◌+◌, [], ◌∙◌}
use Rattle.std.specs.Prelude.{codes}
use Rattle.std.specs.Fmt.{decimal}
use Rattle.exb_model.specs.Texts.{summary_line}
use Rattle.exb_journal.proofs.TextLemmas.{summary_pieces}
use Rattle.exb_journal.proofs.tally.Tally.line.Goals as goal

pub returns : goal.returns
unfolding summary_line
returns c =
    let t = c.args.self.now in
    c.in_ok-format.ensures.ok
    ∙ summary_pieces (codes "arrivals ") (decimal (t.relayed + t.ignored)) (codes " relayed ") (decimal t.relayed) (codes " ignored ") (decimal t.ignored)
    (codes " left ") (decimal t.left) (codes " commits ") (decimal t.commits) (codes " refusals ") (decimal t.refusals) (10 ∷ [])
