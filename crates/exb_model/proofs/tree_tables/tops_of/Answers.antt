use Rattle.std.proofs.Common.{◌∙◌, ap}
use Rattle.std.proofs.lemmas.List.{length-set}
use Rattle.exb_model.specs.Tree.{Shape, top}
use Rattle.exb_model.proofs.TreeTrunks.{topped-more}
use Rattle.exb_model.proofs.tree_tables.tops_of.Goals as goal

pub loop-number-preserved : goal.loop-number-preserved
loop-number-preserved c =
    let t : Shape = c.args.layout.now in (
      length-set c.loop-number.tops c.loop-number.number c.top.result ∙ c.loop-number.invariant.0,
      topped-more t c.loop-number.tops c.loop-number.number c.top.result c.loop-number.invariant.0 c.loop-number-test.true c.loop-number.invariant.1
          (c.top.ensures ∙ ap (top c.args.layout.now.on 63) c.on.ensures.value),
    )
