use Rattle.std.proofs.Common.{◌∙◌, sym}
use Rattle.exb_model.proofs.TreeTrunks.{noted-in, noted-out}
use Rattle.exb_model.proofs.tree_tables.hang.Goals as goal
use Rattle.exb_model.proofs.tree_tables.hang.Goals.{then-is_extender, else-is_extender}

pub loop-number-preserved : goal.loop-number-preserved
loop-number-preserved c =
    let t = c.args.layout.now in
    let k = c.loop-number.number in
    elim c.if-is_extender.branch [
      | then-is_extender w ↦
          rw w.below-is (noted-in t c.loop-number.below k w.on.result c.requires.tree (sym c.is_extender.ensures ∙ w.if-is_extender.true) w.on.ensures.value w.on.ensures.range c.loop-number.invariant)
      | else-is_extender w ↦
          rw w.below-is (noted-out t c.loop-number.below k (sym c.is_extender.ensures ∙ w.if-is_extender.false) c.loop-number.invariant)
    ]
