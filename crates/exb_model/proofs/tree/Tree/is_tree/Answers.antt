use Rattle.std.proofs.Common.{subst}
use Rattle.exb_model.specs.Tree.{Shape, IsTree}
use Rattle.exb_model.proofs.tree.Tree.is_tree.Goals as goal

pub returns : goal.returns
returns c = subst (λ (t : Shape). IsTree t) c.self.view_is c.self.invariant.tree
