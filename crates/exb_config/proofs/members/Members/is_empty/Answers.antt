use Rattle.std.proofs.Common.{◌∙◌, ◌&&◌, sym, ap}
use Rattle.exb_config.proofs.Rows.{empty_test, not_empty}
use Rattle.exb_config.proofs.members.Members.is_empty.Goals as goal

pub returns-then-is_empty : goal.returns-then-is_empty
returns-then-is_empty c =
    ap (λ b. b && c.is_empty-then-is_empty.result) (sym c.if-is_empty.true) ∙ empty_test c.args.self.now c.is_empty.result c.is_empty-then-is_empty.result c.is_empty.ensures c.is_empty-then-is_empty.ensures

pub returns-else-is_empty : goal.returns-else-is_empty
returns-else-is_empty c = not_empty c.args.self.now c.is_empty.result c.if-is_empty.false c.is_empty.ensures
