use Rattle.exb_outputs.proofs.OutputPrefixes.{nothing_added}
use Rattle.exb_outputs.proofs.outputs.add.Goals as goal

pub returns-then-is_err-clause-front : goal.returns-then-is_err-clause-front
returns-then-is_err-clause-front g c = λ t. nothing_added (g.S.Shelf.file c.args.shelf.now) _ _
