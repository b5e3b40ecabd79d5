use Rattle.std.proofs.Common.{◌∙◌, ◌==◌}
use Rattle.exb_learn.proofs.PackedKeys.{same_by_number}
use Rattle.exb_learn.proofs.key.StationKeyPartialEq.eq.Goals as goal

pub returns : goal.returns
returns c = (λ i. c.packed.ensures.number i == c.packed-2.ensures.number i) ∙ same_by_number c.args.self.now c.args.other.now c.packed.ensures.spelled c.packed-2.ensures.spelled
