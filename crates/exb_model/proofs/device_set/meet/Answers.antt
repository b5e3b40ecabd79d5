use Rattle.std.proofs.Common.{ap, not, eq-eqb}
use Rattle.std.proofs.lemmas.Bool.{eqb-true}
use Rattle.exb_model.proofs.DeviceSets.{both_none, no_number_meets, numbers_apart}
use Rattle.exb_model.proofs.device_set.meet.Goals as goal

pub returns : goal.returns
returns c =
    let bits = c.args.bits in
    let others = c.args.others in
    (λ e. no_number_meets bits others (eqb-true _ 0 (both_none _ e)), λ apart. ap not (eq-eqb _ 0 (numbers_apart bits others apart)))
