use Rattle.exb_model.proofs.DeviceSets.{has_none, none_has}
use Rattle.exb_model.proofs.device_set.has.Goals as goal

pub returns : goal.returns
returns c = (has_none c.args.bits c.args.number c.requires, none_has c.args.bits c.args.number c.requires)
