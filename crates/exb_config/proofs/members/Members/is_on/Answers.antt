use Rattle.exb_config.proofs.Rows.{none_on}
use Rattle.exb_config.proofs.members.Members.is_on.Goals as goal

pub returns-else-self-device-ne0 : goal.returns-else-self-device-ne0
returns-else-self-device-ne0 c none q is = none_on c.args.self.now c.args.device c.if-self-device-ne0.false none q is
