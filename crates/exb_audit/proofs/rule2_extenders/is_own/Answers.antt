use Rattle.exb_audit.proofs.Rule2Extenders.{own_upstream}
use Rattle.exb_audit.proofs.rule2_extenders.is_own.Goals as goal

pub returns-then-side-ne0-clause-value : goal.returns-then-side-ne0-clause-value
returns-then-side-ne0-clause-value c = own_upstream c.args.side c.args.place c.args.bytes.now c.args.sends.now.first.items c.args.sends.now.second.items c.if-side-ne0.true
