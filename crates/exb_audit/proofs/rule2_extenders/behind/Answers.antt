use Rattle.exb_audit.proofs.Rule2Extenders.{rest_is}
use Rattle.exb_audit.proofs.rule2_extenders.behind.Goals as goal

pub returns : goal.returns
returns c = λ more. rest_is c.args.part.now c.args.frame.now c.strip_prefix.result more c.strip_prefix.ensures.cases
