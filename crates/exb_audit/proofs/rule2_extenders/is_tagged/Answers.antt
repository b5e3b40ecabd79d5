use Rattle.exb_audit.proofs.Rule2Extenders.{tagged_none}
use Rattle.exb_extender.specs.Forwarding.{channel_tag}
use Rattle.exb_audit.proofs.rule2_extenders.is_tagged.Goals as goal

pub returns-in-None : goal.returns-in-None
returns-in-None c = tagged_none c.args.frame.now c.args.bytes.now _ _ _ (channel_tag c.args.channel) c.parted.ensures.first c.tag_bytes.ensures c.in-Some.ensures c.in-None.ensures
