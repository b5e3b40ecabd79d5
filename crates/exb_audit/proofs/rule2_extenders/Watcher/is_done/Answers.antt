use Rattle.exb_extender.specs.SentFrames.{sent_by}
use Rattle.exb_audit.proofs.Rule2Extenders.{count_by}
use Rattle.exb_audit.proofs.rule2_extenders.Watcher.is_done.Goals as goal

pub returns : goal.returns
returns c = count_by (sent_by c.args.self.now.frame.items c.args.self.now.sends) c.args.self.now.gone c.sent_count.result (c.sent_count.ensures c.args.self.now.frame.items)
