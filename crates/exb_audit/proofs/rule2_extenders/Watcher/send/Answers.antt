use Rattle.exb_extender.specs.Fields.{state_of}
use Rattle.exb_extender.specs.SentFrames.{sent_by}
use Rattle.exb_audit.proofs.Rule2Extenders.{one_less}
use Rattle.std.proofs.Common.{ap, arith}
use Rattle.exb_audit.proofs.rule2_extenders.Watcher.send.Goals as goal

pub overflow_add-self : goal.overflow_add-self
overflow_add-self c = (let low = c.is_sent.ensures.within c.if-not-is_sent.false in omega (arith, low))

pub returns-clause-watch : goal.returns-clause-watch
returns-clause-watch c = λ e. ap (λ o. record { state = state_of c.args.self.now.extender; owed = o }) (one_less (sent_by c.args.self.now.frame.items c.args.self.now.sends) c.args.self.now.gone)
