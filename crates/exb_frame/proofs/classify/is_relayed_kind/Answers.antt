use Rattle.std.proofs.Common.{ap, sym, ◌∙◌}
use Rattle.exb_model.specs.EagerHistory.{is_relayed_kind}
use Rattle.exb_model.proofs.FrameKinds.{relayed_fits, relayed_long}
use Rattle.exb_frame.proofs.classify.is_relayed_kind.Goals as goal

pub returns-clause-long : goal.returns-clause-long
returns-clause-long c h = relayed_long c.args.frame.now (sym (c.may_be_relayed.ensures ∙ ap is_relayed_kind c.classify.ensures.kind) ∙ h)

pub returns-clause-fits : goal.returns-clause-fits
returns-clause-fits c h = relayed_fits c.args.frame.now (sym (c.may_be_relayed.ensures ∙ ap is_relayed_kind c.classify.ensures.kind) ∙ h)
