use Rattle.std.proofs.Common.{◌∙◌, ap}
use Rattle.exb_model.specs.Configuration.{is_known}
use Rattle.exb_config.specs.Tables.{Tables, bridge_of}
use Rattle.exb_config.proofs.config.Config.members.Goals as goal

pub returns-clause-kinds : goal.returns-clause-kinds
unfolding bridge_of
returns-clause-kinds c q = c.row.ensures.kinds q ∙ ap (λ (t : Tables). (bridge_of t).member c.args.vid q) c.self.view_is

pub returns-clause-known : goal.returns-clause-known
unfolding bridge_of is_known
returns-clause-known c = c.row.ensures.known ∙ ap (λ (t : Tables). is_known (bridge_of t) c.args.vid) c.self.view_is
