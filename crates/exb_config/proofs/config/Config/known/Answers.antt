use Rattle.std.proofs.Common.{◌∙◌, ap}
use Rattle.exb_model.specs.Configuration.{is_known}
use Rattle.exb_config.specs.Tables.{Tables, bridge_of}
use Rattle.exb_config.proofs.config.Config.known.Goals as goal

pub returns : goal.returns
unfolding bridge_of is_known
returns c = c.is_known.ensures ∙ ap (λ (t : Tables). is_known (bridge_of t) c.args.vid) c.self.view_is
