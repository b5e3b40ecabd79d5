use Rattle.std.proofs.Common.{◌∙◌}
use Rattle.exb_config.proofs.Changes.{rules_changed, one_rule}
use Rattle.exb_config.specs.Tables.{Tables, bridge_of}
use Rattle.exb_config.proofs.config.Config.set_isolated.Goals as goal

pub returns : goal.returns
unfolding bridge_of
returns c =
    let t : Tables = record { present = c.self.inside.present; vlans = c.self.inside.vlans; rules = c.self.inside.rules; statics = c.self.inside.statics } in
    rw (← c.self.view_is) (rules_changed t c.put.new.self _ (λ q. c.put.ensures q ∙ one_rule t.rules c.args.port c.rule-rule.result (λ r. record r { isolated = c.args.on }) c.rule-rule.ensures q))
