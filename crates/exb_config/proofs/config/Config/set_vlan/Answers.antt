use Rattle.std.proofs.lemmas.Result.{on_ok_weaker}
use Rattle.exb_config.proofs.Changes.{members_changed}
use Rattle.exb_config.specs.Tables.{Tables, bridge_of}
use Rattle.exb_config.proofs.config.Config.set_vlan.Goals as goal

pub returns-clause-ok : goal.returns-clause-ok
unfolding bridge_of
returns-clause-ok c =
    let t : Tables = record { present = c.self.inside.present; vlans = c.self.inside.vlans; rules = c.self.inside.rules; statics = c.self.inside.statics } in
    on_ok_weaker c.put.result (λ e. rw (← c.self.view_is) (members_changed t c.put.new.self _ e)) c.put.ensures.ok
