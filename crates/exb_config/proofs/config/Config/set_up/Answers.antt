use Rattle.exb_config.proofs.Changes.{present_changed}
use Rattle.exb_config.specs.Tables.{Tables, bridge_of}
use Rattle.exb_config.proofs.config.Config.set_up.Goals as goal

pub returns : goal.returns
unfolding bridge_of
returns c =
    let t : Tables = record { present = c.self.inside.present; vlans = c.self.inside.vlans; rules = c.self.inside.rules; statics = c.self.inside.statics } in
    rw (← c.self.view_is) (present_changed t c.insert.new.self _ c.insert.ensures)
