use Rattle.exb_extender.proofs.extender.Extender.only_out.Goals as goal

pub returns-in-Up : goal.returns-in-Up
returns-in-Up c = rw (c.in-Up.is, ← c.self.view_is) c.only_down.ensures

pub returns-in-Port : goal.returns-in-Port
returns-in-Port c = rw (c.in-Port.is, ← c.self.view_is) c.only_up.ensures
