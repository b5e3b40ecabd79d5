use Rattle.exb_control.specs.Controls.{work_at}
use Rattle.exb_control.specs.MachineSteps.{askers_of}
use Rattle.exb_control.specs.Soundness.{to_come}
use Rattle.exb_control.proofs.Calls.{low_serials}
use Rattle.exb_control.proofs.control.Control.has_low_serials.Goals as goal

pub returns : goal.returns
returns c working n =
    let i = c.self.inside in
    let now = rw (← c.self.view_is) at working in
    rw (← c.self.view_is) (low_serials (to_come i.queue i.given) (work_at i.core.active.stage i.core.place) (askers_of i.core.sessions) (c.self.invariant.sound now).steady n)
