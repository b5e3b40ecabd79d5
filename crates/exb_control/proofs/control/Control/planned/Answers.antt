use Rattle.std.proofs.Common.{◌≡◌, refl, subst, arith}
use Rattle.std.specs.Result.{IfOk}
use Rattle.std.proofs.lemmas.Result.{IfOk-weaker}
use Rattle.exb_control_spec.specs.PlannedExchanges.{planned}
use Rattle.exb_control.specs.Controls.{Parts, state_of, decide_of, work_at}
use Rattle.exb_control.specs.MachineSteps.{askers_of}
use Rattle.exb_control.specs.Soundness.{to_come}
use Rattle.exb_control.proofs.Calls.{room_of}
use Rattle.exb_control.proofs.control.Control.planned.Goals as goal

pub planned-requires-clause-few : goal.planned-requires-clause-few
planned-requires-clause-few c =
    let w = c.self.inside in
    let room = room_of (to_come w.queue w.given) (work_at w.core.active.stage w.core.place) (askers_of w.core.sessions) (c.self.invariant.sound c.if-self.false).steady in
    omega arith

pub returns-clause-count : goal.returns-clause-count
returns-clause-count c =
    let w = c.self.inside in
    subst (λ (p : Parts). IfOk c.planned.result (λ count. count ≡ planned p.active.shape (decide_of p.active) (state_of p))) c.self.view_is
    (IfOk-weaker c.planned.result _ _ (λ count is. is (record { queue = w.queue; heard = w.heard; given = w.given }) refl refl) c.planned.ensures.count)
