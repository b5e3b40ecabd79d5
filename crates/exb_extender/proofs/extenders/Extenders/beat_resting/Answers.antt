use Rattle.exb_extender.proofs.ExtendersByNumber.{all_passed, same_passed}
use Rattle.exb_extender.proofs.extenders.Extenders.beat_resting.Goals as goal

pub returns-clause-state : goal.returns-clause-state
returns-clause-state c =
    let d = c.self.inside in
    rw (← c.self.view_is) (λ n. all_passed d.ports d.extenders.items d.passed n)

pub returns-clause-same : goal.returns-clause-same
returns-clause-same c =
    let d = c.self.inside in
    rw (← c.self.view_is) (same_passed d.ports d.extenders.items d.passed _)
