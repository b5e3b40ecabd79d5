use Rattle.exb_extender.proofs.ExtendersByNumber.{waiting_is}
use Rattle.exb_extender.proofs.extenders.Extenders.waiting.Goals as goal

pub returns : goal.returns
returns c =
    let d = c.self.inside in
    rw (← c.self.view_is) (λ n. waiting_is d.ports d.extenders.items d.sending d.waiting d.passed c.self.invariant n)
