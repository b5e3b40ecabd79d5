use Rattle.std.proofs.Common.{◌≡◌, ℕ, sym, ap, ◌∙◌}
use Rattle.std.specs.Prelude.{slice_get, slice_index}
use Rattle.exb_extender.specs.Extenders.{Devices, far_of, sent_at}
use Rattle.exb_extender.proofs.ExtendersByNumber.{quiet_is}
use Rattle.exb_extender.proofs.extenders.Extenders.are_sending.Goals as goal

pub returns : goal.returns
returns c =
    let d = c.self.inside in
    let sends : (n : ℕ) → (far_of c.args.self.now n).ecp.sending ≡ sent_at (slice_get d.extenders.items n) =
    λ n. ap (λ (x : Devices). (far_of x n).ecp.sending) (sym c.self.view_is) ∙ quiet_is d.passed n (slice_index d.ports n) (slice_get d.extenders.items n) in (
      λ none n bit. sends n ∙ (c.self.invariant.noted n).0 (c.meet.ensures.0 none n bit),
      λ quiet. c.meet.ensures.1 (λ n bit. (c.self.invariant.noted n).1 (sym (sends n) ∙ quiet n bit)),
    )
