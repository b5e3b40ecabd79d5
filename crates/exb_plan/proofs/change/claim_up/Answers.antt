use Rattle.std.proofs.Common.{◌∙◌, ◌/◌, Option, ℕ, sym, ap, subst}
use Rattle.exb_model.specs.Tree.{trunk}
use Rattle.exb_control_spec.specs.Plans.HeldNumbers.{Held, channel_used, free_port_of}
use Rattle.exb_plan.specs.SpaceContents.{held_by}
use Rattle.exb_control_spec.specs.Plans.Plans.{without_channel}
use Rattle.exb_plan.specs.PlanValues.{HasUp, HasChannel, CanClaimUp, CanClaimChannel}
use Rattle.exb_plan.proofs.SpaceContents.{given_used, given_back}
use Rattle.exb_plan.proofs.change.claim_up.Goals as goal

pub returns-in-Some-clause-has : goal.returns-in-Some-clause-has
returns-in-Some-clause-has c =
    let t = c.args.tree.now in
    let p = c.in-Some.port in
    let n = c.claim_channel.result in
    let can : CanClaimChannel t c.args.spaces.now p = subst (λ (o : Option ℕ). CanClaimUp t c.args.spaces.now o) c.in-Some.is c.requires in
    let has : HasChannel t c.claim_channel.new.spaces p n =
    record {
      extender = can.extender;
      cascade = c.claim_channel.ensures.alike.spaces (trunk t (p / 64)) ∙ can.cascade;
      used = ap (λ (h : Held). channel_used h (trunk t (p / 64)) n) c.claim_channel.ensures.held ∙ given_used t p n (held_by c.args.spaces.now);
    } in
    subst (λ (o : Option ℕ). HasUp t c.claim_channel.new.spaces o n) (sym c.in-Some.is) has

pub returns-in-Some-clause-back : goal.returns-in-Some-clause-back
returns-in-Some-clause-back c =
    let t = c.args.tree.now in
    let p = c.in-Some.port in
    let n = c.claim_channel.result in
    ap (λ (o : Option ℕ). without_channel t n o (held_by c.claim_channel.new.spaces)) c.in-Some.is
    ∙ (ap (free_port_of t p n) c.claim_channel.ensures.held ∙ given_back t p n (held_by c.args.spaces.now) c.claim_channel.ensures.free)
