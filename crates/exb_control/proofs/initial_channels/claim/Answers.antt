use Rattle.std.proofs.Common.{◌≡◌, ℕ, ◌+◌, ◌-◌, ◌/◌, ◌==◌, true, cond, List, Option, Some, ap, sym, subst, ◌∙◌, arith}
use Rattle.std.specs.Prelude.{is_some}
use Rattle.exb_model.specs.Tree.{trunk}
use Rattle.exb_numbers.specs.Channels.{holder, channel_of, lowest_channel}
use Rattle.exb_numbers.specs.Spaces.{has_space, channels_at}
use Rattle.exb_plan.specs.SpaceContents.{held_by}
use Rattle.exb_control_spec.specs.Plans.HeldNumbers.{or_zero, free_channel, give_channel}
use Rattle.exb_plan.specs.PlanValues.{channel_limit}
use Rattle.exb_plan.proofs.SpaceContents.{channel_in_is, met, of_ok, channel_given, claimed_is}
use Rattle.exb_control.proofs.initial_channels.claim.Goals as goal

pub claim-requires : goal.claim-requires
claim-requires c =
    let t = c.args.tree.now in
    let v = c.args.spaces.now in
    let p = c.args.port in
    let is : c.trunk-trunk.result ≡ trunk t (p / 64) + 1 = subst (λ (x : ℕ). c.trunk-trunk.result ≡ trunk t x + 1) c.device.ensures.value c.trunk-trunk.ensures.value in
    let place : c.trunk-trunk.result - 1 ≡ trunk t (p / 64) = omega (arith, is) in
    ap (λ (x : List (Option ℕ)). channel_of x p) (c.channels_mut.ensures.value ∙ ap (channels_at v) place)
    ∙ (sym (channel_in_is v (trunk t (p / 64)) p) ∙ c.requires.absent)

pub unwrap-channel-requires : goal.unwrap-channel-requires
unwrap-channel-requires c =
    let t = c.args.tree.now in
    let v = c.args.spaces.now in
    let p = c.args.port in
    let is : c.trunk-trunk.result ≡ trunk t (p / 64) + 1 = subst (λ (x : ℕ). c.trunk-trunk.result ≡ trunk t x + 1) c.device.ensures.value c.trunk-trunk.ensures.value in
    let place : c.trunk-trunk.result - 1 ≡ trunk t (p / 64) = omega (arith, is) in
    met c.claim.result (lowest_channel c.channels_mut.result.now)
    (ap (λ (x : List (Option ℕ)). is_some (lowest_channel x)) (c.channels_mut.ensures.value ∙ ap (channels_at v) place) ∙ c.requires.free)
    c.claim.ensures.lowest

pub returns-clause-held : goal.returns-clause-held
returns-clause-held c =
    let t = c.args.tree.now in
    let v = c.args.spaces.now in
    let p = c.args.port in
    let k = c.trunk-trunk.result - 1 in
    let is : c.trunk-trunk.result ≡ trunk t (p / 64) + 1 = subst (λ (x : ℕ). c.trunk-trunk.result ≡ trunk t x + 1) c.device.ensures.value c.trunk-trunk.ensures.value in
    let place : k ≡ trunk t (p / 64) = omega (arith, is) in
    let number : c.unwrap-channel.result ≡ free_channel (channel_limit v (trunk t (p / 64))) (held_by v) (trunk t (p / 64)) =
    claimed_is c.claim.result (lowest_channel c.channels_mut.result.now) c.unwrap-channel.result c.unwrap-channel.ensures c.claim.ensures.lowest
    ∙ ap (λ (x : List (Option ℕ)). or_zero (lowest_channel x)) (c.channels_mut.ensures.value ∙ ap (channels_at v) place) in
    channel_given t v p c.unwrap-channel.result k c.claim.new.self (subst (λ (x : ℕ). has_space v x ≡ true) (sym place) c.requires.cascade) place
    (λ e. of_ok c.claim.result c.unwrap-channel.result (λ m. (e : ℕ) → holder c.claim.new.self e ≡ cond (e == m) (Some p) (holder c.channels_mut.result.now e)) c.unwrap-channel.ensures c.claim.ensures.holders e
    ∙ ap (λ (x : List (Option ℕ)). cond (e == c.unwrap-channel.result) (Some p) (holder x e)) c.channels_mut.ensures.value)
    ∙ ap (λ (m : ℕ). give_channel t p m (held_by v)) number
