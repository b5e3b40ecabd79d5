use Rattle.std.proofs.Common.{◌≡◌, ◌∙◌, ◌++◌, ◌+◌, ◌-◌, ◌/◌, [], ℕ, true, cond, List, Option, ap, sym, subst, arith}
use Rattle.exb_model.specs.Tree.{trunk}
use Rattle.exb_numbers.specs.Channels.{channel_of as channel_among}
use Rattle.exb_numbers.specs.Spaces.{has_space, channels_at}
use Rattle.exb_control_spec.specs.Plans.ChangeRequests.{create_asks}
use Rattle.exb_plan.specs.SpaceContents.{held_by}
use Rattle.exb_control_spec.specs.Plans.HeldNumbers.{or_zero}
use Rattle.exb_plan.proofs.SpaceContents.{channel_in_is, unwrap_is}
use Rattle.exb_control_spec.specs.Decisions.{channel_of}
use Rattle.exb_control_spec.proofs.Claims.{trunk_low, trunk_cascade}
use Rattle.exb_control.proofs.OpeningRequests.{extender_high}
use Rattle.exb_control.proofs.PortRoles.{cascade_there}
use Rattle.exb_control.proofs.decision.put_cascade.Goals as goal

pub channels-requires-clause-cascade : goal.channels-requires-clause-cascade
channels-requires-clause-cascade c =
    let t = c.args.tree.now in
    let p = c.args.port in
    let v = c.args.spaces.now in
    let high = extender_high t p c.requires.extender in
    let known = c.in-Cascade.ensures.0 in
    let is : c.trunk-trunk.result ≡ trunk t (p / 64) + 1 = subst (λ (x : ℕ). c.trunk-trunk.result ≡ trunk t x + 1) c.device.ensures.value c.trunk-trunk.ensures.value in
    let place : trunk t (p / 64) ≡ c.trunk-trunk.result - 1 = omega (arith, is) in
    subst (λ (x : ℕ). has_space v x ≡ true) place (c.requires.spaces (trunk t (p / 64)) (trunk_low t c.is_tree.ensures p high known) (trunk_cascade t c.is_tree.ensures p high known))

pub returns-in_ok-put_create : goal.returns-in_ok-put_create
returns-in_ok-put_create c =
    let t = c.args.tree.now in
    let p = c.args.port in
    let v = c.args.spaces.now in
    let is : c.trunk-trunk.result ≡ trunk t (p / 64) + 1 = subst (λ (x : ℕ). c.trunk-trunk.result ≡ trunk t x + 1) c.device.ensures.value c.trunk-trunk.ensures.value in
    let place : c.trunk-trunk.result - 1 ≡ trunk t (p / 64) = omega (arith, is) in
    let channel : c.unwrap_or-channel.result ≡ channel_of t (held_by v) p =
    c.unwrap_or-channel.ensures ∙ (unwrap_is c.of.result
    ∙ ap or_zero (c.of.ensures.value ∙ (ap (λ (x : List (Option ℕ)). channel_among x p) (c.channels.ensures ∙ ap (channels_at v) place) ∙ sym (channel_in_is v (trunk t (p / 64)) p)))) in
    let there = cascade_there t p c.in-Cascade.extender c.is_tree.ensures c.in-Cascade.ensures in
    c.in_ok-put_create.ensures
    ∙ (ap (λ (m : ℕ). c.args.asks.now ++ create_asks t p true m) channel
    ∙ ap (λ b. c.args.asks.now ++ cond b (create_asks t p true (channel_of t (held_by v) p)) []) (sym there))
