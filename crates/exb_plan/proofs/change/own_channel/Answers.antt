use Rattle.std.proofs.Common.{◌≡◌, ℕ, ◌+◌, ◌-◌, ◌/◌, true, List, Option, ap, sym, subst, ◌∙◌, arith}
use Rattle.exb_model.specs.Tree.{trunk, is_extended}
use Rattle.exb_numbers.specs.Channels.{channel_of}
use Rattle.exb_numbers.specs.Spaces.{channels_at}
use Rattle.exb_plan.specs.SpaceContents.{held_by}
use Rattle.exb_control_spec.specs.Plans.HeldNumbers.{or_zero}
use Rattle.exb_control_spec.specs.Plans.Plans.{own_channel}
use Rattle.exb_control_spec.specs.Plans.FreshSets.{IsAnyExtended}
use Rattle.exb_plan.proofs.SpaceContents.{home_space, channel_in_is, unwrap_is}
use Rattle.exb_plan.proofs.change.own_channel.Goals as goal

pub channels-requires-clause-cascade : goal.channels-requires-clause-cascade
channels-requires-clause-cascade c =
    let t = c.args.tree.now in
    let p = c.in-Some.port in
    let ext : is_extended t p ≡ true = subst (λ (o : Option ℕ). IsAnyExtended t o) c.in-Some.is c.requires.down in
    let is : c.trunk-bridge_port.result ≡ trunk t (p / 64) + 1 =
    subst (λ (x : ℕ). c.trunk-bridge_port.result ≡ trunk t x + 1) c.device.ensures.value c.trunk-bridge_port.ensures.value in
    home_space t c.is_tree.ensures c.args.spaces.now p c.trunk-bridge_port.result c.requires.spaces ext is

pub returns-in-Some : goal.returns-in-Some
returns-in-Some c =
    let t = c.args.tree.now in
    let v = c.args.spaces.now in
    let p = c.in-Some.port in
    let is : c.trunk-bridge_port.result ≡ trunk t (p / 64) + 1 =
    subst (λ (x : ℕ). c.trunk-bridge_port.result ≡ trunk t x + 1) c.device.ensures.value c.trunk-bridge_port.ensures.value in
    let place : c.trunk-bridge_port.result - 1 ≡ trunk t (p / 64) = omega (arith, is) in
    c.unwrap_or.ensures
    ∙ (unwrap_is c.of.result
    ∙ (ap or_zero (c.of.ensures.value ∙ (ap (λ (x : List (Option ℕ)). channel_of x p) (c.channels.ensures ∙ ap (channels_at v) place) ∙ sym (channel_in_is v (trunk t (p / 64)) p)))
    ∙ ap (own_channel t (held_by v)) (sym c.in-Some.is)))
