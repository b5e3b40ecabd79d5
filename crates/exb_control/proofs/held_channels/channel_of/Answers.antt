use Rattle.std.proofs.Common.{◌≡◌, ◌+◌, true, false, refl, sym, ap, ◌∙◌}
use Rattle.exb_model.specs.Tree.{Shape, is_extender, trunk}
use Rattle.exb_control.specs.ActiveConfigs.{held_in}
use Rattle.exb_control.proofs.TrunkChannels.{trunk_space, channel_at, none_at}
use Rattle.exb_control.proofs.held_channels.channel_of.Goals as goal

pub channels-requires-clause-cascade : goal.channels-requires-clause-cascade
channels-requires-clause-cascade c =
    let v = c.args.active.now in
    let n = c.device-extender.result in
    let e : is_extender v.shape n ≡ true = ap (λ (t : Shape). is_extender t n) (sym c.tree.ensures) ∙ sym c.is_extender.ensures ∙ c.if-not-is_extender.false in
    trunk_space v.shape v.spaces c.spaces.result.now n c.trunk-trunk.result c.is_active_config.ensures.tree c.is_active_config.ensures.spaces.spaces e c.spaces.ensures
    (c.trunk-trunk.ensures.value ∙ ap (λ (t : Shape). trunk t n + 1) c.tree-2.ensures)

pub returns : goal.returns
returns c =
    let v = c.args.active.now in
    let n = c.device-extender.result in
    let e : is_extender v.shape n ≡ true = ap (λ (t : Shape). is_extender t n) (sym c.tree.ensures) ∙ sym c.is_extender.ensures ∙ c.if-not-is_extender.false in
    channel_at v.shape v.spaces c.spaces.result.now n c.args.port c.args.port c.trunk-trunk.result c.channels.result.now c.of.result c.is_active_config.ensures.tree e
    c.spaces.ensures (c.trunk-trunk.ensures.value ∙ ap (λ (t : Shape). trunk t n + 1) c.tree-2.ensures) c.channels.ensures c.of.ensures.value c.device-extender.ensures.value refl

pub returns-then-not-is_extender : goal.returns-then-not-is_extender
returns-then-not-is_extender c =
    let v = c.args.active.now in
    let n = c.device-extender.result in
    let e : is_extender v.shape n ≡ false = ap (λ (t : Shape). is_extender t n) (sym c.tree.ensures) ∙ sym c.is_extender.ensures ∙ c.if-not-is_extender.true in
    none_at v.shape (held_in v) n c.args.port e c.device-extender.ensures.value
