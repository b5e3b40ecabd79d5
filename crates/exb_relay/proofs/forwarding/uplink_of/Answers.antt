use Rattle.std.proofs.Common.{◌≡◌, ℕ, ◌+◌, subst, arith}
use Rattle.exb_model.specs.Tree.{device, trunk}
use Rattle.exb_relay.proofs.RelayParts.{home_space}
use Rattle.exb_relay.proofs.forwarding.uplink_of.Goals as goal

pub channels-requires-clause-cascade : goal.channels-requires-clause-cascade
channels-requires-clause-cascade c =
    let p = c.args.port in
    let is : c.trunk-trunk.result ≡ trunk c.args.tree.now (device p) + 1 =
    subst (λ (x : ℕ). c.trunk-trunk.result ≡ trunk c.args.tree.now x + 1) c.device-extender.ensures.value c.trunk-trunk.ensures.value in
    home_space c.args.tree.now c.is_tree.ensures c.args.spaces.now p c.trunk-trunk.result c.requires.spaces c.requires.external (omega arith) is
