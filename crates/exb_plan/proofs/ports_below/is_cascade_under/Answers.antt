use Rattle.std.proofs.Common.{◌≡◌, ℕ, ◌+◌, ◌/◌, ◌≤◌, subst, arith}
use Rattle.exb_model.specs.Tree.{trunk}
use Rattle.exb_control_spec.proofs.Plans.Trunks.{cascade_under_is}
use Rattle.exb_plan.proofs.ports_below.is_cascade_under.Goals as goal

pub returns-in-Cascade : goal.returns-in-Cascade
returns-in-Cascade c =
    let t = c.args.tree.now in
    let p = c.args.port in
    let high : 64 ≤ p = omega (arith, c.if-extender-eq0.false, c.device-extender.ensures.value) in
    let is : c.trunk.result ≡ trunk t (p / 64) + 1 = subst (λ (x : ℕ). c.trunk.result ≡ trunk t x + 1) c.device-extender.ensures.value c.trunk.ensures.value in
    cascade_under_is t c.is_tree.ensures p c.in-Cascade.extender c.args.bridge_port c.trunk.result high c.in-Cascade.ensures.0 c.in-Cascade.ensures.1 is c.requires
