use Rattle.std.proofs.Common.{◌≡◌, ◌∙◌, ◌+◌, ◌-◌, ◌<◌, ℕ, true, Option, Some, None, map, refl, sym, ap, arith}
use Rattle.std.specs.Prelude.{is_some}
use Rattle.std.proofs.lemmas.Bool.{false≢true}
use Rattle.exb_model.specs.declared.event.Cause.{Cause}
use Rattle.exb_control_spec.specs.Plans.Sets.{seen}
use Rattle.exb_control_spec.specs.Plans.FreshSets.{how_many, is_at, short_at}
use Rattle.exb_plan.proofs.FirstPorts.{short_cause, short_found, short_none}
use Rattle.exb_plan.specs.UseCounts.{used_at}
use Rattle.exb_plan.proofs.shortage.groups_short.Goals as goal

of_some : (o : Option Cause) → is_some o ≡ true → (x : Cause) × (o ≡ Some x)
of_some None e = absurd (false≢true e)
of_some (Some x) e = (x, refl)

pub returns-then-is_some : goal.returns-then-is_some
returns-then-is_some c l had limited counted =
    let t = c.args.tree.now in
    let fresh = map seen c.args.fresh.now in
    let bp = c.loop-bridge_port.bridge_port in
    let k = bp - 1 in
    let place : bp ≡ k + 1 = omega (arith, c.loop-bridge_port.auto.bridge_port) in
    let cascade = sym c.is_cascade.ensures ∙ c.if-is_cascade.true in
    let low : k < 64 = omega (arith, c.loop-bridge_port-test.true) in
    let there : used_at c.args.uses.now k ≡ how_many (is_at bp) had = counted k low cascade ∙ ap (λ (n : ℕ). how_many (is_at n) had) (sym place) in
    let at = c.groups_short_at-short.ensures l had limited there ∙ ap (short_at l had fresh) place in
    let x : (x : Cause) × (c.groups_short_at-short.result ≡ Some x) = of_some c.groups_short_at-short.result (sym c.is_some.ensures ∙ c.if-is_some.true) in
    let short = short_cause t l had fresh k x.0 cascade (sym x.1 ∙ at) in
    at ∙ sym (short_found t l had fresh k low (c.loop-bridge_port.invariant l had limited counted) short)

pub returns : goal.returns
returns c l had limited counted =
    short_none c.args.tree.now l had (map seen c.args.fresh.now) (c.loop-bridge_port.bridge_port - 1) (omega (arith, c.loop-bridge_port-test.false)) (c.loop-bridge_port.invariant l had limited counted)
