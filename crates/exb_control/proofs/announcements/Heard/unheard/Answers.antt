use Rattle.std.proofs.Common.{◌≡◌, ◌+◌, ◌-◌, sym, ap, ◌∙◌, arith}
use Rattle.exb_control.specs.MachineSteps.{unheard_to}
use Rattle.exb_control.proofs.UnheardExtenders.{unheard_none, unheard_next, unheard_few, one_at_most}
use Rattle.exb_control.proofs.announcements.Heard.unheard.Goals as goal

pub overflow_add-count : goal.overflow_add-count
overflow_add-count c =
    let few = unheard_few c.args.tree.now c.args.self.now (c.loop-number.number - 1) in
    let inv : c.loop-number.count ≡ unheard_to c.args.tree.now c.args.self.now (c.loop-number.number - 1) = c.loop-number.invariant in
    let one = one_at_most c.is_unheard.result c.one_if-count.result c.one_if-count.ensures in
    omega arith

pub loop-number-init : goal.loop-number-init
loop-number-init c = sym (unheard_none c.args.tree.now c.args.self.now)

pub loop-number-preserved : goal.loop-number-preserved
loop-number-preserved c =
    ap (λ k. c.loop-number.count + k) c.one_if-count.ensures
    ∙ unheard_next c.args.tree.now c.args.self.now c.loop-number.count c.loop-number.number c.is_unheard.result c.loop-number.auto.number c.loop-number.invariant c.is_unheard.ensures

pub returns-clause-value : goal.returns-clause-value
returns-clause-value c =
    let inv : c.loop-number.count ≡ unheard_to c.args.tree.now c.args.self.now (c.loop-number.number - 1) = c.loop-number.invariant in
    let end : c.loop-number.number - 1 ≡ 64 = omega arith in
    inv ∙ ap (unheard_to c.args.tree.now c.args.self.now) end

pub returns-clause-few : goal.returns-clause-few
returns-clause-few c =
    let few = unheard_few c.args.tree.now c.args.self.now (c.loop-number.number - 1) in
    let inv : c.loop-number.count ≡ unheard_to c.args.tree.now c.args.self.now (c.loop-number.number - 1) = c.loop-number.invariant in omega arith
