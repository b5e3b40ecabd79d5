use Rattle.std.proofs.Common.{◌≡◌, ◌+◌, ◌-◌, ◌*◌, ◌^◌, length, true, refl, sym, ap, subst, arith}
use Rattle.exb_model.specs.Tree.{is_extender}
use Rattle.exb_control_spec.specs.Machine.{answered}
use Rattle.exb_control.specs.CallEffects.{IsMoved}
use Rattle.exb_control.specs.Controls.{Parts, state_of, decide_of}
use Rattle.exb_control_spec.specs.JobsOfTree.{AreFit}
use Rattle.exb_control.specs.Soundness.{to_come}
use Rattle.exb_control.specs.MachineSteps.{Reached}
use Rattle.exb_control.specs.ControlParts.{parts_of}
use Rattle.exb_control.proofs.Calls.{moved, steady_at}
use Rattle.exb_control.proofs.EncodableMessages.{Spelled, answered_spelled, spells_on, asks_on}
use Rattle.exb_control.proofs.KnownExtenders.{extender_low}
use Rattle.exb_control.proofs.control.Control.answered.Goals as goal

pub take-done-requires-clause-known : goal.take-done-requires-clause-known
take-done-requires-clause-known c =
    extender_low c.self.inside.core.active.shape c.is_active_config.ensures.tree c.args.extender
    (subst (λ (p : Parts). is_extender p.active.shape c.args.extender ≡ true) (sym c.self.view_is) c.requires)

pub invariant_of-self : goal.invariant_of-self
invariant_of-self c =
    let w = c.self.inside in
    let made = c.in-Ok.ensures in
    let sound = c.self.invariant.sound c.if-self.false in
    let k = 2 ^ 21 * (65536 - w.given) in
    let before : to_come w.queue w.given ≡ 2 ^ 21 * length w.queue + k = omega arith in
    let after : 2 ^ 21 * length c.take-done.new.queue + k ≡ to_come c.take-done.new.queue w.given = omega arith in
    let t = w.core.active.shape in
    let s = state_of (parts_of w.core w.queue w.heard w.given w.failed) in
    let led = made.reached (record { queue = w.queue; heard = w.heard; given = w.given }) refl refl in
    record {
      sound = λ _. record {
        fit = subst (λ t. AreFit t c.take-done.new.queue) (sym made.shape) made.fit;
        asks = made.rests;
        steady = steady_at (2 ^ 21 * length c.take-done.new.queue + k) _ _ _ after (made.steady k (steady_at (to_come w.queue w.given) _ _ _ before sound.steady));
        spells =
            spells_on t _ (answered (decide_of w.core.active) c.args.extender c.args.message.now s) (state_of (parts_of c.take-done.new.core c.take-done.new.queue w.heard w.given w.failed)) made.shape (ap (λ (r : Reached). r.state) led)
            (answered_spelled t w.core.active.limits s sound.fit sound.spells c.args.extender c.args.message.now);
      };
    }

pub returns-in-Ok-clause-ok : goal.returns-in-Ok-clause-ok
returns-in-Ok-clause-ok c =
    let w = c.self.inside in
    let made = c.in-Ok.ensures in
    let out = c.take-done.new.out in
    let new = parts_of c.take-done.new.core c.take-done.new.queue w.heard w.given w.failed in
    subst (λ (p : Parts). IsMoved (answered (decide_of p.active) c.args.extender c.args.message.now (state_of p)) p new out) c.self.view_is
    (moved _ (parts_of w.core w.queue w.heard w.given w.failed) c.take-done.new.core c.take-done.new.queue w.heard w.given w.failed c.empty.new.self.events c.empty.new.self.asks c.empty.new.self.downs out
    c.empty.ensures.events c.empty.ensures.asks c.empty.ensures.downs
    (made.reached (record { queue = w.queue; heard = w.heard; given = w.given }) refl refl)
    made.shape made.limits refl)

pub returns-in-Ok-clause-spelled : goal.returns-in-Ok-clause-spelled
returns-in-Ok-clause-spelled c =
    let w = c.self.inside in
    let sound = c.self.invariant.sound c.if-self.false in
    asks_on _ _ _ (returns-in-Ok-clause-ok c).asks
    (subst (λ (p : Parts). Spelled p.active.shape (answered (decide_of p.active) c.args.extender c.args.message.now (state_of p))) c.self.view_is
    (answered_spelled w.core.active.shape w.core.active.limits (state_of (parts_of w.core w.queue w.heard w.given w.failed)) sound.fit sound.spells c.args.extender c.args.message.now))
