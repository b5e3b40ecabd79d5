use Rattle.std.proofs.Common.{◌≡◌, ◌+◌, ◌-◌, ◌*◌, ◌^◌, length, true, refl, sym, ap, subst, ◌∙◌, arith}
use Rattle.exb_model.specs.Tree.{is_extender}
use Rattle.exb_control.specs.CallEffects.{IsMoved}
use Rattle.exb_control_spec.specs.Machine.{heard}
use Rattle.exb_control.specs.Controls.{Parts, state_of, decide_of}
use Rattle.exb_control_spec.specs.JobsOfTree.{AreFit}
use Rattle.exb_control.specs.Soundness.{to_come}
use Rattle.exb_control.specs.MachineSteps.{Reached}
use Rattle.exb_control.specs.ControlParts.{parts_of}
use Rattle.exb_control.proofs.Calls.{when_ok, moved, steady_at, heard_it}
use Rattle.exb_control.proofs.EncodableMessages.{Spelled, heard_spelled, spells_on, asks_on}
use Rattle.exb_control.proofs.KnownExtenders.{extender_low}
use Rattle.exb_control.proofs.control.Control.heard.Goals as goal

pub note-requires : goal.note-requires
note-requires c =
    extender_low c.self.inside.core.active.shape c.is_active_config.ensures.tree c.args.extender
    (subst (λ (p : Parts). is_extender p.active.shape c.args.extender ≡ true) (sym c.self.view_is) c.requires)

pub invariant_of-self-else-is_err : goal.invariant_of-self-else-is_err
invariant_of-self-else-is_err c =
    let w = c.self.inside in
    let made = c.wake-done.ensures in
    let fine = sym c.is_err.ensures.value ∙ c.if-is_err.false in
    let sound = c.self.invariant.sound c.if-self.false in
    let k = 2 ^ 21 * (65536 - w.given) in
    let before : to_come w.queue w.given ≡ 2 ^ 21 * length w.queue + k = omega arith in
    let after : 2 ^ 21 * length c.wake-done.new.queue + k ≡ to_come c.wake-done.new.queue w.given = omega arith in
    let t = w.core.active.shape in
    let s = state_of (parts_of w.core w.queue w.heard w.given w.failed) in
    let led =
    when_ok _ fine made.reached (record { queue = w.queue; heard = c.note.new.self; given = w.given }) refl refl
    ∙ heard_it (decide_of w.core.active) c.args.extender s _ c.empty.new.self.events c.empty.new.self.asks c.empty.new.self.downs c.note.ensures in
    record {
      sound = λ _. record {
        fit = subst (λ t. AreFit t c.wake-done.new.queue) (sym made.shape) (when_ok _ fine made.fit);
        asks = when_ok _ fine made.rests;
        steady = steady_at (2 ^ 21 * length c.wake-done.new.queue + k) _ _ _ after (when_ok _ fine made.steady k (steady_at (to_come w.queue w.given) _ _ _ before sound.steady));
        spells =
            spells_on t _ (heard (decide_of w.core.active) c.args.extender s) (state_of (parts_of c.wake-done.new.core c.wake-done.new.queue c.note.new.self w.given w.failed)) made.shape (ap (λ (r : Reached). r.state) led)
            (heard_spelled t w.core.active.limits s sound.fit sound.spells c.args.extender);
      };
    }

pub returns-clause-ok : goal.returns-clause-ok
returns-clause-ok c =
    let w = c.self.inside in
    let made = c.wake-done.ensures in
    let fine = sym c.is_err.ensures.value ∙ c.if-is_err.false in
    let out = c.wake-done.new.out in
    let old = parts_of w.core w.queue w.heard w.given w.failed in
    let new = parts_of c.wake-done.new.core c.wake-done.new.queue c.note.new.self w.given w.failed in
    subst (λ (p : Parts). IsMoved (heard (decide_of p.active) c.args.extender (state_of p)) p new out) c.self.view_is
    (moved (heard (decide_of w.core.active) c.args.extender (state_of old))
    old c.wake-done.new.core c.wake-done.new.queue c.note.new.self w.given w.failed c.empty.new.self.events c.empty.new.self.asks c.empty.new.self.downs out
    c.empty.ensures.events c.empty.ensures.asks c.empty.ensures.downs
    (when_ok _ fine made.reached (record { queue = w.queue; heard = c.note.new.self; given = w.given }) refl refl
    ∙ heard_it (decide_of w.core.active) c.args.extender (state_of old) _ c.empty.new.self.events c.empty.new.self.asks c.empty.new.self.downs c.note.ensures)
    made.shape made.limits refl)

pub returns-clause-spelled : goal.returns-clause-spelled
returns-clause-spelled c =
    let w = c.self.inside in
    let sound = c.self.invariant.sound c.if-self.false in
    asks_on _ _ _ (returns-clause-ok c).asks
    (subst (λ (p : Parts). Spelled p.active.shape (heard (decide_of p.active) c.args.extender (state_of p))) c.self.view_is
    (heard_spelled w.core.active.shape w.core.active.limits (state_of (parts_of w.core w.queue w.heard w.given w.failed)) sound.fit sound.spells c.args.extender))
