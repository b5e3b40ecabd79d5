use Rattle.std.proofs.Common.{◌≡◌, ◌+◌, ◌-◌, ◌*◌, ◌^◌, ◌<◌, [], ◌∷◌, ◌++◌, length, refl, sym, ap, subst, ◌∙◌, arith}
use Rattle.exb_control_spec.specs.declared.job.Job.TheVariants as job
use Rattle.exb_control_spec.specs.Machine.{ordered}
use Rattle.exb_model.specs.Setup.{NamesExternal}
use Rattle.exb_control.specs.CallEffects.{IsMoved}
use Rattle.exb_control.specs.Controls.{Parts, state_of, decide_of}
use Rattle.exb_control_spec.specs.JobsOfTree.{AreFit}
use Rattle.exb_control.specs.Soundness.{to_come}
use Rattle.exb_control.specs.MachineSteps.{Reached}
use Rattle.exb_control.specs.ControlParts.{parts_of}
use Rattle.exb_control.proofs.Calls.{when_ok, moved, steady_at}
use Rattle.exb_control.proofs.EncodableMessages.{Spelled, ordered_spelled, spells_on, asks_on}
use Rattle.exb_control.proofs.control.Control.command.Goals as goal

pub invariant_of-self-else-is_err : goal.invariant_of-self-else-is_err
invariant_of-self-else-is_err c =
    let w = c.self.inside in
    let made = c.give-done.ensures in
    let fine = sym c.is_err.ensures.value ∙ c.if-is_err.false in
    let sound = c.self.invariant.sound c.if-self.false in
    let n = length w.queue in
    let k = 2 ^ 21 * (65536 - (w.given + 1)) in
    let few : w.given < 65536 = rw (← c.self.view_is) at c.requires.few in
    let before : to_come w.queue w.given ≡ 2 ^ 21 * (n + 1) + k = omega arith in
    let after : 2 ^ 21 * length c.give-done.new.queue + k ≡ to_come c.give-done.new.queue (w.given + 1) = omega arith in
    let t = w.core.active.shape in
    let s = state_of (parts_of w.core w.queue w.heard w.given w.failed) in
    let names = subst (λ (p : Parts). NamesExternal p.active.shape c.args.command.now) (sym c.self.view_is) c.requires.names in
    let led = when_ok _ fine made.reached (record { queue = w.queue ++ job.Ordered (w.given + 1) c.args.command.now ∷ []; heard = w.heard; given = w.given + 1 }) refl refl in
    record {
      sound = λ _. record {
        fit = subst (λ t. AreFit t c.give-done.new.queue) (sym made.shape) (when_ok _ fine made.fit);
        asks = when_ok _ fine made.rests;
        steady = steady_at (2 ^ 21 * length c.give-done.new.queue + k) _ _ _ after (when_ok _ fine made.steady k (steady_at (to_come w.queue w.given) _ _ _ before sound.steady));
        spells =
            spells_on t _ (ordered (decide_of w.core.active) c.args.command.now s) (state_of (parts_of c.give-done.new.core c.give-done.new.queue w.heard (w.given + 1) w.failed)) made.shape (ap (λ (r : Reached). r.state) led)
            (ordered_spelled t w.core.active.limits s sound.fit sound.spells c.args.command.now names);
      };
    }

pub returns-clause-ok : goal.returns-clause-ok
returns-clause-ok c =
    let w = c.self.inside in
    let made = c.give-done.ensures in
    let fine = sym c.is_err.ensures.value ∙ c.if-is_err.false in
    let out = c.give-done.new.out in
    let new = parts_of c.give-done.new.core c.give-done.new.queue w.heard (w.given + 1) w.failed in
    subst (λ (p : Parts). IsMoved (ordered (decide_of p.active) c.args.command.now (state_of p)) p new out) c.self.view_is
    (moved _ (parts_of w.core w.queue w.heard w.given w.failed) c.give-done.new.core c.give-done.new.queue w.heard (w.given + 1) w.failed c.empty.new.self.events c.empty.new.self.asks c.empty.new.self.downs out
    c.empty.ensures.events c.empty.ensures.asks c.empty.ensures.downs
    (when_ok _ fine made.reached (record { queue = w.queue ++ job.Ordered (w.given + 1) c.args.command.now ∷ []; heard = w.heard; given = w.given + 1 }) refl refl)
    made.shape made.limits refl)

pub returns-clause-spelled : goal.returns-clause-spelled
returns-clause-spelled c =
    let w = c.self.inside in
    let sound = c.self.invariant.sound c.if-self.false in
    let names = subst (λ (p : Parts). NamesExternal p.active.shape c.args.command.now) (sym c.self.view_is) c.requires.names in
    asks_on _ _ _ (returns-clause-ok c).asks
    (subst (λ (p : Parts). Spelled p.active.shape (ordered (decide_of p.active) c.args.command.now (state_of p))) c.self.view_is
    (ordered_spelled w.core.active.shape w.core.active.limits (state_of (parts_of w.core w.queue w.heard w.given w.failed)) sound.fit sound.spells c.args.command.now names))
