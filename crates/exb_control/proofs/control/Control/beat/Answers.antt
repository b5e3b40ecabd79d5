use Rattle.std.proofs.Common.{refl, sym, ap, subst, ◌∙◌}
use Rattle.exb_control_spec.specs.Machine.{beats}
use Rattle.exb_control.specs.declared.change_execution.ChangeExecutor.{ChangeExecutor}
use Rattle.exb_control.specs.declared.outbox.Outbox.{Outbox}
use Rattle.exb_control.specs.CallEffects.{IsMoved}
use Rattle.exb_control.specs.Controls.{Parts, state_of}
use Rattle.exb_control.specs.ControlParts.{parts_of}
use Rattle.exb_control.proofs.Calls.{when_ok, moved, kept_beat, beat_moves}
use Rattle.exb_control.proofs.EncodableMessages.{Spelled, beats_spelled, asks_on}
use Rattle.exb_control.proofs.control.Control.beat.Goals as goal

pub invariant_of-self-else-is_err : goal.invariant_of-self-else-is_err
invariant_of-self-else-is_err c =
    let w = c.self.inside in
    kept_beat w.core c.beat.new.core w.queue w.given w.failed c.beat.ensures.rest c.beat.ensures.sessions c.self.invariant

pub returns-clause-ok : goal.returns-clause-ok
returns-clause-ok c =
    let w = c.self.inside in
    let made = c.beat.ensures in
    let fine = sym c.is_err.ensures.value ∙ c.if-is_err.false in
    let out : Outbox = record { events = c.empty.new.self.events; asks = c.beat.new.asks; downs = c.empty.new.self.downs } in
    let new = parts_of c.beat.new.core w.queue w.heard w.given w.failed in
    subst (λ (p : Parts). IsMoved (beats (state_of p)) p new out) c.self.view_is
    (moved _ (parts_of w.core w.queue w.heard w.given w.failed) c.beat.new.core w.queue w.heard w.given w.failed c.empty.new.self.events c.empty.new.self.asks c.empty.new.self.downs out
    c.empty.ensures.events c.empty.ensures.asks c.empty.ensures.downs
    (beat_moves w.core c.beat.new.core w.queue w.heard w.given w.failed c.empty.new.self.events c.empty.new.self.asks c.beat.new.asks c.empty.new.self.downs made.rest made.sessions (when_ok _ fine made.asks))
    (ap (λ (x : ChangeExecutor). x.active.shape) made.rest) (ap (λ (x : ChangeExecutor). x.active.limits) made.rest) refl)

pub returns-clause-spelled : goal.returns-clause-spelled
returns-clause-spelled c =
    let w = c.self.inside in
    let sound = c.self.invariant.sound c.if-self.false in
    asks_on _ _ _ (returns-clause-ok c).asks
    (subst (λ (p : Parts). Spelled p.active.shape (beats (state_of p))) c.self.view_is
    (beats_spelled w.core.active.shape w.core.active.limits (state_of (parts_of w.core w.queue w.heard w.given w.failed)) sound.fit sound.spells))
