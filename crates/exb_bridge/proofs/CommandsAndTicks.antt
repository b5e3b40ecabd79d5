-- What the bridge is given: seconds and commands.
use Rattle.std.proofs.Common.{◌≡◌, ◌++◌, [], ◌∷◌, sym, ap, subst, ◌∙◌, ℕ}
use Rattle.std.proofs.lemmas.List.{append-nil}
use Rattle.exb_model.specs.declared.command.Command.{Command}
use Rattle.exb_model.specs.declared.event.Event.TheVariants as event
use Rattle.exb_model.specs.Setup.{Limits}
use Rattle.exb_model.specs.Tree.{Shape}
use Rattle.exb_learn.specs.Calls.{Tick, after_call}
use Rattle.exb_learn.specs.Entries.{Entries, table_of}
use Rattle.exb_control.specs.declared.outbox.Outbox.{Outbox}
use Rattle.exb_control_spec.specs.Decisions.{decide}
use Rattle.exb_control_spec.specs.Machine.{ordered}
use Rattle.exb_control.specs.CallEffects.{IsMoved}
use Rattle.exb_control.specs.Controls.{Parts, decide_of, state_of}
use Rattle.exb_world_spec.specs.Worlds.{Tick as Ticks}
use Rattle.exb_world_spec.specs.Steps.{done_by}
use Rattle.exb_outbox.specs.declared.log.Log.{Log}
use Rattle.exb_bridge.specs.TreeIndexes.{Site, limits_in}
use Rattle.exb_bridge.specs.BridgeWorlds.{Whole, world_in, all_left, IsAt, Does, KeepsTrace}
use Rattle.exb_bridge.proofs.ControlSteps.{learned_world, learned_at}

-- ---- seconds
pub ticked : (s : Site) (l : Limits) (c : Whole) (learned : Entries) (seconds : ℕ) (old new : Log) → table_of learned ≡ after_call (Tick seconds) (table_of c.learned) → IsAt s c →
    new.events ≡ old.events ++ event.Tick seconds ∷ [] → new.passed ≡ old.passed → new.left ≡ old.left → KeepsTrace old new →
    Does (done_by s.tree l (Ticks seconds) (world_in c)) s (record c { learned = learned }) old new
ticked s l c learned seconds old new ticks is_at events passed left trace =
    record {
      world = learned_world c learned _ ticks;
      events = events;
      passed = passed ∙ sym (append-nil old.passed);
      left = ap all_left left ∙ sym (append-nil (all_left old.left));
      outs = trace.outs ∙ sym (append-nil old.outs.items);
      lines = trace.lines;
      tracing = trace.tracing;
      at = learned_at c learned s is_at;
    }

-- ---- commands
pub ordered_at : (s : Site) (c : Whole) (command : Command) (p : Parts) (out : Outbox) → IsAt s c →
    IsMoved (ordered (decide_of c.control.active) command (state_of c.control)) c.control p out → IsMoved (ordered (decide s.tree (limits_in s)) command (world_in c).control) c.control p out
ordered_at s c command p out is_at moved =
    subst (λ (l : Limits). IsMoved (ordered (decide s.tree l) command (state_of c.control)) c.control p out) is_at.limits
    (subst (λ (t : Shape). IsMoved (ordered (decide t c.control.active.limits) command (state_of c.control)) c.control p out) is_at.shape moved)
