-- A step of the machine of changes, done in two parts.
use Rattle.std.proofs.Common.{◌≡◌, List, ◌++◌, ap, sym, subst, ◌∙◌}
use Rattle.std.proofs.lemmas.List.{append-nil}
use Rattle.exb_model.specs.declared.event.Event.{Event}
use Rattle.exb_model.specs.Tree.{Shape}
use Rattle.exb_control_spec.specs.declared.extender_message.Asked.{Asked}
use Rattle.exb_control_spec.specs.Machine.{Moved}
use Rattle.exb_world_spec.specs.Worlds.{World, with_control, with_table}
use Rattle.exb_world_spec.specs.Effects.{only, each}
use Rattle.exb_world_spec.specs.BridgeLearning.{forgotten_all}
use Rattle.exb_world_spec.specs.ControlFrames.{asks, moves}
use Rattle.exb_outbox.specs.declared.log.Log.{Log}
use Rattle.exb_bridge.specs.BridgeWorlds.{Whole}
use Rattle.exb_bridge.specs.TreeIndexes.{Site}
use Rattle.exb_bridge.specs.BridgeWorlds.{world_in, all_left, IsAt, Does, KeepsTrace}
use Rattle.exb_bridge.proofs.RemainingEffects.{does_then}

-- A step of the machine of changes: what it told was added to the log, and what it asked went out.
pub moved_on : (t : Shape) (m : Moved) (w : World) (s : Site) (b c : Whole) (events : List Event) (asked : List Asked) (old told new : Log) → Does (each (asks t) asked (world_in b)) s c told new → IsAt s b →
    world_in b ≡ with_table (forgotten_all m.downs w.table) (with_control m.state w) → events ≡ m.events → asked ≡ m.asks →
    told.events ≡ old.events ++ events → told.passed ≡ old.passed → told.left ≡ old.left → KeepsTrace old told →
    Does (moves t m w) s c old new
moved_on t m w s b c events asked old told new sent here is telling asked_is added passed left trace =
    let from : World = with_table (forgotten_all m.downs w.table) (with_control m.state w) in
    does_then (record (only from) { events = m.events }) (each (asks t) m.asks) s b c old told new (
    record {
      world = is;
      events = added ∙ ap (λ xs. old.events ++ xs) telling;
      passed = passed ∙ sym (append-nil old.passed);
      left = ap all_left left ∙ sym (append-nil (all_left old.left));
      outs = trace.outs ∙ sym (append-nil old.outs.items);
      lines = trace.lines;
      tracing = trace.tracing;
      at = here;
    })
    (subst (λ (xs : List Asked). Does (each (asks t) xs (world_in b)) s c told new) asked_is sent)
