use Rattle.std.proofs.Common.{◌≡◌, ◌++◌, map, take}
use Rattle.exb_world_spec.specs.TraceLines.{all_told}
use Rattle.exb_world_spec.specs.Worlds.{Journal}
use Rattle.exb_world.proofs.trace_lines.put_events.Given as goal

abbrev pub invariant-loop-event : goal.invariant-loop-event
invariant-loop-event l = l.to ≡ l.initial.to ++ all_told (map Journal (take l.event-index l.events))
