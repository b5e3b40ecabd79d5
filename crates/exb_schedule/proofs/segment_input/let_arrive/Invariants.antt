use Rattle.exb_world_spec.specs.Worlds.{Arrive}
use Rattle.exb_schedule.proofs.SegmentInput.{HasGiven}
use Rattle.exb_schedule.proofs.segment_input.let_arrive.Given as goal

abbrev pub invariant-loop-arrival : goal.invariant-loop-arrival
invariant-loop-arrival l = HasGiven Arrive l.arrivals l.arrival-index l.fn.world l.world
