use Rattle.exb_world_spec.specs.Worlds.{Arrive}
use Rattle.exb_schedule.proofs.SegmentInput.{given_first, given_on}
use Rattle.exb_schedule.proofs.segment_input.let_arrive.Goals as goal

pub loop-arrival-init : goal.loop-arrival-init
loop-arrival-init c = given_first Arrive c.args.arrivals.now c.args.world.now c.requires

pub loop-arrival-preserved : goal.loop-arrival-preserved
loop-arrival-preserved c =
    given_on Arrive c.args.arrivals.now c.loop-arrival.arrival-index c.arrival-item.result c.args.world.now c.loop-arrival.world c.arrive.new.self c.loop-arrival-test.true c.arrival-item.is
    c.loop-arrival.invariant c.in_ok-arrive.ensures.ok c.in_ok-arrive.ensures.may
