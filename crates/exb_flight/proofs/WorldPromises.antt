-- The promises over every list of steps from the beginning.
use Rattle.std.proofs.Common.{[]}
use Rattle.exb_frame.specs.TagValues.{TagRoundTrip}
use Rattle.exb_relay.specs.Laws.{SendsAreWords, SendsLeaveAsFlat}
use Rattle.exb_model.specs.History.{◌then◌}
use Rattle.exb_world_spec.specs.Worlds.{World, Up, Down, Arrive, Carry, Control, Lose, Beat, Tick, Order, Mark, first_world}
use Rattle.exb_world_spec.specs.Settling.{run}
use Rattle.exb_flight.specs.Promises.{RunsStand, WorldsPromise}
use Rattle.exb_flight.proofs.SimulatedTicks.{ticks_fly, marks_fly, losses_fly}
use Rattle.exb_flight.proofs.SimulatedControl.{orders_fly}
use Rattle.exb_flight.proofs.SimulatedBeats.{beats_fly}
use Rattle.exb_flight.proofs.SimulatedDeliveries.{controls_fly}
use Rattle.exb_flight.proofs.SimulatedArrivals.{arrivals_fly}
use Rattle.exb_flight.proofs.SimulatedAscents.{ascents_fly}
use Rattle.exb_flight.proofs.SimulatedDescents.{descents_fly}
use Rattle.exb_flight.specs.Simulation.{StepsFly}
use Rattle.exb_flight.proofs.KeptPromises.{stood_promises, begins_stood, runs_stand}

-- all kinds together
pub all_fly : TagRoundTrip → SendsAreWords → SendsLeaveAsFlat → StepsFly
all_fly round words leave (Arrive a) = arrivals_fly round words leave a
all_fly round words leave (Carry n Up) = ascents_fly round words leave n
all_fly round words leave (Carry n Down) = descents_fly n
all_fly round words leave (Control n way k keep) = controls_fly round n way k keep
all_fly round words leave (Lose n way k) = losses_fly n way k
all_fly round words leave Beat = beats_fly round
all_fly round words leave (Tick seconds) = ticks_fly seconds
all_fly round words leave (Order c) = orders_fly round c
all_fly round words leave Mark = marks_fly

pub all_stand : TagRoundTrip → SendsAreWords → SendsLeaveAsFlat → RunsStand
all_stand round words leave = runs_stand round words leave (all_fly round words leave)

pub worlds_promise : TagRoundTrip → SendsAreWords → SendsLeaveAsFlat → WorldsPromise
worlds_promise round words leave t l i steps setting few may fly =
    let w : World = first_world t l i.start i.ageing in
    stood_promises t l i setting (run t l steps w).world ([] then (run t l steps w).events) (run t l steps w).left
    (all_stand round words leave t l i setting w [] [] (begins_stood t l i setting few may) steps fly)
