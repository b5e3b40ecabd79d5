use Rattle.exb_world.specs.MachineWorlds.{rest_of}
use Rattle.exb_world.proofs.step_execution.take.Given as goal

abbrev pub ghost-take_up : goal.ghost-take_up
ghost-take_up a = rest_of a.core.now
