use Rattle.exb_world.specs.MachineWorlds.{rest_of}
use Rattle.exb_world.proofs.step_execution.arrive.Given as goal

abbrev pub ghost-come : goal.ghost-come
ghost-come a = rest_of a.core.now
