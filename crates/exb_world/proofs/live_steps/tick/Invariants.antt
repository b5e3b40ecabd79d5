use Rattle.exb_world.specs.MachineWorlds.{rest_of}
use Rattle.exb_world.proofs.live_steps.tick.Given as goal

abbrev pub ghost-tick : goal.ghost-tick
ghost-tick a = rest_of a.core.now
