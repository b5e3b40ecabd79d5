use Rattle.exb_world.specs.MachineWorlds.{rest_of}
use Rattle.exb_world.proofs.live_steps.order.Given as goal

abbrev pub ghost-order : goal.ghost-order
ghost-order a = rest_of a.core.now
