use Rattle.exb_world.specs.MachineWorlds.{rest_of}
use Rattle.exb_world.proofs.world_beat.beat.Given as goal

abbrev pub ghost-beat_ends : goal.ghost-beat_ends
ghost-beat_ends a = rest_of a.core.now

abbrev pub ghost-beat_control : goal.ghost-beat_control
ghost-beat_control a = rest_of a.core.now
