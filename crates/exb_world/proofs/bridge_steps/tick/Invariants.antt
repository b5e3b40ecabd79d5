use Rattle.exb_world.proofs.bridge_steps.tick.Given as goal

abbrev pub ghost-tick : goal.ghost-tick
ghost-tick g a = g.rest
