use Rattle.exb_world.proofs.bridge_steps.come.Given as goal

abbrev pub ghost-come : goal.ghost-come
ghost-come g a = g.rest
