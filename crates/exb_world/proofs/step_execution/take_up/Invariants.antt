use Rattle.exb_world.proofs.step_execution.take_up.Given as goal

abbrev pub ghost-take : goal.ghost-take
ghost-take g a = g.rest
