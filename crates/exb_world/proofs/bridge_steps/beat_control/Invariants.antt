use Rattle.exb_world.proofs.bridge_steps.beat_control.Given as goal

abbrev pub ghost-beat_control : goal.ghost-beat_control
ghost-beat_control g a = g.rest
