use Rattle.exb_world.proofs.bridge_steps.beat_ends.Given as goal

abbrev pub ghost-beat_ends : goal.ghost-beat_ends
ghost-beat_ends g a = g.rest
