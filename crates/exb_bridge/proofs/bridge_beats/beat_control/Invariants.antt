use Rattle.exb_bridge.proofs.bridge_beats.beat_control.Given as goal

abbrev pub ghost-beat_working : goal.ghost-beat_working
ghost-beat_working g a = g.rest
