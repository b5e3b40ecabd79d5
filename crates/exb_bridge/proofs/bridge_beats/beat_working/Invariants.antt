use Rattle.exb_bridge.proofs.bridge_beats.beat_working.Given as goal

abbrev pub ghost-follow : goal.ghost-follow
ghost-follow g a = g.rest
