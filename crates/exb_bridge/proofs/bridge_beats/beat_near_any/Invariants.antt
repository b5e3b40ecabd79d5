use Rattle.exb_bridge.proofs.bridge_beats.beat_near_any.Given as goal

abbrev pub ghost-beat_near : goal.ghost-beat_near
ghost-beat_near g a = g.rest
