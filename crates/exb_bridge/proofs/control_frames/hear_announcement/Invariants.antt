use Rattle.exb_bridge.proofs.control_frames.hear_announcement.Given as goal

abbrev pub ghost-follow : goal.ghost-follow
ghost-follow g a = g.rest
