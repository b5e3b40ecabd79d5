use Rattle.exb_bridge.proofs.control_frames.hear.Given as goal

abbrev pub ghost-hear_announcement : goal.ghost-hear_announcement
ghost-hear_announcement g a = g.rest

abbrev pub ghost-hear_pdu : goal.ghost-hear_pdu
ghost-hear_pdu g a = g.rest
