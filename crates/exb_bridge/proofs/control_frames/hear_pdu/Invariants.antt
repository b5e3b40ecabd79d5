use Rattle.exb_bridge.proofs.control_frames.hear_pdu.Given as goal

abbrev pub ghost-hear_request : goal.ghost-hear_request
ghost-hear_request g a = g.rest
