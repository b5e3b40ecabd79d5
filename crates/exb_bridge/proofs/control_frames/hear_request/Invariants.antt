use Rattle.exb_bridge.proofs.control_frames.hear_request.Given as goal

abbrev pub ghost-send_to_extender : goal.ghost-send_to_extender
ghost-send_to_extender g a = g.rest

abbrev pub ghost-hear_message : goal.ghost-hear_message
ghost-hear_message g a = g.rest
