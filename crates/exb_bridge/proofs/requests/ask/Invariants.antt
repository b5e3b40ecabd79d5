use Rattle.exb_bridge.proofs.requests.ask.Given as goal

abbrev pub ghost-send_to_extender : goal.ghost-send_to_extender
ghost-send_to_extender g a = g.rest
