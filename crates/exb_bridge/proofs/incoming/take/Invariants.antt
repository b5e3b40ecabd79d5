use Rattle.exb_bridge.proofs.incoming.take.Given as goal

abbrev pub ghost-take_control : goal.ghost-take_control
ghost-take_control g a = g.rest

abbrev pub ghost-take_data : goal.ghost-take_data
ghost-take_data g a = g.rest
