use Rattle.exb_bridge.proofs.incoming.take_data.Given as goal

abbrev pub ghost-holder : goal.ghost-holder
ghost-holder g a = g.rest

abbrev pub ghost-come_in : goal.ghost-come_in
ghost-come_in g a = g.rest
