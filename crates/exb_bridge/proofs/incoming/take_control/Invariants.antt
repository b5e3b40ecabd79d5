use Rattle.exb_bridge.proofs.incoming.take_control.Given as goal

abbrev pub ghost-hear : goal.ghost-hear
ghost-hear g a = g.rest

abbrev pub ghost-holder : goal.ghost-holder
ghost-holder g a = g.rest
