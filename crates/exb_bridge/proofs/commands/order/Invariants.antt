use Rattle.exb_bridge.proofs.commands.order.Given as goal

abbrev pub ghost-follow : goal.ghost-follow
ghost-follow g a = g.rest
