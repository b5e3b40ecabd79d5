use Rattle.exb_world.proofs.bridge_steps.order.Given as goal

abbrev pub ghost-order : goal.ghost-order
ghost-order g a = g.rest
