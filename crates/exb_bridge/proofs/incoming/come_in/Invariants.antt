use Rattle.exb_bridge.proofs.incoming.come_in.Given as goal

abbrev pub ghost-relay_on : goal.ghost-relay_on
ghost-relay_on g a = g.rest
