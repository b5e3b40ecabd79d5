use Rattle.exb_bridge.proofs.incoming.relay_on.Given as goal

abbrev pub ghost-relay : goal.ghost-relay
ghost-relay g a = g.rest

abbrev pub ghost-send_all : goal.ghost-send_all
ghost-send_all g a = g.rest
