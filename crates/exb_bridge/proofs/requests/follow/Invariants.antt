use Rattle.exb_bridge.proofs.requests.follow.Given as goal

abbrev pub ghost-ask_all : goal.ghost-ask_all
ghost-ask_all g a = g.rest
