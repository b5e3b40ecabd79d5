use Rattle.exb_bridge.proofs.requests.put_deeper.Given as goal

abbrev pub ghost-put : goal.ghost-put
ghost-put g a = g.rest
