use Rattle.exb_bridge.proofs.requests.send_to_extender.Given as goal

abbrev pub ghost-put : goal.ghost-put
ghost-put g a = g.rest

abbrev pub ghost-put_deeper : goal.ghost-put_deeper
ghost-put_deeper g a = g.rest
