use Rattle.exb_bridge.proofs.incoming.send.Given as goal

abbrev pub ghost-put_word : goal.ghost-put_word
ghost-put_word g a = g.rest
