use Rattle.std.proofs.lemmas.Result.{on_err_weaker}
use Rattle.exb_inputs.proofs.Outcomes.{if_err_map, if_ok_map}
use Rattle.exb_net.proofs.PreparedFiles.{can_begin}
use Rattle.exb_net.proofs.play.play_agenda.Goals as goal

pub play-played-requires-clause-begins : goal.play-played-requires-clause-begins
play-played-requires-clause-begins g c = (let t = c.requires.can in (t.0, can_begin _ t.0 _ _ _ _ t.1))

pub returns-clause-done : goal.returns-clause-done
returns-clause-done g c tells = if_ok_map c.play-played.result (λ line all r can. all r (can_begin _ r _ _ _ _ can)) (c.play-played.ensures.done tells)

pub returns-clause-cut : goal.returns-clause-cut
returns-clause-cut g c tells = on_err_weaker c.play-played.result (λ all r can. all r (can_begin _ r _ _ _ _ can)) (c.play-played.ensures.cut tells)

pub returns-clause-never : goal.returns-clause-never
returns-clause-never g c tells = if_err_map c.play-played.result (λ fault all change r can. all change r (can_begin _ r _ _ _ _ can)) (c.play-played.ensures.never tells)
