use Rattle.std.proofs.lemmas.Result.{err_from_is_err_and}
use Rattle.exb_journal.specs.Tallies.{counts_of}
use Rattle.exb_play.proofs.EarlyEnds.{cut_at_end}
use Rattle.exb_play.proofs.RunEnd.{has-played}
use Rattle.exb_play.proofs.DiskEffects.{plays-broke, plays-wrote}
use Rattle.exb_play.proofs.bridge_player.BridgePlayer.play_on.Goals as goal

pub returns-clause-done : goal.returns-clause-done
returns-clause-done g c t =
    has-played _ _ _ (c.in_ok-play_all.ensures.played.told t) c.is_tree.ensures c.requires.timely c.runs_are_under_way.ensures c.runs_write_legally.ensures t (c.in_ok-play_all.ensures.played.kept t)
    c.runs_write_eagerly.ensures c.runs_tell_legally.ensures c.counts_go_on.ensures c.runs_say_passed.ensures (g.S.Shelf.file c.end.new.shelf) _ c.in_ok-end.ensures.line (c.in_ok-end.ensures.texts t)

pub returns-clause-says : goal.returns-clause-says
returns-clause-says g c = (counts_of c.play_all.new.self.counted.tally, c.in_ok-end.ensures.line)

pub returns-clause-plays : goal.returns-clause-plays
returns-clause-plays g c = plays-wrote _ _ _ _ _ _ _ c.in_ok-play_all.ensures.plays c.in_ok-end.field-0 _ c.in_ok-end.ensures.writes

pub returns-in_err-end-clause-plays : goal.returns-in_err-end-clause-plays
returns-in_err-end-clause-plays g c =
    let e = err_from_is_err_and c.from_residual-in_err-end.result c.from_residual-in_err-end.ensures.1 in
    rw (e.1, e.2) (plays-broke _ _ _ _ _ _ _ c.in_ok-play_all.ensures.plays c.in_err-end.field-0.0 c.in_err-end.ensures.writes)

pub returns-in_err-end-clause-cut : goal.returns-in_err-end-clause-cut
returns-in_err-end-clause-cut g c = λ t.
    let e = err_from_is_err_and c.from_residual-in_err-end.result c.from_residual-in_err-end.ensures.1 in
    rw e.1 (cut_at_end _ _ _ (g.S.Shelf.file c.end.new.shelf) t (c.in_ok-play_all.ensures.played.told t).is c.play_all.new.self.counted.ports (c.in_err-end.ensures.cut t))
