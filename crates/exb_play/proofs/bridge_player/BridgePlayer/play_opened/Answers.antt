use Rattle.std.proofs.Common.{[], refl, arith}
use Rattle.std.proofs.lemmas.Result.{err_from_is_err_and}
use Rattle.exb_model.specs.Input.{segments}
use Rattle.exb_outputs.proofs.WrittenTexts.{kinds_same}
use Rattle.exb_outputs.specs.WrittenTexts.{first_text, pieces_of}
use Rattle.exb_outputs.proofs.PortCounts.{none_together}
use Rattle.exb_outputs.proofs.TextUpdates.{text-first}
use Rattle.exb_outputs.specs.KindTexts.{text_so_far}
use Rattle.exb_play.specs.Disks.{disk}
use Rattle.exb_play.specs.BridgeRuns.{mode_of, untold}
use Rattle.exb_play.specs.RunInvariants.{CanFollow}
use Rattle.exb_play.proofs.EarlyEnds.{cut_amid}
use Rattle.exb_play.proofs.RunSteps.{opened-playing}
use Rattle.exb_play.proofs.PortCounts.{can-count}
use Rattle.exb_play.proofs.ToldSegments.{frames-fit}
use Rattle.exb_play.proofs.DiskEffects.{wrote-plays}
use Rattle.exb_play.proofs.bridge_player.BridgePlayer.play_opened.Goals as goal

pub note-requires-clause-frames : goal.note-requires-clause-frames
note-requires-clause-frames g c =
    let n = c.args.self.now.world in
    let is = c.requires.opened in
    frames-fit (mode_of c.args.schedule) g.R.OfRun.run.input c.args.manifest.now [] n untold n.log c.runs_are_under_way.ensures is.tree c.is_tree.ensures tt is.played

pub note-requires-clause-can : goal.note-requires-clause-can
note-requires-clause-can g c =
    let i = g.R.OfRun.run.input in
    let n = c.args.self.now.world in
    let is = c.requires.opened in
    let follows : CanFollow i [] = record { kept = tt; few_arrivals = omega arith; few_commands = omega arith } in
    can-count (mode_of c.args.schedule) i c.args.manifest.now [] n c.args.self.now.counted untold n.log c.steps_tell_passed.ensures c.runs_are_few.ensures follows is.played is.counted none_together

pub play_on-requires-clause-stands : goal.play_on-requires-clause-stands
play_on-requires-clause-stands g c =
    let note = c.in_ok-note.ensures in
    opened-playing _ _ _ _ c.requires.opened c.note.new.self.world c.note.new.self.counted c.note.new.self.outputs (disk g.S.Shelf c.note.new.shelf) note.cleared note.counts note.writes
    c.told_by_types.ensures.numbers c.told_by_types.ensures.bytes

pub returns-in_err-note-clause-cut : goal.returns-in_err-note-clause-cut
returns-in_err-note-clause-cut g c = λ t.
    let e = err_from_is_err_and c.from_residual.result c.from_residual.ensures.1 in
    let S = g.S.Shelf in
    let run = g.R.OfRun.run in
    let manifest = c.args.manifest.now in
    let m = mode_of c.args.schedule in
    let n = c.args.self.now.world in
    let is = c.requires.opened in
    rw e.1
    (cut_amid m run manifest (S.file c.note.new.shelf) [] (segments m run.input) n untold is.tree refl is.tracing is.played
    (c.in_err-note.ensures.writes.cut t run.before (text_so_far [] [] [] [])
    (kinds_same manifest run.before (S.file c.args.shelf.now) (pieces_of c.args.self.now.outputs) first_text (text_so_far [] [] [] []) text-first (is.begins.texts t))))

pub returns-clause-plays : goal.returns-clause-plays
returns-clause-plays g c = wrote-plays _ _ _ _ _ _ _ _ c.in_ok-note.ensures.writes.writes c.play_on.ensures.plays
