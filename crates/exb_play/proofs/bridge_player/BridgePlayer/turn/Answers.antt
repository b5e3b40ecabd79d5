use Rattle.std.proofs.Common.{◌++◌, ◌∷◌, [], sym, ◌∙◌, append_assoc}
use Rattle.std.proofs.lemmas.List.Elements.{All-append}
use Rattle.std.proofs.lemmas.Result.{on_err_weaker}
use Rattle.exb_trace_spec.specs.WritableLines.{HasBytes}
use Rattle.exb_trace_spec.specs.RoundTrips.{IsOfNumbers}
use Rattle.exb_bridge.specs.BridgeWorlds.{all_left}
use Rattle.exb_play.specs.Disks.{disk}
use Rattle.exb_play.specs.BridgeRuns.{player, mode_of, ◌with◌}
use Rattle.exb_outputs.specs.KindTexts.{text_so_far}
use Rattle.exb_outputs.specs.WrittenTexts.{pieces_of}
use Rattle.exb_world_spec.specs.Worlds.{left_at}
use Rattle.exb_outputs.specs.SentFrames.{sent_with}
use Rattle.exb_outputs.proofs.CaptureSizes.{sent_as}
use Rattle.exb_outputs.proofs.WrittenTexts.{kinds_same}
use Rattle.exb_play.proofs.PortCounts.{can-count, played_together}
use Rattle.exb_outputs.proofs.PortCounts.{counted-on}
use Rattle.exb_inputs.proofs.Outcomes.{when_ok, on_ok_by}
use Rattle.exb_outputs.proofs.TextUpdates.{left_at-append, text-more}
use Rattle.exb_play.proofs.ToldSegments.{quiet-played, cleared-played, frames-fit}
use Rattle.exb_play.proofs.EarlyEnds.{cut_amid, cut_before}
use Rattle.exb_play.proofs.bridge_player.BridgePlayer.turn.Goals as goal

pub note-requires-clause-frames : goal.note-requires-clause-frames
note-requires-clause-frames g c =
    let m = mode_of c.args.schedule in
    let n = c.args.self.now.world in
    let i = g.R.OfRun.run.input in
    let can = c.requires.playable in
    let is = can.is in
    let ok = sym c.is_err.ensures.value ∙ c.if-is_err.false in
    let v = c.play_segment.new.world in
    let after = when_ok c.play_segment.result ok c.play_segment.ensures.plays i can.so_far can.next is.told can.segment (quiet-played m i can.so_far n is.told is.quiet is.played) in
    frames-fit m i c.args.manifest.now (can.so_far ++ can.next ∷ []) v is.told v.log c.runs_are_under_way.ensures is.tree c.is_tree.ensures can.follows.kept after

pub note-requires-clause-can : goal.note-requires-clause-can
note-requires-clause-can g c =
    let m = mode_of c.args.schedule in
    let n = c.args.self.now.world in
    let i = g.R.OfRun.run.input in
    let can = c.requires.playable in
    let is = can.is in
    let ok = sym c.is_err.ensures.value ∙ c.if-is_err.false in
    let v = c.play_segment.new.world in
    let after = when_ok c.play_segment.result ok c.play_segment.ensures.plays i can.so_far can.next is.told can.segment (quiet-played m i can.so_far n is.told is.quiet is.played) in
    can-count m i c.args.manifest.now (can.so_far ++ can.next ∷ []) v c.args.self.now.counted is.told v.log c.steps_tell_passed.ensures c.runs_are_few.ensures can.follows after is.counted
    (played_together c.steps_tell_passed.ensures m i can.so_far n is.told is.played)

pub returns-clause-told : goal.returns-clause-told
returns-clause-told g c = on_ok_by c.note.result (λ get. record {
  ready = c.note.ensures.writes.ready;
  told = λ so_far s segment is.
      (let S = g.S.Shelf in
      let run = g.R.OfRun.run in
      let m = mode_of c.args.schedule in
      let n = c.args.self.now.world in
      let manifest = c.args.manifest.now in
      let ok = sym c.is_err.ensures.value ∙ c.if-is_err.false in
      let v = c.play_segment.new.world in
      let t = is.told in
      let log = v.log in
      let writes = c.note.ensures.writes in
      let cleared = get _ c.note.ensures.cleared in
      let counts = get _ c.note.ensures.counts in
      let after = when_ok c.play_segment.result ok c.play_segment.ensures.plays run.input so_far s t segment (quiet-played m run.input so_far n t is.quiet is.played) in
      record {
        tree = is.tree;
        told = t with v.log;
        played = cleared-played m run.input (so_far ++ s ∷ []) v c.note.new.self.world (t with v.log) cleared.world cleared.same after;
        tracing = cleared.same.tracing ∙ (when_ok c.play_segment.result ok c.play_segment.ensures.same).tracing ∙ is.tracing;
        numbers = All-append IsOfNumbers t.events log.events is.numbers c.told_by_types.ensures.numbers;
        bytes = All-append HasBytes t.lines log.lines is.bytes c.told_by_types.ensures.bytes;
        counted = counted-on manifest c.args.self.now.counted c.note.new.self.counted t.events log.events t.passed log.passed t.left log.left counts.tally counts.ports
            (played_together c.steps_tell_passed.ensures m run.input so_far n t is.played) is.counted;
        texts = λ tells.
            kinds_same manifest run.before (S.file c.note.new.shelf) (pieces_of c.note.new.self.outputs) _ (text_so_far (t.events ++ log.events) (t with v.log).left (t.lines ++ log.lines) [])
            (text-more t.events log.events t.left log.left t.lines log.lines) (get _ (writes.texts tells) run.before (text_so_far t.events t.left t.lines []) (is.texts tells));
        sent = sent_as manifest c.note.new.self.outputs (sent_with (λ q. left_at q t.left) log.left) (λ q. left_at q (t with v.log).left) (λ q. sym (left_at-append q t.left (all_left log.left)))
            (get _ writes.sent (λ q. left_at q t.left) is.sent);
        quiet = cleared.quiet;
      });
})

pub returns-then-is_err-clause-cut : goal.returns-then-is_err-clause-cut
returns-then-is_err-clause-cut g c = λ t so_far rest s segments_are segment is.
    cut_before g.S.Shelf.tells g.R.OfRun.run (player c.args.schedule c.args.manifest.now c.args.self.now.world c.args.self.now.counted c.args.self.now.outputs (disk g.S.Shelf c.args.shelf.now)) so_far (s ∷ rest) t is segments_are

pub returns-clause-cut : goal.returns-clause-cut
returns-clause-cut g c = λ t. on_err_weaker c.note.result
    (λ cut so_far rest s segments_are segment is.
    let m = mode_of c.args.schedule in
    let run = g.R.OfRun.run in
    let n = c.args.self.now.world in
    let ok = sym c.is_err.ensures.value ∙ c.if-is_err.false in
    let v = c.play_segment.new.world in
    let told = is.told in
    let after = when_ok c.play_segment.result ok c.play_segment.ensures.plays run.input so_far s told segment (quiet-played m run.input so_far n told is.quiet is.played) in
    cut_amid m run c.args.manifest.now (g.S.Shelf.file c.note.new.shelf) (so_far ++ s ∷ []) rest v told is.tree
    (segments_are ∙ sym (append_assoc so_far (s ∷ []) rest)) ((when_ok c.play_segment.result ok c.play_segment.ensures.same).tracing ∙ is.tracing) after
    (cut run.before (text_so_far told.events told.left told.lines []) (is.texts t)))
    (c.note.ensures.writes.cut t)
