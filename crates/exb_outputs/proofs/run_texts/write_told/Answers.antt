use Rattle.std.proofs.Common.{◌∙◌}
use Rattle.std.proofs.lemmas.Result.{err_from_is_err_and, on_err_weaker, on_ok_weaker}
use Rattle.exb_model.specs.Traces.{trace_text}
use Rattle.exb_journal.specs.declared.file_names.OutputKind.TheVariants as output
use Rattle.exb_outputs.specs.WrittenTexts.{lines_of, with_more}
use Rattle.exb_outputs.specs.SentFrames.{sent_with, with_left_frames}
use Rattle.exb_outputs.proofs.CaptureSizes.{sent_same}
use Rattle.exb_outputs.proofs.ShelfEffects.{writes_from, writes_then}
use Rattle.exb_outputs.proofs.OutputPrefixes.{cut_more}
use Rattle.exb_outputs.proofs.SentFrames.{cut_frames}
use Rattle.exb_outputs.proofs.run_texts.write_told.Goals as goal

pub returns-clause-texts : goal.returns-clause-texts
returns-clause-texts g c = λ t.
    on_ok_weaker c.write_trace.result
    (λ last orig text held.
    let journal = with_more text output.Journal (lines_of c.args.events.now) in
    last orig (with_left_frames journal c.args.left.now) (c.in_ok-write_left.ensures.texts t orig journal (c.in_ok-write_events.ensures.texts t orig text held)))
    (c.write_trace.ensures.texts t)

pub returns-in_err-write_left-clause-only : goal.returns-in_err-write_left-clause-only
returns-in_err-write_left-clause-only g c = writes_then _ _ _ _ _ _ _ _ c.in_ok-write_events.ensures.only c.in_err-write_left.ensures.only

pub returns-clause-only : goal.returns-clause-only
returns-clause-only g c =
    writes_then _ _ _ _ _ _ _ _ (writes_then _ _ _ _ _ _ _ _ c.in_ok-write_events.ensures.only c.in_ok-write_left.ensures.only) c.write_trace.ensures.only

pub returns-in_err-write_events-clause-cut : goal.returns-in_err-write_events-clause-cut
returns-in_err-write_events-clause-cut g c = λ t.
    let e = err_from_is_err_and c.from_residual.result c.from_residual.ensures.1 in
    rw e.1
    (λ orig text held.
    let manifest = c.args.manifest.now in
    let file = g.S.Shelf.file c.write_events.new.shelf in
    let journal = with_more text output.Journal (lines_of c.args.events.now) in
    cut_more manifest orig file (with_left_frames journal c.args.left.now) output.Trace (trace_text c.args.lines.now)
    (cut_frames manifest orig file journal c.args.left.now (c.in_err-write_events.ensures.cut t orig text held)))

pub returns-in_err-write_left-clause-cut : goal.returns-in_err-write_left-clause-cut
returns-in_err-write_left-clause-cut g c = λ t.
    let e = err_from_is_err_and c.from_residual-in_err-write_left.result c.from_residual-in_err-write_left.ensures.1 in
    rw e.1
    (λ orig text held.
    let journal = with_more text output.Journal (lines_of c.args.events.now) in
    cut_more c.args.manifest.now orig (g.S.Shelf.file c.write_left.new.shelf) (with_left_frames journal c.args.left.now) output.Trace (trace_text c.args.lines.now)
    (c.in_err-write_left.ensures.cut t orig journal (c.in_ok-write_events.ensures.texts t orig text held)))

pub returns-clause-cut : goal.returns-clause-cut
returns-clause-cut g c = λ t.
    on_err_weaker c.write_trace.result
    (λ last orig text held.
    let journal = with_more text output.Journal (lines_of c.args.events.now) in
    last orig (with_left_frames journal c.args.left.now) (c.in_ok-write_left.ensures.texts t orig journal (c.in_ok-write_events.ensures.texts t orig text held)))
    (c.write_trace.ensures.cut t)

pub returns-clause-sent : goal.returns-clause-sent
returns-clause-sent g c =
    on_ok_weaker c.write_trace.result
    (λ same sent has.
    let manifest = c.args.manifest.now in
    let first = sent_same manifest c.args.outputs.now c.write_events.new.outputs sent c.in_ok-write_events.ensures.same has in
    sent_same manifest c.write_left.new.outputs c.write_trace.new.outputs (sent_with sent c.args.left.now) same (c.in_ok-write_left.ensures.sent sent first))
    c.write_trace.ensures.same

pub returns-in_err-write_left-clause-faults : goal.returns-in_err-write_left-clause-faults
returns-in_err-write_left-clause-faults g c =
    let e = err_from_is_err_and c.from_residual-in_err-write_left.result c.from_residual-in_err-write_left.ensures.1 in
    rw (e.1, e.2) (writes_from _ _ _ _ c.in_ok-write_events.ensures.faults.once c.in_err-write_left.ensures.faults)

pub returns-clause-faults : goal.returns-clause-faults
returns-clause-faults g c = writes_from c.write_trace.result _ _ _ (c.in_ok-write_left.ensures.faults.once ∙ c.in_ok-write_events.ensures.faults.once) c.write_trace.ensures.faults
