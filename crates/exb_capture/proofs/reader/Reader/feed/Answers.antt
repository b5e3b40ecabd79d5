use Rattle.std.proofs.Common.{◌≤◌, ◌+◌, length, ap, ◌∙◌, arith, rules}
use Rattle.std.proofs.lemmas.List.{with_items_is, places}
use Rattle.exb_capture.specs.ReaderAnswers.{stage_of}
use Rattle.exb_capture.specs.ReaderMachine.{fed}
use Rattle.exb_capture.proofs.BufferLemmas.{view_of, fed_view}
use Rattle.exb_capture.proofs.reader.Reader.feed.Goals as goal

pub returns-clause-left : goal.returns-clause-left
returns-clause-left g c =
    let i = c.self.inside in
    let n = c.min-size.result in
    let s = stage_of i.failed i.format in
    let bytes = c.as_mut_slice.result.now in
    let few : n ≤ length c.args.piece.now = omega (arith, c.min-size.ensures) in
    let within : i.end ≤ length bytes = omega (arith, ap length c.as_mut_slice.ensures.value) in
    ap (λ b. view_of s i.place b i.start (i.end + n) i.owing i.begun) (with_items_is i.buffer _ (search (rules, places)))
    ∙ fed_view s i.place bytes c.copy_from_slice.new.self _ c.args.piece.now i.start i.end i.owing i.begun n (omega arith) within few c.copy_from_slice.ensures.after
    ∙ ap (λ b. fed n c.args.piece.now (view_of s i.place b i.start i.end i.owing i.begun)) c.as_mut_slice.ensures.value
    ∙ ap (fed n c.args.piece.now) c.self.view_is
