use Rattle.std.proofs.Common.{ap, ◌∙◌, arith}
use Rattle.exb_capture.specs.ReaderAnswers.{stage_of}
use Rattle.exb_capture.specs.ReaderMachine.{gone}
use Rattle.exb_capture.proofs.BufferLemmas.{gone_view}
use Rattle.exb_capture.proofs.reader.Reader.go.Goals as goal

pub returns : goal.returns
returns g c =
    let i = c.self.inside in
    gone_view (stage_of i.failed i.format) i.place i.buffer.items i.start i.end i.owing i.begun c.min-n.result c.self.invariant.1 (omega (arith, c.self.invariant.0, c.self.invariant.2)) c.min-n.ensures
    ∙ ap gone c.self.view_is
