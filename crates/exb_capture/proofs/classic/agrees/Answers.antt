use Rattle.std.proofs.Common.{◌∙◌}
use Rattle.std.specs.Prelude.{◌&&◌}
use Rattle.exb_capture.proofs.MagicNumbers.{agrees_by}
use Rattle.exb_capture.proofs.classic.agrees.Goals as goal

pub returns : goal.returns
returns c =
    (λ i. ((c.byte_agrees-first.ensures i && c.byte_agrees-second.ensures i) && c.byte_agrees-third.ensures i) && c.byte_agrees-fourth.ensures i)
    ∙ agrees_by c.args.a c.args.b c.args.c c.args.d c.args.bytes.now
