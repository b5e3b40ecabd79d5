use Rattle.std.proofs.Common.{◌∙◌, ap, map, Ok}
use Rattle.exb_capture.specs.Captures.{capture_records}
use Rattle.exb_make.specs.GeneratedParts.{frame_of, sent_at}
use Rattle.exb_make.proofs.CaptureContents.{can_be_written, read-records}
use Rattle.exb_make.proofs.captures.capture_of.Goals as goal

pub returns-clause-read : goal.returns-clause-read
returns-clause-read c =
    let fs = map frame_of c.args.arrived.now in
    ap (λ r. (c.args.port, r))
    (ap capture_records c.in_ok-file.ensures.file
    ∙ (c.written_is_read.ensures.either (sent_at fs c.args.port) (can_be_written fs c.args.port c.requires) ∙ ap Ok (read-records fs c.args.port c.requires)))
