use Rattle.std.proofs.Common.{sym, arith, ◌∙◌}
use Rattle.exb_frame.proofs.TagLemmas.{more_none, other_none, short_none, tag_is, word_is}
use Rattle.exb_frame.proofs.etag.ETag.read.Goals as goal
use Rattle.exb_frame.proofs.etag.ETag.read.Goals.{then-read_u16-via-then-read_u16, then-read_u16-via-else-read_u16+then-read_u16-ne0}

-- it is too short
pub returns-then-frame-lt20 : goal.returns-then-frame-lt20
returns-then-frame-lt20 c = short_none c.args.frame.now c.if-frame-lt20.true

-- another type, or an extension byte that isn't 0
pub returns-then-read_u16 : goal.returns-then-read_u16
returns-then-read_u16 c =
    let f = c.args.frame.now in
    let long = c.if-frame-lt20.false in
    elim c.then-read_u16.branch [
      | then-read_u16-via-then-read_u16 w ↦ other_none f c.read_u16.result (word_is f _ c.read_u16.result long (omega arith) c.read_u16.ensures) w.if-read_u16.true
      | then-read_u16-via-else-read_u16+then-read_u16-ne0 w ↦
          more_none f w.read_u16-else-read_u16.result (word_is f _ w.read_u16-else-read_u16.result long (omega arith) w.read_u16-else-read_u16.ensures) w.if-read_u16-ne0.true
    ]

-- an E-TAG
pub returns : goal.returns
returns c =
    let f = c.args.frame.now in
    let long = c.if-frame-lt20.false in
    tag_is f c.read_u16-first.result c.read_u16-second.result long
    (sym (word_is f _ c.read_u16.result long (omega arith) c.read_u16.ensures) ∙ c.if-read_u16.false)
    (sym (word_is f _ c.read_u16-else-read_u16.result long (omega arith) c.read_u16-else-read_u16.ensures) ∙ c.if-read_u16-ne0.false)
    (word_is f _ c.read_u16-first.result long (omega arith) c.read_u16-first.ensures)
    (word_is f _ c.read_u16-second.result long (omega arith) c.read_u16-second.ensures)
