use Rattle.std.proofs.Common.{◌∙◌, sym, ap, arith, length}
use Rattle.exb_make.specs.GeneratedParts.{frame_of, IsPlayable}
use Rattle.exb_make.proofs.CaptureContents.{capture-none, capture-yes, capture-no, capture-all, passes, small-capture}
use Rattle.exb_make.proofs.captures.file_of.Goals as goal
use Rattle.exb_make.proofs.captures.file_of.Goals.{then-eq+in_ok-add_record, else-eq}

pub loop-arriving-init : goal.loop-arriving-init
loop-arriving-init c = c.in_ok-file.ensures.items ∙ (c.header_text.ensures ∙ capture-none c.args.port)

pub loop-arriving-preserved : goal.loop-arriving-preserved
loop-arriving-preserved c =
    let xs = c.args.arrived.now in
    let i = c.loop-arriving.arriving-index in
    let x = c.arriving-item.result in
    elim c.if-eq.branch [
      | then-eq+in_ok-add_record w ↦
          rw w.file-is (capture-yes frame_of xs i x c.loop-arriving-test.true c.arriving-item.is c.args.port c.loop-arriving.file.items w.add_record.new.file.items
          (sym c.eq.ensures ∙ w.if-eq.true) c.loop-arriving.invariant w.in_ok-add_record.ensures)
      | else-eq w ↦
          rw w.file-is (capture-no frame_of xs i x c.loop-arriving-test.true c.arriving-item.is c.args.port c.loop-arriving.file.items (sym c.eq.ensures ∙ w.if-eq.false) c.loop-arriving.invariant)
    ]

pub add_record-requires : goal.add_record-requires
add_record-requires c = passes frame_of c.args.arrived.now c.loop-arriving.arriving-index c.arriving-item.result c.loop-arriving-test.true c.arriving-item.is IsPlayable c.requires

pub returns-clause-file : goal.returns-clause-file
returns-clause-file c = capture-all frame_of c.args.arrived.now c.loop-arriving.arriving-index c.args.port c.loop-arriving.file.items c.loop-arriving-test.false c.loop-arriving.invariant

pub returns-clause-small : goal.returns-clause-small
returns-clause-small c =
    let is = capture-all frame_of c.args.arrived.now c.loop-arriving.arriving-index c.args.port c.loop-arriving.file.items c.loop-arriving-test.false c.loop-arriving.invariant in
    let l = small-capture frame_of c.args.arrived.now c.args.port c.requires in
    let n = ap length is in
    omega (arith, l, n)
