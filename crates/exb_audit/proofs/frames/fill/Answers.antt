use Rattle.std.specs.Prelude.{take, if◌then◌else◌, ◌==◌, slice_index, slice_set}
use Rattle.std.proofs.lemmas.List.{length-take-le}
use Rattle.exb_audit.specs.Frames.{IsTable}
use Rattle.exb_audit.proofs.TextCuts.{item_more}
use Rattle.exb_audit.proofs.FrameTables.{table_more}
use Rattle.std.proofs.Common.{◌+◌, sym, subst, arith}
use Rattle.exb_audit.proofs.frames.fill.Goals as goal

pub loop-i-preserved : goal.loop-i-preserved
loop-i-preserved c =
    let l = c.loop-i-test.true in
    let long = length-take-le c.loop-i.i c.args.all.now (omega (arith, l)) in
    subst (λ ts. IsTable (take (c.loop-i.i + 1) c.args.all.now) ts) (sym c.note.ensures.set)
    (subst (λ xs. IsTable xs (if slice_index c.loop-i.table c.index-all-i.result.port == 0 then slice_set c.loop-i.table c.index-all-i.result.port (c.loop-i.i + 1) else c.loop-i.table))
    (sym (item_more c.args.all.now c.loop-i.i c.index-all-i.result c.index-all-i.is c.loop-i-test.true))
    (table_more (take c.loop-i.i c.args.all.now) c.index-all-i.result c.loop-i.table c.loop-i.i long c.note.ensures.low c.loop-i.invariant))
