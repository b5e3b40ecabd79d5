use Rattle.std.specs.Prelude.{All, take}
use Rattle.std.proofs.lemmas.List.{take_all}
use Rattle.std.proofs.lemmas.List.Elements.{All-push}
use Rattle.exb_audit.specs.Frames.{IsFramed}
use Rattle.exb_audit.proofs.TextCuts.{item_more}
use Rattle.exb_audit.proofs.FrameTables.{frames_fit}
use Rattle.std.proofs.Common.{sym, subst, arith}
use Rattle.exb_audit.proofs.judgement.are_frames.Goals as goal

pub loop-one-preserved : goal.loop-one-preserved
loop-one-preserved c =
    let ok = c.one-item.result.frames.ok.0 in
    let n = c.len-count.ensures in
    let fits = c.len-count.type_inv in
    subst (All IsFramed) (sym (item_more c.args.all.now c.loop-one.one-index c.one-item.result c.one-item.is c.loop-one-test.true))
    (All-push IsFramed (take c.loop-one.one-index c.args.all.now) c.one-item.result c.loop-one.invariant (c.number-number.ensures.range, omega (arith, ok, n, fits)))

pub returns : goal.returns
returns c = frames_fit c.args.all.now (subst (All IsFramed) (take_all c.loop-one.one-index c.args.all.now c.loop-one-test.false) c.loop-one.invariant)
