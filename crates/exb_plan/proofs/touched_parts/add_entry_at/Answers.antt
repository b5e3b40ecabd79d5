use Rattle.std.proofs.Common.{sym}
use Rattle.exb_plan.proofs.PartLists.{adds_none, adds_same}
use Rattle.exb_plan.proofs.touched_parts.add_entry_at.Goals as goal

pub returns-then-not-may_touch : goal.returns-then-not-may_touch
returns-then-not-may_touch g c t here e branches found vid =
    let d = g.V.View.bridge c.args.view.now in
    adds_same t d here _ _ c.args.parts.now.items c.args.parts.now.items (sym (c.may_touch.ensures e vid c.if-not-may_touch.true)) (adds_none t d here c.args.parts.now.items)
