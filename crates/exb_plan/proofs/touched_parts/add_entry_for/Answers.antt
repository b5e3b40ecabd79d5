use Rattle.std.proofs.Common.{◌∙◌, sym}
use Rattle.exb_plan.proofs.PartLists.{adds_none}
use Rattle.exb_plan.proofs.touched_parts.add_entry_for.Goals as goal

pub returns-else-is_for : goal.returns-else-is_for
returns-else-is_for g c t here branches =
    let d = g.V.View.bridge c.args.view.now in
    rw (sym c.is_for.ensures ∙ c.if-is_for.false) (adds_none t d here c.args.parts.now.items)
