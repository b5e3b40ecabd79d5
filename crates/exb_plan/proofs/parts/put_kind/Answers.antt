use Rattle.exb_model.specs.Refusals.{Source}
use Rattle.exb_plan.proofs.PartLists.{kind_part}
use Rattle.exb_plan.proofs.parts.put_kind.Goals as goal

pub returns : goal.returns
returns g c t here test branches is_among =
    let b = g.V.View.bridge c.args.view.now in
    let x : Source = record { vid = c.args.vid; kind = c.args.kind; among = test } in
    c.put_all.ensures t b here x branches (kind_part t b c.args.vid c.args.kind test c.args.among.now c.part-members.result is_among c.part-members.ensures)
