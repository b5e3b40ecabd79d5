use Rattle.std.proofs.Common.{◌∙◌, List, map, take, sym, ap, refl}
use Rattle.exb_control_spec.specs.Plans.HeldNumbers.{Group}
use Rattle.exb_control_spec.specs.Plans.ChangeRequests.{rows_at}
use Rattle.exb_control_spec.specs.Plans.FreshSets.{seen_group}
use Rattle.exb_plan.proofs.Lists.{image_next}
use Rattle.exb_plan.proofs.RowSteps.{covered_more}
use Rattle.exb_plan.proofs.group_requests.cover_all.Goals as goal

pub loop-group-preserved : goal.loop-group-preserved
loop-group-preserved c n =
    let t = c.args.tree.now in
    let i = c.loop-group.group-index in
    let x = c.group-item.result in
    covered_more t n c.loop-group.covered.items c.push.new.self.items (map seen_group (take i c.args.groups.now)) (record { number = x.number; ports = c.covered.result }) x
    c.in_ok-push.ensures.items refl c.covered.ensures (c.loop-group.invariant n)
    ∙ ap (λ (l : List Group). rows_at t l n) (sym (image_next seen_group c.args.groups.now i x c.loop-group-test.true c.group-item.is))
