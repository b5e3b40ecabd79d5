use Rattle.std.proofs.Common.{◌∙◌, List, take, sym, ap}
use Rattle.exb_plan.specs.declared.group_requests.Covered.{Covered}
use Rattle.exb_plan.specs.PlanValues.{rows_of_covered}
use Rattle.exb_plan.proofs.Lists.{taken_next}
use Rattle.exb_plan.proofs.RowSteps.{rows_some, rows_none}
use Rattle.exb_plan.proofs.group_requests.rows_at.Goals as goal
use Rattle.exb_plan.proofs.group_requests.rows_at.Goals.{in-Some+in_ok-push, in_default}

pub loop-group-preserved : goal.loop-group-preserved
loop-group-preserved c =
    let n = c.args.extender in
    let i = c.loop-group.group-index in
    let x = c.group-item.result in
    let xs = take i c.args.covered.now in
    let next = ap (λ (l : List Covered). rows_of_covered l n) (sym (taken_next c.args.covered.now i x c.loop-group-test.true c.group-item.is)) in
    elim c.match-row.branch [
      | in-Some+in_ok-push w ↦
          rw w.rows-is (rows_some n xs x w.in-Some.row c.loop-group.rows.items w.push.new.self.items (sym c.row.ensures ∙ w.in-Some.is) c.loop-group.invariant w.in_ok-push.ensures.items ∙ next)
      | in_default w ↦ rw w.rows-is (rows_none n xs x c.loop-group.rows.items (sym c.row.ensures ∙ w.in_default.is) c.loop-group.invariant ∙ next)
    ]
