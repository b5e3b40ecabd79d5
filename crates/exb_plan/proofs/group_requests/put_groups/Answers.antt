use Rattle.std.proofs.Common.{◌∙◌, ◌++◌, [], ◌∷◌, ◌<◌, ◌≤◌, ℕ, List, map, take, get_or, length, sym, ap, arith}
use Rattle.std.specs.List.{flat_map}
use Rattle.std.proofs.lemmas.List.{take_all, take_more}
use Rattle.exb_model.specs.Tree.{by_depth}
use Rattle.exb_model.proofs.TreeLoops.{by_depth-range}
use Rattle.exb_csp.specs.declared.ask_at.AskAt.{AskAt}
use Rattle.exb_csp.specs.declared.group_rows.GroupRow.{GroupRow}
use Rattle.exb_control_spec.specs.Plans.ChangeRequests.{asks_with}
use Rattle.exb_control_spec.specs.Plans.FreshSets.{seen_group}
use Rattle.exb_plan.specs.PlanValues.{rows_of_covered}
use Rattle.exb_plan.specs.declared.group_requests.Covered.{Covered}
use Rattle.exb_plan.proofs.Lists.{flat_more}
use Rattle.exb_plan.proofs.RowSteps.{all_asks}
use Rattle.exb_plan.proofs.group_requests.put_groups.Goals as goal

pub rows_at-requires : goal.rows_at-requires
rows_at-requires c =
    let i = c.loop-extender.extender-index in
    let xs = by_depth c.args.tree.now in
    let within : i < length xs = rw c.order-extender-items.ensures at c.loop-extender-test.true in
    let range = by_depth-range c.args.tree.now i 0 within in
    rw c.order-extender-items.ensures (omega (arith, range.1))

pub loop-extender-preserved : goal.loop-extender-preserved
loop-extender-preserved c =
    let step = c.args.step in
    let covered = c.in_ok-covered.covered.items in
    let f : ℕ → List AskAt = λ n. asks_with step (rows_of_covered covered n) n in
    let xs = by_depth c.args.tree.now in
    let i = c.loop-extender.extender-index in
    let n = get_or c.order-extender-items.result.now i 0 in
    let within : i < length xs = rw c.order-extender-items.ensures at c.loop-extender-test.true in
    let rows = c.as_slice-in-loop-extender.ensures.value ∙ (c.in_ok-rows_at.ensures ∙ ap (λ (l : List Covered). rows_of_covered l n) c.as_slice.ensures.value) in
    let next = take_more xs i 0 within ∙ ap (λ (l : List ℕ). take i xs ++ get_or l i 0 ∷ []) (sym c.order-extender-items.ensures) in
    flat_more f (take i xs) n c.args.asks.now c.loop-extender.asks c.put_messages.new.asks c.loop-extender.invariant
    (c.in_ok-put_messages.ensures ∙ ap (λ (l : List GroupRow). c.loop-extender.asks ++ asks_with step l n) rows)
    ∙ ap (λ (l : List ℕ). c.args.asks.now ++ flat_map f l) (sym next)

pub returns : goal.returns
returns c =
    let t = c.args.tree.now in
    let step = c.args.step in
    let covered = c.in_ok-covered.covered.items in
    let f : ℕ → List AskAt = λ n. asks_with step (rows_of_covered covered n) n in
    let xs = by_depth t in
    let i = c.loop-extender.extender-index in
    let past : length xs ≤ i = rw c.order-extender-items.ensures at c.loop-extender-test.false in
    c.loop-extender.invariant
    ∙ (ap (λ (l : List ℕ). c.args.asks.now ++ flat_map f l) (take_all i xs past)
    ∙ ap (λ (l : List AskAt). c.args.asks.now ++ l) (all_asks t step (map seen_group c.args.groups.now) covered c.in_ok-covered.ensures))
