use Rattle.std.proofs.Common.{◌≡◌, ◌∙◌, ap, sym, ℕ, ◌+◌, ◌*◌, ◌<◌, ◌≤◌, length, slice_index, arith, List}
use Rattle.std.proofs.lemmas.List.{take_all}
use Rattle.exb_model.specs.Ports.{port_in}
use Rattle.exb_model.specs.Tree.{by_depth}
use Rattle.exb_model.specs.TreeSets.{covers, mask_of}
use Rattle.exb_model.proofs.TreeLoops.{by_depth-range}
use Rattle.exb_model.proofs.MaskLemmas.{bits_of-same}
use Rattle.exb_plan.proofs.RowLists.{rows_are, row_in, row_out}
use Rattle.exb_plan.proofs.set_rows.rows.Goals as goal
use Rattle.exb_plan.proofs.set_rows.rows.Goals.{then-mask-ne0+in_ok-push, else-mask-ne0}

pub mask-mask-requires : goal.mask-mask-requires
mask-mask-requires c =
    let i = c.loop-extender.extender-index in
    let xs = by_depth c.args.tree.now in
    let within : i < length xs = rw c.order-extender-items.ensures at c.loop-extender-test.true in
    let range = by_depth-range c.args.tree.now i 0 within in
    rw c.order-extender-items.ensures (omega (arith, range.1))

pub loop-extender-preserved : goal.loop-extender-preserved
loop-extender-preserved c =
    let t = c.args.tree.now in
    let set = port_in c.args.set.now in
    let i = c.loop-extender.extender-index in
    let xs = by_depth t in
    let within : i < length xs = rw c.order-extender-items.ensures at c.loop-extender-test.true in
    let n = slice_index xs i in
    let there : slice_index c.order-extender-items.result.now i ≡ n = ap (λ (ys : List ℕ). slice_index ys i) c.order-extender-items.ensures in
    let is_mask : c.mask-mask.result ≡ mask_of t set n =
    c.mask-mask.ensures ∙ (rw there (bits_of-same (λ j. port_in c.covered-covered.result (64 * n + j)) (λ j. covers t set (64 * n + j)) 64 (λ j. c.covered-covered.ensures (64 * n + j)))) in
    elim c.if-mask-ne0.branch [
      | then-mask-ne0+in_ok-push w ↦
          rw (w.rows-is, w.in_ok-push.ensures.items, there)
          (row_in t set xs i within c.mask-mask.result c.loop-extender.rows.items is_mask w.if-mask-ne0.true c.loop-extender.invariant)
      | else-mask-ne0 w ↦
          rw w.rows-is
          (row_out t set xs i within c.mask-mask.result c.loop-extender.rows.items is_mask w.if-mask-ne0.false c.loop-extender.invariant)
    ]

pub returns : goal.returns
returns c =
    let t = c.args.tree.now in
    let set = port_in c.args.set.now in
    let past : length (by_depth t) ≤ c.loop-extender.extender-index = rw c.order-extender-items.ensures at c.loop-extender-test.false in
    c.loop-extender.invariant ∙ (rw (take_all c.loop-extender.extender-index (by_depth t) past) (sym (rows_are t set)))
