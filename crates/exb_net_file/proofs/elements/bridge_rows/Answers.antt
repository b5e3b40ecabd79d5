use Rattle.std.proofs.Common.{sym}
use Rattle.std.proofs.lemmas.Result.{err_from_is_err_and}
use Rattle.exb_net_file.specs.Elements.{bridge_item}
use Rattle.exb_toml_keys.specs.Keys.{each, same_state}
use Rattle.toml.specs.View.{items_view}
use Rattle.exb_toml_keys.proofs.ItemLoops.{goes_on, ends, is_done}
use Rattle.exb_net_file.proofs.elements.bridge_rows.Goals as goal

pub returns-in_err-row : goal.returns-in_err-row
returns-in_err-row c =
    let p = err_from_is_err_and c.from_residual.result c.from_residual.ensures.1 in
    let total = each bridge_item same_state tt 0 (items_view c.args.items.now) in
    rw (p.1, p.2) (ends bridge_item same_state c.in_err-row.field-0.0 c.loop-index.rows c.args.items.now c.loop-index.index tt c.index-items-index.result total c.loop-index-test.true (sym c.index-items-index.is) c.in_err-row.ensures c.loop-index.invariant)

pub loop-index-preserved : goal.loop-index-preserved
loop-index-preserved c =
    let total = each bridge_item same_state tt 0 (items_view c.args.items.now) in
    rw c.in_ok-push.ensures.ok (goes_on bridge_item same_state c.loop-index.rows c.args.items.now c.loop-index.index tt c.index-items-index.result c.in_ok-row.row total c.loop-index-test.true (sym c.index-items-index.is) c.in_ok-row.ensures c.loop-index.invariant)

pub returns : goal.returns
returns c =
    let total = each bridge_item same_state tt 0 (items_view c.args.items.now) in
    is_done bridge_item same_state c.loop-index.rows c.args.items.now c.loop-index.index tt total c.loop-index-test.false c.loop-index.invariant
