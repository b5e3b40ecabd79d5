use Rattle.std.proofs.Common.{sym}
use Rattle.std.proofs.lemmas.Result.{err_from_is_err_and}
use Rattle.exb_topology_tables.specs.Elements.{extender_item}
use Rattle.std.proofs.lemmas.List.Elements.{All-push}
use Rattle.exb_model.specs.Setup.{InRange}
use Rattle.exb_toml_keys.specs.Keys.{each, same_state}
use Rattle.toml.specs.View.{items_view}
use Rattle.exb_toml_keys.proofs.ItemLoops.{goes_on, ends, is_done}
use Rattle.exb_topology_tables.proofs.elements.extender_rows.Goals as goal

pub returns-in_err-row-clause-value : goal.returns-in_err-row-clause-value
returns-in_err-row-clause-value c =
    let p = err_from_is_err_and c.from_residual.result c.from_residual.ensures.1 in
    let total = each extender_item same_state tt 0 (items_view c.args.items.now) in
    rw (p.1, p.2) (ends extender_item same_state c.in_err-row.field-0.0 c.loop-index.rows c.args.items.now c.loop-index.index tt c.index-items-index.result total c.loop-index-test.true (sym c.index-items-index.is) c.in_err-row.ensures.value c.loop-index.invariant.so_far)

pub loop-index-preserved : goal.loop-index-preserved
loop-index-preserved c =
    let total = each extender_item same_state tt 0 (items_view c.args.items.now) in
    record {
      so_far = rw c.in_ok-push.ensures.ok (goes_on extender_item same_state c.loop-index.rows c.args.items.now c.loop-index.index tt c.index-items-index.result c.in_ok-row.row total c.loop-index-test.true (sym c.index-items-index.is) c.in_ok-row.ensures.value c.loop-index.invariant.so_far);
      range = rw c.in_ok-push.ensures.ok (All-push InRange c.loop-index.rows c.in_ok-row.row c.loop-index.invariant.range c.in_ok-row.ensures.range);
    }

pub returns-clause-value : goal.returns-clause-value
returns-clause-value c =
    let total = each extender_item same_state tt 0 (items_view c.args.items.now) in
    is_done extender_item same_state c.loop-index.rows c.args.items.now c.loop-index.index tt total c.loop-index-test.false c.loop-index.invariant.so_far
