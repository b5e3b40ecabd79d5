use Rattle.std.proofs.Common.{sym}
use Rattle.std.proofs.lemmas.Result.{err_from_is_err_and}
use Rattle.exb_topology_tables.specs.Commands.{command_item, after_command}
use Rattle.exb_toml_keys.specs.Keys.{each}
use Rattle.toml.specs.View.{items_view}
use Rattle.exb_toml_keys.proofs.ItemLoops.{goes_on, ends, is_done}
use Rattle.exb_topology_tables.proofs.commands.command_rows.Goals as goal

pub returns-in_err-row : goal.returns-in_err-row
returns-in_err-row c =
    let p = err_from_is_err_and c.from_residual.result c.from_residual.ensures.1 in
    let total = each command_item after_command (0, c.args.before_all) 0 (items_view c.args.items.now) in
    rw (p.1, p.2) (ends command_item after_command c.in_err-row.field-0.0 c.loop-index.rows c.args.items.now c.loop-index.index (c.loop-index.before, c.loop-index.letters) c.index-items-index.result total c.loop-index-test.true (sym c.index-items-index.is) c.in_err-row.ensures.value c.loop-index.invariant.so_far)

pub loop-index-preserved : goal.loop-index-preserved
loop-index-preserved c =
    let total = each command_item after_command (0, c.args.before_all) 0 (items_view c.args.items.now) in
    record {
      so_far = rw (c.in_ok-push.ensures.ok, c.as_slice.ensures) (goes_on command_item after_command c.loop-index.rows c.args.items.now c.loop-index.index (c.loop-index.before, c.loop-index.letters) c.index-items-index.result c.in_ok-row.row total c.loop-index-test.true (sym c.index-items-index.is) c.in_ok-row.ensures.value c.loop-index.invariant.so_far);
      room = rw c.as_slice.ensures c.in_ok-row.ensures.room;
    }

pub returns : goal.returns
returns c =
    let total = each command_item after_command (0, c.args.before_all) 0 (items_view c.args.items.now) in
    is_done command_item after_command c.loop-index.rows c.args.items.now c.loop-index.index (c.loop-index.before, c.loop-index.letters) total c.loop-index-test.false c.loop-index.invariant.so_far
