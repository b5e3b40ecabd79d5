use Rattle.std.proofs.Common.{◌≤◌}
use Rattle.exb_topology_tables.specs.Commands.{command_item, after_command}
use Rattle.exb_toml_keys.specs.Keys.{each}
use Rattle.toml.specs.View.{items_view}
use Rattle.exb_toml_keys.proofs.ItemLoops.{So}
use Rattle.exb_topology_tables.proofs.commands.command_rows.Given as goal

abbrev pub invariant-loop-index : goal.invariant-loop-index
invariant-loop-index l = record {
  so_far : So command_item after_command l.items l.index (l.before, l.letters) l.rows (each command_item after_command (0, l.before_all) 0 (items_view l.items));
  room : l.letters ≤ 60000;
}
