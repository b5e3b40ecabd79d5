use Rattle.std.proofs.Common.{◌≡◌, ◌+◌, ◌*◌, ◌++◌, length, take}
use Rattle.std.specs.List.{flat_map}
use Rattle.exb_csp.specs.Encoding.{row_bytes}
use Rattle.exb_csp.proofs.writer.append_rows.Given as goal

abbrev pub invariant-rows : goal.invariant-rows
invariant-rows l = record {
  written : l.out.items ≡ l.fn.out.items ++ flat_map row_bytes (take l.row-index l.rows);
  long : length l.out.items ≡ length l.fn.out.items + 10 * l.row-index;
}
