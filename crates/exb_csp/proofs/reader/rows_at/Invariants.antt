use Rattle.std.proofs.Common.{◌≡◌, ◌-◌, ◌*◌, ◌++◌, length}
use Rattle.exb_csp.specs.Decoding.{rows_at}
use Rattle.exb_csp.proofs.reader.rows_at.Given as goal

abbrev pub invariant-rows : goal.invariant-rows
invariant-rows l = record {
  long : length l.rest ≡ 10 * (l.count - l.counter);
  counted : length l.rows ≡ l.counter;
  read : l.rows ++ rows_at (l.count - l.counter) l.rest ≡ rows_at l.fn.count l.fn.bytes;
}
