use Rattle.std.proofs.Common.{◌≡◌, ◌-◌, ◌*◌, ◌++◌, length}
use Rattle.exb_csp.specs.Decoding.{ecids_at}
use Rattle.exb_csp.proofs.reader.ecids_at.Given as goal

abbrev pub invariant-ecids : goal.invariant-ecids
invariant-ecids l = record {
  long : length l.rest ≡ 2 * (l.count - l.counter);
  counted : length l.ecids ≡ l.counter;
  read : l.ecids ++ ecids_at (l.count - l.counter) l.rest ≡ ecids_at l.fn.count l.fn.bytes;
}
