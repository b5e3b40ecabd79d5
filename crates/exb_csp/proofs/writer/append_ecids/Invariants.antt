use Rattle.std.proofs.Common.{◌≡◌, ◌+◌, ◌*◌, ◌++◌, length, take}
use Rattle.std.specs.List.{flat_map}
use Rattle.exb_csp.specs.Encoding.{ecid_bytes}
use Rattle.exb_csp.proofs.writer.append_ecids.Given as goal

abbrev pub invariant-ecids : goal.invariant-ecids
invariant-ecids l = record {
  written : l.out.items ≡ l.fn.out.items ++ flat_map ecid_bytes (take l.ecid-index l.ecids);
  long : length l.out.items ≡ length l.fn.out.items + 2 * l.ecid-index;
}
