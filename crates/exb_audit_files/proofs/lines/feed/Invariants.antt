use Rattle.std.proofs.Common.{◌≤◌, ◌-◌, take, drop}
use Rattle.exb_audit_files.specs.LineFeeds.{CutsOn, IsOneLine}
use Rattle.exb_audit_files.proofs.lines.feed.Given as goal

abbrev pub invariant-bytes : goal.invariant-bytes
invariant-bytes g l = record {
  cut : CutsOn g.L.Line.reads l.fn.to l.to (take l.from l.piece);
  within : l.from ≤ l.at;
  part : IsOneLine (take (l.at - l.from) (drop l.from l.piece));
}
