use Rattle.std.proofs.Common.{◌≡◌, take}
use Rattle.exb_topology.proofs.commands.copied.Given as goal

abbrev pub invariant-loop-verdict : goal.invariant-loop-verdict
invariant-loop-verdict l = l.copy ≡ take l.verdict-index l.fate
