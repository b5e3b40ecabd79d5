use Rattle.std.proofs.Common.{◌≡◌, ◌++◌, length, map}
use Rattle.std.specs.Prelude.{reverse}
use Rattle.exb_net_file.specs.SetupParts.{rest_of, setup_in}
use Rattle.exb_net_file.proofs.net_parts.part_all.Given as goal

-- The parts so far and those of what is left are all.
abbrev pub invariant-loop-member : goal.invariant-loop-member
invariant-loop-member l = record {
  setups : l.setups ++ map setup_in (reverse l.back) ≡ l.fn.setups ++ map setup_in (reverse l.fn.back);
  rests : l.rests ++ map rest_of (reverse l.back) ≡ l.fn.rests ++ map rest_of (reverse l.fn.back);
}

abbrev pub decreases-loop-member : goal.decreases-loop-member
decreases-loop-member l = length l.back
