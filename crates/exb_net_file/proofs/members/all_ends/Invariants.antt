use Rattle.std.proofs.Common.{◌≡◌, ◌++◌, [], drop, map}
use Rattle.exb_topology.specs.Checks.{output_names}
use Rattle.exb_net_file.specs.Members.{tree_in}
use Rattle.exb_net_file.proofs.members.all_ends.Given as goal

abbrev pub invariant-loop-member : goal.invariant-loop-member
invariant-loop-member l = l.all ++ map (λ m. output_names [] (tree_in m)) (drop l.member-index l.members) ≡ map (λ m. output_names [] (tree_in m)) l.members
