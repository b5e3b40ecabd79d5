use Rattle.std.proofs.Common.{◌++◌, codes}
use Rattle.exb_model.specs.Setup.{IsValid}
use Rattle.exb_toml_keys.specs.declared.faults.KeyFault.TheVariants as fault
use Rattle.exb_toml_keys.specs.Faults.{in_table}
use Rattle.exb_topology.proofs.ElementChecks.{when_passed}
use Rattle.exb_topology.proofs.ValidSetups.{few_is, tree_ok_is}
use Rattle.exb_topology.proofs.trees.check_tree.Goals as goal

pub returns : goal.returns
returns c =
    let s = c.args.setup.now in
    let hung_ok = rw c.as_slice.ensures at c.in_ok-check_hung.ensures in
    let rooted_ok = c.in_ok-check_rooted.ensures in
    record {
      value = rw (tree_ok_is s hung_ok rooted_ok, few_is s c.valid-few.result c.valid-few.ensures c.requires.ranges c.requires.bare hung_ok rooted_ok) c.refuse.ensures;
      valid = when_passed (IsValid s) c.refuse.result c.valid-few.result fault.FewChannels (in_table (codes "bridge") ++ codes "channels") c.refuse.ensures c.valid-few.ensures.0;
    }
