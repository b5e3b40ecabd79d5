use Rattle.std.proofs.Common.{◌≡◌, ◌-◌, map, fold, true}
use Rattle.std.specs.List.{flat_map, range_with_len}
use Rattle.exb_model.specs.Tree.{Shape}
use Rattle.exb_model.specs.Refusals.{both_kinds}
use Rattle.exb_config.specs.Tables.{bridge_of}
use Rattle.exb_plan.specs.Branches.{AreBranches}
use Rattle.exb_control_spec.specs.Plans.Sets.{seen, with_set_at, parts_below}
use Rattle.exb_plan.proofs.group_sets.put_vlans.Given as goal

-- the parts of the VLANs so far are put
abbrev pub invariant-loop-number : goal.invariant-loop-number
invariant-loop-number l =
    (t : Shape) → AreBranches t (bridge_of l.config) (λ k. true) l.branches →
    map seen l.sets.keys ≡ fold with_set_at (map seen l.fn.sets.keys)
    (flat_map (parts_below t (bridge_of l.config)) (flat_map (λ v. both_kinds v (λ q. true)) (range_with_len 1 (l.number - 1))))
