use Rattle.std.proofs.Common.{◌≡◌, true, map, fold, take}
use Rattle.std.specs.List.{flat_map}
use Rattle.exb_model.specs.Ports.{port_in}
use Rattle.exb_model.specs.Tree.{Shape}
use Rattle.exb_model.specs.Refusals.{both_kinds}
use Rattle.exb_config.specs.Tables.{bridge_of}
use Rattle.exb_plan.specs.Branches.{AreBranches}
use Rattle.exb_control_spec.specs.Plans.Sets.{seen, with_set_at, parts_below}
use Rattle.exb_plan.proofs.group_sets.put_statics.Given as goal

-- the parts of the entries so far are put
abbrev pub invariant-loop-at : goal.invariant-loop-at
invariant-loop-at l =
    (t : Shape) → AreBranches t (bridge_of l.config) (λ k. true) l.branches →
    map seen l.sets.keys ≡ fold with_set_at (map seen l.fn.sets.keys)
    (flat_map (parts_below t (bridge_of l.config)) (flat_map (λ e. both_kinds e.vid (port_in e.ports)) (take l.at (bridge_of l.config).statics)))
