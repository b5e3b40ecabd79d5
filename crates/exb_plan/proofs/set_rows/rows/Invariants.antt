use Rattle.std.proofs.Common.{◌≡◌, take}
use Rattle.std.specs.List.{filter_map}
use Rattle.exb_model.specs.Ports.{port_in}
use Rattle.exb_model.specs.Tree.{by_depth}
use Rattle.exb_control_spec.specs.Plans.Rows.{row_of}
use Rattle.exb_plan.proofs.set_rows.rows.Given as goal

-- the rows of the extenders so far
abbrev pub invariant-loop-extender : goal.invariant-loop-extender
invariant-loop-extender l =
    l.rows.items ≡ filter_map (row_of l.tree (port_in l.set)) (take l.extender-index (by_depth l.tree))
