use Rattle.std.proofs.Common.{◌≡◌, ◌-◌, ◌++◌, ℕ, Bool, map, filter}
use Rattle.std.specs.List.{flat_map}
use Rattle.exb_model.specs.Ports.{below}
use Rattle.exb_model.specs.Tree.{Shape}
use Rattle.exb_model.specs.Configuration.{Bridge}
use Rattle.exb_model.specs.Refusals.{Source}
use Rattle.exb_plan.specs.Branches.{AreBranches, IsPart}
use Rattle.exb_control_spec.specs.Plans.Sets.{seen, parts_of}
use Rattle.exb_plan.specs.Parts.{has_ports}
use Rattle.exb_plan.proofs.parts.put_all.Given as goal

-- the parts at the bridge ports so far are put
abbrev pub invariant-loop-bridge_port : goal.invariant-loop-bridge_port
invariant-loop-bridge_port l =
    (t : Shape) → (b : Bridge) → (here : ℕ → Bool) → (x : Source) → AreBranches t b here l.branches → IsPart t b x l.members →
    map seen l.parts.items ≡ map seen l.fn.parts.items ++ filter has_ports (flat_map (parts_of t b x) (filter here (below (l.bridge_port - 1))))
