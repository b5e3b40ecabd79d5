use Rattle.std.proofs.Common.{ℕ, ◌-◌, Bool, true, filter}
use Rattle.std.specs.List.{flat_map, range_with_len}
use Rattle.exb_model.specs.Tree.{Shape}
use Rattle.exb_model.specs.Refusals.{both_kinds}
use Rattle.exb_config.specs.Tables.{bridge_of}
use Rattle.exb_control_spec.specs.Plans.TouchedParts.{has_port}
use Rattle.exb_plan.specs.Branches.{AreBranches}
use Rattle.exb_plan.specs.Parts.{Adds}
use Rattle.exb_plan.proofs.touched_parts.add_vlans_with.Given as goal

-- the parts of the VLANs so far are put
abbrev pub invariant-loop-number : goal.invariant-loop-number
invariant-loop-number g l = record {
  before : (t : Shape) → (here : ℕ → Bool) → AreBranches t (bridge_of l.config) here l.branches →
      Adds t (bridge_of l.config) here
      (filter (has_port (bridge_of l.config) l.port) (flat_map (λ w. both_kinds w (λ q. true)) (range_with_len 1 (l.number - 1)))) l.fn.parts.before.items l.parts.before.items;
  later : (t : Shape) → (here : ℕ → Bool) → AreBranches t (g.V.View.bridge l.view) here l.branches_later →
      Adds t (g.V.View.bridge l.view) here
      (filter (has_port (bridge_of l.config) l.port) (flat_map (λ w. both_kinds w (λ q. true)) (range_with_len 1 (l.number - 1)))) l.fn.parts.later.items l.parts.later.items;
}
