use Rattle.std.proofs.Common.{ℕ, Bool, take}
use Rattle.std.specs.List.{flat_map}
use Rattle.exb_model.specs.Tree.{Shape}
use Rattle.exb_config.specs.Tables.{bridge_of}
use Rattle.exb_plan.specs.Branches.{AreBranches}
use Rattle.exb_plan.specs.Parts.{Adds}
use Rattle.exb_plan.specs.TouchedSources.{entry_touched}
use Rattle.exb_plan.proofs.touched_parts.add_entries.Given as goal

-- the parts of the entries so far are put
abbrev pub invariant-loop-at : goal.invariant-loop-at
invariant-loop-at g l =
    (t : Shape) → (here : ℕ → Bool) → AreBranches t (g.V.View.bridge l.view) here l.branches →
    Adds t (g.V.View.bridge l.view) here
    (flat_map (entry_touched l.command (bridge_of l.config)) (take l.at (bridge_of l.config).statics)) l.fn.parts.items l.parts.items
