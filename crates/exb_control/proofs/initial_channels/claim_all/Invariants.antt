use Rattle.std.proofs.Common.{◌≡◌}
use Rattle.exb_model.specs.Setup.{Limits}
use Rattle.exb_plan.specs.SpaceContents.{HasSpaces, held_by}
use Rattle.exb_plan.specs.PlanValues.{IsAlike}
use Rattle.exb_control_spec.specs.Plans.HeldNumbers.{in_spaces}
use Rattle.exb_control_spec.proofs.FirstClaims.{AreFirst, first_below}
use Rattle.exb_control.proofs.initial_channels.claim_all.Given as goal

-- the ports below this one have channels
abbrev pub invariant-loop-number : goal.invariant-loop-number
invariant-loop-number l = record {
  first : AreFirst l.tree (held_by l.spaces) l.number;
  held : (n : Limits) → HasSpaces l.tree n l.fn.spaces → in_spaces l.tree (held_by l.spaces) ≡ first_below l.tree n l.number;
  alike : IsAlike l.fn.spaces l.spaces;
}
