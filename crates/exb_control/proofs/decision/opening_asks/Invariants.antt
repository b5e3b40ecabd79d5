use Rattle.std.proofs.Common.{◌≡◌, ◌*◌, ◌∷◌}
use Rattle.std.specs.List.{flat_map, range_with_len}
use Rattle.exb_csp.specs.declared.message.Request.TheVariants.{Open}
use Rattle.exb_control_spec.specs.Plans.ChangeRequests.{ask}
use Rattle.exb_plan.specs.SpaceContents.{held_by}
use Rattle.exb_control_spec.specs.Decisions.{cascade_asks}
use Rattle.exb_control.proofs.decision.opening_asks.Given as goal

-- the ports so far
abbrev pub invariant-loop-place : goal.invariant-loop-place
invariant-loop-place l = l.asks ≡ ask l.extender Open ∷ flat_map (cascade_asks l.tree (held_by l.spaces)) (range_with_len (64 * l.extender) l.place)
