use Rattle.std.proofs.Common.{◌≡◌, false, subst}
use Rattle.std.specs.Prelude.{IfOk}
use Rattle.std.proofs.lemmas.Result.{IfOk-weaker}
use Rattle.exb_control_spec.specs.PlannedExchanges.{planned}
use Rattle.exb_control_spec.specs.Decisions.{decide}
use Rattle.exb_control.specs.Controls.{decide_of, state_of}
use Rattle.exb_world.specs.WorldContracts.{Network, bounds_of, tree_of, world_of}
use Rattle.exb_bridge.specs.TreeIndexes.{limits_in}
use Rattle.exb_world.proofs.WorldInvariant.{planned_at}
use Rattle.exb_world.proofs.world.World.planned.Goals as goal

pub returns : goal.returns
returns c =
    let w = c.self.inside in
    subst (λ (n : Network). n.failed ≡ false → IfOk c.planned.result (λ count. count ≡ planned (tree_of n) (decide (tree_of n) (bounds_of n)) (world_of n).control)) c.self.view_is
    (λ awake. IfOk-weaker c.planned.result (λ count. count ≡ planned w.core.bridge.control.active.shape (decide_of w.core.bridge.control.active) (state_of w.core.bridge.control))
    (λ count. count ≡ planned w.site.tree (decide w.site.tree (limits_in w.site)) (state_of w.core.bridge.control)) (λ count is. planned_at w.site w.core (state_of w.core.bridge.control) count (c.self.invariant awake).at is) c.planned.ensures.count)
