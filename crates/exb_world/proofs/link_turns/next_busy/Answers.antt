use Rattle.std.proofs.Common.{refl, subst}
use Rattle.std.proofs.lemmas.Option.{IfSome_then}
use Rattle.exb_model.specs.Tree.{IsTree}
use Rattle.exb_world_spec.specs.Worlds.{Up, Down}
use Rattle.exb_bridge.specs.BridgeWorlds.{world_in}
use Rattle.exb_bridge.proofs.DeepestFirst.{all_numbered, deepest_extends, depth_extends, few_by_depth, few_first}
use Rattle.exb_world.specs.MachineWorlds.{whole_of}
use Rattle.exb_world.proofs.LinkTurns.{turn_is}
use Rattle.exb_world.proofs.link_turns.next_busy.Goals as goal

pub first_busy-requires-clause-low : goal.first_busy-requires-clause-low
first_busy-requires-clause-low c =
    let t = c.args.site.now.tree in
    let tree : IsTree t = subst IsTree c.tree.ensures c.is_tree.ensures in
    rw c.upwards.ensures (all_numbered t _ tree (deepest_extends t))

pub first_busy-requires-clause-few : goal.first_busy-requires-clause-few
first_busy-requires-clause-few c = rw c.upwards.ensures (few_first c.args.site.now.tree)

pub first_busy-requires-clause-places : goal.first_busy-requires-clause-places
first_busy-requires-clause-places c = rw c.upwards.ensures c.upward_places.ensures

pub first_busy-requires-in-Down-clause-low : goal.first_busy-requires-in-Down-clause-low
first_busy-requires-in-Down-clause-low c =
    let t = c.args.site.now.tree in
    let tree : IsTree t = subst IsTree c.tree.ensures c.is_tree.ensures in
    rw c.downwards.ensures (all_numbered t _ tree (depth_extends t))

pub first_busy-requires-in-Down-clause-few : goal.first_busy-requires-in-Down-clause-few
first_busy-requires-in-Down-clause-few c = rw c.downwards.ensures (few_by_depth c.args.site.now.tree)

pub first_busy-requires-in-Down-clause-places : goal.first_busy-requires-in-Down-clause-places
first_busy-requires-in-Down-clause-places c = rw c.downwards.ensures c.downward_places.ensures

pub returns-in-Up-clause-found : goal.returns-in-Up-clause-found
returns-in-Up-clause-found c =
    let t = c.args.site.now.tree in
    rw c.in-Up.is (
    IfSome_then c.first_busy.result c.first_busy.ensures.found (λ turn one.
    turn_is t Up (world_in (whole_of c.args.core.now)) c.upwards.result.now c.args.core.now.up c.args.from turn c.upwards.ensures (λ n. refl) (rw c.upwards.ensures (deepest_extends t)) one))

pub returns-in-Down-clause-found : goal.returns-in-Down-clause-found
returns-in-Down-clause-found c =
    let t = c.args.site.now.tree in
    rw c.in-Down.is (
    IfSome_then c.first_busy-in-Down.result c.first_busy-in-Down.ensures.found (λ turn one.
    turn_is t Down (world_in (whole_of c.args.core.now)) c.downwards.result.now c.args.core.now.bridge.down c.args.from turn c.downwards.ensures (λ n. refl) (rw c.downwards.ensures (depth_extends t)) one))
