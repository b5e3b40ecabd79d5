use Rattle.exb_bridge.proofs.DeepestFirst.{all_low, depth_extends, few_by_depth}
use Rattle.exb_bridge.proofs.ExtenderPlaces.{depth_once}
use Rattle.exb_bridge.proofs.extender_order.downward_places.Goals as goal

pub places_in-requires-clause-low : goal.places_in-requires-clause-low
places_in-requires-clause-low c = rw c.order.ensures (all_low c.args.tree.now _ c.is_tree.ensures (depth_extends c.args.tree.now))

pub places_in-requires-clause-few : goal.places_in-requires-clause-few
places_in-requires-clause-few c = rw c.order.ensures (few_by_depth c.args.tree.now)

pub places_in-requires-clause-once : goal.places_in-requires-clause-once
places_in-requires-clause-once c = rw c.order.ensures (depth_once c.args.tree.now)
