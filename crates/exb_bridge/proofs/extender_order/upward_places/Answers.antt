use Rattle.exb_bridge.proofs.DeepestFirst.{all_low, deepest_extends, few_first}
use Rattle.exb_bridge.proofs.ExtenderPlaces.{deepest_once}
use Rattle.exb_bridge.proofs.extender_order.upward_places.Goals as goal

pub places_in-requires-clause-low : goal.places_in-requires-clause-low
places_in-requires-clause-low c = rw c.requires (all_low c.args.tree.now _ c.is_tree.ensures (deepest_extends c.args.tree.now))

pub places_in-requires-clause-few : goal.places_in-requires-clause-few
places_in-requires-clause-few c = rw c.requires (few_first c.args.tree.now)

pub places_in-requires-clause-once : goal.places_in-requires-clause-once
places_in-requires-clause-once c = rw c.requires (deepest_once c.args.tree.now)
