use Rattle.exb_bridge.proofs.ExtenderPlaces.{ArePlaced}
use Rattle.exb_bridge.proofs.extender_order.places_in.Given as goal

-- those so far have their places
abbrev pub invariant-loop-place : goal.invariant-loop-place
invariant-loop-place l = ArePlaced l.order l.places l.place
