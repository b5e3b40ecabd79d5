use Rattle.std.proofs.Common.{◌≡◌, ◌<◌, ◌≤◌, ◌^◌, length}
use Rattle.std.specs.Prelude.{All}
use Rattle.exb_net.specs.PairedLists.{AreEach}
use Rattle.exb_net.specs.BridgeSets.{AreSameBut}
use Rattle.exb_net.specs.Deliveries.{HasDelivered, IsTurn, Turn}
use Rattle.exb_net.proofs.net.deliver_all.Given as goal

-- So many deliveries are made.
abbrev pub invariant-loop-delivery : goal.invariant-loop-delivery
invariant-loop-delivery g l = record {
  turn : (m : Turn) × (IsTurn m × (HasDelivered m l._delivery l.nodes.items l.queue.items × (l.wires ≡ length m.net.wires)));
  ok : (m : Turn) → IsTurn m → HasDelivered m 0 l.fn.nodes.items l.fn.queue.items → l.wires ≡ length m.net.wires → HasDelivered m l._delivery l.nodes.items l.queue.items;
  others : AreSameBut l.touched l.fn.nodes.items l.nodes.items;
  few : All (λ x. (goal.Fate-dyn g (x.fate.vtable, x.fate.value)).left x.fate.value < 2 ^ 57) l.nodes.items;
  fates : AreEach (λ b x y. (goal.Fate-dyn g (y.fate.vtable, y.fate.value)).left y.fate.value ≤ (goal.Fate-dyn g (x.fate.vtable, x.fate.value)).left x.fate.value) l.fn.nodes.items l.nodes.items;
}
