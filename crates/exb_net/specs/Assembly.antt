-- The bridges of a net as they are made of their setups.
use Rattle.std.specs.Prelude.{◌≡◌, ℕ, List, Some, slice_get}
use Rattle.exb_model.specs.declared.setup.Setup.{Setup}
use Rattle.exb_net_spec.specs.declared.wires.Wire.{Wire}
use Rattle.exb_net.specs.declared.node.Node.{Node}
use Rattle.exb_net.specs.Nodes.{IsFirst}

-- Each that is made is as its setup begins.
pub record AreFirst {V : Type 0} {X : V → Type 0} (wires : List Wire) (setups : List Setup)
    (nodes : List (Node V X)) : Type 0 where
  pub each : (b : ℕ) (s : Setup) (x : Node V X) → slice_get setups b ≡ Some s → slice_get nodes b ≡ Some x
      → IsFirst wires b s x.world x.ends.items
