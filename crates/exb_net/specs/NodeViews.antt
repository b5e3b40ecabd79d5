-- The bridges of the code are those of a net.
use Rattle.std.specs.Prelude.{◌≡◌, ℕ, ◌++◌, false, List, Some, length, slice_get}
use Rattle.exb_model.specs.Tree.{external_ports}
use Rattle.exb_world_spec.specs.Steps.{Stepped}
use Rattle.exb_world.specs.WorldContracts.{Network, world_of, tree_of, bounds_of}
use Rattle.exb_bridge.specs.BridgeWorlds.{all_left}
use Rattle.exb_net_spec.specs.Nets.{Net}
use Rattle.exb_net_laws.specs.NetRuns.{Dones, tree_in, limits_in}
use Rattle.exb_net.specs.declared.wired_ports.WiredPort.{WiredPort}
use Rattle.exb_net.specs.declared.node.Node.{Node}
use Rattle.exb_net.specs.WiredPorts.{ends_over}

-- Bridge b is where it came by what it did. Of that its world keeps what was told and has left since so much was told.
-- Its wired ports are those of the net, each with its next index; and memory hasn't run out in it.
pub record IsAt (n : Net) (b : ℕ) (done told : Stepped) (w : Network) (wired : List WiredPort) : Type 0 where
  pub tree : tree_of w ≡ tree_in n b
  pub limits : bounds_of w ≡ limits_in n b
  pub world : world_of w ≡ done.world
  pub events : done.events ≡ told.events ++ w.log.events
  pub passed : done.passed ≡ told.passed ++ w.log.passed
  pub left : done.left ≡ told.left ++ all_left w.log.left
  pub ends : wired ≡ ends_over n.wires b done.world.next (external_ports (tree_in n b))
  pub awake : w.failed ≡ false

-- So it is of each.
pub record Holds {V : Type 0} {X : V → Type 0} (n : Net) (s told : Dones) (nodes : List (Node V X)) : Type 0 where
  pub count : length nodes ≡ n.count
  pub at : (b : ℕ) (x : Node V X) → slice_get nodes b ≡ Some x → IsAt n b (s b) (told b) x.world x.ends.items
