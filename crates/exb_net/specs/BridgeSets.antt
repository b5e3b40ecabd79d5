-- Sets of bridges as the code has them, by bits: which bridges told something, and which are as they were.
use Rattle.std.specs.Prelude.{◌≡◌, ℕ, ◌<◌, ◌≤◌, List, Some, min, slice_get}
use Rattle.std.specs.Int.{bit_at}
use Rattle.exb_world.specs.WorldContracts.{IsQuiet}
use Rattle.exb_net.specs.declared.node.Node.{Node}

-- the bit of a bridge: its own, or the last one
abbrev pub mark_of : ℕ → ℕ → ℕ
mark_of marks b = bit_at marks (min b 63)

-- those that aren't in the set told nothing, and nothing left them
pub record AreQuietBut {V : Type 0} {X : V → Type 0} (marks : ℕ) (nodes : List (Node V X)) : Type 0 where
  pub each : (b : ℕ) (x : Node V X) → slice_get nodes b ≡ Some x → mark_of marks b ≡ 0 → IsQuiet x.world

-- nor did those from one to before another
pub record AreQuietFrom {V : Type 0} {X : V → Type 0} (from end : ℕ) (nodes : List (Node V X)) : Type 0 where
  pub each : (b : ℕ) (x : Node V X) → from ≤ b → b < end → slice_get nodes b ≡ Some x → IsQuiet x.world

-- those that aren't in the set are as they were
pub record AreSameBut {V : Type 0} {X : V → Type 0} (marks : ℕ) (old new : List (Node V X)) : Type 0 where
  pub each : (b : ℕ) → mark_of marks b ≡ 0 → slice_get new b ≡ slice_get old b
