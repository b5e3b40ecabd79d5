-- The tables that a kept tree has beside its shape.
use Rattle.std.specs.Prelude.{◌≡◌, ℕ, ◌<◌, List, length, slice_index}
use Rattle.exb_model.specs.PortBits.{has_port}
use Rattle.exb_model.specs.Tree.{Shape, HangsOn, IsTree, is_port, is_external, trunk, by_depth}

-- by port: the extender that hangs there, 0 for none
pub record IsHung (t : Shape) (below : List ℕ) : Type 0 where
  pub sized : length below ≡ 4160
  pub found : (n p : ℕ) → HangsOn t n p → slice_index below p ≡ n
  pub there : (p : ℕ) → 0 < slice_index below p → HangsOn t (slice_index below p) p

-- by device: the bridge port above an extender
pub record IsTopped (t : Shape) (tops : List ℕ) : Type 0 where
  pub sized : length tops ≡ 65
  pub each : (n : ℕ) → n < 65 → slice_index tops n ≡ trunk t n

-- All tables fit the tree.
pub record IsSound (t : Shape) (tops known external order below : List ℕ) : Type 0 where
  pub tree : IsTree t
  pub topped : IsTopped t tops
  pub has : (q : ℕ) → has_port known q ≡ is_port t q
  pub outer : (q : ℕ) → has_port external q ≡ is_external t q
  pub ordered : order ≡ by_depth t
  pub hung : IsHung t below
