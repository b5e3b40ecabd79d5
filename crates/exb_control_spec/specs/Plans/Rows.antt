-- The rows of a set of ports.
use Rattle.std.specs.Prelude.{◌≡◌, ℕ, ◌%◌, ◌≤◌, ◌==◌, ◌&&◌, Bool, true, List, Option, Some, None, filter_map, if◌then◌else◌}
use Rattle.std.specs.List.{list_any}
use Rattle.std.specs.Int.{bit_at}
use Rattle.exb_model.specs.Tree.{Shape, IsTree, device, is_port, by_depth}
use Rattle.exb_model.specs.TreeSets.{covers, mask_of}
use Rattle.exb_control_spec.specs.declared.plan.row.Row.{Row}

-- an extender with a port of the set in its subtree has a row
abbrev pub row_of : Shape → (ℕ → Bool) → ℕ → Option Row
row_of t set n = if mask_of t set n == 0 then None else Some (record { extender = n; mask = mask_of t set n })

-- the rows of a set, by depth and number
unfoldable pub rows_of : Shape → (ℕ → Bool) → List Row
rows_of t set = filter_map (row_of t set) (by_depth t)

-- a row has the port
abbrev pub row_has : ℕ → Row → Bool
row_has p row = row.extender == device p && bit_at row.mask (p % 64) == 1

-- one of the rows has it
abbrev pub rows_have : List Row → ℕ → Bool
rows_have rows p = list_any (row_has p) rows

-- The rows of a set have just the ports of extenders whose subtree has a port of the set.
abbrev pub RowsCover : Type 0
RowsCover =
    (s : Shape) (set : ℕ → Bool) (p : ℕ) → IsTree s → 64 ≤ p → is_port s p ≡ true → rows_have (rows_of s set) p
    ≡ covers s set p
