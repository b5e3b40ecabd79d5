-- The index of the next record of each port.
use Rattle.std.specs.Prelude.{ℕ, List, slice_index_or}

abbrev pub next_of : List ℕ → ℕ → ℕ
next_of xs p = slice_index_or xs p 1
