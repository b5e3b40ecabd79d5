-- The rows of an extender, by E-CID.
use Rattle.std.specs.Prelude.{ℕ, List, slice_index, slice_set}

-- the row of an E-CID: bit k - 1 is port k
abbrev pub row_of : List ℕ → ℕ → ℕ
row_of rows ecid = slice_index rows ecid

-- the rows with another row of one E-CID
abbrev pub with_row : List ℕ → ℕ → ℕ → List ℕ
with_row rows ecid mask = slice_set rows ecid mask
