-- Rows and E-CIDs that are read one after another.
use Rattle.std.proofs.Common.{◌≡◌, ℕ, suc, ◌+◌, ◌-◌, ◌<◌, ◌≤◌, List, [], ◌∷◌, ◌++◌, drop, sym, ◌∙◌, append_assoc, append-nil, arith}
use Rattle.exb_csp.specs.declared.group_rows.GroupRow.{GroupRow}
use Rattle.exb_csp.specs.Decoding.{row_at, rows_at, u16_at, ecids_at}

-- one more row is read
pub rows_go_on : (rows : List GroupRow) (count i : ℕ) (rest : List ℕ) (all : List GroupRow) → i < count → rows ++ rows_at (count - i) rest ≡ all
    → (rows ++ row_at rest ∷ []) ++ rows_at (count - (i + 1)) (drop 10 rest) ≡ all
unfolding rows_at
rows_go_on rows count i rest all lt so_far =
    let k : count - i ≡ suc (count - (i + 1)) = omega arith in
    append_assoc rows (row_at rest ∷ []) (rows_at (count - (i + 1)) (drop 10 rest)) ∙ rw k at so_far

pub rows_end : (rows : List GroupRow) (count i : ℕ) (rest : List ℕ) (all : List GroupRow) → count ≤ i → rows ++ rows_at (count - i) rest ≡ all → rows ≡ all
unfolding rows_at
rows_end rows count i rest all le so_far =
    let k : count - i ≡ 0 = omega arith in
    sym (append-nil rows) ∙ rw k at so_far

-- one more E-CID is read
pub ecids_go_on : (ecids : List ℕ) (count i : ℕ) (rest : List ℕ) (all : List ℕ) → i < count → ecids ++ ecids_at (count - i) rest ≡ all
    → (ecids ++ u16_at rest 0 ∷ []) ++ ecids_at (count - (i + 1)) (drop 2 rest) ≡ all
unfolding ecids_at
ecids_go_on ecids count i rest all lt so_far =
    let k : count - i ≡ suc (count - (i + 1)) = omega arith in
    append_assoc ecids (u16_at rest 0 ∷ []) (ecids_at (count - (i + 1)) (drop 2 rest)) ∙ rw k at so_far

pub ecids_end : (ecids : List ℕ) (count i : ℕ) (rest : List ℕ) (all : List ℕ) → count ≤ i → ecids ++ ecids_at (count - i) rest ≡ all → ecids ≡ all
unfolding ecids_at
ecids_end ecids count i rest all le so_far =
    let k : count - i ≡ 0 = omega arith in
    sym (append-nil ecids) ∙ rw k at so_far
