-- A word of ports for each E-CID, as a program keeps the pairs: none at power-on, and what a request adds and clears.
use Rattle.std.specs.Prelude.{◌≡◌, ℕ, ◌==◌, ◌&&◌, ◌||◌, not, false, List, slice_index}
use Rattle.exb_csp.specs.declared.group_rows.GroupRow.{GroupRow}
use Rattle.exb_csp.specs.Execution.{ExtenderTables, in_mask, in_rows, is_listed}

-- an extender of that many ports at power-on
unfoldable pub powered_on : ℕ → ExtenderTables
powered_on ports = record { ports = ports; own = λ _. 0; cascade = λ _. false; pair = λ _ _. false }

-- the new words have the pairs of the old ones and of the rows
abbrev pub AddsRows : List ℕ → List ℕ → List GroupRow → Type 0
AddsRows old new rows = (ecid port : ℕ) → in_mask (slice_index new ecid) port
    ≡ (in_mask (slice_index old ecid) port || in_rows rows ecid port)

-- the new words have the pairs of the old ones but for those of the E-CIDs
abbrev pub ClearsRows : List ℕ → List ℕ → List ℕ → Type 0
ClearsRows old new ecids = (ecid port : ℕ) → in_mask (slice_index new ecid) port
    ≡ (in_mask (slice_index old ecid) port && not (is_listed ecids ecid))

-- the new words have the pairs of the old ones but for this one
abbrev pub ClearsPair : List ℕ → List ℕ → ℕ → ℕ → Type 0
ClearsPair old new ecid port = (e q : ℕ) → in_mask (slice_index new e) q
    ≡ (in_mask (slice_index old e) q && not ((e == ecid) && (q == port)))
