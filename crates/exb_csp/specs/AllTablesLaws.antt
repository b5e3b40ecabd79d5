-- What requests do to the tables of all extenders.
use Rattle.std.specs.Prelude.{◌≡◌, ◌≢◌, ℕ, ◌≤◌, ◌||◌, List}
use Rattle.exb_model.specs.ExtenderForwarding.{Tables}
use Rattle.exb_csp.specs.declared.message.Request.{Request}
use Rattle.exb_csp.specs.Execution.{ExtenderTables, code_of}
use Rattle.exb_csp.specs.AllTables.{tables_at, executes_at, done_at, RunsAt, MaskAt, registers, in_masks}

-- A request with code 0 does at each port what is asked, and nothing else anywhere.
abbrev pub DoneAtEachPort : Type 0
DoneAtEachPort =
    (all : ℕ → ExtenderTables) (n : ℕ) (asked : Request) → (all n).ports ≤ 64 → code_of (all n) asked ≡ 0
    → tables_at (executes_at n asked all) ≡ done_at n asked (tables_at all)

-- With another code nothing changes.
abbrev pub RefusedAtNoPort : Type 0
RefusedAtNoPort =
    (all : ℕ → ExtenderTables) (n : ℕ) (asked : Request) → code_of (all n) asked ≢ 0
    → tables_at (executes_at n asked all) ≡ tables_at all

-- the pairs of the number are those that were there and those of the masks, and nothing else has changed
pub record IsLaid (old new : Tables) (number : ℕ) (masks : List MaskAt) : Type 0 where
  pub row : (q : ℕ) → new.pair number q ≡ (old.pair number q || in_masks masks q)
  pub others : (e q : ℕ) → e ≢ number → new.pair e q ≡ old.pair e q
  pub own : (q : ℕ) → new.own q ≡ old.own q
  pub cascade : (q : ℕ) → new.cascade q ≡ old.cascade q

-- A run of Registers of one number at any extenders, each done, lays exactly their masks.
abbrev pub RunsLayRows : Type 0
RunsLayRows =
    (all end : ℕ → ExtenderTables) (number : ℕ) (masks : List MaskAt) → RunsAt all (registers number masks) end
    → IsLaid (tables_at all) (tables_at end) number masks
