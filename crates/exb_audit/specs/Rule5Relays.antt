-- Rule 5: what single lines say.
use Rattle.std.specs.Prelude.{◌≡◌, ℕ, ◌+◌, ◌≤◌, ◌<◌, ◌==◌, ◌&&◌, ◌||◌, Bool, true, false, if◌then◌else◌, List, [], ◌∷◌, drop, length, slice_get, slice_index, Option, Some, None}
use Rattle.exb_model.specs.Traces.{TraceLine, Out, Journal}
use Rattle.exb_model.specs.Tree.{Shape}
use Rattle.exb_trace_spec.specs.TraceChecker.{enters, is_step, says_none, sends_by_relay}
use Rattle.exb_trace_spec.specs.Rule5Relays.{entries, is_arrival, is_data_at, is_ignore, is_relay, relays, sent}
use Rattle.exb_trace_spec.specs.Traversals.{begins, until_next}

abbrev pub is_relay_line : TraceLine → Bool
is_relay_line (Journal text) = is_relay text
is_relay_line _ = false

abbrev pub is_entry_line : TraceLine → Bool
is_entry_line (Journal text) = is_relay text || is_ignore text
is_entry_line _ = false

abbrev pub is_sending : Shape → TraceLine → Bool
is_sending t (Out n k f) = (n == 0) && is_data_at t k f
is_sending t _ = false

-- the line of the journal at a place
abbrev pub text_at : Option TraceLine → List ℕ
text_at (Some (Journal text)) = text
text_at _ = []

-- the line at a place is the first that says what became of a record
pub record EntersAt (lines : List TraceLine) (i : ℕ) : Type 0 where
  pub line : TraceLine
  pub at : slice_get lines i ≡ Some line
  pub entry : is_entry_line line ≡ true
  pub is : entries lines ≡ text_at (Some line) ∷ entries (drop (i + 1) lines)

-- the place of that line, if there is one
abbrev pub IsFirstEntry : List TraceLine → Option ℕ → Type 0
IsFirstEntry lines None = entries lines ≡ []
IsFirstEntry lines (Some i) = EntersAt lines i

-- by port of the bridge how many data frames it sent there, at most two
abbrev pub AreCounts : Shape → List TraceLine → List ℕ → Type 0
AreCounts t lines counts = (k : ℕ) → (slice_index counts k ≤ 2)
    × (k < 256 → length (sent t k lines) ≡ slice_index counts k)

-- a frame that goes out does so at a side below 256
abbrev pub HasLowSide : TraceLine → Type 0
HasLowSide (Out n k f) = k < 256
HasLowSide _ = Unit {0}

-- what comes to the bridge is told of, and nothing else is relayed
abbrev pub is_told : Shape → (ℕ → List (List ℕ)) → TraceLine → List TraceLine → Bool
is_told t captures first rest = if is_arrival t first then enters t captures first (entries rest) else says_none
    (relays rest)

-- each step is right
abbrev pub each_is_right : Shape → (ℕ → List (List ℕ)) → List TraceLine → Bool
each_is_right t captures [] = true
each_is_right t captures (l ∷ ls) = (if begins l then is_step t captures l (until_next ls) else true)
    && each_is_right t captures ls

-- and what stands before the first
abbrev pub are_right : Shape → (ℕ → List (List ℕ)) → List TraceLine → Bool
are_right t captures lines = (says_none (relays (until_next lines)) && sends_by_relay t (until_next lines))
    && each_is_right t captures lines
