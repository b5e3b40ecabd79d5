-- The kinds of files that runs write: which are asked for, and in which order they stand behind the captures.
use Rattle.std.specs.Prelude.{◌≡◌, ◌<◌, ℕ, suc, Bool, true, false, ◌==◌, ◌&&◌, if◌then◌else◌, List, [], ◌∷◌, filter, Option, Some, None, unwrap_or, slice_index}
use Rattle.exb_journal.specs.declared.file_names.OutputKind.{OutputKind}
use Rattle.exb_journal.specs.declared.file_names.OutputKind.TheVariants as output
use Rattle.exb_journal.specs.FileNames.{other_outputs}
use Rattle.exb_cli.specs.declared.invocations.Options.{Options}

-- ---- kinds
-- the port of a capture
abbrev pub port_of : OutputKind → Option ℕ
port_of (output.Capture q) = Some q
port_of output.Journal = None
port_of output.Trace = None
port_of output.Counters = None

-- each kind has a number, and all captures have 0
abbrev pub number_of : OutputKind → ℕ
number_of (output.Capture q) = 0
number_of output.Journal = 1
number_of output.Trace = 2
number_of output.Counters = 3

-- they are of one kind, and of one port
abbrev pub is_same : OutputKind → OutputKind → Bool
is_same o k = number_of o == number_of k && unwrap_or (port_of o) 0 == unwrap_or (port_of k) 0

-- ---- what is asked for
-- an eager run without a trace
abbrev pub eager_with : Bool → Options
eager_with counters = record { trace = false; counters = counters; seed = None }

-- a kind is asked for; captures always are
abbrev pub is_asked : Options → OutputKind → Bool
is_asked o (output.Capture q) = true
is_asked o output.Journal = true
is_asked o output.Trace = o.trace
is_asked o output.Counters = o.counters

-- the kinds behind the captures, in the order in which they are made
abbrev pub kinds_behind : Options → List OutputKind
kinds_behind o = filter (is_asked o) other_outputs

-- the place of the kind of a number in a list, and its end where it isn't there
abbrev pub place_among : ℕ → List OutputKind → ℕ
place_among n [] = 0
place_among n (x ∷ xs) = if number_of x == n then 0 else suc (place_among n xs)

-- and its place behind the captures
abbrev pub place_behind : Options → OutputKind → ℕ
place_behind o k = place_among (number_of k) (kinds_behind o)

-- a table has the place of the kind of each number in a list
pub record ArePlaces (kinds : List OutputKind) (places : List ℕ) : Type 0 where
  pub each : (n : ℕ) → n < 4 → slice_index places n ≡ place_among n kinds
