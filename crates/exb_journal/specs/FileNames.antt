-- The names of the files that a run writes.
use Rattle.std.specs.Prelude.{ℕ, ◌<◌, List, [], ◌∷◌, ◌++◌, codes, map}
use Rattle.exb_model.specs.Texts.{port_name}
use Rattle.exb_model.specs.Tree.{Shape, external_ports}
use Rattle.exb_journal.specs.declared.file_names.OutputKind.{OutputKind}
use Rattle.exb_journal.specs.declared.file_names.OutputKind.TheVariants as output

-- what leaves a port
unfoldable pub capture_name : List ℕ → ℕ → List ℕ
capture_name prefix p = prefix ++ port_name p ++ codes ".pcap"

-- the journal
unfoldable pub journal_name : List ℕ → List ℕ
journal_name prefix = prefix ++ codes "journal.txt"

-- the trace
unfoldable pub trace_name : List ℕ → List ℕ
trace_name prefix = prefix ++ codes "trace.txt"

-- the counters
unfoldable pub counters_name : List ℕ → List ℕ
counters_name prefix = prefix ++ codes "counters.txt"

-- ---- by kind
abbrev pub file_name : List ℕ → OutputKind → List ℕ
file_name prefix (output.Capture p) = capture_name prefix p
file_name prefix output.Journal = journal_name prefix
file_name prefix output.Trace = trace_name prefix
file_name prefix output.Counters = counters_name prefix

-- a capture is one of a port
abbrev pub IsOfPort : OutputKind → Type 0
IsOfPort (output.Capture p) = p < 4160
IsOfPort _ = Unit {0}

-- the kinds beside captures, in the order in which they are made
abbrev pub other_outputs : List OutputKind
other_outputs = output.Journal ∷ output.Trace ∷ output.Counters ∷ []

-- all that runs of a tree may write
abbrev pub all_outputs : Shape → List OutputKind
all_outputs t = map output.Capture (external_ports t) ++ other_outputs
