-- What `audit` reads from the files of a run, and that it finds them legal.
use Rattle.std.specs.Prelude.{◌≡◌, ℕ, true, is_some, List, None, Ok, Some, map, All}
use Rattle.exb_model.specs.History.{History}
use Rattle.exb_model.specs.Input.{Input, Record, basis_of, tree_of}
use Rattle.exb_model.specs.FlatBridge.{flat}
use Rattle.exb_model.specs.LegalHistory.{EachEvent}
use Rattle.exb_model.specs.Texts.{capture_text, journal_text}
use Rattle.exb_model.specs.Traces.{TraceLine, trace_text}
use Rattle.exb_model.specs.Tree.{Shape, is_external}
use Rattle.exb_capture.specs.Classic.{pcap_records}
use Rattle.exb_trace_spec.specs.CheckerLaws.{AreFiles}
use Rattle.exb_trace_spec.specs.TraceChecker.{judged}
use Rattle.exb_trace_spec.specs.JournalLines.{entry_in, journal_of}
use Rattle.exb_trace_spec.specs.InputFrames.{frames_in, frames_out, RelayFits}
use Rattle.exb_trace_spec.specs.TraceTexts.{read_trace}
use Rattle.exb_trace_spec.specs.Traversals.{Each}
use Rattle.exb_trace_spec.specs.Rules.{Files, IsLegal}
use Rattle.exb_trace_spec.specs.WritableLines.{HasBytes, IsSmall}
use Rattle.exb_trace_spec.specs.RoundTrips.{IsOfNumbers}
use Rattle.exb_trace_spec.specs.TextFields.{lines_in}

-- the frames that a file of records gives, if it is one
pub record HoldsFrames (file : List ℕ) (frames : List (List ℕ)) : Type 0 where
  pub records : List Record
  pub read : pcap_records file ≡ Ok records
  pub are : map (λ (r : Record). r.bytes) records ≡ frames

-- The journal, the trace and the output files are in their grammars, and are read as these lines and frames.
pub record AreReadAs (t : Shape) (journal trace : List ℕ) (outputs : ℕ → List ℕ) (x : Files) : Type 0 where
  pub told : lines_in journal ≡ Some x.journal
  pub entries : Each (λ line. is_some (entry_in line) ≡ true) x.journal
  pub lines : read_trace trace ≡ Some x.lines
  pub left : (q : ℕ) → is_external t q ≡ true → HoldsFrames (outputs q) (x.outputs q)

-- what a run of an input wrote, as the rules see it
abbrev pub files_of : Input → History → List TraceLine → Files
files_of i h lines = record {
  tree = tree_of i;
  journal = journal_of h;
  captures = frames_in i;
  outputs = frames_out i h;
  lines = lines;
}

-- What is known of a run beside that its trace is legal: these are facts of the types of what was written, and of the
-- sizes of what was read.
pub record IsOfTypes (i : Input) (h : History) (lines : List TraceLine) : Type 0 where
  pub files : AreFiles (files_of i h lines)
  pub small : IsSmall (tree_of i)
  pub bytes : All HasBytes lines
  pub numbers : All IsOfNumbers h
  pub moments : EachEvent RelayFits h

pub record IsAudited (i : Input) (h : History) (lines : List TraceLine) : Type 0 where
  pub read : AreReadAs (tree_of i) (journal_text h) (trace_text lines) (λ q. capture_text (flat (basis_of i) h q))
      (files_of i h lines)
  pub legal : judged (files_of i h lines) ≡ None

-- The texts that a run writes are in their grammars, and what is read back from them is judged legal.
abbrev pub RunsAreAudited : Type 0
RunsAreAudited = (i : Input) (h : History) (lines : List TraceLine) → IsLegal (files_of i h lines) → IsOfTypes i h lines
    → IsAudited i h lines
