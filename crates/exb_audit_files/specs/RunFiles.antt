-- What a run of a topology wrote, and that its audit finds it legal.
use Rattle.std.specs.Prelude.{◌≡◌, ◌≤◌, ℕ, true, List, Some, length, All}
use Rattle.exb_model.specs.FlatBridge.{flat}
use Rattle.exb_model.specs.History.{History}
use Rattle.exb_model.specs.Input.{basis_of}
use Rattle.exb_model.specs.LegalHistory.{EachEvent}
use Rattle.exb_model.specs.Setup.{shape_of}
use Rattle.exb_model.specs.Texts.{capture_text, journal_text}
use Rattle.exb_model.specs.Traces.{TraceLine, trace_text}
use Rattle.exb_model.specs.Tree.{IsTree, is_external}
use Rattle.exb_audit_files.specs.FrameFiles.{total}
use Rattle.exb_trace_spec.specs.JournalLines.{journal_of}
use Rattle.exb_trace_spec.specs.InputFrames.{RelayFits, frames_in, frames_out}
use Rattle.exb_trace_spec.specs.LegalTrace.{LegalTrace}
use Rattle.exb_trace_spec.specs.Rules.{IsLegal}
use Rattle.exb_trace_spec.specs.WritableLines.{HasBytes, IsSmall}
use Rattle.exb_trace_spec.specs.RoundTrips.{IsOfNumbers}
use Rattle.exb_shelf.specs.Files.{Files, bytes_of}
use Rattle.exb_journal.specs.FileNames.{capture_name, journal_name, trace_name}
use Rattle.exb_topology.specs.declared.topology.Topology.{Topology}
use Rattle.exb_topology.specs.Soundness.{IsSound}
use Rattle.exb_inputs.specs.declared.fault.Fault.{Fault}
use Rattle.exb_inputs.specs.CaptureChecks.{AreAllGood}
use Rattle.exb_inputs.specs.Inputs.{input_of}
use Rattle.exb_audit_files.specs.Audits.{IsSeen, Seen, StopsAudit, evidence_of, most}
use Rattle.exb_audit_files.specs.Scopes.{Scope, capture_files, output_files, scope_of}

-- all captures together, all output files together, the journal and the trace are within their limits
pub record AreWithin (s : Scope) (file : Files) : Type 0 where
  pub captures : total file (capture_files s.captures) ≤ most
  pub outputs : total file (output_files s.tree s.prefix) ≤ most
  pub journal : length (bytes_of (file (journal_name s.prefix))) ≤ most
  pub trace : length (bytes_of (file (trace_name s.prefix))) ≤ most

-- These files hold what a run of a topology wrote over a history of the input that they give: the capture of each
-- external port is what the one flat bridge sends there, the journal is that history, and the trace is these lines,
-- which are legal. The frames of lines are bytes, ports are ports and numbers have 64 bits, and moments are such as a
-- capture can hold.
pub record IsWritten (t : Topology) (file : Files) (h : History) (lines : List TraceLine) : Type 0 where
  pub captures : (q : ℕ) → is_external (shape_of t.setup) q ≡ true → file (capture_name t.prefix q)
      ≡ Some (capture_text (flat (basis_of (input_of t file)) h q))
  pub journal : file (journal_name t.prefix) ≡ Some (journal_text h)
  pub trace : file (trace_name t.prefix) ≡ Some (trace_text lines)
  pub legal : LegalTrace (shape_of t.setup) (journal_of h) (frames_in (input_of t file))
      (frames_out (input_of t file) h) lines
  pub bytes : All HasBytes lines
  pub numbers : All IsOfNumbers h
  pub moments : EachEvent RelayFits h

-- no file stops the audit, and no rule: whatever is read is legal
pub record FindsLegal (s : Scope) (file : Files) : Type 0 where
  pub never : (fault : Fault) → StopsAudit s file fault → ⊥
  pub legal : (x : Seen) → IsSeen s file x → IsLegal (evidence_of s x)

-- What a run wrote is found legal, where its captures are good and all is within the limits.
abbrev pub RunsAreFoundLegal : Type 0
RunsAreFoundLegal =
    (t : Topology) (file : Files) (h : History) (lines : List TraceLine) → IsTree (shape_of t.setup)
    → IsSmall (shape_of t.setup) → IsSound t → AreAllGood t.captures file
    → AreWithin (scope_of t) file → IsWritten t file h lines → FindsLegal (scope_of t) file
