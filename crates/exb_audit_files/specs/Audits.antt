-- What an audit reads, what it finds, and what stops it.
use Rattle.std.specs.Prelude.{◌≡◌, ◌⊎◌, ◌++◌, ℕ, List, codes, decimal, length}
use Rattle.exb_model.specs.Traces.{TraceLine}
use Rattle.exb_audit.specs.declared.frames.PortFrames.{PortFrames}
use Rattle.exb_audit.specs.Frames.{frames_by}
use Rattle.exb_audit_files.specs.declared.port_files.FramesFault.{FramesFault}
use Rattle.exb_audit_files.specs.declared.port_files.FramesFault.TheVariants as frames
use Rattle.exb_audit_files.specs.declared.port_files.Grammar.TheVariants.{Either, Classic}
use Rattle.exb_audit_files.specs.declared.texts.LinesFault.{LinesFault}
use Rattle.exb_audit_files.specs.declared.texts.LinesFault.TheVariants as lines
use Rattle.exb_audit_files.specs.FrameFiles.{AreRead, IsFirstFault, records_by}
use Rattle.exb_audit_files.specs.Lines.{HoldsLines, IsJournal, IsLinesFault, IsTrace}
use Rattle.exb_trace_spec.specs.JournalLines.{entry_in}
use Rattle.exb_trace_spec.specs.TraceTexts.{read_line}
use Rattle.exb_trace_spec.specs.Rules.{Files as Evidence, IsLegal, IsLowestBroken}
use Rattle.exb_shelf.specs.Files.{Files}
use Rattle.exb_journal.specs.FileNames.{journal_name, trace_name}
use Rattle.exb_inputs.specs.declared.fault.Fault.{Fault}
use Rattle.exb_inputs.specs.declared.fault.Fault.TheVariants.{BadLine, Capture, Illegal, Memory, Missing, Output, Read, TooLarge}
use Rattle.exb_inputs.specs.declared.fault.InputFlaw.TheVariants.{Broken}
use Rattle.exb_inputs.specs.declared.fault.AuditInput.{AuditInput}
use Rattle.exb_inputs.specs.declared.fault.AuditInput.TheVariants as part
use Rattle.exb_audit_files.specs.Scopes.{Scope, capture_files, output_files}

-- the most bytes of all captures together, of all output files together, of the journal, and of the trace
abbrev pub most : ℕ
most = 536_870_912

-- ---- what is read
-- These are the frames of the captures, all within the limit; so of the output files, which are classic captures.
abbrev pub AreCaptures : Scope → Files → List PortFrames → Type 0
AreCaptures s file captures = AreRead (records_by Either) file most (capture_files s.captures) captures

abbrev pub AreOutputs : Scope → Files → List PortFrames → Type 0
AreOutputs s file outputs = AreRead (records_by Classic) file most (output_files s.tree s.prefix) outputs

-- these are the lines of the journal, and those of the trace
abbrev pub AreEntries : Scope → Files → List (List ℕ) → Type 0
AreEntries s file journal = HoldsLines IsJournal most (file (journal_name s.prefix)) journal

abbrev pub AreLines : Scope → Files → List TraceLine → Type 0
AreLines s file trace = HoldsLines IsTrace most (file (trace_name s.prefix)) trace

-- all that is read, and what the rules see of it
pub record Seen : Type 0 where
  pub captures : List PortFrames
  pub outputs : List PortFrames
  pub journal : List (List ℕ)
  pub lines : List TraceLine

abbrev pub evidence_of : Scope → Seen → Evidence
evidence_of s x = record {
  tree = s.tree;
  journal = x.journal;
  captures = frames_by x.captures;
  outputs = frames_by x.outputs;
  lines = x.lines;
}

-- all is there, in its grammar and within its limit
pub record IsSeen (s : Scope) (file : Files) (x : Seen) : Type 0 where
  pub captures : AreCaptures s file x.captures
  pub outputs : AreOutputs s file x.outputs
  pub journal : AreEntries s file x.journal
  pub lines : AreLines s file x.lines

-- ---- what is found
abbrev pub legal_line : ℕ → List ℕ
legal_line n = codes "legal " ++ decimal n ++ codes "\n"

-- the trace is legal, and this text says how many lines it has
pub record IsFoundLegal (s : Scope) (file : Files) (text : List ℕ) : Type 0 where
  pub seen : Seen
  pub is : IsSeen s file seen
  pub legal : IsLegal (evidence_of s seen)
  pub says : text ≡ legal_line (length seen.lines)

-- ---- what stops it
-- what is wrong with captures, with output files, and with a file of lines of this name
abbrev pub captures_fault : FramesFault → Fault
captures_fault frames.Memory = Memory
captures_fault frames.Read = Read
captures_fault (frames.Missing name) = Missing name
captures_fault (frames.Broken p broke) = Capture p (Broken broke)
captures_fault frames.Large = TooLarge part.Captures

abbrev pub outputs_fault : FramesFault → Fault
outputs_fault frames.Memory = Memory
outputs_fault frames.Read = Read
outputs_fault (frames.Missing name) = Missing name
outputs_fault (frames.Broken p broke) = Output p broke
outputs_fault frames.Large = TooLarge part.Outputs

abbrev pub lines_fault : AuditInput → List ℕ → LinesFault → Fault
lines_fault what name lines.Memory = Memory
lines_fault what name lines.Read = Read
lines_fault what name lines.Missing = Missing name
lines_fault what name lines.Large = TooLarge what
lines_fault what name (lines.Bad n) = BadLine what n

-- the first fault of the captures, and so on
abbrev pub CapturesStop : Scope → Files → Fault → Type 0
CapturesStop s file fault = (f : FramesFault) × IsFirstFault (records_by Either) file most (capture_files s.captures) f
    × (fault ≡ captures_fault f)

abbrev pub OutputsStop : Scope → Files → Fault → Type 0
OutputsStop s file fault = (f : FramesFault) × IsFirstFault (records_by Classic) file most
    (output_files s.tree s.prefix) f × (fault ≡ outputs_fault f)

abbrev pub JournalStops : Scope → Files → Fault → Type 0
JournalStops s file fault = (f : LinesFault) × IsLinesFault entry_in most (file (journal_name s.prefix)) f
    × (fault ≡ lines_fault part.Journal (journal_name s.prefix) f)

abbrev pub TraceStops : Scope → Files → Fault → Type 0
TraceStops s file fault = (f : LinesFault) × IsLinesFault read_line most (file (trace_name s.prefix)) f
    × (fault ≡ lines_fault part.Trace (trace_name s.prefix) f)

-- the lowest rule that doesn't hold
abbrev pub RulesStop : Scope → Files → Fault → Type 0
RulesStop s file fault = (x : Seen) × IsSeen s file x × (r : ℕ) × IsLowestBroken (evidence_of s x) r
    × (fault ≡ Illegal r)

-- captures, output files and journal are read
abbrev pub HasCaptures : Scope → Files → Type 0
HasCaptures s file = (captures : List PortFrames) × AreCaptures s file captures

abbrev pub HasOutputs : Scope → Files → Type 0
HasOutputs s file = (outputs : List PortFrames) × AreOutputs s file outputs

abbrev pub HasEntries : Scope → Files → Type 0
HasEntries s file = (journal : List (List ℕ)) × AreEntries s file journal

-- This stops the audit, the first in the order in which things are looked at: captures and output files in port order,
-- the journal, the trace, and the rules.
abbrev pub StopsAudit : Scope → Files → Fault → Type 0
StopsAudit s file fault =
    CapturesStop s file fault
    ⊎ (HasCaptures s file × (OutputsStop s file fault
    ⊎ (HasOutputs s file × (JournalStops s file fault
    ⊎ (HasEntries s file × (TraceStops s file fault
    ⊎ RulesStop s file fault))))))
