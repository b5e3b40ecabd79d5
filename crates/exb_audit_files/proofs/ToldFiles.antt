-- Files that are told give one answer.
use mathlib.Core.Path.{fun_ext}
use Rattle.std.proofs.Common.{◌≡◌, ℕ, List, Option}
use Rattle.exb_model.specs.Traces.{TraceLine}
use Rattle.exb_audit.specs.declared.frames.PortFrames.{PortFrames}
use Rattle.exb_audit.specs.Frames.{frames_by}
use Rattle.exb_audit_files.specs.declared.port_files.FramesFault.{FramesFault}
use Rattle.exb_audit_files.specs.declared.port_files.PortFile.{PortFile}
use Rattle.exb_audit_files.specs.declared.texts.LinesFault.{LinesFault}
use Rattle.exb_audit_files.specs.FrameFiles.{AreRead, IsFirstFault, Reading}
use Rattle.exb_audit_files.specs.Lines.{HoldsLines, IsJournal, IsLinesFault, IsTrace}
use Rattle.exb_audit_files.proofs.UniqueAnswers.{journal_lines, lines_or_fault, one_holding, one_journal, one_lines_fault, one_trace, trace_lines}
use Rattle.exb_audit_files.proofs.FrameFiles.{one_fault, one_reading, read_or_fault}
use Rattle.exb_trace_spec.specs.JournalLines.{entry_in}
use Rattle.exb_trace_spec.specs.TraceTexts.{read_line}
use Rattle.exb_shelf.specs.Files.{Files}

module _ (read : Reading) (file : Files) (limit : ℕ) (xs : List PortFile) where
  pub frames_not : (fs : List PortFrames) (f : FramesFault) → AreRead read file limit xs fs → IsFirstFault read file limit xs f → ⊥
  frames_not fs f are first = read_or_fault read file limit xs fs f are first

  pub frames_once : (f g : FramesFault) → IsFirstFault read file limit xs f → IsFirstFault read file limit xs g → f ≡ g
  frames_once f g a b = one_fault read file limit xs f g a b

  pub frames_same : (fs gs : List PortFrames) → AreRead read file limit xs fs → AreRead read file limit xs gs → frames_by fs ≡ frames_by gs
  frames_same fs gs a b = fun_ext λ p. one_reading read file xs fs gs a.each b.each p

pub text_once : {A : Type 0} (read : List ℕ → Option A) (limit : ℕ) (file : Option (List ℕ)) (f g : LinesFault) → IsLinesFault read limit file f → IsLinesFault read limit file g → f ≡ g
text_once read limit file f g a b = one_lines_fault read limit file f g a b

module _ (limit : ℕ) (file : Option (List ℕ)) where
  pub entries_not : (ls : List (List ℕ)) (f : LinesFault) → HoldsLines IsJournal limit file ls → IsLinesFault entry_in limit file f → ⊥
  entries_not ls f a b = lines_or_fault entry_in IsJournal journal_lines limit file ls f a b

  pub lines_not : (ls : List TraceLine) (f : LinesFault) → HoldsLines IsTrace limit file ls → IsLinesFault read_line limit file f → ⊥
  lines_not ls f a b = lines_or_fault read_line IsTrace trace_lines limit file ls f a b

  pub entries_same : (xs ys : List (List ℕ)) → HoldsLines IsJournal limit file xs → HoldsLines IsJournal limit file ys → xs ≡ ys
  entries_same xs ys a b = one_holding IsJournal one_journal limit file xs ys a b

  pub lines_same : (xs ys : List TraceLine) → HoldsLines IsTrace limit file xs → HoldsLines IsTrace limit file ys → xs ≡ ys
  lines_same xs ys a b = one_holding IsTrace one_trace limit file xs ys a b
