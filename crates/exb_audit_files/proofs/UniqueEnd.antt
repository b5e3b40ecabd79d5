-- What stops an audit is one thing, and nothing where it finds the trace legal.
use Rattle.std.proofs.Common.{◌≡◌, ◌⊎◌, inl, inr, ℕ, zero, suc, List, Option, Some, None, ap, sym, ◌∙◌, subst, arith}
use Rattle.std.specs.Prelude.{⊤}
use Rattle.std.proofs.lemmas.Bool.{cases_lt}
use Rattle.exb_model.specs.Traces.{TraceLine}
use Rattle.exb_audit.specs.Frames.{frames_by}
use Rattle.exb_audit_files.specs.declared.port_files.FramesFault.{FramesFault}
use Rattle.exb_audit_files.specs.declared.port_files.FramesFault.TheVariants as frames
use Rattle.exb_audit_files.specs.declared.port_files.Grammar.TheVariants.{Either, Classic}
use Rattle.exb_audit_files.specs.declared.port_files.PortFile.{PortFile}
use Rattle.exb_audit_files.specs.FrameFiles.{IsFirstFault, IsFlaw, Reading, records_by}
use Rattle.exb_trace_spec.specs.JournalLines.{entry_in}
use Rattle.exb_trace_spec.specs.TraceTexts.{read_line}
use Rattle.exb_trace_spec.specs.Rules.{Files as Evidence, HoldsRule, IsLegal, IsLowestBroken}
use Rattle.exb_shelf.specs.Files.{Files}
use Rattle.exb_journal.specs.FileNames.{journal_name, trace_name}
use Rattle.exb_inputs.specs.declared.fault.Fault.{Fault}
use Rattle.exb_inputs.specs.declared.fault.Fault.TheVariants.{Illegal}
use Rattle.exb_inputs.specs.declared.fault.AuditInput.TheVariants as part
use Rattle.exb_audit_files.specs.Audits.{CapturesStop, HasCaptures, HasEntries, HasOutputs, IsFoundLegal, IsSeen, JournalStops, OutputsStop, RulesStop, Seen, StopsAudit, TraceStops, captures_fault, evidence_of, lines_fault, most, outputs_fault}
use Rattle.exb_audit_files.specs.Scopes.{Scope, capture_files, output_files}
use Rattle.exb_audit_files.proofs.ToldFiles.{entries_not, entries_same, frames_not, frames_once, frames_same, lines_not, lines_same, text_once}

-- ---- of two things the first
abbrev Once : (Fault → Type 0) → Type 0
Once P = (x y : Fault) → P x → P y → x ≡ y

first_once : (A B : Fault → Type 0) → ((x y : Fault) → B x → A y → ⊥) → Once A → Once B → Once (λ x. A x ⊎ B x)
first_once A B apart a b x y (inl p) (inl q) = a x y p q
first_once A B apart a b x y (inl p) (inr q) = absurd (apart y x q p)
first_once A B apart a b x y (inr p) (inl q) = absurd (apart x y p q)
first_once A B apart a b x y (inr p) (inr q) = b x y p q

then_once : (R : Type 0) (B : Fault → Type 0) → Once B → Once (λ x. R × B x)
then_once R B b x y p q = b x y p.1 q.1

-- ---- a fault of files is none of the shelf
abbrev pub IsOfFiles : FramesFault → Type 0
IsOfFiles frames.Memory = ⊥
IsOfFiles frames.Read = ⊥
IsOfFiles _ = ⊤

flaw_of_files : (read : Reading) (left : ℕ) (one : PortFile) (bytes : Option (List ℕ)) (f : FramesFault) → IsFlaw read left one bytes f → IsOfFiles f
flaw_of_files read left one None f flaw = subst IsOfFiles (sym flaw) tt
flaw_of_files read left one (Some bytes) frames.Memory flaw = absurd flaw
flaw_of_files read left one (Some bytes) frames.Read flaw = absurd flaw
flaw_of_files read left one (Some bytes) (frames.Missing name) flaw = absurd flaw
flaw_of_files read left one (Some bytes) (frames.Broken p fault) flaw = tt
flaw_of_files read left one (Some bytes) frames.Large flaw = tt

pub first_of_files : (read : Reading) (file : Files) (limit : ℕ) (xs : List PortFile) (f : FramesFault) → IsFirstFault read file limit xs f → IsOfFiles f
first_of_files read file limit xs f first = flaw_of_files read _ first.one (file first.one.name) f first.here

-- ---- rules
pub holds_all : (x : Evidence) → IsLegal x → (k : ℕ) → HoldsRule x k
holds_all x legal zero = tt
holds_all x legal (suc zero) = legal.so_far.rule_1
holds_all x legal (suc (suc zero)) = legal.so_far.rule_2
holds_all x legal (suc (suc (suc zero))) = record { in_order = legal.so_far.rule_3; empty = legal.empty }
holds_all x legal (suc (suc (suc (suc zero)))) = legal.so_far.rule_4
holds_all x legal (suc (suc (suc (suc (suc zero))))) = legal.so_far.rule_5
holds_all x legal (suc (suc (suc (suc (suc (suc k)))))) = tt

lowest_once : (x : Evidence) (r k : ℕ) → IsLowestBroken x r → IsLowestBroken x k → r ≡ k
lowest_once x r k a b = elim (cases_lt r k) [
  | inl less ↦ absurd (a.broken (b.lower r less))
  | inr more ↦ elim (cases_lt k r) [
    | inl less ↦ absurd (b.broken (a.lower k less))
    | inr same ↦ omega arith
  ]
]

-- ---- what is seen is one
abbrev make : Scope → List (List ℕ) → (ℕ → List (List ℕ)) → (ℕ → List (List ℕ)) → List TraceLine → Evidence
make s journal captures outputs lines = record { tree = s.tree; journal = journal; captures = captures; outputs = outputs; lines = lines }

evidence_by : (s : Scope) (j k : List (List ℕ)) (c d o p : ℕ → List (List ℕ)) (l m : List TraceLine) → j ≡ k → c ≡ d → o ≡ p → l ≡ m
    → ◌≡◌ {A = Evidence} (record { tree = s.tree; journal = j; captures = c; outputs = o; lines = l }) (record { tree = s.tree; journal = k; captures = d; outputs = p; lines = m })
evidence_by s j k c d o p l m journal captures outputs lines =
    ap (λ (x : List (List ℕ)). make s x c o l) journal ∙ ap (λ (x : ℕ → List (List ℕ)). make s k x o l) captures
    ∙ ap (λ (x : ℕ → List (List ℕ)). make s k d x l) outputs ∙ ap (λ (x : List TraceLine). make s k d p x) lines

module _ (s : Scope) (file : Files) where
  evidence_once : (x y : Seen) → IsSeen s file x → IsSeen s file y → evidence_of s x ≡ evidence_of s y
  evidence_once x y a b =
      evidence_by s x.journal y.journal (frames_by x.captures) (frames_by y.captures) (frames_by x.outputs) (frames_by y.outputs) x.lines y.lines
      (entries_same most (file (journal_name s.prefix)) x.journal y.journal a.journal b.journal)
      (frames_same (records_by Either) file most (capture_files s.captures) x.captures y.captures a.captures b.captures)
      (frames_same (records_by Classic) file most (output_files s.tree s.prefix) x.outputs y.outputs a.outputs b.outputs)
      (lines_same most (file (trace_name s.prefix)) x.lines y.lines a.lines b.lines)

  rules_once : Once (RulesStop s file)
  rules_once x y (p, a, r, low, is) (q, b, k, low', is') =
      is ∙ ap Illegal (lowest_once (evidence_of s q) r k (subst (λ (e : Evidence). IsLowestBroken e r) (evidence_once p q a b) low) low') ∙ sym is'

  captures_once : Once (CapturesStop s file)
  captures_once x y (f, p, is) (g, q, is') = is ∙ ap captures_fault (frames_once (records_by Either) file most (capture_files s.captures) f g p q) ∙ sym is'

  outputs_once : Once (OutputsStop s file)
  outputs_once x y (f, p, is) (g, q, is') = is ∙ ap outputs_fault (frames_once (records_by Classic) file most (output_files s.tree s.prefix) f g p q) ∙ sym is'

  journal_once : Once (JournalStops s file)
  journal_once x y (f, p, is) (g, q, is') = is ∙ ap (lines_fault part.Journal (journal_name s.prefix)) (text_once entry_in most (file (journal_name s.prefix)) f g p q) ∙ sym is'

  trace_once : Once (TraceStops s file)
  trace_once x y (f, p, is) (g, q, is') = is ∙ ap (lines_fault part.Trace (trace_name s.prefix)) (text_once read_line most (file (trace_name s.prefix)) f g p q) ∙ sym is'

  captures_not : HasCaptures s file → (x : Fault) → CapturesStop s file x → ⊥
  captures_not (fs, are) x (f, first, is) = frames_not (records_by Either) file most (capture_files s.captures) fs f are first

  outputs_not : HasOutputs s file → (x : Fault) → OutputsStop s file x → ⊥
  outputs_not (fs, are) x (f, first, is) = frames_not (records_by Classic) file most (output_files s.tree s.prefix) fs f are first

  journal_not : HasEntries s file → (x : Fault) → JournalStops s file x → ⊥
  journal_not (ls, are) x (f, bad, is) = entries_not most (file (journal_name s.prefix)) ls f are bad

  trace_not : (seen : Seen) → IsSeen s file seen → (x : Fault) → TraceStops s file x → ⊥
  trace_not seen are x (f, bad, is) = lines_not most (file (trace_name s.prefix)) seen.lines f are.lines bad

  -- what can stop it once the journal is read, once the output files are, and once the captures are
  abbrev AfterJournal : Fault → Type 0
  AfterJournal x = TraceStops s file x ⊎ RulesStop s file x

  abbrev AfterOutputs : Fault → Type 0
  AfterOutputs x = JournalStops s file x ⊎ (HasEntries s file × AfterJournal x)

  abbrev AfterCaptures : Fault → Type 0
  AfterCaptures x = OutputsStop s file x ⊎ (HasOutputs s file × AfterOutputs x)

  lines_last : Once AfterJournal
  lines_last = first_once (TraceStops s file) (RulesStop s file) (λ x y p q. trace_not p.0 p.1 y q) trace_once rules_once

  outputs_then : Once AfterOutputs
  outputs_then =
      first_once (JournalStops s file) (λ x. HasEntries s file × AfterJournal x) (λ x y p q. journal_not p.0 y q) journal_once (then_once (HasEntries s file) AfterJournal lines_last)

  captures_then : Once AfterCaptures
  captures_then =
      first_once (OutputsStop s file) (λ x. HasOutputs s file × AfterOutputs x) (λ x y p q. outputs_not p.0 y q) outputs_once (then_once (HasOutputs s file) AfterOutputs outputs_then)

  -- one thing stops it
  pub stops_once : Once (StopsAudit s file)
  stops_once =
      first_once (CapturesStop s file) (λ x. HasCaptures s file × AfterCaptures x) (λ x y p q. captures_not p.0 y q) captures_once (then_once (HasCaptures s file) AfterCaptures captures_then)

  -- nothing stops it where all can be read and the trace is legal
  pub seen_not : (seen : Seen) (x : Fault) → IsSeen s file seen → IsLegal (evidence_of s seen) → StopsAudit s file x → ⊥
  seen_not seen x is legal (inl stop) = captures_not (seen.captures, is.captures) x stop
  seen_not seen x is legal (inr (captures, inl stop)) = outputs_not (seen.outputs, is.outputs) x stop
  seen_not seen x is legal (inr (captures, inr (outputs, inl stop))) = journal_not (seen.journal, is.journal) x stop
  seen_not seen x is legal (inr (captures, inr (outputs, inr (journal, inl stop)))) = trace_not seen is x stop
  seen_not seen x is legal (inr (captures, inr (outputs, inr (journal, inr (other, is', r, lowest, fault))))) =
      lowest.broken (subst (λ (e : Evidence). HoldsRule e r) (evidence_once seen other is is') (holds_all (evidence_of s seen) legal r))

  pub legal_not : (text : List ℕ) (x : Fault) → IsFoundLegal s file text → StopsAudit s file x → ⊥
  legal_not text x found stops = seen_not found.seen x found.is found.legal stops
