-- What is read, one after the other.
use mathlib.Core.Path.{fun_ext}
use Rattle.std.specs.Prelude.{IfErr, IfOk, String, string_bytes}
use Rattle.std.specs.declared.alloc.Global.{Global}
use Rattle.std.proofs.Common.{◌≡◌, ◌⊎◌, inl, inr, ℕ, List, Result, Ok, Err, length, ap, refl, subst, sym, ◌∙◌}
use Rattle.exb_model.specs.Traces.{TraceLine}
use Rattle.exb_audit.specs.declared.frames.PortFrames.{PortFrames}
use Rattle.exb_audit.specs.AllRules.{files_by}
use Rattle.exb_trace_spec.specs.Rules.{Files as Evidence, IsLegal, IsLowestBroken}
use Rattle.exb_topology.specs.declared.topology.Topology.{Topology}
use Rattle.exb_inputs.specs.declared.fault.Fault.{Fault}
use Rattle.exb_inputs.specs.declared.fault.Fault.TheVariants.{Illegal, Memory, Read}
use Rattle.exb_inputs.specs.Answers.{IsRule}
use Rattle.exb_inputs.specs.FaultPhases.{IsOfAudit}
use Rattle.exb_shelf.specs.Files.{Files, SameFiles}
use Rattle.exb_audit_files.specs.Audits.{AreCaptures, AreEntries, AreLines, AreOutputs, CapturesStop, IsFoundLegal, IsSeen, JournalStops, OutputsStop, Seen, StopsAudit, TraceStops, evidence_of, legal_line, most, outputs_fault}
use Rattle.exb_shelf.specs.Shelf.{Id, IsReading, IsReadingOf, Opens}
use Rattle.exb_shelf.proofs.IdLemmas.{opens_weaker}
use Rattle.exb_audit_files.specs.declared.port_files.FramesFault.{FramesFault}
use Rattle.exb_audit_files.specs.declared.port_files.FramesFault.TheVariants as frames
use Rattle.exb_audit_files.specs.declared.port_files.Grammar.TheVariants.{Classic}
use Rattle.exb_audit_files.specs.declared.port_files.PortFile.{PortFile}
use Rattle.exb_audit_files.specs.FrameFiles.{IsFirstFault, IsOfPort, ReadsOneOf, records_by}
use Rattle.exb_audit_files.specs.OpenedFiles.{ReadsEvidence}
use Rattle.exb_audit_files.specs.Scopes.{Scope, capture_files, output_files, scope_of}

reading_of : (name : List ℕ) (i : Id) → IsReadingOf name i → IsReading i
reading_of name i reads = record { given = reads.given; reads = reads.reads }

-- it is an id to read
pub reads_evidence : (s : Scope) (i : Id) → ReadsEvidence s i → IsReading i
reads_evidence s i (inl reads) = reading_of reads.one.name i reads.reads
reads_evidence s i (inr (inl reads)) = reading_of reads.one.name i reads.reads
reads_evidence s i (inr (inr (inl reads))) = reading_of _ i reads
reads_evidence s i (inr (inr (inr reads))) = reading_of _ i reads

-- ---- files that stay the same
pub back : (P : Files → Type 0) (f g : Files) → SameFiles f g → P g → P f
back P f g same = subst P (fun_ext λ n. same n)

-- what is opened first are captures
pub opens_captures : (s : Scope) (a b : ℕ → Id) → Opens (ReadsOneOf (capture_files s.captures)) a b → Opens (ReadsEvidence s) a b
opens_captures s a b opens = opens_weaker (ReadsOneOf (capture_files s.captures)) (ReadsEvidence s) a b (λ i reads. inl reads) opens

-- and output files later
pub opens_outputs : (s : Scope) (xs : List PortFile) (a b : ℕ → Id) → xs ≡ output_files s.tree s.prefix → Opens (ReadsOneOf xs) a b → Opens (ReadsEvidence s) a b
opens_outputs s xs a b is opens = opens_weaker (ReadsOneOf xs) (ReadsEvidence s) a b (λ i reads. inr (inl (subst (λ (ys : List PortFile). ReadsOneOf ys i) is reads))) opens

-- ---- what is wrong with output files
pub outputs_stop : (s : Scope) (f : Files) (xs : List PortFile) (x : FramesFault) → xs ≡ output_files s.tree s.prefix → IsFirstFault (records_by Classic) f most xs x ⊎ (x ≡ frames.Read) ⊎ (x ≡ frames.Memory)
    → OutputsStop s f (outputs_fault x) ⊎ (outputs_fault x ≡ Read) ⊎ (outputs_fault x ≡ Memory)
outputs_stop s f xs x is (inl first) = inl (x, subst (λ (ys : List PortFile). IsFirstFault (records_by Classic) f most ys x) is first, refl)
outputs_stop s f xs x is (inr (inl read)) = inr (inl (ap outputs_fault read))
outputs_stop s f xs x is (inr (inr memory)) = inr (inr (ap outputs_fault memory))

pub outputs_of : (x : FramesFault) → IsOfPort x → IsOfAudit (outputs_fault x)
outputs_of frames.Memory port = tt
outputs_of frames.Read port = tt
outputs_of (frames.Missing name) port = tt
outputs_of (frames.Broken p broke) port = port
outputs_of frames.Large port = tt

-- ---- what stops it, over the files at the beginning
pub captures_cause : (s : Scope) (f : Files) (x : Fault) → CapturesStop s f x ⊎ (x ≡ Read) ⊎ (x ≡ Memory) → StopsAudit s f x ⊎ (x ≡ Read) ⊎ (x ≡ Memory)
captures_cause s f x (inl stop) = inl (inl stop)
captures_cause s f x (inr other) = inr other

module _ (s : Scope) (f : Files) (captures : List PortFrames) (are_captures : AreCaptures s f captures) (g : Files) (same : SameFiles f g) where
  pub outputs_cause : (x : Fault) → OutputsStop s g x ⊎ (x ≡ Read) ⊎ (x ≡ Memory) → StopsAudit s f x ⊎ (x ≡ Read) ⊎ (x ≡ Memory)
  outputs_cause x (inl stop) = inl (inr ((captures, are_captures), inl (back (λ k. OutputsStop s k x) f g same stop)))
  outputs_cause x (inr other) = inr other

  module _ (outputs : List PortFrames) (are_outputs : AreOutputs s g outputs) (h : Files) (same_h : SameFiles f h) where
    pub journal_cause : (x : Fault) → JournalStops s h x ⊎ (x ≡ Read) ⊎ (x ≡ Memory) → StopsAudit s f x ⊎ (x ≡ Read) ⊎ (x ≡ Memory)
    journal_cause x (inl stop) =
        inl (inr ((captures, are_captures), inr ((outputs, back (λ k. AreOutputs s k outputs) f g same are_outputs), inl (back (λ k. JournalStops s k x) f h same_h stop))))
    journal_cause x (inr other) = inr other

    module _ (journal : List (List ℕ)) (are_entries : AreEntries s h journal) (i : Files) (same_i : SameFiles f i) where
      pub trace_cause : (x : Fault) → TraceStops s i x ⊎ (x ≡ Read) ⊎ (x ≡ Memory) → StopsAudit s f x ⊎ (x ≡ Read) ⊎ (x ≡ Memory)
      trace_cause x (inl stop) =
          inl (inr (
            (captures, are_captures),
            inr (
              (outputs, back (λ k. AreOutputs s k outputs) f g same are_outputs),
              inr (
                (journal, back (λ k. AreEntries s k journal) f h same_h are_entries),
                inl (back (λ k. TraceStops s k x) f i same_i stop),
              ),
            ),
          ))
      trace_cause x (inr other) = inr other

      pub all_seen : (lines : List TraceLine) → AreLines s i lines → IsSeen s f (record { captures = captures; outputs = outputs; journal = journal; lines = lines })
      all_seen lines are_lines = record {
        captures = are_captures;
        outputs = back (λ k. AreOutputs s k outputs) f g same are_outputs;
        journal = back (λ k. AreEntries s k journal) f h same_h are_entries;
        lines = back (λ k. AreLines s k lines) f i same_i are_lines;
      }

-- ---- what is found
abbrev Finds : Evidence → Fault → Type 0
Finds e fault = ((r : ℕ) × IsRule r × IsLowestBroken e r × (fault ≡ Illegal r)) ⊎ (fault ≡ Memory)

-- what is said of it, and which faults it can be
pub legal_says : (e : Evidence) (n : ℕ) (o : Result (String Global) Fault) → IfOk o (λ text. IsLegal e × (string_bytes text ≡ legal_line n)) → IfOk o (λ text. (k : ℕ) × (string_bytes text ≡ legal_line k))
legal_says e n (Ok text) found = (n, found.1)
legal_says e n (Err fault) found = tt

pub judged_of : (e : Evidence) (o : Result (String Global) Fault) → IfErr o (Finds e) → IfErr o IsOfAudit
judged_of e (Ok text) finds = tt
judged_of e (Err x) (inl (r, rule, lowest, is)) = subst IsOfAudit (sym is) rule
judged_of e (Err x) (inr memory) = subst IsOfAudit (sym memory) tt

module _ (t : Topology) (f : Files) (x : Seen) (is : IsSeen (scope_of t) f x) where
  pub legal_found : (a : List PortFrames) (b : List (List ℕ)) (c : List TraceLine) (d : List PortFrames) → a ≡ x.captures → b ≡ x.journal → c ≡ x.lines → d ≡ x.outputs
      → (o : Result (String Global) Fault) → IfOk o (λ text. IsLegal (files_by t.setup a b c d) × (string_bytes text ≡ legal_line (length c))) → IfOk o (λ text. IsFoundLegal (scope_of t) f (string_bytes text))
  legal_found a b c d ea eb ec ed (Err fault) found = tt
  legal_found a b c d ea eb ec ed (Ok text) (legal, says) = record {
    seen = x;
    is = is;
    legal =
        subst (λ v. IsLegal (files_by t.setup x.captures x.journal x.lines v)) ed
        (subst (λ v. IsLegal (files_by t.setup x.captures x.journal v d)) ec
        (subst (λ v. IsLegal (files_by t.setup x.captures v c d)) eb (subst (λ v. IsLegal (files_by t.setup v b c d)) ea legal)));
    says = says ∙ ap (λ (v : List TraceLine). legal_line (length v)) ec;
  }

  found_by : (fault : Fault) → ((r : ℕ) × IsRule r × IsLowestBroken (evidence_of (scope_of t) x) r × (fault ≡ Illegal r)) ⊎ (fault ≡ Memory)
      → StopsAudit (scope_of t) f fault ⊎ (fault ≡ Read) ⊎ (fault ≡ Memory)
  found_by fault (inl (r, rule, lowest, illegal)) =
      inl (inr ((x.captures, is.captures), inr ((x.outputs, is.outputs), inr ((x.journal, is.journal), inr (x, is, r, lowest, illegal)))))
  found_by fault (inr memory) = inr (inr memory)

  pub broken_found : (a : List PortFrames) (b : List (List ℕ)) (c : List TraceLine) (d : List PortFrames) → a ≡ x.captures → b ≡ x.journal → c ≡ x.lines → d ≡ x.outputs
      → (o : Result (String Global) Fault) → IfErr o (λ fault. ((r : ℕ) × IsRule r × IsLowestBroken (files_by t.setup a b c d) r × (fault ≡ Illegal r)) ⊎ (fault ≡ Memory))
      → IfErr o (λ fault. StopsAudit (scope_of t) f fault ⊎ (fault ≡ Read) ⊎ (fault ≡ Memory))
  broken_found a b c d ea eb ec ed (Ok text) found = tt
  broken_found a b c d ea eb ec ed (Err fault) found = found_by fault
      (subst (λ v. Finds (files_by t.setup x.captures x.journal x.lines v) fault) ed
      (subst (λ v. Finds (files_by t.setup x.captures x.journal v d) fault) ec
      (subst (λ v. Finds (files_by t.setup x.captures v c d) fault) eb (subst (λ v. Finds (files_by t.setup v b c d) fault) ea found))))
