-- After a run with a trace nothing stops an audit of what it wrote.
use mathlib.Core.Path.{fun_ext}
use Rattle.std.proofs.Common.{◌≡◌, ◌≢◌, ◌⊎◌, ◌==◌, ◌||◌, if◌then◌else◌, inl, inr, ℕ, true, false, List, [], Option, Some, None, map, refl, ap, sym, subst, ◌∙◌}
use Rattle.std.specs.Prelude.{is_some}
use Rattle.std.proofs.lemmas.Bool.{cases_eq, false≢true, ne_eqb}
use Rattle.exb_model.specs.FlatBridge.{flat}
use Rattle.exb_model.specs.Input.{Input, Record, basis_of, given_by}
use Rattle.exb_model.specs.Setup.{shape_of}
use Rattle.exb_model.specs.Texts.{capture_text}
use Rattle.exb_world_spec.proofs.Setups.{few_ports}
use Rattle.exb_capture.specs.Captures.{capture_records, records_or_none}
use Rattle.exb_trace_spec.specs.JournalLines.{journal_of}
use Rattle.exb_trace_spec.specs.InputFrames.{frames_in, frames_out}
use Rattle.exb_trace_spec.specs.LegalTrace.{LegalTrace}
use Rattle.exb_shelf.specs.Files.{Files, bytes_of}
use Rattle.exb_shelf.specs.Shelf.{Faults, Rose}
use Rattle.exb_journal.specs.FileNames.{file_name, trace_name}
use Rattle.exb_topology.specs.declared.topology.Topology.{Topology}
use Rattle.exb_topology.specs.Soundness.{IsApart, IsSound, ReadIsSound}
use Rattle.exb_cli.specs.declared.invocations.Options.{Options}
use Rattle.exb_cli.specs.CommandLines.{Audit}
use Rattle.exb_inputs.specs.declared.fault.Fault.{Fault}
use Rattle.exb_inputs.specs.Answers.{HoldsTopology}
use Rattle.exb_inputs.specs.CaptureChecks.{AreAllGood, IsGood, IsGoodNamed}
use Rattle.exb_inputs.specs.Inputs.{bytes_named, input_of, name_of, records_at}
use Rattle.exb_inputs.proofs.UniqueRefusal.{held_not}
use Rattle.exb_audit_files.specs.Scopes.{scope_of}
use Rattle.exb_audit_files.specs.RunFiles.{AreWithin, FindsLegal, IsWritten, RunsAreFoundLegal}
use Rattle.exb_run.specs.AuditsAfterRuns.{AuditsFollowRuns, AuditsWell, EndsBy}
use Rattle.exb_run.specs.Answers.{IsOfInput, Stops, mode_for}
use Rattle.exb_run.specs.OpenedFiles.{manifest_for}
use Rattle.exb_run.specs.Outputs.{IsPlayed, IsTraced}
use Rattle.exb_outputs.proofs.KindPlaces.{made_of_port}
use Rattle.exb_outputs.proofs.OutputNames.{of_kind}
use Rattle.exb_inputs.proofs.CaptureFaults.{name_by}
use Rattle.exb_run.proofs.UniqueFault.{stops_of}

-- ---- what stays
module _ (t : Topology) (options : Options) (old new : Files) (line : List ℕ) (sound : IsSound t) (p : IsPlayed (mode_for options.seed) options (input_of t old) t.prefix old new line) where
  -- a capture that is named is none of the outputs
  capture_kept : (q : ℕ) (name : List ℕ) → name_of t.captures q ≡ Some name → new name ≡ old name
  capture_kept q name e =
      let apart : IsApart (shape_of t.setup) t.prefix name = name_by (IsApart (shape_of t.setup) t.prefix) t.captures q name sound.apart e in
      p.others name (λ o made. of_kind (manifest_for t options) (λ k. name ≢ file_name t.prefix k) apart o made (made_of_port options (shape_of t.setup) o p.back.valid.tree made))

  -- so the captures are as good, and give the same input
  good_by : (q : ℕ) (o : Option (List ℕ)) → name_of t.captures q ≡ o → IsGoodNamed o old → IsGoodNamed o new
  good_by q None e good = tt
  good_by q (Some name) e (told, is) = (told, subst (λ (x : Option (List ℕ)). IsGood x told) (sym (capture_kept q name e)) is)

  all_good : AreAllGood t.captures old → AreAllGood t.captures new
  all_good good q low = good_by q (name_of t.captures q) refl (good q low)

  records_by : (q : ℕ) (o : Option (List ℕ)) → name_of t.captures q ≡ o
      → (if is_some o then records_or_none (capture_records (bytes_named new o)) else []) ≡ (if is_some o then records_or_none (capture_records (bytes_named old o)) else [])
  records_by q None e = refl
  records_by q (Some name) e = ap (λ (x : Option (List ℕ)). records_or_none (capture_records (bytes_of x))) (capture_kept q name e)

  records_same : (q : ℕ) → records_at t.captures new q ≡ records_at t.captures old q
  records_same q = records_by q (name_of t.captures q) refl

  abbrev input_by : (ℕ → List Record) → Input
  input_by records = record { setup = t.setup; commands = map given_by t.commands; records = records }

  input_same : input_of t old ≡ input_of t new
  input_same = ap input_by (fun_ext λ q. sym (records_same q))

  -- what it wrote is what it wrote over that input
  written : (tr : IsTraced (input_of t old) p.history (new (trace_name t.prefix))) → IsWritten t new p.history tr.lines
  written tr = record {
    captures = λ q out. p.captures q out ∙ ap (λ (i : Input). Some (capture_text (flat (basis_of i) p.history q))) input_same;
    journal = p.journal;
    trace = tr.is;
    legal = subst (λ (i : Input). LegalTrace (shape_of t.setup) (journal_of p.history) (frames_in i) (frames_out i p.history) tr.lines) input_same tr.legal;
    bytes = tr.bytes;
    numbers = p.back.numbers;
    moments = p.back.moments;
  }

  finds : RunsAreFoundLegal → options.trace ≡ true → AreAllGood t.captures old → AreWithin (scope_of t) new → FindsLegal (scope_of t) new
  finds found traced good within =
      let tr = p.trace traced in
      found t new p.history tr.lines p.back.valid.tree (few_ports t.setup p.back.valid) sound (all_good good) within (written tr)

-- ---- what is answered
-- the statuses of an audit, but for those of faults
two-left : (n : ℕ) → (n == 0 || n == 1 || n == 3 || n == 4 || n == 5 || n == 6 || n == 7 || n == 11 || n == 12) ≡ true → n ≢ 3 → n ≢ 4 → n ≢ 5 → n ≢ 6 → n ≢ 7 → n ≢ 11 → n ≢ 12 → (n ≡ 0) ⊎ (n ≡ 1)
two-left n is n3 n4 n5 n6 n7 n11 n12 = elim (cases_eq n 0) [
  | inl zero ↦ inl zero
  | inr n0 ↦ elim (cases_eq n 1) [
    | inl one ↦ inr one
    | inr n1 ↦
        let none : false ≡ true =
        rw (ne_eqb n 0 n0, ne_eqb n 1 n1, ne_eqb n 3 n3, ne_eqb n 4 n4, ne_eqb n 5 n5, ne_eqb n 6 n6, ne_eqb n 7 n7, ne_eqb n 11 n11, ne_eqb n 12 n12) at is in
        absurd (false≢true none)
  ]
]

module _ (name : List ℕ) (file : Files) (never : (fault : Fault) → Stops (Some (Audit name)) file fault → ⊥) where
  not_of_input : (status : ℕ) (counted counts : Faults) (failed fails : ℕ) → EndsBy (Some (Audit name)) file status counted counts failed fails → IsOfInput status → ⊥
  not_of_input status counted counts failed fails is of_input = let (fault, stops, same) = is.first of_input in never fault stops

  ends : (status : ℕ) (counted counts : Faults) (failed fails : ℕ) → EndsBy (Some (Audit name)) file status counted counts failed fails → ¬ Rose counted.reads counts.reads → ¬ Rose failed fails
      → (status ≡ 0) ⊎ (status ≡ 1)
  ends status counted counts failed fails is reads sink =
      let not : IsOfInput status → ⊥ = not_of_input status counted counts failed fails is in
      two-left status is.status_is (λ e. not (subst IsOfInput (sym e) refl)) (λ e. not (subst IsOfInput (sym e) refl)) (λ e. not (subst IsOfInput (sym e) refl)) (λ e. reads (is.rose.six e))
      (λ e. elim (is.rose.seven e) [
        | inl wrote ↦ wrote.0
        | inr failed ↦ sink failed
      ]) (λ e. not (subst IsOfInput (sym e) refl)) (λ e. not (subst IsOfInput (sym e) refl))

stops_not : (name : List ℕ) (file : Files) (t : Topology) → HoldsTopology name file t → FindsLegal (scope_of t) file → (fault : Fault) → Stops (Some (Audit name)) file fault → ⊥
stops_not name file t holds legal fault (inl refused) = held_not name file t fault holds refused
stops_not name file t holds legal fault (inr stopped) = legal.never fault (stops_of name file t fault holds stopped)

pub audits_follow_runs : ReadIsSound → RunsAreFoundLegal → AuditsFollowRuns
audits_follow_runs sound_law found name options old new file run same =
    let t = run.done.topology in
    let held = run.done.ready.holds in
    let p = run.done.played in
    let sound : IsSound t = sound_law held.bytes t held.read in
    let holds : HoldsTopology name new t = record { bytes = held.bytes; there = p.others name (λ o made e. run.apart (o, made, e)) ∙ held.there; read = held.read } in
    let legal : FindsLegal (scope_of t) new = finds t options old new run.text sound p found run.traced run.done.ready.good run.within in
    let never = stops_not name new t holds legal in
    let well : AuditsWell name new = record { never = never; ends = ends name new never } in
    subst (λ (x : Files). AuditsWell name x) (sym (fun_ext λ n. same n)) well
