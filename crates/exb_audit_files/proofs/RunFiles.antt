-- What a run of a topology wrote is found legal.
use mathlib.Core.Path.{fun_ext}
use Rattle.std.proofs.Common.{◌≡◌, ◌⊎◌, ◌<◌, ◌≤◌, ◌==◌, if◌then◌else◌, inl, inr, ℕ, suc, Bool, true, false, List, [], ◌∷◌, length, map, Option, Some, None, Result, Ok, Err, All, refl, ap, sym, subst, ◌∙◌, arith}
use Rattle.std.specs.Prelude.{is_some}
use Rattle.std.proofs.lemmas.Bool.{cases_lt, eqb-true}
use Rattle.std.proofs.lemmas.List.Elements.{All-head, All-tail}
use Rattle.exb_model.specs.FlatBridge.{Sent, flat}
use Rattle.exb_model.specs.History.{History}
use Rattle.exb_model.specs.Input.{Record, basis_of}
use Rattle.exb_model.specs.Ports.{all_ports}
use Rattle.exb_model.specs.Setup.{shape_of}
use Rattle.exb_model.specs.Texts.{capture_text, journal_text}
use Rattle.exb_model.specs.Traces.{TraceLine, trace_text}
use Rattle.exb_model.specs.Tree.{Shape, IsTree, is_external}
use Rattle.exb_model.proofs.Validity.{no_port_past}
use Rattle.exb_capture.specs.Captures.{capture_records, records_or_none}
use Rattle.exb_capture.specs.Classic.{pcap_records}
use Rattle.exb_capture.specs.declared.scans.Scanned.{Scanned}
use Rattle.exb_capture.specs.declared.scans.ScanFault.{ScanFault}
use Rattle.exb_capture.specs.Scans.{IsScan}
use Rattle.exb_capture.specs.OutputCaptures.{CanBeWritten, in_microseconds}
use Rattle.exb_audit.specs.declared.frames.PortFrames.{PortFrames}
use Rattle.exb_audit.specs.Frames.{frames_by}
use Rattle.exb_audit.specs.FlatCaptures.{FlatCanBeWritten}
use Rattle.exb_audit_files.specs.declared.port_files.PortFile.{PortFile}
use Rattle.exb_audit_files.specs.FrameFiles.{EachIsRead}
use Rattle.exb_audit_files.specs.Lines.{HoldsLines, IsJournal, IsTrace}
use Rattle.exb_trace_spec.specs.JournalLines.{journal_of}
use Rattle.exb_trace_spec.specs.InputFrames.{frames_in, frames_out}
use Rattle.exb_trace_spec.specs.LegalTrace.{LegalTrace}
use Rattle.exb_trace_spec.specs.Traversals.{Each}
use Rattle.exb_trace_spec.specs.Rules.{IsLegal}
use Rattle.exb_trace_spec.specs.WritableLines.{HasBytes, IsSmall, LegalLinesAreSpelled}
use Rattle.exb_trace_spec.specs.RoundTrips.{IsOfNumbers, JournalsAreLines, TracesReadBack}
use Rattle.exb_shelf.specs.Files.{Files, bytes_of}
use Rattle.exb_topology_tables.specs.declared.elements.Named.{Named}
use Rattle.exb_journal.specs.FileNames.{capture_name, journal_name, trace_name}
use Rattle.exb_topology.specs.declared.topology.Topology.{Topology}
use Rattle.exb_topology.specs.Soundness.{IsSound}
use Rattle.exb_inputs.specs.declared.fault.Fault.{Fault}
use Rattle.exb_inputs.specs.CaptureChecks.{AreAllGood, IsGoodNamed, most_bytes}
use Rattle.exb_inputs.specs.Inputs.{bytes_named, input_of, is_named, name_of}
use Rattle.exb_audit_files.specs.Audits.{IsSeen, Seen, StopsAudit, evidence_of, most}
use Rattle.exb_audit_files.specs.Scopes.{capture_file, capture_files, file_named, output_file, output_files, scope_of}
use Rattle.exb_audit_files.specs.RunFiles.{AreWithin, IsWritten, RunsAreFoundLegal}
use Rattle.exb_audit_files.proofs.KnownFrames.{AllGive, Gives, each_flat, first_not, frames_are, has_at, has_below, has_own}
use Rattle.exb_audit_files.proofs.UniqueEnd.{holds_all}
use Rattle.exb_audit_files.proofs.ToldFiles.{entries_not, entries_same, lines_not, lines_same}

each_of : {A : Type 0} (P : A → Type 0) (xs : List A) → All P xs → Each P xs
each_of P [] k = tt
each_of P (x ∷ xs) k = (All-head P x xs k, each_of P xs (All-tail P x xs k))

same_frames : (xs : List Sent) → map (λ (r : Record). r.bytes) (map in_microseconds xs) ≡ map (λ (x : Sent). x.1) xs
same_frames [] = refl
same_frames ((t, f) ∷ xs) = ap (λ fs. f ∷ fs) (same_frames xs)

-- a capture that is named has a port of which this is told of all
named_by : (test : ℕ → Bool) (names : List Named) (q : ℕ) → All (λ x. test x.port ≡ true) names → is_named names q ≡ true → test q ≡ true
named_by test [] q all is = absurd (cc)
named_by test (x ∷ xs) q all is = by_port (named_by test xs q (λ k d low. all (suc k) d (omega arith))) (x.port == q) refl is
  where
    by_port : (is_named xs q ≡ true → test q ≡ true) → (b : Bool) → (x.port == q) ≡ b → is_some (if x.port == q then Some x.name else name_of xs q) ≡ true → test q ≡ true
    by_port rest true e is' = ap test (sym (eqb-true x.port q e)) ∙ all 0 x (omega arith)
    by_port rest false e is' = rest (sym (ap (λ (b : Bool). is_some (if b then Some x.name else name_of xs q)) e) ∙ is')

low_port : (t : Shape) (q : ℕ) → IsTree t → is_external t q ≡ true → q < 4160
low_port t q tree is = elim (cases_lt q 4160) [
  | inl low ↦ low
  | inr past ↦ absurd (let none = no_port_past t q tree.sized past in cc)
]

-- the frames of a capture, by its name
abbrev frames_named : Files → Option (List ℕ) → List (List ℕ)
frames_named file o = map (λ (r : Record). r.bytes) (if is_some o then records_or_none (capture_records (bytes_named file o)) else [])

not_err : {x : Scanned} {f : ScanFault} → ◌≡◌ {A = Result Scanned ScanFault} (Ok x) (Err f) → ⊥
not_err e = cc

-- ---- the captures
module _ (t : Topology) (file : Files) (tree : IsTree (shape_of t.setup)) (sound : IsSound t) (good : AreAllGood t.captures file) where
  named_low : (p : ℕ) (name : List ℕ) → name_of t.captures p ≡ Some name → p < 4160
  named_low p name e = low_port (shape_of t.setup) p tree (named_by (is_external (shape_of t.setup)) t.captures p sound.captures (ap (λ (o : Option (List ℕ)). is_some o) e))

  held : (p : ℕ) (name : List ℕ) → name_of t.captures p ≡ Some name → (told : Scanned) (o : Option (List ℕ)) → file name ≡ o → IsScan most_bytes o (Ok told)
      → Gives capture_records file (record { port = p; name = name }) (frames_in (input_of t file) p)
  held p name e told None there (inl e1) = absurd (not_err e1)
  held p name e told None there (inr (inl e1)) = absurd (not_err e1)
  held p name e told None there (inr (inr e1)) = absurd (not_err e1)
  held p name e told (Some bytes) there scanned = record {
    bytes = bytes;
    there = there;
    records = scanned.records;
    is = scanned.read;
    are =
        sym (ap (frames_named file) e ∙ ap (λ (o : Option (List ℕ)). map (λ (r : Record). r.bytes) (records_or_none (capture_records (bytes_of o)))) there
        ∙ ap (λ r. map (λ (x : Record). x.bytes) (records_or_none r)) scanned.read);
  }

  capture_gives : (p : ℕ) → AllGive capture_records file (frames_in (input_of t file)) (capture_file t.captures p)
  capture_gives p = by_name (name_of t.captures p) refl
    where
      by_name : (o : Option (List ℕ)) → name_of t.captures p ≡ o → AllGive capture_records file (frames_in (input_of t file)) (file_named p o)
      by_name None e = tt
      by_name (Some name) e =
          let (told, is) = subst (λ (o : Option (List ℕ)). IsGoodNamed o file) e (good p (named_low p name e)) in
          (held p name e told (file name) refl is, tt)

  captures_give : AllGive capture_records file (frames_in (input_of t file)) (capture_files t.captures)
  captures_give = each_flat (λ (x : PortFile). Gives capture_records file x (frames_in (input_of t file) x.port)) (capture_file t.captures) all_ports capture_gives

  captures_are : (fs : List PortFrames) → EachIsRead capture_records file (capture_files t.captures) fs → (p : ℕ) → frames_by fs p ≡ frames_in (input_of t file) p
  captures_are fs read p = frames_are capture_records file (frames_in (input_of t file)) (capture_files t.captures) fs read captures_give p (by_name (name_of t.captures p) refl)
    where
      by_name : (o : Option (List ℕ)) → name_of t.captures p ≡ o → (has_at p (capture_files t.captures) ≡ true) ⊎ (frames_in (input_of t file) p ≡ [])
      by_name None e = inr (ap (frames_named file) e)
      by_name (Some name) e =
          inl (has_below (capture_file t.captures) p 4160 (named_low p name e) (ap (λ (o : Option (List ℕ)). has_at p (file_named p o)) e ∙ has_own p name))

  -- ---- what was written
  module _ (h : History) (lines : List TraceLine) (w : IsWritten t file h lines) (flat_written : FlatCanBeWritten) (written : (sent : List Sent) → All CanBeWritten sent → pcap_records (capture_text sent) ≡ Ok (map in_microseconds sent)) where
    abbrev sent_at : ℕ → List Sent
    sent_at q = flat (basis_of (input_of t file)) h q

    output_gives : (q : ℕ) → AllGive pcap_records file (frames_out (input_of t file) h) (output_file (shape_of t.setup) t.prefix q)
    output_gives q = by_test (is_external (shape_of t.setup) q) refl
      where
        by_test : (b : Bool) → is_external (shape_of t.setup) q ≡ b
            → AllGive pcap_records file (frames_out (input_of t file) h) (if b then record { port = q; name = capture_name t.prefix q } ∷ [] else [])
        by_test false e = tt
        by_test true e = (
          record {
            bytes = capture_text (sent_at q);
            there = w.captures q e;
            records = map in_microseconds (sent_at q);
            is = written (sent_at q) (flat_written (basis_of (input_of t file)) h q w.moments);
            are = same_frames (sent_at q);
          },
          tt,
        )

    outputs_give : AllGive pcap_records file (frames_out (input_of t file) h) (output_files (shape_of t.setup) t.prefix)
    outputs_give = each_flat (λ (x : PortFile). Gives pcap_records file x (frames_out (input_of t file) h x.port)) (output_file (shape_of t.setup) t.prefix) all_ports output_gives

    outputs_are : (fs : List PortFrames) → EachIsRead pcap_records file (output_files (shape_of t.setup) t.prefix) fs → (q : ℕ) → is_external (shape_of t.setup) q ≡ true
        → frames_by fs q ≡ frames_out (input_of t file) h q
    outputs_are fs read q out =
        frames_are pcap_records file (frames_out (input_of t file) h) (output_files (shape_of t.setup) t.prefix) fs read outputs_give q
        (inl (has_below (output_file (shape_of t.setup) t.prefix) q 4160 (low_port (shape_of t.setup) q tree out)
        (ap (λ (b : Bool). has_at q (if b then record { port = q; name = capture_name t.prefix q } ∷ [] else [])) out ∙ has_own q (capture_name t.prefix q))))

    module _ (small : IsSmall (shape_of t.setup)) (within : AreWithin (scope_of t) file) (spelled : LegalLinesAreSpelled) (journals : JournalsAreLines) (traces : TracesReadBack) where
      are_entries : HoldsLines IsJournal most (file (journal_name t.prefix)) (journal_of h)
      are_entries =
          let j = journals h (each_of IsOfNumbers h w.numbers) in
          record {
            text = journal_text h;
            there = w.journal;
            small = subst (λ (o : Option (List ℕ)). length (bytes_of o) ≤ most) w.journal within.journal;
            gives = record { cut = j.cut; entries = j.read };
          }

      are_lines : HoldsLines IsTrace most (file (trace_name t.prefix)) lines
      are_lines = record {
        text = trace_text lines;
        there = w.trace;
        small = subst (λ (o : Option (List ℕ)). length (bytes_of o) ≤ most) w.trace within.trace;
        gives = traces lines (spelled (shape_of t.setup) h lines tree.sized small w.legal.so_far.rule_1 (each_of HasBytes lines w.bytes) (each_of IsOfNumbers h w.numbers));
      }

      -- the rules ask of output files but those of external ports
      with_outputs : (outputs : ℕ → List (List ℕ)) → ((q : ℕ) → is_external (shape_of t.setup) q ≡ true → outputs q ≡ frames_out (input_of t file) h q)
          → LegalTrace (shape_of t.setup) (journal_of h) (frames_in (input_of t file)) outputs lines
      with_outputs outputs same = record {
        so_far = record {
          rule_1 = w.legal.so_far.rule_1;
          rule_2 = w.legal.so_far.rule_2;
          rule_3 = w.legal.so_far.rule_3;
          rule_4 = record { arrived = w.legal.so_far.rule_4.arrived; left = λ q out. w.legal.so_far.rule_4.left q out ∙ sym (same q out) };
          rule_5 = w.legal.so_far.rule_5;
        };
        empty = w.legal.empty;
      }

      seen_legal : (x : Seen) → IsSeen (scope_of t) file x → IsLegal (evidence_of (scope_of t) x)
      seen_legal x seen =
          let captures : frames_by x.captures ≡ frames_in (input_of t file) = fun_ext λ p. captures_are x.captures seen.captures.each p in
          let told = entries_same most (file (journal_name t.prefix)) x.journal (journal_of h) seen.journal are_entries in
          let traced = lines_same most (file (trace_name t.prefix)) x.lines lines seen.lines are_lines in
          subst (λ (j : List (List ℕ)). LegalTrace (shape_of t.setup) j (frames_by x.captures) (frames_by x.outputs) x.lines) (sym told)
          (subst (λ (ls : List TraceLine). LegalTrace (shape_of t.setup) (journal_of h) (frames_by x.captures) (frames_by x.outputs) ls) (sym traced)
          (subst (λ (c : ℕ → List (List ℕ)). LegalTrace (shape_of t.setup) (journal_of h) c (frames_by x.outputs) lines) (sym captures)
          (with_outputs (frames_by x.outputs) (outputs_are x.outputs seen.outputs.each))))

      never : (fault : Fault) → StopsAudit (scope_of t) file fault → ⊥
      never fault (inl (f, first, is)) = first_not capture_records file (frames_in (input_of t file)) most (capture_files t.captures) f captures_give within.captures first
      never fault (inr (captures, inl (f, first, is))) = first_not pcap_records file (frames_out (input_of t file) h) most (output_files (shape_of t.setup) t.prefix) f outputs_give within.outputs first
      never fault (inr (captures, inr (outputs, inl (f, bad, is)))) = entries_not most (file (journal_name t.prefix)) (journal_of h) f are_entries bad
      never fault (inr (captures, inr (outputs, inr (journal, inl (f, bad, is))))) = lines_not most (file (trace_name t.prefix)) lines f are_lines bad
      never fault (inr (captures, inr (outputs, inr (journal, inr (x, seen, r, lowest, is))))) = lowest.broken (holds_all (evidence_of (scope_of t) x) (seen_legal x seen) r)

pub runs_are_found_legal : LegalLinesAreSpelled → JournalsAreLines → TracesReadBack → ((sent : List Sent) → All CanBeWritten sent → pcap_records (capture_text sent) ≡ Ok (map in_microseconds sent)) → FlatCanBeWritten → RunsAreFoundLegal
runs_are_found_legal spelled journals traces written flat_written t file h lines tree small sound good within w = record {
  never = never t file tree sound good h lines w flat_written written small within spelled journals traces;
  legal = seen_legal t file tree sound good h lines w flat_written written small within spelled journals traces;
}
