-- What a run wrote is read back, and is judged legal.
use Rattle.std.proofs.Common.{◌≡◌, List, [], ◌∷◌, map, refl, ap}
use Rattle.std.specs.Prelude.{All, Ok}
use Rattle.std.proofs.lemmas.List.Elements.{All-head, All-tail}
use Rattle.exb_model.specs.FlatBridge.{Sent, flat}
use Rattle.exb_model.specs.Input.{Record, basis_of, tree_of}
use Rattle.exb_model.specs.Texts.{capture_text}
use Rattle.exb_capture.specs.Classic.{pcap_records}
use Rattle.exb_capture.specs.OutputCaptures.{CanBeWritten, in_microseconds}
use Rattle.exb_trace_spec.specs.CheckerLaws.{AllAreJudged}
use Rattle.exb_trace_spec.specs.Traversals.{Each}
use Rattle.exb_trace_spec.specs.WritableLines.{HasBytes, LegalLinesAreSpelled}
use Rattle.exb_trace_spec.specs.RoundTrips.{IsOfNumbers, JournalsAreLines, TracesReadBack}
use Rattle.exb_audit.specs.Audits.{files_of, RunsAreAudited}
use Rattle.exb_audit.specs.FlatCaptures.{FlatCanBeWritten}

each_of : {A : Type 0} (P : A → Type 0) (xs : List A) → All P xs → Each P xs
each_of P [] k = tt
each_of P (x ∷ xs) k = (All-head P x xs k, each_of P xs (All-tail P x xs k))

same_frames : (xs : List Sent) → map (λ (r : Record). r.bytes) (map in_microseconds xs) ≡ map (λ (x : Sent). x.1) xs
same_frames [] = refl
same_frames ((t, f) ∷ xs) = ap (λ fs. f ∷ fs) (same_frames xs)

pub runs_are_audited : AllAreJudged → LegalLinesAreSpelled → JournalsAreLines → TracesReadBack → ((sent : List Sent) → All CanBeWritten sent → pcap_records (capture_text sent) ≡ Ok (map in_microseconds sent)) → FlatCanBeWritten → RunsAreAudited
runs_are_audited judged spelled journals traces written flat_written i h lines legal k =
    let numbers = each_of IsOfNumbers h k.numbers in
    let j = journals h numbers in
    record {
      read = record {
        told = j.cut;
        entries = j.read;
        lines = traces lines (spelled (tree_of i) h lines k.files.sized k.small legal.so_far.rule_1 (each_of HasBytes lines k.bytes) numbers);
        left = λ q out. record {
          records = map in_microseconds (flat (basis_of i) h q);
          read = written (flat (basis_of i) h q) (flat_written (basis_of i) h q k.moments);
          are = same_frames (flat (basis_of i) h q);
        };
      };
      legal = (judged (files_of i h lines) k.files).legal.1 legal;
    }
