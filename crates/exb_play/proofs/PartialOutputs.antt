-- However a run ended, what it leaves are fronts of the texts of what it told so far.
use Rattle.std.proofs.Common.{◌≡◌, inl, inr, ℕ, true, List, [], Result, Ok, Err, length, ap, sym, subst, ◌∙◌}
use Rattle.std.specs.Prelude.{IfOk, OnErr, String, string_bytes}
use Rattle.std.specs.declared.alloc.Global.{Global}
use Rattle.std.proofs.Math.Seq.{take-length}
use Rattle.std.proofs.lemmas.List.{append-nil}
use Rattle.exb_model.specs.declared.event.Event.{Event}
use Rattle.exb_model.specs.History.{History, ◌then◌}
use Rattle.exb_model.specs.Input.{Input, Mode, basis_of, segments}
use Rattle.exb_model.specs.FlatBridge.{flat}
use Rattle.exb_model.specs.LegalHistory.{Legal}
use Rattle.exb_model.specs.Traces.{TraceLine}
use Rattle.exb_model.specs.Tree.{Shape, is_external}
use Rattle.exb_trace_spec.specs.InputFrames.{frames_in}
use Rattle.exb_world_spec.specs.TraceLines.{all_told}
use Rattle.exb_world_spec.specs.Worlds.{left_at}
use Rattle.exb_world_laws.specs.SegmentRuns.{IsTimely}
use Rattle.exb_trace_laws.specs.TracePrefixes.{HasToldSoFar, IsHistorySoFar, IsTraceSoFar, RunsTellSoFar}
use Rattle.exb_shelf.specs.Files.{Files}
use Rattle.exb_journal.specs.declared.file_names.OutputKind.{OutputKind}
use Rattle.exb_outputs.specs.Manifests.{IsMade, Listed, kind_at, output_name}
use Rattle.exb_outputs.specs.WrittenTexts.{AreCut, HasTexts, first_text}
use Rattle.exb_outputs.proofs.KindPlaces.{kind_is}
use Rattle.exb_outputs.proofs.OutputPrefixes.{cut_now, cut_whole}
use Rattle.exb_play.specs.Outputs.{HasPlayed, IsTraceOf}
use Rattle.exb_outputs.specs.OutputNames.{IsCut}
use Rattle.exb_outputs.specs.KindTexts.{output_text, IsWrittenAlong, text_so_far}
use Rattle.exb_play.specs.PartialOutputs.{AreCutSoFar, IsCutSoFar}
use Rattle.exb_play.specs.BridgeRuns.{IsCutOff, Run}
use Rattle.exb_outputs.proofs.TextPrefixes.{along_is}

-- ---- where a run ended early
module _ (law : RunsTellSoFar) (m : Mode) (r : Run) (manifest : Listed) (now : Files) (timely : IsTimely r.input) (k : IsCutOff m r manifest now) where
  so : HasToldSoFar m r.input k.played.done
  so = law m r.input k.so_far k.rest k.played.done timely k.segments_are k.played.plays

  same-history : ([] then k.played.done.events) ≡ ([] then k.told.events)
  same-history = ap (λ (es : List Event). [] then es) (sym k.played.told)

  trace_of : manifest.options.trace ≡ true → IsTraceSoFar r.input ([] then k.told.events) k.told.lines
  trace_of on =
      subst (λ (ls : List TraceLine). IsTraceSoFar r.input ([] then k.told.events) ls) (sym (k.played.traced (k.tracing ∙ on)))
      (subst (λ (h : History). IsTraceSoFar r.input h (all_told k.played.done.lines)) same-history so.trace)

  sent : (q : ℕ) → is_external manifest.tree q ≡ true → left_at q k.told.left ≡ flat (basis_of r.input) ([] then k.told.events) q
  sent q out = ap (left_at q) k.played.gone ∙ so.captures q (ap (λ (t : Shape). is_external t q) (sym k.tree) ∙ out) ∙ ap (λ (h : History). flat (basis_of r.input) h q) same-history

  text_is : (o : OutputKind) → IsMade manifest.options manifest.tree o → IsWrittenAlong o → text_so_far k.told.events k.told.left k.told.lines k.counts o ≡ output_text r.input ([] then k.told.events) k.told.lines o
  text_is = along_is r.input manifest.options manifest.tree k.told.events k.told.left k.told.lines k.counts sent

  pub cut-so-far : IsCutSoFar m r.input manifest r.before now
  cut-so-far = record {
    history = [] then k.told.events;
    lines = k.told.lines;
    told = subst (λ (h : History). IsHistorySoFar m r.input h) same-history so.journal;
    traced = trace_of;
    cut = λ j low along. subst (λ (text : List ℕ). IsCut (r.before (output_name manifest j)) (now (output_name manifest j)) text) (text_is (kind_at manifest j) (kind_is manifest j low).made along) (k.cut.each j low);
  }

-- ---- where all was played
whole-history : (m : Mode) (i : Input) (h : History) → Legal m i h → IsHistorySoFar m i h
whole-history m i h legal = record {
  so_far = segments m i;
  rest = [];
  segments_are = sym (append-nil (segments m i));
  legal = record {
    plays = legal.plays;
    segments_in_order = legal.segments_in_order;
    each_played = legal.each_played;
    refused_exactly = legal.refused_exactly;
    ports_in_order = legal.ports_in_order;
    relayed_exactly = legal.relayed_exactly;
  };
}

whole-trace : (i : Input) (h : History) (lines : List TraceLine) → IsTraceOf i h lines → IsTraceSoFar i h lines
whole-trace i h lines legal = record { came = frames_in i; firsts = λ p ext. (length (frames_in i p), sym (take-length (frames_in i p))); legal = legal }

pub cut-played : (m : Mode) (i : Input) (manifest : Listed) (f g : Files) (line : List ℕ) → HasPlayed m i manifest f g line → IsCutSoFar m i manifest f g
cut-played m i manifest f g line played = record {
  history = played.history;
  lines = played.lines;
  told = whole-history m i played.history played.legal;
  traced = λ on. whole-trace i played.history played.lines (played.trace on);
  cut = λ j low along. (cut_whole manifest f g (output_text i played.history played.lines) played.outputs).each j low;
}

-- ---- however it ended
pub ended-so-far : {E : Type 0} (law : RunsTellSoFar) (m : Mode) (r : Run) (manifest : Listed) (now : Files) (o : Result (String Global) E) → IsTimely r.input
    → IfOk o (λ line. HasPlayed m r.input manifest r.before now (string_bytes line)) → OnErr o (IsCutOff m r manifest now) → AreCutSoFar m r.input manifest r.before now
ended-so-far law m r manifest now (Ok line) timely played cut = inr (cut-played m r.input manifest r.before now (string_bytes line) played)
ended-so-far law m r manifest now (Err x) timely played cut = inr (cut-so-far law m r manifest now timely cut)

-- outputs that were made, and of which nothing is written
pub begun-so-far : (m : Mode) (i : Input) (manifest : Listed) (f g : Files) (pieces : List (List ℕ)) → HasTexts manifest pieces f g first_text → AreCutSoFar m i manifest f g
begun-so-far m i manifest f g pieces held = inl (λ j low along. (cut_now manifest f g pieces first_text held).each j low)

pub made-so-far : (m : Mode) (i : Input) (manifest : Listed) (f g : Files) → ((text : OutputKind → List ℕ) → AreCut manifest f g text) → AreCutSoFar m i manifest f g
made-so-far m i manifest f g cut = inl (λ j low along. (cut first_text).each j low)
