-- Runs that ended early: what they leave is a front of what the whole eager run writes.
use Rattle.std.proofs.Common.{◌≡◌, ℕ, ◌++◌, true, List, [], ◌∷◌, flat_map, Result, Ok, Err, refl, ap, sym, subst, ◌∙◌, append_assoc}
use Rattle.std.specs.Prelude.{IfOk, OnErr, String, string_bytes, Option}
use Rattle.std.specs.declared.alloc.Global.{Global}
use Rattle.std.proofs.lemmas.List.{append-nil}
use Rattle.exb_model.specs.declared.event.Event.{Event}
use Rattle.exb_model.specs.EagerHistory.{eager}
use Rattle.exb_model.specs.FlatBridge.{Sent, sent_by, flat}
use Rattle.exb_model.specs.History.{Basis, History, ◌then◌, bridge_after}
use Rattle.exb_model.specs.Input.{Input, Mode, Eager, Segment, basis_of, tree_of, segments}
use Rattle.exb_model.specs.Learning.{learned}
use Rattle.exb_model.specs.Texts.{capture_text, journal_text, record_text}
use Rattle.exb_model.specs.Tree.{Shape, is_external}
use Rattle.exb_world_spec.specs.Worlds.{left_at}
use Rattle.exb_world_laws.specs.SegmentRuns.{IsTimely}
use Rattle.exb_world.specs.WorldContracts.{Network}
use Rattle.exb_bridge.specs.BridgeWorlds.{all_left}
use Rattle.exb_world_laws.specs.Runs.SegmentRuns.{HasWrittenFront, RunsWriteFronts}
use Rattle.exb_shelf.specs.Files.{Files}
use Rattle.exb_journal.specs.declared.file_names.OutputKind.{OutputKind}
use Rattle.exb_outputs.specs.KindTexts.{AreCutEagerly, GrowsEagerly, output_text, text_so_far}
use Rattle.exb_play.specs.Outputs.{HasPlayed}
use Rattle.exb_outputs.specs.Manifests.{output_name, Listed, IsMade, kind_at, output_count}
use Rattle.exb_play.specs.BridgeRuns.{HasTold, IsCutOff, IsTold, Player, Run, Told, ◌with◌}
use Rattle.exb_outputs.specs.WrittenTexts.{AreCut, HasTexts, lines_of, pieces_of}
use Rattle.exb_outputs.proofs.OutputPrefixes.{GoesOnAs, cut_now, cut_same, cut_whole, longer}
use Rattle.exb_outputs.proofs.FileRows.{weaker}
use Rattle.exb_outputs.proofs.KindPlaces.{kind_is}
use Rattle.exb_outputs.proofs.TextUpdates.{text-more, texts-with, end_written}
use Rattle.exb_outputs.proofs.TextGrowth.{capture_text-append, journal_text-then}
use Rattle.exb_outputs.proofs.TextPrefixes.{but_the_trace, goes_eagerly}
use Rattle.exb_counters.specs.declared.counters.Counters.{Counters}
use Rattle.exb_outputs.specs.Counts.{counts_text}
use Rattle.exb_outputs.specs.TextUpdates.{with_end}

-- ---- where it ends
-- before the next segment is played
pub cut_before : (tells : Type 0) (r : Run) (p : Player) (so_far rest : List Segment) → tells → IsTold tells r p so_far → segments p.mode r.input ≡ so_far ++ rest → IsCutOff p.mode r p.manifest p.disk.files
cut_before tells r p so_far rest t is segments_are = record {
  tree = is.tree;
  so_far = so_far;
  rest = rest;
  segments_are = segments_are;
  network = p.world;
  told = is.told;
  played = is.played;
  tracing = is.tracing;
  counts = [];
  cut = cut_now p.manifest r.before p.disk.files (pieces_of p.outputs) (text_so_far is.told.events is.told.left is.told.lines []) (is.texts t);
}

-- while what it told is written
pub cut_amid : (m : Mode) (r : Run) (manifest : Listed) (now : Files) (so_far rest : List Segment) (v : Network) (t : Told) → manifest.tree ≡ tree_of r.input → segments m r.input ≡ so_far ++ rest →
    v.log.tracing ≡ manifest.options.trace → HasTold m r.input so_far v (t with v.log) → AreCut manifest r.before now (texts-with t.events v.log.events t.left v.log.left t.lines v.log.lines) → IsCutOff m r manifest now
cut_amid m r manifest now so_far rest v t tree segments_are tracing played cut = record {
  tree = tree;
  so_far = so_far;
  rest = rest;
  segments_are = segments_are;
  network = v;
  told = t with v.log;
  played = played;
  tracing = tracing;
  counts = [];
  cut = cut_same manifest r.before now (texts-with t.events v.log.events t.left v.log.left t.lines v.log.lines) (text_so_far (t.events ++ v.log.events) (t.left ++ all_left v.log.left) (t.lines ++ v.log.lines) [])
      (text-more t.events v.log.events t.left v.log.left t.lines v.log.lines) cut;
}

-- while what is left of all is written
pub cut_at_end : (tells : Type 0) (r : Run) (p : Player) (now : Files) → tells → (is : IsTold tells r p (segments p.mode r.input)) → (ports : Option Counters) →
    ((orig : Files) (text : OutputKind → List ℕ) → HasTexts p.manifest (pieces_of p.outputs) orig p.disk.files text → AreCut p.manifest orig now (with_end text p.manifest ports p.outputs)) → IsCutOff p.mode r p.manifest now
cut_at_end tells r p now t is ports cut =
    let told = is.told in
    record {
      tree = is.tree;
      so_far = segments p.mode r.input;
      rest = [];
      segments_are = sym (append-nil (segments p.mode r.input));
      network = p.world;
      told = told;
      counts = counts_text p.manifest ports p.outputs;
      played = is.played;
      tracing = is.tracing;
      cut = cut_same p.manifest r.before now (with_end (text_so_far told.events told.left told.lines []) p.manifest ports p.outputs) (text_so_far told.events told.left told.lines (counts_text p.manifest ports p.outputs))
          (end_written told.events told.left told.lines p.manifest ports p.outputs) (cut r.before (text_so_far told.events told.left told.lines []) (is.texts t));
    }

-- ---- texts of a longer history
flat_later : (b : Basis) (q : ℕ) (es : List Event) (h : History) → (more : List Sent) × (flat b (h then es) q ≡ flat b h q ++ more)
unfolding flat
flat_later b q [] h = ([], sym (append-nil (flat b h q)))
flat_later b q (e ∷ es) h =
    let now : List Sent = sent_by (bridge_after b h) (learned b h) e q in
    let r = flat_later b q es (e ∷ h) in
    (now ++ r.0, r.1 ∙ append_assoc (flat b h q) now r.0)

module _ (law : RunsWriteFronts) (r : Run) (manifest : Listed) (now : Files) (timely : IsTimely r.input) (k : IsCutOff Eager r manifest now) where
  written : HasWrittenFront r.input k.played.done
  written = law r.input k.so_far k.rest k.played.done timely k.segments_are k.played.plays

  history : eager r.input ≡ (([] then k.told.events) then written.more)
  history = written.journal ∙ ap (λ (es : List Event). ([] then es) then written.more) (sym k.played.told)

  capture_goes : (q : ℕ) → is_external (tree_of r.input) q ≡ true → (more : List ℕ) × (capture_text (flat (basis_of r.input) (eager r.input) q) ≡ capture_text (left_at q k.told.left) ++ more)
  capture_goes q ext =
      let b : Basis = basis_of r.input in
      let later = flat_later b q written.more ([] then k.told.events) in
      let left : left_at q k.told.left ≡ flat b ([] then k.told.events) q =
      ap (left_at q) k.played.gone ∙ (written.captures q ext ∙ ap (λ (es : List Event). flat b ([] then es) q) (sym k.played.told)) in (
        flat_map record_text later.0,
        ap (λ (h : History). capture_text (flat b h q)) history ∙ (ap capture_text (later.1 ∙ ap (λ (xs : List Sent). xs ++ later.0) (sym left)) ∙ capture_text-append (left_at q k.told.left) later.0),
      )

  journal_goes : (more : List ℕ) × (journal_text (eager r.input) ≡ journal_text ([] then k.told.events) ++ more)
  journal_goes = (lines_of written.more, ap journal_text history ∙ journal_text-then ([] then k.told.events) written.more)

  goes : (o : OutputKind) → IsMade manifest.options manifest.tree o → GrowsEagerly o → GoesOnAs (text_so_far k.told.events k.told.left k.told.lines k.counts) (output_text r.input (eager r.input) []) o
  goes = goes_eagerly r.input manifest.options manifest.tree k.told.events k.told.left k.told.lines k.counts (λ q out. capture_goes q (ap (λ (t : Shape). is_external t q) (sym k.tree) ∙ out)) journal_goes

  -- of a run that ended early
  whole : AreCutEagerly r.input manifest r.before now
  whole j low grows = longer r.before now manifest j (text_so_far k.told.events k.told.left k.told.lines k.counts) (output_text r.input (eager r.input) []) (goes (kind_at manifest j) (kind_is manifest j low).made grows) (k.cut.each j low)

pub cut_eagerly : (law : RunsWriteFronts) (r : Run) (manifest : Listed) (now : Files) → IsTimely r.input → IsCutOff Eager r manifest now → AreCutEagerly r.input manifest r.before now
cut_eagerly law r manifest now timely k = whole law r manifest now timely k

-- of one that played all
pub played_eagerly : (i : Input) (manifest : Listed) (f g : Files) (line : List ℕ) → HasPlayed Eager i manifest f g line → AreCutEagerly i manifest f g
played_eagerly i manifest f g line played =
    but_the_trace i manifest played.lines f g
    (cut_whole manifest f g (output_text i (eager i) played.lines)
    (weaker f g (output_count manifest) (output_name manifest) (λ j bytes. bytes ≡ output_text i played.history played.lines (kind_at manifest j)) (λ j bytes. bytes ≡ output_text i (eager i) played.lines (kind_at manifest j)) played.outputs
    (λ j bytes l is. is ∙ ap (λ (h : History). output_text i h played.lines (kind_at manifest j)) (played.eager refl))))

-- however it ended
pub ended_eagerly : {E : Type 0} (law : RunsWriteFronts) (m : Mode) (r : Run) (manifest : Listed) (now : Files) (o : Result (String Global) E) → m ≡ Eager → IsTimely r.input
    → IfOk o (λ line. HasPlayed m r.input manifest r.before now (string_bytes line)) → OnErr o (IsCutOff m r manifest now) → AreCutEagerly r.input manifest r.before now
ended_eagerly law m r manifest now (Ok line) is timely played cut =
    played_eagerly r.input manifest r.before now (string_bytes line) (subst (λ (k : Mode). HasPlayed k r.input manifest r.before now (string_bytes line)) is played)
ended_eagerly law m r manifest now (Err x) is timely played cut = cut_eagerly law r manifest now timely (subst (λ (k : Mode). IsCutOff k r manifest now) is cut)
