-- The end of a run: what it wrote and counted is what the input calls for.
use Rattle.std.proofs.Common.{◌≡◌, ℕ, ◌<◌, ◌^◌, Bool, true, List, [], Option, Some, None, length, All, get_or, refl, ap, sym, subst, ◌∙◌, arith}
use Rattle.exb_model.specs.Texts.{summary_line}
use Rattle.exb_world.specs.WorldContracts.{Network}
use Rattle.exb_shelf.specs.Files.{Files, Filled}
use Rattle.exb_journal.specs.Tallies.{counts_of}
use Rattle.exb_journal.specs.declared.file_names.OutputKind.{OutputKind}
use Rattle.exb_outputs.proofs.FileRows.{weaker}
use Rattle.exb_outputs.specs.Manifests.{output_name}
use Rattle.exb_outputs.specs.WrittenTexts.{HasTexts, pieces_of}
use Rattle.exb_outputs.proofs.TextUpdates.{end_written}
use Rattle.exb_outputs.specs.TextUpdates.{with_end}
use Rattle.exb_play.specs.Outputs.{HasPlayed}
use Rattle.exb_play.specs.BridgeRuns.{CanBeKept, HasTold, IsAllTold, Player, Run}
use Rattle.exb_play.proofs.ReadBack.{moments-fit, numbers-then}
use Rattle.std.proofs.lemmas.Bool.{false≢true}
use Rattle.exb_model.specs.declared.event.Event.{Event}
use Rattle.exb_model.specs.EagerHistory.{eager}
use Rattle.exb_model.specs.FlatBridge.{flat}
use Rattle.exb_model.specs.History.{History, ◌then◌}
use Rattle.exb_model.specs.Input.{Input, Mode, Eager, basis_of, tree_of, segments}
use Rattle.exb_model.specs.LegalHistory.{Legal}
use Rattle.exb_model.specs.Texts.{counts}
use Rattle.exb_model.specs.Traces.{TraceLine}
use Rattle.exb_model.specs.Tree.{Shape, IsTree, is_external}
use Rattle.exb_counters.specs.declared.counters.Counters.{Counters}
use Rattle.exb_counters.specs.Counters.{count_text}
use Rattle.exb_world_spec.specs.Runs.PassedFrames.{passed_over}
use Rattle.exb_net_laws.specs.CountersGoOn.{CountsGoOn}
use Rattle.exb_world_spec.specs.TraceLines.{all_told}
use Rattle.exb_world_spec.specs.Worlds.{Left, left_at}
use Rattle.exb_world_laws.specs.SegmentRuns.{IsTimely}
use Rattle.exb_world.specs.WorldContracts.{Network}
use Rattle.exb_world_laws.specs.Runs.SegmentRuns.{HasWrittenIn, PlaysIn, RunsAreUnderWay, RunsSayPassed, RunsWriteEagerly, RunsWriteLegally}
use Rattle.exb_trace_laws.specs.RunTraces.{RunsTellLegally}
use Rattle.exb_play.specs.Outputs.{IsTraceOf}
use Rattle.exb_outputs.specs.KindTexts.{output_text, text_so_far}
use Rattle.exb_outputs.specs.declared.outputs.Outputs.{Outputs}
use Rattle.exb_outputs.specs.CaptureSizes.{HasSent, capture_size}
use Rattle.exb_outputs.specs.Manifests.{Listed, kind_at, output_count}
use Rattle.exb_outputs.specs.Counts.{AreCounted, counts_so_far, counts_text, counts_with}
use Rattle.exb_outputs.proofs.PortCounts.{counts_end, port_whole}
use Rattle.exb_outputs.proofs.KindPlaces.{kind_is}
use Rattle.exb_outputs.proofs.HistoryCounts.{LeftExternal, counts-whole}
use Rattle.exb_outputs.proofs.PortPlaces.{external_low}
use Rattle.exb_outputs.proofs.TextPrefixes.{whole_is}

module _ (tells : Type 0) (r : Run) (p : Player) (all : IsAllTold tells r p) (is_tree : IsTree p.manifest.tree) (timely : IsTimely r.input) (under_way : RunsAreUnderWay) (legally : RunsWriteLegally) where
  abbrev m : Mode
  m = p.mode

  abbrev i : Input
  i = r.input

  abbrev manifest : Listed
  manifest = p.manifest

  abbrev tree : p.manifest.tree ≡ tree_of r.input
  tree = all.is.tree

  abbrev n : Network
  n = p.world

  abbrev told : List Event
  told = all.is.told.events

  abbrev passed : List Bool
  passed = all.is.told.passed

  abbrev gone : List Left
  gone = all.is.told.left

  abbrev lines : List TraceLine
  lines = all.is.told.lines

  abbrev played : HasTold p.mode r.input (segments p.mode r.input) p.world all.is.told
  played = all.is.played

  written : HasWrittenIn m i played.done
  written = legally m i played.done timely played.plays

  same-history : ([] then told) ≡ ([] then played.done.events)
  same-history = ap (λ (es : List Event). [] then es) played.told

  -- the history is legal
  legal : Legal m i ([] then told)
  legal = subst (Legal m i) (sym same-history) written.journal

  -- and in an eager run the eager one
  eagerly : RunsWriteEagerly → m ≡ Eager → ([] then told) ≡ eager i
  eagerly law is = same-history ∙ (law i played.done timely (subst (λ (k : Mode). PlaysIn k i (segments k i) played.done) is played.plays)).journal

  -- its trace is legal
  trace : RunsTellLegally → n.log.tracing ≡ true → IsTraceOf i ([] then told) lines
  trace law on =
      subst (λ (ls : List TraceLine). IsTraceOf i ([] then told) ls) (sym (played.traced on))
      (subst (λ (g : History). IsTraceOf i g (all_told played.done.lines)) (sym same-history) (law m i played.done timely played.plays))

  sent : (q : ℕ) → is_external (tree_of i) q ≡ true → left_at q gone ≡ flat (basis_of i) ([] then told) q
  sent q is = ap (left_at q) played.gone ∙ written.captures q is ∙ ap (λ (g : History). flat (basis_of i) g q) (sym same-history)

  -- the text of its counters
  counters-whole : (ports : Option Counters) (o : Outputs) → AreCounted manifest ports told passed → HasSent manifest o (λ q. left_at q gone) → ((q : ℕ) → capture_size (left_at q gone) < 2 ^ 64) → CountsGoOn → RunsSayPassed → manifest.options.counters ≡ true → counts_text manifest ports o ≡ count_text (tree_of i) (basis_of i) ([] then told)
  counters-whole None o are has room go_on says asked = absurd (false≢true (sym are ∙ asked))
  counters-whole (Some c) o are has room go_on says asked =
      counts_end (tree_of i) (basis_of i) told passed gone go_on (played.said ∙ says m i played.done timely played.plays ∙ ap (passed_over (basis_of i) []) (sym played.told)) sent manifest.tree tree (counts_with manifest o c)
      (λ q low out. port_whole manifest o c told passed gone q low out (are.2 q (are.1 q low out)) has (room q))

  -- its texts
  texts-whole : (ports : Option Counters) (o : Outputs) → AreCounted manifest ports told passed → HasSent manifest o (λ q. left_at q gone) → ((q : ℕ) → capture_size (left_at q gone) < 2 ^ 64) → CountsGoOn → RunsSayPassed →
      (j : ℕ) → j < output_count manifest → text_so_far told gone lines (counts_text manifest ports o) (kind_at manifest j) ≡ output_text i ([] then told) lines (kind_at manifest j)
  texts-whole ports o are has room go_on says j low =
      whole_is i manifest.options manifest.tree told gone lines (counts_text manifest ports o) (λ q out. sent q (ap (λ (t : Shape). is_external t q) (sym tree) ∙ out)) (counters-whole ports o are has room go_on says)
      (kind_at manifest j) (kind_is manifest j low).made

  own : All (LeftExternal (tree_of i)) gone
  own k d low =
      let same : (get_or gone k d) ≡ get_or played.done.left k d = ap (λ (xs : List Left). get_or xs k d) played.gone in
      let size = ap (λ (xs : List Left). length xs) played.gone in
      let copy = (under_way m i (segments m i) played.done played.plays).copies k d (omega (arith, low, size)) in
      let port : is_external (tree_of i) (get_or gone k d).port ≡ true = ap (λ (x : Left). is_external (tree_of i) x.port) same ∙ copy.port in
      record { port = port; low = external_low manifest.tree (get_or gone k d).port is_tree (ap (λ (t : Shape). is_external t (get_or gone k d).port) tree ∙ port) }

  -- its counts
  counts-end : counts_so_far told gone ≡ counts (tree_of i) (basis_of i) ([] then told)
  counts-end = counts-whole (tree_of i) (basis_of i) ([] then told) told gone refl sent own

  -- so all was played
  pub has-played : tells → CanBeKept (segments p.mode r.input) → RunsWriteEagerly → RunsTellLegally → CountsGoOn → RunsSayPassed → (now : Files) (line : List ℕ) → line ≡ summary_line (counts_of p.counted.tally) →
      ((orig : Files) (text : OutputKind → List ℕ) → HasTexts p.manifest (pieces_of p.outputs) orig p.disk.files text
      → Filled orig now (output_count p.manifest) (output_name p.manifest) (λ j bytes. bytes ≡ with_end text p.manifest p.counted.ports p.outputs (kind_at p.manifest j))) →
      HasPlayed p.mode r.input p.manifest r.before now line
  has-played t kept eager_law trace_law go_on says now line line_is texts = record {
    history = [] then told;
    lines = lines;
    legal = legal;
    back = record { valid = played.plays.valid; numbers = numbers-then told all.is.numbers; moments = moments-fit m i ([] then told) legal kept };
    bytes = all.is.bytes;
    eager = eagerly eager_law;
    trace = λ on. trace trace_law (all.is.tracing ∙ on);
    outputs = weaker r.before now (output_count manifest) (output_name manifest) (λ j bytes. bytes ≡ with_end (text_so_far told gone lines []) manifest p.counted.ports p.outputs (kind_at manifest j))
        (λ j bytes. bytes ≡ output_text i ([] then told) lines (kind_at manifest j)) (texts r.before (text_so_far told gone lines []) (all.is.texts t))
        (λ j bytes low is. is ∙ end_written told gone lines manifest p.counted.ports p.outputs (kind_at manifest j) ∙ texts-whole p.counted.ports p.outputs all.is.counted.ports all.is.sent all.room go_on says j low);
    says = line_is ∙ ap summary_line (all.is.counted.tally ∙ counts-end);
  }
