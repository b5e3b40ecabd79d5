-- The texts of what was told and has left, with more.
use Rattle.std.proofs.Common.{◌≡◌, ℕ, ◌+◌, ◌==◌, Bool, true, false, List, [], ◌∷◌, ◌++◌, length, refl, ap, sym, ◌∙◌, arith, length-append}
use Rattle.std.specs.Prelude.{Option, if◌then◌else◌}
use Rattle.std.proofs.lemmas.Grind.{flat_map-append}
use Rattle.std.proofs.lemmas.List.Sums.{fold-append}
use Rattle.exb_model.specs.declared.event.Event.{Event}
use Rattle.exb_model.specs.declared.event.Event.TheVariants as event
use Rattle.exb_model.specs.FlatBridge.{Sent}
use Rattle.exb_model.specs.History.{History, ◌then◌}
use Rattle.exb_model.specs.Texts.{Counts, with_left, counted, capture_text, journal_text}
use Rattle.exb_model.specs.Traces.{TraceLine, trace_line, trace_text}
use Rattle.exb_world_spec.specs.Worlds.{Left as Leaving, left_at}
use Rattle.exb_bridge.specs.BridgeWorlds.{all_left}
use Rattle.exb_outbox.specs.declared.log.Left.{Left}
use Rattle.exb_journal.specs.declared.file_names.OutputKind.{OutputKind}
use Rattle.exb_journal.specs.declared.file_names.OutputKind.TheVariants as output
use Rattle.exb_journal.specs.Tallies.{nothing_counted}
use Rattle.exb_counters.specs.declared.counters.Counters.{Counters}
use Rattle.exb_outputs.specs.declared.outputs.Outputs.{Outputs}
use Rattle.exb_outputs.specs.Manifests.{Listed}
use Rattle.exb_outputs.specs.Counts.{counts_so_far, counts_text}
use Rattle.exb_outputs.specs.TextUpdates.{with_end, with_told}
use Rattle.exb_outputs.specs.KindTexts.{text_so_far}
use Rattle.exb_outputs.specs.WrittenTexts.{first_text, with_more}
use Rattle.exb_outputs.proofs.HistoryCounts.{count_events}
use Rattle.exb_outputs.proofs.AppendedLines.{no_trace}
use Rattle.exb_outputs.proofs.TextGrowth.{capture_text-append, capture_text-nil, journal_text-then}

-- ---- texts
then-append : (h : History) (xs ys : List Event) → (h then (xs ++ ys)) ≡ ((h then xs) then ys)
then-append h [] ys = refl
then-append h (x ∷ xs) ys = then-append (x ∷ h) xs ys

pub left_at-append : (q : ℕ) (xs ys : List Leaving) → left_at q (xs ++ ys) ≡ left_at q xs ++ left_at q ys
left_at-append q [] ys = refl
left_at-append q (x ∷ xs) ys = by_port (x.port == q) (left_at-append q xs ys)
  where
    by_port : (b : Bool) → left_at q (xs ++ ys) ≡ left_at q xs ++ left_at q ys →
        (if b then (x.moment, x.bytes) ∷ left_at q (xs ++ ys) else left_at q (xs ++ ys)) ≡ (if b then (x.moment, x.bytes) ∷ left_at q xs else left_at q xs) ++ left_at q ys
    by_port true rest = ap (λ (ss : List Sent). (x.moment, x.bytes) ∷ ss) rest
    by_port false rest = rest

trace_text-append : (xs ys : List TraceLine) → trace_text (xs ++ ys) ≡ trace_text xs ++ trace_text ys
unfolding trace_text
trace_text-append xs ys = flat_map-append (λ (l : TraceLine). trace_line l ++ 10 ∷ []) xs ys

module _ (told more : List Event) (gone : List Leaving) (xs : List Left) (lines new : List TraceLine) where
  -- the texts with what was told, has left and was traced more
  abbrev pub texts-with : OutputKind → List ℕ
  texts-with = with_told (text_so_far told gone lines []) more xs new

  pub text-more : (o : OutputKind) → texts-with o ≡ text_so_far (told ++ more) (gone ++ all_left xs) (lines ++ new) [] o
  text-more (output.Capture q) = sym (ap capture_text (left_at-append q gone (all_left xs)) ∙ capture_text-append (left_at q gone) (left_at q (all_left xs)))
  text-more output.Journal = sym (ap journal_text (then-append [] told more) ∙ journal_text-then ([] then told) more)
  text-more output.Trace = sym (trace_text-append lines new)
  text-more output.Counters = refl

-- before anything is told
journal-none : journal_text [] ≡ []
unfolding journal_text
journal-none = refl

pub text-first : (o : OutputKind) → first_text o ≡ text_so_far [] [] [] [] o
text-first (output.Capture q) = sym capture_text-nil
text-first output.Journal = sym journal-none
text-first output.Trace = sym no_trace
text-first output.Counters = refl

-- the counters are written at the end
pub counts_written : (told : List Event) (gone : List Leaving) (lines : List TraceLine) (counts : List ℕ) (o : OutputKind) → with_more (text_so_far told gone lines []) output.Counters counts o ≡ text_so_far told gone lines counts o
counts_written told gone lines counts (output.Capture q) = refl
counts_written told gone lines counts output.Journal = refl
counts_written told gone lines counts output.Trace = refl
counts_written told gone lines counts output.Counters = refl

pub end_written : (told : List Event) (gone : List Leaving) (lines : List TraceLine) (manifest : Listed) (ports : Option Counters) (outs : Outputs) (o : OutputKind)
    → with_end (text_so_far told gone lines []) manifest ports outs o ≡ text_so_far told gone lines (counts_text manifest ports outs) o
end_written told gone lines manifest ports outs o = counts_written told gone lines (counts_text manifest ports outs) o

-- ---- counts
left-aside : (es : List Event) (n : ℕ) (c : Counts) → count_events (with_left n c) es ≡ with_left n (count_events c es)
left-aside [] n c = refl
left-aside (e ∷ es) n c = ap (λ (d : Counts). count_events d es) (one e) ∙ left-aside es n (counted e c)
  where
    one : (x : Event) → counted x (with_left n c) ≡ with_left n (counted x c)
    one (event.Relay p k m f) = refl
    one (event.Ignored p k) = refl
    one (event.Tick s) = refl
    one (event.Commit k) = refl
    one (event.Refuse k x) = refl
    one (event.Up p) = refl
    one (event.NoUp p x) = refl
    one event.Settled = refl

pub counts-more : (told more : List Event) (gone : List Leaving) (xs : List Left) →
    with_left (length (all_left xs)) (count_events (counts_so_far told gone) more) ≡ counts_so_far (told ++ more) (gone ++ all_left xs)
counts-more told more gone xs =
    let c : Counts = count_events nothing_counted told in
    let d : Counts = count_events c more in
    let size : d.left + length gone + length (all_left xs) ≡ d.left + length (gone ++ all_left xs) = (let all = length-append gone (all_left xs) in omega (arith, all)) in
    ap (with_left (length (all_left xs))) (left-aside more (length gone) c)
    ∙ ap (λ n. record d { left = n }) size
    ∙ ap (with_left (length (gone ++ all_left xs))) (sym (fold-append (λ (b : Counts) (e : Event). counted e b) nothing_counted told more))
