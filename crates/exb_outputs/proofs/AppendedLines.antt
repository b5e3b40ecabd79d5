-- Lines behind the file of a kind, one after another.
use Rattle.std.proofs.Common.{◌≡◌, ◌<◌, ◌+◌, ◌++◌, ℕ, List, [], ◌∷◌, length, take, get_or, refl, drop}
use Rattle.exb_model.specs.declared.event.Event.{Event}
use Rattle.exb_model.specs.Texts.{line_of}
use Rattle.exb_model.specs.Traces.{TraceLine, trace_line, trace_text}
use Rattle.exb_shelf.specs.Files.{Files}
use Rattle.exb_journal.specs.declared.file_names.OutputKind.{OutputKind}
use Rattle.exb_journal.specs.declared.file_names.OutputKind.TheVariants as output
use Rattle.exb_counters.specs.declared.counters.Counts5.{Counts5}
use Rattle.exb_counters.specs.Counters.{count_line, count_lines}
use Rattle.exb_outputs.specs.Manifests.{Listed}
use Rattle.exb_outputs.specs.WrittenTexts.{HasTexts, with_more, lines_of, AreCut}
use Rattle.exb_outputs.proofs.WrittenTexts.{more_behind, texts_more}
use Rattle.exb_outputs.proofs.OutputPrefixes.{cut_behind, texts_in_parts}

-- the line of one event more
pub more_lines : (manifest : Listed) (f g : Files) (pieces : List (List ℕ)) (text : OutputKind → List ℕ) (events : List Event) (i : ℕ) (e : Event)
    → i < length events → e ≡ get_or events i e
    → HasTexts manifest pieces f g (with_more (with_more text output.Journal (lines_of (take i events))) output.Journal (line_of e ++ 10 ∷ []))
    → HasTexts manifest pieces f g (with_more text output.Journal (lines_of (take (i + 1) events)))
more_lines manifest f g pieces text events i e inside is =
    more_behind manifest f g pieces text output.Journal (lines_of (take i events)) (line_of e ++ 10 ∷ []) (lines_of (take (i + 1) events))
    (texts_more (λ (x : Event). line_of x ++ 10 ∷ []) events i e inside is)

-- one line of the trace more
pub no_trace : trace_text [] ≡ []
unfolding trace_text
no_trace = refl

pub trace_more : (lines : List TraceLine) (i : ℕ) (one : TraceLine) → i < length lines → one ≡ get_or lines i one
    → trace_text (take i lines) ++ (trace_line one ++ 10 ∷ []) ≡ trace_text (take (i + 1) lines)
unfolding trace_text
trace_more lines i one inside is = texts_more (λ (x : TraceLine). trace_line x ++ 10 ∷ []) lines i one inside is

pub more_trace : (manifest : Listed) (f g : Files) (pieces : List (List ℕ)) (text : OutputKind → List ℕ) (lines : List TraceLine) (i : ℕ) (one : TraceLine)
    → i < length lines → one ≡ get_or lines i one
    → HasTexts manifest pieces f g (with_more (with_more text output.Trace (trace_text (take i lines))) output.Trace (trace_line one ++ 10 ∷ []))
    → HasTexts manifest pieces f g (with_more text output.Trace (trace_text (take (i + 1) lines)))
more_trace manifest f g pieces text lines i one inside is =
    more_behind manifest f g pieces text output.Trace (trace_text (take i lines)) (trace_line one ++ 10 ∷ []) (trace_text (take (i + 1) lines))
    (trace_more lines i one inside is)

-- and one line of the counters
pub more_counts : (manifest : Listed) (f g : Files) (pieces : List (List ℕ)) (text : OutputKind → List ℕ) (counts : ℕ → Counts5) (ports : List ℕ) (i q : ℕ)
    → i < length ports → q ≡ get_or ports i q
    → HasTexts manifest pieces f g (with_more (with_more text output.Counters (count_lines counts (take i ports))) output.Counters (count_line q (counts q)))
    → HasTexts manifest pieces f g (with_more text output.Counters (count_lines counts (take (i + 1) ports)))
more_counts manifest f g pieces text counts ports i q inside is =
    more_behind manifest f g pieces text output.Counters (count_lines counts (take i ports)) (count_line q (counts q)) (count_lines counts (take (i + 1) ports))
    (texts_more (λ (p : ℕ). count_line p (counts p)) ports i q inside is)

pub cut_lines : (manifest : Listed) (f g : Files) (text : OutputKind → List ℕ) (events : List Event) (i : ℕ) (e : Event) → i < length events → e ≡ get_or events i e
    → AreCut manifest f g (with_more (with_more text output.Journal (lines_of (take i events))) output.Journal (line_of e ++ 10 ∷ []))
    → AreCut manifest f g (with_more text output.Journal (lines_of events))
cut_lines manifest f g text events i e inside is =
    cut_behind manifest f g text output.Journal (lines_of (take i events)) (line_of e ++ 10 ∷ []) (lines_of (drop (i + 1) events)) (lines_of events)
    (texts_in_parts (λ (x : Event). line_of x ++ 10 ∷ []) events i e inside is)

trace_in_parts : (lines : List TraceLine) (i : ℕ) (one : TraceLine) → i < length lines → one ≡ get_or lines i one
    → (trace_text (take i lines) ++ (trace_line one ++ 10 ∷ [])) ++ trace_text (drop (i + 1) lines) ≡ trace_text lines
unfolding trace_text
trace_in_parts lines i one inside is = texts_in_parts (λ (x : TraceLine). trace_line x ++ 10 ∷ []) lines i one inside is

pub cut_trace : (manifest : Listed) (f g : Files) (text : OutputKind → List ℕ) (lines : List TraceLine) (i : ℕ) (one : TraceLine) → i < length lines → one ≡ get_or lines i one
    → AreCut manifest f g (with_more (with_more text output.Trace (trace_text (take i lines))) output.Trace (trace_line one ++ 10 ∷ []))
    → AreCut manifest f g (with_more text output.Trace (trace_text lines))
cut_trace manifest f g text lines i one inside is =
    cut_behind manifest f g text output.Trace (trace_text (take i lines)) (trace_line one ++ 10 ∷ []) (trace_text (drop (i + 1) lines)) (trace_text lines)
    (trace_in_parts lines i one inside is)

counts_in_parts : (counts : ℕ → Counts5) (ports : List ℕ) (i q : ℕ) → i < length ports → q ≡ get_or ports i q
    → (count_lines counts (take i ports) ++ count_line q (counts q)) ++ count_lines counts (drop (i + 1) ports) ≡ count_lines counts ports
counts_in_parts counts ports i q inside is = texts_in_parts (λ (p : ℕ). count_line p (counts p)) ports i q inside is

pub cut_counts : (manifest : Listed) (f g : Files) (text : OutputKind → List ℕ) (counts : ℕ → Counts5) (ports : List ℕ) (i q : ℕ) → i < length ports → q ≡ get_or ports i q
    → AreCut manifest f g (with_more (with_more text output.Counters (count_lines counts (take i ports))) output.Counters (count_line q (counts q)))
    → AreCut manifest f g (with_more text output.Counters (count_lines counts ports))
cut_counts manifest f g text counts ports i q inside is =
    cut_behind manifest f g text output.Counters (count_lines counts (take i ports)) (count_line q (counts q)) (count_lines counts (drop (i + 1) ports)) (count_lines counts ports)
    (counts_in_parts counts ports i q inside is)
