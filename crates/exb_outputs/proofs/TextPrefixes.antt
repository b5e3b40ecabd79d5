-- The texts of all kinds: fronts of those of an eager history, and those so far over a history.
use Rattle.std.proofs.Common.{◌≡◌, ℕ, ◌++◌, true, List, [], flat_map, refl, ap, subst, ◌∙◌}
use Rattle.exb_model.specs.EagerHistory.{eager}
use Rattle.exb_model.specs.FlatBridge.{Sent, flat}
use Rattle.exb_model.specs.History.{History, ◌then◌}
use Rattle.exb_model.specs.Input.{Input, basis_of, tree_of}
use Rattle.exb_model.specs.Texts.{journal_text, record_text, capture_text}
use Rattle.exb_model.specs.Traces.{TraceLine, trace_text}
use Rattle.exb_shelf.specs.Files.{Files}
use Rattle.exb_journal.specs.declared.file_names.OutputKind.{OutputKind}
use Rattle.exb_journal.specs.declared.file_names.OutputKind.TheVariants as output
use Rattle.exb_counters.specs.Counters.{count_text}
use Rattle.exb_outputs.specs.KindTexts.{AreCutEagerly, GrowsEagerly, output_text, IsWrittenAlong, text_so_far}
use Rattle.exb_outputs.specs.OutputNames.{IsCut}
use Rattle.exb_outputs.specs.Manifests.{output_name, Listed, kind_at, IsMade}
use Rattle.exb_outputs.specs.WrittenTexts.{AreCut, HasTexts, first_text}
use Rattle.exb_outputs.proofs.OutputPrefixes.{GoesOnAs, cut_longer, cut_now}
use Rattle.exb_outputs.proofs.TextGrowth.{capture_text-append, capture_text-nil}
use Rattle.exb_model.specs.declared.event.Event.{Event}
use Rattle.exb_model.specs.Tree.{Shape, is_external}
use Rattle.exb_world_spec.specs.Worlds.{Left, left_at}
use Rattle.exb_cli.specs.declared.invocations.Options.{Options}

-- the text of a kind that grows is no matter of the trace
any_lines : (i : Input) (h : History) (lines : List TraceLine) (o : OutputKind) → GrowsEagerly o → output_text i h lines o ≡ output_text i h [] o
any_lines i h lines (output.Capture q) grows = refl
any_lines i h lines output.Journal grows = refl
any_lines i h lines output.Trace grows = absurd grows
any_lines i h lines output.Counters grows = absurd grows

pub but_the_trace : (i : Input) (manifest : Listed) (lines : List TraceLine) (f g : Files) → AreCut manifest f g (output_text i (eager i) lines) → AreCutEagerly i manifest f g
but_the_trace i manifest lines f g p j low grows =
    subst (λ (text : List ℕ). IsCut (f (output_name manifest j)) (g (output_name manifest j)) text) (any_lines i (eager i) lines (kind_at manifest j) grows) (p.each j low)

-- of one that made its outputs alone
pub made_eagerly : (i : Input) (manifest : Listed) (f g : Files) → ((text : OutputKind → List ℕ) → AreCut manifest f g text) → AreCutEagerly i manifest f g
made_eagerly i manifest f g cut = but_the_trace i manifest [] f g (cut (output_text i (eager i) []))

first_goes : (i : Input) (o : OutputKind) → GoesOnAs first_text (output_text i (eager i) []) o
first_goes i (output.Capture q) =
    let sent : List Sent = flat (basis_of i) (eager i) q in
    (flat_map record_text sent, capture_text-append [] sent ∙ ap (λ (xs : List ℕ). xs ++ flat_map record_text sent) capture_text-nil)
first_goes i output.Journal = (journal_text (eager i), refl)
first_goes i output.Trace = (trace_text [], refl)
first_goes i output.Counters = (count_text (tree_of i) (basis_of i) (eager i), refl)

pub begun_eagerly : (i : Input) (manifest : Listed) (f g : Files) (pieces : List (List ℕ)) → HasTexts manifest pieces f g first_text → AreCutEagerly i manifest f g
begun_eagerly i manifest f g pieces held =
    but_the_trace i manifest [] f g (cut_longer manifest f g first_text (output_text i (eager i) []) (λ j l. first_goes i (kind_at manifest j)) (cut_now manifest f g pieces first_text held))

-- ---- texts so far and over a history
-- where what has left goes on, and so does the journal, the texts that grow do
pub goes_eagerly : (i : Input) (options : Options) (t : Shape) (told : List Event) (gone : List Left) (lines : List TraceLine) (counts : List ℕ)
    → ((q : ℕ) → is_external t q ≡ true → (more : List ℕ) × (capture_text (flat (basis_of i) (eager i) q) ≡ capture_text (left_at q gone) ++ more))
    → (more : List ℕ) × (journal_text (eager i) ≡ journal_text ([] then told) ++ more)
    → (o : OutputKind) → IsMade options t o → GrowsEagerly o → GoesOnAs (text_so_far told gone lines counts) (output_text i (eager i) []) o
goes_eagerly i options t told gone lines counts captures journal (output.Capture q) made grows = captures q made
goes_eagerly i options t told gone lines counts captures journal output.Journal made grows = journal
goes_eagerly i options t told gone lines counts captures journal output.Trace made grows = absurd grows
goes_eagerly i options t told gone lines counts captures journal output.Counters made grows = absurd grows

-- what is written along is that of the history that was told
pub along_is : (i : Input) (options : Options) (t : Shape) (told : List Event) (gone : List Left) (lines : List TraceLine) (counts : List ℕ)
    → ((q : ℕ) → is_external t q ≡ true → left_at q gone ≡ flat (basis_of i) ([] then told) q)
    → (o : OutputKind) → IsMade options t o → IsWrittenAlong o → text_so_far told gone lines counts o ≡ output_text i ([] then told) lines o
along_is i options t told gone lines counts sent (output.Capture q) made along = ap capture_text (sent q made)
along_is i options t told gone lines counts sent output.Journal made along = refl
along_is i options t told gone lines counts sent output.Trace made along = refl
along_is i options t told gone lines counts sent output.Counters made along = absurd along

-- and with the counters all is
pub whole_is : (i : Input) (options : Options) (t : Shape) (told : List Event) (gone : List Left) (lines : List TraceLine) (counts : List ℕ)
    → ((q : ℕ) → is_external t q ≡ true → left_at q gone ≡ flat (basis_of i) ([] then told) q)
    → (options.counters ≡ true → counts ≡ count_text (tree_of i) (basis_of i) ([] then told))
    → (o : OutputKind) → IsMade options t o → text_so_far told gone lines counts o ≡ output_text i ([] then told) lines o
whole_is i options t told gone lines counts sent counted (output.Capture q) made = ap capture_text (sent q made)
whole_is i options t told gone lines counts sent counted output.Journal made = refl
whole_is i options t told gone lines counts sent counted output.Trace made = refl
whole_is i options t told gone lines counts sent counted output.Counters made = counted made
