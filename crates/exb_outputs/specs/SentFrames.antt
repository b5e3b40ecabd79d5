-- What leaves, into the captures of its ports.
use Rattle.std.specs.Prelude.{ℕ, List, ◌++◌, All, flat_map}
use Rattle.exb_model.specs.FlatBridge.{Sent}
use Rattle.exb_world_spec.specs.Worlds.{Left as Leaving, left_at}
use Rattle.exb_model.specs.Texts.{record_text}
use Rattle.exb_outbox.specs.declared.log.Left.{Left}
use Rattle.exb_bridge.specs.BridgeWorlds.{all_left, copies_of}
use Rattle.exb_journal.specs.declared.file_names.OutputKind.{OutputKind}
use Rattle.exb_journal.specs.declared.file_names.OutputKind.TheVariants as output
use Rattle.exb_outputs.specs.Manifests.{Listed}
use Rattle.exb_outputs.specs.WrittenTexts.{CanBeRecorded}

-- the texts, where each capture has what left its port
abbrev pub with_copies : (OutputKind → List ℕ) → List Leaving → OutputKind → List ℕ
with_copies text gone (output.Capture q) = text (output.Capture q) ++ flat_map record_text (left_at q gone)
with_copies text gone output.Journal = text output.Journal
with_copies text gone output.Trace = text output.Trace
with_copies text gone output.Counters = text output.Counters

abbrev pub with_left_frames : (OutputKind → List ℕ) → List Left → OutputKind → List ℕ
with_left_frames text left = with_copies text (all_left left)

-- the frames that were put into each capture, with what left its port
abbrev pub sent_with_copies : (ℕ → List Sent) → List Leaving → ℕ → List Sent
sent_with_copies sent gone q = sent q ++ left_at q gone

abbrev pub sent_with : (ℕ → List Sent) → List Left → ℕ → List Sent
sent_with sent left = sent_with_copies sent (all_left left)

-- a frame that can be written: it left external ports, below 2^32 seconds
abbrev pub CanBeWritten : Listed → Left → Type 0
CanBeWritten manifest x = All (λ (y : Leaving). CanBeRecorded manifest y.port y.moment y.bytes) (copies_of x)
