-- The outputs while they are written: each file, followed by the piece that is not written yet, is its
-- text so far.
use Rattle.std.specs.Prelude.{◌≡◌, ◌<◌, ◌*◌, ◌^◌, ◌++◌, true, ℕ, List, [], ◌∷◌, Option, Some, None, map, flat_map, length, if◌then◌else◌, slice_index, slice_index_or}
use Rattle.exb_model.specs.declared.event.Event.{Event}
use Rattle.exb_model.specs.Tree.{is_external}
use Rattle.exb_model.specs.Texts.{capture_header, line_of}
use Rattle.exb_shelf.specs.Files.{Files, Cut, Filled}
use Rattle.exb_journal.specs.declared.file_names.OutputKind.{OutputKind}
use Rattle.exb_shelf.specs.Shelf.{Id, writing}
use Rattle.exb_outputs.specs.declared.outputs.Outputs.{Outputs}
use Rattle.exb_cli.specs.Kinds.{is_same, port_of}
use Rattle.exb_outputs.specs.Manifests.{Listed, kind_at, output_count, output_name}

-- the ids of their files
abbrev pub ids_of : Outputs → List ℕ
ids_of o = map (λ f. f.id) o.files.items

-- the pieces that are not written yet
abbrev pub pieces_of : Outputs → List (List ℕ)
pieces_of o = map (λ f. f.piece.items) o.files.items

-- the file of output j, followed by its piece, is its text
abbrev pub Holds : List (List ℕ) → (ℕ → List ℕ) → ℕ → List ℕ → Type 0
Holds pieces text j bytes = bytes ++ slice_index_or pieces j [] ≡ text j

-- each output has the text of its kind, and no other file has changed
abbrev pub HasTexts : Listed → List (List ℕ) → Files → Files → (OutputKind → List ℕ) → Type 0
HasTexts manifest pieces old new text = Filled old new (output_count manifest) (output_name manifest)
    (Holds pieces (λ j. text (kind_at manifest j)))

-- each output is as it was or holds a front of the text of its kind, and no other file has changed
abbrev pub AreCut : Listed → Files → Files → (OutputKind → List ℕ) → Type 0
AreCut manifest old new text = Cut old new (output_count manifest) (output_name manifest)
    (λ j. text (kind_at manifest j))

-- the outputs of a manifest, each with an id of its file
pub record IsReady (manifest : Listed) (given : ℕ → Id) (o : Outputs) : Type 0 where
  pub files : length o.files.items ≡ output_count manifest
  pub named : (j : ℕ) → j < output_count manifest → given (slice_index (ids_of o) j) ≡ writing (output_name manifest j)

-- what the outputs begin with: captures with their header
abbrev pub first_at : Option ℕ → List ℕ
first_at (Some q) = capture_header
first_at None = []

abbrev pub first_text : OutputKind → List ℕ
first_text o = first_at (port_of o)

-- the texts, where that of one kind has this more
abbrev pub with_more : (OutputKind → List ℕ) → OutputKind → List ℕ → OutputKind → List ℕ
with_more text o more k = if is_same o k then text k ++ more else text k

-- the lines of events, in order
abbrev pub lines_of : List Event → List ℕ
lines_of events = flat_map (λ e. line_of e ++ 10 ∷ []) events

-- a frame whose record can be written in a capture: it left an external port, below 2^32 seconds
pub record CanBeRecorded (manifest : Listed) (q time : ℕ) (frame : List ℕ) : Type 0 where
  pub port : is_external manifest.tree q ≡ true
  pub low : q < 4160
  pub moment : time < 2 ^ 32 * 1_000_000_000
  pub bytes : length frame < 2 ^ 32
