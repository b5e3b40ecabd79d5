-- What is counted of captures while they are written: records and bytes.
use Rattle.std.specs.Prelude.{◌≡◌, ◌≢◌, ◌≤◌, ◌<◌, ◌+◌, ◌*◌, ◌^◌, ◌==◌, ◌++◌, true, ℕ, List, [], ◌∷◌, length, map, if◌then◌else◌, slice_index}
use Rattle.exb_model.specs.FlatBridge.{Sent}
use Rattle.exb_model.specs.Tree.{is_external}
use Rattle.exb_counters.specs.Counters.{octets_of}
use Rattle.exb_outputs.specs.declared.outputs.Outputs.{Outputs}
use Rattle.exb_outputs.specs.Manifests.{Listed, place_in}

-- ---- what was counted
-- how many records were put behind each output, as they were counted
abbrev pub records_of : Outputs → List ℕ
records_of o = map (λ f. f.records) o.files.items

-- how many bytes the text of each has: those that are written, as they were counted, and those that are not
abbrev pub sizes_of : Outputs → List ℕ
sizes_of o = map (λ f. f.written + length f.piece.items) o.files.items

-- the same of the capture of port q
abbrev pub frames_at : Listed → Outputs → ℕ → ℕ
frames_at manifest o q = slice_index (records_of o) (place_in manifest.tree q)

abbrev pub size_at : Listed → Outputs → ℕ → ℕ
size_at manifest o q = slice_index (sizes_of o) (place_in manifest.tree q)

-- An output got so many bytes, and all others are as they were. Bytes are counted as far as 64 bits do.
pub record GrowsAt (at bytes : ℕ) (old new : Outputs) : Type 0 where
  pub records : (j : ℕ) → slice_index (records_of new) j ≡ slice_index (records_of old) j
  pub others : (j : ℕ) → j ≢ at → slice_index (sizes_of new) j ≡ slice_index (sizes_of old) j
  pub here : slice_index (sizes_of old) at + bytes < 2 ^ 64 → slice_index (sizes_of new) at
      ≡ slice_index (sizes_of old) at + bytes

-- what was counted of each capture is the same
pub record SameCaptures (manifest : Listed) (old new : Outputs) : Type 0 where
  pub each : (q : ℕ) → q < 4160 → is_external manifest.tree q ≡ true
      → (frames_at manifest new q ≡ frames_at manifest old q) × (size_at manifest new q ≡ size_at manifest old q)

-- ---- frames
-- how many bytes a capture of these frames has: 24 before the first record, and 16 before each frame
abbrev pub capture_size : List Sent → ℕ
capture_size xs = 24 + 16 * length xs + octets_of xs

-- These frames were put into the capture of each external port: records and bytes are counted, as far as 64 bits do.
pub record HasSent (manifest : Listed) (o : Outputs) (sent : ℕ → List Sent) : Type 0 where
  pub each : (q : ℕ) → q < 4160 → is_external manifest.tree q ≡ true → capture_size (sent q) < 2 ^ 64
      → (frames_at manifest o q ≡ length (sent q)) × (size_at manifest o q ≡ capture_size (sent q))

-- with one frame more at port p
abbrev pub sent_more : (ℕ → List Sent) → ℕ → Sent → ℕ → List Sent
sent_more sent p x q = if p == q then sent q ++ x ∷ [] else sent q

-- ---- where all is counted
-- the bytes of a capture are all counted, and are no fewer than those beside its frames
pub record IsCountedAt (manifest : Listed) (o : Outputs) (q : ℕ) : Type 0 where
  pub whole : 24 + 16 * frames_at manifest o q ≤ size_at manifest o q
  pub fits : size_at manifest o q < 2 ^ 64

abbrev pub AreCountedAt : Listed → Outputs → Type 0
AreCountedAt manifest o = (q : ℕ) → q < 4160 → is_external manifest.tree q ≡ true → IsCountedAt manifest o q
