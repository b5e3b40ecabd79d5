-- What is counted of outputs while they are written.
use Rattle.std.proofs.Common.{◌≡◌, ◌≢◌, ◌<◌, ◌≤◌, ◌+◌, ◌^◌, ◌%◌, ◌++◌, inl, inr, ℕ, true, List, [], ◌∷◌, length, get_or, set, map, slice_index, refl, ap, sym, ◌∙◌, arith, subst, eq-eqb, length-append, get_or-set_same, get_or-set_other}
use Rattle.std.proofs.Math.Nat.{mod-eq_of_lt}
use Rattle.std.proofs.Math.Seq.{get_or-append_seam}
use Rattle.std.proofs.lemmas.Bool.{cases_eq, cases_lt, ne_eqb}
use Rattle.std.proofs.lemmas.List.{get_or-map, get_or_append_left, length-map, length-set, map-set}
use Rattle.std.proofs.lemmas.List.Sums.{sum_by-append}
use Rattle.exb_model.specs.FlatBridge.{Sent}
use Rattle.exb_model.specs.Tree.{is_external}
use Rattle.exb_shelf.specs.Shelf.{Id}
use Rattle.exb_journal.specs.declared.file_names.OutputKind.{OutputKind}
use Rattle.exb_journal.specs.declared.file_names.OutputKind.TheVariants as output
use Rattle.exb_outputs.specs.declared.outputs.Outputs.{Outputs}
use Rattle.exb_outputs.specs.declared.outputs.OpenOutput.{OpenOutput}
use Rattle.exb_outputs.specs.Manifests.{Listed, kind_at, output_count, place_in, port_at, port_count}
use Rattle.exb_outputs.specs.CaptureSizes.{AreCountedAt, GrowsAt, HasSent, IsCountedAt, SameCaptures, capture_size, frames_at, records_of, sent_more, size_at, sizes_of}
use Rattle.exb_outputs.specs.WrittenTexts.{IsReady, first_text, ids_of}
use Rattle.exb_outputs.proofs.KindPlaces.{placed}
use Rattle.exb_outputs.proofs.PortPlaces.{place_low, place_of_port, port_of_place}

-- ---- values of files
abbrev pub size_of : OpenOutput → ℕ
size_of f = f.written + length f.piece.items

-- of one that was read
pub value_at : (of : OpenOutput → ℕ) (all : List OpenOutput) (at : ℕ) (was : OpenOutput) → at < length all → was ≡ get_or all at was → slice_index (map of all) at ≡ of was
value_at of all at was inside read = get_or-map of all at was 0 inside ∙ ap of (sym read)

-- where one is written
pub value_here : (of : OpenOutput → ℕ) (all : List OpenOutput) (at : ℕ) (now : OpenOutput) → at < length all → slice_index (map of (set all at now)) at ≡ of now
value_here of all at now inside =
    let in_map : at < length (map of all) = (let same = length-map all of in omega (arith, same, inside)) in
    ap (λ (xs : List ℕ). slice_index xs at) (map-set of all at now) ∙ get_or-set_same (map of all) at (of now) 0 in_map

pub value_other : (of : OpenOutput → ℕ) (all : List OpenOutput) (at : ℕ) (now : OpenOutput) (j : ℕ) → j ≢ at → slice_index (map of (set all at now)) j ≡ slice_index (map of all) j
value_other of all at now j other = ap (λ (xs : List ℕ). slice_index xs j) (map-set of all at now) ∙ get_or-set_other (map of all) at j (of now) 0 other

-- where one is written and the value stays
pub value_same : (of : OpenOutput → ℕ) (all : List OpenOutput) (at : ℕ) (was now : OpenOutput) → at < length all → was ≡ get_or all at was → of now ≡ of was → (j : ℕ) →
    slice_index (map of (set all at now)) j ≡ slice_index (map of all) j
value_same of all at was now inside read is j = elim (cases_eq j at) [
  | inl same ↦
      ap (λ (k : ℕ). slice_index (map of (set all at now)) k) same ∙ value_here of all at now inside ∙ is ∙ sym (value_at of all at was inside read)
      ∙ ap (λ (k : ℕ). slice_index (map of all) k) (sym same)
  | inr other ↦ value_other of all at now j other
]

-- all have their ids yet
pub ready_with : (manifest : Listed) (given ids : ℕ → Id) (old new : Outputs) (at : ℕ) (was now : OpenOutput) → new.files.items ≡ set old.files.items at now → at < length old.files.items → was ≡ get_or old.files.items at was
    → now.id ≡ was.id → ((j : ℕ) → ids j ≡ given j) → IsReady manifest given old → IsReady manifest ids new
ready_with manifest given ids old new at was now is inside read id kept ready = record {
  files = ap (λ (xs : List OpenOutput). length xs) is ∙ length-set old.files.items at now ∙ ready.files;
  named = λ j low.
      let same : slice_index (ids_of new) j ≡ slice_index (ids_of old) j = ap (λ (xs : List OpenOutput). slice_index (map (λ f. f.id) xs) j) is ∙ value_same (λ f. f.id) old.files.items at was now inside read id j in
      ap ids same ∙ kept (slice_index (ids_of old) j) ∙ ready.named j low;
}

-- one more value behind others
pub more_values : (xs : List ℕ) (x at : ℕ) (is : ℕ → ℕ) → length xs ≡ at → ((j : ℕ) → j < at → slice_index xs j ≡ is j) → x ≡ is at → (j : ℕ) → j < at + 1 → slice_index (xs ++ x ∷ []) j ≡ is j
more_values xs x at is long before here j low = elim (cases_lt j at) [
  | inl below ↦
      let inside : j < length xs = omega arith in
      get_or_append_left xs (x ∷ []) 0 j inside ∙ before j below
  | inr above ↦
      let last : j ≡ length xs = omega arith in
      let same : j ≡ at = omega arith in
      ap (λ (k : ℕ). slice_index (xs ++ x ∷ []) k) last ∙ get_or-append_seam xs x [] 0 ∙ here ∙ ap is (sym same)
]

-- ---- bytes
-- how far 64 bits count
pub counts_more : (n m : ℕ) → n + m < 2 ^ 64 → (n + m) % 2 ^ 64 ≡ n + m
counts_more n m fits = mod-eq_of_lt fits

-- an output that got bytes, and no record
pub grows_at : (old new : Outputs) (at n : ℕ) (was now : OpenOutput) → new.files.items ≡ set old.files.items at now → at < length old.files.items → was ≡ get_or old.files.items at was
    → now.records ≡ was.records → (size_of was + n < 2 ^ 64 → size_of now ≡ size_of was + n) → GrowsAt at n old new
grows_at old new at n was now is inside read records size =
    let all = old.files.items in
    let spelled = λ (of : OpenOutput → ℕ) (j : ℕ). ap (λ (xs : List OpenOutput). slice_index (map of xs) j) is in
    record {
      records = λ j. spelled (λ f. f.records) j ∙ value_same (λ f. f.records) all at was now inside read records j;
      others = λ j other. spelled size_of j ∙ value_other size_of all at now j other;
      here = λ fits.
          let before : slice_index (sizes_of old) at ≡ size_of was = value_at size_of all at was inside read in
          let after : slice_index (sizes_of new) at ≡ size_of now = spelled size_of at ∙ value_here size_of all at now inside in
          let own = size (omega (arith, fits, before)) in
          omega (arith, before, after, own);
    }

-- ---- captures
pub same_none : (manifest : Listed) (o : Outputs) → SameCaptures manifest o o
same_none manifest o = record { each = λ q low out. (refl, refl) }

pub same_then : (manifest : Listed) (a b c : Outputs) → SameCaptures manifest a b → SameCaptures manifest b c → SameCaptures manifest a c
same_then manifest a b c first later = record {
  each = λ q low out.
      let x = first.each q low out in
      let y = later.each q low out in
      (y.0 ∙ x.0, y.1 ∙ x.1);
}

-- behind the captures something was written
pub same_captures : (manifest : Listed) (old new : Outputs) (at n : ℕ) → port_count manifest ≤ at → GrowsAt at n old new → SameCaptures manifest old new
same_captures manifest old new at n behind grows = record {
  each = λ q low out.
      let inside : place_in manifest.tree q < port_count manifest = place_low manifest q low out in
      (grows.records (place_in manifest.tree q), grows.others (place_in manifest.tree q) (λ e. omega (arith, inside, behind, e)));
}

-- ---- frames
pub more_size : (xs : List Sent) (m : ℕ) (bytes : List ℕ) → capture_size (xs ++ (m, bytes) ∷ []) ≡ capture_size xs + (16 + length bytes)
more_size xs m bytes =
    let longer = length-append xs ((m, bytes) ∷ []) in
    let sums = sum_by-append (λ (x : Sent). length x.1) xs ((m, bytes) ∷ []) in
    let one : length bytes + 0 ≡ length bytes = omega arith in
    omega (arith, longer, sums, one)

module _ (manifest : Listed) (old new : Outputs) (p m : ℕ) (bytes : List ℕ) (was now : OpenOutput) (is : new.files.items ≡ set old.files.items (place_in manifest.tree p) now) (inside : place_in manifest.tree p < length old.files.items)
    (read : was ≡ get_or old.files.items (place_in manifest.tree p) was) (records : now.records ≡ (was.records + 1) % 2 ^ 64)
    (size : size_of was + (16 + length bytes) < 2 ^ 64 → size_of now ≡ size_of was + (16 + length bytes)) (low : p < 4160) (out : is_external manifest.tree p ≡ true) where
  at : ℕ
  at = place_in manifest.tree p

  spelled : (of : OpenOutput → ℕ) (j : ℕ) → slice_index (map of new.files.items) j ≡ slice_index (map of (set old.files.items (place_in manifest.tree p) now)) j
  spelled of j = ap (λ (xs : List OpenOutput). slice_index (map of xs) j) is

  -- at its port
  here : (sent : ℕ → List Sent) → HasSent manifest old sent → capture_size (sent p ++ (m, bytes) ∷ []) < 2 ^ 64
      → (frames_at manifest new p ≡ length (sent p ++ (m, bytes) ∷ [])) × (size_at manifest new p ≡ capture_size (sent p ++ (m, bytes) ∷ []))
  here sent has fits =
      let more = more_size (sent p) m bytes in
      let before = has.each p low out (omega (arith, fits, more)) in
      let frames : was.records ≡ length (sent p) = sym (value_at (λ f. f.records) old.files.items (place_in manifest.tree p) was inside read) ∙ before.0 in
      let bytes_were : size_of was ≡ capture_size (sent p) = sym (value_at size_of old.files.items (place_in manifest.tree p) was inside read) ∙ before.1 in
      let longer = length-append (sent p) ((m, bytes) ∷ []) in
      let room : was.records + 1 < 2 ^ 64 = omega (arith, frames, fits, more) in
      let grown = size (omega (arith, bytes_were, fits, more)) in (
        spelled (λ f. f.records) (place_in manifest.tree p) ∙ value_here (λ f. f.records) old.files.items (place_in manifest.tree p) now inside ∙ records ∙ counts_more was.records 1 room
            ∙ omega (arith, frames, longer),
        spelled size_of (place_in manifest.tree p) ∙ value_here size_of old.files.items (place_in manifest.tree p) now inside ∙ omega (arith, grown, bytes_were, more),
      )

  -- and at others
  other : (sent : ℕ → List Sent) → HasSent manifest old sent → (q : ℕ) → q < 4160 → is_external manifest.tree q ≡ true → q ≢ p → capture_size (sent q) < 2 ^ 64
      → (frames_at manifest new q ≡ length (sent q)) × (size_at manifest new q ≡ capture_size (sent q))
  other sent has q q_low q_out differ fits =
      let apart : place_in manifest.tree q ≢ place_in manifest.tree p = λ e. differ (sym (port_of_place manifest q q_low q_out) ∙ ap (port_at manifest) e ∙ port_of_place manifest p low out) in
      let before = has.each q q_low q_out fits in (
        spelled (λ f. f.records) (place_in manifest.tree q) ∙ value_other (λ f. f.records) old.files.items (place_in manifest.tree p) now (place_in manifest.tree q) apart ∙ before.0,
        spelled size_of (place_in manifest.tree q) ∙ value_other size_of old.files.items (place_in manifest.tree p) now (place_in manifest.tree q) apart ∙ before.1,
      )

  pub frame_sent : (sent : ℕ → List Sent) → HasSent manifest old sent → HasSent manifest new (sent_more sent p (m, bytes))
  frame_sent sent has = record {
    each = λ q q_low q_out. elim (cases_eq q p) [
      | inl same ↦
          rw (eq-eqb p q (sym same)) (subst (λ (k : ℕ). capture_size (sent k ++ (m, bytes) ∷ []) < 2 ^ 64 → (frames_at manifest new k ≡ length (sent k ++ (m, bytes) ∷ [])) × (size_at manifest new k ≡ capture_size (sent k ++ (m, bytes) ∷ []))) (sym same)
          (here sent has))
      | inr differ ↦ rw (ne_eqb p q (λ e. differ (sym e))) (other sent has q q_low q_out differ)
    ];
  }

-- before any frame
pub first_sent : (manifest : Listed) (o : Outputs) → ((j : ℕ) → j < output_count manifest → slice_index (records_of o) j ≡ 0)
    → ((j : ℕ) → j < output_count manifest → slice_index (sizes_of o) j ≡ length (first_text (kind_at manifest j))) → HasSent manifest o (λ q. [])
first_sent manifest o records sizes = record {
  each = λ q low out fits.
      let place = placed manifest (output.Capture q) out low in (
        records (place_in manifest.tree q) place.low,
        sizes (place_in manifest.tree q) place.low ∙ ap (λ (k : OutputKind). length (first_text k)) place.at,
      );
}

-- what was counted is that of the same frames yet
pub sent_same : (manifest : Listed) (old new : Outputs) (sent : ℕ → List Sent) → SameCaptures manifest old new → HasSent manifest old sent → HasSent manifest new sent
sent_same manifest old new sent same has = record {
  each = λ q low out fits.
      let s = same.each q low out in
      let before = has.each q low out fits in
      (s.0 ∙ before.0, s.1 ∙ before.1);
}

-- and of frames that are the same
pub sent_as : (manifest : Listed) (o : Outputs) (sent other : ℕ → List Sent) → ((q : ℕ) → sent q ≡ other q) → HasSent manifest o sent → HasSent manifest o other
sent_as manifest o sent other same has = record {
  each = λ q low out. subst (λ (xs : List Sent). capture_size xs < 2 ^ 64 → (frames_at manifest o q ≡ length xs) × (size_at manifest o q ≡ capture_size xs)) (same q) (has.each q low out);
}

-- where all bytes are counted
pub counted_of : (manifest : Listed) (o : Outputs) (sent : ℕ → List Sent) → ((q : ℕ) → capture_size (sent q) < 2 ^ 64) → HasSent manifest o sent → AreCountedAt manifest o
counted_of manifest o sent room has q low out =
    let own = has.each q low out (room q) in
    let frames = own.0 in
    let size = own.1 in
    let few = room q in
    record { whole = omega (arith, frames, size); fits = omega (arith, size, few) }

pub counted_same : (manifest : Listed) (old new : Outputs) (q : ℕ) → q < 4160 → is_external manifest.tree q ≡ true → SameCaptures manifest old new → IsCountedAt manifest old q → IsCountedAt manifest new q
counted_same manifest old new q low out same is =
    let s = same.each q low out in
    let frames = s.0 in
    let size = s.1 in
    let whole = is.whole in
    let fits = is.fits in
    record { whole = omega (arith, frames, size, whole); fits = omega (arith, size, fits) }

-- of the port of a capture, by its file
module _ (manifest : Listed) (o : Outputs) (at : ℕ) (file : OpenOutput) (low : at < port_count manifest) (inside : at < length o.files.items) (read : file ≡ get_or o.files.items at file) where
  own_place : place_in manifest.tree (port_at manifest at) ≡ at
  own_place = place_of_port manifest at low

  pub frames_of_file : frames_at manifest o (port_at manifest at) ≡ file.records
  frames_of_file = ap (λ (k : ℕ). slice_index (records_of o) k) own_place ∙ value_at (λ f. f.records) o.files.items at file inside read

  pub size_of_file : size_at manifest o (port_at manifest at) ≡ size_of file
  size_of_file = ap (λ (k : ℕ). slice_index (sizes_of o) k) own_place ∙ value_at size_of o.files.items at file inside read
