-- One capture more that is read again.
use Rattle.std.proofs.Common.{◌≡◌, ℕ, ◌+◌, ◌^◌, ◌<◌, ◌≤◌, false, List, [], ◌∷◌, ◌++◌, length, map, refl, sym, ap, subst, ◌∙◌, arith}
use Rattle.std.specs.Prelude.{Option, Some, Result, Ok, Err, IfSome, IfNone, is_ok, is_err, if◌then◌else◌, OnOk, sum_by}
use Rattle.std.specs.List.{AllByRecursion}
use Rattle.std.proofs.lemmas.List.{map-append}
use Rattle.exb_model.specs.Input.{Record, second_of}
use Rattle.exb_capture.specs.Captures.{capture_records}
use Rattle.exb_capture.specs.declared.format.AnyFormat.{AnyFormat as State}
use Rattle.exb_capture.specs.declared.format.RecordSpan.{RecordSpan}
use Rattle.exb_capture.specs.ReaderMachine.{Reading}
use Rattle.exb_shelf.specs.Files.{Files, SameFiles, bytes_of}
use Rattle.exb_shelf.specs.Shelf.{Id, IsReadingOf, Opens, reading}
use Rattle.exb_capture.specs.declared.scans.Scanned.{Scanned}
use Rattle.exb_capture.specs.declared.replay.Replay.{Replay}
use Rattle.exb_capture.specs.CaptureFiles.{IsAt, IsBegun, MovesOn, left_to_read, one_next}
use Rattle.exb_capture.specs.Replays.{ComesAt, HasGiven, IsAsBefore, IsKept, IsPlayed, IsSameReplay}
use Rattle.exb_capture.specs.Scans.{scanned_of}
use Rattle.exb_timeline.specs.declared.capture_merge.CaptureSource.{CaptureSource}
use Rattle.exb_timeline.specs.CaptureMerges.{Apart, AreReplays, HasPort, IsOpened, IsReplayOf, standing_of}
use Rattle.exb_timeline.specs.Streams.{Stream, stream_of}
use Rattle.exb_timeline.proofs.SourcesOnShelf.{all_opened, files_then, new_apart, stay_opened}
use Rattle.exb_timeline.proofs.ListPlaces.{all_join}
use Rattle.exb_timeline.proofs.SourcePositions.{apart_more, id_of, left_more, left_of}
use Rattle.exb_timeline.proofs.ToldSources.{Stays, replaying_looked, replaying_opened, replays_join, replays_stay}

-- what a list is where there is no error
pub when_ok : {T E X : Type 0} (r : Result T E) (xs ys zs : List X) → is_err r ≡ false → xs ≡ (if is_ok r then ys else zs) → xs ≡ ys
when_ok (Ok x) xs ys zs fine e = e
when_ok (Err x) xs ys zs fine e = absurd (cc)

-- what is known where there is no error
pub fine : {T E P : Type 0} (r : Result T E) → is_err r ≡ false → OnOk r P → P
fine (Ok x) good h = h
fine (Err x) good h = absurd (cc)

begun_at : (i : Id) (name : List ℕ) (got : ℕ) → i ≡ reading name 0 → got ≡ 0 → IsAt i got
begun_at i name got is none = record { given = ap (λ (k : Id). k.given) is; reads = ap (λ (k : Id). k.reads) is; place = ap (λ (k : Id). k.place) is ∙ sym none }

-- a capture that was opened, and then looked at as far as its first record
module _ (port : ℕ) (told : Scanned) (opened looked : Replay) (next : Option ℕ) (tells : opened.told ≡ told) (begun : IsBegun (told.bytes + 1) opened.file) (same : IsSameReplay opened looked) where
  abbrev pub one_more : CaptureSource
  one_more = record { port = port; index = 1; next = next; replay = looked }

  pub opened_first : (ids : ℕ → Id) → told.bytes + 2 < 2 ^ 63 → IsKept looked → IsAt (ids looked.file.id) looked.file.got → left_to_read looked.file ≤ left_to_read opened.file →
      IfSome next (λ m. ComesAt m looked) → IsOpened ids one_more
  opened_first ids small kept at looks comes =
      let size : looked.told.bytes ≡ told.bytes = ap (λ (t : Scanned). t.bytes) (same.told ∙ tells) in
      let held = ap (λ (r : Reading State). length r.held) begun.reader in
      let unseen = ap (λ (o : Option RecordSpan). one_next o) begun.next in
      record { at = at; kept = kept; small = omega (arith, small, size); first = omega arith; numbers = omega (arith, size, looks, held, unseen, begun.got, begun.limit_is); comes = comes }

  pub left_first : left_to_read looked.file ≤ left_to_read opened.file → left_of one_more ≤ told.bytes + 1
  left_first looks =
      let held = ap (λ (r : Reading State). length r.held) begun.reader in
      let unseen = ap (λ (o : Option RecordSpan). one_next o) begun.next in
      omega (arith, looks, held, unseen, begun.got, begun.limit_is)

  -- the shelf: before, once it was opened, and once it was looked at
  module _ (file mid now : Files) (given opening ids : ℕ → Id) (name : List ℕ) (same_mid : SameFiles file mid) (same_now : SameFiles mid now) (moves : MovesOn opened.file.id opening ids)
      (is : opening opened.file.id ≡ reading name 0) (as_before : IsAsBefore opened looked) (none : opened.least ≡ 0) where
    pub replay_first : (bytes : List ℕ) (records : List Record) → file name ≡ Some bytes → capture_records bytes ≡ Ok records → told ≡ scanned_of bytes records → HasGiven (bytes_of (file name)) [] opened →
        ((xs : List Record) → HasGiven (bytes_of (mid (opening opened.file.id).name)) xs opened → HasGiven (bytes_of (mid (opening opened.file.id).name)) xs looked) →
        IfNone next ((xs : List Record) → HasGiven (bytes_of (mid (opening opened.file.id).name)) xs opened → IsPlayed opened.told (bytes_of (mid (opening opened.file.id).name)) xs) →
        IsReplayOf now ids one_more (stream_of port records)
    replay_first bytes records there whole told_is has gives end =
        let k = replaying_opened file mid opening name bytes records told opened there whole told_is same_mid is tells has in
        let both =
        replaying_looked mid now opening ids records opened looked next (begun_at (opening opened.file.id) name opened.file.got is begun.got) moves same_now same gives end k in
        record { port = refl; index = refl; least = sym (as_before.least ∙ none); left = both.0; over = both.1 }

-- all, with one more
module _ (given opening ids : ℕ → Id) (ss : List CaptureSource) (s : CaptureSource) (name : List ℕ) (id : ℕ) (fresh : (given id).given ≡ false) (opens : Opens (IsReadingOf name) given opening)
    (moves : MovesOn id opening ids) (each : AllByRecursion (IsOpened given) ss) where
  stay_more : AllByRecursion (Stays given ids) ss
  stay_more = stay_opened (IsReadingOf name) given opening ids id ss fresh opens moves each

  pub each_more : IsOpened ids s → AllByRecursion (IsOpened ids) (ss ++ s ∷ [])
  each_more own = all_join (IsOpened ids) ss (s ∷ []) (all_opened given ids ss stay_more each) (own, tt)

  pub replays_more : (file mid now : Files) (xs : List Stream) (x : Stream) → SameFiles file mid → SameFiles mid now → IsReplayOf now ids s x → AreReplays file given ss xs →
      AreReplays now ids (ss ++ s ∷ []) (xs ++ x ∷ [])
  replays_more file mid now xs x same_mid same_now own all =
      replays_join now ids ss (s ∷ []) xs (x ∷ []) (replays_stay file now given ids ss xs (files_then file mid now same_mid same_now) stay_more all) (own, tt)

pub apart_new : (given : ℕ → Id) (ss : List CaptureSource) (s : CaptureSource) (id : ℕ) → s.replay.file.id ≡ id → (given id).given ≡ false → (HasPort s.port (map standing_of ss) → ⊥) → AllByRecursion (IsOpened given) ss → Apart ss →
    Apart (ss ++ s ∷ [])
apart_new given ss s id is fresh port each apart = apart_more ss s (new_apart given s ss (ap (λ k. (given k).given) is ∙ fresh) port each) apart

-- what is told of all, with one more
module _ (ss : List CaptureSource) (s : CaptureSource) (all : List CaptureSource) (is : all ≡ ss ++ s ∷ []) where
  pub standings_more : s.replay.least ≡ 0 → map standing_of all ≡ map standing_of ss ++ record { port = s.port; index = s.index; least = 0 } ∷ []
  standings_more none =
      ap (map standing_of) is ∙ map-append standing_of ss (s ∷ []) ∙ ap (λ (k : ℕ). map standing_of ss ++ record { port = s.port; index = s.index; least = k } ∷ []) none

  pub ids_more : (id : ℕ) → id_of s ≡ id → map id_of all ≡ map id_of ss ++ id ∷ []
  ids_more id own = ap (map id_of) is ∙ map-append id_of ss (s ∷ []) ∙ ap (λ (k : ℕ). map id_of ss ++ k ∷ []) own

  pub left_most : (bytes : ℕ) → left_of s ≤ bytes + 1 → sum_by left_of all ≤ sum_by left_of ss + bytes + 1
  left_most bytes own = let total = ap (sum_by left_of) is in omega (arith, total, left_more ss s, own)

  pub since_more : (second : ℕ) (told : Scanned) → s.replay.told ≡ told → IfSome told.first (λ first. second ≤ second_of first) →
      AllByRecursion (λ (t : CaptureSource). IfSome t.replay.told.first (λ first. second ≤ second_of first)) ss →
      AllByRecursion (λ (t : CaptureSource). IfSome t.replay.told.first (λ first. second ≤ second_of first)) all
  since_more second told own first each =
      subst (AllByRecursion (λ (t : CaptureSource). IfSome t.replay.told.first (λ n. second ≤ second_of n))) (sym is)
      (all_join (λ (t : CaptureSource). IfSome t.replay.told.first (λ n. second ≤ second_of n)) ss (s ∷ []) each (subst (λ (k : Scanned). IfSome k.first (λ n. second ≤ second_of n)) (sym own) first, tt))
