-- What stays of captures that are read again, while others are read and outputs are written.
use Rattle.std.proofs.Common.{◌≡◌, ◌≢◌, ℕ, ◌<◌, true, false, List, [], ◌∷◌, map, slice_index, refl, ap, sym, subst, ◌∙◌}
use mathlib.Core.Path.{fun_ext}
use Rattle.std.specs.List.{AllByRecursion}
use Rattle.exb_timeline.specs.declared.capture_merge.CaptureSource.{CaptureSource}
use Rattle.exb_timeline.specs.CaptureMerges.{AreReplays, IsOpened, IsReplayOf, ReadsOn}
use Rattle.exb_timeline.specs.Streams.{Stream}
use Rattle.exb_capture.specs.CaptureFiles.{IsAt}
use Rattle.exb_capture.specs.Replays.{IsReplaying}
use Rattle.exb_shelf.specs.Files.{Files, SameFiles, bytes_of}
use Rattle.exb_shelf.specs.Shelf.{Id, IsReadingOf, Opens, writing}
use Rattle.exb_outputs.specs.declared.outputs.Outputs.{Outputs}
use Rattle.exb_outputs.specs.Manifests.{OnlyListed, output_name, Listed, output_count}
use Rattle.exb_inputs.specs.ShelfEffects.{OnlyReads}
use Rattle.exb_outputs.specs.InputsApart.{AreApart}
use Rattle.exb_outputs.specs.WrittenTexts.{IsReady, ids_of}

-- ---- captures while outputs are written
-- a capture stays as it is, where no output has its name
unwritten : (manifest : Listed) (file files : Files) (name : List ℕ) → OnlyListed manifest file files → ((j : ℕ) → j < output_count manifest → name ≢ output_name manifest j) → files name ≡ file name
unwritten manifest file files name only apart = only name apart

pub replays-written : (manifest : Listed) (file files : Files) (ids : ℕ → Id) (ss : List CaptureSource) (xs : List Stream) → AreApart manifest ids (map (λ (s : CaptureSource). s.replay.file.id) ss) → OnlyListed manifest file files →
    AreReplays file ids ss xs → AreReplays files ids ss xs
replays-written manifest file files ids [] [] apart only are = tt
replays-written manifest file files ids [] (x ∷ xs) apart only are = absurd are
replays-written manifest file files ids (s ∷ ss) [] apart only are = absurd are
replays-written manifest file files ids (s ∷ ss) (x ∷ xs) apart only are =
    let (name, reads, none) = apart.0 in
    let one : IsReplayOf file ids s x = are.0 in
    let named : (ids s.replay.file.id).name ≡ name = reads.named in
    let same : bytes_of (files (ids s.replay.file.id).name) ≡ bytes_of (file (ids s.replay.file.id).name) =
    ap bytes_of (unwritten manifest file files (ids s.replay.file.id).name only (λ j low is. none j low (sym named ∙ is))) in (
      record {
        port = one.port;
        index = one.index;
        least = one.least;
        left = subst (λ (bytes : List ℕ). IsReplaying bytes x.records s.replay) (sym same) one.left;
        over = one.over;
      },
      replays-written manifest file files ids ss xs apart.1 only are.1,
    )

-- ---- outputs while captures are read
-- what is written isn't read
differ : (given : ℕ → Id) (k : ℕ) (name : List ℕ) (ss : List CaptureSource) → given k ≡ writing name → AllByRecursion (λ (s : CaptureSource). IsAt (given s.replay.file.id) s.replay.file.got) ss →
    AllByRecursion (λ j. k ≢ j) (map (λ (s : CaptureSource). s.replay.file.id) ss)
differ given k name [] is all = tt
differ given k name (s ∷ ss) is all = (
  λ same. (let reads : true ≡ false = sym all.0.reads ∙ ap (λ (j : ℕ). (given j).reads) (sym same) ∙ ap (λ (x : Id). x.reads) is in cc),
  differ given k name ss is all.1,
)

opened-at : (given : ℕ → Id) (ss : List CaptureSource) → AllByRecursion (IsOpened given) ss → AllByRecursion (λ (s : CaptureSource). IsAt (given s.replay.file.id) s.replay.file.got) ss
opened-at given [] all = tt
opened-at given (s ∷ ss) all = (all.0.at, opened-at given ss all.1)

pub ready-read : (manifest : Listed) (given ids : ℕ → Id) (o : Outputs) (ss : List CaptureSource) → IsReady manifest given o → AllByRecursion (IsOpened given) ss →
    ReadsOn (map (λ (s : CaptureSource). s.replay.file.id) ss) given ids → IsReady manifest ids o
ready-read manifest given ids o ss ready opened reads = record {
  files = ready.files;
  named = λ j low.
      reads.others (slice_index (ids_of o) j) (differ given (slice_index (ids_of o) j) (output_name manifest j) ss (ready.named j low) (opened-at given ss opened))
      ∙ ready.named j low;
}

-- captures are still read through the same ids
pub apart-read : (manifest : Listed) (given ids : ℕ → Id) (mine all : List ℕ) → ReadsOn all given ids → AreApart manifest given mine → AreApart manifest ids mine
apart-read manifest given ids [] all reads apart = tt
apart-read manifest given ids (k ∷ mine) all reads apart =
    let (name, is, none) = apart.0 in
    ((name, reads.same k name is, none), apart-read manifest given ids mine all reads apart.1)

-- the same ids
pub ids-same : (given ids : ℕ → Id) → ((j : ℕ) → ids j ≡ given j) → ids ≡ given
ids-same given ids same = fun_ext λ j. same j

-- ---- one after the other
pub reads-then : (mine : List ℕ) (a b c : ℕ → Id) → ReadsOn mine a b → ReadsOn mine b c → ReadsOn mine a c
reads-then mine a b c one two = record { others = λ j apart. two.others j apart ∙ one.others j apart; same = λ j name is. two.same j name (one.same j name is) }

pub reads-none : (mine : List ℕ) (a b : ℕ → Id) → ((j : ℕ) → b j ≡ a j) → ReadsOn mine a b
reads-none mine a b same = record { others = λ j apart. same j; same = λ j name is. subst (IsReadingOf name) (sym (same j)) is }

pub only-reads-none : (mine : List ℕ) (f : Files) (a : ℕ → Id) → OnlyReads mine f f a a
only-reads-none mine f a = record { files = λ n. refl; reads = reads-none mine a a (λ j. refl) }

pub only-reads-then : (mine : List ℕ) (f g h : Files) (a b c : ℕ → Id) → OnlyReads mine f g a b → OnlyReads mine g h b c → OnlyReads mine f h a c
only-reads-then mine f g h a b c one two = record { files = λ n. two.files n ∙ one.files n; reads = reads-then mine a b c one.reads two.reads }

-- ---- what is still to come of captures, by the names of their files
names-read : (given ids : ℕ → Id) (all : List ℕ) (ss : List CaptureSource) → ReadsOn all given ids → AllByRecursion (λ (s : CaptureSource). IsAt (given s.replay.file.id) s.replay.file.got) ss →
    AllByRecursion (λ (s : CaptureSource). (ids s.replay.file.id).name ≡ (given s.replay.file.id).name) ss
names-read given ids all [] reads at = tt
names-read given ids all (s ∷ ss) reads at =
    let k : ℕ = s.replay.file.id in
    ((reads.same k (given k).name (record { given = at.0.given; reads = at.0.reads; named = refl })).named, names-read given ids all ss reads at.1)

replays-named : (file files : Files) (given ids : ℕ → Id) (ss : List CaptureSource) (xs : List Stream) → SameFiles file files → AllByRecursion (λ (s : CaptureSource). (ids s.replay.file.id).name ≡ (given s.replay.file.id).name) ss →
    AreReplays file given ss xs → AreReplays files ids ss xs
replays-named file files given ids [] [] same named are = tt
replays-named file files given ids [] (x ∷ xs) same named are = absurd are
replays-named file files given ids (s ∷ ss) [] same named are = absurd are
replays-named file files given ids (s ∷ ss) (x ∷ xs) same named are =
    let one : IsReplayOf file given s x = are.0 in
    let bytes : bytes_of (files (ids s.replay.file.id).name) ≡ bytes_of (file (given s.replay.file.id).name) = ap bytes_of (ap files named.0 ∙ same (given s.replay.file.id).name) in (
      record {
        port = one.port;
        index = one.index;
        least = one.least;
        left = subst (λ (b : List ℕ). IsReplaying b x.records s.replay) (sym bytes) one.left;
        over = one.over;
      },
      replays-named file files given ids ss xs same named.1 are.1,
    )

names-back : (given ids : ℕ → Id) (ss : List CaptureSource) → AllByRecursion (λ (s : CaptureSource). (ids s.replay.file.id).name ≡ (given s.replay.file.id).name) ss →
    AllByRecursion (λ (s : CaptureSource). (given s.replay.file.id).name ≡ (ids s.replay.file.id).name) ss
names-back given ids [] named = tt
names-back given ids (s ∷ ss) named = (sym named.0, names-back given ids ss named.1)

-- after others were read, and before
pub replays-read : (file files : Files) (given ids : ℕ → Id) (all : List ℕ) (ss : List CaptureSource) (xs : List Stream) → AllByRecursion (IsOpened given) ss → OnlyReads all file files given ids →
    AreReplays file given ss xs → AreReplays files ids ss xs
replays-read file files given ids all ss xs opened only = replays-named file files given ids ss xs only.files (names-read given ids all ss only.reads (opened-at given ss opened))

pub replays-unread : (file files : Files) (given ids : ℕ → Id) (all : List ℕ) (ss : List CaptureSource) (xs : List Stream) → AllByRecursion (IsOpened given) ss → OnlyReads all file files given ids →
    AreReplays files ids ss xs → AreReplays file given ss xs
replays-unread file files given ids all ss xs opened only =
    replays-named files file ids given ss xs (λ n. sym (only.files n)) (names-back given ids ss (names-read given ids all ss only.reads (opened-at given ss opened)))

-- outputs while captures are opened
pub ready-opened : (P : Id → Type 0) (manifest : Listed) (given ids : ℕ → Id) (o : Outputs) → IsReady manifest given o → Opens P given ids → IsReady manifest ids o
ready-opened P manifest given ids o ready opens = record {
  files = ready.files;
  named = λ j low. opens.kept (slice_index (ids_of o) j) (ap (λ (i : Id). i.given) (ready.named j low)) ∙ ready.named j low;
}
