-- Captures that are read again, while one is opened or read on a shelf.
use Rattle.std.proofs.Common.{◌≡◌, ℕ, suc, ◌+◌, ◌≤◌, true, false, List, ◌∷◌, ◌++◌, map, refl, sym, ap, subst, inl, inr, ◌∙◌, arith}
use Rattle.std.specs.Prelude.{◌≢◌, ◌⊎◌, Option, Some, None, Err, IfSome, IsErrOf}
use Rattle.std.specs.List.{AllByRecursion}
use Rattle.std.proofs.lemmas.Bool.{cases_eq}
use Rattle.exb_shelf.specs.Files.{Files, SameFiles}
use Rattle.exb_shelf.specs.Shelf.{Faults, Id, IsReadingOf, NoFewer, Opens}
use Rattle.exb_capture.specs.declared.replay.Replay.{Replay}
use Rattle.exb_capture.specs.declared.replay.ReplayFault.{ReplayFault}
use Rattle.exb_capture.specs.declared.replay.ReplayFault.TheVariants as replay
use Rattle.exb_capture.specs.CaptureFiles.{IsAt, MovesOn, left_to_read}
use Rattle.exb_capture.specs.Replays.{ComesAt, IsKept, IsSameReplay}
use Rattle.exb_timeline.specs.declared.capture_merge.CaptureSource.{CaptureSource}
use Rattle.exb_timeline.specs.declared.capture_merge.CaptureFault.{CaptureFault}
use Rattle.exb_timeline.specs.declared.capture_merge.CaptureFault.TheVariants.{Read, Changed}
use Rattle.exb_timeline.specs.CaptureMerges.{Apart, IsOpened, ReadsOn, fault_at, standing_of, HasPort}
use Rattle.exb_timeline.proofs.ListPlaces.{all_join, all_on, all_with}
use Rattle.exb_timeline.proofs.ListMembers.{all-left, all-right}
use Rattle.exb_timeline.proofs.SourcePositions.{AreApart, apart_before, apart_after, id_of, is_mine, ports_apart}
use Rattle.exb_timeline.proofs.ToldSources.{Stays}

-- ---- faults
pub changed_at : (port p at : ℕ) (fault : ReplayFault) → fault_at port fault ≡ Changed p at → fault ≡ replay.Changed at
changed_at port p at replay.Memory e = absurd (cc)
changed_at port p at replay.Read e = absurd (cc)
changed_at port p at (replay.Changed n) e = let same : n ≡ at = cc in ap replay.Changed same

pub read_is : (port : ℕ) (fault : ReplayFault) → fault_at port fault ≡ Read → fault ≡ replay.Read
read_is port replay.Memory e = absurd (cc)
read_is port replay.Read e = refl
read_is port (replay.Changed n) e = absurd (cc)

-- ---- one id has moved
stays_opened : (given ids : ℕ → Id) (s : CaptureSource) → Stays given ids s → IsOpened given s → IsOpened ids s
stays_opened given ids s stay o =
    record { at = subst (λ (i : Id). IsAt i s.replay.file.got) (sym stay) o.at; kept = o.kept; small = o.small; first = o.first; numbers = o.numbers; comes = o.comes }

pub all_opened : (given ids : ℕ → Id) (ss : List CaptureSource) → AllByRecursion (Stays given ids) ss → AllByRecursion (IsOpened given) ss → AllByRecursion (IsOpened ids) ss
all_opened given ids ss stay each = all_with (Stays given ids) (IsOpened given) (IsOpened ids) ss (λ s st o. stays_opened given ids s st o) stay each

stay_apart : (given ids : ℕ → Id) (s : CaptureSource) (ss : List CaptureSource) → MovesOn s.replay.file.id given ids → AllByRecursion (AreApart s) ss → AllByRecursion (Stays given ids) ss
stay_apart given ids s ss moves apart = all_on (AreApart s) (Stays given ids) ss (λ t a. moves.others t.replay.file.id a.1) apart

pub stay_before : (given ids : ℕ → Id) (front back : List CaptureSource) (s : CaptureSource) → MovesOn s.replay.file.id given ids → Apart (front ++ s ∷ back) → AllByRecursion (Stays given ids) front
stay_before given ids front back s moves apart = stay_apart given ids s front moves (apart_before front back s apart)

pub stay_after : (given ids : ℕ → Id) (front back : List CaptureSource) (s : CaptureSource) → MovesOn s.replay.file.id given ids → Apart (front ++ s ∷ back) → AllByRecursion (Stays given ids) back
stay_after given ids front back s moves apart = stay_apart given ids s back moves (apart_after front back s apart)

-- all are as they were opened, but for the one that was read
pub opened_put : (given ids : ℕ → Id) (front back : List CaptureSource) (s s' : CaptureSource) → MovesOn s.replay.file.id given ids → Apart (front ++ s ∷ back) → IsOpened ids s' →
    AllByRecursion (IsOpened given) (front ++ s ∷ back) → AllByRecursion (IsOpened ids) (front ++ s' ∷ back)
opened_put given ids front back s s' moves apart own each =
    all_join (IsOpened ids) front (s' ∷ back)
    (all_opened given ids front (stay_before given ids front back s moves apart) (all-left (IsOpened given) front (s ∷ back) each))
    (own, all_opened given ids back (stay_after given ids front back s moves apart) ((all-right (IsOpened given) front (s ∷ back) each).1))

pub reads_on : (given ids : ℕ → Id) (front back : List CaptureSource) (s : CaptureSource) → MovesOn s.replay.file.id given ids → ReadsOn (map id_of (front ++ s ∷ back)) given ids
reads_on given ids front back s moves = record {
  others = λ j mine. moves.others j (is_mine front back s j mine);
  same = λ j name reads. by_id j name reads (cases_eq j s.replay.file.id);
}
  where
    by_id : (j : ℕ) (name : List ℕ) → IsReadingOf name (given j) → (j ≡ s.replay.file.id) ⊎ (j ≡ s.replay.file.id → ⊥) → IsReadingOf name (ids j)
    by_id j name reads (inl e) = subst (λ k. IsReadingOf name (ids k)) (sym e) (moves.same name (subst (λ k. IsReadingOf name (given k)) e reads))
    by_id j name reads (inr other) = subst (λ (i : Id). IsReadingOf name i) (sym (moves.others j other)) reads

pub reads_none : (mine : List ℕ) (given : ℕ → Id) → ReadsOn mine given given
reads_none mine given = record { others = λ j other. refl; same = λ j name reads. reads }

-- the capture that was read, as it is kept
pub opened_next : (ids given : ℕ → Id) (s : CaptureSource) (port : ℕ) (taken looked : Replay) (index : ℕ) (next : Option ℕ) → IsOpened given s → index ≡ suc s.index → IsSameReplay s.replay taken → IsSameReplay taken looked →
    IsKept looked → IsAt (ids looked.file.id) looked.file.got → left_to_read taken.file + 16 ≤ left_to_read s.replay.file → left_to_read looked.file ≤ left_to_read taken.file →
    IfSome next (λ m. ComesAt m looked) → IsOpened ids (record { port = port; index = index; next = next; replay = looked })
opened_next ids given s port taken looked index next o is first second kept at takes looks comes =
    let told : looked.told.bytes ≡ s.replay.told.bytes = ap (λ t. t.bytes) (second.told ∙ first.told) in
    record {
      at = at;
      kept = kept;
      small = omega (arith, o.small, told);
      first = omega (arith, is);
      numbers = omega (arith, is, o.numbers, told, takes, looks);
      comes = comes;
    }

-- what it has next isn't before the moment of the record that was taken
pub rises_next : (next : Option ℕ) (m : ℕ) (looked : Replay) → looked.least ≡ m → IfSome next (λ k. ComesAt k looked) → IfSome next (λ k. m ≤ k)
rises_next None m looked least comes = tt
rises_next (Some k) m looked least comes = omega (arith, least, comes.is)

-- ---- one is opened
not_new : (given : ℕ → Id) (id : ℕ) (s : CaptureSource) → (given id).given ≡ false → IsOpened given s → id ≢ s.replay.file.id
not_new given id s fresh o e = let no : true ≡ false = sym o.at.given ∙ ap (λ k. (given k).given) (sym e) ∙ fresh in cc

pub new_apart : (given : ℕ → Id) (s : CaptureSource) (ss : List CaptureSource) → (given s.replay.file.id).given ≡ false → (HasPort s.port (map standing_of ss) → ⊥) → AllByRecursion (IsOpened given) ss →
    AllByRecursion (λ t. AreApart t s) ss
new_apart given s ss fresh port each =
    all_with (λ (t : CaptureSource). s.port ≢ t.port) (IsOpened given) (λ t. AreApart t s) ss (λ t other o. (other, not_new given s.replay.file.id t fresh o)) (ports_apart ss s.port port) each

pub stay_opened : (P : Id → Type 0) (given mid ids : ℕ → Id) (id : ℕ) (ss : List CaptureSource) → (given id).given ≡ false → Opens P given mid → MovesOn id mid ids → AllByRecursion (IsOpened given) ss →
    AllByRecursion (Stays given ids) ss
stay_opened P given mid ids id ss fresh opens moves each =
    all_on (IsOpened given) (Stays given ids) ss
    (λ s o. moves.others s.replay.file.id (λ e. not_new given id s fresh o (sym e)) ∙ opens.kept s.replay.file.id o.at.given) each

pub files_then : (a b c : Files) → SameFiles a b → SameFiles b c → SameFiles a c
files_then a b c p q n = q n ∙ p n

pub own_fault : {X : Type 0} (f k : CaptureFault) → IsErrOf {T = X} (Err f) k → f ≡ k
own_fault f k e = cc

pub no_fewer : (f : Faults) → NoFewer f f
no_fewer f = record { missing = omega arith; reads = omega arith; writes = omega arith }
