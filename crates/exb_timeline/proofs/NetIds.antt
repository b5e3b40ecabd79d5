-- Programmes of several bridges, each of which reads through ids of its own.
use Rattle.std.proofs.Common.{◌≡◌, ℕ, true, false, List, [], ◌∷◌, ◌++◌, map, refl, sym, ap, subst, ◌∙◌}
use Rattle.std.specs.Prelude.{◌≢◌}
use Rattle.std.specs.List.{AllByRecursion}
use Rattle.std.proofs.lemmas.List.{append_assoc, append-nil}
use Rattle.exb_capture.specs.Replays.{IsReplaying}
use Rattle.exb_shelf.specs.Files.{Files, bytes_of}
use Rattle.exb_shelf.specs.Shelf.{Id}
use Rattle.exb_timeline.specs.declared.net_timeline.NetTimeline.{NetTimeline}
use Rattle.exb_timeline.specs.declared.net_timeline.TimelineEntry.{TimelineEntry}
use Rattle.exb_timeline.specs.declared.bridge_timeline.Timeline.{Timeline}
use Rattle.exb_timeline.specs.declared.capture_merge.CaptureSource.{CaptureSource}
use Rattle.exb_timeline.specs.NetMergeOrder.{AreAllReplays, AreOthers, IsAgenda, IsSeated, ReadApart, all_ids, programmes_in}
use Rattle.exb_timeline.specs.Timelines.{IsProgramme}
use Rattle.exb_timeline.specs.CaptureMerges.{AreReplays, IsOpened, IsReplayOf, ReadsOn, ids_in}
use Rattle.exb_timeline.specs.Streams.{Stream}
use Rattle.exb_timeline.proofs.ListMembers.{all-left, all-right}
use Rattle.exb_timeline.proofs.SourcesOnShelf.{all_opened}
use Rattle.exb_timeline.proofs.ListPlaces.{all_join, all_on}
use Rattle.exb_timeline.proofs.SourcePositions.{id_of}
use Rattle.exb_timeline.proofs.ToldSources.{Stays}

abbrev pub own_ids : Timeline → List ℕ
own_ids p = ids_in p.captures

all_mapped : {X Y : Type 0} (P : Y → Type 0) (f : X → Y) (xs : List X) → AllByRecursion P (map f xs) → AllByRecursion (λ x. P (f x)) xs
all_mapped P f [] all = tt
all_mapped P f (x ∷ xs) all = (all.0, all_mapped P f xs all.1)

map_all : {X Y : Type 0} (P : Y → Type 0) (f : X → Y) (xs : List X) → AllByRecursion (λ x. P (f x)) xs → AllByRecursion P (map f xs)
map_all P f [] all = tt
map_all P f (x ∷ xs) all = (all.0, map_all P f xs all.1)

-- ---- ids
pub ids_append : (ps qs : List Timeline) → all_ids (ps ++ qs) ≡ all_ids ps ++ all_ids qs
ids_append [] qs = refl
ids_append (p ∷ ps) qs = ap (λ (ks : List ℕ). own_ids p ++ ks) (ids_append ps qs) ∙ sym (append_assoc (own_ids p) (all_ids ps) (all_ids qs))

-- another programme that reads through the same ids
pub ids_kept : (before after : List Timeline) (p q : Timeline) → own_ids q ≡ own_ids p → all_ids (before ++ q ∷ after) ≡ all_ids (before ++ p ∷ after)
ids_kept [] after p q same = ap (λ (ks : List ℕ). ks ++ all_ids after) same
ids_kept (b ∷ before) after p q same = ap (λ (ks : List ℕ). own_ids b ++ ks) (ids_kept before after p q same)

pub apart_kept : (before after : List Timeline) (p q : Timeline) → own_ids q ≡ own_ids p → ReadApart (before ++ p ∷ after) → ReadApart (before ++ q ∷ after)
apart_kept [] after p q same apart = (subst (λ (ks : List ℕ). AreOthers ks (all_ids after)) (sym same) apart.0, apart.1)
apart_kept (b ∷ before) after p q same apart = (subst (AreOthers (own_ids b)) (sym (ids_kept before after p q same)) apart.0, apart_kept before after p q same apart.1)

others_turned : (mine ids : List ℕ) → AreOthers mine ids → AreOthers ids mine
others_turned [] ids all = tt
others_turned (k ∷ mine) ids all = (
  all_on (λ j. AllByRecursion (λ i. j ≢ i) (k ∷ mine)) (λ j. k ≢ j) ids (λ j others e. others.0 (sym e)) all,
  others_turned mine ids (all_on (λ j. AllByRecursion (λ i. j ≢ i) (k ∷ mine)) (λ j. AllByRecursion (λ i. j ≢ i) mine) ids (λ j others. others.1) all),
)

-- of the others of a programme none reads through one of its ids
pub others_behind : (before after : List Timeline) (p : Timeline) → ReadApart (before ++ p ∷ after) → AreOthers (own_ids p) (all_ids after)
others_behind [] after p apart = apart.0
others_behind (b ∷ before) after p apart = others_behind before after p apart.1

pub others_ahead : (before after : List Timeline) (p : Timeline) → ReadApart (before ++ p ∷ after) → AreOthers (own_ids p) (all_ids before)
others_ahead [] after p apart = tt
others_ahead (b ∷ before) after p apart =
    let rest : AreOthers (own_ids b) (all_ids before ++ (own_ids p ++ all_ids after)) = subst (AreOthers (own_ids b)) (ids_append before (p ∷ after)) apart.0 in
    let own : AreOthers (own_ids b) (own_ids p) =
    all-left (λ j. AllByRecursion (λ k. j ≢ k) (own_ids b)) (own_ids p) (all_ids after) (all-right (λ j. AllByRecursion (λ k. j ≢ k) (own_ids b)) (all_ids before) (own_ids p ++ all_ids after) rest) in
    all_join (λ j. AllByRecursion (λ k. j ≢ k) (own_ids p)) (own_ids b) (all_ids before) (others_turned (own_ids b) (own_ids p) own) (others_ahead before after p apart.1)

-- one more, whose ids weren't given when those of the others were
fresh_others : (given : ℕ → Id) (mine ids : List ℕ) → AllByRecursion (λ k. (given k).given ≡ true) mine → AllByRecursion (λ k. (given k).given ≡ false) ids → AreOthers mine ids
fresh_others given mine ids old new = all_on (λ j. (given j).given ≡ false) (λ j. AllByRecursion (λ k. j ≢ k) mine) ids (λ j fresh. each j fresh mine old) new
  where
    each : (j : ℕ) → (given j).given ≡ false → (ks : List ℕ) → AllByRecursion (λ k. (given k).given ≡ true) ks → AllByRecursion (λ k. j ≢ k) ks
    each j fresh [] all = tt
    each j fresh (k ∷ ks) all = (λ e. (let no : true ≡ false = sym all.0 ∙ ap (λ (i : ℕ). (given i).given) (sym e) ∙ fresh in cc), each j fresh ks all.1)

apart_joined : (ps : List Timeline) (p : Timeline) → ReadApart ps → AreOthers (all_ids ps) (own_ids p) → ReadApart (ps ++ p ∷ [])
apart_joined [] p apart others = (tt, tt)
apart_joined (q ∷ ps) p apart others =
    let parts : AreOthers (own_ids p) (own_ids q ++ all_ids ps) = others_turned (own_ids q ++ all_ids ps) (own_ids p) others in
    let own : AreOthers (own_ids q) (own_ids p) = others_turned (own_ids p) (own_ids q) (all-left (λ j. AllByRecursion (λ k. j ≢ k) (own_ids p)) (own_ids q) (all_ids ps) parts) in
    let rest : AreOthers (all_ids ps) (own_ids p) = others_turned (own_ids p) (all_ids ps) (all-right (λ j. AllByRecursion (λ k. j ≢ k) (own_ids p)) (own_ids q) (all_ids ps) parts) in
    let all : AreOthers (own_ids q) (all_ids ps ++ own_ids p) = all_join (λ j. AllByRecursion (λ k. j ≢ k) (own_ids q)) (all_ids ps) (own_ids p) apart.0 own in
    let more : all_ids (ps ++ p ∷ []) ≡ all_ids ps ++ own_ids p = ids_append ps (p ∷ []) ∙ ap (λ (ks : List ℕ). all_ids ps ++ ks) (append-nil (own_ids p)) in
    (subst (AreOthers (own_ids q)) (sym more) all, apart_joined ps p apart.1 rest)

pub apart_more : (given : ℕ → Id) (ps : List Timeline) (p : Timeline) → AllByRecursion (λ k. (given k).given ≡ true) (all_ids ps) → AllByRecursion (λ k. (given k).given ≡ false) (own_ids p) → ReadApart ps →
    ReadApart (ps ++ p ∷ [])
apart_more given ps p old new apart = apart_joined ps p apart (fresh_others given (all_ids ps) (own_ids p) old new)

-- ---- what stays, where nothing was read through an id
module _ (given ids : ℕ → Id) where
  abbrev pub Same : List ℕ → Type 0
  Same = AllByRecursion (λ k. ids k ≡ given k)

  pub programme_stays : (p : Timeline) → Same (own_ids p) → IsProgramme given p → IsProgramme ids p
  programme_stays p same is =
      let stay : AllByRecursion (Stays given ids) p.captures.sources.items = all_mapped (λ k. ids k ≡ given k) id_of p.captures.sources.items same in
      record {
        opened = record { each = all_opened given ids p.captures.sources.items stay is.opened.each; apart = is.opened.apart; turns = is.opened.turns };
        start = is.start;
        since = is.since;
        taken = is.taken;
        few = is.few;
        rising = is.rising;
      }

  pub seats_stay : (ss : List TimelineEntry) → Same (all_ids (map (λ (s : TimelineEntry). s.programme) ss)) → AllByRecursion (IsSeated given) ss → AllByRecursion (IsSeated ids) ss
  seats_stay [] same all = tt
  seats_stay (s ∷ ss) same all =
      let rest : List ℕ = all_ids (map (λ (t : TimelineEntry). t.programme) ss) in (
        record { programme = programme_stays s.programme (all-left (λ k. ids k ≡ given k) (own_ids s.programme) rest same) all.0.programme; turn = all.0.turn; small = all.0.small },
        seats_stay ss (all-right (λ k. ids k ≡ given k) (own_ids s.programme) rest same) all.1,
      )

  -- what is read of one programme leaves the others
  pub same_others : (mine others : List ℕ) → ReadsOn mine given ids → AreOthers mine others → Same others
  same_others mine others reads apart = all_on (λ j. AllByRecursion (λ k. j ≢ k) mine) (λ j. ids j ≡ given j) others (λ j other. reads.others j other) apart

  -- ---- what is told
  module _ (file files : Files) where
    abbrev pub Kept : List ℕ → Type 0
    Kept = AllByRecursion (λ k. (ids k ≡ given k) × (bytes_of (files (given k).name) ≡ bytes_of (file (given k).name)))

    replays_kept : (ss : List CaptureSource) (xs : List Stream) → Kept (map id_of ss) → AreReplays file given ss xs → AreReplays files ids ss xs
    replays_kept [] [] kept told = tt
    replays_kept [] (x ∷ xs) kept told = absurd told
    replays_kept (s ∷ ss) [] kept told = absurd told
    replays_kept (s ∷ ss) (x ∷ xs) kept told =
        let one : IsReplayOf file given s x = told.0 in
        let bytes : bytes_of (file (given s.replay.file.id).name) ≡ bytes_of (files (ids s.replay.file.id).name) = sym kept.0.1 ∙ ap (λ (i : Id). bytes_of (files i.name)) (sym kept.0.0) in (
          record { port = one.port; index = one.index; least = one.least; left = subst (λ (b : List ℕ). IsReplaying b x.records s.replay) bytes one.left; over = one.over },
          replays_kept ss xs kept.1 told.1,
        )

    pub all_kept : (ps : List Timeline) (xss : List (List Stream)) → Kept (all_ids ps) → AreAllReplays file given ps xss → AreAllReplays files ids ps xss
    all_kept [] [] kept told = tt
    all_kept [] (xs ∷ xss) kept told = absurd told
    all_kept (p ∷ ps) [] kept told = absurd told
    all_kept (p ∷ ps) (xs ∷ xss) kept told =
        let P : ℕ → Type 0 = λ k. (ids k ≡ given k) × (bytes_of (files (given k).name) ≡ bytes_of (file (given k).name)) in (
          replays_kept p.captures.sources.items xs (all-left P (own_ids p) (all_ids ps) kept) told.0,
          all_kept ps xss (all-right P (own_ids p) (all_ids ps) kept) told.1,
        )

pub agenda_stays : (given ids : ℕ → Id) (a : NetTimeline) → AllByRecursion (λ k. ids k ≡ given k) (all_ids (programmes_in a)) → IsAgenda given a → IsAgenda ids a
agenda_stays given ids a same is = record { each = seats_stay given ids a.seats.items same is.each; apart = is.apart; turns = is.turns; few = is.few }

-- ---- ids that are read
pub all_read : (ids : ℕ → Id) (ss : List TimelineEntry) → AllByRecursion (IsSeated ids) ss → AllByRecursion (λ k. ((ids k).given ≡ true) × ((ids k).reads ≡ true)) (all_ids (map (λ (s : TimelineEntry). s.programme) ss))
all_read ids [] all = tt
all_read ids (s ∷ ss) all =
    let P : ℕ → Type 0 = λ k. ((ids k).given ≡ true) × ((ids k).reads ≡ true) in
    let own : AllByRecursion (λ (r : CaptureSource). P (id_of r)) s.programme.captures.sources.items =
    all_on (IsOpened ids) (λ (r : CaptureSource). P (id_of r)) s.programme.captures.sources.items (λ r o. (o.at.given, o.at.reads)) all.0.programme.opened.each in
    all_join P (own_ids s.programme) (all_ids (map (λ (t : TimelineEntry). t.programme) ss)) (map_all P id_of s.programme.captures.sources.items own) (all_read ids ss all.1)

-- ---- one more
pub all_more : (files : Files) (ids : ℕ → Id) (ps : List Timeline) (xss : List (List Stream)) (p : Timeline) (xs : List Stream) → AreAllReplays files ids ps xss →
    AreReplays files ids p.captures.sources.items xs → AreAllReplays files ids (ps ++ p ∷ []) (xss ++ xs ∷ [])
all_more files ids [] [] p xs told own = (own, tt)
all_more files ids [] (ys ∷ xss) p xs told own = absurd told
all_more files ids (q ∷ ps) [] p xs told own = absurd told
all_more files ids (q ∷ ps) (ys ∷ xss) p xs told own = (told.0, all_more files ids ps xss p xs told.1 own)
