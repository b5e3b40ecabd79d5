-- The next record is taken of the capture whose turn it is.
use Rattle.std.proofs.Common.{◌≡◌, ℕ, suc, ◌+◌, ◌*◌, ◌^◌, ◌<◌, ◌≤◌, List, [], ◌∷◌, ◌++◌, length, map, max, set, sym, ap, subst, ◌∙◌, arith}
use Rattle.std.specs.Prelude.{Option, Some, IfSome, IfNone, sum_by}
use Rattle.std.specs.List.{AllByRecursion}
use Rattle.exb_model.specs.Input.{Record, Captured, second_of}
use Rattle.exb_capture.specs.CaptureFiles.{next_of}
use Rattle.exb_shelf.specs.Files.{Files, SameFiles, bytes_of}
use Rattle.exb_shelf.specs.Shelf.{Id}
use Rattle.exb_capture.specs.declared.replay.Replay.{Replay}
use Rattle.exb_capture.specs.CaptureFiles.{IsAt, MovesOn}
use Rattle.exb_capture.specs.Replays.{ComesAt, HasGiven, IsPlayed, IsReplaying, IsSameReplay, IsSince}
use Rattle.exb_timeline.specs.declared.capture_merge.CaptureSource.{CaptureSource}
use Rattle.exb_model.specs.declared.arrival.Arrival.{Arrival}
use Rattle.exb_timeline.specs.CaptureMerges.{Apart, AreReplays, HasCome, HasNext, HasPort, IsOpened, ReadsOn, gone_on, next_in, number_of, standing_of}
use Rattle.exb_timeline.specs.Streams.{Stream, to_come}
use Rattle.exb_timeline.specs.Tournaments.{IsFirst}
use Rattle.exb_timeline.proofs.SourcesOnShelf.{opened_put, reads_on, stay_after, stay_before}
use Rattle.exb_timeline.proofs.ListPlaces.{all_put, set_at}
use Rattle.exb_timeline.proofs.ListMembers.{all-left, all-right}
use Rattle.exb_timeline.proofs.SourceTurns.{IsNext, has_next, own_comes, own_of}
use Rattle.exb_timeline.proofs.SourcePositions.{apart_before, apart_put, goes_on, has_port, id_of, ids_same, left_less, left_of, number_is, since_told}
use Rattle.exb_timeline.proofs.ToldSources.{HasReplay, gone_behind, none_arrives, replay_at, replaying_looked, replaying_taken, replays_join, replays_stay, told_first}
use Rattle.exb_timeline.proofs.ListTurns.{ahead_of, all_from, behind_of}

-- ---- all, once the capture whose turn it is has gone on
module _ (xs : List CaptureSource) (m place : ℕ) (s s' : CaptureSource) (h : IsNext xs m place s) where
  put_is : set xs place s' ≡ h.at.before ++ s' ∷ h.at.after
  put_is = set_at xs place s s' h.at

  pub next_apart : s'.port ≡ s.port → id_of s' ≡ id_of s → Apart xs → Apart (set xs place s')
  next_apart port id apart = subst Apart (sym put_is) (apart_put h.at.before h.at.after s s' port id (subst Apart h.at.split apart))

  pub next_each : (given ids : ℕ → Id) → MovesOn (id_of s) given ids → Apart xs → IsOpened ids s' → AllByRecursion (IsOpened given) xs → AllByRecursion (IsOpened ids) (set xs place s')
  next_each given ids moves apart own each =
      subst (AllByRecursion (IsOpened ids)) (sym put_is)
      (opened_put given ids h.at.before h.at.after s s' moves (subst Apart h.at.split apart) own (subst (AllByRecursion (IsOpened given)) h.at.split each))

  pub next_left : left_of s' + 16 ≤ left_of s → sum_by left_of (set xs place s') + 16 ≤ sum_by left_of xs
  next_left less =
      let now = ap (sum_by left_of) put_is in
      let was = ap (sum_by left_of) h.at.split in
      omega (arith, now, was, left_less h.at.before h.at.after s s' less)

  pub next_ids : id_of s' ≡ id_of s → map id_of (set xs place s') ≡ map id_of xs
  next_ids id = ap (map id_of) put_is ∙ ids_same h.at.before h.at.after s s' id ∙ ap (map id_of) (sym h.at.split)

  pub next_rises : (k : ℕ) → k ≡ m → AllByRecursion (λ (t : CaptureSource). IfSome t.next (λ n. m ≤ n)) xs → IfSome s'.next (λ n. m ≤ n) → AllByRecursion (λ (t : CaptureSource). IfSome t.next (λ n. k ≤ n)) (set xs place s')
  next_rises k is none own =
      subst (λ l. AllByRecursion (λ (t : CaptureSource). IfSome t.next (λ n. l ≤ n)) (set xs place s')) (sym is)
      (subst (AllByRecursion (λ (t : CaptureSource). IfSome t.next (λ n. m ≤ n))) (sym put_is)
      (all_put (λ (t : CaptureSource). IfSome t.next (λ n. m ≤ n)) h.at.before h.at.after s s' (λ _. own) (subst (AllByRecursion (λ (t : CaptureSource). IfSome t.next (λ n. m ≤ n))) h.at.split none)))

  pub next_come : (c : Arrival) → Apart xs → s'.port ≡ s.port → s'.index ≡ suc s.index → s'.replay.least ≡ m → c.port ≡ s.port → c.index ≡ s.index → c.moment ≡ m → 1 ≤ s.index → s.index < 2 ^ 63 →
      m < 2 ^ 32 * 1_000_000_000 → length c.bytes ≤ 262_144 → HasCome (map standing_of xs) c (map standing_of (set xs place s'))
  next_come c apart port index least own_port own_index own_moment first numbers in_time short =
      let others = apart_before h.at.before h.at.after s (subst Apart h.at.split apart) in
      record {
        port = subst (λ p. HasPort p (map standing_of xs)) (sym own_port) (subst (λ ys. HasPort s.port (map standing_of ys)) (sym h.at.split) (has_port h.at.before h.at.after s));
        number = own_index ∙ sym (ap (number_of (map standing_of xs)) own_port ∙ ap (λ ys. number_of (map standing_of ys) s.port) h.at.split ∙ number_is h.at.before h.at.after s others);
        first = omega (arith, first, own_index);
        numbers = omega (arith, numbers, own_index);
        moment = omega (arith, in_time, own_moment);
        bytes = short;
        gone = ap (map standing_of) put_is ∙ goes_on h.at.before h.at.after s s' m others port index least ∙ ap (λ ys. gone_on s.port m (map standing_of ys)) (sym h.at.split)
            ∙ ap (λ p. gone_on p m (map standing_of xs)) (sym own_port) ∙ ap (λ k. gone_on c.port k (map standing_of xs)) (sym own_moment);
      }

module _ (xs : List CaptureSource) (m place : ℕ) (s : CaptureSource) (h : IsNext xs m place s) where
  pub next_earliest : (k : ℕ) → k ≡ m → IsFirst (map next_in xs) m place → HasNext k xs × AllByRecursion (λ (t : CaptureSource). IfSome t.next (λ n. k ≤ n)) xs
  next_earliest k is first =
      subst (λ l. HasNext l xs × AllByRecursion (λ (t : CaptureSource). IfSome t.next (λ n. l ≤ n)) xs) (sym is)
      (subst (HasNext m) (sym h.at.split) (has_next h.at.before h.at.after s m h.next), all_from next_in xs m place first)

  pub next_reads : (given ids : ℕ → Id) → MovesOn (id_of s) given ids → ReadsOn (map id_of xs) given ids
  next_reads given ids moves = subst (λ ys. ReadsOn (map id_of ys) given ids) (sym h.at.split) (reads_on given ids h.at.before h.at.after s moves)

  pub next_since : (second k : ℕ) → k ≡ m → IsSince s.replay.told.first m → AllByRecursion (λ (t : CaptureSource). IfSome t.replay.told.first (λ first. second ≤ second_of first)) xs → second ≤ second_of k
  next_since second k is since all =
      subst (λ l. second ≤ second_of l) (sym is)
      (since_told second m s.replay.told.first since (own_of (λ (t : CaptureSource). IfSome t.replay.told.first (λ first. second ≤ second_of first)) xs place s h.at all))

-- ---- a record of it was taken
module _ (given : ℕ → Id) (s : CaptureSource) (taken : Replay) (same : IsSameReplay s.replay taken) where
  pub at_taken : taken.file.got ≡ s.replay.file.got → IsAt (given s.replay.file.id) s.replay.file.got → IsAt (given taken.file.id) taken.file.got
  at_taken got at = subst (λ n. IsAt (given taken.file.id) n) (sym got) (subst (λ k. IsAt (given k) s.replay.file.got) (sym same.file.id) at)

  pub moves_taken : (ids : ℕ → Id) → MovesOn taken.file.id given ids → MovesOn (id_of s) given ids
  moves_taken ids moves = subst (λ k. MovesOn k given ids) same.file.id moves

-- what is still to come of the capture whose turn it is
module _ (file : Files) (given : ℕ → Id) (xs : List CaptureSource) (m place : ℕ) (s : CaptureSource) (h : IsNext xs m place s) (each : AllByRecursion (IsOpened given) xs) (taken : Replay) (same : IsSameReplay s.replay taken)
    (gives : (bytes : List ℕ) (ys : List Record) (x : Record) → next_of s.replay.file ≡ Some x → HasGiven bytes ys s.replay → HasGiven bytes (ys ++ x ∷ []) taken) where
  own : IsOpened given s
  own = own_of (IsOpened given) xs place s h.at each

  comes : ComesAt m s.replay
  comes = own_comes given m s h.next own

  -- its first record is the one that was taken, and the others are left
  pub record HasRest (streams : List Stream) (frame : List ℕ) : Type 0 where
    pub there : HasReplay file given h.at.before h.at.after s streams
    pub first : Record
    pub rest : List Record
    pub split : there.one.records ≡ first ∷ rest
    pub moment : m ≡ max s.replay.least first.time
    pub bytes : frame ≡ first.bytes
    pub left : IsReplaying (bytes_of (file (given taken.file.id).name)) rest taken

  pub has_rest : (streams : List Stream) (frame : List ℕ) → ((x : Record) → next_of s.replay.file ≡ Some x → frame ≡ x.bytes) → AreReplays file given xs streams → HasRest streams frame
  has_rest streams frame is told =
      let q = replay_at file given h.at.before h.at.after s streams (subst (λ ss. AreReplays file given ss streams) h.at.split told) in
      let k = replaying_taken (bytes_of (file (given s.replay.file.id).name)) frame q.one.records s.replay taken m comes same.told (is comes.next comes.found) gives q.is.left in
      record {
        there = q;
        first = k.0;
        rest = k.1;
        split = k.2;
        moment = k.3;
        bytes = k.4;
        left = subst (λ n. IsReplaying (bytes_of (file (given n).name)) k.1 taken) (sym same.file.id) k.5;
      }

  -- so what came is the first of all, and the rest is left
  pub order_next : (now : Files) (ids : ℕ → Id) (looked : Replay) (port index : ℕ) (next : Option ℕ) (c : Arrival) (streams : List Stream) → Apart xs →
      IsFirst (map next_in xs) m place → c.port ≡ s.port → c.index ≡ s.index → c.moment ≡ m → port ≡ s.port → index ≡ suc s.index → looked.least ≡ m →
      IsAt (given taken.file.id) taken.file.got → MovesOn taken.file.id given ids → SameFiles file now → IsSameReplay taken looked →
      ((ys : List Record) → HasGiven (bytes_of (file (given taken.file.id).name)) ys taken → HasGiven (bytes_of (file (given taken.file.id).name)) ys looked) →
      IfNone next ((ys : List Record) → HasGiven (bytes_of (file (given taken.file.id).name)) ys taken → IsPlayed taken.told (bytes_of (file (given taken.file.id).name)) ys) →
      AreReplays file given xs streams → HasRest streams c.bytes →
      (rest : List Stream) × (to_come streams ≡ Captured c ∷ to_come rest) × AreReplays now ids (set xs place (record { port = port; index = index; next = next; replay = looked })) rest
  order_next now ids looked port index next c streams apart first own_port own_index own_moment port_is index_is least at moves files later gives_on end told t =
      let q = t.there in
      let opened = subst (AllByRecursion (IsOpened given)) h.at.split each in
      let s' : CaptureSource = record { port = port; index = index; next = next; replay = looked } in
      let x' : Stream = gone_behind q.one m t.rest in
      let on = moves_taken given s taken same ids moves in
      let parts = subst Apart h.at.split apart in
      let both = replaying_looked file now given ids t.rest taken looked next at moves files later gives_on end t.left in
      let all : AreReplays now ids (h.at.before ++ s' ∷ h.at.after) (q.before ++ x' ∷ q.after) =
      replays_join now ids h.at.before (s' ∷ h.at.after) q.before (x' ∷ q.after)
      (replays_stay file now given ids h.at.before q.before files (stay_before given ids h.at.before h.at.after s on parts) q.ahead) (
        record { port = q.is.port ∙ sym port_is; index = ap suc q.is.index ∙ sym index_is; least = sym least; left = both.0; over = both.1 },
        replays_stay file now given ids h.at.after q.after files (stay_after given ids h.at.before h.at.after s on parts) q.behind,
      ) in (
        q.before ++ x' ∷ q.after,
        told_first streams q.before q.after q.one m t.first t.rest c q.split
            (none_arrives file given (suc m) h.at.before q.before (all-left (IsOpened given) h.at.before (s ∷ h.at.after) opened) q.ahead (ahead_of next_in xs m place first s h.at))
            (none_arrives file given m h.at.after q.after (all-right (IsOpened given) h.at.before (s ∷ h.at.after) opened).1 q.behind (behind_of next_in xs m place first s h.at)) t.split (t.moment ∙ ap (λ n. max n t.first.time) (sym q.is.least)) (own_port ∙ sym q.is.port) (own_index ∙ sym q.is.index) own_moment t.bytes,
        subst (λ ss. AreReplays now ids ss (q.before ++ x' ∷ q.after)) (sym (set_at xs place s s' h.at)) all,
      )
