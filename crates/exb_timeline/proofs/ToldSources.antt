-- What is told of captures that are read again.
use Rattle.std.proofs.Common.{◌≡◌, ◌≤◌, ℕ, suc, false, List, [], ◌∷◌, ◌++◌, length, max, refl, sym, ap, subst, ◌∙◌}
use Rattle.std.specs.Prelude.{Option, Some, None, Ok, IfSome, IfNone, flat_map}
use Rattle.std.specs.List.{AllByRecursion}
use Rattle.exb_model.specs.declared.arrival.Arrival.{Arrival}
use Rattle.exb_model.specs.Input.{Record, Captured, arrivals_from}
use Rattle.exb_capture.specs.Captures.{capture_records}
use Rattle.exb_capture.specs.CaptureFiles.{next_of}
use Rattle.exb_shelf.specs.Files.{Files, SameFiles, bytes_of}
use Rattle.exb_shelf.specs.Shelf.{Id, reading}
use Rattle.exb_capture.specs.declared.scans.Scanned.{Scanned}
use Rattle.exb_capture.specs.declared.replay.Replay.{Replay}
use Rattle.exb_capture.specs.CaptureFiles.{IsAt, MovesOn}
use Rattle.exb_capture.specs.Replays.{ComesAt, HasGiven, IsPlayed, IsReplaying, IsSameReplay}
use Rattle.exb_capture.specs.Scans.{scanned_of}
use Rattle.exb_capture.proofs.CaptureFileLemmas.{taken_read}
use Rattle.exb_capture.proofs.LookAhead.{kept_bytes}
use Rattle.exb_capture.proofs.ReplayLemmas.{next_replayed, end_replayed}
use Rattle.exb_timeline.specs.declared.capture_merge.CaptureSource.{CaptureSource}
use Rattle.exb_timeline.specs.CaptureMerges.{IsOpened, IsReplayOf, AreReplays}
use Rattle.exb_timeline.specs.Streams.{Stream, arrivals_of, next_moment, to_come}
use Rattle.exb_timeline.proofs.Arrivals.{NoneArrives, none_arrives-append, none_arrives-next, to_come-first, to_come-none}

-- ---- one capture
-- the first record of what is left comes next
told_moment : (bytes : List ℕ) (left : List Record) (r : Replay) (m : ℕ) → ComesAt m r → IsReplaying bytes left r →
    (x : Record) × (rest : List Record) × (left ≡ x ∷ rest) × (m ≡ max r.least x.time)
told_moment bytes left r m c k =
    let next : Replay = record r { file = record r.file { next = None }; fresh = false } in
    let has : HasGiven bytes (k.given ++ c.next ∷ []) next = record { read = taken_read bytes k.given c.next r.file c.found k.has.read; fresh = λ e. absurd (cc) } in
    let first = next_replayed bytes left r r next m c.next.bytes k c k.has has refl refl refl in
    (first.0, first.1, first.2, first.3)

pub next_told : (files : Files) (ids : ℕ → Id) (s : CaptureSource) (x : Stream) → IsOpened ids s → IsReplayOf files ids s x → next_moment (arrivals_of x) ≡ s.next
next_told files ids s x o t = by_next s.next refl o.comes
  where
    by_next : (n : Option ℕ) → s.next ≡ n → IfSome n (λ m. ComesAt m s.replay) → next_moment (arrivals_of x) ≡ n
    by_next None e h = ap (λ rs. next_moment (arrivals_from x.port x.index x.least rs)) (t.over e)
    by_next (Some m) e h =
        let first = told_moment (bytes_of (files (ids s.replay.file.id).name)) x.records s.replay m h t.left in
        ap (λ rs. next_moment (arrivals_from x.port x.index x.least rs)) first.2
        ∙ ap Some (ap (λ n. max n first.0.time) t.least ∙ sym first.3)

-- a record of it was taken: it is the first of what was left
pub replaying_taken : (bytes taken_bytes : List ℕ) (left : List Record) (r taken : Replay) (m : ℕ) (c : ComesAt m r) → taken.told ≡ r.told → taken_bytes ≡ c.next.bytes →
    ((b : List ℕ) (xs : List Record) (x : Record) → next_of r.file ≡ Some x → HasGiven b xs r → HasGiven b (xs ++ x ∷ []) taken) → IsReplaying bytes left r →
    (x : Record) × (rest : List Record) × (left ≡ x ∷ rest) × (m ≡ max r.least x.time) × (taken_bytes ≡ x.bytes) × IsReplaying bytes rest taken
replaying_taken bytes taken_bytes left r taken m c told is gives k =
    next_replayed bytes left r r taken m taken_bytes k c k.has (gives bytes k.given c.next c.found k.has) is refl told

-- it was looked at, so far as its next record
pub replaying_looked : (file now : Files) (given ids : ℕ → Id) (left : List Record) (r looked : Replay) (next : Option ℕ) → IsAt (given r.file.id) r.file.got → MovesOn r.file.id given ids →
    SameFiles file now → IsSameReplay r looked →
    ((xs : List Record) → HasGiven (bytes_of (file (given r.file.id).name)) xs r → HasGiven (bytes_of (file (given r.file.id).name)) xs looked) →
    IfNone next ((xs : List Record) → HasGiven (bytes_of (file (given r.file.id).name)) xs r → IsPlayed r.told (bytes_of (file (given r.file.id).name)) xs) →
    IsReplaying (bytes_of (file (given r.file.id).name)) left r → IsReplaying (bytes_of (now (ids looked.file.id).name)) left looked × (next ≡ None → left ≡ [])
replaying_looked file now given ids left r looked next at moves files same gives end k =
    let bytes : List ℕ = bytes_of (file (given r.file.id).name) in
    let still = kept_bytes file now given ids r.file.id looked.file.id r.file.got at moves files same.file.id in
    let goes : IsReplaying bytes left looked = record { given = k.given; has = gives k.given k.has; whole = k.whole; told = same.told ∙ k.told } in
    (subst (λ b. IsReplaying b left looked) (sym still) goes, by_next next end)
  where
    by_next : (n : Option ℕ) → IfNone n ((xs : List Record) → HasGiven (bytes_of (file (given r.file.id).name)) xs r → IsPlayed r.told (bytes_of (file (given r.file.id).name)) xs) →
        n ≡ None → left ≡ []
    by_next None h e = end_replayed (bytes_of (file (given r.file.id).name)) left r k (h k.given k.has)
    by_next (Some m) h e = absurd (cc)

-- it was opened
pub replaying_opened : (file opened : Files) (ids : ℕ → Id) (name bytes : List ℕ) (records : List Record) (told : Scanned) (r : Replay) → file name ≡ Some bytes → capture_records bytes ≡ Ok records →
    told ≡ scanned_of bytes records → SameFiles file opened → ids r.file.id ≡ reading name 0 → r.told ≡ told → HasGiven (bytes_of (file name)) [] r →
    IsReplaying (bytes_of (opened (ids r.file.id).name)) records r
replaying_opened file opened ids name bytes records told r there whole is same id tells has =
    let here : bytes_of (opened (ids r.file.id).name) ≡ bytes = ap (λ (i : Id). bytes_of (opened i.name)) id ∙ ap bytes_of (same name) ∙ ap bytes_of there in
    let goes : IsReplaying bytes records r = record { given = []; has = subst (λ b. HasGiven b [] r) (ap bytes_of there) has; whole = whole; told = tells ∙ is } in
    subst (λ b. IsReplaying b records r) (sym here) goes

-- ---- of all
-- where no capture has a record before a moment, nothing of them arrives before it
pub none_arrives : (files : Files) (ids : ℕ → Id) (m : ℕ) (ss : List CaptureSource) (xs : List Stream) → AllByRecursion (IsOpened ids) ss → AreReplays files ids ss xs →
    AllByRecursion (λ (s : CaptureSource). IfSome s.next (λ k. m ≤ k)) ss → NoneArrives m (flat_map arrivals_of xs)
none_arrives files ids m [] [] each t from = tt
none_arrives files ids m [] (x ∷ xs) each t from = absurd t
none_arrives files ids m (s ∷ ss) [] each t from = absurd t
none_arrives files ids m (s ∷ ss) (x ∷ xs) each t from =
    none_arrives-append m (arrivals_of x) (flat_map arrivals_of xs)
    (none_arrives-next m x (λ k e. subst (λ o. IfSome o (λ n. m ≤ n)) (sym (next_told files ids s x each.0 t.0) ∙ e) from.0))
    (none_arrives files ids m ss xs each.1 t.1 from.1)

-- nothing was read through its id
replay_stays : (file now : Files) (given ids : ℕ → Id) (s : CaptureSource) (x : Stream) → SameFiles file now → ids s.replay.file.id ≡ given s.replay.file.id → IsReplayOf file given s x → IsReplayOf now ids s x
replay_stays file now given ids s x same id t =
    let bytes : bytes_of (file (given s.replay.file.id).name) ≡ bytes_of (now (ids s.replay.file.id).name) =
    (ap bytes_of (sym (same (given s.replay.file.id).name)) ∙ ap (λ (i : Id). bytes_of (now i.name)) (sym id)) in
    record { port = t.port; index = t.index; least = t.least; left = subst (λ b. IsReplaying b x.records s.replay) bytes t.left; over = t.over }

abbrev pub Stays : (ℕ → Id) → (ℕ → Id) → CaptureSource → Type 0
Stays given ids s = ids s.replay.file.id ≡ given s.replay.file.id

pub replays_stay : (file now : Files) (given ids : ℕ → Id) (ss : List CaptureSource) (xs : List Stream) → SameFiles file now → AllByRecursion (Stays given ids) ss → AreReplays file given ss xs → AreReplays now ids ss xs
replays_stay file now given ids [] [] same stay t = tt
replays_stay file now given ids [] (x ∷ xs) same stay t = absurd t
replays_stay file now given ids (s ∷ ss) [] same stay t = absurd t
replays_stay file now given ids (s ∷ ss) (x ∷ xs) same stay t = (replay_stays file now given ids s x same stay.0 t.0, replays_stay file now given ids ss xs same stay.1 t.1)

pub replays_join : (files : Files) (ids : ℕ → Id) (ss ts : List CaptureSource) (xs ys : List Stream) → AreReplays files ids ss xs → AreReplays files ids ts ys → AreReplays files ids (ss ++ ts) (xs ++ ys)
replays_join files ids [] ts [] ys left right = right
replays_join files ids [] ts (x ∷ xs) ys left right = absurd left
replays_join files ids (s ∷ ss) ts [] ys left right = absurd left
replays_join files ids (s ∷ ss) ts (x ∷ xs) ys left right = (left.0, replays_join files ids ss ts xs ys left.1 right)

-- the stream of a capture at its place
pub record HasReplay (files : Files) (ids : ℕ → Id) (front back : List CaptureSource) (s : CaptureSource) (xs : List Stream) : Type 0 where
  pub before : List Stream
  pub one : Stream
  pub after : List Stream
  pub split : xs ≡ before ++ one ∷ after
  pub at : length before ≡ length front
  pub ahead : AreReplays files ids front before
  pub is : IsReplayOf files ids s one
  pub behind : AreReplays files ids back after

pub replay_at : (files : Files) (ids : ℕ → Id) (front back : List CaptureSource) (s : CaptureSource) (xs : List Stream) → AreReplays files ids (front ++ s ∷ back) xs → HasReplay files ids front back s xs
replay_at files ids [] back s [] t = absurd t
replay_at files ids [] back s (x ∷ xs) t = record { before = []; one = x; after = xs; split = refl; at = refl; ahead = tt; is = t.0; behind = t.1 }
replay_at files ids (f ∷ front) back s [] t = absurd t
replay_at files ids (f ∷ front) back s (x ∷ xs) t =
    let h = replay_at files ids front back s xs t.1 in
    record {
      before = x ∷ h.before;
      one = h.one;
      after = h.after;
      split = ap (λ ys. x ∷ ys) h.split;
      at = ap suc h.at;
      ahead = (t.0, h.ahead);
      is = h.is;
      behind = h.behind;
    }

-- ---- what comes first
-- a stream behind this record
abbrev pub gone_behind : Stream → ℕ → List Record → Stream
gone_behind x m rest = record { port = x.port; index = suc x.index; least = m; records = rest }

arrival_is : (x : Stream) (r : Record) (rest : List Record) (m : ℕ) (c : Arrival) → x.records ≡ r ∷ rest → m ≡ max x.least r.time → c.port ≡ x.port → c.index ≡ x.index → c.moment ≡ m → c.bytes ≡ r.bytes →
    arrivals_of x ≡ c ∷ arrivals_of (gone_behind x m rest)
arrival_is x r rest m c first is port index moment bytes =
    let own : record { port = x.port; index = x.index; moment = max x.least r.time; bytes = r.bytes } ≡ record { port = c.port; index = c.index; moment = c.moment; bytes = c.bytes } = rw (port, index, moment, bytes, is) refl in
    ap (arrivals_from x.port x.index x.least) first
    ∙ ap (λ (a : Arrival). a ∷ arrivals_from x.port (suc x.index) (max x.least r.time) rest) own
    ∙ ap (λ n. c ∷ arrivals_from x.port (suc x.index) n rest) (sym is)

pub told_first : (xs before after : List Stream) (x : Stream) (m : ℕ) (r : Record) (rest : List Record) (c : Arrival) → xs ≡ before ++ x ∷ after →
    NoneArrives (suc m) (flat_map arrivals_of before) → NoneArrives m (flat_map arrivals_of after) →
    x.records ≡ r ∷ rest → m ≡ max x.least r.time → c.port ≡ x.port → c.index ≡ x.index → c.moment ≡ m → c.bytes ≡ r.bytes →
    to_come xs ≡ Captured c ∷ to_come (before ++ gone_behind x m rest ∷ after)
told_first xs before after x m r rest c split ahead behind first is port index when bytes =
    ap to_come split
    ∙ to_come-first before after x (gone_behind x m rest) c (arrival_is x r rest m c first is port index when bytes)
    (subst (λ k. NoneArrives (suc k) (flat_map arrivals_of before)) (sym when) ahead) (subst (λ k. NoneArrives k (flat_map arrivals_of after)) (sym when) behind)

no_next : (xs : List Arrival) → next_moment xs ≡ None → xs ≡ []
no_next [] e = refl
no_next (x ∷ xs) e = absurd (cc)

none_of : (files : Files) (ids : ℕ → Id) (ss : List CaptureSource) (xs : List Stream) → AllByRecursion (IsOpened ids) ss → AreReplays files ids ss xs → AllByRecursion (λ (s : CaptureSource). s.next ≡ None) ss →
    AllByRecursion (λ x. arrivals_of x ≡ []) xs
none_of files ids [] [] each t none = tt
none_of files ids [] (x ∷ xs) each t none = absurd t
none_of files ids (s ∷ ss) [] each t none = absurd t
none_of files ids (s ∷ ss) (x ∷ xs) each t none = (no_next (arrivals_of x) (next_told files ids s x each.0 t.0 ∙ none.0), none_of files ids ss xs each.1 t.1 none.1)

-- where no turn is left, nothing comes
pub none_told : (files : Files) (ids : ℕ → Id) (ss : List CaptureSource) (xs : List Stream) → AllByRecursion (IsOpened ids) ss → AreReplays files ids ss xs → AllByRecursion (λ (s : CaptureSource). s.next ≡ None) ss →
    to_come xs ≡ []
none_told files ids ss xs each t none = to_come-none xs (none_of files ids ss xs each t none)
