-- One thing more comes of several bridges.
use Rattle.std.proofs.Common.{◌≡◌, ℕ, zero, suc, ◌+◌, ◌*◌, ◌^◌, ◌<◌, ◌≤◌, Bool, true, false, cond, List, [], ◌∷◌, ◌++◌, length, map, min, set, drop, refl, sym, ap, subst, ◌∙◌, arith, inl, inr, length-append}
use Rattle.std.specs.Prelude.{◌≢◌, nat_le, nat_lt, flat_map, slice_get, Option, Some, None, IfSome, IfNone, Err, IsErrOf}
use Rattle.std.specs.List.{AllByRecursion}
use Rattle.std.proofs.lemmas.Bool.{leb-true}
use Rattle.std.proofs.lemmas.List.{length-map, map-append}
use Rattle.std.proofs.lemmas.List.Sums.{sum_by-append, sum_by-cons}
use Rattle.exb_model.specs.declared.arrival.Arrival.{Arrival}
use Rattle.exb_model.specs.Input.{Coming, Captured, by_moment, moment_of, put_in_order}
use Rattle.exb_shelf.specs.Files.{Files, SameFiles, bytes_of}
use Rattle.exb_shelf.specs.Shelf.{Id}
use Rattle.exb_timeline.specs.declared.net_timeline.NetNext.{NetNext}
use Rattle.exb_timeline.specs.declared.net_timeline.TimelineEntry.{TimelineEntry}
use Rattle.exb_timeline.specs.declared.bridge_timeline.Next.{Next}
use Rattle.exb_timeline.specs.declared.bridge_timeline.Timeline.{Timeline}
use Rattle.exb_timeline.specs.declared.net_timeline.BridgeFault.{BridgeFault}
use Rattle.exb_timeline.specs.declared.capture_merge.CaptureSource.{CaptureSource}
use Rattle.exb_timeline.specs.declared.capture_merge.CaptureFault.{CaptureFault}
use Rattle.exb_timeline.specs.declared.capture_merge.CaptureMerge.{CaptureMerge}
use Rattle.exb_capture.specs.Replays.{ComesAt}
use Rattle.exb_timeline.specs.MergeOrder.{ToPlay, commands_left, first_moment, still_to_come, turn_by}
use Rattle.exb_timeline.specs.NetMergeOrder.{AreAllReplays, ComesTo, IsSeated, IsTurn, ReadApart, all_ids, all_to_play, due_of, dues_left, left_of_all}
use Rattle.exb_timeline.specs.Timelines.{IsComing, IsFrom, IsSoonest, IsTakenOf, left_of, moment_in, played_with, sooner, what}
use Rattle.exb_timeline.specs.CaptureMerges.{AreOpened, AreReplays, HasNext, IsEarliest, IsOpened, NoneIsBefore, ReadsOn}
use Rattle.exb_timeline.specs.Streams.{Stream, arrivals_of, to_come}
use Rattle.exb_timeline.proofs.CommandsAmongRecords.{not-first, rising-drop}
use Rattle.exb_timeline.proofs.ListMembers.{all-left, all-right}
use Rattle.exb_timeline.proofs.NetOrder.{HasRecords, IsAfter, IsRecord, coming_turn, due, first_of_all, first_turn, first_with, none_of_all}
use Rattle.exb_timeline.proofs.NetIds.{all_kept, apart_kept, ids_append, ids_kept, others_ahead, others_behind, own_ids, same_others, seats_stay}
use Rattle.exb_timeline.proofs.ListPlaces.{HasAt, all_at, all_join, all_on, set_at}
use Rattle.exb_timeline.proofs.TimelineNext.{earliest_told, none_from, one_earliest, weaker_from}

abbrev pub own : TimelineEntry → Timeline
own s = s.programme

-- ---- turns
-- where a programme has its turn no earlier, nothing of it comes before that moment
pub from_turn : (m : ℕ) (t : Option ℕ) (p : Timeline) → IsTurn t p → IfSome t (λ k. 2 * m ≤ k) → IsFrom m p
from_turn m t p turn low =
    let both = by (first_moment (commands_left (played_with [] p))) turn.0 turn.1 (subst (λ (o : Option ℕ). IfSome o (λ k. 2 * m ≤ k)) turn.2 low) in
    record { commands = both.0; captures = both.1 }
  where
    by : (command captured : Option ℕ) → IsEarliest captured p.captures → IfSome (turn_by command captured) (λ k. 2 * m ≤ k) → IfSome command (λ k. m ≤ k) × NoneIsBefore m p.captures
    by None None e h = (tt, none_from m p.captures.sources.items e)
    by (Some k) None e h = (omega (arith, h), none_from m p.captures.sources.items e)
    by None (Some c) e h = (tt, weaker_from m c p.captures.sources.items (omega (arith, h)) e.1)
    by (Some k) (Some c) e h = (omega (arith, h), weaker_from m c p.captures.sources.items (omega (arith, h)) e.1)

-- what comes soonest has no later moment than its turn
pub turn_about : (t : Option ℕ) (m : ℕ) (p : Timeline) → IsTurn t p → IsSoonest (Some m) p → IfSome t (λ k. 2 * m ≤ k)
turn_about t m p turn soonest =
    let same = one_earliest p.captures soonest.0 turn.0 soonest.1 turn.1 in
    subst (λ (o : Option ℕ). IfSome o (λ k. 2 * m ≤ k)) (sym turn.2)
    (by (first_moment (commands_left (played_with [] p))) turn.0 (soonest.2 ∙ ap (sooner (first_moment (commands_left (played_with [] p)))) same))
  where
    by : (command captured : Option ℕ) → Some m ≡ sooner command captured → IfSome (turn_by command captured) (λ k. 2 * m ≤ k)
    by None None e = tt
    by (Some k) None e = let is : m ≡ k = cc in omega (arith, is)
    by None (Some c) e = let is : m ≡ c = cc in omega (arith, is)
    by (Some k) (Some c) e = by_test (nat_le k c) refl e
      where
        by_test : (b : Bool) → nat_le k c ≡ b → Some m ≡ cond b (Some k) (Some c) → 2 * m ≤ min (2 * k) (2 * c + 1)
        by_test true test is = let at : m ≡ k = cc in omega (arith, at, leb-true k c test)
        by_test false test is = let at : m ≡ c = cc in omega (arith, at, not-first k c test)

-- and where nothing comes it has none
pub turn_none : (t : Option ℕ) (p : Timeline) → IsTurn t p → IsSoonest None p → t ≡ None
turn_none t p turn soonest =
    let same = one_earliest p.captures soonest.0 turn.0 soonest.1 turn.1 in
    turn.2 ∙ by (first_moment (commands_left (played_with [] p))) turn.0 (soonest.2 ∙ ap (sooner (first_moment (commands_left (played_with [] p)))) same)
  where
    by : (command captured : Option ℕ) → None ≡ sooner command captured → turn_by command captured ≡ None
    by None None e = refl
    by (Some k) None e = absurd (cc)
    by None (Some c) e = absurd (cc)
    by (Some k) (Some c) e = absurd (by_test (nat_le k c) e)
      where
        by_test : (b : Bool) → None ≡ cond b (Some k) (Some c) → ⊥
        by_test true is = cc
        by_test false is = cc

pub about_next : (t : Option ℕ) (p : Timeline) (next : Option Next) → IsTurn t p → IsSoonest (moment_in next) p → IfSome next (λ d. IfSome t (λ k. 2 * moment_of (what d) ≤ k))
about_next t p None turn soonest = tt
about_next t p (Some d) turn soonest = turn_about t (moment_of (what d)) p turn soonest

pub none_next : (t : Option ℕ) (p : Timeline) (next : Option Next) → IsTurn t p → IsSoonest (moment_in next) p → IfNone next (t ≡ None)
none_next t p None turn soonest = turn_none t p turn soonest
none_next t p (Some d) turn soonest = tt

-- ---- moments of 63 bits
pub command_low : (start : ℕ) (o : Option ℕ) → start < 2 ^ 32 → IfSome o (λ m. m < (start + 2 ^ 32) * 1000000000) → IfSome o (λ m. m < 2 ^ 63)
command_low start None low before = tt
command_low start (Some m) low before = omega (arith, low, before)

next_low : (ids : ℕ → Id) (m : ℕ) (ss : List CaptureSource) → AllByRecursion (IsOpened ids) ss → HasNext m ss → m < 2 ^ 62
next_low ids m [] all has = absurd has
next_low ids m (s ∷ ss) all (inr has) = next_low ids m ss all.1 has
next_low ids m (s ∷ ss) all (inl is) =
    let comes = subst (λ (o : Option ℕ). IfSome o (λ k. ComesAt k s.replay)) is all.0.comes in
    omega (arith, comes.in_time)

pub captured_low : (ids : ℕ → Id) (r : CaptureMerge) (o : Option ℕ) → AreOpened ids r → IsEarliest o r → IfSome o (λ m. m < 2 ^ 62)
captured_low ids r None opened first = tt
captured_low ids r (Some m) opened first = next_low ids m r.sources.items opened.each first.0

pub no_turn : (t : ℕ) (s : TimelineEntry) → s.turn ≡ Some t → s.turn ≡ None → ⊥
no_turn t s is none = let no : Some t ≡ None = sym is ∙ none in cc

-- ---- a fault, and the bridge of which it is
pub fault_is : {X : Type 0} (j b : ℕ) (f k : CaptureFault) → IsErrOf {T = X} {E = BridgeFault} (Err (record { bridge = j; fault = f })) (record { bridge = b; fault = k }) → (j ≡ b) × (f ≡ k)
fault_is {X} j b f k e =
    let mine : BridgeFault = record { bridge = j; fault = f } in
    let told : BridgeFault = record { bridge = b; fault = k } in
    let same : mine ≡ told = cc in
    (ap (λ (x : BridgeFault). x.bridge) same, ap (λ (x : BridgeFault). x.fault) same)

-- ---- turns, where the files are told
record_put : (x : Coming) (ys : List Coming) → IsRecord x → AllByRecursion IsRecord ys → AllByRecursion IsRecord (put_in_order x ys)
record_put x [] here all = (here, tt)
record_put x (y ∷ ys) here all = by_test (record_put x ys here all.1) (nat_lt (moment_of y) (moment_of x))
  where
    by_test : AllByRecursion IsRecord (put_in_order x ys) → (b : Bool) → AllByRecursion IsRecord (cond b (y ∷ put_in_order x ys) (x ∷ y ∷ ys))
    by_test rest true = (all.0, rest)
    by_test rest false = (here, all)

records_sorted : (as_ : List Arrival) → AllByRecursion IsRecord (by_moment (map Captured as_))
records_sorted [] = tt
records_sorted (a ∷ as_) = record_put (Captured a) (by_moment (map Captured as_)) tt (records_sorted as_)

records_come : (xs : List Stream) → AllByRecursion IsRecord (to_come xs)
unfolding to_come
records_come xs = records_sorted (flat_map arrivals_of xs)

has_records : (xs : List Stream) (p : Timeline) → HasRecords (played_with xs p)
unfolding to_come
has_records xs p = (flat_map arrivals_of xs, refl)

turn_told : (files : Files) (ids : ℕ → Id) (s : TimelineEntry) (xs : List Stream) → IsSeated ids s → AreReplays files ids s.programme.captures.sources.items xs → s.turn ≡ first_turn (still_to_come (played_with xs s.programme))
unfolding still_to_come
turn_told files ids s xs is told =
    let p : Timeline = s.programme in
    is.turn.2
    ∙ ap (turn_by (first_moment (commands_left (played_with [] p)))) (earliest_told files ids p.captures xs is.turn.0 is.programme.opened told is.turn.1)
    ∙ first_with (drop p.taken p.commands.now) p.start (p.taken + 1) (to_come xs) (rising-drop p.taken p.commands.now is.programme.rising) (records_come xs)

after_turns : (files : Files) (ids : ℕ → Id) (m : ℕ) (ss : List TimelineEntry) (xss : List (List Stream)) → AllByRecursion (IsSeated ids) ss → AreAllReplays files ids (map own ss) xss →
    AllByRecursion (λ (s : TimelineEntry). IfSome s.turn (λ k. m ≤ k)) ss → AllByRecursion (IsAfter m) (all_to_play xss (map own ss))
after_turns files ids m [] [] each told low = tt
after_turns files ids m [] (xs ∷ xss) each told low = absurd told
after_turns files ids m (s ∷ ss) [] each told low = absurd told
after_turns files ids m (s ∷ ss) (xs ∷ xss) each told low = (
  record { has = has_records xs s.programme; first = subst (λ (o : Option ℕ). IfSome o (λ k. m ≤ k)) (turn_told files ids s xs each.0 told.0) low.0 },
  after_turns files ids m ss xss each.1 told.1 low.1,
)

-- nothing is left where none has its turn
nothing_left : (xs : List Coming) → first_turn xs ≡ None → xs ≡ []
nothing_left [] e = refl
nothing_left (x ∷ xs) e = absurd (cc)

pub none_told : (files : Files) (ids : ℕ → Id) (ss : List TimelineEntry) (xss : List (List Stream)) → AllByRecursion (IsSeated ids) ss → AreAllReplays files ids (map own ss) xss →
    AllByRecursion (λ (s : TimelineEntry). s.turn ≡ None) ss → dues_left (all_to_play xss (map own ss)) ≡ []
none_told files ids ss xss each told none =
    let both = ended ss xss each told none in
    none_of_all (all_to_play xss (map own ss)) both.0 both.1
  where
    ended : (ss : List TimelineEntry) (xss : List (List Stream)) → AllByRecursion (IsSeated ids) ss → AreAllReplays files ids (map own ss) xss → AllByRecursion (λ (s : TimelineEntry). s.turn ≡ None) ss →
        AllByRecursion HasRecords (all_to_play xss (map own ss)) × AllByRecursion (λ t. still_to_come t ≡ []) (all_to_play xss (map own ss))
    ended [] [] each told none = (tt, tt)
    ended [] (xs ∷ xss) each told none = absurd told
    ended (s ∷ ss) [] each told none = absurd told
    ended (s ∷ ss) (xs ∷ xss) each told none =
        let rest = ended ss xss each.1 told.1 none.1 in
        let over = nothing_left (still_to_come (played_with xs s.programme)) (sym (turn_told files ids s xs each.0 told.0) ∙ none.0) in
        ((has_records xs s.programme, rest.0), (over, rest.1))

-- ---- the streams of a programme at its place
record HasStreams (files : Files) (ids : ℕ → Id) (front back : List Timeline) (p : Timeline) (xss : List (List Stream)) : Type 0 where
  before : List (List Stream)
  one : List Stream
  after : List (List Stream)
  split : xss ≡ before ++ one ∷ after
  ahead : AreAllReplays files ids front before
  is : AreReplays files ids p.captures.sources.items one
  behind : AreAllReplays files ids back after

streams_at : (files : Files) (ids : ℕ → Id) (front back : List Timeline) (p : Timeline) (xss : List (List Stream)) → AreAllReplays files ids (front ++ p ∷ back) xss → HasStreams files ids front back p xss
streams_at files ids [] back p [] told = absurd told
streams_at files ids [] back p (xs ∷ xss) told = record { before = []; one = xs; after = xss; split = refl; ahead = tt; is = told.0; behind = told.1 }
streams_at files ids (f ∷ front) back p [] told = absurd told
streams_at files ids (f ∷ front) back p (xs ∷ xss) told =
    let h = streams_at files ids front back p xss told.1 in
    record { before = xs ∷ h.before; one = h.one; after = h.after; split = ap (λ (ys : List (List Stream)). xs ∷ ys) h.split; ahead = (told.0, h.ahead); is = h.is; behind = h.behind }

told_join : (files : Files) (ids : ℕ → Id) (ps qs : List Timeline) (xss yss : List (List Stream)) → AreAllReplays files ids ps xss → AreAllReplays files ids qs yss → AreAllReplays files ids (ps ++ qs) (xss ++ yss)
told_join files ids [] qs [] yss told also = also
told_join files ids [] qs (xs ∷ xss) yss told also = absurd told
told_join files ids (p ∷ ps) qs [] yss told also = absurd told
told_join files ids (p ∷ ps) qs (xs ∷ xss) yss told also = (told.0, told_join files ids ps qs xss yss told.1 also)

play_join : (files : Files) (ids : ℕ → Id) (ps qs : List Timeline) (xss yss : List (List Stream)) → AreAllReplays files ids ps xss → all_to_play (xss ++ yss) (ps ++ qs) ≡ all_to_play xss ps ++ all_to_play yss qs
play_join files ids [] qs [] yss told = refl
play_join files ids [] qs (xs ∷ xss) yss told = absurd told
play_join files ids (p ∷ ps) qs [] yss told = absurd told
play_join files ids (p ∷ ps) qs (xs ∷ xss) yss told = ap (λ (ts : List ToPlay). played_with xs p ∷ ts) (play_join files ids ps qs xss yss told.1)

play_length : (files : Files) (ids : ℕ → Id) (ps : List Timeline) (xss : List (List Stream)) → AreAllReplays files ids ps xss → length (all_to_play xss ps) ≡ length ps
play_length files ids [] [] told = refl
play_length files ids [] (xs ∷ xss) told = absurd told
play_length files ids (p ∷ ps) [] told = absurd told
play_length files ids (p ∷ ps) (xs ∷ xss) told = ap suc (play_length files ids ps xss told.1)

-- ---- at a place
slice_at : {X : Type 0} (before after : List X) (x : X) → slice_get (before ++ x ∷ after) (length before) ≡ Some x
slice_at [] after x = refl
slice_at (b ∷ before) after x = slice_at before after x

slice_other : {X : Type 0} (before after : List X) (x y : X) (k : ℕ) → k ≢ length before → slice_get (before ++ y ∷ after) k ≡ slice_get (before ++ x ∷ after) k
slice_other [] after x y zero other = absurd (other refl)
slice_other [] after x y (suc k) other = refl
slice_other (b ∷ before) after x y zero other = refl
slice_other (b ∷ before) after x y (suc k) other = slice_other before after x y k (λ e. other (ap suc e))

put_length : {X : Type 0} (before after : List X) (x y : X) → length (before ++ y ∷ after) ≡ length (before ++ x ∷ after)
put_length before after x y = omega (arith, length-append before (x ∷ after), length-append before (y ∷ after))

left_less : (before after : List Timeline) (p q : Timeline) → left_of q < left_of p → left_of_all (before ++ q ∷ after) < left_of_all (before ++ p ∷ after)
left_less before after p q less =
    omega (arith, less, sum_by-append left_of before (p ∷ after), sum_by-append left_of before (q ∷ after), sum_by-cons left_of p after, sum_by-cons left_of q after)

from_seats : (ids : ℕ → Id) (m t : ℕ) (ss : List TimelineEntry) → 2 * m ≤ t → AllByRecursion (IsSeated ids) ss → AllByRecursion (λ (s : TimelineEntry). IfSome s.turn (λ k. t ≤ k)) ss → AllByRecursion (IsFrom m) (map own ss)
from_seats ids m t [] low each all = tt
from_seats ids m t (s ∷ ss) low each all = (from_turn m s.turn s.programme each.0.turn (weaker s.turn all.0), from_seats ids m t ss low each.1 all.1)
  where
    weaker : (o : Option ℕ) → IfSome o (λ k. t ≤ k) → IfSome o (λ k. 2 * m ≤ k)
    weaker None h = tt
    weaker (Some k) h = omega (arith, low, h)

module _ (ss : List TimelineEntry) (place : ℕ) (s : TimelineEntry) (h : HasAt ss place s) where
  abbrev P : List Timeline
  P = map own h.before

  abbrev Q : List Timeline
  Q = map own h.after

  parts : map own ss ≡ P ++ s.programme ∷ Q
  parts = ap (map own) h.split ∙ map-append own h.before (s ∷ h.after)

  own_place : length P ≡ place
  own_place = omega (arith, length-map h.before own, h.at)

  pub there : (b : ℕ) → b ≡ place → slice_get (map own ss) b ≡ Some s.programme
  there b is = ap (λ (ps : List Timeline). slice_get ps b) parts ∙ ap (λ (k : ℕ). slice_get (P ++ s.programme ∷ Q) k) (is ∙ sym own_place) ∙ slice_at P Q s.programme

  pub reads_all : (given ids : ℕ → Id) → ReadsOn (own_ids s.programme) given ids → ReadsOn (all_ids (map own ss)) given ids
  reads_all given ids reads =
      let are : all_ids (map own ss) ≡ all_ids P ++ (own_ids s.programme ++ all_ids Q) = ap all_ids parts ∙ ids_append P (s.programme ∷ Q) in
      record {
        others = λ j other.
            reads.others j
            (all-left (λ k. j ≢ k) (own_ids s.programme) (all_ids Q)
            (all-right (λ k. j ≢ k) (all_ids P) (own_ids s.programme ++ all_ids Q) (subst (AllByRecursion (λ k. j ≢ k)) are other)));
        same = reads.same;
      }

  pub own_seated : (ids : ℕ → Id) → AllByRecursion (IsSeated ids) ss → IsSeated ids s
  own_seated ids each = all_at (IsSeated ids) h.before h.after s (subst (AllByRecursion (IsSeated ids)) h.split each)

  front : (ids : ℕ → Id) → AllByRecursion (IsSeated ids) ss → AllByRecursion (IsSeated ids) h.before
  front ids each = all-left (IsSeated ids) h.before (s ∷ h.after) (subst (AllByRecursion (IsSeated ids)) h.split each)

  back : (ids : ℕ → Id) → AllByRecursion (IsSeated ids) ss → AllByRecursion (IsSeated ids) h.after
  back ids each = (all-right (IsSeated ids) h.before (s ∷ h.after) (subst (AllByRecursion (IsSeated ids)) h.split each)).1

  -- the streams of the one at that place
  pub own_told : (files : Files) (ids : ℕ → Id) (xss : List (List Stream)) → AreAllReplays files ids (map own ss) xss →
      (xs : List Stream) × AreReplays files ids s.programme.captures.sources.items xs
  own_told files ids xss told =
      let q = streams_at files ids P Q s.programme xss (subst (λ (ps : List Timeline). AreAllReplays files ids ps xss) parts told) in
      (q.one, q.is)

  -- ---- once that one has gone on
  module _ (s' : TimelineEntry) (given ids : ℕ → Id) (same : own_ids s'.programme ≡ own_ids s.programme) where
    parts' : map own (set ss place s') ≡ P ++ s'.programme ∷ Q
    parts' = ap (map own) (set_at ss place s s' h) ∙ map-append own h.before (s' ∷ h.after)

    pub apart_next : ReadApart (map own ss) → ReadApart (map own (set ss place s'))
    apart_next apart = subst ReadApart (sym parts') (apart_kept P Q s.programme s'.programme same (subst ReadApart parts apart))

    pub ids_next : all_ids (map own (set ss place s')) ≡ all_ids (map own ss)
    ids_next = ap all_ids parts' ∙ ids_kept P Q s.programme s'.programme same ∙ ap all_ids (sym parts)

    module _ (apart : ReadApart (map own ss)) (reads : ReadsOn (own_ids s.programme) given ids) where
      same_front : AllByRecursion (λ k. ids k ≡ given k) (all_ids P)
      same_front = same_others given ids (own_ids s.programme) (all_ids P) reads (others_ahead P Q s.programme (subst ReadApart parts apart))

      same_back : AllByRecursion (λ k. ids k ≡ given k) (all_ids Q)
      same_back = same_others given ids (own_ids s.programme) (all_ids Q) reads (others_behind P Q s.programme (subst ReadApart parts apart))

      pub each_next : AllByRecursion (IsSeated given) ss → IsSeated ids s' → AllByRecursion (IsSeated ids) (set ss place s')
      each_next each seated =
          subst (AllByRecursion (IsSeated ids)) (sym (set_at ss place s s' h))
          (all_join (IsSeated ids) h.before (s' ∷ h.after) (seats_stay given ids h.before same_front (front given each)) (seated, seats_stay given ids h.after same_back (back given each)))

      -- what came is the first of all
      pub order_next : (file files : Files) (t : ℕ) (x : NetNext) → SameFiles file files → s.turn ≡ Some t → AllByRecursion (IsSeated given) ss →
          AllByRecursion (λ (z : TimelineEntry). IfSome z.turn (λ k. suc t ≤ k)) h.before → AllByRecursion (λ (z : TimelineEntry). IfSome z.turn (λ k. t ≤ k)) h.after → x.bridge ≡ place →
          IsTakenOf file files given ids s.programme x.next s'.programme → (xss : List (List Stream)) → AreAllReplays file given (map own ss) xss →
          (rest : List (List Stream)) × (dues_left (all_to_play xss (map own ss)) ≡ due_of x ∷ dues_left (all_to_play rest (map own (set ss place s')))) × AreAllReplays files ids (map own (set ss place s')) rest
      order_next file files t x same_files turn each ahead behind at taken xss told =
          let p : Timeline = s.programme in
          let p' : Timeline = s'.programme in
          let q = streams_at file given P Q p xss (subst (λ (ps : List Timeline). AreAllReplays file given ps xss) parts told) in
          let next = taken q.one q.is in
          let B : List ToPlay = all_to_play q.before P in
          let E : List ToPlay = all_to_play q.after Q in
          let rest : List (List Stream) = q.before ++ next.0 ∷ q.after in
          let is_turn : t ≡ coming_turn (what x.next) = some_same t (coming_turn (what x.next)) (sym turn ∙ turn_told file given s q.one (own_seated given each) q.is ∙ ap first_turn next.1) in
          let old : all_to_play xss (map own ss) ≡ B ++ played_with q.one p ∷ E =
          ap (λ (yss : List (List Stream)). all_to_play yss (map own ss)) q.split ∙ ap (all_to_play (q.before ++ q.one ∷ q.after)) parts ∙ play_join file given P (p ∷ Q) q.before (q.one ∷ q.after) q.ahead in
          let new : all_to_play rest (map own (set ss place s')) ≡ B ++ played_with next.0 p' ∷ E = ap (all_to_play rest) parts' ∙ play_join file given P (p' ∷ Q) q.before (next.0 ∷ q.after) q.ahead in
          let long : length B ≡ x.bridge = play_length file given P q.before q.ahead ∙ own_place ∙ sym at in
          let earlier = after_turns file given (suc t) h.before q.before (front given each) q.ahead ahead in
          let later = after_turns file given t h.after q.after (back given each) q.behind behind in
          let first : dues_left (B ++ played_with q.one p ∷ E) ≡ due (length B) (what x.next) ∷ dues_left (B ++ played_with next.0 p' ∷ E) =
          first_of_all B E (played_with q.one p) (played_with next.0 p') (what x.next) next.1 (has_records q.one p) (has_records next.0 p')
          (subst (λ (k : ℕ). AllByRecursion (IsAfter (suc k)) B) is_turn earlier) (subst (λ (k : ℕ). AllByRecursion (IsAfter k) E) is_turn later) in
          let kept = all_kept given ids file files in (
            rest,
            ap dues_left old ∙ first ∙ ap (λ (ts : List ToPlay). due (length B) (what x.next) ∷ dues_left ts) (sym new)
                ∙ ap (λ (k : ℕ). due k (what x.next) ∷ dues_left (all_to_play rest (map own (set ss place s')))) long,
            subst (λ (ps : List Timeline). AreAllReplays files ids ps rest) (sym parts')
                (told_join files ids P (p' ∷ Q) q.before (next.0 ∷ q.after) (kept P q.before (with_bytes (all_ids P) same_front) q.ahead)
                (next.2, kept Q q.after (with_bytes (all_ids Q) same_back) q.behind)),
          )
        where
          some_same : (j k : ℕ) → Some j ≡ Some k → j ≡ k
          some_same j k e = cc

          with_bytes : (ks : List ℕ) → AllByRecursion (λ k. ids k ≡ given k) ks → AllByRecursion (λ k. (ids k ≡ given k) × (bytes_of (files (given k).name) ≡ bytes_of (file (given k).name))) ks
          with_bytes ks all =
              all_on (λ k. ids k ≡ given k) (λ k. (ids k ≡ given k) × (bytes_of (files (given k).name) ≡ bytes_of (file (given k).name))) ks
              (λ k e. (e, ap bytes_of (same_files (given k).name))) all

    -- what comes, whatever the files hold
    pub comes_next : (t : ℕ) (x : NetNext) → s.turn ≡ Some t → AllByRecursion (IsSeated given) ss → AllByRecursion (λ (z : TimelineEntry). IfSome z.turn (λ k. suc t ≤ k)) h.before →
        AllByRecursion (λ (z : TimelineEntry). IfSome z.turn (λ k. t ≤ k)) h.after → x.bridge ≡ place → IfSome s.turn (λ k. 2 * moment_of (what x.next) ≤ k) → IsComing s.programme x.next s'.programme →
        ComesTo (map own ss) x (map own (set ss place s'))
    comes_next t x turn each ahead behind at about coming =
        let m : ℕ = moment_of (what x.next) in
        let low : 2 * m ≤ t = subst (λ (o : Option ℕ). IfSome o (λ k. 2 * m ≤ k)) turn about in
        let earlier = all_on (λ (z : TimelineEntry). IfSome z.turn (λ k. suc t ≤ k)) (λ (z : TimelineEntry). IfSome z.turn (λ k. t ≤ k)) h.before (λ z. weaker z.turn) ahead in
        record {
          was = s.programme;
          is = s'.programme;
          was_there = there x.bridge at;
          is_there = ap (λ (ps : List Timeline). slice_get ps x.bridge) parts' ∙ ap (λ (k : ℕ). slice_get (P ++ s'.programme ∷ Q) k) (at ∙ sym own_place) ∙ slice_at P Q s'.programme;
          others = λ b other.
              ap (λ (ps : List Timeline). slice_get ps b) parts' ∙ slice_other P Q s.programme s'.programme b (λ e. other (e ∙ own_place ∙ sym at)) ∙ ap (λ (ps : List Timeline). slice_get ps b) (sym parts);
          count = ap length parts' ∙ put_length P Q s.programme s'.programme ∙ ap length (sym parts);
          coming = coming;
          fell = λ moment all. coming.fell moment (all_at (IsFrom moment) P Q s.programme (subst (AllByRecursion (IsFrom moment)) parts all));
          rises = subst (AllByRecursion (IsFrom m)) (sym parts')
              (all_join (IsFrom m) P (s'.programme ∷ Q) (from_seats given m t h.before low (front given each) earlier) (coming.rises, from_seats given m t h.after low (back given each) behind));
          ids = ids_next;
          left = subst (λ (ps : List Timeline). left_of_all (map own (set ss place s')) < left_of_all ps) (sym parts)
              (subst (λ (ps : List Timeline). left_of_all ps < left_of_all (P ++ s.programme ∷ Q)) (sym parts') (left_less P Q s.programme s'.programme coming.left));
        }
      where
        weaker : (o : Option ℕ) → IfSome o (λ k. suc t ≤ k) → IfSome o (λ k. t ≤ k)
        weaker None e = tt
        weaker (Some k) e = omega (arith, e)
