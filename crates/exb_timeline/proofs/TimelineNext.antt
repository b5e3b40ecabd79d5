-- What comes next of a programme.
use Rattle.std.proofs.Common.{◌≡◌, ℕ, ◌+◌, ◌*◌, ◌^◌, ◌<◌, ◌≤◌, Bool, true, false, cond, List, [], ◌∷◌, ◌++◌, length, drop, get_or, map, refl, ap, sym, subst, ◌∙◌, arith, inl, inr, length-drop}
use Rattle.std.specs.Prelude.{◌⊎◌, nat_lt, flat_map, Option, Some, None, Result, Ok, Err, IfOk, IfSome, IfNone}
use Rattle.std.specs.List.{AllByRecursion}
use Rattle.std.proofs.lemmas.Bool.{leb-true, ltb-false, eqb-true}
use Rattle.exb_model.specs.declared.setup.Timed.{Timed}
use Rattle.exb_model.specs.declared.arrival.Arrival.{Arrival}
use Rattle.exb_model.specs.Input.{Coming, Captured, commands_from, given_by, moment_of, second_of, put_in_order, by_moment}
use Rattle.exb_shelf.specs.Files.{Files}
use Rattle.exb_shelf.specs.Shelf.{Id}
use Rattle.exb_timeline.specs.declared.bridge_timeline.Next.{Next}
use Rattle.exb_timeline.specs.declared.bridge_timeline.Next.TheVariants as next
use Rattle.exb_timeline.specs.declared.bridge_timeline.Timeline.{Timeline}
use Rattle.exb_timeline.specs.declared.capture_merge.CaptureSource.{CaptureSource}
use Rattle.exb_timeline.specs.declared.capture_merge.CaptureFault.{CaptureFault}
use Rattle.exb_timeline.specs.declared.capture_merge.CaptureMerge.{CaptureMerge}
use Rattle.exb_timeline.specs.MergeOrder.{ToPlay, comes_first, commands_left, first_moment, is_of, still_to_come}
use Rattle.exb_timeline.specs.Timelines.{IsComing, IsProgramme, IsSoonest, left_of, moment_in, played_with, sooner, what}
use Rattle.exb_timeline.specs.CaptureMerges.{AreOpened, AreReplays, AreToldSince, HasCome, HasNext, IsEarliest, IsOpened, NoneIsBefore, ids_in, left_in, standings}
use Rattle.exb_timeline.specs.Streams.{Stream, arrivals_of, next_moment, to_come}
use Rattle.exb_timeline.proofs.CommandsAmongRecords.{Rising, moment-command, moment-record, left-is, later, not-first, second-after, second-below, second-within}
use Rattle.exb_timeline.proofs.Arrivals.{NoneArrives, none_arrives-append, none_arrives-map, none_arrives-next, to_come-none}
use Rattle.exb_timeline.proofs.SortedByMoment.{NoneBefore, none_before-by_moment, put-first}
use Rattle.exb_timeline.proofs.ToldSources.{next_told}

-- ---- the earliest of captures
at_next : (o : Option ℕ) (m k : ℕ) → o ≡ Some m → IfSome o (λ j. k ≤ j) → k ≤ m
at_next o m k e h = let P : Option ℕ → Type 0 = λ x. IfSome x (λ j. k ≤ j) in subst P e h

has_low : (xs : List CaptureSource) (m k : ℕ) → HasNext m xs → AllByRecursion (λ (s : CaptureSource). IfSome s.next (λ j. k ≤ j)) xs → k ≤ m
has_low [] m k h all = absurd h
has_low (s ∷ xs) m k (inl e) all = at_next s.next m k e all.0
has_low (s ∷ xs) m k (inr h) all = has_low xs m k h all.1

has_none : (xs : List CaptureSource) (m : ℕ) → HasNext m xs → AllByRecursion (λ (s : CaptureSource). s.next ≡ None) xs → ⊥
has_none [] m h all = h
has_none (s ∷ xs) m (inl e) all = let no : Some m ≡ None = sym e ∙ all.0 in absurd (cc)
has_none (s ∷ xs) m (inr h) all = has_none xs m h all.1

-- there is one
pub one_earliest : (r : CaptureMerge) (a b : Option ℕ) → IsEarliest a r → IsEarliest b r → a ≡ b
one_earliest r None None p q = refl
one_earliest r None (Some m) p q = absurd (has_none r.sources.items m q.0 p)
one_earliest r (Some m) None p q = absurd (has_none r.sources.items m p.0 q)
one_earliest r (Some m) (Some k) p q =
    let same : m ≡ k = omega (arith, has_low r.sources.items m k p.0 q.1, has_low r.sources.items k m q.0 p.1) in
    ap Some same

pub none_from : (m : ℕ) (xs : List CaptureSource) → AllByRecursion (λ (s : CaptureSource). s.next ≡ None) xs → AllByRecursion (λ (s : CaptureSource). IfSome s.next (λ k. m ≤ k)) xs
none_from m [] all = tt
none_from m (s ∷ xs) all = (let P : Option ℕ → Type 0 = λ x. IfSome x (λ j. m ≤ j) in subst P (sym all.0) tt, none_from m xs all.1)

pub weaker_from : (m k : ℕ) (xs : List CaptureSource) → m ≤ k → AllByRecursion (λ (s : CaptureSource). IfSome s.next (λ j. k ≤ j)) xs → AllByRecursion (λ (s : CaptureSource). IfSome s.next (λ j. m ≤ j)) xs
weaker_from m k [] low all = tt
weaker_from m k (s ∷ xs) low all = (own s.next all.0, weaker_from m k xs low all.1)
  where
    own : (o : Option ℕ) → IfSome o (λ j. k ≤ j) → IfSome o (λ j. m ≤ j)
    own None h = tt
    own (Some j) h = omega (arith, low, h)

-- where a command comes first, no capture has a record before it
pub none_before_command : (r : CaptureMerge) (m : ℕ) (captured : Option ℕ) → IsEarliest captured r → comes_first (Some m) captured ≡ true → NoneIsBefore m r
none_before_command r m None e first = none_from m r.sources.items e
none_before_command r m (Some k) e first = weaker_from m k r.sources.items (leb-true m k first) e.1

-- ---- the first of what is still to come of captures
-- one has this moment
abbrev HasMoment : ℕ → List Coming → Type 0
HasMoment m [] = ⊥
HasMoment m (x ∷ xs) = (moment_of x ≡ m) ⊎ HasMoment m xs

first_put : (m : ℕ) (x : Coming) (ys : List Coming) → m ≤ moment_of x → first_moment ys ≡ Some m → first_moment (put_in_order x ys) ≡ Some m
first_put m x [] low e = absurd (cc)
first_put m x (y ∷ ys) low e = by_test (nat_lt (moment_of y) (moment_of x)) refl
  where
    by_test : (b : Bool) → nat_lt (moment_of y) (moment_of x) ≡ b → first_moment (cond b (y ∷ put_in_order x ys) (x ∷ y ∷ ys)) ≡ Some m
    by_test true t = e
    by_test false t =
        let first : moment_of y ≡ m = cc in
        let same : moment_of x ≡ m = omega (arith, first, low, ltb-false (moment_of y) (moment_of x) t) in
        ap Some same

first_is : (m : ℕ) (xs : List Coming) → HasMoment m xs → NoneBefore m xs → first_moment (by_moment xs) ≡ Some m
first_is m [] h all = absurd h
first_is m (x ∷ xs) (inl e) all =
    let behind : NoneBefore (moment_of x) xs = subst (λ k. NoneBefore k xs) (sym e) all.1 in
    ap first_moment (put-first x (by_moment xs) (none_before-by_moment (moment_of x) xs behind)) ∙ ap Some e
first_is m (x ∷ xs) (inr h) all = first_put m x (by_moment xs) all.0 (first_is m xs h all.1)

has_front : (m : ℕ) (ys zs : List Arrival) → next_moment ys ≡ Some m → HasMoment m (map Captured (ys ++ zs))
has_front m [] zs e = absurd (cc)
has_front m (y ∷ ys) zs e = let same : y.moment ≡ m = cc in inl same

has_behind : (m : ℕ) (ys zs : List Arrival) → HasMoment m (map Captured zs) → HasMoment m (map Captured (ys ++ zs))
has_behind m [] zs h = h
has_behind m (y ∷ ys) zs h = inr (has_behind m ys zs h)

none_comes : (ys : List Arrival) → next_moment ys ≡ None → ys ≡ []
none_comes [] e = refl
none_comes (y ∷ ys) e = absurd (cc)

module _ (files : Files) (ids : ℕ → Id) where
  has_next_told : (m : ℕ) (ss : List CaptureSource) (xs : List Stream) → AllByRecursion (IsOpened ids) ss → AreReplays files ids ss xs → HasNext m ss → HasMoment m (map Captured (flat_map arrivals_of xs))
  has_next_told m [] xs each t h = absurd h
  has_next_told m (s ∷ ss) [] each t h = absurd t
  has_next_told m (s ∷ ss) (x ∷ xs) each t (inl e) = has_front m (arrivals_of x) (flat_map arrivals_of xs) (next_told files ids s x each.0 t.0 ∙ e)
  has_next_told m (s ∷ ss) (x ∷ xs) each t (inr h) = has_behind m (arrivals_of x) (flat_map arrivals_of xs) (has_next_told m ss xs each.1 t.1 h)

  none_before_told : (m : ℕ) (ss : List CaptureSource) (xs : List Stream) → AllByRecursion (IsOpened ids) ss → AreReplays files ids ss xs →
      AllByRecursion (λ (s : CaptureSource). IfSome s.next (λ k. m ≤ k)) ss → NoneArrives m (flat_map arrivals_of xs)
  none_before_told m [] [] each t all = tt
  none_before_told m [] (x ∷ xs) each t all = absurd t
  none_before_told m (s ∷ ss) [] each t all = absurd t
  none_before_told m (s ∷ ss) (x ∷ xs) each t all =
      none_arrives-append m (arrivals_of x) (flat_map arrivals_of xs)
      (none_arrives-next m x (λ k e. at_next s.next k m (sym (next_told files ids s x each.0 t.0) ∙ e) all.0))
      (none_before_told m ss xs each.1 t.1 all.1)

  all_over_told : (ss : List CaptureSource) (xs : List Stream) → AllByRecursion (IsOpened ids) ss → AreReplays files ids ss xs → AllByRecursion (λ (s : CaptureSource). s.next ≡ None) ss →
      AllByRecursion (λ x. arrivals_of x ≡ []) xs
  all_over_told [] [] each t all = tt
  all_over_told [] (x ∷ xs) each t all = absurd t
  all_over_told (s ∷ ss) [] each t all = absurd t
  all_over_told (s ∷ ss) (x ∷ xs) each t all = (none_comes (arrivals_of x) (next_told files ids s x each.0 t.0 ∙ all.0), all_over_told ss xs each.1 t.1 all.1)

  -- the earliest next record is the first of what is still to come
  pub earliest_told : (r : CaptureMerge) (xs : List Stream) (o : Option ℕ) → AreOpened ids r → AreReplays files ids r.sources.items xs → IsEarliest o r → o ≡ first_moment (to_come xs)
  unfolding to_come
  earliest_told r xs None opened t e = sym (ap first_moment (to_come-none xs (all_over_told r.sources.items xs opened.each t e)))
  earliest_told r xs (Some m) opened t e =
      sym (first_is m (map Captured (flat_map arrivals_of xs)) (has_next_told m r.sources.items xs opened.each t e.0)
      (none_arrives-map m (flat_map arrivals_of xs) (none_before_told m r.sources.items xs opened.each t e.1)))

-- ---- the moment of what comes next
-- there is one
pub one_soonest : (p : Timeline) (a b : Option ℕ) → IsSoonest a p → IsSoonest b p → a ≡ b
one_soonest p a b s t = s.2 ∙ ap (sooner (first_moment (commands_left (played_with [] p)))) (one_earliest p.captures s.0 t.0 s.1 t.1) ∙ sym t.2

by_first : (b : Bool) (x y z : Option ℕ) → b ≡ true → x ≡ z → z ≡ cond b x y
by_first true x y z first is = sym is
by_first false x y z first is = absurd (cc)

by_other : (b : Bool) (x y : Option ℕ) → b ≡ false → y ≡ cond b x y
by_other true x y first = absurd (cc)
by_other false x y first = refl

pub command_soonest : (p : Timeline) (command captured next : Option ℕ) (b : Bool) → command ≡ first_moment (commands_left (played_with [] p)) → IsEarliest captured p.captures →
    b ≡ comes_first command captured → b ≡ true → command ≡ next → IsSoonest next p
command_soonest p command captured next b left e test first is =
    let command_first : comes_first (first_moment (commands_left (played_with [] p))) captured ≡ true = ap (λ o. comes_first o captured) (sym left) ∙ sym test ∙ first in
    (captured, e, by_first (comes_first (first_moment (commands_left (played_with [] p))) captured) (first_moment (commands_left (played_with [] p))) captured next command_first (sym left ∙ is))

pub captured_soonest : (p : Timeline) (command captured next : Option ℕ) (b : Bool) → command ≡ first_moment (commands_left (played_with [] p)) → IsEarliest captured p.captures →
    b ≡ comes_first command captured → b ≡ false → IsEarliest next p.captures → IsSoonest next p
captured_soonest p command captured next b left e test other is =
    let same = one_earliest p.captures captured next e is in
    let command_behind : comes_first (first_moment (commands_left (played_with [] p))) next ≡ false =
    ap (λ o. comes_first o next) (sym left) ∙ ap (comes_first command) (sym same) ∙ sym test ∙ other in
    (next, is, by_other (comes_first (first_moment (commands_left (played_with [] p))) next) (first_moment (commands_left (played_with [] p))) next command_behind)

-- where the files are told, it is that of the first of what is still to come
pub soonest_told : (files : Files) (ids : ℕ → Id) (p : Timeline) (xs : List Stream) (m : Option ℕ) → IsProgramme ids p → AreReplays files ids p.captures.sources.items xs → IsSoonest m p →
    m ≡ first_moment (still_to_come (played_with xs p))
soonest_told files ids p xs m is t s =
    let a : ToPlay = played_with xs p in
    let told = earliest_told files ids p.captures xs s.0 is.opened t s.1 in
    s.2 ∙ ap (sooner (first_moment (commands_left a))) told ∙ by_test (comes_first (first_moment (commands_left a)) (first_moment a.records)) refl
  where
    by_test : (b : Bool) → comes_first (first_moment (commands_left (played_with xs p))) (first_moment (to_come xs)) ≡ b →
        cond b (first_moment (commands_left (played_with xs p))) (first_moment (to_come xs)) ≡ first_moment (still_to_come (played_with xs p))
    by_test true e = moment-command (played_with xs p) is.rising e
    by_test false e = moment-record (played_with xs p) is.rising e

-- ---- a command
commands_behind : (p : Timeline) (c : Timed) → Rising p.commands.now → p.taken < length p.commands.now → c ≡ get_or p.commands.now p.taken c →
    IfSome (first_moment (commands_left (record (played_with [] p) { taken = p.taken + 1 }))) (λ k. (p.start + c.at) * 1000000000 ≤ k)
commands_behind p c rising low is = front ((p.start + c.at) * 1000000000) (commands_left (record (played_with [] p) { taken = p.taken + 1 })) (later (played_with [] p) c rising low is)
  where
    front : (m : ℕ) (xs : List Coming) → NoneBefore m xs → IfSome (first_moment xs) (λ k. m ≤ k)
    front m [] all = tt
    front m (x ∷ xs) all = all.0

-- its moment
pub command_moment : (p : Timeline) (c : Timed) → p.taken < length p.commands.now → c ≡ get_or p.commands.now p.taken c →
    first_moment (commands_left (played_with [] p)) ≡ Some ((p.start + c.at) * 1000000000)
command_moment p c low is = ap first_moment (left-is (played_with [] p) c low is)

pub command_coming : (ids : ℕ → Id) (p : Timeline) (c : Timed) (number moment : ℕ) → IsProgramme ids p → p.taken < length p.commands.now → c ≡ get_or p.commands.now p.taken c →
    number ≡ p.taken + 1 → moment ≡ (p.start + c.at) * 1000000000 → moment < (p.start + 2 ^ 32) * 1000000000 →
    IfSome (first_moment (commands_left (played_with [] p))) (λ m. NoneIsBefore m p.captures) → IsComing p (next.Command number moment) (record p { taken = p.taken + 1 })
command_coming ids p c number moment all low is count at before none =
    let first = command_moment p c low is in
    let second : second_of moment ≡ p.start + c.at = ap second_of at ∙ second-after p.start c.at in
    let from : p.start ≤ second_of moment = omega (arith, second) in
    let captures : NoneIsBefore ((p.start + c.at) * 1000000000) p.captures =
    (let P : Option ℕ → Type 0 = λ o. IfSome o (λ m. NoneIsBefore m p.captures) in subst P first none) in
    let less : left_of (record p { taken = p.taken + 1 }) < left_of p = omega (arith, low) in
    record {
      is = (count, low, refl, refl);
      from = from;
      before = second-within p.start moment before;
      fell = λ m h. (let P : Option ℕ → Type 0 = λ o. IfSome o (λ k. m ≤ k) in rw at (subst P first h.commands));
      rises = rw at (record { commands = commands_behind p c all.rising low is; captures = captures });
      start = refl;
      commands = refl;
      ids = refl;
      size = omega arith;
      left = less;
    }

pub command_kept : (ids : ℕ → Id) (p : Timeline) → p.taken < length p.commands.now → IsProgramme ids p → IsProgramme ids (record p { taken = p.taken + 1 })
command_kept ids p low all = record { opened = all.opened; start = all.start; since = all.since; taken = omega (arith, low); few = all.few; rising = all.rising }

-- ---- a record
pub record_coming : (ids : ℕ → Id) (p : Timeline) (new : CaptureMerge) (c : Arrival) (command captured : Option ℕ) (b : Bool) → IsProgramme ids p → command ≡ first_moment (commands_left (played_with [] p)) →
    IsEarliest captured p.captures → b ≡ comes_first command captured → b ≡ false → HasCome (standings p.captures) c (standings new) → IsEarliest (Some c.moment) p.captures →
    NoneIsBefore c.moment new → p.start ≤ second_of c.moment → left_in new + 16 ≤ left_in p.captures → ids_in new ≡ ids_in p.captures → IsComing p (next.Record c) (record p { captures = new })
record_coming ids p new c command captured b all left e test other come first rises since less same =
    let one = one_earliest p.captures captured (Some c.moment) e first in
    let behind : comes_first (first_moment (commands_left (played_with [] p))) (Some c.moment) ≡ false =
    ap (λ o. comes_first o (Some c.moment)) (sym left) ∙ ap (comes_first command) (sym one) ∙ sym test ∙ other in
    let low = second-below c.moment come.moment in
    record {
      is = (come, refl);
      from = since;
      before = omega (arith, low);
      fell = λ m h. has_low p.captures.sources.items c.moment m first.0 h.captures;
      rises = record { commands = later_commands (first_moment (commands_left (played_with [] p))) behind; captures = rises };
      start = refl;
      commands = refl;
      ids = same;
      size = omega (arith, less);
      left = omega (arith, less);
    }
  where
    later_commands : (o : Option ℕ) → comes_first o (Some c.moment) ≡ false → IfSome o (λ k. c.moment ≤ k)
    later_commands None h = tt
    later_commands (Some k) h = omega (arith, not-first k c.moment h)

pub record_kept : (ids now : ℕ → Id) (p : Timeline) (new : CaptureMerge) → IsProgramme ids p → AreOpened now new → AreToldSince p.start new → IsProgramme now (record p { captures = new })
record_kept ids now p new all opened since = record { opened = opened; start = all.start; since = since; taken = all.taken; few = all.few; rising = all.rising }

-- ---- what is left behind it
-- which comes first, where the files are told
pub first_told : (files : Files) (ids : ℕ → Id) (p : Timeline) (xs : List Stream) (command captured : Option ℕ) (b v : Bool) → IsProgramme ids p → AreReplays files ids p.captures.sources.items xs →
    command ≡ first_moment (commands_left (played_with [] p)) → IsEarliest captured p.captures → b ≡ comes_first command captured → b ≡ v →
    comes_first (first_moment (commands_left (played_with xs p))) (first_moment (to_come xs)) ≡ v
first_told files ids p xs command captured b v all t left e test is =
    ap (λ o. comes_first o (first_moment (to_come xs))) (sym left)
    ∙ ap (comes_first command) (sym (earliest_told files ids p.captures xs captured all.opened t e)) ∙ sym test ∙ is

-- nothing was read
pub told_still : (files : Files) (ids : ℕ → Id) (old new : CaptureMerge) (xs : List Stream) → new ≡ old → AreReplays files ids old.sources.items xs → AreReplays files ids new.sources.items xs
told_still files ids old new xs same t = subst (λ (r : CaptureMerge). AreReplays files ids r.sources.items xs) (sym same) t

-- all commands were taken where neither comes
none_left_over : (p : Timeline) → p.taken ≤ length p.commands.now → first_moment (commands_left (played_with [] p)) ≡ None → p.taken ≡ length p.commands.now
none_left_over p within none = by_left (drop p.taken p.commands.now) refl
  where
    by_left : (cs : List Timed) → drop p.taken p.commands.now ≡ cs → p.taken ≡ length p.commands.now
    by_left [] e = let size = length-drop p.taken p.commands.now in let empty = ap (λ (ds : List Timed). length ds) e in omega (arith, size, empty, within)
    by_left (c ∷ cs) e =
        let some : first_moment (commands_from p.start (p.taken + 1) (map given_by (c ∷ cs))) ≡ None =
        ap (λ (ds : List Timed). first_moment (commands_from p.start (p.taken + 1) (map given_by ds))) (sym e) ∙ none in
        absurd (cc)

no_command : (o : Option ℕ) → comes_first o None ≡ false → o ≡ None
no_command None h = refl
no_command (Some k) h = absurd (cc)

pub all_taken : (ids : ℕ → Id) (p : Timeline) (command captured : Option ℕ) (b : Bool) → IsProgramme ids p → command ≡ first_moment (commands_left (played_with [] p)) →
    IsEarliest captured p.captures → b ≡ comes_first command captured → b ≡ false → IsEarliest None p.captures → p.taken ≡ length p.commands.now
all_taken ids p command captured b all left e test other end =
    let one = one_earliest p.captures captured None e end in
    none_left_over p all.taken (sym left ∙ no_command command (ap (comes_first command) (sym one) ∙ sym test ∙ other))

-- ---- what is of a second
pub within_second : (p : Timeline) (m : Option ℕ) (r : Result (Option Next) CaptureFault) (second : ℕ) (b : Bool) → IsSoonest m p → b ≡ is_of m second → b ≡ true →
    IfOk r (λ next. IsSoonest (moment_in next) p) → IfOk r (λ next. IfSome next (λ d. second_of (moment_of (what d)) ≡ second))
within_second p m (Err fault) second b s test is t = tt
within_second p m (Ok None) second b s test is t = tt
within_second p m (Ok (Some d)) second b s test is t =
    eqb-true (second_of (moment_of (what d))) second (ap (λ o. is_of o second) (sym (one_soonest p m (Some (moment_of (what d))) s t)) ∙ sym test ∙ is)

-- something comes
pub some_within : (Q : Type 0) (p : Timeline) (m : Option ℕ) (r : Result (Option Next) CaptureFault) (second : ℕ) (b : Bool) → IsSoonest m p → b ≡ is_of m second → b ≡ true →
    IfOk r (λ next. IsSoonest (moment_in next) p) → IfOk r (λ next. IfNone next Q)
some_within Q p m (Err fault) second b s test is t = tt
some_within Q p m (Ok (Some d)) second b s test is t = tt
some_within Q p m (Ok None) second b s test is t =
    absurd (let no : false ≡ true = ap (λ o. is_of o second) (sym (one_soonest p m None s t)) ∙ sym test ∙ is in cc)
