-- The racers of a tournament, and the places for which they run.
use Rattle.std.proofs.Common.{◌≡◌, ℕ, zero, suc, ◌+◌, ◌*◌, ◌<◌, ◌≤◌, List, [], ◌∷◌, ◌++◌, length, get_or, set, refl, sym, ap, subst, ◌∙◌, arith, inl, inr, length-append, length-set}
use Rattle.std.specs.Prelude.{◌≢◌, ◌⊎◌, Option, Some, None, IfSome, IfNone, unwrap_or}
use Rattle.std.specs.List.{AllByRecursion}
use Rattle.std.proofs.lemmas.List.{get_or-set_same, get_or-set_other, get_or_append_left, get_or_push}
use Rattle.std.proofs.lemmas.Option.{none-some}
use Rattle.std.proofs.lemmas.Bool.Decides.{eqb_tells, leb_tells}
use Rattle.exb_timeline.specs.declared.tournament.Tournament.{Tournament}
use Rattle.exb_timeline.specs.Tournaments.{AreRacing, AreTurns, HasRacer, IsFirst, at, kept, moment_at, turn}
use Rattle.exb_timeline.proofs.TournamentTree.{at_is, root_least}

-- ---- the moments
pub kept_is : (moment : Option ℕ) → unwrap_or moment 18446744073709551615 ≡ kept moment
kept_is None = refl
kept_is (Some m) = refl

if_some : (o : Option ℕ) (P : ℕ → Type 0) → ((m : ℕ) → o ≡ Some m → P m) → IfSome o P
if_some None P all = tt
if_some (Some m) P all = all m refl

pub if_none : {X : Type 0} (o : Option X) (P : Type 0) → P → IfNone o P
if_none None P all = all
if_none (Some x) P all = tt

of_some : (o : Option ℕ) (P : ℕ → Type 0) (m : ℕ) → o ≡ Some m → IfSome o P → P m
of_some o P m is all = subst (λ x. IfSome x P) is all

is_none : (o : Option ℕ) → ((m : ℕ) → o ≡ Some m → ⊥) → o ≡ None
is_none None never = refl
is_none (Some m) never = absurd (never m refl)

-- ---- as lists
all_of : {X : Type 0} (P : X → Type 0) (xs : List X) (d : X) → ((k : ℕ) → k < length xs → P (get_or xs k d)) → AllByRecursion P xs
all_of P [] d all = tt
all_of P (x ∷ xs) d all = (all 0 (omega arith), all_of P xs d (λ k low. all (suc k) (omega (arith, low))))

one_of : {X : Type 0} (P : X → Type 0) (xs : List X) (d : X) (k : ℕ) → k < length xs → AllByRecursion P xs → P (get_or xs k d)
one_of P [] d k low all = absurd (omega (arith, low))
one_of P (x ∷ xs) d zero low all = all.0
one_of P (x ∷ xs) d (suc k) low all = one_of P xs d k (omega (arith, low)) all.1

pub all_set : {X : Type 0} (P : X → Type 0) (xs : List X) (k : ℕ) (x : X) → P x → AllByRecursion P xs → AllByRecursion P (set xs k x)
all_set P [] k x own all = tt
all_set P (y ∷ xs) zero x own all = (own, all.1)
all_set P (y ∷ xs) (suc k) x own all = (all.0, all_set P xs k x own all.1)

long : {X : Type 0} (xs : List X) (x : X) → length (xs ++ x ∷ []) ≡ suc (length xs)
long xs x = omega (arith, length-append xs (x ∷ []))

-- a place with a turn is one of the list
pub within : (turns : List (Option ℕ)) (q m : ℕ) → moment_at turns q ≡ Some m → q < length turns
within [] q m is = absurd (none-some m is)
within (o ∷ turns) zero m is = omega arith
within (o ∷ turns) (suc q) m is = let low = within turns q m is in omega (arith, low)

between : {X : Type 0} (xs : List X) (x : X) (k : ℕ) → k < length (xs ++ x ∷ []) → (k ≡ length xs) ⊎ (k < length xs)
between xs x k low =
    elim (leb_tells (length xs) k) [
      | inl last ↦ inl (let all = long xs x in omega (arith, last.1, low, all))
      | inr less ↦ inr less.1
    ]

-- ---- racers and places
-- racers that were there are those that they were
still_racing : (moments places racers now_moments now_places now_racers : List ℕ) (q : ℕ) → HasRacer moments places racers q → at now_racers q ≡ at racers q → length moments ≤ length now_moments
    → at now_places (at racers q) ≡ at places (at racers q) → HasRacer now_moments now_places now_racers q
still_racing moments places racers now_moments now_places now_racers q has same more place = record {
  low = (let low = has.low in omega (arith, same, low, more));
  own = ap (at now_places) same ∙ place ∙ has.own;
}

module _ (turns : List (Option ℕ)) (moments places racers : List ℕ) (h : AreRacing turns moments places racers) where
  -- a place more that has no turn
  pub racing_none : (x : ℕ) → AreRacing (turns ++ None ∷ []) moments places (racers ++ x ∷ [])
  racing_none x = record {
    count = long racers x ∙ ap suc h.count ∙ sym (long turns None);
    each = h.each;
    there = λ r low. let there = h.there r low in let more = long turns None in omega (arith, there, more);
    own = λ r low. let there = h.there r low in get_or_append_left racers (x ∷ []) 0 (at places r) (omega (arith, there, h.count)) ∙ h.own r low;
    are = λ r low. h.are r low ∙ ap kept (sym (get_or_append_left turns (None ∷ []) None (at places r) (h.there r low)));
    order = h.order;
    all = λ q m is.
        elim (between turns None q (within (turns ++ None ∷ []) q m is)) [
          | inl e ↦ absurd (none-some m (sym (get_or_push turns None None q (sym e)) ∙ is))
          | inr low ↦
              still_racing moments places racers moments places (racers ++ x ∷ []) q (h.all q m (sym (get_or_append_left turns (None ∷ []) None q low) ∙ is))
              (get_or_append_left racers (x ∷ []) 0 q (omega (arith, low, h.count))) (omega arith) refl
        ];
  }

  -- a place more that has one
  module _ (m : ℕ) where
    abbrev now_turns : List (Option ℕ)
    now_turns = turns ++ Some m ∷ []

    abbrev now_moments : List ℕ
    now_moments = moments ++ m ∷ []

    abbrev now_places : List ℕ
    now_places = places ++ length racers ∷ []

    abbrev now_racers : List ℕ
    now_racers = racers ++ length moments ∷ []

    place_old : (r : ℕ) → r < length moments → at now_places r ≡ at places r
    place_old r low = get_or_append_left places (length racers ∷ []) 0 r (omega (arith, low, h.each))

    place_new : (r : ℕ) → r ≡ length moments → at now_places r ≡ length racers
    place_new r e = get_or_push places (length racers) 0 r (h.each ∙ sym e)

    racer_old : (q : ℕ) → q < length turns → at now_racers q ≡ at racers q
    racer_old q low = get_or_append_left racers (length moments ∷ []) 0 q (omega (arith, low, h.count))

    racer_new : (q : ℕ) → q ≡ length turns → at now_racers q ≡ length moments
    racer_new q e = get_or_push racers (length moments) 0 q (h.count ∙ sym e)

    turn_old : (q : ℕ) → q < length turns → moment_at now_turns q ≡ moment_at turns q
    turn_old q low = get_or_append_left turns (Some m ∷ []) None q low

    turn_new : (q : ℕ) → q ≡ length turns → moment_at now_turns q ≡ Some m
    turn_new q e = get_or_push turns (Some m) None q (sym e)

    place_low : (r : ℕ) → r < length now_moments → at now_places r < length now_turns
    place_low r low =
        let more = long turns (Some m) in
        elim (between moments m r low) [
          | inl e ↦ let is = place_new r e in omega (arith, is, h.count, more)
          | inr old ↦ let is = place_old r old in let there = h.there r old in omega (arith, is, there, more)
        ]

    racer_of : (r : ℕ) → r < length now_moments → at now_racers (at now_places r) ≡ r
    racer_of r low =
        elim (between moments m r low) [
          | inl e ↦ racer_new (at now_places r) (place_new r e ∙ h.count) ∙ sym e
          | inr old ↦ ap (at now_racers) (place_old r old) ∙ racer_old (at places r) (h.there r old) ∙ h.own r old
        ]

    moment_of : (r : ℕ) → r < length now_moments → at now_moments r ≡ kept (moment_at now_turns (at now_places r))
    moment_of r low =
        elim (between moments m r low) [
          | inl e ↦ get_or_push moments m 0 r (sym e) ∙ ap kept (sym (turn_new (at now_places r) (place_new r e ∙ h.count)))
          | inr old ↦ get_or_append_left moments (m ∷ []) 0 r old ∙ h.are r old ∙ ap kept (sym (ap (moment_at now_turns) (place_old r old) ∙ turn_old (at places r) (h.there r old)))
        ]

    in_order : (r s : ℕ) → r < s → s < length now_moments → at now_places r < at now_places s
    in_order r s less low =
        elim (between moments m s low) [
          | inl e ↦
              let first : r < length moments = omega (arith, less, e) in
              let there = h.there r first in
              let one = place_old r first in
              let other = place_new s e in
              omega (arith, there, one, other, h.count)
          | inr old ↦
              let order = h.order r s less old in
              let one = place_old r (omega (arith, less, old)) in
              let other = place_old s old in
              omega (arith, order, one, other)
        ]

    has_racer : (q k : ℕ) → moment_at now_turns q ≡ Some k → HasRacer now_moments now_places now_racers q
    has_racer q k is =
        elim (between turns (Some m) q (within now_turns q k is)) [
          | inl e ↦
              record {
                low = (let own = racer_new q e in let more = long moments m in omega (arith, own, more));
                own = place_new (at now_racers q) (racer_new q e) ∙ h.count ∙ sym e;
              }
          | inr old ↦
              let has = h.all q k (sym (turn_old q old) ∙ is) in
              still_racing moments places racers now_moments now_places now_racers q has (racer_old q old) (let more = long moments m in omega (arith, more))
              (place_old (at racers q) has.low)
        ]

    pub racing_some : AreRacing now_turns now_moments now_places now_racers
    racing_some = record {
      count = long racers (length moments) ∙ ap suc h.count ∙ sym (long turns (Some m));
      each = long places (length racers) ∙ ap suc h.each ∙ sym (long moments m);
      there = place_low;
      own = racer_of;
      are = moment_of;
      order = in_order;
      all = has_racer;
    }

  -- another turn of a place that has a racer
  module _ (p : ℕ) (o : Option ℕ) (has : HasRacer moments places racers p) where
    abbrev put_turns : List (Option ℕ)
    put_turns = set turns p o

    abbrev put_moments : List ℕ
    put_moments = set moments (at racers p) (kept o)

    same_moments : length put_moments ≡ length moments
    same_moments = length-set moments (at racers p) (kept o)

    low_of : (r : ℕ) → r < length put_moments → r < length moments
    low_of r low = omega (arith, low, same_moments)

    put_low : p < length turns
    put_low = subst (λ q. q < length turns) has.own (h.there (at racers p) has.low)

    moment_put : (r : ℕ) → r < length moments → at put_moments r ≡ kept (moment_at put_turns (at places r))
    moment_put r low =
        elim (eqb_tells r (at racers p)) [
          | inl e ↦
              ap (at put_moments) e.1 ∙ get_or-set_same moments (at racers p) (kept o) 0 has.low
              ∙ ap kept (sym (ap (moment_at put_turns) (ap (at places) e.1 ∙ has.own) ∙ get_or-set_same turns p o None put_low))
          | inr other ↦
              get_or-set_other moments (at racers p) r (kept o) 0 other.1 ∙ h.are r low
              ∙ ap kept (sym (get_or-set_other turns p (at places r) o None (λ e. other.1 (sym (h.own r low) ∙ ap (at racers) e))))
        ]

    racer_put : (q m : ℕ) → moment_at put_turns q ≡ Some m → HasRacer put_moments places racers q
    racer_put q m is =
        elim (eqb_tells q p) [
          | inl e ↦ still_racing moments places racers put_moments places racers q (subst (HasRacer moments places racers) (sym e.1) has) refl (omega (arith, same_moments)) refl
          | inr other ↦
              still_racing moments places racers put_moments places racers q (h.all q m (sym (get_or-set_other turns p q o None other.1) ∙ is)) refl (omega (arith, same_moments)) refl
        ]

    pub racing_put : AreRacing put_turns put_moments places racers
    racing_put = record {
      count = h.count ∙ sym (length-set turns p o);
      each = h.each ∙ sym same_moments;
      there = λ r low. let there = h.there r (low_of r low) in let same = length-set turns p o in omega (arith, there, same);
      own = λ r low. h.own r (low_of r low);
      are = λ r low. moment_put r (low_of r low);
      order = λ r s less low. h.order r s less (low_of s low);
      all = racer_put;
    }

-- ---- the first turn
module _ (turns : List (Option ℕ)) (t : Tournament) (are : AreTurns turns t) where
  -- the moment of a place with a turn is that of its racer
  of_turn : (q m : ℕ) → moment_at turns q ≡ Some m → at t.moments.items (at t.racers.items q) ≡ m
  of_turn q m is =
      let has = are.racing.all q m is in
      are.racing.are (at t.racers.items q) has.low ∙ ap kept (ap (moment_at turns) has.own ∙ is)

  -- where none races there is no turn
  pub none_race : length t.firsts.items ≤ 1 → AllByRecursion (λ m. m ≡ None) turns
  none_race short = all_of (λ m. m ≡ None) turns None (λ q low. is_none (moment_at turns q) (λ m is. let low = (are.racing.all q m is).low in omega (arith, low, short, are.tree.nodes)))

  module _ (racer moment : ℕ) (some : 1 < length t.firsts.items) (first : racer ≡ get_or t.firsts.items 1 racer) (own : moment ≡ get_or t.moments.items racer moment) where
    few : length t.moments.items < 9223372036854775808
    few = omega (arith, t.moments.small, t.moments.ok.0, t.moments.ok.1)

    first_is : at t.firsts.items 1 ≡ racer
    first_is = at_is t.firsts.items 1 racer some first

    races : racer < length t.moments.items
    races = subst (λ r. r < length t.moments.items) first_is (are.tree.places 1 (omega arith) some)

    own_is : at t.moments.items racer ≡ moment
    own_is = at_is t.moments.items racer moment races own

    before : (s : ℕ) → s < length t.moments.items → moment * 18446744073709551616 + racer ≤ at t.moments.items s * 18446744073709551616 + s
    before s low =
        subst (λ m. m * 18446744073709551616 + racer ≤ turn t.moments.items s) own_is
        (subst (λ r. turn t.moments.items r ≤ turn t.moments.items s) first_is (root_least t.moments.items t.leaves.items t.firsts.items are.tree s low))

    not_before : (m r k s : ℕ) → s < 18446744073709551616 → m * 18446744073709551616 + r ≤ k * 18446744073709551616 + s → m ≤ k
    not_before m r k s high low = omega (arith, high, low)

    later : (m r k s : ℕ) → s < r → m * 18446744073709551616 + r ≤ k * 18446744073709551616 + s → m < k
    later m r k s high low = omega (arith, high, low)

    is_some : (o : Option ℕ) → kept o ≡ moment → moment ≢ 18446744073709551615 → o ≡ Some moment
    is_some None e some = absurd (some (sym e))
    is_some (Some m) e some = ap Some e

    -- no turn is before the first racer's
    moment_low : (q m : ℕ) → moment_at turns q ≡ Some m → moment ≤ m
    moment_low q m is =
        let low = (are.racing.all q m is).low in
        not_before moment racer m (at t.racers.items q) (omega (arith, low, few))
        (subst (λ k. moment * 18446744073709551616 + racer ≤ k * 18446744073709551616 + at t.racers.items q) (of_turn q m is) (before (at t.racers.items q) low))

    -- the racer of a lower place is a lower one
    ahead : (q m : ℕ) → q < at t.places.items racer → moment_at turns q ≡ Some m → at t.racers.items q < racer
    ahead q m low is =
        let has = are.racing.all q m is in
        elim (leb_tells racer (at t.racers.items q)) [
          | inr less ↦ less.1
          | inl behind ↦
              elim (eqb_tells (at t.racers.items q) racer) [
                | inl e ↦ absurd (let same = ap (at t.places.items) (sym e.1) ∙ has.own in omega (arith, same, low))
                | inr other ↦
                    let no : at t.racers.items q ≢ racer = other.1 in
                    let more = are.racing.order racer (at t.racers.items q) (apart racer (at t.racers.items q) no behind.1) has.low in
                    absurd (let own = has.own in omega (arith, more, own, low))
              ]
        ]
      where
        apart : (r s : ℕ) → s ≢ r → r ≤ s → r < s
        apart r s other low =
            elim (leb_tells s r) [
              | inl here ↦ absurd (other (omega (arith, here.1, low)))
              | inr less ↦ less.1
            ]

    pub is_first : moment ≢ 18446744073709551615 → (place : ℕ) → place ≡ get_or t.places.items racer place → IsFirst turns moment place
    is_first some place is =
        let at_place : at t.places.items racer ≡ place = at_is t.places.items racer place (omega (arith, races, are.racing.each)) is in
        record {
          within = subst (λ q. q < length turns) at_place (are.racing.there racer races);
          own = is_some (moment_at turns place) (ap (λ q. kept (moment_at turns q)) (sym at_place) ∙ sym (are.racing.are racer races) ∙ own_is) some;
          all = λ q low. if_some (moment_at turns q) (λ m. moment ≤ m) (moment_low q);
          ahead = λ q low.
              if_some (moment_at turns q) (λ m. moment < m) (λ m is.
              let less = ahead q m (omega (arith, low, at_place)) is in
              later moment racer m (at t.racers.items q) less
              (subst (λ k. moment * 18446744073709551616 + racer ≤ k * 18446744073709551616 + at t.racers.items q) (of_turn q m is) (before (at t.racers.items q) (are.racing.all q m is).low)));
        }

    pub are_none : moment ≡ 18446744073709551615 → AllByRecursion (λ m. m ≡ None) turns
    are_none never = all_of (λ m. m ≡ None) turns None (λ q low. is_none (moment_at turns q) (λ m is. beyond q m low is))
      where
        beyond : (q m : ℕ) → q < length turns → moment_at turns q ≡ Some m → ⊥
        beyond q m low is =
            let least = moment_low q m is in
            let small : m < 18446744073709551615 = of_some (moment_at turns q) (λ k. k < 18446744073709551615) m is (one_of (λ o. IfSome o (λ k. k < 18446744073709551615)) turns None q low are.small) in
            omega (arith, least, small, never)
