-- What is gathered of one second, one after another.
use Rattle.std.proofs.Common.{◌≡◌, ℕ, List, [], ◌∷◌, ◌++◌, map, refl, ap, sym, subst, ◌∙◌, append_assoc}
use Rattle.std.specs.Prelude.{filter_map}
use Rattle.std.specs.List.{AllByRecursion}
use mathlib.Core.List.{map-append}
use Rattle.std.proofs.lemmas.List.{append-nil}
use Rattle.exb_model.specs.Input.{Coming, Mode, Eager, Seeded, arrival_in}
use Rattle.exb_model.specs.declared.arrival.Arrival.{Arrival}
use Rattle.exb_timeline.specs.MergeOrder.{still_to_come}
use Rattle.exb_timeline.specs.declared.bridge_timeline.Next.{Next}
use Rattle.exb_timeline.specs.declared.bridge_timeline.Timeline.{Timeline}
use Rattle.exb_timeline.specs.Timelines.{IsComing, IsTakenOf, played_with, what}
use Rattle.exb_play.specs.Disks.{Disk}
use Rattle.exb_play.specs.declared.feed.Feed.{Feed}
use Rattle.exb_play.specs.RunInvariants.{ComeAll, HasTaken, HasTakenSecond, IsGathered, IsTaken, NoMoreIn, TakesAllOf, second_by}
use Rattle.exb_play.proofs.TakenEvents.{arrivals-append, arrivals_by, came_by}

all-more : (second : ℕ) (ds : List Next) (d : Next) → AllByRecursion (λ x. second_by x ≡ second) ds → second_by d ≡ second → AllByRecursion (λ x. second_by x ≡ second) (ds ++ d ∷ [])
all-more second [] d all is = (is, tt)
all-more second (x ∷ ds) d all is = (all.0, all-more second ds d all.1 is)

-- ---- one after another
pub comes-then : (a b c : Timeline) (ds es : List Next) → ComeAll a ds b → ComeAll b es c → ComeAll a (ds ++ es) c
comes-then a b c [] es is more = subst (λ (x : Timeline). ComeAll x es c) (sym is) more
comes-then a b c (d ∷ ds) es (n, first, rest) more = (n, first, comes-then n b c ds es rest more)

takes-then : (x y z : Disk) (a b c : Timeline) (ds es : List Next) → TakesAllOf x y a ds b → TakesAllOf y z b es c → TakesAllOf x z a (ds ++ es) c
takes-then x y z a b c ds es all more streams replays =
    let (rest, order, left) = all streams replays in
    let (last, next, behind) = more rest left in (
      last,
      order ∙ ap (λ (xs : List Coming). map what ds ++ xs) next ∙ sym (append_assoc (map what ds) (map what es) (still_to_come (played_with last c)))
          ∙ ap (λ (xs : List Coming). xs ++ still_to_come (played_with last c)) (sym (map-append what ds es)),
      behind,
    )

pub taken-then : (tells : Type 0) (x y z : Disk) (a b c : Feed) (ds es : List Next) → HasTaken tells x y a ds b → HasTaken tells y z b es c → HasTaken tells x z a (ds ++ es) c
taken-then tells x y z a b c ds es one two = record {
  comes = comes-then a.programme b.programme c.programme ds es one.comes two.comes;
  takes = λ t. takes-then x y z a.programme b.programme c.programme ds es (one.takes t) (two.takes t);
  arrivals_are =
      two.arrivals_are ∙ ap (λ (xs : List Arrival). xs ++ arrivals_by es) one.arrivals_are ∙ append_assoc a.gathered.items (arrivals_by ds) (arrivals_by es)
      ∙ ap (λ (xs : List Arrival). a.gathered.items ++ xs) (sym (arrivals-append (came_by ds) (came_by es)) ∙ ap (filter_map arrival_in) (sym (map-append what ds es)));
}

-- one alone
pub takes-one : (tells : Type 0) (x y : Disk) (a b : Feed) (d : Next) → IsComing a.programme d b.programme → (tells → IsTakenOf x.files y.files x.ids y.ids a.programme d b.programme) →
    b.gathered.items ≡ a.gathered.items ++ filter_map arrival_in (what d ∷ []) → HasTaken tells x y a (d ∷ []) b
takes-one tells x y a b d coming takes behind = record { comes = (b.programme, coming, refl); takes = takes; arrivals_are = behind }

-- nothing yet
pub takes-none : (tells : Type 0) (second : ℕ) (x : Disk) (f : Feed) → HasTakenSecond tells second x x f f
takes-none tells second x f = record {
  ds = [];
  has = record { comes = refl; takes = λ t streams replays. (streams, refl, replays); arrivals_are = sym (append-nil f.gathered.items) };
  within = tt;
}

-- one more
pub gathers-more : (tells : Type 0) (second : ℕ) (x y z : Disk) (a b c : Feed) → HasTakenSecond tells second x y a b → IsTaken tells second y z b c → HasTakenSecond tells second x z a c
gathers-more tells second x y z a b c so_far one = record {
  ds = so_far.ds ++ one.d ∷ [];
  has = taken-then tells x y z a b c so_far.ds (one.d ∷ []) so_far.has one.has;
  within = all-more second so_far.ds one.d so_far.within one.within;
}

-- no more
pub gathers-same : (tells : Type 0) (second : ℕ) (x y z : Disk) (a b c : Feed) → HasTakenSecond tells second x y a b → c.programme ≡ b.programme → c.gathered.items ≡ b.gathered.items →
    (tells → TakesAllOf y z b.programme [] b.programme) → HasTakenSecond tells second x z a c
gathers-same tells second x y z a b c so_far same gathered none = record {
  ds = so_far.ds;
  has = record {
    comes = subst (ComeAll a.programme so_far.ds) (sym same) so_far.has.comes;
    takes = λ t. subst (TakesAllOf x z a.programme so_far.ds) (sym same)
        (λ streams replays. (let (rest, order, left) = so_far.has.takes t streams replays in
        let (last, next, behind) = none t rest left in
        (last, order ∙ ap (λ (xs : List Coming). map what so_far.ds ++ xs) next, behind)));
    arrivals_are = gathered ∙ so_far.has.arrivals_are;
  };
  within = so_far.within;
}

-- ---- one segment
-- what came first, and all that was taken with it
gathers : (tells : Type 0) (m : Mode) (x z : Disk) (second : ℕ) (a c : Feed) (d : Next) (more : List Next) → HasTaken tells x z a (d ∷ more) c → a.gathered.items ≡ [] → second_by d ≡ second →
    AllByRecursion (λ e. second_by e ≡ second) more → (m ≡ Eager → more ≡ []) → (tells → m ≡ Seeded → NoMoreIn second z c.programme) → IsGathered tells m x z second a.programme c
gathers tells m x z second a c d more has none is within alone whole = record {
  first = d;
  more = more;
  comes = has.comes;
  takes = has.takes;
  arrivals_are = has.arrivals_are ∙ ap (λ (xs : List Arrival). xs ++ arrivals_by (d ∷ more)) none;
  is_first = is;
  alone = alone;
  within = within;
  whole = whole;
}

-- alone
pub gathers-alone : (tells : Type 0) (m : Mode) (x y : Disk) (second : ℕ) (a b : Feed) → IsTaken tells second x y a b → a.gathered.items ≡ [] → (m ≡ Seeded → ⊥) → IsGathered tells m x y second a.programme b
gathers-alone tells m x y second a b one none eager = gathers tells m x y second a b one.d [] one.has none one.within tt (λ e. refl) (λ t seeded. absurd (eager seeded))

-- and all of the same second behind it
pub gathers-all : (tells : Type 0) (m : Mode) (x y z : Disk) (second : ℕ) (a b c : Feed) → IsTaken tells second x y a b → a.gathered.items ≡ [] → HasTakenSecond tells second y z b c →
    (tells → NoMoreIn second z c.programme) → (m ≡ Eager → ⊥) → IsGathered tells m x z second a.programme c
gathers-all tells m x y z second a b c one none behind whole seeded =
    gathers tells m x z second a c one.d behind.ds (taken-then tells x y z a b c (one.d ∷ []) behind.ds one.has behind.has) none one.within behind.within (λ eager. absurd (seeded eager)) (λ t e. whole t)
