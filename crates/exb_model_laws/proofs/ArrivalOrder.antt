-- What is merged of an input and cut into segments: the arrivals of a port keep the order of its capture.
use Rattle.std.proofs.Common.{◌≡◌, ℕ, suc, zero, ◌+◌, ◌-◌, ◌<◌, ◌≤◌, Bool, true, false, cond, ◌==◌, eq-eqb, List, [], ◌∷◌, ◌++◌, length, length-append, map, refl, sym, ap, subst, ◌∙◌, append_assoc, arith, inl, inr}
use Rattle.std.specs.Prelude.{Option, Some, nat_lt, filter_map, flat_map, max, slice_get}
use Rattle.std.specs.List.{AllByRecursion, range_with_len}
use Rattle.std.proofs.lemmas.List.{append-nil}
use Rattle.std.proofs.lemmas.List.Elements.{filter-append, filter_map-append}
use Rattle.std.proofs.lemmas.Bool.{cases_eq, ne_eqb, ltb-true}
use Rattle.exb_model.specs.Ports.{below, all_ports}
use Rattle.exb_model.specs.Lists.{numbered}
use Rattle.exb_model.specs.declared.arrival.Arrival.{Arrival}
use Rattle.exb_model.specs.Input.{Input, Given, Record, Coming, Ordered, Captured, Segment, Group, Mode, Eager, Seeded, moment_of, arrivals_from, arrivals_at, all_arrivals, start_second, commands_from, all_comings, put_in_order, by_moment, merge, alone, joined, number_in, arrival_in, segment_of, second_of, segments_since, segments_in, groups_in, segments}
use Rattle.exb_model.specs.LegalHistory.{Rise}
use Rattle.exb_model_laws.proofs.PortOrder.{at_port}
use Rattle.exb_model_laws.proofs.EagerEvents.{IsNumbered}

-- ---- the groups of either mode are what comes, in order
joined_all : (x : Coming) (gs : List Group) → flat_map (λ (g : Group). g.comings) (joined x gs) ≡ x ∷ flat_map (λ (g : Group). g.comings) gs
joined_all x [] = refl
joined_all x (g ∷ gs) = by_same (second_of (moment_of x) == g.second)
  where
    by_same : (b : Bool) → flat_map (λ (z : Group). z.comings) (cond b (record g { comings = x ∷ g.comings } ∷ gs) (alone x ∷ g ∷ gs)) ≡ x ∷ flat_map (λ (z : Group). z.comings) (g ∷ gs)
    by_same true = refl
    by_same false = refl

grouped_all : (m : Mode) (xs : List Coming) → flat_map (λ (g : Group). g.comings) (groups_in m xs) ≡ xs
grouped_all Eager [] = refl
grouped_all Eager (x ∷ xs) = ap (λ (ys : List Coming). x ∷ ys) (grouped_all Eager xs)
grouped_all Seeded [] = refl
grouped_all Seeded (x ∷ xs) = joined_all x (groups_in Seeded xs) ∙ ap (λ (ys : List Coming). x ∷ ys) (grouped_all Seeded xs)

-- ---- so are the arrivals and the commands of the segments
module _ {Y : Type 0} (of : Segment → List Y) (g : Coming → Option Y) (is : (seconds : ℕ) (xs : List Coming) → of (segment_of seconds xs) ≡ filter_map g xs) where
  since : (second : ℕ) (gs : List Group) → flat_map of (segments_since second gs) ≡ filter_map g (flat_map (λ (z : Group). z.comings) gs)
  since second [] = refl
  since second (x ∷ gs) =
      ap (λ (ys : List Y). ys ++ flat_map of (segments_since x.second gs)) (is (x.second - second) x.comings)
      ∙ ap (λ (ys : List Y). filter_map g x.comings ++ ys) (since x.second gs)
      ∙ sym (filter_map-append g x.comings (flat_map (λ (z : Group). z.comings) gs))

  of_groups : (gs : List Group) → flat_map of (segments_in gs) ≡ filter_map g (flat_map (λ (z : Group). z.comings) gs)
  of_groups [] = refl
  of_groups (x ∷ gs) = since x.second (x ∷ gs)

pub segments-arrivals : (m : Mode) (i : Input) → flat_map (λ s. s.arrivals) (segments m i) ≡ filter_map arrival_in (merge i)
unfolding segments
segments-arrivals m i =
    of_groups (λ s. s.arrivals) arrival_in (λ seconds xs. refl) (groups_in m (merge i)) ∙ ap (filter_map arrival_in) (grouped_all m (merge i))

pub segments-commands : (m : Mode) (i : Input) → flat_map (λ s. s.commands) (segments m i) ≡ filter_map number_in (merge i)
unfolding segments
segments-commands m i =
    of_groups (λ s. s.commands) number_in (λ seconds xs. refl) (groups_in m (merge i)) ∙ ap (filter_map number_in) (grouped_all m (merge i))

-- ---- what is put in order by moment
module _ (p : ℕ) where
  -- the arrivals of the port
  abbrev pub kept : List Coming → List Arrival
  kept xs = at_port p (filter_map arrival_in xs)

  put-other : (x : Coming) → ((zs : List Coming) → kept (x ∷ zs) ≡ kept zs) → (ys : List Coming) → kept (put_in_order x ys) ≡ kept ys
  put-other x other [] = other []
  put-other x other (y ∷ ys) = by_test (put-other x other ys) (nat_lt (moment_of y) (moment_of x))
    where
      first : (y : Coming) (vs ws : List Coming) → kept vs ≡ kept ws → kept (y ∷ vs) ≡ kept (y ∷ ws)
      first (Ordered moment n) vs ws same = same
      first (Captured a) vs ws same = ap (λ arrived. cond (a.port == p) (a ∷ arrived) arrived) same

      by_test : kept (put_in_order x ys) ≡ kept ys → (b : Bool) → kept (cond b (y ∷ put_in_order x ys) (x ∷ y ∷ ys)) ≡ kept (y ∷ ys)
      by_test rest true = first y (put_in_order x ys) ys rest
      by_test rest false = other (y ∷ ys)

  -- where none of the port's comes before it
  put-own : (a : Arrival) → a.port == p ≡ true → (ys : List Coming) → AllByRecursion (λ b. a.moment ≤ b.moment) (kept ys) → kept (put_in_order (Captured a) ys) ≡ a ∷ kept ys
  put-own a own [] all = rw own refl
  put-own a own (y ∷ ys) all = by_test (put-own a own ys) (nat_lt (moment_of y) a.moment) refl
    where
      here : (zs : List Coming) → kept (Captured a ∷ zs) ≡ a ∷ kept zs
      here zs = rw own refl

      earlier : (y : Coming) → moment_of y < a.moment → AllByRecursion (λ b. a.moment ≤ b.moment) (kept (y ∷ ys)) →
          (AllByRecursion (λ b. a.moment ≤ b.moment) (kept ys) → kept (put_in_order (Captured a) ys) ≡ a ∷ kept ys) → kept (y ∷ put_in_order (Captured a) ys) ≡ a ∷ kept (y ∷ ys)
      earlier (Ordered moment n) before all more = more all
      earlier (Captured b) before all more = by_port (b.port == p) all
        where
          by_port : (same : Bool) → AllByRecursion (λ c. a.moment ≤ c.moment) (cond same (b ∷ kept ys) (kept ys)) →
              cond same (b ∷ kept (put_in_order (Captured a) ys)) (kept (put_in_order (Captured a) ys)) ≡ a ∷ cond same (b ∷ kept ys) (kept ys)
          by_port true all = absurd (omega (arith, all.0))
          by_port false all = more all

      by_test : (AllByRecursion (λ b. a.moment ≤ b.moment) (kept ys) → kept (put_in_order (Captured a) ys) ≡ a ∷ kept ys) →
          (b : Bool) → nat_lt (moment_of y) a.moment ≡ b → kept (cond b (y ∷ put_in_order (Captured a) ys) (Captured a ∷ y ∷ ys)) ≡ a ∷ kept (y ∷ ys)
      by_test more true before = earlier y (ltb-true (moment_of y) a.moment before) all more
      by_test more false after = here (y ∷ ys)

-- by moment, none before those in front of it
abbrev pub ByMoment : List Arrival → Type 0
ByMoment [] = Unit {0}
ByMoment (a ∷ arrived) = AllByRecursion (λ b. a.moment ≤ b.moment) arrived × ByMoment arrived

-- those of a port that stand by moment stay as they stood
by_moment-kept : (p : ℕ) (xs : List Coming) → ByMoment (kept p xs) → kept p (by_moment xs) ≡ kept p xs
by_moment-kept p [] rising = refl
by_moment-kept p (Ordered moment n ∷ xs) rising = put-other p (Ordered moment n) (λ zs. refl) (by_moment xs) ∙ by_moment-kept p xs rising
by_moment-kept p (Captured a ∷ xs) rising = by_port (a.port == p) refl rising (by_moment-kept p xs)
  where
    by_port : (same : Bool) → a.port == p ≡ same → ByMoment (cond same (a ∷ kept p xs) (kept p xs)) → (ByMoment (kept p xs) → kept p (by_moment xs) ≡ kept p xs) →
        kept p (put_in_order (Captured a) (by_moment xs)) ≡ cond same (a ∷ kept p xs) (kept p xs)
    by_port true is rising more =
        let rest : kept p (by_moment xs) ≡ kept p xs = more rising.1 in
        let P : List Arrival → Type 0 = AllByRecursion (λ b. a.moment ≤ b.moment) in
        put-own p a is (by_moment xs) (subst P (sym rest) rising.0) ∙ ap (λ arrived. a ∷ arrived) rest
    by_port false is rising more = put-other p (Captured a) (λ zs. rw is refl) (by_moment xs) ∙ more rising

-- ---- the arrivals of one capture
from-moments : (q n least : ℕ) (rs : List Record) → AllByRecursion (λ a. least ≤ a.moment) (arrivals_from q n least rs)
from-moments q n least [] = tt
from-moments q n least (r ∷ rs) = (omega arith, lower (arrivals_from q (suc n) (max least r.time) rs) (from-moments q (suc n) (max least r.time) rs))
  where
    lower : (arrived : List Arrival) → AllByRecursion (λ a. max least r.time ≤ a.moment) arrived → AllByRecursion (λ a. least ≤ a.moment) arrived
    lower [] all = tt
    lower (a ∷ arrived) all = (omega (arith, all.0), lower arrived all.1)

from-by_moment : (q n least : ℕ) (rs : List Record) → ByMoment (arrivals_from q n least rs)
from-by_moment q n least [] = tt
from-by_moment q n least (r ∷ rs) = (from-moments q (suc n) (max least r.time) rs, from-by_moment q (suc n) (max least r.time) rs)

from-rise : (q n least low : ℕ) (rs : List Record) → low < n → Rise low (map (λ a. a.index) (arrivals_from q n least rs))
from-rise q n least low [] h = tt
from-rise q n least low (r ∷ rs) h = (h, from-rise q (suc n) (max least r.time) n rs (omega arith))

from-own : (p n least : ℕ) (rs : List Record) → at_port p (arrivals_from p n least rs) ≡ arrivals_from p n least rs
from-own p n least [] = refl
from-own p n least (r ∷ rs) = rw (eq-eqb p p refl) (ap (λ arrived. record { port = p; index = n; moment = max least r.time; bytes = r.bytes } ∷ arrived) (from-own p (suc n) (max least r.time) rs))

from-other : (p q n least : ℕ) (rs : List Record) → q == p ≡ false → at_port p (arrivals_from q n least rs) ≡ []
from-other p q n least [] other = refl
from-other p q n least (r ∷ rs) other = rw other (from-other p q (suc n) (max least r.time) rs other)

-- ---- the arrivals of one port among all
-- by moment, and with rising indices
pub record IsOrderly (arrived : List Arrival) : Type 0 where
  pub moments : ByMoment arrived
  pub indices : Rise 0 (map (λ a. a.index) arrived)

orderly-at : (i : Input) (p : ℕ) → IsOrderly (arrivals_at i p)
unfolding arrivals_at
orderly-at i p = record { moments = from-by_moment p 1 0 (i.records p); indices = from-rise p 1 0 0 (i.records p) (omega arith) }

own-at : (i : Input) (p : ℕ) → at_port p (arrivals_at i p) ≡ arrivals_at i p
unfolding arrivals_at
own-at i p = from-own p 1 0 (i.records p)

other-at : (i : Input) (p q : ℕ) → (q ≡ p → ⊥) → at_port p (arrivals_at i q) ≡ []
unfolding arrivals_at
other-at i p q other = from-other p q 1 0 (i.records q) (ne_eqb q p other)

none-above : (i : Input) (p a n : ℕ) → p < a → at_port p (flat_map (arrivals_at i) (range_with_len a n)) ≡ []
none-above i p a zero h = refl
none-above i p a (suc n) h =
    filter-append (λ x. x.port == p) (arrivals_at i a) (flat_map (arrivals_at i) (range_with_len (a + 1) n))
    ∙ ap (λ arrived. arrived ++ at_port p (flat_map (arrivals_at i) (range_with_len (a + 1) n))) (other-at i p a (λ e. omega arith))
    ∙ none-above i p (a + 1) n (omega arith)

orderly-range : (i : Input) (p a n : ℕ) → IsOrderly (at_port p (flat_map (arrivals_at i) (range_with_len a n)))
orderly-range i p a zero = record { moments = tt; indices = tt }
orderly-range i p a (suc n) =
    elim (cases_eq a p) [
      | inl is ↦ own is
      | inr other ↦ subst IsOrderly (sym (split ∙ ap (λ arrived. arrived ++ at_port p rest) (other-at i p a other))) (orderly-range i p (a + 1) n)
    ]
  where
    rest : List Arrival
    rest = flat_map (arrivals_at i) (range_with_len (a + 1) n)

    split : at_port p (arrivals_at i a ++ rest) ≡ at_port p (arrivals_at i a) ++ at_port p rest
    split = filter-append (λ x. x.port == p) (arrivals_at i a) rest

    own : a ≡ p → IsOrderly (at_port p (arrivals_at i a ++ rest))
    own is =
        let here : at_port p (arrivals_at i a) ≡ arrivals_at i p = ap (λ q. at_port p (arrivals_at i q)) is ∙ own-at i p in
        let none : at_port p rest ≡ [] = none-above i p (a + 1) n (omega (arith, is)) in
        let all : at_port p (arrivals_at i a ++ rest) ≡ arrivals_at i p = split ∙ ap (λ arrived. arrived ++ at_port p rest) here ∙ ap (λ arrived. arrivals_at i p ++ arrived) none ∙ append-nil _ in
        subst IsOrderly (sym all) (orderly-at i p)

captured-only : (arrived : List Arrival) → filter_map arrival_in (map Captured arrived) ≡ arrived
captured-only [] = refl
captured-only (a ∷ arrived) = ap (λ bs. a ∷ bs) (captured-only arrived)

no_command-arrives : (start n : ℕ) (cs : List Given) (xs : List Coming) → filter_map arrival_in (commands_from start n cs ++ xs) ≡ filter_map arrival_in xs
no_command-arrives start n [] xs = refl
no_command-arrives start n (c ∷ cs) xs = no_command-arrives start (suc n) cs xs

pub arrivals-coming : (i : Input) → filter_map arrival_in (all_comings i) ≡ all_arrivals i
arrivals-coming i = no_command-arrives (start_second i) 1 i.commands (map Captured (all_arrivals i)) ∙ captured-only (all_arrivals i)

orderly-coming : (i : Input) (p : ℕ) → IsOrderly (kept p (all_comings i))
unfolding all_arrivals below
orderly-coming i p = subst (λ arrived. IsOrderly (at_port p arrived)) (sym (arrivals-coming i)) (orderly-range i p 0 4160)

-- a port's arrivals rise in what is merged
pub merged-rise : (i : Input) (p : ℕ) → Rise 0 (map (λ a. a.index) (at_port p (filter_map arrival_in (merge i))))
unfolding merge
merged-rise i p =
    let orderly : IsOrderly (kept p (all_comings i)) = orderly-coming i p in
    let P : List Arrival → Type 0 = λ arrived. Rise 0 (map (λ a. a.index) arrived) in
    subst P (sym (by_moment-kept p (all_comings i) orderly.moments)) orderly.indices

-- ---- each has its place in its port's list
get-append : {X : Type 0} (before : List X) (x : X) (rest : List X) → slice_get (before ++ x ∷ rest) (length before) ≡ Some x
get-append [] x rest = refl
get-append (b ∷ bs) x rest = get-append bs x rest

from-numbered : (arrivals : ℕ → List Arrival) (q n least : ℕ) (before : List Arrival) (rs : List Record) → suc (length before) ≡ n →
    arrivals q ≡ before ++ arrivals_from q n least rs → AllByRecursion (IsNumbered arrivals) (arrivals_from q n least rs)
from-numbered arrivals q n least before [] count is = tt
from-numbered arrivals q n least before (r ∷ rs) count is =
    let a : Arrival = record { port = q; index = n; moment = max least r.time; bytes = r.bytes } in
    let here : numbered (arrivals q) n ≡ Some a =
    ap (numbered (arrivals q)) (sym count) ∙ ap (λ arrived. slice_get arrived (length before)) is ∙ get-append before a (arrivals_from q (suc n) (max least r.time) rs) in
    (here, from-numbered arrivals q (suc n) (max least r.time) (before ++ a ∷ []) rs (longer a ∙ ap suc count) (is ∙ sym (append_assoc before (a ∷ []) (arrivals_from q (suc n) (max least r.time) rs))))
  where
    longer : (a : Arrival) → suc (length (before ++ a ∷ [])) ≡ suc (suc (length before))
    longer a = ap suc (omega (arith, length-append before (a ∷ [])))

numbered-at : (i : Input) (q : ℕ) → AllByRecursion (IsNumbered (arrivals_at i)) (arrivals_at i q)
unfolding arrivals_at
numbered-at i q = from-numbered (λ p. arrivals_from p 1 0 (i.records p)) q 1 0 [] (i.records q) refl refl

module _ {X : Type 0} (P : X → Type 0) where
  pub each-append : (xs ys : List X) → AllByRecursion P xs → AllByRecursion P ys → AllByRecursion P (xs ++ ys)
  each-append [] ys all more = more
  each-append (x ∷ xs) ys all more = (all.0, each-append xs ys all.1 more)

numbered-all : (i : Input) (ps : List ℕ) → AllByRecursion (IsNumbered (arrivals_at i)) (flat_map (arrivals_at i) ps)
numbered-all i [] = tt
numbered-all i (p ∷ ps) = each-append (IsNumbered (arrivals_at i)) (arrivals_at i p) (flat_map (arrivals_at i) ps) (numbered-at i p) (numbered-all i ps)

module _ (Q : Arrival → Type 0) where
  put-each : (x : Coming) (ys : List Coming) → AllByRecursion Q (filter_map arrival_in (x ∷ ys)) → AllByRecursion Q (filter_map arrival_in (put_in_order x ys))
  put-each x [] all = all
  put-each x (y ∷ ys) all = by_test (put-each x ys) (nat_lt (moment_of y) (moment_of x))
    where
      swapped : (x y : Coming) (zs : List Coming) → (AllByRecursion Q (filter_map arrival_in (x ∷ ys)) → AllByRecursion Q (filter_map arrival_in zs)) →
          AllByRecursion Q (filter_map arrival_in (x ∷ y ∷ ys)) → AllByRecursion Q (filter_map arrival_in (y ∷ zs))
      swapped (Ordered m n) (Ordered k o) zs more all = more all
      swapped (Ordered m n) (Captured b) zs more all = (all.0, more all.1)
      swapped (Captured a) (Ordered k o) zs more all = more all
      swapped (Captured a) (Captured b) zs more all = (all.1.0, more (all.0, all.1.1))

      by_test : (AllByRecursion Q (filter_map arrival_in (x ∷ ys)) → AllByRecursion Q (filter_map arrival_in (put_in_order x ys))) →
          (b : Bool) → AllByRecursion Q (filter_map arrival_in (cond b (y ∷ put_in_order x ys) (x ∷ y ∷ ys)))
      by_test more true = swapped x y (put_in_order x ys) more all
      by_test more false = all

  by_moment-each : (xs : List Coming) → AllByRecursion Q (filter_map arrival_in xs) → AllByRecursion Q (filter_map arrival_in (by_moment xs))
  by_moment-each [] all = tt
  by_moment-each (Ordered m n ∷ xs) all = put-each (Ordered m n) (by_moment xs) (by_moment-each xs all)
  by_moment-each (Captured a ∷ xs) all = put-each (Captured a) (by_moment xs) (all.0, by_moment-each xs all.1)

  -- of a list of segments together, of each one
  pub of_segments : (ss : List Segment) → AllByRecursion Q (flat_map (λ s. s.arrivals) ss) → AllByRecursion (λ s. AllByRecursion Q s.arrivals) ss
  of_segments [] all = tt
  of_segments (s ∷ ss) all = (left s.arrivals (flat_map (λ s. s.arrivals) ss) all, of_segments ss (right s.arrivals (flat_map (λ s. s.arrivals) ss) all))
    where
      left : (xs ys : List Arrival) → AllByRecursion Q (xs ++ ys) → AllByRecursion Q xs
      left [] ys all = tt
      left (x ∷ xs) ys all = (all.0, left xs ys all.1)

      right : (xs ys : List Arrival) → AllByRecursion Q (xs ++ ys) → AllByRecursion Q ys
      right [] ys all = all
      right (x ∷ xs) ys all = right xs ys all.1

-- ---- what holds of all that comes holds of it in order
pub each_put : (P : Coming → Type 0) (x : Coming) (ys : List Coming) → P x → AllByRecursion P ys → AllByRecursion P (put_in_order x ys)
each_put P x [] k j = (k, tt)
each_put P x (y ∷ ys) k j = by_less (nat_lt (moment_of y) (moment_of x)) (each_put P x ys k j.1)
  where
    by_less : (b : Bool) → AllByRecursion P (put_in_order x ys) → AllByRecursion P (cond b (y ∷ put_in_order x ys) (x ∷ y ∷ ys))
    by_less true rest = (j.0, rest)
    by_less false rest = (k, j)

pub each_sorted : (P : Coming → Type 0) (xs : List Coming) → AllByRecursion P xs → AllByRecursion P (by_moment xs)
each_sorted P [] k = tt
each_sorted P (x ∷ xs) k = each_put P x (by_moment xs) k.0 (each_sorted P xs k.1)

-- in each segment
pub segments-numbered : (m : Mode) (i : Input) → AllByRecursion (λ s. AllByRecursion (IsNumbered (arrivals_at i)) s.arrivals) (segments m i)
unfolding merge all_arrivals
segments-numbered m i =
    let Q : Arrival → Type 0 = IsNumbered (arrivals_at i) in
    let all : AllByRecursion Q (filter_map arrival_in (all_comings i)) = subst (AllByRecursion Q) (sym (arrivals-coming i)) (numbered-all i all_ports) in
    of_segments Q (segments m i) (subst (AllByRecursion Q) (sym (segments-arrivals m i)) (by_moment-each Q (all_comings i) all))
