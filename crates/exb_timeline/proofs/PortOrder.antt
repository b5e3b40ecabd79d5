-- The arrivals of a port in what is merged of an input: they keep the order of its capture.
use Rattle.std.proofs.Common.{◌≡◌, ℕ, suc, zero, ◌+◌, ◌<◌, ◌≤◌, Bool, true, false, cond, ◌==◌, eq-eqb, List, [], ◌∷◌, ◌++◌, filter, map, refl, sym, ap, subst, ◌∙◌, arith, inl, inr}
use Rattle.std.specs.Prelude.{nat_lt, filter_map, flat_map, max}
use Rattle.std.specs.List.{AllByRecursion, range_with_len}
use Rattle.std.proofs.lemmas.List.{append-nil}
use Rattle.std.proofs.lemmas.List.Elements.{filter-append}
use Rattle.std.proofs.lemmas.Bool.{cases_eq, ne_eqb, ltb-true}
use Rattle.exb_model.specs.Ports.{below}
use Rattle.exb_model.specs.declared.arrival.Arrival.{Arrival}
use Rattle.exb_model.specs.Input.{Input, Given, Record, Coming, Ordered, Captured, moment_of, arrivals_from, arrivals_at, all_arrivals, start_second, commands_from, all_comings, put_in_order, by_moment, merge, arrival_in}

abbrev pub at_port : ℕ → List Arrival → List Arrival
at_port p arrived = filter (λ a. a.port == p) arrived

-- ---- what is put in order by moment
module _ (p : ℕ) where
  -- the arrivals of the port
  abbrev pub kept : List Coming → List Arrival
  kept xs = at_port p (filter_map arrival_in xs)

  put-other : (x : Coming) → ((zs : List Coming) → kept (x ∷ zs) ≡ kept zs) → (ys : List Coming) → kept (put_in_order x ys) ≡ kept ys
  put-other x other [] = other []
  put-other x other (y ∷ ys) = by_test (put-other x other ys) (nat_lt (moment_of y) (moment_of x))
    where
      first : (y : Coming) (vs ws : List Coming) → kept vs ≡ kept ws → kept (y ∷ vs) ≡ kept (y ∷ ws)
      first (Ordered moment n) vs ws same = same
      first (Captured a) vs ws same = ap (λ arrived. cond (a.port == p) (a ∷ arrived) arrived) same

      by_test : kept (put_in_order x ys) ≡ kept ys → (b : Bool) → kept (cond b (y ∷ put_in_order x ys) (x ∷ y ∷ ys)) ≡ kept (y ∷ ys)
      by_test rest true = first y (put_in_order x ys) ys rest
      by_test rest false = other (y ∷ ys)

  -- where none of the port's comes before it
  put-own : (a : Arrival) → a.port == p ≡ true → (ys : List Coming) → AllByRecursion (λ b. a.moment ≤ b.moment) (kept ys) → kept (put_in_order (Captured a) ys) ≡ a ∷ kept ys
  put-own a own [] all = rw own refl
  put-own a own (y ∷ ys) all = by_test (put-own a own ys) (nat_lt (moment_of y) a.moment) refl
    where
      here : (zs : List Coming) → kept (Captured a ∷ zs) ≡ a ∷ kept zs
      here zs = rw own refl

      earlier : (y : Coming) → moment_of y < a.moment → AllByRecursion (λ b. a.moment ≤ b.moment) (kept (y ∷ ys)) →
          (AllByRecursion (λ b. a.moment ≤ b.moment) (kept ys) → kept (put_in_order (Captured a) ys) ≡ a ∷ kept ys) → kept (y ∷ put_in_order (Captured a) ys) ≡ a ∷ kept (y ∷ ys)
      earlier (Ordered moment n) before all more = more all
      earlier (Captured b) before all more = by_port (b.port == p) all
        where
          by_port : (same : Bool) → AllByRecursion (λ c. a.moment ≤ c.moment) (cond same (b ∷ kept ys) (kept ys)) →
              cond same (b ∷ kept (put_in_order (Captured a) ys)) (kept (put_in_order (Captured a) ys)) ≡ a ∷ cond same (b ∷ kept ys) (kept ys)
          by_port true all = absurd (omega (arith, all.0))
          by_port false all = more all

      by_test : (AllByRecursion (λ b. a.moment ≤ b.moment) (kept ys) → kept (put_in_order (Captured a) ys) ≡ a ∷ kept ys) →
          (b : Bool) → nat_lt (moment_of y) a.moment ≡ b → kept (cond b (y ∷ put_in_order (Captured a) ys) (Captured a ∷ y ∷ ys)) ≡ a ∷ kept (y ∷ ys)
      by_test more true before = earlier y (ltb-true (moment_of y) a.moment before) all more
      by_test more false after = here (y ∷ ys)

-- by moment, none before those in front of it
abbrev ByMoment : List Arrival → Type 0
ByMoment [] = Unit {0}
ByMoment (a ∷ arrived) = AllByRecursion (λ b. a.moment ≤ b.moment) arrived × ByMoment arrived

-- those of a port that stand by moment stay as they stood
by_moment-kept : (p : ℕ) (xs : List Coming) → ByMoment (kept p xs) → kept p (by_moment xs) ≡ kept p xs
by_moment-kept p [] rising = refl
by_moment-kept p (Ordered moment n ∷ xs) rising = put-other p (Ordered moment n) (λ zs. refl) (by_moment xs) ∙ by_moment-kept p xs rising
by_moment-kept p (Captured a ∷ xs) rising = by_port (a.port == p) refl rising (by_moment-kept p xs)
  where
    by_port : (same : Bool) → a.port == p ≡ same → ByMoment (cond same (a ∷ kept p xs) (kept p xs)) → (ByMoment (kept p xs) → kept p (by_moment xs) ≡ kept p xs) →
        kept p (put_in_order (Captured a) (by_moment xs)) ≡ cond same (a ∷ kept p xs) (kept p xs)
    by_port true is rising more =
        let rest : kept p (by_moment xs) ≡ kept p xs = more rising.1 in
        let P : List Arrival → Type 0 = AllByRecursion (λ b. a.moment ≤ b.moment) in
        put-own p a is (by_moment xs) (subst P (sym rest) rising.0) ∙ ap (λ arrived. a ∷ arrived) rest
    by_port false is rising more = put-other p (Captured a) (λ zs. rw is refl) (by_moment xs) ∙ more rising

-- ---- the arrivals of one capture
from-moments : (q n least : ℕ) (rs : List Record) → AllByRecursion (λ a. least ≤ a.moment) (arrivals_from q n least rs)
from-moments q n least [] = tt
from-moments q n least (r ∷ rs) = (omega arith, lower (arrivals_from q (suc n) (max least r.time) rs) (from-moments q (suc n) (max least r.time) rs))
  where
    lower : (arrived : List Arrival) → AllByRecursion (λ a. max least r.time ≤ a.moment) arrived → AllByRecursion (λ a. least ≤ a.moment) arrived
    lower [] all = tt
    lower (a ∷ arrived) all = (omega (arith, all.0), lower arrived all.1)

from-by_moment : (q n least : ℕ) (rs : List Record) → ByMoment (arrivals_from q n least rs)
from-by_moment q n least [] = tt
from-by_moment q n least (r ∷ rs) = (from-moments q (suc n) (max least r.time) rs, from-by_moment q (suc n) (max least r.time) rs)

from-own : (p n least : ℕ) (rs : List Record) → at_port p (arrivals_from p n least rs) ≡ arrivals_from p n least rs
from-own p n least [] = refl
from-own p n least (r ∷ rs) = rw (eq-eqb p p refl) (ap (λ arrived. record { port = p; index = n; moment = max least r.time; bytes = r.bytes } ∷ arrived) (from-own p (suc n) (max least r.time) rs))

from-other : (p q n least : ℕ) (rs : List Record) → q == p ≡ false → at_port p (arrivals_from q n least rs) ≡ []
from-other p q n least [] other = refl
from-other p q n least (r ∷ rs) other = rw other (from-other p q (suc n) (max least r.time) rs other)

-- ---- the arrivals of one port among all
own-at : (i : Input) (p : ℕ) → at_port p (arrivals_at i p) ≡ arrivals_at i p
unfolding arrivals_at
own-at i p = from-own p 1 0 (i.records p)

other-at : (i : Input) (p q : ℕ) → (q ≡ p → ⊥) → at_port p (arrivals_at i q) ≡ []
unfolding arrivals_at
other-at i p q other = from-other p q 1 0 (i.records q) (ne_eqb q p other)

none-above : (i : Input) (p a n : ℕ) → p < a → at_port p (flat_map (arrivals_at i) (range_with_len a n)) ≡ []
none-above i p a zero h = refl
none-above i p a (suc n) h =
    filter-append (λ x. x.port == p) (arrivals_at i a) (flat_map (arrivals_at i) (range_with_len (a + 1) n))
    ∙ ap (λ arrived. arrived ++ at_port p (flat_map (arrivals_at i) (range_with_len (a + 1) n))) (other-at i p a (λ e. omega arith))
    ∙ none-above i p (a + 1) n (omega arith)

none-below : (i : Input) (p a n : ℕ) → a + n ≤ p → at_port p (flat_map (arrivals_at i) (range_with_len a n)) ≡ []
none-below i p a zero h = refl
none-below i p a (suc n) h =
    filter-append (λ x. x.port == p) (arrivals_at i a) (flat_map (arrivals_at i) (range_with_len (a + 1) n))
    ∙ ap (λ arrived. arrived ++ at_port p (flat_map (arrivals_at i) (range_with_len (a + 1) n))) (other-at i p a (λ e. omega (arith, h, e)))
    ∙ none-below i p (a + 1) n (omega (arith, h))

own-among : (i : Input) (p a n : ℕ) → a ≤ p → p < a + n → at_port p (flat_map (arrivals_at i) (range_with_len a n)) ≡ arrivals_at i p
own-among i p a zero low high = absurd (omega (arith, low, high))
own-among i p a (suc n) low high =
    elim (cases_eq a p) [
      | inl is ↦
          split ∙ ap (λ arrived. arrived ++ at_port p rest) (ap (λ q. at_port p (arrivals_at i q)) is ∙ own-at i p)
          ∙ ap (λ arrived. arrivals_at i p ++ arrived) (none-above i p (a + 1) n (omega (arith, is))) ∙ append-nil (arrivals_at i p)
      | inr other ↦ split ∙ ap (λ arrived. arrived ++ at_port p rest) (other-at i p a other) ∙ own-among i p (a + 1) n (omega (arith, low, other)) (omega (arith, high))
    ]
  where
    rest : List Arrival
    rest = flat_map (arrivals_at i) (range_with_len (a + 1) n)

    split : at_port p (arrivals_at i a ++ rest) ≡ at_port p (arrivals_at i a) ++ at_port p rest
    split = filter-append (λ x. x.port == p) (arrivals_at i a) rest

captured-only : (arrived : List Arrival) → filter_map arrival_in (map Captured arrived) ≡ arrived
captured-only [] = refl
captured-only (a ∷ arrived) = ap (λ bs. a ∷ bs) (captured-only arrived)

no_command-arrives : (start n : ℕ) (cs : List Given) (xs : List Coming) → filter_map arrival_in (commands_from start n cs ++ xs) ≡ filter_map arrival_in xs
no_command-arrives start n [] xs = refl
no_command-arrives start n (c ∷ cs) xs = no_command-arrives start (suc n) cs xs

kept-coming : (i : Input) (p : ℕ) → kept p (all_comings i) ≡ at_port p (all_arrivals i)
kept-coming i p = ap (at_port p) (no_command-arrives (start_second i) 1 i.commands (map Captured (all_arrivals i)) ∙ captured-only (all_arrivals i))

own-coming : (i : Input) (p : ℕ) → p < 4160 → kept p (all_comings i) ≡ arrivals_at i p
unfolding all_arrivals below
own-coming i p low = kept-coming i p ∙ own-among i p 0 4160 (omega arith) (omega (arith, low))

at-by_moment : (i : Input) (p : ℕ) → ByMoment (arrivals_at i p)
unfolding arrivals_at
at-by_moment i p = from-by_moment p 1 0 (i.records p)

-- the arrivals of a port in what is merged are those of its capture
pub merged-at : (i : Input) (p : ℕ) → p < 4160 → at_port p (filter_map arrival_in (merge i)) ≡ arrivals_at i p
unfolding merge
merged-at i p low =
    let own = own-coming i p low in
    by_moment-kept p (all_comings i) (subst ByMoment (sym own) (at-by_moment i p)) ∙ own

none-coming : (i : Input) (p : ℕ) → 4160 ≤ p → kept p (all_comings i) ≡ []
unfolding all_arrivals below
none-coming i p high = kept-coming i p ∙ none-below i p 0 4160 (omega (arith, high))

-- and none is of what is no port
pub merged-none : (i : Input) (p : ℕ) → 4160 ≤ p → at_port p (filter_map arrival_in (merge i)) ≡ []
unfolding merge
merged-none i p high =
    let none = none-coming i p high in
    by_moment-kept p (all_comings i) (subst ByMoment (sym none) tt) ∙ none
