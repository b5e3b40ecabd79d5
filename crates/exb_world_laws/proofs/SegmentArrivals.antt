-- The segments of an input have each of its arrivals once. So where all of them came, and those of a port by rising index, they are
-- the arrivals of that port.
use Rattle.std.proofs.Common.{◌≡◌, ℕ, zero, suc, ◌+◌, ◌*◌, ◌<◌, ◌≤◌, ◌++◌, nat_lt, ◌==◌, Bool, true, false, cond, List, [], ◌∷◌, length, map, filter, Some, refl, ap, sym, ◌∙◌, subst, arith, inl, inr, append_assoc, length-append}
use Rattle.std.specs.Prelude.{filter_map, flat_map, slice_get, sum_by, max, All, IsPermutation}
use Rattle.std.specs.List.{range_with_len}
use Rattle.std.proofs.lemmas.Bool.{cases_eq, eq-eqb, ne_eqb}
use Rattle.std.proofs.lemmas.List.Elements.{All-cons, All-nil, All-head, All-tail, filter_map-append}
use Rattle.std.proofs.lemmas.List.Sorted.{IsPermutation-sym, All-permutation, sum_by-IsPermutation}
use Rattle.std.proofs.lemmas.List.Sums.{length-filter, sum_by-append, sum_by-cons}
use Rattle.exb_model.specs.declared.arrival.Arrival.{Arrival}
use Rattle.exb_model.specs.Input.{Input, Record, Given, Coming, Ordered, Captured, Group, Segment, Mode, arrivals_from, arrivals_at, all_arrivals, start_second, moment_of, commands_from, all_comings, put_in_order, by_moment, merge, groups_in, arrival_in, segments_since, segments_in, segments}
use Rattle.exb_model.specs.Lists.{numbered}
use Rattle.exb_model.specs.Ports.{below}
use Rattle.exb_flight.specs.Items.{Each}
use Rattle.exb_world_laws.specs.WorldInput.{indices_of}
use Rattle.exb_world_laws.proofs.InputOrder.{IsNumberedIn, get_last, grouped_all, segments_numbered}

-- ---- counting arrivals
-- so many arrivals are of port p
abbrev of_one : ℕ → Arrival → ℕ
of_one p a = cond (a.port == p) 1 0

-- each thing that comes counts as its arrival
abbrev in_coming : (Arrival → ℕ) → Coming → ℕ
in_coming f (Ordered moment n) = 0
in_coming f (Captured a) = f a

module _ (f : Arrival → ℕ) where
  of_comings : (xs : List Coming) → sum_by f (filter_map arrival_in xs) ≡ sum_by (in_coming f) xs
  of_comings [] = refl
  of_comings (Ordered moment n ∷ xs) = (let s = sum_by-cons (in_coming f) (Ordered moment n) xs in let r = of_comings xs in omega (arith, s, r))
  of_comings (Captured a ∷ xs) = (let s = sum_by-cons (in_coming f) (Captured a) xs in let z = sum_by-cons f a (filter_map arrival_in xs) in let r = of_comings xs in omega (arith, s, z, r))

  of_put : (x : Coming) (ys : List Coming) → sum_by (in_coming f) (put_in_order x ys) ≡ in_coming f x + sum_by (in_coming f) ys
  of_put x [] = sum_by-cons (in_coming f) x []
  of_put x (y ∷ ys) = by_less (nat_lt (moment_of y) (moment_of x)) (of_put x ys)
    where
      by_less : (b : Bool) → sum_by (in_coming f) (put_in_order x ys) ≡ in_coming f x + sum_by (in_coming f) ys → sum_by (in_coming f) (cond b (y ∷ put_in_order x ys) (x ∷ y ∷ ys)) ≡ in_coming f x + sum_by (in_coming f) (y ∷ ys)
      by_less true rest = (let a = sum_by-cons (in_coming f) y (put_in_order x ys) in let b = sum_by-cons (in_coming f) y ys in omega (arith, a, b, rest))
      by_less false rest = sum_by-cons (in_coming f) x (y ∷ ys)

  of_sorted : (xs : List Coming) → sum_by (in_coming f) (by_moment xs) ≡ sum_by (in_coming f) xs
  of_sorted [] = refl
  of_sorted (x ∷ xs) = (let a = of_put x (by_moment xs) in let b = sum_by-cons (in_coming f) x xs in let r = of_sorted xs in omega (arith, a, b, r))

  of_commands : (start n : ℕ) (cs : List Given) → sum_by (in_coming f) (commands_from start n cs) ≡ 0
  of_commands start n [] = refl
  of_commands start n (c ∷ cs) = (let s = sum_by-cons (in_coming f) (Ordered ((start + c.at) * 1000000000) n) (commands_from start (suc n) cs) in let r = of_commands start (suc n) cs in omega (arith, s, r))

  of_captured : (given : List Arrival) → sum_by (in_coming f) (map Captured given) ≡ sum_by f given
  of_captured [] = refl
  of_captured (a ∷ given) = (let s = sum_by-cons (in_coming f) (Captured a) (map Captured given) in let z = sum_by-cons f a given in let r = of_captured given in omega (arith, s, z, r))

  of_merge : (i : Input) → sum_by (in_coming f) (merge i) ≡ sum_by f (all_arrivals i)
  unfolding merge
  of_merge i =
      let cs : List Coming = commands_from (start_second i) 1 i.commands in
      let s = sum_by-append (in_coming f) cs (map Captured (all_arrivals i)) in
      let a = of_sorted (all_comings i) in
      let b = of_commands (start_second i) 1 i.commands in
      let c = of_captured (all_arrivals i) in
      omega (arith, s, a, b, c)

-- ---- the segments
arrivals_since : (second : ℕ) (gs : List Group) → flat_map (λ (s : Segment). s.arrivals) (segments_since second gs) ≡ filter_map arrival_in (flat_map (λ (g : Group). g.comings) gs)
arrivals_since second [] = refl
arrivals_since second (g ∷ gs) =
    ap (λ (given : List Arrival). filter_map arrival_in g.comings ++ given) (arrivals_since g.second gs) ∙ sym (filter_map-append arrival_in g.comings (flat_map (λ (z : Group). z.comings) gs))

-- the arrivals of all segments, in the order in which they come
arrivals_in_order : (m : Mode) (i : Input) → flat_map (λ (s : Segment). s.arrivals) (segments m i) ≡ filter_map arrival_in (merge i)
unfolding segments
arrivals_in_order m i = in_all (groups_in m (merge i)) ∙ ap (filter_map arrival_in) (grouped_all m (merge i))
  where
    in_all : (gs : List Group) → flat_map (λ (s : Segment). s.arrivals) (segments_in gs) ≡ filter_map arrival_in (flat_map (λ (g : Group). g.comings) gs)
    in_all [] = refl
    in_all (g ∷ gs) = arrivals_since g.second (g ∷ gs)

-- ---- of one port
from_port : (p q n least : ℕ) (rs : List Record) → sum_by (of_one p) (arrivals_from q n least rs) ≡ cond (q == p) (length (arrivals_from q n least rs)) 0
from_port p q n least [] = by_flag (q == p)
  where
    by_flag : (b : Bool) → sum_by (of_one p) [] ≡ cond b 0 0
    by_flag true = refl
    by_flag false = refl
from_port p q n least (r ∷ rs) =
    let a : Arrival = record { port = q; index = n; moment = max least r.time; bytes = r.bytes } in
    let sums = sum_by-cons (of_one p) a (arrivals_from q (suc n) (max least r.time) rs) in
    by_flag (q == p) (length (arrivals_from q (suc n) (max least r.time) rs)) (sums ∙ ap (λ (k : ℕ). cond (q == p) 1 0 + k) (from_port p q (suc n) (max least r.time) rs))
  where
    by_flag : (b : Bool) (k : ℕ) {s : ℕ} → s ≡ cond b 1 0 + cond b k 0 → s ≡ cond b (suc k) 0
    by_flag true k e = omega (arith, e)
    by_flag false k e = omega (arith, e)

at_port : (i : Input) (p q : ℕ) → sum_by (of_one p) (arrivals_at i q) ≡ cond (q == p) (length (arrivals_at i q)) 0
unfolding arrivals_at
at_port i p q = from_port p q 1 0 (i.records q)

past_port : (i : Input) (p a n : ℕ) → p < a → sum_by (of_one p) (flat_map (arrivals_at i) (range_with_len a n)) ≡ 0
past_port i p a zero past = refl
past_port i p a (suc n) past =
    let sums = sum_by-append (of_one p) (arrivals_at i a) (flat_map (arrivals_at i) (range_with_len (a + 1) n)) in
    let none : sum_by (of_one p) (arrivals_at i a) ≡ 0 = at_port i p a ∙ ap (λ (b : Bool). cond b (length (arrivals_at i a)) 0) (ne_eqb a p (λ e. omega (arith, past, e))) in
    let rest = past_port i p (a + 1) n (omega (arith, past)) in
    omega (arith, sums, none, rest)

in_range : (i : Input) (p a n : ℕ) → a ≤ p → p < a + n → sum_by (of_one p) (flat_map (arrivals_at i) (range_with_len a n)) ≡ length (arrivals_at i p)
in_range i p a zero low high = absurd (omega (arith, low, high))
in_range i p a (suc n) low high =
    let sums = sum_by-append (of_one p) (arrivals_at i a) (flat_map (arrivals_at i) (range_with_len (a + 1) n)) in
    elim (cases_eq a p) [
      | inl e ↦
          let mine : sum_by (of_one p) (arrivals_at i a) ≡ length (arrivals_at i p) = at_port i p a ∙ (ap (λ (b : Bool). cond b (length (arrivals_at i a)) 0) (eq-eqb a p e) ∙ ap (λ (q : ℕ). length (arrivals_at i q)) e) in
          let rest = past_port i p (a + 1) n (omega (arith, e)) in
          omega (arith, sums, mine, rest)
      | inr e ↦
          let none : sum_by (of_one p) (arrivals_at i a) ≡ 0 = at_port i p a ∙ ap (λ (b : Bool). cond b (length (arrivals_at i a)) 0) (ne_eqb a p e) in
          let rest = in_range i p (a + 1) n (omega (arith, low, e)) (omega (arith, high)) in
          omega (arith, sums, none, rest)
    ]

below_is : (n : ℕ) → below n ≡ range_with_len 0 n
unfolding below
below_is n = refl

of_ports : (i : Input) (p n : ℕ) → p < n → sum_by (of_one p) (flat_map (arrivals_at i) (below n)) ≡ length (arrivals_at i p)
of_ports i p n low = ap (λ (ps : List ℕ). sum_by (of_one p) (flat_map (arrivals_at i) ps)) (below_is n) ∙ in_range i p 0 n (omega arith) (omega (arith, low))

in_all_arrivals : (i : Input) (p : ℕ) → p < 4160 → sum_by (of_one p) (all_arrivals i) ≡ length (arrivals_at i p)
unfolding all_arrivals
in_all_arrivals i p low = of_ports i p 4160 low

-- ---- all came
-- Arrivals with the indices from one on, each of which is that of the input with its index, are all of a port where they are as many.
are_all : (whole pre rest given : List Arrival) → whole ≡ pre ++ rest → indices_of given ≡ range_with_len (length pre + 1) (length given) → All (λ (a : Arrival). numbered whole a.index ≡ Some a) given → length rest ≡ length given → given ≡ rest
are_all whole pre [] [] is rises all size = refl
are_all whole pre [] (a ∷ given) is rises all size = absurd (omega (arith, size))
are_all whole pre (r ∷ rest) [] is rises all size = absurd (omega (arith, size))
are_all whole pre (r ∷ rest) (a ∷ given) is rises all size =
    let at : a.index ≡ suc (length pre) = (let e : a.index ≡ length pre + 1 = heads rises in omega (arith, e)) in
    let here : slice_get whole (length pre) ≡ Some a = ap (numbered whole) (sym at) ∙ All-head (λ (x : Arrival). numbered whole x.index ≡ Some x) a given all in
    let found : slice_get whole (length pre) ≡ Some r = ap (λ (xs : List Arrival). slice_get xs (length pre)) is ∙ get_last pre r rest in
    let same : a ≡ r = some_same (sym here ∙ found) in
    let longer : length (pre ++ r ∷ []) + 1 ≡ (length pre + 1) + 1 = (let z = length-append pre (r ∷ []) in omega (arith, z)) in
    let more = are_all whole (pre ++ r ∷ []) rest given (is ∙ sym (append_assoc pre (r ∷ []) rest)) (tails rises ∙ ap (λ (n : ℕ). range_with_len n (length given)) (sym longer)) (All-tail (λ (x : Arrival). numbered whole x.index ≡ Some x) a given all) (omega (arith, size)) in
    ap (λ (x : Arrival). x ∷ given) same ∙ ap (λ (xs : List Arrival). r ∷ xs) more
  where
    heads : {x y : ℕ} {xs ys : List ℕ} → x ∷ xs ≡ y ∷ ys → x ≡ y
    heads z = cc

    tails : {x y : ℕ} {xs ys : List ℕ} → x ∷ xs ≡ y ∷ ys → xs ≡ ys
    tails z = cc

    some_same : {x y : Arrival} → Some x ≡ Some y → x ≡ y
    some_same z = cc

all_in : (P : Arrival → Type 0) (given : List Arrival) → Each P given → All P given
all_in P [] k = All-nil P
all_in P (a ∷ given) k = All-cons P a given k.0 (all_in P given k.1)

each_joined : (P : Arrival → Type 0) (xs ys : List Arrival) → Each P xs → Each P ys → Each P (xs ++ ys)
each_joined P [] ys k j = j
each_joined P (x ∷ xs) ys k j = (k.0, each_joined P xs ys k.1 j)

in_segments : (P : Arrival → Type 0) (ss : List Segment) → Each (λ (s : Segment). Each P s.arrivals) ss → Each P (flat_map (λ (s : Segment). s.arrivals) ss)
in_segments P [] k = tt
in_segments P (s ∷ ss) k = each_joined P s.arrivals (flat_map (λ (z : Segment). z.arrivals) ss) k.0 (in_segments P ss k.1)

of_port : (i : Input) (p : ℕ) (given : List Arrival) → All (IsNumberedIn i) given → All (λ (a : Arrival). numbered (arrivals_at i p) a.index ≡ Some a) (filter (λ (a : Arrival). a.port == p) given)
of_port i p [] all = All-nil (λ (a : Arrival). numbered (arrivals_at i p) a.index ≡ Some a)
of_port i p (a ∷ given) all =
    let rest = of_port i p given (All-tail (IsNumberedIn i) a given all) in
    elim (cases_eq a.port p) [
      | inl e ↦ rw (eq-eqb a.port p e)
          (All-cons (λ (x : Arrival). numbered (arrivals_at i p) x.index ≡ Some x) a (filter (λ (x : Arrival). x.port == p) given) (subst (λ (q : ℕ). numbered (arrivals_at i q) a.index ≡ Some a) e (All-head (IsNumberedIn i) a given all)) rest)
      | inr e ↦ rw (ne_eqb a.port p e) rest
    ]

pub all_came : (m : Mode) (i : Input) (p : ℕ) (given : List Arrival) → p < 4160 → IsPermutation given (flat_map (λ (s : Segment). s.arrivals) (segments m i)) →
    let its = filter (λ (a : Arrival). a.port == p) given in indices_of its ≡ range_with_len 1 (length its) → its ≡ arrivals_at i p
all_came m i p given low perm rises =
    let its : List Arrival = filter (λ (a : Arrival). a.port == p) given in
    let came : List Arrival = flat_map (λ (s : Segment). s.arrivals) (segments m i) in
    let all : All (IsNumberedIn i) given = All-permutation (IsNumberedIn i) came given (IsPermutation-sym given came perm) (all_in (IsNumberedIn i) came (in_segments (IsNumberedIn i) (segments m i) (segments_numbered m i))) in
    let a = length-filter (λ (x : Arrival). x.port == p) given in
    let b = sum_by-IsPermutation (of_one p) given came perm in
    let c = ap (sum_by (of_one p)) (arrivals_in_order m i) ∙ (of_comings (of_one p) (merge i) ∙ (of_merge (of_one p) i ∙ in_all_arrivals i p low)) in
    are_all (arrivals_at i p) [] (arrivals_at i p) its refl rises (of_port i p given all) (omega (arith, a, b, c))
