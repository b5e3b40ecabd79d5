-- The segments of an input: its arrivals have the numbers by which they are found, and its commands come in the order of the file.
use Rattle.std.proofs.Common.{◌≡◌, ℕ, suc, ◌+◌, ◌*◌, ◌<◌, ◌≤◌, ◌++◌, nat_lt, ◌==◌, Bool, true, false, cond, List, [], ◌∷◌, length, map, Some, refl, ap, sym, ◌∙◌, subst, arith, inl, inr, length-append, append_assoc}
use Rattle.std.specs.Prelude.{slice_index_or, filter_map, flat_map, slice_get, max, AllPairs}
use Rattle.std.specs.List.{range_with_len}
use Rattle.std.proofs.lemmas.Bool.{cases_Bool, ltb-true}
use Rattle.std.proofs.lemmas.List.Elements.{filter_map-append}
use Rattle.exb_model.specs.declared.arrival.Arrival.{Arrival}
use Rattle.exb_model.specs.Input.{Input, Record, Given, Coming, Ordered, Captured, Group, Segment, Mode, Eager, Seeded, arrivals_from, arrivals_at, all_arrivals, second_of, start_second, moment_of, commands_from, all_comings, put_in_order, by_moment, merge, alone, joined, groups_in, number_in, arrival_in, segments_since, segments_in, segments}
use Rattle.exb_model.specs.Lists.{numbered}
use Rattle.exb_flight.specs.Items.{Each}
use Rattle.exb_world_laws.specs.SegmentRuns.{IsTimely}

-- ---- arrivals
-- the arrival is that of its port with its index
abbrev pub IsNumberedIn : Input → Arrival → Type 0
IsNumberedIn i a = numbered (arrivals_at i a.port) a.index ≡ Some a

pub get_last : (pre : List Arrival) (x : Arrival) (ys : List Arrival) → slice_get (pre ++ x ∷ ys) (length pre) ≡ Some x
get_last [] x ys = refl
get_last (y ∷ pre) x ys = get_last pre x ys

numbered_from : (p n : ℕ) (whole pre : List Arrival) (least : ℕ) (rs : List Record) → n ≡ length pre → whole ≡ pre ++ arrivals_from p (suc n) least rs →
    Each (λ (a : Arrival). (a.port ≡ p) × (numbered whole a.index ≡ Some a)) (arrivals_from p (suc n) least rs)
numbered_from p n whole pre least [] size is = tt
numbered_from p n whole pre least (r ∷ rs) size is =
    let a : Arrival = record { port = p; index = suc n; moment = max least r.time; bytes = r.bytes } in
    let rest : List Arrival = arrivals_from p (suc (suc n)) (max least r.time) rs in
    let here : slice_get whole n ≡ Some a = ap (slice_get whole) size ∙ (ap (λ (xs : List Arrival). slice_get xs (length pre)) is ∙ get_last pre a rest) in
    let longer : suc n ≡ length (pre ++ a ∷ []) = (let e = length-append pre (a ∷ []) in omega (arith, e, size)) in
    ((refl, here), numbered_from p (suc n) whole (pre ++ a ∷ []) (max least r.time) rs longer (is ∙ sym (append_assoc pre (a ∷ []) rest)))

each_weaker : {A : Type 0} (P Q : A → Type 0) (xs : List A) → ((x : A) → P x → Q x) → Each P xs → Each Q xs
each_weaker P Q [] f k = tt
each_weaker P Q (x ∷ xs) f k = (f x k.0, each_weaker P Q xs f k.1)

each_both : {A : Type 0} (P : A → Type 0) (xs ys : List A) → Each P xs → Each P ys → Each P (xs ++ ys)
each_both P [] ys k j = j
each_both P (x ∷ xs) ys k j = (k.0, each_both P xs ys k.1 j)

each_flat : {A B : Type 0} (P : B → Type 0) (f : A → List B) (xs : List A) → ((x : A) → Each P (f x)) → Each P (flat_map f xs)
each_flat P f [] all = tt
each_flat P f (x ∷ xs) all = each_both P (f x) (flat_map f xs) (all x) (each_flat P f xs all)

port_numbered : (i : Input) (p : ℕ) → Each (IsNumberedIn i) (arrivals_at i p)
unfolding arrivals_at
port_numbered i p =
    each_weaker (λ (a : Arrival). (a.port ≡ p) × (numbered (arrivals_from p 1 0 (i.records p)) a.index ≡ Some a)) (IsNumberedIn i) (arrivals_from p 1 0 (i.records p))
    (λ a k. subst (λ (q : ℕ). numbered (arrivals_from q 1 0 (i.records q)) a.index ≡ Some a) (sym k.0) k.1)
    (numbered_from p 0 (arrivals_from p 1 0 (i.records p)) [] 0 (i.records p) refl refl)

all_numbered : (i : Input) → Each (IsNumberedIn i) (all_arrivals i)
unfolding all_arrivals
all_numbered i = each_flat (IsNumberedIn i) (arrivals_at i) _ (port_numbered i)

-- ---- what comes
abbrev IsOfArrival : (Arrival → Type 0) → Coming → Type 0
IsOfArrival P (Ordered moment n) = Unit {0}
IsOfArrival P (Captured a) = P a

of_commands : (P : Arrival → Type 0) (start n : ℕ) (cs : List Given) → Each (IsOfArrival P) (commands_from start n cs)
of_commands P start n [] = tt
of_commands P start n (c ∷ cs) = (tt, of_commands P start (suc n) cs)

of_arrivals : (P : Arrival → Type 0) (xs : List Arrival) → Each P xs → Each (IsOfArrival P) (map Captured xs)
of_arrivals P [] k = tt
of_arrivals P (x ∷ xs) k = (k.0, of_arrivals P xs k.1)

each_put : (P : Coming → Type 0) (x : Coming) (ys : List Coming) → P x → Each P ys → Each P (put_in_order x ys)
each_put P x [] k j = (k, tt)
each_put P x (y ∷ ys) k j = by_less (nat_lt (moment_of y) (moment_of x)) (each_put P x ys k j.1)
  where
    by_less : (b : Bool) → Each P (put_in_order x ys) → Each P (cond b (y ∷ put_in_order x ys) (x ∷ y ∷ ys))
    by_less true rest = (j.0, rest)
    by_less false rest = (k, j)

each_sorted : (P : Coming → Type 0) (xs : List Coming) → Each P xs → Each P (by_moment xs)
each_sorted P [] k = tt
each_sorted P (x ∷ xs) k = each_put P x (by_moment xs) k.0 (each_sorted P xs k.1)

each_joined : (P : Coming → Type 0) (x : Coming) (gs : List Group) → P x → Each (λ (g : Group). Each P g.comings) gs → Each (λ (g : Group). Each P g.comings) (joined x gs)
each_joined P x [] k j = ((k, tt), tt)
each_joined P x (g ∷ gs) k j = by_same (second_of (moment_of x) == g.second)
  where
    by_same : (b : Bool) → Each (λ (z : Group). Each P z.comings) (cond b (record g { comings = x ∷ g.comings } ∷ gs) (alone x ∷ g ∷ gs))
    by_same true = ((k, j.0), j.1)
    by_same false = ((k, tt), j)

each_group : (P : Coming → Type 0) (m : Mode) (xs : List Coming) → Each P xs → Each (λ (g : Group). Each P g.comings) (groups_in m xs)
each_group P Eager [] k = tt
each_group P Eager (x ∷ xs) k = ((k.0, tt), each_group P Eager xs k.1)
each_group P Seeded [] k = tt
each_group P Seeded (x ∷ xs) k = each_joined P x (groups_in Seeded xs) k.0 (each_group P Seeded xs k.1)

arrivals_of : (P : Arrival → Type 0) (xs : List Coming) → Each (IsOfArrival P) xs → Each P (filter_map arrival_in xs)
arrivals_of P [] k = tt
arrivals_of P (Ordered moment n ∷ xs) k = arrivals_of P xs k.1
arrivals_of P (Captured a ∷ xs) k = (k.0, arrivals_of P xs k.1)

each_segment : (P : Arrival → Type 0) (second : ℕ) (gs : List Group) → Each (λ (g : Group). Each (IsOfArrival P) g.comings) gs → Each (λ (s : Segment). Each P s.arrivals) (segments_since second gs)
each_segment P second [] k = tt
each_segment P second (g ∷ gs) k = (arrivals_of P g.comings k.0, each_segment P g.second gs k.1)

-- each arrival of a segment is one of the input
pub segments_numbered : (m : Mode) (i : Input) → Each (λ (s : Segment). Each (IsNumberedIn i) s.arrivals) (segments m i)
unfolding segments merge
segments_numbered m i = in_all (groups_in m (by_moment (all_comings i))) groups
  where
    comings : Each (IsOfArrival (IsNumberedIn i)) (all_comings i)
    comings = each_both (IsOfArrival (IsNumberedIn i)) (commands_from (start_second i) 1 i.commands) (map Captured (all_arrivals i)) (of_commands (IsNumberedIn i) (start_second i) 1 i.commands) (of_arrivals (IsNumberedIn i) (all_arrivals i) (all_numbered i))

    groups : Each (λ (g : Group). Each (IsOfArrival (IsNumberedIn i)) g.comings) (groups_in m (by_moment (all_comings i)))
    groups = each_group (IsOfArrival (IsNumberedIn i)) m (by_moment (all_comings i)) (each_sorted (IsOfArrival (IsNumberedIn i)) (all_comings i) comings)

    in_all : (gs : List Group) → Each (λ (g : Group). Each (IsOfArrival (IsNumberedIn i)) g.comings) gs → Each (λ (s : Segment). Each (IsNumberedIn i) s.arrivals) (segments_in gs)
    in_all [] k = tt
    in_all (g ∷ gs) k = each_segment (IsNumberedIn i) g.second (g ∷ gs) k

-- ---- commands
-- an arrival, or a command that comes no earlier
abbrev IsAfter : ℕ → Coming → Type 0
IsAfter moment (Ordered k n) = moment ≤ k
IsAfter moment (Captured a) = Unit {0}

captured_after : (moment : ℕ) (xs : List Arrival) → Each (IsAfter moment) (map Captured xs)
captured_after moment [] = tt
captured_after moment (x ∷ xs) = (tt, captured_after moment xs)

commands_after : (start at n : ℕ) (cs : List Given) → Each (λ (c : Given). at ≤ c.at) cs → Each (IsAfter ((start + at) * 1000000000)) (commands_from start n cs)
commands_after start at n [] k = tt
commands_after start at n (c ∷ cs) k = ((let e = k.0 in omega (arith, e)), commands_after start at (suc n) cs k.1)

put_captured : (a : Arrival) (ys : List Coming) → filter_map number_in (put_in_order (Captured a) ys) ≡ filter_map number_in ys
put_captured a [] = refl
put_captured a (y ∷ ys) = by_less y (nat_lt (moment_of y) a.moment) (put_captured a ys)
  where
    by_less : (y : Coming) (b : Bool) → filter_map number_in (put_in_order (Captured a) ys) ≡ filter_map number_in ys → filter_map number_in (cond b (y ∷ put_in_order (Captured a) ys) (Captured a ∷ y ∷ ys)) ≡ filter_map number_in (y ∷ ys)
    by_less (Ordered k n) true rest = ap (λ (ns : List ℕ). n ∷ ns) rest
    by_less (Captured b) true rest = rest
    by_less y false rest = refl

put_command : (moment n : ℕ) (ys : List Coming) → Each (IsAfter moment) ys → filter_map number_in (put_in_order (Ordered moment n) ys) ≡ n ∷ filter_map number_in ys
put_command moment n [] k = refl
put_command moment n (Captured a ∷ ys) k = by_less (nat_lt a.moment moment) (put_command moment n ys k.1)
  where
    by_less : (b : Bool) → filter_map number_in (put_in_order (Ordered moment n) ys) ≡ n ∷ filter_map number_in ys →
        filter_map number_in (cond b (Captured a ∷ put_in_order (Ordered moment n) ys) (Ordered moment n ∷ Captured a ∷ ys)) ≡ n ∷ filter_map number_in ys
    by_less true rest = rest
    by_less false rest = refl
put_command moment n (Ordered at j ∷ ys) k =
    elim (cases_Bool (nat_lt at moment)) [
      | inl less ↦ absurd (let e = ltb-true at moment less in let g = k.0 in omega (arith, e, g))
      | inr not ↦ rw not refl
    ]

sorted_captured : (xs : List Arrival) → filter_map number_in (by_moment (map Captured xs)) ≡ []
sorted_captured [] = refl
sorted_captured (x ∷ xs) = put_captured x (by_moment (map Captured xs)) ∙ sorted_captured xs

sorted_commands : (start n : ℕ) (cs : List Given) (xs : List Arrival) → AllPairs (λ (c d : Given). c.at ≤ d.at) cs → filter_map number_in (by_moment (commands_from start n cs ++ map Captured xs)) ≡ range_with_len n (length cs)
sorted_commands start n [] xs k = sorted_captured xs
sorted_commands start n (c ∷ cs) xs k =
    let moment : ℕ = (start + c.at) * 1000000000 in
    let later : Each (IsAfter moment) (by_moment (commands_from start (suc n) cs ++ map Captured xs)) =
    each_sorted (IsAfter moment) (commands_from start (suc n) cs ++ map Captured xs)
    (each_both (IsAfter moment) (commands_from start (suc n) cs) (map Captured xs) (commands_after start c.at (suc n) cs (first_least cs (λ j d h. k 0 (suc j) d (omega arith) (omega (arith, h))))) (captured_after moment xs))
    in
    put_command moment n (by_moment (commands_from start (suc n) cs ++ map Captured xs)) later
    ∙ ap (λ (ns : List ℕ). n ∷ ns) (sorted_commands start (suc n) cs xs (λ a b d x y. k (suc a) (suc b) d (omega (arith, x)) (omega (arith, y))) ∙ ap (λ (m : ℕ). range_with_len m (length cs)) (next n))
  where
    next : (m : ℕ) → suc m ≡ m + 1
    next m = omega arith

    first_least : (ds : List Given) → ((j : ℕ) (d : Given) → j < length ds → c.at ≤ (slice_index_or ds j d).at) → Each (λ (d : Given). c.at ≤ d.at) ds
    first_least [] all = tt
    first_least (d ∷ ds) all = (all 0 d (omega arith), first_least ds (λ j e h. all (suc j) e (omega (arith, h))))

-- ---- groups go through what comes in order
joined_all : (x : Coming) (gs : List Group) → flat_map (λ (g : Group). g.comings) (joined x gs) ≡ x ∷ flat_map (λ (g : Group). g.comings) gs
joined_all x [] = refl
joined_all x (g ∷ gs) = by_same (second_of (moment_of x) == g.second)
  where
    by_same : (b : Bool) → flat_map (λ (z : Group). z.comings) (cond b (record g { comings = x ∷ g.comings } ∷ gs) (alone x ∷ g ∷ gs)) ≡ x ∷ flat_map (λ (z : Group). z.comings) (g ∷ gs)
    by_same true = refl
    by_same false = refl

pub grouped_all : (m : Mode) (xs : List Coming) → flat_map (λ (g : Group). g.comings) (groups_in m xs) ≡ xs
grouped_all Eager [] = refl
grouped_all Eager (x ∷ xs) = ap (λ (ys : List Coming). x ∷ ys) (grouped_all Eager xs)
grouped_all Seeded [] = refl
grouped_all Seeded (x ∷ xs) = joined_all x (groups_in Seeded xs) ∙ ap (λ (ys : List Coming). x ∷ ys) (grouped_all Seeded xs)

commands_since : (second : ℕ) (gs : List Group) → flat_map (λ (s : Segment). s.commands) (segments_since second gs) ≡ filter_map number_in (flat_map (λ (g : Group). g.comings) gs)
commands_since second [] = refl
commands_since second (g ∷ gs) =
    ap (λ (ns : List ℕ). filter_map number_in g.comings ++ ns) (commands_since g.second gs) ∙ sym (filter_map-append number_in g.comings (flat_map (λ (z : Group). z.comings) gs))

-- the commands of all segments, in order, are those of the file
pub in_file_order : (m : Mode) (i : Input) → IsTimely i → flat_map (λ (s : Segment). s.commands) (segments m i) ≡ range_with_len 1 (length i.commands)
unfolding segments merge
in_file_order m i timely =
    in_all (groups_in m (by_moment (all_comings i)))
    ∙ (ap (filter_map number_in) (grouped_all m (by_moment (all_comings i))) ∙ sorted_commands (start_second i) 1 i.commands (all_arrivals i) timely)
  where
    in_all : (gs : List Group) → flat_map (λ (s : Segment). s.commands) (segments_in gs) ≡ filter_map number_in (flat_map (λ (g : Group). g.comings) gs)
    in_all [] = refl
    in_all (g ∷ gs) = commands_since g.second (g ∷ gs)
