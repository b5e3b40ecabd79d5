-- Commands whose seconds don't fall stay in the order of the file.
use Rattle.std.proofs.Common.{◌≡◌, ℕ, suc, ◌+◌, ◌*◌, ◌<◌, ◌≤◌, Bool, true, false, cond, List, [], ◌∷◌, ◌++◌, length, map, refl, ap, ◌∙◌, arith, inl, inr}
use Rattle.std.specs.Prelude.{nat_lt, filter_map, slice_index_or, AllPairs}
use Rattle.std.specs.List.{AllByRecursion, range_with_len}
use Rattle.std.proofs.lemmas.Bool.{cases_Bool, ltb-true}
use Rattle.exb_model.specs.declared.arrival.Arrival.{Arrival}
use Rattle.exb_model.specs.Input.{Given, Coming, Ordered, Captured, moment_of, all_arrivals, start_second, commands_from, put_in_order, by_moment, merge, number_in, segments}
use Rattle.exb_model.specs.LegalHistory.{number_of}
use Rattle.exb_model.proofs.LegalPlays.{all_commands}
use Rattle.exb_model_laws.specs.PlayedHistories.{CommandsInFileOrder}
use Rattle.exb_model_laws.proofs.ArrivalOrder.{segments-commands, each-append, each_sorted}
use Rattle.exb_model_laws.proofs.PlayedHistories.{of_legal, no_number, commands_played, next}

-- an arrival, or a command that comes no earlier
abbrev IsAfter : ℕ → Coming → Type 0
IsAfter moment (Ordered k n) = moment ≤ k
IsAfter moment (Captured a) = Unit {0}

captured_after : (moment : ℕ) (xs : List Arrival) → AllByRecursion (IsAfter moment) (map Captured xs)
captured_after moment [] = tt
captured_after moment (x ∷ xs) = (tt, captured_after moment xs)

commands_after : (start at n : ℕ) (cs : List Given) → AllByRecursion (λ c. at ≤ c.at) cs → AllByRecursion (IsAfter ((start + at) * 1000000000)) (commands_from start n cs)
commands_after start at n [] k = tt
commands_after start at n (c ∷ cs) k = ((let e = k.0 in omega (arith, e)), commands_after start at (suc n) cs k.1)

put_captured : (a : Arrival) (ys : List Coming) → filter_map number_in (put_in_order (Captured a) ys) ≡ filter_map number_in ys
put_captured a [] = refl
put_captured a (y ∷ ys) = by_less y (nat_lt (moment_of y) a.moment) (put_captured a ys)
  where
    by_less : (y : Coming) (b : Bool) → filter_map number_in (put_in_order (Captured a) ys) ≡ filter_map number_in ys → filter_map number_in (cond b (y ∷ put_in_order (Captured a) ys) (Captured a ∷ y ∷ ys)) ≡ filter_map number_in (y ∷ ys)
    by_less (Ordered k n) true rest = ap (λ (ns : List ℕ). n ∷ ns) rest
    by_less (Captured b) true rest = rest
    by_less y false rest = refl

-- before all that come no earlier
put_command : (moment n : ℕ) (ys : List Coming) → AllByRecursion (IsAfter moment) ys → filter_map number_in (put_in_order (Ordered moment n) ys) ≡ n ∷ filter_map number_in ys
put_command moment n [] k = refl
put_command moment n (Captured a ∷ ys) k = by_less (nat_lt a.moment moment) (put_command moment n ys k.1)
  where
    by_less : (b : Bool) → filter_map number_in (put_in_order (Ordered moment n) ys) ≡ n ∷ filter_map number_in ys →
        filter_map number_in (cond b (Captured a ∷ put_in_order (Ordered moment n) ys) (Ordered moment n ∷ Captured a ∷ ys)) ≡ n ∷ filter_map number_in ys
    by_less true rest = rest
    by_less false rest = refl
put_command moment n (Ordered at j ∷ ys) k =
    elim (cases_Bool (nat_lt at moment)) [
      | inl less ↦ absurd (let e = ltb-true at moment less in let g = k.0 in omega (arith, e, g))
      | inr not ↦ rw not refl
    ]

sorted_captured : (xs : List Arrival) → filter_map number_in (by_moment (map Captured xs)) ≡ []
sorted_captured [] = refl
sorted_captured (x ∷ xs) = put_captured x (by_moment (map Captured xs)) ∙ sorted_captured xs

sorted_commands : (start n : ℕ) (cs : List Given) (xs : List Arrival) → AllPairs (λ (c d : Given). c.at ≤ d.at) cs → filter_map number_in (by_moment (commands_from start n cs ++ map Captured xs)) ≡ range_with_len n (length cs)
sorted_commands start n [] xs k = sorted_captured xs
sorted_commands start n (c ∷ cs) xs k =
    let moment : ℕ = (start + c.at) * 1000000000 in
    let later : AllByRecursion (IsAfter moment) (by_moment (commands_from start (suc n) cs ++ map Captured xs)) =
    each_sorted (IsAfter moment) (commands_from start (suc n) cs ++ map Captured xs)
    (each-append (IsAfter moment) (commands_from start (suc n) cs) (map Captured xs) (commands_after start c.at (suc n) cs (first_least cs (λ j d h. k 0 (suc j) d (omega arith) (omega (arith, h))))) (captured_after moment xs))
    in
    put_command moment n (by_moment (commands_from start (suc n) cs ++ map Captured xs)) later
    ∙ ap (λ (ns : List ℕ). n ∷ ns) (sorted_commands start (suc n) cs xs (λ a b d x y. k (suc a) (suc b) d (omega (arith, x)) (omega (arith, y))) ∙ ap (λ (m : ℕ). range_with_len m (length cs)) (next n))
  where
    first_least : (ds : List Given) → ((j : ℕ) (d : Given) → j < length ds → c.at ≤ (slice_index_or ds j d).at) → AllByRecursion (λ d. c.at ≤ d.at) ds
    first_least [] all = tt
    first_least (d ∷ ds) all = (all 0 d (omega arith), first_least ds (λ j e h. all (suc j) e (omega (arith, h))))

pub commands_in_file_order : CommandsInFileOrder
unfolding merge
commands_in_file_order m i h timely legal =
    of_legal number_of m i h legal refl no_number ∙ commands_played (segments m i) legal.plays (all_commands (segments m i) legal.plays legal.each_played) ∙ segments-commands m i
    ∙ sorted_commands (start_second i) 1 i.commands (all_arrivals i) timely
