-- The commands of each segment are there.
use Rattle.std.proofs.Common.{◌≡◌, ℕ, zero, suc, ◌+◌, ◌<◌, ◌≤◌, true, List, [], ◌∷◌, ◌++◌, length, map, refl, sym, subst, arith}
use Rattle.std.specs.Prelude.{is_some, filter_map, flat_map, slice_get}
use Rattle.std.specs.List.{AllByRecursion}
use Rattle.std.proofs.lemmas.List.{length-map}
use Rattle.exb_model.specs.declared.command.Command.{Command}
use Rattle.exb_model.specs.declared.arrival.Arrival.{Arrival}
use Rattle.exb_model.specs.Input.{Input, Given, Coming, Ordered, Captured, Segment, Mode, basis_of, all_arrivals, start_second, commands_from, all_comings, by_moment, merge, number_in, segments}
use Rattle.exb_model_laws.proofs.EagerEvents.{IsThere}
use Rattle.exb_model_laws.proofs.ArrivalOrder.{segments-commands, each_sorted}

-- the member with a number from 1 to the length is there
is_there : (cs : List Command) (k : ℕ) → k < length cs → is_some (slice_get cs k) ≡ true
is_there [] k h = absurd (omega (arith, h))
is_there (c ∷ cs) zero h = refl
is_there (c ∷ cs) (suc k) h = is_there cs k (omega (arith, h))

given_there : (i : Input) (n : ℕ) → 1 ≤ n → n < 1 + length i.commands → IsThere (basis_of i) n
given_there i zero low high = absurd (omega (arith, low))
given_there i (suc k) low high = is_there (basis_of i).commands k (let e : length (basis_of i).commands ≡ length i.commands = length-map i.commands (λ c. c.command) in omega (arith, e, high))

-- it is a record, or the command that it is has a number of which Q holds
abbrev IsOrdered : (ℕ → Type 0) → Coming → Type 0
IsOrdered Q (Ordered moment n) = Q n
IsOrdered Q (Captured a) = Unit {0}

module _ (Q : ℕ → Type 0) where
  all_ordered : (start n : ℕ) (cs : List Given) (arrived : List Arrival) → ((k : ℕ) → n ≤ k → k < n + length cs → Q k) → AllByRecursion (IsOrdered Q) (commands_from start n cs ++ map Captured arrived)
  all_ordered start n [] arrived each = none arrived
    where
      none : (xs : List Arrival) → AllByRecursion (IsOrdered Q) (map Captured xs)
      none [] = tt
      none (x ∷ xs) = (tt, none xs)
  all_ordered start n (c ∷ cs) arrived each = (each n (omega arith) (omega arith), all_ordered start (suc n) cs arrived (λ k low high. each k (omega (arith, low)) (omega (arith, high))))

  numbers_ordered : (xs : List Coming) → AllByRecursion (IsOrdered Q) xs → AllByRecursion Q (filter_map number_in xs)
  numbers_ordered [] all = tt
  numbers_ordered (Ordered moment n ∷ xs) all = (all.0, numbers_ordered xs all.1)
  numbers_ordered (Captured a ∷ xs) all = numbers_ordered xs all.1

  -- of a list of segments together, of each one
  of_each : (ss : List Segment) → AllByRecursion Q (flat_map (λ s. s.commands) ss) → AllByRecursion (λ s. AllByRecursion Q s.commands) ss
  of_each [] all = tt
  of_each (s ∷ ss) all = (left s.commands (flat_map (λ s. s.commands) ss) all, of_each ss (right s.commands (flat_map (λ s. s.commands) ss) all))
    where
      left : (xs ys : List ℕ) → AllByRecursion Q (xs ++ ys) → AllByRecursion Q xs
      left [] ys all = tt
      left (x ∷ xs) ys all = (all.0, left xs ys all.1)

      right : (xs ys : List ℕ) → AllByRecursion Q (xs ++ ys) → AllByRecursion Q ys
      right [] ys all = all
      right (x ∷ xs) ys all = right xs ys all.1

pub segments-there : (m : Mode) (i : Input) → AllByRecursion (λ s. AllByRecursion (IsThere (basis_of i)) s.commands) (segments m i)
unfolding merge
segments-there m i =
    let Q : ℕ → Type 0 = IsThere (basis_of i) in
    let all : AllByRecursion (IsOrdered Q) (all_comings i) = all_ordered Q (start_second i) 1 i.commands (all_arrivals i) (given_there i) in
    of_each Q (segments m i) (subst (AllByRecursion Q) (sym (segments-commands m i)) (numbers_ordered Q (by_moment (all_comings i)) (each_sorted (IsOrdered Q) (all_comings i) all)))
