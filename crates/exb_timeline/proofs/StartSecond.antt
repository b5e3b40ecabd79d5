-- The start, and all that comes of an input.
use Rattle.std.proofs.Common.{◌≡◌, ℕ, ◌<◌, ◌≤◌, Bool, true, false, cond, List, [], ◌∷◌, ◌++◌, map, min, refl, ap, sym, ◌∙◌, arith}
use Rattle.std.specs.Prelude.{nat_lt, Some, flat_map, filter_map}
use Rattle.std.specs.List.{AllByRecursion, cons_option}
use Rattle.std.specs.Option.{option_map}
use Rattle.std.proofs.lemmas.List.{map-append}
use Rattle.std.proofs.lemmas.Bool.{ltb-true, ltb-false}
use Rattle.exb_model.specs.declared.setup.Timed.{Timed}
use Rattle.exb_model.specs.declared.arrival.Arrival.{Arrival}
use Rattle.exb_model.specs.Input.{Input, Given, Coming, Captured, given_by, moment_of, second_of, least_or, start_second, all_arrivals, put_in_order, by_moment, commands_from, merge}
use Rattle.exb_timeline.specs.MergeOrder.{with_commands, still_to_come, first_second, begun}
use Rattle.exb_timeline.specs.Streams.{Stream, arrivals_of, next_moment, to_come}
use Rattle.exb_timeline.proofs.Arrivals.{NoneArrives, none_arrives-next}

-- ---- the start
-- the second of the first, or another
abbrev second_or : ℕ → List Coming → ℕ
second_or d [] = d
second_or d (x ∷ xs) = second_of (moment_of x)

put-second : (d : ℕ) (x : Coming) (ys : List Coming) → second_or d (put_in_order x ys) ≡ min (second_of (moment_of x)) (second_or (second_of (moment_of x)) ys)
put-second d x [] = omega arith
put-second d x (y ∷ ys) = by_test (nat_lt (moment_of y) (moment_of x)) refl
  where
    by_test : (b : Bool) → nat_lt (moment_of y) (moment_of x) ≡ b →
        second_or d (cond b (y ∷ put_in_order x ys) (x ∷ y ∷ ys)) ≡ min (second_of (moment_of x)) (second_of (moment_of y))
    by_test true e = let low : moment_of y < moment_of x = ltb-true (moment_of y) (moment_of x) e in omega (arith, low)
    by_test false e = let low : moment_of x ≤ moment_of y = ltb-false (moment_of y) (moment_of x) e in omega (arith, low)

least-is : (d : ℕ) (arrived : List Arrival) → second_or d (by_moment (map Captured arrived)) ≡ least_or d (map (λ a. second_of a.moment) arrived)
least-is d [] = refl
least-is d (a ∷ arrived) = put-second d (Captured a) (by_moment (map Captured arrived)) ∙ ap (min (second_of a.moment)) (least-is (second_of a.moment) arrived)

first-is : (xs : List Coming) → first_second xs ≡ second_or 0 xs
first-is [] = refl
first-is (x ∷ xs) = refl

start-is : (i : Input) → first_second (by_moment (map Captured (all_arrivals i))) ≡ start_second i
unfolding start_second
start-is i = first-is (by_moment (map Captured (all_arrivals i))) ∙ least-is 0 (all_arrivals i)

-- ---- the start of captures
-- the seconds of their first records
abbrev first_seconds : List Stream → List ℕ
first_seconds = filter_map (λ s. option_map second_of (next_moment (arrivals_of s)))

least-any : (n d e : ℕ) (xs : List ℕ) → n ≤ d → n ≤ e → min n (least_or d xs) ≡ min n (least_or e xs)
least-any n d e [] p q = omega arith
least-any n d e (x ∷ xs) p q = refl

least-behind : (n d : ℕ) (ks rest : List ℕ) → n ≤ d → AllByRecursion (λ k. n ≤ k) ks → min n (least_or d (ks ++ rest)) ≡ min n (least_or d rest)
least-behind n d [] rest p all = refl
least-behind n d (k ∷ ks) rest p all =
    let one : min n (least_or k (ks ++ rest)) ≡ min n (least_or k rest) = least-behind n k ks rest all.0 all.1 in
    let other : min n (least_or k rest) ≡ min n (least_or d rest) = least-any n k d rest all.0 p in
    omega (arith, one, other, all.0)

seconds-after : (m : ℕ) (arrived : List Arrival) → NoneArrives m arrived → AllByRecursion (λ k. second_of m ≤ k) (map (λ a. second_of a.moment) arrived)
seconds-after m [] all = tt
seconds-after m (a ∷ arrived) all = (omega (arith, all.0), seconds-after m arrived all.1)

-- of the records of a capture only the first counts
pub least-firsts : (d : ℕ) (streams : List Stream) → least_or d (map (λ a. second_of a.moment) (flat_map arrivals_of streams)) ≡ least_or d (first_seconds streams)
least-firsts d [] = refl
least-firsts d (s ∷ streams) =
    by_arrivals (λ e. least-firsts e streams) (arrivals_of s) (λ m first. none_arrives-next m s (λ k e. first k e))
  where
    by_arrivals : ((e : ℕ) → least_or e (map (λ a. second_of a.moment) (flat_map arrivals_of streams)) ≡ least_or e (first_seconds streams)) → (arrived : List Arrival) →
        ((m : ℕ) → ((k : ℕ) → next_moment arrived ≡ Some k → m ≤ k) → NoneArrives m arrived) →
        least_or d (map (λ a. second_of a.moment) (arrived ++ flat_map arrivals_of streams)) ≡ least_or d (cons_option (option_map second_of (next_moment arrived)) (first_seconds streams))
    by_arrivals rest [] later = rest d
    by_arrivals rest (a ∷ arrived) later =
        let n : ℕ = second_of a.moment in
        let all = later a.moment (λ k e. (let same : a.moment ≡ k = cc in omega (arith, same))) in
        ap (λ ys. min n (least_or n ys)) (map-append (λ (b : Arrival). second_of b.moment) arrived (flat_map arrivals_of streams))
        ∙ least-behind n n (map (λ b. second_of b.moment) arrived) (map (λ b. second_of b.moment) (flat_map arrivals_of streams)) (omega arith) (seconds-after a.moment arrived all.1)
        ∙ ap (min n) (rest n)

-- it is the least second of their first records
pub start-least : (streams : List Stream) → first_second (to_come streams) ≡ least_or 0 (filter_map (λ s. option_map second_of (next_moment (arrivals_of s))) streams)
unfolding to_come
start-least streams =
    first-is (by_moment (map Captured (flat_map arrivals_of streams))) ∙ least-is 0 (flat_map arrivals_of streams) ∙ least-firsts 0 streams

-- ---- all that comes
with_commands-by_moment : (cs xs : List Coming) → with_commands cs (by_moment xs) ≡ by_moment (cs ++ xs)
with_commands-by_moment [] xs = refl
with_commands-by_moment (c ∷ cs) xs = ap (put_in_order c) (with_commands-by_moment cs xs)

pub begun-merges : (i : Input) (commands : List Timed) (records : List Coming) → i.commands ≡ map given_by commands → records ≡ by_moment (map Captured (all_arrivals i)) →
    still_to_come (begun records commands) ≡ merge i
unfolding still_to_come merge
begun-merges i commands records given all =
    ap (λ (xs : List Coming). with_commands (commands_from (first_second xs) 1 (map given_by commands)) xs) all
    ∙ ap (λ (gs : List Given). with_commands (commands_from (first_second (by_moment (map Captured (all_arrivals i)))) 1 gs) (by_moment (map Captured (all_arrivals i)))) (sym given)
    ∙ ap (λ k. with_commands (commands_from k 1 i.commands) (by_moment (map Captured (all_arrivals i)))) (start-is i)
    ∙ with_commands-by_moment (commands_from (start_second i) 1 i.commands) (map Captured (all_arrivals i))
