-- The turns of what stands in a list.
use Rattle.std.specs.Prelude.{◌≡◌, ◌≢◌, ◌<◌, ◌≤◌, ◌+◌, ◌*◌, ◌/◌, nat_lt, if◌then◌else◌, ℕ, zero, suc, List, length, get_or, Option, Some, None, IfSome}
use Rattle.std.specs.List.{AllByRecursion}
use Rattle.exb_timeline.specs.declared.tournament.Tournament.{Tournament}

-- ---- whose turn it is
abbrev pub moment_at : List (Option ℕ) → ℕ → Option ℕ
moment_at moments place = get_or moments place None

-- The first turn of some moments by place is that of this one: none is earlier, and those at the same moment stand
-- behind it.
pub record IsFirst (moments : List (Option ℕ)) (moment place : ℕ) : Type 0 where
  pub within : place < length moments
  pub own : moment_at moments place ≡ Some moment
  pub all : (q : ℕ) → q < length moments → IfSome (moment_at moments q) (λ m. moment ≤ m)
  pub ahead : (q : ℕ) → q < place → IfSome (moment_at moments q) (λ m. moment < m)

-- this place has a turn
abbrev pub HasTurn : List (Option ℕ) → ℕ → Type 0
HasTurn moments place = (m : ℕ) × (moment_at moments place ≡ Some m)

-- ---- how it is found
-- a moment as it is kept: later than any where there is none
abbrev pub kept : Option ℕ → ℕ
kept None = 18446744073709551615
kept (Some m) = m

abbrev pub at : List ℕ → ℕ → ℕ
at xs k = get_or xs k 0

-- turns in their order, as numbers
abbrev pub turn : List ℕ → ℕ → ℕ
turn moments racer = at moments racer * 18446744073709551616 + racer

abbrev pub sooner : List ℕ → ℕ → ℕ → ℕ
sooner moments one other = if nat_lt (turn moments other) (turn moments one) then other else one

-- of the two below this node that one is first which has its turn first
abbrev pub IsWon : List ℕ → List ℕ → ℕ → Type 0
IsWon moments firsts n = at firsts n ≡ sooner moments (at firsts (2 * n)) (at firsts (2 * n + 1))

-- so many nodes above a node
abbrev pub above : ℕ → ℕ → ℕ
above zero n = n
above (suc k) n = above k (n / 2)

-- Each node has a racer, and the first of those below it: only this node and those above it may not have theirs.
pub record HasPending (moments firsts : List ℕ) (pending : ℕ) : Type 0 where
  pub nodes : length firsts ≡ 2 * length moments
  pub low : pending < length moments
  pub places : (n : ℕ) → 1 ≤ n → n < length firsts → at firsts n < length moments
  pub won : (n : ℕ) → 1 ≤ n → n < length moments → ((k : ℕ) → above k pending ≢ n) → IsWon moments firsts n

-- the leaves of a tree of so many racers are what they were
pub record HasLeaves (racers : ℕ) (old new : List ℕ) : Type 0 where
  pub count : length new ≡ length old
  pub same : (n : ℕ) → racers ≤ n → at new n ≡ at old n

-- the tree of the turns of racers with these moments
pub record IsTree (moments leaves firsts : List ℕ) : Type 0 where
  pub count : length leaves ≡ length moments
  pub low : (q : ℕ) → q < length moments → length moments ≤ at leaves q
  pub high : (q : ℕ) → q < length moments → at leaves q < length firsts
  pub of_place : (q : ℕ) → q < length moments → at firsts (at leaves q) ≡ q
  pub of_leaf : (n : ℕ) → 1 ≤ n → length moments ≤ n → n < length firsts → at leaves (at firsts n) ≡ n
  pub nodes : length firsts ≡ 2 * length moments
  pub places : (n : ℕ) → 1 ≤ n → n < length firsts → at firsts n < length moments
  pub won : (n : ℕ) → 1 ≤ n → n < length moments → IsWon moments firsts n

-- a place has a racer
pub record HasRacer (moments places racers : List ℕ) (place : ℕ) : Type 0 where
  pub low : at racers place < length moments
  pub own : at places (at racers place) ≡ place

-- Racers with these moments run for the places that have a turn, in the order of places: a place that was added without
-- one needs none.
pub record AreRacing (turns : List (Option ℕ)) (moments places racers : List ℕ) : Type 0 where
  pub count : length racers ≡ length turns
  pub each : length places ≡ length moments
  pub there : (r : ℕ) → r < length moments → at places r < length turns
  pub own : (r : ℕ) → r < length moments → at racers (at places r) ≡ r
  pub are : (r : ℕ) → r < length moments → at moments r ≡ kept (moment_at turns (at places r))
  pub order : (r s : ℕ) → r < s → s < length moments → at places r < at places s
  pub all : (q m : ℕ) → moment_at turns q ≡ Some m → HasRacer moments places racers q

-- these are the turns of these moments
pub record AreTurns (moments : List (Option ℕ)) (t : Tournament) : Type 0 where
  pub racing : AreRacing moments t.moments.items t.places.items t.racers.items
  pub small : AllByRecursion (λ o. IfSome o (λ m. m < 18446744073709551615)) moments
  pub tree : IsTree t.moments.items t.leaves.items t.firsts.items
