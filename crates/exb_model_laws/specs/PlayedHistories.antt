-- What a history that an input allows plays of that input, and that there is one in either mode.
use Rattle.std.specs.Prelude.{◌≡◌, ◌≤◌, ℕ, ◌+◌, List, filter_map, flat_map, map, length, reverse, sum_by, AllPairs, IsPermutation}
use Rattle.std.specs.List.{range_with_len}
use Rattle.exb_model.specs.Ports.{all_ports}
use Rattle.exb_model.specs.History.{History}
use Rattle.exb_model.specs.Input.{Input, Mode, Eager, Seeded, basis_of, tree_of, bounds_of, segments}
use Rattle.exb_model.specs.EagerHistory.{opening, eagerly, eager}
use Rattle.exb_model.specs.LegalHistory.{Legal, number_of, place_of}
use Rattle.exb_model.specs.Texts.{counts}

-- ---- each record and each command once
-- the records of one port by their numbers, from 1
abbrev pub records_at : Input → ℕ → List (ℕ × ℕ)
records_at i p = map (λ n. (p, n)) (range_with_len 1 (length (i.records p)))

-- all records of the captures, each by its port and its number
unfoldable pub all_records : Input → List (ℕ × ℕ)
all_records i = flat_map (records_at i) all_ports

-- how many there are
unfoldable pub record_count : Input → ℕ
record_count i = sum_by (λ p. length (i.records p)) all_ports

-- the commands by their numbers, from 1
abbrev pub all_numbers : Input → List ℕ
all_numbers i = range_with_len 1 (length i.commands)

-- The Relay and Ignored events are the records, each once; the Commit and Refuse events are the commands, each once.
pub record PlaysInput (i : Input) (h : History) : Type 0 where
  pub records : IsPermutation (filter_map place_of (reverse h)) (all_records i)
  pub commands : IsPermutation (filter_map number_of (reverse h)) (all_numbers i)

abbrev pub LegalPlaysInput : Type 0
LegalPlaysInput = (m : Mode) (i : Input) (h : History) → Legal m i h → PlaysInput i h

-- the seconds of the commands don't fall, as in each topology file that is read
abbrev pub IsTimely : Input → Type 0
IsTimely i = AllPairs (λ c d. c.at ≤ d.at) i.commands

-- where they don't, the commands are played in the order of the file
abbrev pub CommandsInFileOrder : Type 0
CommandsInFileOrder = (m : Mode) (i : Input) (h : History) → IsTimely i → Legal m i h
    → filter_map number_of (reverse h) ≡ all_numbers i

-- The numbers of a summary are those of the input.
pub record AddsUp (i : Input) (h : History) : Type 0 where
  pub records : (counts (tree_of i) (basis_of i) h).relayed + (counts (tree_of i) (basis_of i) h).ignored
      ≡ record_count i
  pub commands : (counts (tree_of i) (basis_of i) h).commits + (counts (tree_of i) (basis_of i) h).refusals
      ≡ length i.commands

abbrev pub SummaryAddsUp : Type 0
SummaryAddsUp = (m : Mode) (i : Input) (h : History) → Legal m i h → AddsUp i h

-- ---- a history that is allowed
-- the one in which each segment's tick, commands and arrivals are played at once
unfoldable pub played_at_once : Mode → Input → History
played_at_once m i = eagerly (tree_of i) (bounds_of i) (basis_of i) (opening (tree_of i) (bounds_of i) (basis_of i))
    (segments m i)

abbrev pub PlayedAtOnceIsLegal : Type 0
PlayedAtOnceIsLegal = (m : Mode) (i : Input) → Legal m i (played_at_once m i)

-- in the eager mode it is the eager history
abbrev pub PlayedAtOnceIsEager : Type 0
PlayedAtOnceIsEager = (i : Input) → played_at_once Eager i ≡ eager i

-- so that one is allowed
abbrev pub EagerIsLegal : Type 0
EagerIsLegal = (i : Input) → Legal Eager i (eager i)

abbrev pub SeededIsPossible : Type 0
SeededIsPossible = (i : Input) → (h : History) × Legal Seeded i h
