-- What is still to be played: the commands of a topology among the records of its captures.
use Rattle.std.specs.Prelude.{◌==◌, ℕ, ◌+◌, ◌*◌, min, nat_le, Bool, true, false, List, [], ◌∷◌, drop, Option, Some, None, map}
use Rattle.exb_model.specs.declared.setup.Timed.{Timed}
use Rattle.exb_model.specs.Input.{Coming, given_by, second_of, moment_of, put_in_order, commands_from}

-- the start, the commands of a topology, how many of them were taken, and what is still to come of its captures
pub record ToPlay : Type 0 where
  pub start : ℕ
  pub commands : List Timed
  pub taken : ℕ
  pub records : List Coming

-- commands among what comes, each before the first that doesn't come before it
abbrev pub with_commands : List Coming → List Coming → List Coming
with_commands [] ys = ys
with_commands (x ∷ xs) ys = put_in_order x (with_commands xs ys)

-- the commands that are left
abbrev pub commands_left : ToPlay → List Coming
commands_left a = commands_from a.start (a.taken + 1) (map given_by (drop a.taken a.commands))

-- What is still to come, in the order in which it is played: by moment, and at the same moment the commands first.
unfoldable pub still_to_come : ToPlay → List Coming
still_to_come a = with_commands (commands_left a) a.records

-- the whole second of the first, or 0
abbrev pub first_second : List Coming → ℕ
first_second [] = 0
first_second (x ∷ xs) = second_of (moment_of x)

-- before anything is taken
abbrev pub begun : List Coming → List Timed → ToPlay
begun records commands = record { start = first_second records; commands = commands; taken = 0; records = records }

-- ---- which of the two comes first
abbrev pub first_moment : List Coming → Option ℕ
first_moment [] = None
first_moment (x ∷ xs) = Some (moment_of x)

-- a command comes before a record that isn't earlier
abbrev pub comes_first : Option ℕ → Option ℕ → Bool
comes_first None m = false
comes_first (Some k) None = true
comes_first (Some k) (Some m) = nat_le k m

-- ---- what comes in one second
-- a moment is of this second
abbrev pub is_of : Option ℕ → ℕ → Bool
is_of None second = false
is_of (Some m) second = second_of m == second

-- what comes first is of this second
abbrev pub begins_in : ℕ → List Coming → Bool
begins_in second xs = is_of (first_moment xs) second

-- ---- turns among several bridges
-- When a programme has its turn, in halves of a nanosecond: a record half a one behind its moment, so that the commands
-- of all bridges come before the records of their moment.
abbrev pub turn_by : Option ℕ → Option ℕ → Option ℕ
turn_by None None = None
turn_by (Some k) None = Some (2 * k)
turn_by None (Some m) = Some (2 * m + 1)
turn_by (Some k) (Some m) = Some (min (2 * k) (2 * m + 1))
