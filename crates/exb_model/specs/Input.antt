-- What a run is given, and the order in which it is played.
use Rattle.std.specs.Prelude.{ℕ, suc, ◌+◌, ◌-◌, ◌*◌, ◌/◌, ◌==◌, nat_lt, if◌then◌else◌, List, [], ◌∷◌, ◌++◌, Option, Some, None, map, flat_map, filter_map, max, min}
use Rattle.exb_model.specs.declared.arrival.Arrival.{Arrival}
use Rattle.exb_model.specs.declared.command.Command.{Command}
use Rattle.exb_model.specs.declared.setup.Setup.{Setup}
use Rattle.exb_model.specs.declared.setup.Timed.{Timed}
use Rattle.exb_model.specs.Ports.{all_ports}
use Rattle.exb_model.specs.Tree.{Shape}
use Rattle.exb_model.specs.Setup.{Limits, shape_of, limits_of, start_of}
use Rattle.exb_model.specs.History.{Basis}

-- a command and when it is given, in seconds after the start
pub record Given : Type 0 where
  pub at : ℕ
  pub command : Command

-- what a topology's command gives; it leaves out what becomes of control frames
abbrev pub given_by : Timed → Given
given_by c = record { at = c.at; command = c.command }

-- a record of a capture: its time in nanoseconds and its frame
pub record Record : Type 0 where
  pub time : ℕ
  pub bytes : List ℕ

-- I: the setup, the commands in the order of the topology file, and each port's records in the order of
-- its capture
pub record Input : Type 0 where
  pub setup : Setup
  pub commands : List Given
  pub records : ℕ → List Record

-- what its histories are of, its tree and its limits
abbrev pub basis_of : Input → Basis
basis_of i = record { start = start_of i.setup; commands = map (λ c. c.command) i.commands; ageing = i.setup.ageing }

abbrev pub tree_of : Input → Shape
tree_of i = shape_of i.setup

abbrev pub bounds_of : Input → Limits
bounds_of i = limits_of i.setup

-- ---- moments
-- A record's moment is its time, or the moment of the record before it if that is greater.
abbrev pub arrivals_from : ℕ → ℕ → ℕ → List Record → List Arrival
arrivals_from p n least [] = []
arrivals_from p n least (r ∷ rs) =
    record { port = p; index = n; moment = max least r.time; bytes = r.bytes } ∷ arrivals_from p (suc n)
    (max least r.time) rs

unfoldable pub arrivals_at : Input → ℕ → List Arrival
arrivals_at i p = arrivals_from p 1 0 (i.records p)

-- in port order, and by index
unfoldable pub all_arrivals : Input → List Arrival
all_arrivals i = flat_map (arrivals_at i) all_ports

abbrev pub second_of : ℕ → ℕ
second_of moment = moment / 1000000000

abbrev pub least_or : ℕ → List ℕ → ℕ
least_or d [] = d
least_or d (n ∷ ns) = min n (least_or n ns)

-- the start: the least whole second of any record, or 0
unfoldable pub start_second : Input → ℕ
start_second i = least_or 0 (map (λ a. second_of a.moment) (all_arrivals i))

-- ---- Merge(I)
-- what comes: a command, by its moment and its number (from 1), or an arrival
pub data Coming : Type 0 where
  Ordered : (moment number : ℕ) → Coming
  Captured : (arrival : Arrival) → Coming

abbrev pub moment_of : Coming → ℕ
moment_of (Ordered moment n) = moment
moment_of (Captured a) = a.moment

abbrev pub commands_from : ℕ → ℕ → List Given → List Coming
commands_from start n [] = []
commands_from start n (c ∷ cs) = Ordered ((start + c.at) * 1000000000) n ∷ commands_from start (suc n) cs

-- the commands in file order, then the records by port order and index
abbrev pub all_comings : Input → List Coming
all_comings i = commands_from (start_second i) 1 i.commands ++ map Captured (all_arrivals i)

-- before the first that doesn't come before it
abbrev pub put_in_order : Coming → List Coming → List Coming
put_in_order x [] = x ∷ []
put_in_order x (y ∷ ys) = if nat_lt (moment_of y) (moment_of x) then y ∷ put_in_order x ys else x ∷ y ∷ ys

-- sorted by moment, and as they stood where moments are equal
abbrev pub by_moment : List Coming → List Coming
by_moment [] = []
by_moment (x ∷ xs) = put_in_order x (by_moment xs)

-- Merge(I)
unfoldable pub merge : Input → List Coming
merge i = by_moment (all_comings i)

-- ---- segments
pub data Mode : Type 0 where
  Eager : Mode
  Seeded : Mode

-- what comes in one segment, and its whole second
pub record Group : Type 0 where
  pub second : ℕ
  pub comings : List Coming

abbrev pub alone : Coming → Group
alone x = record { second = second_of (moment_of x); comings = x ∷ [] }

abbrev pub joined : Coming → List Group → List Group
joined x [] = alone x ∷ []
joined x (g ∷ gs) =
    if second_of (moment_of x) == g.second then record g { comings = x ∷ g.comings } ∷ gs else alone x ∷ g ∷ gs

-- in the eager run a segment is one event, and in a seeded run all events with the same whole second
abbrev pub groups_in : Mode → List Coming → List Group
groups_in Eager xs = map alone xs
groups_in Seeded [] = []
groups_in Seeded (x ∷ xs) = joined x (groups_in Seeded xs)

-- a segment: the seconds since the one before it, the numbers of its commands, and its arrivals
pub record Segment : Type 0 where
  pub seconds : ℕ
  pub commands : List ℕ
  pub arrivals : List Arrival

abbrev pub number_in : Coming → Option ℕ
number_in (Ordered moment n) = Some n
number_in (Captured a) = None

abbrev pub arrival_in : Coming → Option Arrival
arrival_in (Ordered moment n) = None
arrival_in (Captured a) = Some a

abbrev pub segment_of : ℕ → List Coming → Segment
segment_of seconds xs = record {
  seconds = seconds;
  commands = filter_map number_in xs;
  arrivals = filter_map arrival_in xs;
}

abbrev pub segments_since : ℕ → List Group → List Segment
segments_since second [] = []
segments_since second (g ∷ gs) = segment_of (g.second - second) g.comings ∷ segments_since g.second gs

-- the first has no seconds before it
abbrev pub segments_in : List Group → List Segment
segments_in [] = []
segments_in (g ∷ gs) = segments_since g.second (g ∷ gs)

-- the seconds of a segment, by the second of the one before it, if there was one
abbrev pub seconds_after : Option ℕ → ℕ → ℕ
seconds_after None second = 0
seconds_after (Some last) second = second - last

-- the segments of what is still to come, by the second of the segment before it, if there was one
abbrev pub segments_after : Mode → Option ℕ → List Coming → List Segment
segments_after m None coming = segments_in (groups_in m coming)
segments_after m (Some last) coming = segments_since last (groups_in m coming)

-- the segments of I
unfoldable pub segments : Mode → Input → List Segment
segments m i = segments_in (groups_in m (merge i))
