-- Captures that are being played, and what is still to come of them.
use Rattle.std.specs.Prelude.{ℕ, List, [], ◌∷◌, Option, Some, None, map, flat_map}
use Rattle.exb_model.specs.declared.arrival.Arrival.{Arrival}
use Rattle.exb_model.specs.Input.{Input, Record, Coming, Captured, arrivals_from, by_moment}

-- a capture that is being played: its port, the number of its next record (from 1), the moment of the
-- record before that (0 before the first), and the records still to come
pub record Stream : Type 0 where
  pub port : ℕ
  pub index : ℕ
  pub least : ℕ
  pub records : List Record

-- a capture at its first record
abbrev pub stream_of : ℕ → List Record → Stream
stream_of port records = record { port = port; index = 1; least = 0; records = records }

-- the capture of a port of an input, at its first record
abbrev pub stream_at : Input → ℕ → Stream
stream_at i p = stream_of p (i.records p)

-- the arrivals still to come of one capture
abbrev pub arrivals_of : Stream → List Arrival
arrivals_of s = arrivals_from s.port s.index s.least s.records

-- the moment of the first, if there is one
abbrev pub next_moment : List Arrival → Option ℕ
next_moment [] = None
next_moment (a ∷ rest) = Some a.moment

-- What is still to come of some captures, in the order in which it is played: by moment, and at the
-- same moment in the order of the captures.
unfoldable pub to_come : List Stream → List Coming
to_come streams = by_moment (map Captured (flat_map arrivals_of streams))
