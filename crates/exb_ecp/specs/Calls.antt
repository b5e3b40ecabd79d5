-- What an end sends after any list of calls, told by its last submit and the calls since. A list has its newest call
-- first.
use Rattle.std.specs.Prelude.{◌≡◌, ℕ, suc, ◌+◌, ◌%◌, ◌<◌, ◌≤◌, ◌==◌, ◌||◌, Bool, true, false, List, [], ◌∷◌, length, Option, Some, None, nat_le, if◌then◌else◌, ⊤}
use Rattle.std.specs.List.{list_any}
use Rattle.exb_ecp.specs.declared.stop_and_wait.Beat.{Beat as Due}
use Rattle.exb_ecp.specs.declared.stop_and_wait.Beat.TheVariants as due
use Rattle.exb_ecp.specs.StopAndWait.{Sending, State, new_state, submitted, stopped, acknowledged, heard, beaten, beat_at, beat_of, IsSound}

pub data Call : Type 0 where
  Submit : List ℕ → Call
  Stop : Call
  Acked : ℕ → Call
  Received : ℕ → Call
  Beat : Call

abbrev pub called : Call → State → State
called (Submit payload) s = submitted payload s
called Stop s = stopped s
called (Acked sequence) s = acknowledged sequence s
called (Received sequence) s = heard sequence s
called Beat s = beaten s

-- the state that calls lead to
abbrev pub state_after : List Call → State
state_after [] = new_state
state_after (c ∷ cs) = called c (state_after cs)

abbrev pub is_submit : Call → Bool
is_submit (Submit payload) = true
is_submit _ = false

abbrev pub is_beat : Call → Bool
is_beat Beat = true
is_beat _ = false

-- how many calls pass a test
abbrev pub times : (Call → Bool) → List Call → ℕ
times test [] = 0
times test (c ∷ cs) = if test c then suc (times test cs) else times test cs

-- a stop, and an acknowledgement of this sequence, end what is sent with it
abbrev pub ends : ℕ → Call → Bool
ends sequence Stop = true
ends sequence (Acked other) = sequence == other
ends sequence _ = false

-- the sequence of the first submit, the second and so on: 1, 2, and 0 after 65,535
abbrev pub sequence_of : ℕ → ℕ
sequence_of number = number % 65536

-- a submit, counted from the first as 1, and the calls since
pub record Submitted : Type 0 where
  pub number : ℕ
  pub payload : List ℕ
  pub since : List Call

-- of a call after some others, the last submit of which is this
abbrev pub submit_at : Call → List Call → Option Submitted → Option Submitted
submit_at (Submit payload) before last = Some (record {
  number = suc (times is_submit before);
  payload = payload;
  since = [];
})
submit_at _ before None = None
submit_at c before (Some u) = Some (record { number = u.number; payload = u.payload; since = c ∷ u.since })

abbrev pub last_submit : List Call → Option Submitted
last_submit [] = None
last_submit (c ∷ cs) = submit_at c cs (last_submit cs)

abbrev pub last_received : List Call → Option ℕ
last_received [] = None
last_received (Received sequence ∷ cs) = Some sequence
last_received (_ ∷ cs) = last_received cs

-- a submit is over once it was stopped or acknowledged, and after twelve beats
abbrev pub is_over : Submitted → Bool
is_over u = list_any (ends (sequence_of u.number)) u.since || nat_le 12 (times is_beat u.since)

abbrev pub still_sent : Option Submitted → Option Sending
still_sent None = None
still_sent (Some u) =
    if is_over u then None else Some (record {
      sequence = sequence_of u.number;
      beats = times is_beat u.since;
      payload = u.payload;
    })

-- what a further beat answers: `SendAgain` at the third, sixth and ninth since the submit, `GaveUp` at the twelfth
abbrev pub due_after : Option Submitted → Due
due_after None = due.Nothing
due_after (Some u) = if is_over u then due.Nothing else beat_at (times is_beat u.since + 1)

pub record IsTold (calls : List Call) : Type 0 where
  pub next : (state_after calls).next ≡ sequence_of (suc (times is_submit calls))
  pub sending : (state_after calls).sending ≡ still_sent (last_submit calls)
  pub due : beat_of (state_after calls).sending ≡ due_after (last_submit calls)
  pub received : (state_after calls).received ≡ last_received calls

-- what a call may be given
abbrev pub CanBeCalled : Call → Type 0
CanBeCalled (Submit payload) = length payload ≤ 1024
CanBeCalled (Received sequence) = sequence < 65536
CanBeCalled _ = ⊤

pub record KeepsSound : Type 0 where
  pub begins : IsSound new_state
  pub keeps : (c : Call) (s : State) → CanBeCalled c → IsSound s → IsSound (called c s)
