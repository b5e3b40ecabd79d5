-- Stop and wait: the state of one end, and its steps.
use Rattle.std.specs.Prelude.{◌≡◌, ℕ, ◌+◌, ◌<◌, ◌≤◌, ◌==◌, ◌||◌, Bool, false, List, [], length, not, Option, Some, None, IfSome, if◌then◌else◌}
use Rattle.exb_ecp.specs.declared.stop_and_wait.Beat.{Beat}
use Rattle.exb_ecp.specs.declared.stop_and_wait.Beat.TheVariants.{Nothing, SendAgain, GaveUp}

-- what is sent, and the beats since it was submitted
pub record Sending : Type 0 where
  pub sequence : ℕ
  pub beats : ℕ
  pub payload : List ℕ

-- the sequence of the next submit, what is sent, if anything, and the last received sequence, if any
pub record State : Type 0 where
  pub next : ℕ
  pub sending : Option Sending
  pub received : Option ℕ

abbrev pub new_state : State
new_state = record { next = 1; sending = None; received = None }

-- after 65,535 comes 0
unfoldable pub after : ℕ → ℕ
after sequence = if sequence == 65535 then 0 else sequence + 1

-- a submit replaces what is sent, takes the next sequence and begins at beat 0
abbrev pub submitted : List ℕ → State → State
submitted payload s = record {
  next = after s.next;
  sending = Some (record { sequence = s.next; beats = 0; payload = payload });
  received = s.received;
}

abbrev pub stopped : State → State
stopped s = record { next = s.next; sending = None; received = s.received }

abbrev pub unless_sequence : ℕ → Option Sending → Option Sending
unless_sequence sequence None = None
unless_sequence sequence (Some x) = if x.sequence == sequence then None else Some x

-- an acknowledgement ends what is sent with its sequence
abbrev pub acknowledged : ℕ → State → State
acknowledged sequence s = record { next = s.next; sending = unless_sequence sequence s.sending; received = s.received }

abbrev pub heard : ℕ → State → State
heard sequence s = record { next = s.next; sending = s.sending; received = Some sequence }

abbrev pub is_last : Option ℕ → ℕ → Bool
is_last None sequence = false
is_last (Some r) sequence = r == sequence

-- a request is handed up unless its sequence is the last received one
abbrev pub is_fresh : ℕ → State → Bool
is_fresh sequence s = not (is_last s.received sequence)

-- what is sent ends at the twelfth beat
abbrev pub aged : Option Sending → Option Sending
aged None = None
aged (Some x) = if x.beats + 1 == 12 then None else Some (record {
  sequence = x.sequence;
  beats = x.beats + 1;
  payload = x.payload;
})

abbrev pub beaten : State → State
beaten s = record { next = s.next; sending = aged s.sending; received = s.received }

-- at the third, sixth and ninth beat it is sent again
abbrev pub is_due : ℕ → Bool
is_due beat = beat == 3 || (beat == 6 || beat == 9)

-- of the beat with this number after a submit
abbrev pub beat_at : ℕ → Beat
beat_at beat = if beat == 12 then GaveUp else (if is_due beat then SendAgain else Nothing)

abbrev pub beat_of : Option Sending → Beat
beat_of None = Nothing
beat_of (Some x) = beat_at (x.beats + 1)

-- the bytes that are sent, none where nothing is
abbrev pub sent_payload : Option Sending → List ℕ
sent_payload None = []
sent_payload (Some x) = x.payload

-- what is sent was submitted last, and not given up
pub record IsOutstanding (next : ℕ) (x : Sending) : Type 0 where
  pub sequence : x.sequence < 65536
  pub latest : after x.sequence ≡ next
  pub beats : x.beats < 12
  pub payload : length x.payload ≤ 1024

-- what holds of each state that calls lead to
pub record IsSound (s : State) : Type 0 where
  pub next : s.next < 65536
  pub sending : IfSome s.sending (IsOutstanding s.next)
  pub received : IfSome s.received (λ r. r < 65536)
