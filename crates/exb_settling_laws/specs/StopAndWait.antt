-- Stop and wait: one end's state and its steps.
use Rattle.std.specs.Prelude.{ℕ, ◌+◌, ◌==◌, Bool, true, false, ◌||◌, List, [], ◌∷◌, Option, Some, None}
use Rattle.exb_ecp.specs.StopAndWait.{after}

-- what a word reads as: a request or an answer with its sequence and serial, an acknowledgement, an announcement
pub data Message : Type 0 where
  Request : ℕ → ℕ → Message
  Answer : ℕ → ℕ → Message
  Ack : ℕ → Message
  Hello : Message

-- what is sent, and the beats since it was submitted
pub record Sending : Type 0 where
  pub sequence : ℕ
  pub serial : ℕ
  pub beats : ℕ

-- the next sequence, what is sent, the last received sequence
pub record End : Type 0 where
  pub next : ℕ
  pub sending : Option Sending
  pub got : Option ℕ

abbrev pub is_got : Option ℕ → ℕ → Bool
is_got None s = false
is_got (Some g) s = g == s

abbrev pub submitted : ℕ → End → End
submitted serial e = record {
  next = after e.next;
  sending = Some (record { sequence = e.next; serial = serial; beats = 0 });
  got = e.got;
}

abbrev pub kept_if : Bool → Sending → Option Sending
kept_if true x = None
kept_if false x = Some x

abbrev pub unless_acked : ℕ → Option Sending → Option Sending
unless_acked s None = None
unless_acked s (Some x) = kept_if (x.sequence == s) x

-- one beat: given up at the twelfth, sent again at the third, sixth and ninth
abbrev pub older : Sending → Sending
older x = record { sequence = x.sequence; serial = x.serial; beats = x.beats + 1 }

abbrev pub aged : Option Sending → Option Sending
aged None = None
aged (Some x) = kept_if (x.beats + 1 == 12) (older x)

abbrev pub is_due : ℕ → Bool
is_due b = (b == 3) || (b == 6) || (b == 9)

abbrev pub one_if : Bool → Message → List Message
one_if true m = m ∷ []
one_if false m = []

abbrev pub again : (ℕ → ℕ → Message) → Option Sending → List Message
again make None = []
again make (Some x) = one_if (is_due (x.beats + 1)) (make x.sequence x.serial)

-- the count of beats, modulo 16
abbrev pub counted : Bool → ℕ → ℕ
counted true c = 0
counted false c = c + 1

-- an announcement where the count is 1 and nothing was executed
abbrev pub hello_words : Bool → Bool → List Message
hello_words true true = Hello ∷ []
hello_words true false = []
hello_words false b = []
