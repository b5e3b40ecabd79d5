-- A sender and a receiver, and two directions between them that keep order, and may lose words and repeat them.
use Rattle.std.specs.Prelude.{◌≡◌, ◌⊎◌, ℕ, zero, suc, ◌-◌, ◌<◌, ◌||◌, ◌++◌, Bool, true, false, List, [], ◌∷◌, length, Option, Some, None, is_some, if◌then◌else◌, ⊤}
use Rattle.exb_ecp.specs.declared.stop_and_wait.Beat.{Beat as Due}
use Rattle.exb_ecp.specs.declared.stop_and_wait.Beat.TheVariants as due
use Rattle.exb_ecp.specs.Calls.{Call, Received, called}
use Rattle.exb_ecp.specs.StopAndWait.{Sending, State, new_state, submitted, stopped, acknowledged, heard, is_fresh, beaten, beat_of}

-- what was submitted: its number, counted from 0, tells it from others with the same payload
pub record Item : Type 0 where
  pub number : ℕ
  pub payload : List ℕ

-- a request on its way; no step looks at the number
pub record Request : Type 0 where
  pub sequence : ℕ
  pub item : Item

pub record Line : Type 0 where
  pub sender : State
  pub receiver : State
  -- requests, and the sequences of acknowledgements, on their way: what was sent first stands first
  pub requests : List Request
  pub acknowledgements : List ℕ
  -- all that was submitted, and all that was handed up: the newest stands first
  pub submitted : List Item
  pub handed : List Item
  -- whether something was ever stopped or given up before it was acknowledged
  pub dropped : Bool

pub data Step : Type 0 where
  -- the sender submits a payload, in place of what it sends, or stops, or a beat passes there
  Submit : List ℕ → Step
  Stop : Step
  Beat : Step
  -- the first request comes to the receiver, and stays on its way too or not; or one is lost
  Receive : Bool → Step
  LoseRequest : ℕ → Step
  -- likewise the acknowledgements on their way to the sender
  Hear : Bool → Step
  LoseAcknowledgement : ℕ → Step
  -- meanwhile, for the opposite way: a request comes to the sender's end, and the receiver's end makes a call for what
  -- it sends
  OtherRequest : ℕ → Step
  OtherCall : Call → Step

-- without the word at a place
abbrev pub without : {A : Type 0} → ℕ → List A → List A
without place [] = []
without zero (w ∷ ws) = ws
without (suc place) (w ∷ ws) = w ∷ without place ws

-- a first word that came and stays, or doesn't
abbrev pub left_over : {A : Type 0} → Bool → A → List A → List A
left_over true w ws = w ∷ ws
left_over false w ws = ws

-- what is sent goes on its way, as the item of this number
abbrev pub sent : ℕ → Option Sending → List Request
sent number None = []
sent number (Some x) = record { sequence = x.sequence; item = record { number = number; payload = x.payload } } ∷ []

abbrev pub sent_again : Due → ℕ → Option Sending → List Request
sent_again due.Nothing number sending = []
sent_again due.SendAgain number sending = sent number sending
sent_again due.GaveUp number sending = []

abbrev pub gives_up : Due → Bool
gives_up due.Nothing = false
gives_up due.SendAgain = false
gives_up due.GaveUp = true

abbrev pub submits : List ℕ → Line → Line
submits payload l = record l {
  sender = submitted payload l.sender;
  requests = l.requests ++ sent (length l.submitted) (submitted payload l.sender).sending;
  submitted = record { number = length l.submitted; payload = payload } ∷ l.submitted;
  dropped = l.dropped || is_some l.sender.sending;
}

abbrev pub stops : Line → Line
stops l = record l { sender = stopped l.sender; dropped = l.dropped || is_some l.sender.sending }

-- what is sent again is what was submitted last
abbrev pub beats : Line → Line
beats l = record l {
  sender = beaten l.sender;
  requests = l.requests ++ sent_again (beat_of l.sender.sending) (length l.submitted - 1) l.sender.sending;
  dropped = l.dropped || gives_up (beat_of l.sender.sending);
}

-- the receiver acknowledges each request that comes, and hands it up if it is fresh
abbrev pub receives : Bool → List Request → Line → Line
receives keep [] l = l
receives keep (r ∷ rs) l = record l {
  receiver = heard r.sequence l.receiver;
  requests = left_over keep r rs;
  acknowledgements = l.acknowledgements ++ r.sequence ∷ [];
  handed = if is_fresh r.sequence l.receiver then r.item ∷ l.handed else l.handed;
}

abbrev pub hears : Bool → List ℕ → Line → Line
hears keep [] l = l
hears keep (a ∷ rest) l = record l { sender = acknowledged a l.sender; acknowledgements = left_over keep a rest }

abbrev pub sending_call : Call → State → State
sending_call (Received sequence) s = s
sending_call c s = called c s

abbrev pub stepped : Step → Line → Line
stepped (Submit payload) l = submits payload l
stepped Stop l = stops l
stepped Beat l = beats l
stepped (Receive keep) l = receives keep l.requests l
stepped (LoseRequest place) l = record l { requests = without place l.requests }
stepped (Hear keep) l = hears keep l.acknowledgements l
stepped (LoseAcknowledgement place) l = record l { acknowledgements = without place l.acknowledgements }
stepped (OtherRequest sequence) l = record l { sender = heard sequence l.sender }
stepped (OtherCall c) l = record l { receiver = sending_call c l.receiver }

abbrev pub new_line : Line
new_line = record {
  sender = new_state;
  receiver = new_state;
  requests = [];
  acknowledgements = [];
  submitted = [];
  handed = [];
  dropped = false;
}

-- the line after steps, of which the first comes first
abbrev pub run : Line → List Step → Line
run l [] = l
run l (s ∷ ss) = run (stepped s l) ss

-- each member is one of the others, in their order
abbrev pub IsSubsequence : List Item → List Item → Type 0
IsSubsequence [] ys = ⊤
IsSubsequence (x ∷ xs) [] = ⊥
IsSubsequence (x ∷ xs) (y ∷ ys) = ((x ≡ y) × IsSubsequence xs ys) ⊎ IsSubsequence (x ∷ xs) ys

-- numbers fall from the newest on, so that no item stands there twice
abbrev pub FallsBelow : ℕ → List Item → Type 0
FallsBelow n [] = ⊤
FallsBelow n (i ∷ is) = (i.number < n) × FallsBelow i.number is

pub record InOrder (l : Line) : Type 0 where
  pub subsequence : IsSubsequence l.handed l.submitted
  pub once : FallsBelow (length l.submitted) l.handed
  -- nothing was stopped or given up: all but the last ones, and all of them where nothing is sent
  pub prefix : l.dropped ≡ false → (rest : List Item) × (l.submitted ≡ rest ++ l.handed)
  pub all : l.dropped ≡ false → l.sender.sending ≡ None → l.handed ≡ l.submitted
