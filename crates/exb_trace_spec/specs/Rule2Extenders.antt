-- Rule 2 of a legal trace: each extender does what the machine of an extender does. It is watched from power-on. What
-- comes in is given to the machine, once nothing more has to go out; and what goes out is the next of what the machine
-- sends. A checker keeps one such watch for each extender.
use Rattle.std.specs.Prelude.{◌≡◌, ℕ, ◌==◌, true, if◌then◌else◌, List, [], ◌∷◌, slice_index}
use Rattle.exb_model.specs.Tree.{Shape, is_extender}
use Rattle.exb_extender.specs.declared.sends.Side.{Side}
use Rattle.exb_extender.specs.declared.sends.Side.TheVariants as side
use Rattle.exb_extender.specs.Forwarding.{Sent}
use Rattle.exb_extender.specs.Machine.{ExtenderState, Input, Arrives, Beats, Reaction, react, at_power_on}
use Rattle.exb_model.specs.Traces.{TraceLine, In, Out, Beat, Journal}

-- the extender's state, and what it still has to send
pub record Watch : Type 0 where
  pub state : ExtenderState
  pub owed : List Sent

-- upstream is 0, and port k is k
abbrev pub side_number : Side → ℕ
side_number side.Up = 0
side_number (side.Port k) = k

abbrev pub side_of : ℕ → Side
side_of k = if k == 0 then side.Up else side.Port k

-- ---- what comes in
abbrev pub watching : Reaction → Watch
watching r = record { state = r.0; owed = r.1 }

abbrev pub given : Input → Watch → Watch
given i x = watching (react i x.state)

-- ---- what goes out
abbrev pub without_first : List Sent → List Sent
without_first [] = []
without_first (s ∷ ss) = ss

abbrev pub IsFirst : ℕ → List ℕ → List Sent → Type 0
IsFirst k f [] = ⊥
IsFirst k f (s ∷ ss) = (side_number s.side ≡ k) × (s.bytes ≡ f)

-- ---- a line
-- the watch of extender n after a line
abbrev pub watched : ℕ → Watch → TraceLine → Watch
watched n x (In m k f) = if m == n then given (Arrives (side_of k) f) x else x
watched n x (Out m k f) = if m == n then record x { owed = without_first x.owed } else x
watched n x Beat = given Beats x
watched n x (Journal text) = x

-- the line may stand there
abbrev pub MayStand : ℕ → Watch → TraceLine → Type 0
MayStand n x (In m k f) = m ≡ n → x.owed ≡ []
MayStand n x (Out m k f) = m ≡ n → IsFirst k f x.owed
MayStand n x Beat = x.owed ≡ []
MayStand n x (Journal text) = Unit {0}

-- ---- all lines
unfoldable pub watched_all : ℕ → Watch → List TraceLine → Watch
watched_all n x [] = x
watched_all n x (l ∷ ls) = watched_all n (watched n x l) ls

unfoldable pub MayFollow : ℕ → Watch → List TraceLine → Type 0
MayFollow n x [] = Unit {0}
MayFollow n x (l ∷ ls) = MayStand n x l × MayFollow n (watched n x l) ls

abbrev pub from_power_on : Shape → ℕ → Watch
from_power_on t n = record { state = at_power_on n (slice_index t.ports n); owed = [] }

-- an extender after a trace
abbrev pub after_trace : Shape → ℕ → List TraceLine → Watch
after_trace t n lines = watched_all n (from_power_on t n) lines

-- each line may stand where it does, and in the end nothing more has to go out
pub record FollowsMachine (t : Shape) (n : ℕ) (lines : List TraceLine) : Type 0 where
  pub each : MayFollow n (from_power_on t n) lines
  pub all_sent : (after_trace t n lines).owed ≡ []

abbrev pub FollowMachines : Shape → List TraceLine → Type 0
FollowMachines t lines = (n : ℕ) → is_extender t n ≡ true → FollowsMachine t n lines
