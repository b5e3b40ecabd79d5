-- What is learned by a list of calls, the newest first, in the words of the standard's learning process.
use Rattle.std.specs.Prelude.{ℕ, ◌+◌, Bool, false, ◌==◌, ◌&&◌, if◌then◌else◌, List, [], ◌∷◌, Option, Some, None, bytes_eq}
use Rattle.std.specs.List.{list_any}
use Rattle.exb_model.specs.Learning.{Look, kept_unless, live_port}
use Rattle.exb_learn.specs.Calls.{Call, See, Tick, Forget}

-- the sum of the seconds that went by
abbrev pub seconds_of : Call → ℕ
seconds_of (Tick seconds) = seconds
seconds_of _ = 0

abbrev pub clock_after : List Call → ℕ
clock_after [] = 0
clock_after (c ∷ cs) = clock_after cs + seconds_of c

-- a see: its port, the clock at it, and the calls after it
pub record Sighting : Type 0 where
  pub port : ℕ
  pub at : ℕ
  pub since : List Call

abbrev pub followed : Call → Option Sighting → Option Sighting
followed c None = None
followed c (Some s) = Some (record s { since = c ∷ s.since })

-- the last see for a VLAN and an address
abbrev pub last_see : List Call → ℕ → List ℕ → Option Sighting
last_see [] v m = None
last_see (See w n p ∷ cs) v m =
    if w == v && bytes_eq n m then Some (record { port = p; at = clock_after cs; since = [] })
    else followed (See w n p) (last_see cs v m)
last_see (c ∷ cs) v m = followed c (last_see cs v m)

abbrev pub is_forget_of : ℕ → Call → Bool
is_forget_of p (Forget q) = p == q
is_forget_of p _ = false

-- where and when, unless a later forget named the port
abbrev pub unless_forgotten : Option Sighting → Option (ℕ × ℕ)
unless_forgotten None = None
unless_forgotten (Some s) = kept_unless (λ p. list_any (is_forget_of p) s.since) (Some (s.port, s.at))

abbrev pub look_after : ℕ → List Call → Look
look_after ageing cs v m = live_port (clock_after cs) ageing (unless_forgotten (last_see cs v m))
