-- What the words between the two ends may be.
use Rattle.std.specs.Prelude.{◌≡◌, ◌⊎◌, ℕ, ◌+◌, ◌<◌, List, [], ◌∷◌, Option, Some, None, ⊤}
use Rattle.exb_settling_laws.specs.StopAndWait.{Message, Request, Answer, Ack, Hello, Sending}
use Rattle.exb_ecp.specs.StopAndWait.{after}

-- a request is the one of this sequence and serial
abbrev pub IsDown : ℕ → ℕ → Message → Type 0
IsDown sequence serial (Request s k) = (s ≡ sequence) × (k ≡ serial)
IsDown sequence serial (Answer s k) = ⊤
IsDown sequence serial (Ack s) = ⊤
IsDown sequence serial Hello = ⊤

-- an answer is the one of this sequence and serial
abbrev pub IsUp : ℕ → ℕ → Message → Type 0
IsUp sequence serial (Request s k) = ⊤
IsUp sequence serial (Answer s k) = (s ≡ sequence) × (k ≡ serial)
IsUp sequence serial (Ack s) = ⊤
IsUp sequence serial Hello = ⊤

abbrev pub IsNoAnswer : Message → Type 0
IsNoAnswer (Request s k) = ⊤
IsNoAnswer (Answer s k) = ⊥
IsNoAnswer (Ack s) = ⊤
IsNoAnswer Hello = ⊤

abbrev pub IsNoRequest : Message → Type 0
IsNoRequest (Request s k) = ⊥
IsNoRequest (Answer s k) = ⊤
IsNoRequest (Ack s) = ⊤
IsNoRequest Hello = ⊤

abbrev pub HasAnswer : List Message → Type 0
HasAnswer [] = ⊥
HasAnswer (Request s k ∷ ms) = HasAnswer ms
HasAnswer (Answer s k ∷ ms) = ⊤
HasAnswer (Ack s ∷ ms) = HasAnswer ms
HasAnswer (Hello ∷ ms) = HasAnswer ms

abbrev pub HasRequest : List Message → Type 0
HasRequest [] = ⊥
HasRequest (Request s k ∷ ms) = ⊤
HasRequest (Answer s k ∷ ms) = HasRequest ms
HasRequest (Ack s ∷ ms) = HasRequest ms
HasRequest (Hello ∷ ms) = HasRequest ms

-- what is sent has the sequence before the next one, and this serial
abbrev pub IsCurrent : ℕ → ℕ → Option Sending → Type 0
IsCurrent next serial None = ⊤
IsCurrent next serial (Some x) = (after x.sequence ≡ next) × (x.serial ≡ serial)

-- a request of this serial is executed or answered again by an extender whose last one is this
abbrev pub IsTold : ℕ → ℕ → Type 0
IsTold serial last = (serial ≡ last + 1) ⊎ ((serial ≡ last) × (0 < last))
