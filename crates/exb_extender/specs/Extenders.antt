-- The extenders of a network as the world has them: the state of each, by its number.
use Rattle.std.specs.Prelude.{◌≡◌, ◌↔◌, ℕ, ◌==◌, ◌||◌, ◌<◌, Bool, true, false, if◌then◌else◌, List, Option, Some, None, length, slice_get, slice_index}
use Rattle.exb_model.specs.Tree.{Shape}
use Rattle.exb_ecp.specs.StopAndWait.{Sending}
use Rattle.exb_extender.specs.Fields.{Fields, state_of}
use Rattle.exb_extender.specs.Machine.{ExtenderState, at_power_on, beats}
use Rattle.exb_extender.specs.IdleExtender.{rests, rested}
use Rattle.exb_model.specs.DeviceSets.{number_in}

-- By device, how many ports it has, and the extender, where it is one. And how many beats, modulo 16, have passed at
-- those that rest and aren't counted in them yet.
pub record Devices : Type 0 where
  pub ports : List ℕ
  pub extenders : List (Option Fields)
  pub passed : ℕ

-- where there is none, what is there is as at power-on
abbrev pub state_at : Option (Option Fields) → ℕ → ℕ → ExtenderState
state_at (Some (Some f)) n ports = state_of f
state_at (Some None) n ports = at_power_on n ports
state_at None n ports = at_power_on n ports

abbrev pub far_of : Devices → ℕ → ExtenderState
far_of d n = rested d.passed (state_at (slice_get d.extenders n) n (slice_index d.ports n))

-- after a beat, if it rests
abbrev pub if_rests : ExtenderState → ExtenderState
if_rests s = if rests s then (beats s).0 else s

-- all as they begin
abbrev pub first_far : Shape → ℕ → ExtenderState
first_far t n = at_power_on n (slice_index t.ports n)

abbrev pub is_there : Option (Option Fields) → Bool
is_there (Some (Some f)) = true
is_there (Some None) = false
is_there None = false

-- there is an extender of that number
abbrev pub has_extender : Devices → ℕ → Bool
has_extender d n = is_there (slice_get d.extenders n)

-- a device of that number, with so many ports, is an extender at power-on, or none
abbrev pub IsPoweredOn : ℕ → ℕ → Option Fields → Type 0
IsPoweredOn n ports None = (n == 0 || ports == 0) ≡ true
IsPoweredOn n ports (Some f) = ((n == 0 || ports == 0) ≡ false) × (state_of f ≡ at_power_on n ports)

-- the same devices, each with as many ports as before
pub record AreSame (old new : Devices) : Type 0 where
  pub there : (n : ℕ) → has_extender new n ≡ has_extender old n
  pub ports : (n : ℕ) → (far_of new n).tables.ports ≡ (far_of old n).tables.ports

-- what it sends
abbrev pub sent_at : Option (Option Fields) → Option Sending
sent_at (Some (Some f)) = f.ecp.sending
sent_at (Some None) = None
sent_at None = None

-- 1 where there is one that doesn't rest
abbrev pub waits_at : Option (Option Fields) → ℕ
waits_at (Some (Some f)) = if rests (state_of f) then 0 else 1
waits_at (Some None) = 0
waits_at None = 0

-- There is a place for each device. Exactly those that send something are noted by their bits, and exactly those that
-- don't rest; and beats are counted modulo 16.
pub record AreNoted (extenders : List (Option Fields)) (sending waiting passed : ℕ) : Type 0 where
  pub few : length extenders ≡ 65
  pub noted : (n : ℕ) → (number_in sending n ≡ 0) ↔ (sent_at (slice_get extenders n) ≡ None)
  pub waits : (n : ℕ) → number_in waiting n ≡ waits_at (slice_get extenders n)
  pub low : passed < 16
