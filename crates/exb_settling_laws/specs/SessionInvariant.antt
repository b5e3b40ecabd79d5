-- What every step keeps of both ends of the sessions and of the words between them, and what holds of changes and their
-- order.
use Rattle.std.specs.Prelude.{◌≡◌, ℕ, ◌+◌, ◌<◌, ◌^◌, true, false, Some, slice_index}
use Rattle.exb_model.specs.Setup.{Limits}
use Rattle.exb_model.specs.Tree.{Shape, is_extender}
use Rattle.exb_csp.specs.declared.message.Request.{Request}
use Rattle.exb_csp.specs.Sessions.AskingEnd.{AskerState}
use Rattle.exb_extender.specs.Machine.{ExtenderState, is_open}
use Rattle.exb_control_spec.specs.InitialState.{first_held}
use Rattle.exb_world_spec.specs.Worlds.{World}
use Rattle.exb_world_spec.specs.Runs.SessionLaws.{AreBytes}
use Rattle.exb_world_spec.specs.Runs.Simulation.{IsSound}
use Rattle.exb_settling_laws.specs.SettlingFacts.{QueueFacts}
use Rattle.exb_settling_laws.specs.RemainingFacts.{NearLeft, FarLeft}
use Rattle.exb_settling_laws.specs.FramePlaces.{ArePlaced}

-- the extender has its number and its ports
pub record IsDevice (t : Shape) (n : ℕ) (s : ExtenderState) : Type 0 where
  pub number : s.number ≡ n
  pub ports : s.tables.ports ≡ slice_index t.ports n

-- The sessions stand over the words, both ends of each are as they should be, and control words stand on the way of
-- their extenders.
pub record IsGoing (t : Shape) (l : Limits) (w : World) : Type 0 where
  pub sound : IsSound t l w
  pub near : (n : ℕ) → NearLeft (w.near n) (w.control.askers n)
  pub far : (n : ℕ) → is_extender t n ≡ true → FarLeft (w.far n)
  pub devices : (n : ℕ) → is_extender t n ≡ true → IsDevice t n (w.far n)
  pub placed : ArePlaced t (first_held t l) w.down w.up

-- one more request has room in the serials
abbrev pub HasRoom : (ℕ → AskerState) → Type 0
HasRoom askers = (n : ℕ) → (askers n).serial + 1 < 2 ^ 64

-- the first request that an extender is asked is Open
abbrev pub OpensFirst : (ℕ → AskerState) → Type 0
OpensFirst askers = (n : ℕ) (request : Request) → (askers n).waiting ≡ Some request → (askers n).serial ≡ 1
    → is_open request ≡ true

-- Words are bytes and serials have room; an extender that wasn't heard was asked nothing, its first request is Open,
-- and whoever is waited for is reached.
pub record IsOrderly (t : Shape) (w : World) : Type 0 where
  pub bytes : AreBytes w
  pub room : HasRoom w.control.askers
  pub opens : OpensFirst w.control.askers
  pub unheard : (n : ℕ) → is_extender t n ≡ true → w.control.heard n ≡ false → (w.control.askers n).serial ≡ 0
  pub queue : QueueFacts t w w.control.work w.control.queue
