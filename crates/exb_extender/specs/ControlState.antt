-- What an extender keeps beside its tables.
use Rattle.std.specs.Prelude.{◌≡◌, ℕ, ◌<◌, ◌≤◌, Bool, false, IfSome}
use Rattle.exb_ecp.specs.StopAndWait.{State, IsSound}
use Rattle.exb_csp.specs.Encoding.{HasSpelling}
use Rattle.exb_csp.specs.Sessions.AnsweringEnd.{AnswererState, is_owing, stored_message}

-- its number, and its session, ECP, count of beats, and whether it was opened
pub record ControlState : Type 0 where
  pub number : ℕ
  pub session : AnswererState
  pub ecp : State
  pub beats : ℕ
  pub opened : Bool

-- what holds of its number, session, ECP and count of beats
pub record IsInOrder (number : ℕ) (session : AnswererState) (ecp : State) (count : ℕ) : Type 0 where
  pub numbered : (1 ≤ number) × (number ≤ 64)
  pub answered : is_owing session ≡ false
  pub spelled : IfSome (stored_message session) HasSpelling
  pub sound : IsSound ecp
  pub beats : count < 16
