-- What stands on the links and what the ends of the transport send is bytes, and short.
use Rattle.std.specs.Prelude.{◌≡◌, ℕ, ◌≤◌, true, List, length, Some}
use Rattle.exb_model.specs.Tree.{Shape}
use Rattle.exb_model.specs.Setup.{Limits}
use Rattle.exb_model.specs.Configuration.{Bridge}
use Rattle.exb_config.specs.Pvids.{HasPvids}
use Rattle.exb_ecp.specs.StopAndWait.{Sending, State as Ecp, IsSound as IsSoundEnd}
use Rattle.exb_model.specs.Frames.{IsBytes}
use Rattle.exb_extender.specs.Forwarding.{is_bare_control}
use Rattle.exb_link.specs.declared.link_frame.LinkFrame.{LinkFrame}
use Rattle.exb_control_spec.specs.Runs.PlannedChanges.{IsSetting}
use Rattle.exb_world_spec.specs.Worlds.{World, Step, first_world}
use Rattle.exb_world_spec.specs.Steps.{stepped}
use Rattle.exb_world_spec.specs.AllowedSteps.{Can}
use Rattle.exb_world_spec.specs.Runs.Sessions.{Each, AreLow}
use Rattle.exb_world_spec.specs.Runs.Simulation.{IsSound}
use Rattle.exb_world_spec.specs.Runs.SessionLaws.{HasBytes, AreBytes}

-- a frame on its way down
pub record IsDownward (f : List ℕ) : Type 0 where
  pub bytes : IsBytes f
  pub short : length f ≤ 9232

-- one on its way up; a control frame without an E-TAG leaves room for one
pub record IsUpward (f : List ℕ) : Type 0 where
  pub bytes : IsBytes f
  pub short : length f ≤ 9232
  pub bare : is_bare_control f ≡ true → length f ≤ 1100

-- what an end sends is bytes
pub record SendsBytes (e : Ecp) : Type 0 where
  pub payload : (x : Sending) → e.sending ≡ Some x → IsBytes x.payload

-- So is each word on the links and what each end sends; and the bridge's ends are as calls leave them, so that
-- sequences have two bytes and payloads at most 1,024.
pub record AreWritten (w : World) : Type 0 where
  pub downs : (n : ℕ) → Each (λ (x : LinkFrame). IsDownward x.bytes) (w.down n)
  pub ups : (n : ℕ) → Each (λ (x : LinkFrame). IsUpward x.bytes) (w.up n)
  pub ends : (n : ℕ) → IsSoundEnd (w.near n)
  pub asking : (n : ℕ) → SendsBytes (w.near n)
  pub answering : (n : ℕ) → SendsBytes (w.far n).ecp

-- ---- the laws
-- It is so as a world begins.
abbrev pub BeginsWritten : Type 0
BeginsWritten = (t : Shape) (l : Limits) (b : Bridge) (ageing : ℕ) → AreWritten (first_world t l b ageing)

-- Each step that may be made keeps it, where a frame that arrives is a list of bytes, and PVIDs are VLANs.
abbrev pub StepsStayWritten : Type 0
StepsStayWritten =
    (t : Shape) (l : Limits) → IsSetting t l → (w : World) (step : Step) → IsSound t l w → HasPvids w.control.bridge
    → Can t w step → HasBytes step →
    AreLow w.control.askers → AreLow (stepped t l step w).world.control.askers → AreWritten w
    → AreWritten (stepped t l step w).world

-- So each word on a link is a list of bytes, and of at most 9,232: the longest frame that leaves has 9,220, and an
-- E-TAG has 8.
pub record AreShort (w : World) : Type 0 where
  pub downs : (n : ℕ) → Each (λ (x : LinkFrame). length x.bytes ≤ 9232) (w.down n)
  pub ups : (n : ℕ) → Each (λ (x : LinkFrame). length x.bytes ≤ 9232) (w.up n)

abbrev pub WrittenAreShort : Type 0
WrittenAreShort = (w : World) → AreWritten w → AreBytes w × AreShort w
