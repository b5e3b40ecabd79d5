-- What the bridge sends for a frame.
use Rattle.std.specs.Prelude.{◌≡◌, ℕ, ◌≤◌, ◌<◌, ◌++◌, Bool, true, false, if◌then◌else◌, List, [], ◌∷◌, Option, Some, None, IfSome}
use Rattle.exb_model.specs.Configuration.{Bridge}
use Rattle.exb_model.specs.ETags.{TagFits}
use Rattle.exb_model.specs.EagerHistory.{is_relayed, arrival_event}
use Rattle.exb_model.specs.declared.arrival.Arrival.{Arrival}
use Rattle.exb_model.specs.Learning.{passes}
use Rattle.exb_model.specs.Tree.{Shape}
use Rattle.exb_model.specs.Frames.{kind_of, priority_of}
use Rattle.exb_learn.specs.Entries.{Entries, look_of}
use Rattle.exb_relay.specs.Sends.{ingress_of, sends_of}
use Rattle.exb_relay.specs.Spaces.{numbers_of}
use Rattle.exb_control.specs.ActiveConfigs.{ActiveConfig, bridge_in}
use Rattle.exb_frame.specs.declared.egress.VlanTag.{VlanTag}
use Rattle.exb_frame.specs.Egress.{can_leave, priority}
use Rattle.exb_frame.specs.TagValues.{tag_of}
use Rattle.exb_relay.specs.declared.send.Ingress.{Ingress}
use Rattle.exb_relay.specs.declared.send.Ingress.TheVariants as ingress
use Rattle.exb_relay.specs.declared.send.SendTo.{SendTo}
use Rattle.exb_world_spec.specs.BridgeLearning.{taught}
use Rattle.exb_world_spec.specs.Effects.{Effect, only, then_do}
use Rattle.exb_world_spec.specs.DataFrames.{passed_by, sends_all, sends_for}
use Rattle.exb_world_spec.specs.Worlds.{World, with_table}
use Rattle.exb_outbox.specs.declared.log.Log.{Log}
use Rattle.exb_bridge.specs.BridgeWorlds.{KeepsTrace}

-- it is at a port of the bridge, and its E-TAG, if it has one, can be written
pub record CanSend (x : SendTo) : Type 0 where
  pub first : 1 ≤ x.bridge_port
  pub last : x.bridge_port ≤ 64
  pub fits : IfSome x.tag (λ tag. TagFits (tag_of tag))

-- the frame may leave, and has the priority of this VLAN tag
pub record HasPassed (f : List ℕ) (tag : VlanTag) : Type 0 where
  pub kind : can_leave (kind_of f) ≡ true
  pub pcp : tag.pcp < 8
  pub own : priority tag.pcp tag.dei ≡ priority_of (kind_of f)

-- ---- frames that come
-- what became of a frame at its port
abbrev pub ingress_for : Bridge → ℕ → List ℕ → Ingress
ingress_for b p f = if is_relayed b p f then ingress_of b p f else ingress.Dropped

-- the VLAN in which it passes
abbrev pub vid_in : Ingress → Option ℕ
vid_in ingress.Dropped = None
vid_in (ingress.Passed v pcp dei) = Some v

-- what is sent for it, with what is learned before it
abbrev pub sends_by : ActiveConfig → Entries → ℕ → List ℕ → List SendTo
sends_by v learned p f =
    if is_relayed (bridge_in v) p f then sends_of v.shape (bridge_in v) (look_of learned) (numbers_of v.spaces) p f
    else []

-- whether it passed at its port
abbrev pub is_passed : Ingress → Bool
is_passed (ingress.Passed v pcp dei) = true
is_passed ingress.Dropped = false

-- A frame that came is learned from, and nothing is told of it yet.
abbrev pub learns : Arrival → World → Effect
learns a w = only (with_table (taught w.control.bridge a w.table) w)

-- It is learned from, and what is sent for it goes out: all that is done for it but that it is told.
abbrev pub sent_for : Shape → Arrival → World → Effect
sent_for t a w = then_do (learns a w) (sends_all t a (sends_for t w a) (passes w.control.bridge a.port a.bytes))

-- What became of a frame that came is told, and whether it passed if it was relayed. Nothing else is.
pub record HasTold (b : Bridge) (a : Arrival) (old new : Log) : Type 0 where
  pub events : new.events ≡ old.events ++ arrival_event b a ∷ []
  pub passed : new.passed ≡ old.passed ++ passed_by (is_relayed b a.port a.bytes) (passes b a.port a.bytes)
  pub left : new.left ≡ old.left
  pub trace : KeepsTrace old new
