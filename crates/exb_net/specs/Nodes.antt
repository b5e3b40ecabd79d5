-- What becomes of one bridge: as it begins, as a frame arrives, as a command is given, and as seconds pass.
use Rattle.std.specs.Prelude.{◌≡◌, ◌++◌, ℕ, false, List, [], ◌∷◌, All}
use Rattle.exb_model.specs.declared.setup.Setup.{Setup}
use Rattle.exb_model.specs.declared.arrival.Arrival.{Arrival}
use Rattle.exb_model.specs.Setup.{limits_of, shape_of}
use Rattle.exb_model.specs.Tree.{external_ports}
use Rattle.exb_world_spec.specs.Worlds.{Step, Arrive, Tick, Left}
use Rattle.exb_world_spec.specs.Runs.ReachedWorlds.{HasVid, beginning}
use Rattle.exb_world.specs.WorldContracts.{Network, IsQuiet, IsSame, IsStepped, bounds_of, tree_of, world_of}
use Rattle.exb_bridge.specs.BridgeWorlds.{all_left}
use Rattle.exb_schedule.specs.PlayedSegments.{IsPlayedOut}
use Rattle.exb_net_spec.specs.declared.wires.Wire.{Wire}
use Rattle.exb_net.specs.declared.crossing.Crossing.{Crossing}
use Rattle.exb_net.specs.declared.wired_ports.WiredPort.{WiredPort}
use Rattle.exb_net.specs.Crossings.{all_crossing}
use Rattle.exb_net.specs.WiredPorts.{ends_over, next_in, sent_over}

-- The frame arrived, and all settled and was marked. What has left the wired ports since stands at the end of the
-- queue.
pub record HasEntered (a : Arrival) (ends : List WiredPort) (old new : Network) (before after : List Crossing) : Type 0
  where
    pub played : IsPlayedOut (Arrive a ∷ []) old new
    pub sent : (gone : List Left) → all_left new.log.left ≡ all_left old.log.left ++ gone
        → all_crossing after ≡ all_crossing before ++ sent_over gone ends

-- a frame that crossed a wire as it arrives, with the next index of its port
abbrev pub come_as : List WiredPort → Crossing → Arrival
come_as ends x = record { port = x.to.port; index = next_in ends x.to.port; moment = x.moment; bytes = x.bytes }

-- These steps were made, all settled and was marked; its wired ports are as they were.
pub record HasDone (steps : List Step) (old new : Network) (before after : List WiredPort) : Type 0 where
  pub played : IsPlayedOut steps old new
  pub ends : after ≡ before

-- Seconds passed; its wired ports are as they were.
pub record HasPassed (seconds : ℕ) (old new : Network) (before after : List WiredPort) : Type 0 where
  pub stepped : IsStepped (Tick seconds) old new
  pub ends : after ≡ before

-- What was told and has left is forgotten, and nothing else changed.
pub record HasForgotten (old new : Network) (before after : List WiredPort) : Type 0 where
  pub world : world_of new ≡ world_of old
  pub same : IsSame old new
  pub quiet : IsQuiet new
  pub ends : after ≡ before

-- It is as a setup begins: nothing has happened to it, and no frame has arrived at its wired ports.
pub record IsFirst (wires : List Wire) (b : ℕ) (s : Setup) (w : Network) (wired : List WiredPort) : Type 0 where
  pub tree : tree_of w ≡ shape_of s
  pub limits : bounds_of w ≡ limits_of s
  pub world : world_of w ≡ beginning s
  pub quiet : IsQuiet w
  pub awake : w.failed ≡ false
  pub ends : wired ≡ ends_over wires b (λ q. 1) (external_ports (shape_of s))
  pub vids : All HasVid s.start
