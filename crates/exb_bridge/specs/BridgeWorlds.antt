-- The world of the machine for which the parts of a network stand, and how steps are done in it.
use Rattle.std.specs.Prelude.{◌≡◌, ℕ, ◌++◌, true, false, List, [], ◌∷◌, map, flat_map, slice_index}
use Rattle.exb_model.specs.Traces.{TraceLine}
use Rattle.exb_model.specs.Tree.{is_extender}
use Rattle.exb_ecp.specs.StopAndWait.{State as Ecp}
use Rattle.exb_link.specs.declared.link_frame.LinkFrame.{LinkFrame}
use Rattle.exb_learn.specs.Entries.{Entries, table_of}
use Rattle.exb_control.specs.Controls.{Parts, state_of}
use Rattle.exb_world_spec.specs.Worlds.{World}
use Rattle.exb_world_spec.specs.Worlds.{Left as Leaving}
use Rattle.exb_world_spec.specs.Effects.{Effect}
use Rattle.exb_world_spec.specs.TraceLines.{all_told}
use Rattle.exb_outbox.specs.declared.log.Left.{Left}
use Rattle.exb_outbox.specs.declared.log.Log.{Log}
use Rattle.exb_outbox.specs.PortMaps.{ports_in}
use Rattle.exb_link.specs.Links.{words_of}
use Rattle.exb_extender.specs.Extenders.{Devices, far_of, has_extender}
use Rattle.exb_ecp.specs.Ends.{near_of}
use Rattle.exb_bridge.specs.Indices.{next_of}
use Rattle.exb_outbox.specs.Logs.{if_tracing}
use Rattle.exb_bridge.specs.declared.bridge.Bridge.{Bridge}
use Rattle.exb_bridge.specs.TreeIndexes.{Site, limits_in}

-- ---- the parts
-- What of a network the bridge neither sees nor touches: the extenders, what is on its way up, the index of the next
-- record of each port, and the beats. All that the bridge does, it does whatever these are.
pub record Rest : Type 0 where
  pub far : Devices
  pub up : List (List LinkFrame)
  pub next : List ℕ
  pub beats : ℕ

-- all parts: those of the bridge, and the rest
pub record Whole : Type 0 where
  pub control : Parts
  pub learned : Entries
  pub near : List Ecp
  pub down : List (List LinkFrame)
  pub far : Devices
  pub up : List (List LinkFrame)
  pub next : List ℕ
  pub beats : ℕ

abbrev pub whole : Rest → Bridge → Whole
whole r b = record {
  control = b.control;
  learned = b.learned;
  near = b.near;
  down = b.down;
  far = r.far;
  up = r.up;
  next = r.next;
  beats = r.beats;
}

-- ---- the world
abbrev pub world_in : Whole → World
world_in c =
    record {
      control = state_of c.control;
      table = table_of c.learned;
      near = near_of c.near;
      far = far_of c.far;
      down = words_of c.down;
      up = words_of c.up;
      next = next_of c.next;
      beats = c.beats;
    }

-- The parts are of this site: its tree and limits are those of the control, exactly its extenders are there, each with
-- its ports, and memory hasn't run out in the control.
pub record IsAt (s : Site) (c : Whole) : Type 0 where
  pub shape : c.control.active.shape ≡ s.tree
  pub limits : c.control.active.limits ≡ limits_in s
  pub awake : c.control.failed ≡ false
  pub there : (n : ℕ) → is_extender s.tree n ≡ true → has_extender c.far n ≡ true
  pub only : (n : ℕ) → has_extender c.far n ≡ true → is_extender s.tree n ≡ true
  pub ports : (n : ℕ) → is_extender s.tree n ≡ true → (far_of c.far n).tables.ports ≡ slice_index s.tree.ports n

-- ---- what is done
-- a frame that left, at each port of its row
abbrev pub copies_at : ℕ → List ℕ → List ℕ → List Leaving
copies_at moment bytes ports = map (λ q. record { port = q; moment = moment; bytes = bytes }) ports

abbrev pub copies_of : Left → List Leaving
copies_of x = copies_at x.moment x.bytes (ports_in x.row)

abbrev pub all_left : List Left → List Leaving
all_left xs = flat_map copies_of xs

-- A frame has left, and the line of what went out is gathered; nothing else is told.
pub record HasLeft (x : Leaving) (line : TraceLine) (old new : Log) : Type 0 where
  pub left : all_left new.left ≡ all_left old.left ++ x ∷ []
  pub outs : new.outs.items ≡ old.outs.items ++ if_tracing old.tracing (line ∷ [])
  pub events : new.events ≡ old.events
  pub passed : new.passed ≡ old.passed
  pub lines : new.lines ≡ old.lines
  pub tracing : new.tracing ≡ old.tracing

-- Nothing is added to the trace.
pub record KeepsTrace (old new : Log) : Type 0 where
  pub outs : new.outs.items ≡ old.outs.items
  pub lines : new.lines ≡ old.lines
  pub tracing : new.tracing ≡ old.tracing

-- The world is that of the effect, and what it tells stands behind what was told before; so do the lines of what it
-- sends, where a trace is kept, among those of the step that is being made. The site is the same.
pub record Does (e : Effect) (s : Site) (c : Whole) (old new : Log) : Type 0 where
  pub world : world_in c ≡ e.world
  pub events : new.events ≡ old.events ++ e.events
  pub passed : new.passed ≡ old.passed ++ e.passed
  pub left : all_left new.left ≡ all_left old.left ++ e.left
  pub outs : new.outs.items ≡ old.outs.items ++ if_tracing old.tracing (all_told e.outs)
  pub lines : new.lines ≡ old.lines
  pub tracing : new.tracing ≡ old.tracing
  pub at : IsAt s c
