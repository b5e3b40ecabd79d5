-- A frame that leaves an extender without its E-TAG, at each port of a row.
use Rattle.std.specs.Prelude.{◌≡◌, ℕ, ◌<◌, ◌≤◌, ◌++◌, List, [], ◌∷◌, Option, None, length, map}
use Rattle.std.specs.List.{AllByRecursion}
use Rattle.exb_csp.specs.AllTables.{port_of}
use Rattle.exb_extender.specs.declared.sends.Form.TheVariants.{Stripped}
use Rattle.exb_extender.specs.declared.sends.Out.{Out}
use Rattle.exb_extender.specs.declared.sends.Side.TheVariants.{Port}
use Rattle.exb_extender.specs.Forwarding.{Sent}
use Rattle.exb_extender.specs.SentFrames.{out_sent}
use Rattle.exb_link.specs.declared.link_frame.Stamp.{Stamp}
use Rattle.exb_world_spec.specs.Effects.{Effect, each}
use Rattle.exb_world_spec.specs.ExtenderSteps.{hung_on, sends}
use Rattle.exb_model.specs.Tree.{port_number, Shape, device}
use Rattle.exb_model.specs.ETags.{stripped}
use Rattle.exb_outbox.specs.declared.log.Log.{Log}
use Rattle.exb_bridge.specs.RemainingEffects.{Leads}
use Rattle.exb_outbox.specs.PortMaps.{Row, ports_in}
use Rattle.exb_bridge.specs.TreeIndexes.{Site}
use Rattle.exb_bridge.specs.BridgeWorlds.{Whole, world_in, IsAt}

-- what is sent of a frame that goes out without its E-TAG at these ports
abbrev pub row_sent : List ℕ → List ℕ → List Sent
row_sent f ports = map (λ q. record { side = Port (port_number q); bytes = stripped f }) ports

-- It is a port of extender n on which none hangs, and the frame has an E-TAG that can be taken out.
pub record IsOuter (t : Shape) (n : ℕ) (f : List ℕ) (q : ℕ) : Type 0 where
  pub device : device q ≡ n
  pub bare : hung_on t q ≡ None
  pub long : 20 ≤ length f

abbrev pub AreOuter : Shape → ℕ → List ℕ → List ℕ → Type 0
AreOuter t n f ports = AllByRecursion (IsOuter t n f) ports

-- port k of extender n, on which none hangs, is behind those of a row
pub record JoinsAt (t : Shape) (n k : ℕ) (old new : Row) : Type 0 where
  pub bare : hung_on t (port_of n k) ≡ None
  pub device : new.device ≡ n
  pub ports : ports_in new ≡ ports_in old ++ port_of n k ∷ []

-- so it is of a port where a frame goes out without its E-TAG
pub record Joins (t : Shape) (n : ℕ) (out : Out) (old new : Row) : Type 0 where
  pub port : ℕ
  pub some : 0 < port
  pub low : port ≤ 64
  pub is : out ≡ record { to = Port port; form = Stripped }
  pub at : JoinsAt t n port old new

-- Before, a frame was still to leave at the ports of a row, then to go out in a form, and then the rest was to be done.
-- Now it is to leave at those of another row, and then the rest is to be done.
pub record GoesBehind (s : Site) (stamp : Option Stamp) (f : List ℕ) (out : Out) (old new : Row) (c d : Whole)
    (before after : Log) : Type 0 where
  pub at : IsAt s d
  pub leads : (whole : Effect) (first : Log) (rest : List Sent)
      → Leads whole (each (sends s.tree old.device stamp) (row_sent f (ports_in old) ++ out_sent f out ∷ rest)
      (world_in c)) first before
      → Leads whole (each (sends s.tree old.device stamp) (row_sent f (ports_in new) ++ rest) (world_in d)) first after
