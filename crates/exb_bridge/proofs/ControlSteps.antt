-- How the world changes when the control of a network makes a step.
use Rattle.std.proofs.Common.{◌≡◌, ℕ, List, ap, sym, ◌∙◌}
use Rattle.exb_learn.specs.Calls.{Table}
use Rattle.exb_learn.specs.Entries.{Entries, table_of}
use Rattle.exb_control_spec.specs.Machine.{State, Moved}
use Rattle.exb_control.specs.declared.outbox.Outbox.{Outbox}
use Rattle.exb_control.specs.Controls.{Parts}
use Rattle.exb_control.specs.CallEffects.{IsMoved}
use Rattle.exb_world_spec.specs.Worlds.{World, with_control, with_table}
use Rattle.exb_world_spec.specs.BridgeLearning.{forgotten_all}
use Rattle.exb_bridge.specs.BridgeWorlds.{Whole}
use Rattle.exb_extender.specs.Extenders.{Devices, far_of, has_extender}
use Rattle.exb_bridge.specs.TreeIndexes.{Site}
use Rattle.exb_bridge.specs.BridgeWorlds.{world_in, IsAt}

-- ---- the site
-- the control has made a step
pub at_moved : (s : Site) (c d : Whole) (m : Moved) (out : Outbox) → IsMoved m c.control d.control out → d.far ≡ c.far → IsAt s c → IsAt s d
at_moved s c d m out moved far at =
    record {
      shape = moved.shape ∙ at.shape;
      limits = moved.limits ∙ at.limits;
      awake = moved.failed ∙ at.awake;
      there = λ n e. ap (λ (x : Devices). has_extender x n) far ∙ at.there n e;
      only = λ n e. at.only n (sym (ap (λ (x : Devices). has_extender x n) far) ∙ e);
      ports = λ n e. ap (λ (x : Devices). (far_of x n).tables.ports) far ∙ at.ports n e;
    }

-- ---- the world
pub moved_is : (m : Moved) (c : Whole) (p : Parts) (out : Outbox) → IsMoved m c.control p out → world_in (record c { control = p }) ≡ with_control m.state (world_in c)
moved_is m c p out moved = ap (λ (s : State). record (world_in c) { control = s }) moved.state

-- ---- what is learned
module _ (c : Whole) (l : Entries) where
  pub learned_world : (u : Table) → table_of l ≡ u → world_in (record c { learned = l }) ≡ with_table u (world_in c)
  learned_world u is = ap (λ (v : Table). record (world_in c) { table = v }) is

  pub learned_at : (s : Site) → IsAt s c → IsAt s (record c { learned = l })
  learned_at s at = record { shape = at.shape; limits = at.limits; awake = at.awake; there = at.there; only = at.only; ports = at.ports }

  -- the ports that went down are forgotten
  pub forgets : (m : Moved) (downs : List ℕ) (w : World) → table_of l ≡ forgotten_all downs (table_of c.learned) → world_in c ≡ with_control m.state w → downs ≡ m.downs →
      world_in (record c { learned = l }) ≡ with_table (forgotten_all m.downs w.table) (with_control m.state w)
  forgets m downs w forgotten is same =
      learned_world (forgotten_all downs (table_of c.learned)) forgotten
      ∙ ap (λ (v : World). record v { table = forgotten_all downs v.table }) is
      ∙ ap (λ (ps : List ℕ). with_table (forgotten_all ps w.table) (with_control m.state w)) same
