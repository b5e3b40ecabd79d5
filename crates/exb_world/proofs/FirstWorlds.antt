-- How a network begins.
use Rattle.std.proofs.Common.{◌≡◌, ℕ, true, false, List, [], refl, ap, sym, ◌∙◌}
use Rattle.std.specs.Prelude.{slice_index}
use Rattle.exb_model.specs.declared.setup.Setup.{Setup}
use Rattle.exb_model.specs.Setup.{shape_of, start_of, limits_of}
use Rattle.exb_model.specs.Tree.{Shape, is_extender}
use Rattle.exb_csp.specs.PortMasks.{powered_on}
use Rattle.exb_ecp.specs.StopAndWait.{State as Ecp, new_state}
use Rattle.exb_extender.specs.Machine.{ExtenderState, at_power_on}
use Rattle.exb_link.specs.declared.link_frame.LinkFrame.{LinkFrame}
use Rattle.exb_learn.specs.Calls.{Table, empty_table}
use Rattle.exb_learn.specs.Entries.{table_of}
use Rattle.exb_control_spec.specs.Machine.{State}
use Rattle.exb_control.specs.Controls.{state_of, first_of}
use Rattle.exb_world_spec.specs.Worlds.{World, first_world}
use Rattle.exb_bridge.specs.BridgeWorlds.{Whole}
use Rattle.exb_extender.specs.Extenders.{far_of, first_far, has_extender}
use Rattle.exb_link.specs.Links.{words_of}
use Rattle.exb_ecp.specs.Ends.{near_of}
use Rattle.exb_bridge.specs.Indices.{next_of}
use Rattle.exb_bridge.specs.TreeIndexes.{Site, limits_in}
use Rattle.exb_bridge.specs.BridgeWorlds.{world_in, IsAt}
use Rattle.exb_model.proofs.NumberedTables.{alike}

abbrev world_from : State → Table → (ℕ → Ecp) → (ℕ → ExtenderState) → (ℕ → List LinkFrame) → (ℕ → List LinkFrame) → (ℕ → ℕ) → World
world_from s u near far down up next = record { control = s; table = u; near = near; far = far; down = down; up = up; next = next; beats = 0 }

same_world : (s s' : State) (u u' : Table) (near near' : ℕ → Ecp) (far far' : ℕ → ExtenderState) (down down' up up' : ℕ → List LinkFrame) (next next' : ℕ → ℕ) →
    s ≡ s' → u ≡ u' → near ≡ near' → far ≡ far' → down ≡ down' → up ≡ up' → next ≡ next' → world_from s u near far down up next ≡ world_from s' u' near' far' down' up' next'
same_world s s' u u' near near' far far' down down' up up' next next' a b c d e f g = rw (a, b, c, d, e, f, g) refl

pub begins : (x : Setup) (c : Whole) → c.beats ≡ 0 → state_of c.control ≡ first_of x → table_of c.learned ≡ empty_table x.ageing → near_of c.near ≡ alike new_state →
    far_of c.far ≡ first_far (shape_of x) → words_of c.down ≡ alike [] → words_of c.up ≡ alike [] → next_of c.next ≡ alike 1 →
    world_in c ≡ first_world (shape_of x) (limits_of x) (start_of x) x.ageing
begins x c beats control table near far down up next =
    ap (λ (n : ℕ). record (world_in c) { beats = n }) beats
    ∙ same_world (state_of c.control) (first_of x) (table_of c.learned) (empty_table x.ageing) (near_of c.near) (alike new_state) (far_of c.far) (first_far (shape_of x))
    (words_of c.down) (alike []) (words_of c.up) (alike []) (next_of c.next) (alike 1) control table near far down up next

-- an extender at power-on has its ports
ports_on : (n ports : ℕ) → (at_power_on n ports).tables.ports ≡ ports
unfolding powered_on
ports_on n ports = refl

pub begins_at : (x : Setup) (c : Whole) → c.control.active.shape ≡ shape_of x → c.control.active.limits ≡ limits_of x → c.control.failed ≡ false → far_of c.far ≡ first_far (shape_of x) →
    ((n : ℕ) → is_extender (shape_of x) n ≡ true → has_extender c.far n ≡ true) → ((n : ℕ) → has_extender c.far n ≡ true → is_extender (shape_of x) n ≡ true) → (s : Site) → s.tree ≡ shape_of x → limits_in s ≡ limits_of x → IsAt s c
begins_at x c shape limits awake far there only s tree l =
    record {
      shape = shape ∙ sym tree;
      limits = limits ∙ sym l;
      awake = awake;
      there = λ n is. there n (ap (λ (t : Shape). is_extender t n) (sym tree) ∙ is);
      only = λ n is. ap (λ (t : Shape). is_extender t n) tree ∙ only n is;
      ports = λ n is. ap (λ (f : ℕ → ExtenderState). (f n).tables.ports) far ∙ ports_on n (slice_index (shape_of x).ports n) ∙ ap (λ (t : Shape). slice_index t.ports n) (sym tree);
    }
