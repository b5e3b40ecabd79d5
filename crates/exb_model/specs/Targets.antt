-- Where a frame goes (IEEE 802.1Q-2011, clause 8.6). Isolation is this project's own.
use Rattle.std.specs.Prelude.{ℕ, Bool, true, ◌==◌, not, ◌&&◌, if◌then◌else◌, List, Option, Some, None, option_map, find, filter_map}
use Rattle.exb_model.specs.declared.vlan.Kind.{Kind}
use Rattle.exb_model.specs.declared.rules.StaticAt.{StaticAt}
use Rattle.exb_model.specs.Ports.{port_in, all_ports}
use Rattle.exb_model.specs.Frames.{destination, is_group}
use Rattle.exb_model.specs.Configuration.{Bridge, is_for}
use Rattle.exb_model.specs.Learning.{Look, passes}

abbrev pub static_for : List StaticAt → ℕ → List ℕ → Option StaticAt
static_for es v m = find (is_for v m) es

-- the port is chosen: by the static entry, else as the learned port, else as all are
abbrev pub is_chosen_by : Option StaticAt → Option ℕ → ℕ → Bool
is_chosen_by (Some e) learned_port q = port_in e.ports q
is_chosen_by None (Some r) q = q == r
is_chosen_by None None q = true

-- for destination m in VLAN v; a group address is never looked up
abbrev pub is_chosen : Bridge → Look → ℕ → List ℕ → ℕ → Bool
is_chosen b look v m q = is_chosen_by (static_for b.statics v m) (if is_group m then None else look v m) q

abbrev pub both_isolated : Bridge → ℕ → ℕ → Bool
both_isolated b p q = (b.rule p).isolated && (b.rule q).isolated

-- of a frame that passes in VLAN v
abbrev pub target_in : Bridge → Look → ℕ → List ℕ → ℕ → Option ℕ → Option Kind
target_in b look p f q None = None
target_in b look p f q (Some v) =
    if b.present q && not (q == p) && not (both_isolated b p q) && is_chosen b look v (destination f) q
    then b.member v q else None

-- how the frame f that came at port p leaves at port q, if it does, given what is learned before it
unfoldable pub target : Bridge → Look → ℕ → List ℕ → ℕ → Option Kind
target b look p f q = if b.present p then target_in b look p f q (passes b p f) else None

-- Targets(H, p, f), where b is K(H) and look is what is learned after H: each target with its kind
unfoldable pub targets : Bridge → Look → ℕ → List ℕ → List (ℕ × Kind)
targets b look p f = filter_map (λ q. option_map (λ kind. (q, kind)) (target b look p f q)) all_ports
