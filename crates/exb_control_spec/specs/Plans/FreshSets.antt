-- How a plan is made: which sets need a new group, and whether there are enough numbers, told by the sets that there
-- were and the fresh ones.
use Rattle.std.specs.Prelude.{◌≡◌, ℕ, ◌+◌, ◌-◌, ◌==◌, ◌&&◌, Bool, true, false, List, [], ◌∷◌, Option, Some, None, is_some, filter, length, find, nat_lt, if◌then◌else◌}
use Rattle.exb_model.specs.Ports.{ports_of}
use Rattle.exb_model.specs.Tree.{Shape, is_cascade, is_extended}
use Rattle.exb_model.specs.Setup.{Limits}
use Rattle.exb_model.specs.declared.event.Cause.{Cause}
use Rattle.exb_model.specs.declared.event.Cause.TheVariants as cause
use Rattle.exb_model.specs.Refusals.{is_empty_set, bridge_ports, channels_short, first_cause}
use Rattle.exb_model.specs.Configuration.{Bridge}
use Rattle.exb_model.specs.LowestFree.{lowest_free}
use Rattle.exb_control_spec.specs.Plans.Sets.{PortsAt}
use Rattle.exb_control_spec.specs.declared.plan.group_at.GroupAt.{GroupAt}
use Rattle.exb_control_spec.specs.Plans.HeldNumbers.{Held, Group, group_in, group_used, group_for, give}
use Rattle.exb_control_spec.specs.Plans.Differences.{trunk_of}

-- ---- groups
abbrev pub seen_group : GroupAt → Group
seen_group x = record { bridge_port = x.bridge_port; number = x.number; ports = ports_of x.set }

-- the set has a group
abbrev pub has_group : Held → PortsAt → Bool
has_group h s = is_some (group_in h (s.bridge_port - 1) s.ports)

-- the set isn't empty and has no group, and there is a free one for it
pub record IsFresh (groups : ℕ) (h : Held) (s : PortsAt) : Type 0 where
  pub some : is_empty_set s.ports ≡ false
  pub absent : group_in h (s.bridge_port - 1) s.ports ≡ None
  pub free : is_some (lowest_free (group_used h (s.bridge_port - 1)) 4096 groups) ≡ true

-- so it is of each set when its turn comes
abbrev pub AreFresh : ℕ → Held → List PortsAt → Type 0
AreFresh groups h [] = Unit {0}
AreFresh groups h (s ∷ sets) = IsFresh groups h s × AreFresh groups (give (group_for groups h s) h) sets

-- ---- refusals
-- how many of a list pass
abbrev pub how_many : {X : Type 0} → (X → Bool) → List X → ℕ
how_many test xs = length (filter test xs)

-- the set is below a bridge port
abbrev pub is_at : ℕ → PortsAt → Bool
is_at bridge_port s = s.bridge_port == bridge_port

-- how many groups are needed there for sets that have some and fresh ones
abbrev pub needed_at : List PortsAt → List PortsAt → ℕ → ℕ
needed_at had fresh bridge_port = how_many (is_at bridge_port) had + how_many (is_at bridge_port) fresh

abbrev pub short_at : Limits → List PortsAt → List PortsAt → ℕ → Option Cause
short_at l had fresh bridge_port =
    if nat_lt l.groups (needed_at had fresh bridge_port) then Some
    (cause.Groups (needed_at had fresh bridge_port) l.groups) else None

abbrev pub is_short : Shape → Limits → List PortsAt → List PortsAt → ℕ → Bool
is_short t l had fresh k = is_cascade t k && nat_lt l.groups (needed_at had fresh (k + 1))

abbrev pub short_of : Limits → List PortsAt → List PortsAt → Option ℕ → Option Cause
short_of l had fresh None = None
short_of l had fresh (Some k) = short_at l had fresh (k + 1)

-- at the lowest bridge port that has too few
unfoldable pub short_by : Shape → Limits → List PortsAt → List PortsAt → Option Cause
short_by t l had fresh = short_of l had fresh (find (is_short t l had fresh) bridge_ports)

-- a port that goes up or down is an extended one
abbrev pub IsAnyExtended : Shape → Option ℕ → Type 0
IsAnyExtended t None = Unit {0}
IsAnyExtended t (Some p) = is_extended t p ≡ true

-- why a change is refused, by the port that goes up, the sets that there were and the fresh ones
abbrev pub refusal_by : Shape → Limits → Bridge → Option ℕ → List PortsAt → List PortsAt → Option Cause
refusal_by t l old up had fresh = first_cause (channels_short t l old (trunk_of t up)) (short_by t l had fresh)
