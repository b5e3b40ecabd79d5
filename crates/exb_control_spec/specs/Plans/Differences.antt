-- What changes from one configuration to another: the port that goes up or down, the sets that come and go,
-- and whether the numbers suffice.
use Rattle.std.specs.Prelude.{ℕ, ◌+◌, ◌&&◌, Bool, not, List, Option, Some, None, filter, find, map, flat_map}
use Rattle.std.specs.List.{list_any, range_with_len}
use Rattle.exb_model.specs.declared.event.Cause.{Cause}
use Rattle.exb_model.specs.Ports.{all_ports}
use Rattle.exb_model.specs.Tree.{Shape, device, trunk, is_cascade, is_extended}
use Rattle.exb_model.specs.Setup.{Limits}
use Rattle.exb_model.specs.Configuration.{Bridge}
use Rattle.exb_model.specs.Refusals.{bridge_ports, channels_short, groups_short, first_cause}
use Rattle.exb_control_spec.specs.Plans.Sets.{PortsAt, is_same_set, sets_of}
use Rattle.exb_control_spec.specs.Plans.HeldNumbers.{Held, Group, group_used}

-- ---- ports
abbrev pub rises : Shape → Bridge → Bridge → ℕ → Bool
rises t old new q = is_extended t q && (not (old.present q) && new.present q)

-- the extended port that goes up, and the one that goes down
unfoldable pub goes_up : Shape → Bridge → Bridge → Option ℕ
goes_up t old new = find (rises t old new) all_ports

abbrev pub goes_down : Shape → Bridge → Bridge → Option ℕ
goes_down t old new = goes_up t new old

-- ---- refusals
abbrev pub trunk_of : Shape → Option ℕ → Option ℕ
trunk_of t None = None
trunk_of t (Some p) = Some (trunk t (device p))

-- Why the change is refused: the channels of the bridge port above the port that goes up, else the groups of
-- the lowest bridge port that has too few for the sets of both configurations.
unfoldable pub refusal_between : Shape → Limits → Bridge → Bridge → Option Cause
refusal_between t l old new = first_cause (channels_short t l old (trunk_of t (goes_up t old new)))
    (groups_short t l old new)

-- ---- sets
abbrev pub has_set : List PortsAt → PortsAt → Bool
has_set sets s = list_any (is_same_set s) sets

-- the sets that the old configuration doesn't have, in the order of the new one's
unfoldable pub fresh_sets : Shape → Bridge → Bridge → List PortsAt
fresh_sets t old new = filter (λ s. not (has_set (sets_of t old) s)) (sets_of t new)

-- a group at bridge port k, from 0, with its set
abbrev pub group_at : Held → ℕ → ℕ → Group
group_at h k g = record { bridge_port = k + 1; number = g; ports = h.set k g }

-- the group is in use, but not for a set that is kept
abbrev pub is_gone : List PortsAt → Held → ℕ → ℕ → Bool
is_gone kept h k g = group_used h k g && not (has_set kept (record { bridge_port = k + 1; ports = h.set k g }))

-- those groups of a bridge port, by rising number
unfoldable pub gone_at : List PortsAt → Held → ℕ → List Group
gone_at kept h k = map (group_at h k) (filter (is_gone kept h k) (range_with_len 4096 12288))

-- those of all cascade ports of the bridge, in their order
unfoldable pub gone_groups : Shape → List PortsAt → Held → List Group
gone_groups t kept h = flat_map (gone_at kept h) (filter (is_cascade t) bridge_ports)
