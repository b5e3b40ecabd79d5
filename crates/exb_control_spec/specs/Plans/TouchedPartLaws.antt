-- What is true of touched parts.
use Rattle.std.specs.Prelude.{◌≡◌, ℕ, ◌+◌, ◌<◌, ◌==◌, ◌&&◌, true, not, nat_lt, [], filter, fold, count_by, length}
use Rattle.std.specs.List.{range_with_len}
use Rattle.exb_model.specs.declared.command.Command.{Command}
use Rattle.exb_model.specs.Tree.{Shape, is_cascade}
use Rattle.exb_model.specs.Configuration.{Bridge, after}
use Rattle.exb_model.specs.Refusals.{is_empty_set}
use Rattle.exb_control_spec.specs.Plans.Sets.{PortsAt, with_set_at, sets_of}
use Rattle.exb_control_spec.specs.Plans.HeldNumbers.{Held, HoldsNeeded, group_used}
use Rattle.exb_control_spec.specs.Plans.Differences.{has_set, fresh_sets, is_gone}
use Rattle.exb_control_spec.specs.Plans.TouchedParts.{uses_in, uses_of, parts_before, parts_after}

-- A command changes how often a set is a part by the parts that it touches, and by no others.
abbrev pub UsesChange : Type 0
UsesChange =
    (t : Shape) (c : Command) (b : Bridge) (s : PortsAt) →
    uses_of t (after c b) s + uses_in (parts_before t c b) s ≡ uses_of t b s + uses_in (parts_after t c b) s

-- A configuration has a set exactly where it isn't empty and is a part.
abbrev pub SetsAreUsed : Type 0
SetsAreUsed = (t : Shape) (b : Bridge) (s : PortsAt) → has_set (sets_of t b) s
    ≡ (not (is_empty_set s.ports) && nat_lt 0 (uses_of t b s))

-- The sets that a command brings are those of the touched parts that weren't there before, each once, in their order.
abbrev pub FreshAreTouched : Type 0
FreshAreTouched =
    (t : Shape) (c : Command) (b : Bridge) →
    fresh_sets t b (after c b) ≡ fold with_set_at [] (filter (λ s. not (has_set (sets_of t b) s)) (parts_after t c b))

-- Where just what the configuration needs is held, a group goes with a command exactly where it is in use, its set is a
-- touched part, and the set is no part any more.
abbrev pub GoneAreTouched : Type 0
GoneAreTouched =
    (t : Shape) (c : Command) (b : Bridge) (h : Held) (k g : ℕ) → HoldsNeeded t b h → k < 64 → is_cascade t k ≡ true →
    is_gone (sets_of t (after c b)) h k g
    ≡ (group_used h k g && (nat_lt 0 (uses_in (parts_before t c b) (record { bridge_port = k + 1; ports = h.set k g }))
    && uses_of t (after c b) (record { bridge_port = k + 1; ports = h.set k g }) == 0))

-- Then as many groups are in use at a cascade port of the bridge as the configuration has sets there.
abbrev pub UsedAreSets : Type 0
UsedAreSets =
    (t : Shape) (b : Bridge) (h : Held) (k : ℕ) → HoldsNeeded t b h → k < 64 → is_cascade t k ≡ true →
    count_by (group_used h k) (range_with_len 4096 12288) ≡ length (filter (λ s. s.bridge_port == k + 1) (sets_of t b))
