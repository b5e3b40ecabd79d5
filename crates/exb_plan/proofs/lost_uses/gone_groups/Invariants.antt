use Rattle.std.proofs.Common.{◌≡◌, ◌-◌, ◌<◌, ℕ, true, List, filter, map}
use Rattle.std.specs.List.{flat_map}
use Rattle.exb_model.specs.Ports.{below}
use Rattle.exb_model.specs.Tree.{is_cascade}
use Rattle.exb_control_spec.specs.Plans.Sets.{PortsAt, seen}
use Rattle.exb_plan.specs.SpaceContents.{held_by}
use Rattle.exb_control_spec.specs.Plans.Differences.{gone_at}
use Rattle.exb_control_spec.specs.Plans.FreshSets.{seen_group}
use Rattle.exb_plan.specs.LostUses.{AreLeft}
use Rattle.exb_plan.proofs.lost_uses.gone_groups.Given as goal

-- those of the bridge ports so far
abbrev pub invariant-loop-bridge_port : goal.invariant-loop-bridge_port
invariant-loop-bridge_port l =
    (kept : List PortsAt) → ((k : ℕ) → k < 64 → is_cascade l.tree k ≡ true → AreLeft (held_by l.spaces) l.uses (map seen l.parts) kept k) →
    map seen_group l.gone.items ≡ flat_map (gone_at kept (held_by l.spaces)) (filter (is_cascade l.tree) (below (l.bridge_port - 1)))
