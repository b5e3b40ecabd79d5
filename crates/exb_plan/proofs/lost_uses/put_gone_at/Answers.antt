use Rattle.std.proofs.Common.{◌≡◌, ◌∙◌, ◌-◌, ◌++◌, List, map, sym, ap}
use Rattle.std.proofs.lemmas.Result.{on_ok_weaker}
use Rattle.exb_control_spec.specs.Plans.HeldNumbers.{Group}
use Rattle.exb_plan.specs.SpaceContents.{held_by}
use Rattle.exb_control_spec.specs.Plans.Differences.{group_at, gone_at}
use Rattle.exb_control_spec.specs.Plans.FreshSets.{seen_group}
use Rattle.exb_plan.proofs.GoneNumbers.{gone_at_are}
use Rattle.exb_plan.proofs.lost_uses.put_gone_at.Goals as goal

pub returns : goal.returns
returns c kept left =
    let h = held_by c.args.spaces.now in
    let k = c.args.bridge_port - 1 in
    let xs = c.in_ok-numbers.numbers.items in
    let is = c.in_ok-numbers.ensures in
    let all : map (group_at h k) c.as_slice.result.now ≡ gone_at kept h k =
    ap (map (group_at h k)) c.as_slice.ensures.value ∙ gone_at_are kept h k xs is.rising is.groups (λ g low high. is.members g ∙ sym (left g low high)) in
    on_ok_weaker c.put_groups.result (λ e. e ∙ ap (λ (l : List Group). map seen_group c.args.gone.now.items ++ l) all) c.put_groups.ensures
