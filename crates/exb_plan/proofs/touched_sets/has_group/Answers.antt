use Rattle.std.proofs.Common.{◌-◌, ap, sym, ◌∙◌}
use Rattle.std.specs.Prelude.{is_some}
use Rattle.exb_model.specs.Ports.{ports_of}
use Rattle.exb_numbers.specs.Groups.{Groups, group_of}
use Rattle.exb_plan.proofs.SpaceContents.{group_in_is}
use Rattle.exb_plan.proofs.touched_sets.has_group.Goals as goal

pub returns : goal.returns
returns c =
    let s = c.args.set.now in
    c.is_some.ensures
    ∙ ap is_some (c.find.ensures.value ∙ (ap (λ (x : Groups). group_of x (ports_of s.set)) c.groups.ensures ∙ sym (group_in_is c.args.spaces.now (s.bridge_port - 1) (ports_of s.set))))
