use Rattle.std.proofs.Common.{◌∙◌, ◌-◌, ◌||◌, [], ◌∷◌, Bool, List, map, take, sym, ap}
use Rattle.exb_control_spec.specs.Plans.Sets.{PortsAt, seen}
use Rattle.exb_plan.specs.SpaceContents.{held_by}
use Rattle.exb_plan.specs.LostUses.{is_left}
use Rattle.exb_plan.proofs.Lists.{image_next}
use Rattle.exb_plan.proofs.LostUses.{left_more}
use Rattle.exb_plan.proofs.lost_uses.left_at.Goals as goal

pub loop-part-preserved : goal.loop-part-preserved
loop-part-preserved c =
    let h = held_by c.args.spaces.now in
    let parts = c.args.parts.now in
    let i = c.loop-part.part-index in
    let s = c.part-item.result in
    let k = c.args.bridge_port - 1 in
    record {
      rising = c.put_left.ensures.rising;
      groups = c.in_ok-put_left.ensures.groups;
      members = λ g. c.in_ok-put_left.ensures.members g
          ∙ (ap (λ (b : Bool). is_left h c.args.uses.now (seen s ∷ []) k g || b) (c.loop-part.invariant.members g)
          ∙ (left_more h c.args.uses.now (map seen (take i parts)) (seen s) k g
          ∙ ap (λ (l : List PortsAt). is_left h c.args.uses.now l k g) (sym (image_next seen parts i s c.loop-part-test.true c.part-item.is))));
    }
