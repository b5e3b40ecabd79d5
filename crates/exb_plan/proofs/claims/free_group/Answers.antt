use Rattle.std.proofs.Common.{◌≡◌, ◌+◌, ◌-◌, ◌==◌, [], cond, ap, ◌∙◌, arith}
use Rattle.exb_numbers.specs.Groups.{Groups, set_of}
use Rattle.exb_plan.proofs.SpaceContents.{group_given}
use Rattle.exb_plan.proofs.claims.free_group.Goals as goal

-- a group that is taken back is one that is given no ports
pub returns-clause-held : goal.returns-clause-held
returns-clause-held c =
    let group = c.args.group.now in
    let k = group.bridge_port - 1 in
    let place : k + 1 ≡ group.bridge_port = omega (arith, c.requires.from1) in
    group_given c.args.spaces.now k group.number [] group.bridge_port c.release.new.self c.requires.cascade place
    (λ e. c.release.ensures.sets e ∙ ap (λ (x : Groups). cond (e == group.number) [] (set_of x e)) c.groups_mut.ensures.value)
