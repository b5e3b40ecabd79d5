use Rattle.std.proofs.Common.{◌≡◌, ℕ, ◌+◌, ◌-◌, ◌==◌, cond, ap, sym, ◌∙◌, arith}
use Rattle.std.specs.Prelude.{is_some}
use Rattle.exb_model.specs.Ports.{ports_of}
use Rattle.exb_numbers.specs.Groups.{Groups, group_of, set_of, lowest_group}
use Rattle.exb_control_spec.specs.Plans.HeldNumbers.{Group, give, or_zero}
use Rattle.exb_plan.specs.SpaceContents.{held_by}
use Rattle.exb_plan.proofs.SpaceContents.{group_in_is, met, claimed_is, of_ok, group_given}
use Rattle.exb_plan.proofs.claims.claim_group.Goals as goal

pub claim-requires-clause-absent : goal.claim-requires-clause-absent
claim-requires-clause-absent c =
    let v = c.args.spaces.now in
    let s = c.args.set.now in
    ap (λ (x : Groups). group_of x (ports_of s.set)) c.groups_mut.ensures.value
    ∙ (sym (group_in_is v (s.bridge_port - 1) (ports_of s.set)) ∙ c.requires.fresh.absent)

pub unwrap-requires : goal.unwrap-requires
unwrap-requires c =
    met c.claim.result (lowest_group c.groups_mut.result.now)
    (ap (λ (x : Groups). is_some (lowest_group x)) c.groups_mut.ensures.value ∙ c.requires.fresh.free)
    c.claim.ensures.lowest

pub returns-clause-held : goal.returns-clause-held
returns-clause-held c =
    let v = c.args.spaces.now in
    let s = c.args.set.now in
    let k = s.bridge_port - 1 in
    let place : k + 1 ≡ s.bridge_port = omega (arith, c.requires.placed.0) in
    let number = claimed_is c.claim.result (lowest_group c.groups_mut.result.now) c.unwrap.result c.unwrap.ensures c.claim.ensures.lowest in
    group_given v k c.unwrap.result (ports_of s.set) s.bridge_port c.claim.new.self c.requires.placed.1 place
    (λ e. of_ok c.claim.result c.unwrap.result (λ m. (e : ℕ) → set_of c.claim.new.self e ≡ cond (e == m) (ports_of s.set) (set_of c.groups_mut.result.now e)) c.unwrap.ensures c.claim.ensures.sets e
    ∙ ap (λ (x : Groups). cond (e == c.unwrap.result) (ports_of s.set) (set_of x e)) c.groups_mut.ensures.value)
    ∙ ap (λ (n : ℕ). let x : Group = record { bridge_port = s.bridge_port; number = n; ports = ports_of s.set } in give x (held_by v))
    (number ∙ ap (λ (x : Groups). or_zero (lowest_group x)) c.groups_mut.ensures.value)
