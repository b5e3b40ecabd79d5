use Rattle.std.proofs.Common.{◌≡◌, ◌-◌, ◌==◌, ◌∙◌, [], cond, ap, sym, arith, nat_lt}
use Rattle.std.proofs.lemmas.Bool.{and_parts, ltb-true}
use Rattle.exb_numbers.specs.Groups.{Groups, set_of}
use Rattle.exb_control_spec.specs.Plans.HeldNumbers.{is_place}
use Rattle.exb_control.proofs.FreedNumbers.{group_left, group_stays, none_free}
use Rattle.exb_control.proofs.release.release_group.Goals as goal

pub returns-then-is_some-clause-held : goal.returns-then-is_some-clause-held
returns-then-is_some-clause-held c =
    let t = c.args.tree.now in
    let x = c.args.number.now in
    let parts = and_parts (nat_lt 0 x.bridge_port) (is_place t (x.bridge_port - 1)) (sym c.is_place.ensures ∙ c.if-not-is_place.false) in
    let low = ltb-true 0 x.bridge_port parts.0 in
    group_left t c.args.spaces.now x c.release.new.self (omega (arith, low)) (c.requires.1.spaces (x.bridge_port - 1) ∙ parts.1)
    (λ e. c.release.ensures.sets e ∙ ap (λ (g : Groups). cond (e == x.number) [] (set_of g e)) c.groups_mut.ensures.value)

pub returns-else-is_some-clause-held : goal.returns-else-is_some-clause-held
returns-else-is_some-clause-held c =
    let t = c.args.tree.now in
    let x = c.args.number.now in
    let parts = and_parts (nat_lt 0 x.bridge_port) (is_place t (x.bridge_port - 1)) (sym c.is_place.ensures ∙ c.if-not-is_place.false) in
    let low = ltb-true 0 x.bridge_port parts.0 in
    let none : set_of c.groups.result.now x.number ≡ [] = none_free c.set.result _ _ (sym c.is_some.ensures ∙ c.if-is_some.false) c.set.ensures in
    group_stays t c.args.spaces.now x (omega (arith, low)) (ap (λ (g : Groups). set_of g x.number) (sym c.groups.ensures) ∙ none)
