use Rattle.std.proofs.Common.{◌≡◌, ◌∙◌, ◌-◌, ◌<◌, ◌||◌, Bool, ℕ, Some, None, sym, ap, subst, arith}
use Rattle.std.proofs.lemmas.Result.{on_ok_weaker}
use Rattle.exb_control_spec.specs.Plans.Sets.{seen}
use Rattle.exb_plan.specs.SpaceContents.{held_by}
use Rattle.exb_control_spec.specs.Plans.HeldNumbers.{group_in}
use Rattle.exb_plan.specs.UseCounts.{count_at}
use Rattle.exb_plan.specs.RisingNumbers.{is_among}
use Rattle.exb_plan.proofs.RecountLemmas.{looked_up}
use Rattle.exb_plan.proofs.LostUses.{left_goes, left_stays, left_absent}
use Rattle.exb_plan.proofs.lost_uses.put_left.Goals as goal

pub returns-then-count-gt0-clause-members : goal.returns-then-count-gt0-clause-members
returns-then-count-gt0-clause-members c g =
    let v = c.args.spaces.now in
    let s = seen c.args.part.now in
    let k = c.args.bridge_port - 1 in
    let m = c.in-Some.group in
    let place : k ≡ s.bridge_port - 1 = omega (arith, c.if-part-bridge_port.false) in
    let here = looked_up v k s.ports c.groups.result.now c.find.result (Some m) c.find.ensures.value c.groups.ensures c.in-Some.is in
    let group : group_in (held_by v) (s.bridge_port - 1) s.ports ≡ Some m = ap (λ (j : ℕ). group_in (held_by v) j s.ports) (sym place) ∙ here in
    let some : 0 < count_at c.args.uses.now k m = subst (λ (n : ℕ). 0 < n) c.count.ensures c.if-count-gt0.true in
    sym (ap (λ (b : Bool). b || is_among c.args.numbers.now.items g) (left_stays v c.requires.own s c.requires.placed c.args.uses.now k c.requires.cascade m g group some))

pub returns-else-count-gt0-clause-members : goal.returns-else-count-gt0-clause-members
returns-else-count-gt0-clause-members c =
    let v = c.args.spaces.now in
    let s = seen c.args.part.now in
    let k = c.args.bridge_port - 1 in
    let m = c.in-Some.group in
    let place : k ≡ s.bridge_port - 1 = omega (arith, c.if-part-bridge_port.false) in
    let here = looked_up v k s.ports c.groups.result.now c.find.result (Some m) c.find.ensures.value c.groups.ensures c.in-Some.is in
    let group : group_in (held_by v) (s.bridge_port - 1) s.ports ≡ Some m = ap (λ (j : ℕ). group_in (held_by v) j s.ports) (sym place) ∙ here in
    let counted : c.count.result ≡ count_at c.args.uses.now k m = c.count.ensures in
    let none : count_at c.args.uses.now k m ≡ 0 = omega (arith, c.if-count-gt0.false, counted) in
    on_ok_weaker c.put_rising.result
    (λ members g. members g ∙ sym (ap (λ (b : Bool). b || is_among c.args.numbers.now.items g) (left_goes v c.requires.own s c.requires.placed c.args.uses.now k c.requires.cascade m g place group none)))
    c.put_rising.ensures.members

pub returns-in-None-clause-members : goal.returns-in-None-clause-members
returns-in-None-clause-members c g =
    let v = c.args.spaces.now in
    let s = seen c.args.part.now in
    let k = c.args.bridge_port - 1 in
    let place : k ≡ s.bridge_port - 1 = omega (arith, c.if-part-bridge_port.false) in
    let here = looked_up v k s.ports c.groups.result.now c.find.result None c.find.ensures.value c.groups.ensures c.in-None.is in
    let group : group_in (held_by v) (s.bridge_port - 1) s.ports ≡ None = ap (λ (j : ℕ). group_in (held_by v) j s.ports) (sym place) ∙ here in
    sym (ap (λ (b : Bool). b || is_among c.args.numbers.now.items g) (left_absent v c.requires.own s c.requires.placed c.args.uses.now k c.requires.cascade g group))
