use Rattle.std.proofs.Common.{◌<◌, ◌≤◌, ◌+◌, ◌^◌, [], length, take, refl, ap, subst, sym, ◌∙◌, arith}
use Rattle.exb_net_file.specs.declared.net_parts.BridgeInputs.{BridgeInputs}
use Rattle.exb_net.specs.PairedLists.{AreEach}
use Rattle.exb_net.proofs.ArmedFates.{all_taken, first_taken, front_is, next_holds, next_is, no_pairs, other_is, other_low, rest_is}
use Rattle.exb_net.proofs.preparation.arm_all.Goals as goal

pub loop-rest-init : goal.loop-rest-init
loop-rest-init g c =
    let r = c.index-rests-0.result in
    record {
      left = refl;
      each = subst (λ zs. AreEach (λ b r f. (goal.Fate-dyn g (f.vtable, f.value)).left f.value < 2 ^ 56 + length r.fate) zs c.arm_one.new.fates.items) (first_taken c.args.rests.now r c.requires.some c.index-rests-0.is)
          (c.in_ok-arm_one.ensures [] r (ap (λ (x : BridgeInputs). x.fate) c.index-rests-0.is ∙ sym c.as_slice.ensures) (no_pairs (λ b r f. (goal.Fate-dyn g (f.vtable, f.value)).left f.value < 2 ^ 56 + length r.fate) c.new-fates.result.items c.new-fates.ensures.items));
    }

pub arm_one-requires : goal.arm_one-requires
arm_one-requires g c =
    let rests = c.args.rests.now in
    let r = c.index-rests-0.result in
    let few : length r.fate ≤ 60000 = next_holds rests 0 (omega (arith, c.requires.some)) (λ (x : BridgeInputs). length x.fate ≤ 60000) r c.requires.plans c.index-rests-0.is in
    record { low = c.requires.fate; plan = (let same = ap (λ xs. length xs) c.as_slice.ensures in omega (arith, few, same)) }

pub arm_one-requires-in-loop-rest : goal.arm_one-requires-in-loop-rest
arm_one-requires-in-loop-rest g c =
    let rests = c.args.rests.now in
    let more = c.args.more.now.items in
    let i = c.loop-rest.rest-index in
    let inside = other_low rests i c.loop-rest-test.true in
    let low : i < length more = omega (arith, inside, c.requires.enough) in
    let own = next_is more i low c.loop-rest.more.items c.remove.result c.loop-rest.invariant.left c.remove.ensures.value in
    let few : length c.rest-item.result.fate ≤ 60000 = next_holds rests (i + 1) inside (λ (r : BridgeInputs). length r.fate ≤ 60000) c.rest-item.result c.requires.plans (other_is rests i c.rest-item.result c.rest-item.is) in
    record {
      low = next_holds more i low (λ f. (goal.Fate-dyn g (f.vtable, f.value)).left f.value < 2 ^ 56) c.remove.result c.requires.low own;
      plan = (let same = ap (λ xs. length xs) c.as_slice-in-loop-rest.ensures in omega (arith, few, same));
    }

pub loop-rest-preserved : goal.loop-rest-preserved
loop-rest-preserved g c =
    let rests = c.args.rests.now in
    let i = c.loop-rest.rest-index in
    let r = c.rest-item.result in
    let inside = other_low rests i c.loop-rest-test.true in
    let low : i < length c.args.more.now.items = omega (arith, inside, c.requires.enough) in
    record {
      left = rest_is c.args.more.now.items i low c.loop-rest.more.items c.remove.new.self.items c.remove.result c.loop-rest.invariant.left c.remove.ensures.items;
      each = subst (λ zs. AreEach (λ b r f. (goal.Fate-dyn g (f.vtable, f.value)).left f.value < 2 ^ 56 + length r.fate) zs c.arm_one-in-loop-rest.new.fates.items) (sym (front_is rests (i + 1) inside r (other_is rests i r c.rest-item.is)))
          (c.in_ok-arm_one-2.ensures (take (i + 1) rests) r (sym c.as_slice-in-loop-rest.ensures) c.loop-rest.invariant.each);
    }

pub returns : goal.returns
returns g c =
    let rests = c.args.rests.now in
    record { armed = subst (λ rs. AreEach (λ b r f. (goal.Fate-dyn g (f.vtable, f.value)).left f.value < 2 ^ 56 + length r.fate) rs c.loop-rest.fates.items) (all_taken rests c.loop-rest.rest-index c.loop-rest-test.false) c.loop-rest.invariant.each }
