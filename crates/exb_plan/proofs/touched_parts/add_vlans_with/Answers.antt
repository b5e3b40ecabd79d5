use Rattle.std.proofs.Common.{◌≡◌, ◌∙◌, ◌+◌, ◌-◌, true, ap, ℕ, suc, List, filter, arith}
use Rattle.std.specs.List.{flat_map, range_with_len}
use Rattle.exb_model.specs.Refusals.{Source, both_kinds}
use Rattle.exb_config.specs.Tables.{bridge_of}
use Rattle.exb_control_spec.specs.Plans.TouchedParts.{has_port}
use Rattle.exb_plan.proofs.PartLists.{adds_none, adds_more, adds_same}
use Rattle.exb_plan.proofs.TouchedSources.{vlans_more, vlans_are}
use Rattle.exb_plan.proofs.touched_parts.add_vlans_with.Goals as goal

pub loop-number-init : goal.loop-number-init
loop-number-init g c =
    record {
      before = λ t here branches. adds_none t (bridge_of c.args.config.now) here c.args.parts.now.before.items;
      later = λ t here branches. adds_none t (g.V.View.bridge c.args.view.now) here c.args.parts.now.later.items;
    }

pub loop-number-preserved : goal.loop-number-preserved
loop-number-preserved g c =
    let b = bridge_of c.args.config.now in
    let d = g.V.View.bridge c.args.view.now in
    let p = c.args.port in
    let n = c.loop-number.number - 1 in
    let v = c.unwrap-vid.result in
    let f : ℕ → List Source = λ w. both_kinds w (λ q. true) in
    let vid : v ≡ c.loop-number.number = rw c.unwrap-vid.ensures at c.new.ensures.value in
    let place : v ≡ 1 + n = vid ∙ omega (arith, c.loop-number.auto.number) in
    let next : suc n ≡ c.loop-number.number + 1 - 1 = omega (arith, c.loop-number.auto.number) in
    let all = vlans_more b p n v place ∙ ap (λ (m : ℕ). filter (has_port b p) (flat_map f (range_with_len 1 m))) next in
    let xs : List Source = filter (has_port b p) (flat_map f (range_with_len 1 n)) in
    let ys : List Source = filter (has_port b p) (f v) in
    record {
      before = λ t here branches. adds_same t b here _ _ c.args.parts.now.before.items c.add_vlan_with.new.parts.before.items all
          (adds_more t b here xs ys c.args.parts.now.before.items c.loop-number.parts.before.items c.add_vlan_with.new.parts.before.items
          (c.loop-number.invariant.before t here branches) (c.in_ok-add_vlan_with.ensures.before t here branches));
      later = λ t here branches. adds_same t d here _ _ c.args.parts.now.later.items c.add_vlan_with.new.parts.later.items all
          (adds_more t d here xs ys c.args.parts.now.later.items c.loop-number.parts.later.items c.add_vlan_with.new.parts.later.items
          (c.loop-number.invariant.later t here branches) (c.in_ok-add_vlan_with.ensures.later t here branches));
    }

pub returns-clause-before : goal.returns-clause-before
returns-clause-before g c t here branches =
    let b = bridge_of c.args.config.now in
    let f : ℕ → List Source = λ w. both_kinds w (λ q. true) in
    let last : c.loop-number.number - 1 ≡ 4094 = omega (arith, c.loop-number.auto.number-end, c.loop-number-test.false) in
    adds_same t b here _ _ c.args.parts.now.before.items c.loop-number.parts.before.items
    (ap (λ (m : ℕ). filter (has_port b c.args.port) (flat_map f (range_with_len 1 m))) last ∙ ap (filter (has_port b c.args.port)) vlans_are)
    (c.loop-number.invariant.before t here branches)

pub returns-clause-later : goal.returns-clause-later
returns-clause-later g c t here branches =
    let b = bridge_of c.args.config.now in
    let d = g.V.View.bridge c.args.view.now in
    let f : ℕ → List Source = λ w. both_kinds w (λ q. true) in
    let last : c.loop-number.number - 1 ≡ 4094 = omega (arith, c.loop-number.auto.number-end, c.loop-number-test.false) in
    adds_same t d here _ _ c.args.parts.now.later.items c.loop-number.parts.later.items
    (ap (λ (m : ℕ). filter (has_port b c.args.port) (flat_map f (range_with_len 1 m))) last ∙ ap (filter (has_port b c.args.port)) vlans_are)
    (c.loop-number.invariant.later t here branches)
