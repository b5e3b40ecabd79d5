use Rattle.std.proofs.Common.{◌≡◌, ◌∙◌, ◌+◌, ◌-◌, ◌&&◌, Bool, true, false, sym, ap, refl, ℕ, suc, List, map, fold, arith}
use Rattle.std.specs.List.{flat_map, range_with_len}
use Rattle.exb_model.specs.Refusals.{both_kinds}
use Rattle.exb_config.specs.Tables.{bridge_of}
use Rattle.exb_control_spec.specs.Plans.Sets.{seen, with_set_at, parts_below}
use Rattle.exb_plan.proofs.SetFolds.{vlan_more, unknown_put, vids_are}
use Rattle.exb_plan.proofs.group_sets.put_vlans.Goals as goal
use Rattle.exb_plan.proofs.group_sets.put_vlans.Goals.{then-known+in_ok-put_vlan, else-known}

and_true : (b : Bool) → b ≡ (b && true)
and_true true = refl
and_true false = refl

pub loop-number-preserved : goal.loop-number-preserved
loop-number-preserved c t branches =
    let b = bridge_of c.args.config.now in
    let n = c.loop-number.number - 1 in
    let old = map seen c.args.sets.now.keys in
    let now = map seen c.loop-number.sets.keys in
    let v = c.unwrap-vid.result in
    let f = λ (u : ℕ). both_kinds u (λ q. true) in
    let vid : v ≡ c.loop-number.number = rw c.unwrap-vid.ensures at c.new.ensures.value in
    let place : v ≡ 1 + n = vid ∙ omega (arith, c.loop-number.auto.number) in
    let next : suc n ≡ c.loop-number.number + 1 - 1 = omega (arith, c.loop-number.auto.number) in
    elim c.if-known.branch [
      | then-known+in_ok-put_vlan w ↦
          let one = w.in_ok-put_vlan.ensures t (λ q. true) branches (λ q. branches.extended q ∙ and_true _) in
          rw w.sets-is (vlan_more t b f n v old now (map seen w.put_vlan.new.sets.keys) place (c.loop-number.invariant t branches) one
          ∙ ap (λ (m : ℕ). fold with_set_at old (flat_map (parts_below t b) (flat_map f (range_with_len 1 m)))) next)
      | else-known w ↦
          rw w.sets-is (vlan_more t b f n v old now now place (c.loop-number.invariant t branches) (unknown_put t b v (λ q. true) now (sym c.known.ensures ∙ w.if-known.false))
          ∙ ap (λ (m : ℕ). fold with_set_at old (flat_map (parts_below t b) (flat_map f (range_with_len 1 m)))) next)
    ]

pub returns : goal.returns
returns c t branches =
    let b = bridge_of c.args.config.now in
    let old = map seen c.args.sets.now.keys in
    let f = λ (u : ℕ). both_kinds u (λ q. true) in
    let last : c.loop-number.number - 1 ≡ 4094 = omega (arith, c.loop-number.auto.number-end, c.loop-number-test.false) in
    c.loop-number.invariant t branches
    ∙ (ap (λ (m : ℕ). fold with_set_at old (flat_map (parts_below t b) (flat_map f (range_with_len 1 m)))) last
    ∙ ap (λ (vids : List ℕ). fold with_set_at old (flat_map (parts_below t b) (flat_map f vids))) vids_are)
