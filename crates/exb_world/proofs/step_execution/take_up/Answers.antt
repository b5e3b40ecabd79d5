use Rattle.std.proofs.Common.{refl, rules, ◌≡◌, ◌+◌, ◌-◌, ◌<◌, ◌≤◌, arith, subst, sym}
use Rattle.std.proofs.lemmas.Result.{on_ok_weaker}
use Rattle.exb_model.specs.Tree.{HangsOn, IsTree, on}
use Rattle.exb_world.specs.ArrivalPorts.{IsPortAt}
use Rattle.exb_bridge.specs.TreeIndexes.{limits_in}
use Rattle.exb_world_spec.specs.DataFrames.{bridge_takes}
use Rattle.exb_world_spec.specs.Runs.Requests.{AsksWell}
use Rattle.exb_bridge.specs.BridgeWorlds.{Rest, whole, world_in, IsAt, Does}
use Rattle.exb_world.specs.MachineWorlds.{whole_of, rest_of}
use Rattle.exb_world.proofs.StepBeginnings.{at_bridge, at_extender, hung, port_above}
use Rattle.exb_world.proofs.step_execution.take_up.Goals as goal

pub take-requires : goal.take-requires
take-requires g c =
    let t = c.args.site.now.tree in
    let n = c.args.number in
    let tree : IsTree t = subst IsTree c.tree.ensures c.is_tree.ensures in
    let is : c.place-bridge_port.result + 1 - 1 ≡ on t n = let a = c.on-port.ensures in let b = c.device.ensures.value in let z = c.if-device-eq0.true in let p = c.place-bridge_port.ensures.value in omega (arith, a, b, z, p) in
    let first : 1 ≤ c.place-bridge_port.result + 1 = search rules in
    let last : c.place-bridge_port.result + 1 ≤ 64 = search rules in (
      subst (λ (r : Rest). IsAt c.args.site.now (whole r c.args.core.now.bridge)) (sym c.requires.0) c.requires.1.0,
      (first, (last, (subst (HangsOn t n) (sym is) (hung t tree n c.requires.1.1.0), subst (λ (r : Rest). AsksWell t (limits_in c.args.site.now) (world_in (whole r c.args.core.now.bridge)).control) (sym c.requires.0) c.requires.1.1.1))),
    )

pub returns-then-device-eq0 : goal.returns-then-device-eq0
returns-then-device-eq0 g c =
    let t = c.args.site.now.tree in
    let n = c.args.number in
    let is : c.place-bridge_port.result + 1 - 1 ≡ on t n = let a = c.on-port.ensures in let b = c.device.ensures.value in let z = c.if-device-eq0.true in let p = c.place-bridge_port.ensures.value in omega (arith, a, b, z, p) in
    let low : on t n < 64 = let a = c.on-port.ensures in let b = c.device.ensures.value in let z = c.if-device-eq0.true in omega (arith, a, b, z) in
    on_ok_weaker c.take.result (λ done.
    at_bridge c.args.site.now (limits_in c.args.site.now) (whole_of c.args.core.now) (whole (rest_of c.args.core.now) c.take.new.bridge) n (c.place-bridge_port.result + 1 - 1) c.args.word c.args.room.now.post.log c.take.new.room.post.log low is
    (subst (λ (r : Rest). Does (bridge_takes t (limits_in c.args.site.now) (c.place-bridge_port.result + 1 - 1) n c.args.word (world_in (whole r c.args.core.now.bridge))) c.args.site.now (whole r c.take.new.bridge) c.args.room.now.post.log c.take.new.room.post.log) c.requires.0 done)) c.take.ensures

pub take_from_below-requires-clause-port : goal.take_from_below-requires-clause-port
take_from_below-requires-clause-port g c =
    let t = c.args.site.now.tree in
    let n = c.args.number in
    let tree : IsTree t = subst IsTree c.tree.ensures c.is_tree.ensures in
    let deep : 64 ≤ on t n = let a = c.on-port.ensures in let b = c.device.ensures.value in let z = c.if-device-eq0.false in omega (arith, a, b, z) in
    subst (IsPortAt t) (sym c.on-port.ensures) (port_above t tree n c.requires.1.1.0 deep)

pub returns-else-device-eq0 : goal.returns-else-device-eq0
returns-else-device-eq0 g c =
    let t = c.args.site.now.tree in
    let n = c.args.number in
    let deep : 64 ≤ on t n = let a = c.on-port.ensures in let b = c.device.ensures.value in let z = c.if-device-eq0.false in omega (arith, a, b, z) in
    on_ok_weaker c.take_from_below.result (λ done.
    at_extender c.args.site.now (limits_in c.args.site.now) (whole_of c.args.core.now) (whole_of c.take_from_below.new.core) n c.on-port.result c.args.word c.args.room.now.post.log c.take_from_below.new.room.post.log deep c.on-port.ensures done)
    c.take_from_below.ensures
