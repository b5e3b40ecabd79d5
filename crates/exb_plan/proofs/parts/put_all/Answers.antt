use Rattle.std.proofs.Common.{◌≡◌, ◌∙◌, ◌-◌, ◌++◌, ap, ℕ, map, filter, arith}
use Rattle.std.specs.List.{flat_map}
use Rattle.std.proofs.lemmas.Result.{on_ok_weaker}
use Rattle.exb_model.specs.Ports.{below}
use Rattle.exb_control_spec.specs.Plans.Sets.{seen, parts_of}
use Rattle.exb_plan.specs.Parts.{has_ports}
use Rattle.exb_plan.proofs.PartLists.{parts_none, parts_next, parts_all, parts_one}
use Rattle.exb_plan.proofs.parts.put_all.Goals as goal

pub loop-bridge_port-init : goal.loop-bridge_port-init
loop-bridge_port-init c t b here x ground is_part = parts_none here c.args.branches.now.places ground.places t b x (map seen c.args.parts.now.items)

pub loop-bridge_port-preserved : goal.loop-bridge_port-preserved
loop-bridge_port-preserved c t b here x ground is_part =
    parts_next here c.args.branches.now.places ground.places t b x c.loop-bridge_port.bridge_port
    (map seen c.args.parts.now.items) (map seen c.loop-bridge_port.parts.items) (map seen c.put_below-in-loop-bridge_port.new.parts.items)
    (omega (arith, c.loop-bridge_port.auto.bridge_port)) c.loop-bridge_port-test.true
    (c.loop-bridge_port.invariant t b here x ground is_part) (c.in_ok-put_below.ensures t b here x ground is_part)

pub returns-then-past-first-eq1 : goal.returns-then-past-first-eq1
returns-then-past-first-eq1 c t b here x ground is_part =
    on_ok_weaker c.put_below.result
    (parts_one here c.args.branches.now.places ground.places t b x (map seen c.args.parts.now.items) (map seen c.put_below.new.parts.items) c.if-past-first-eq1.true)
    (c.put_below.ensures t b here x ground is_part)

pub returns : goal.returns
returns c t b here x ground is_part =
    let old = map seen c.args.parts.now.items in
    let p = c.args.branches.now.places in
    let last : c.loop-bridge_port.bridge_port - 1 ≡ p.past - 1 = omega (arith, c.loop-bridge_port.auto.bridge_port-end, c.loop-bridge_port-test.false) in
    c.loop-bridge_port.invariant t b here x ground is_part
    ∙ (ap (λ (n : ℕ). old ++ filter has_ports (flat_map (parts_of t b x) (filter here (below n)))) last ∙ ap (λ l. old ++ l) (parts_all here p ground.places t b x))
