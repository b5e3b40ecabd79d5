use Rattle.std.proofs.Common.{◌≡◌, ◌∙◌, ◌++◌, ◌+◌, ◌-◌, ◌<◌, [], cond, ℕ, Bool, true, false, List, map, filter, sym, ap, arith}
use Rattle.std.specs.List.{flat_map}
use Rattle.std.proofs.lemmas.List.{append-nil}
use Rattle.exb_model.specs.Ports.{below}
use Rattle.exb_model.specs.Tree.{is_cascade}
use Rattle.exb_control_spec.specs.Plans.HeldNumbers.{Group}
use Rattle.exb_plan.specs.SpaceContents.{held_by}
use Rattle.exb_control_spec.specs.Plans.Differences.{gone_at}
use Rattle.exb_control_spec.specs.Plans.FreshSets.{seen_group}
use Rattle.exb_plan.proofs.Lists.{filter_next}
use Rattle.exb_plan.proofs.RowSteps.{none_below, gone_everywhere}
use Rattle.exb_plan.proofs.lost_uses.gone_groups.Goals as goal
use Rattle.exb_plan.proofs.lost_uses.gone_groups.Goals.{then-is_cascade+in_ok-put_gone_at, else-is_cascade}

pub loop-bridge_port-init : goal.loop-bridge_port-init
loop-bridge_port-init c kept left =
    ap (map seen_group) c.new-gone.ensures.items ∙ none_below (gone_at kept (held_by c.args.spaces.now)) (is_cascade c.args.tree.now)

pub loop-bridge_port-preserved : goal.loop-bridge_port-preserved
loop-bridge_port-preserved c kept left =
    let t = c.args.tree.now in
    let f = gone_at kept (held_by c.args.spaces.now) in
    let k = c.loop-bridge_port.bridge_port - 1 in
    let low : k < 64 = omega (arith, c.loop-bridge_port-test.true, c.loop-bridge_port.auto.bridge_port) in
    let place : c.loop-bridge_port.bridge_port + 1 - 1 ≡ k + 1 = omega (arith, c.loop-bridge_port.auto.bridge_port) in
    let next : flat_map f (filter (is_cascade t) (below (k + 1))) ≡ flat_map f (filter (is_cascade t) (below k)) ++ cond (is_cascade t k) (f k) [] = filter_next f (is_cascade t) k in
    let whole : flat_map f (filter (is_cascade t) (below (c.loop-bridge_port.bridge_port + 1 - 1))) ≡ flat_map f (filter (is_cascade t) (below k)) ++ cond (is_cascade t k) (f k) [] =
    ap (λ (m : ℕ). flat_map f (filter (is_cascade t) (below m))) place ∙ next in
    elim c.if-is_cascade.branch [
      | then-is_cascade+in_ok-put_gone_at w ↦
          let yes' : is_cascade t k ≡ true = sym c.is_cascade.ensures ∙ w.if-is_cascade.true in
          rw w.gone-is (w.in_ok-put_gone_at.ensures kept (left k low yes') ∙ (ap (λ (l : List Group). l ++ f k) (c.loop-bridge_port.invariant kept left)
          ∙ (ap (λ (b : Bool). flat_map f (filter (is_cascade t) (below k)) ++ cond b (f k) []) (sym yes') ∙ sym whole)))
      | else-is_cascade w ↦
          let off : is_cascade t k ≡ false = sym c.is_cascade.ensures ∙ w.if-is_cascade.false in
          rw w.gone-is (c.loop-bridge_port.invariant kept left ∙ (sym (append-nil (flat_map f (filter (is_cascade t) (below k))))
          ∙ (ap (λ (b : Bool). flat_map f (filter (is_cascade t) (below k)) ++ cond b (f k) []) (sym off) ∙ sym whole)))
    ]

pub returns : goal.returns
returns c kept left =
    let end : c.loop-bridge_port.bridge_port - 1 ≡ 64 = omega (arith, c.loop-bridge_port-test.false, c.loop-bridge_port.auto.bridge_port-end) in
    c.loop-bridge_port.invariant kept left ∙ gone_everywhere c.args.tree.now kept (held_by c.args.spaces.now) (c.loop-bridge_port.bridge_port - 1) end
