use Rattle.std.proofs.Common.{◌+◌, ◌∙◌, ℕ, length, ap, sym, arith}
use Rattle.exb_model.specs.Tree.{external_ports}
use Rattle.exb_net_file.specs.Members.{tree_in}
use Rattle.exb_net_file.proofs.LoopSteps.{none_together, together_more}
use Rattle.exb_net_file.proofs.members.ports_together.Goals as goal

pub loop-member-init : goal.loop-member-init
loop-member-init c = record { counted = none_together; most = omega arith }

pub loop-member-preserved : goal.loop-member-preserved
loop-member-preserved c =
    let i = c.loop-member.member-index in
    let ms = c.args.members.now in
    record {
      counted =
          ap (λ (k : ℕ). c.loop-member.count + k) c.in_ok-ports.ensures.value
          ∙ (ap (λ (k : ℕ). k + length (external_ports (tree_in c.member-item.result))) c.loop-member.invariant.counted ∙ sym (together_more ms i c.member-item.result c.loop-member-test.true (sym c.member-item.is)));
      most = omega (arith, c.loop-member.invariant.most, c.in_ok-ports.ensures.most);
    }
