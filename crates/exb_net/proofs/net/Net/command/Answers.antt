use Rattle.std.proofs.Common.{◌+◌, ◌==◌, ◌≤◌, if◌then◌else◌, length, refl, arith}
use Rattle.std.proofs.lemmas.Bool.{eq-eqb}
use Rattle.exb_net.proofs.ListPlaces.{at_place, each_set}
use Rattle.exb_net.proofs.QuietBridges.{quiet_set}
use Rattle.exb_net.proofs.NetCalls.{ordered_so}
use Rattle.exb_net.proofs.net.Net.command.Goals as goal

pub index_mut-requires : goal.index_mut-requires
index_mut-requires g c = omega (arith, c.requires.here, c.args.self.now.nodes.ok.0)

pub order-requires-clause-can : goal.order-requires-clause-can
order-requires-clause-can g c = c.requires.can c.index_mut.result.now (at_place c.args.self.now.nodes.items c.args.bridge c.index_mut.result.now c.requires.here c.index_mut.ensures.value)

pub order-requires-clause-few : goal.order-requires-clause-few
order-requires-clause-few g c = c.requires.fate c.index_mut.result.now (at_place c.args.self.now.nodes.items c.args.bridge c.index_mut.result.now c.requires.here c.index_mut.ensures.value)

more : (n k : _) → n ≤ n + k
more n k = omega arith

-- memory ran out before
pub returns-then-self : goal.returns-then-self
returns-then-self g c = record { ok = tt; failed = (λ e. c.if-self.true, λ e. refl); memory = c.if-self.true; came = tt; fates = tt }

pub returns-in-Ok : goal.returns-in-Ok
returns-in-Ok g c =
    let x = c.args.self.now in
    let nodes = x.nodes.items in
    let i = c.args.bridge in
    let is = at_place nodes i c.index_mut.result.now c.requires.here c.index_mut.ensures.value in
    record {
      ok = λ n s told k.
          ordered_so n s told x k c.bridges_handle.ensures i c.args.command.now.command c.index_mut.result.now c.order.new.node _ c.requires.here is c.in-Ok.ensures.ok refl (record { queue = refl; wires = refl; came = refl });
      failed = (λ e. absurd (cc), λ e. absurd (cc));
      memory = tt;
      came = refl;
      fates = each_set (λ b x y. (goal.Fate-dyn g (y.fate.vtable, y.fate.value)).left y.fate.value ≤ (goal.Fate-dyn g (x.fate.vtable, x.fate.value)).left x.fate.value + (if b == i then length c.args.command.now.fate else 0)) nodes i c.index_mut.result.now c.order.new.node is
          (rw (eq-eqb i i refl) c.order.ensures.fate) (λ k z ne. more _ _);
    }

-- memory runs out
pub returns-in-Err : goal.returns-in-Err
returns-in-Err g c = record { ok = tt; failed = (λ e. absurd (cc), λ e. absurd (cc)); memory = refl; came = tt; fates = tt }

pub invariant_of-self : goal.invariant_of-self
invariant_of-self g c = record { quiet = quiet_set c.args.self.now.touched c.mark.new.self c.args.bridge c.args.self.now.nodes.items c.order.new.node c.mark.ensures c.args.self.now.quiet }

pub invariant_of-self-in-Err : goal.invariant_of-self-in-Err
invariant_of-self-in-Err g c = record { quiet = quiet_set c.args.self.now.touched c.mark.new.self c.args.bridge c.args.self.now.nodes.items c.order.new.node c.mark.ensures c.args.self.now.quiet }
