use Rattle.std.proofs.Common.{◌<◌, ◌≤◌, length, ap, arith}
use Rattle.exb_world_spec.specs.AllowedSteps.{Can}
use Rattle.exb_world_spec.specs.Worlds.{Tick}
use Rattle.exb_world.specs.WorldContracts.{tree_of, world_of}
use Rattle.exb_net.proofs.ListPlaces.{all_written, begins_so_far, one_more_at, still_all}
use Rattle.exb_net.proofs.net.pass_all.Goals as goal

pub loop-node-init : goal.loop-node-init
loop-node-init g c = record { done = begins_so_far _ c.args.nodes.now.items c.deref_mut-node-items.result.now c.deref_mut-node-items.ensures.value; falls = begins_so_far _ c.args.nodes.now.items c.deref_mut-node-items.result.now c.deref_mut-node-items.ensures.value }

pub let_pass-requires : goal.let_pass-requires
let_pass-requires g c =
    let xs = c.args.nodes.now.items in
    let ys = c.loop-node.node-items in
    let i = c.loop-node.node-index in
    let same = ap (λ zs. length zs) c.deref_mut-node-items.ensures.value in
    let long = c.loop-node.invariant.done.long in
    let inside : i < length ys = omega (arith, c.loop-node-test.true, same, long) in
    still_all _ xs ys i (λ x. Can (tree_of x.world) (world_of x.world) (Tick c.args.seconds)) c.node-item.result c.requires.can c.loop-node.invariant.done inside c.node-item.is

pub loop-node-preserved : goal.loop-node-preserved
loop-node-preserved g c =
    let xs = c.args.nodes.now.items in
    let ys = c.loop-node.node-items in
    let i = c.loop-node.node-index in
    let same = ap (λ zs. length zs) c.deref_mut-node-items.ensures.value in
    let long = c.loop-node.invariant.done.long in
    let inside : i < length ys = omega (arith, c.loop-node-test.true, same, long) in
    record {
      done = one_more_at _ xs ys i c.node-item.result c.let_pass.new.node c.loop-node.invariant.done inside c.node-item.is c.in_ok-let_pass.ensures.ok;
      falls = one_more_at _ xs ys i c.node-item.result c.let_pass.new.node c.loop-node.invariant.falls inside c.node-item.is c.in_ok-let_pass.ensures.fate;
    }

pub returns-clause-ok : goal.returns-clause-ok
returns-clause-ok g c =
    let xs = c.args.nodes.now.items in
    let ys = c.loop-node.node-items in
    let i = c.loop-node.node-index in
    let same = ap (λ zs. length zs) c.deref_mut-node-items.ensures.value in
    let long = c.loop-node.invariant.done.long in
    let end : length ys ≤ i = omega (arith, c.loop-node-test.false, same, long) in
    all_written _ xs ys i c.args.nodes.now.len (omega (arith, c.args.nodes.now.ok.0)) c.loop-node.invariant.done end

pub returns-clause-fates : goal.returns-clause-fates
returns-clause-fates g c =
    let xs = c.args.nodes.now.items in
    let ys = c.loop-node.node-items in
    let i = c.loop-node.node-index in
    let same = ap (λ zs. length zs) c.deref_mut-node-items.ensures.value in
    let long = c.loop-node.invariant.done.long in
    let end : length ys ≤ i = omega (arith, c.loop-node-test.false, same, long) in
    all_written _ xs ys i c.args.nodes.now.len (omega (arith, c.args.nodes.now.ok.0)) c.loop-node.invariant.falls end
