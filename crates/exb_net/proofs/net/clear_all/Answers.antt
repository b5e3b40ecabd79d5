use Rattle.std.proofs.Common.{◌+◌, ◌-◌, ◌<◌, length, arith}
use Rattle.std.proofs.lemmas.Option.{slice_get_within}
use Rattle.exb_net.proofs.ListPlaces.{all_from, none_so_far, one_more, skip_to}
use Rattle.exb_net.proofs.QuietBridges.{forgets_nothing}
use Rattle.exb_net.proofs.net.clear_all.Goals as goal

pub clearing-init : goal.clearing-init
clearing-init g c = record { done = none_so_far _ c.args.nodes.now.items; falls = none_so_far _ c.args.nodes.now.items }

pub clearing-smaller : goal.clearing-smaller
clearing-smaller g c =
    let xs = c.args.nodes.now.items in
    let inside : c.in-Some.bridge < length c.clearing.nodes.items = omega (arith, c.if-bridge-len.false, c.len.ensures, c.clearing.nodes.ok.0) in
    let less : length xs - (c.in-Some.bridge + 1) < length xs - c.clearing.from = omega (arith, inside, c.clearing.invariant.done.long, c.in-Some.ensures.found.0) in
    less

pub clearing-preserved : goal.clearing-preserved
clearing-preserved g c =
    let xs = c.args.nodes.now.items in
    let ys = c.clearing.nodes.items in
    let j = c.in-Some.bridge in
    let inv = c.clearing.invariant in
    let found = c.in-Some.ensures.found in
    let inside : j < length ys = omega (arith, c.if-bridge-len.false, c.len.ensures, c.clearing.nodes.ok.0) in
    record {
      done =
          one_more _ xs ys j c.index_mut.result.now c.forget.new.node
          (skip_to _ xs ys c.clearing.from j found.0 inv.done (λ k x on before is. forgets_nothing x.world x.ends.items (c.requires.each k x is (found.1 k on before)))) inside c.index_mut.ensures.value
          c.forget.ensures.forgotten;
      falls =
          one_more _ xs ys j c.index_mut.result.now c.forget.new.node (skip_to _ xs ys c.clearing.from j found.0 inv.falls (λ k x on before is. omega arith)) inside c.index_mut.ensures.value c.forget.ensures.fate;
    }

pub returns-clause-forgotten : goal.returns-clause-forgotten
returns-clause-forgotten g c =
    all_from _ c.args.nodes.now.items c.clearing.nodes.items c.clearing.from c.clearing.invariant.done
    (λ k x on is. forgets_nothing x.world x.ends.items (c.requires.each k x is (c.in_default.ensures.none k on)))

pub returns-clause-fates : goal.returns-clause-fates
returns-clause-fates g c = all_from _ c.args.nodes.now.items c.clearing.nodes.items c.clearing.from c.clearing.invariant.falls (λ k x on is. omega arith)

pub returns-then-bridge-len-clause-forgotten : goal.returns-then-bridge-len-clause-forgotten
returns-then-bridge-len-clause-forgotten g c =
    let xs = c.args.nodes.now.items in
    let long = c.clearing.invariant.done.long in
    all_from _ xs c.clearing.nodes.items c.clearing.from c.clearing.invariant.done
    (λ k x on is.
    let low = slice_get_within xs k x is in
    forgets_nothing x.world x.ends.items (c.requires.each k x is (c.in-Some.ensures.found.1 k on (omega (arith, low, long, c.if-bridge-len.true, c.len.ensures, c.clearing.nodes.ok.0)))))

pub returns-then-bridge-len-clause-fates : goal.returns-then-bridge-len-clause-fates
returns-then-bridge-len-clause-fates g c = all_from _ c.args.nodes.now.items c.clearing.nodes.items c.clearing.from c.clearing.invariant.falls (λ k x on is. omega arith)
