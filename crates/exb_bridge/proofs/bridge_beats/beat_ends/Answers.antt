use Rattle.std.proofs.Common.{arith}
use Rattle.exb_bridge.specs.BridgeWorlds.{whole, world_in}
use Rattle.exb_bridge.proofs.Beats.{near_first, near_last, near_next, near_skip}
use Rattle.exb_bridge.proofs.bridge_beats.beat_ends.Goals as goal

pub numbers-init : goal.numbers-init
numbers-init g c = (omega arith, omega arith, near_first c.args.site.now.tree c.args.site.now (whole g.rest c.args.bridge.now) c.args.post.now.log c.requires)

pub numbers-preserved : goal.numbers-preserved
numbers-preserved g c =
    let s = c.args.site.now in
    let n = c.in-Some.number in
    let w = world_in (whole g.rest c.args.bridge.now) in
    let inv = c.numbers.invariant in
    let low = c.in-Some.ensures.found.low in
    let start = c.in-Some.ensures.found.start in (
      omega arith,
      omega (arith, low),
      near_next s.tree s w n (whole g.rest c.numbers.bridge) (whole g.rest c.beat_near_any.new.bridge) c.args.post.now.log c.numbers.post.log c.beat_near_any.new.post.log (omega (arith, start, inv.0)) low
          (near_skip s.tree s w c.numbers.from n (whole g.rest c.numbers.bridge) c.args.post.now.log c.numbers.post.log inv.0 start (omega (arith, low)) c.in-Some.ensures.found.before inv.2) c.in_ok-beat_near_any.ensures,
    )

pub returns : goal.returns
returns g c =
    let s = c.args.site.now in
    let w = world_in (whole g.rest c.args.bridge.now) in
    let inv = c.numbers.invariant in
    near_last s.tree s w 65 (whole g.rest c.numbers.bridge) c.args.post.now.log c.numbers.post.log (omega arith)
    (near_skip s.tree s w c.numbers.from 65 (whole g.rest c.numbers.bridge) c.args.post.now.log c.numbers.post.log inv.0 inv.1 (omega arith) (λ k start before. c.in_default.ensures.none k start) inv.2)
