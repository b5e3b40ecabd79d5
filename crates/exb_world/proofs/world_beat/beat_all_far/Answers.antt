use Rattle.std.proofs.Common.{arith, subst, sym, ◌∙◌}
use Rattle.exb_model.specs.Tree.{IsTree}
use Rattle.exb_bridge.specs.BridgeWorlds.{world_in}
use Rattle.exb_model.proofs.TreeTrunks.{extender-low}
use Rattle.exb_world.specs.MachineWorlds.{whole_of}
use Rattle.exb_world.proofs.Beats.{far_first, far_last, far_next, far_skip, resting_there, waiting_bit, waits, waits_not, who_waits}
use Rattle.exb_bridge.proofs.PartChanges.{far_at}
use Rattle.exb_world.proofs.world_beat.beat_all_far.Goals as goal

pub numbers-init : goal.numbers-init
numbers-init c =
    let s = c.args.site.now in
    let core = (whole_of c.args.core.now) in
    let far = c.beat_resting.new.self in
    (omega arith, omega arith, far_first s.tree s core far c.args.room.now.post.log c.beat_resting.ensures.state (far_at s core c.requires.at far c.beat_resting.ensures.same))

pub beat-requires-clause-extender : goal.beat-requires-clause-extender
beat-requires-clause-extender c =
    let s = c.args.site.now in
    let core = (whole_of c.args.core.now) in
    let far = c.beat_resting.new.self in
    let n = c.in-Some.number in
    let bit = waiting_bit s core far c.waiting-waiting.result (far_at s core c.requires.at far c.beat_resting.ensures.same) c.beat_resting.ensures.state c.waiting-waiting.ensures n in
    (who_waits s.tree (world_in core) n (waits _ (sym bit ∙ c.in-Some.ensures.found.here))).there

pub numbers-smaller : goal.numbers-smaller
numbers-smaller c =
    let s = c.args.site.now in
    let core = (whole_of c.args.core.now) in
    let n = c.in-Some.number in
    let bit = waiting_bit s core c.beat_resting.new.self c.waiting-waiting.result (far_at s core c.requires.at c.beat_resting.new.self c.beat_resting.ensures.same) c.beat_resting.ensures.state c.waiting-waiting.ensures n in
    let one = who_waits s.tree (world_in core) n (waits _ (sym bit ∙ c.in-Some.ensures.found.here)) in
    let low = extender-low s.tree (subst IsTree c.tree.ensures c.is_tree.ensures) n one.there in
    let start = c.in-Some.ensures.found.start in
    omega (arith, low, start)

pub numbers-preserved : goal.numbers-preserved
numbers-preserved c =
    let s = c.args.site.now in
    let core = (whole_of c.args.core.now) in
    let w = world_in core in
    let far = c.beat_resting.new.self in
    let n = c.in-Some.number in
    let inv = c.numbers.invariant in
    let found = c.in-Some.ensures.found in
    let bit = waiting_bit s core far c.waiting-waiting.result (far_at s core c.requires.at far c.beat_resting.ensures.same) c.beat_resting.ensures.state c.waiting-waiting.ensures in
    let one = who_waits s.tree w n (waits _ (sym (bit n) ∙ found.here)) in
    let low = extender-low s.tree (subst IsTree c.tree.ensures c.is_tree.ensures) n one.there in
    let start = found.start in (
      omega arith,
      omega (arith, low),
      far_next s.tree s w n (whole_of c.numbers.core) (whole_of c.beat.new.core) c.args.room.now.post.log c.numbers.room.post.log c.beat.new.room.post.log (omega (arith, start, inv.0)) low one.awake one.there
          (far_skip s.tree s w c.numbers.from n (whole_of c.numbers.core) c.args.room.now.post.log c.numbers.room.post.log inv.0 start (omega (arith, low))
          (λ k from before. waits_not _ (sym (bit k) ∙ found.before k from before)) inv.2) c.in_ok-beat.ensures,
    )

pub returns : goal.returns
returns c =
    let s = c.args.site.now in
    let core = (whole_of c.args.core.now) in
    let w = world_in core in
    let far = c.beat_resting.new.self in
    let inv = c.numbers.invariant in
    let bit = waiting_bit s core far c.waiting-waiting.result (far_at s core c.requires.at far c.beat_resting.ensures.same) c.beat_resting.ensures.state c.waiting-waiting.ensures in
    far_last s.tree s w 65 (whole_of c.numbers.core) c.args.room.now.post.log c.numbers.room.post.log (omega arith) (subst IsTree c.tree.ensures c.is_tree.ensures) (resting_there s core c.requires.at)
    (far_skip s.tree s w c.numbers.from 65 (whole_of c.numbers.core) c.args.room.now.post.log c.numbers.room.post.log inv.0 inv.1 (omega arith)
    (λ k start before. waits_not _ (sym (bit k) ∙ c.in_default.ensures.none k start)) inv.2)
