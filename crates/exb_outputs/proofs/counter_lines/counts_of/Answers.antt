use Rattle.std.proofs.Common.{◌≡◌, ap, ◌∙◌, arith}
use Rattle.exb_counters.specs.declared.counters.Counts5.{Counts5}
use Rattle.exb_counters.specs.CounterUpdates.{counts_at}
use Rattle.exb_outputs.specs.Manifests.{port_at}
use Rattle.exb_outputs.specs.Counts.{counts_with}
use Rattle.exb_outputs.proofs.PortCounts.{fives}
use Rattle.exb_outputs.proofs.counter_lines.counts_of.Goals as goal

pub size_of-size-requires-clause-fits : goal.size_of-size-requires-clause-fits
size_of-size-requires-clause-fits c = c.requires.counted.fits

pub overflow_sub-result : goal.overflow_sub-result
overflow_sub-result c =
    let size = c.size_of-size.ensures in
    let whole = c.requires.counted.whole in
    omega (arith, size, whole)

pub overflow_mul-result : goal.overflow_mul-result
overflow_mul-result c =
    let frames = c.frames_of-frames.ensures in
    let whole = c.requires.counted.whole in
    let fits = c.requires.counted.fits in
    omega (arith, frames, whole, fits)

pub overflow_sub-result-2 : goal.overflow_sub-result-2
overflow_sub-result-2 c =
    let frames = c.frames_of-frames.ensures in
    let size = c.size_of-size.ensures in
    let whole = c.requires.counted.whole in
    omega (arith, frames, size, whole)

pub returns : goal.returns
returns c =
    let manifest = c.args.manifest.now in
    let frames = c.frames_of-frames.ensures in
    let size = c.size_of-size.ensures in
    let came : c.line-came.result ≡ counts_at c.args.counters.now (port_at manifest c.args.at) = c.line-came.ensures ∙ ap (counts_at c.args.counters.now) c.port.ensures in
    fives _ (counts_with manifest c.args.outputs.now c.args.counters.now (port_at manifest c.args.at)) (ap (λ (k : Counts5). k.relayed) came) (ap (λ (k : Counts5). k.dropped) came) (ap (λ (k : Counts5). k.ignored) came) frames
    (omega (arith, frames, size))
