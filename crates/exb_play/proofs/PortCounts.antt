-- Counts by port of a run so far: all of them fit.
use Rattle.std.proofs.Common.{ℕ, ◌^◌, ◌<◌, ◌≤◌, List, length, ap, sym, subst, arith}
use Rattle.exb_model.specs.declared.event.Event.{Event}
use Rattle.exb_model.specs.Input.{Input, Mode, Segment}
use Rattle.exb_counters.specs.Counters.{octets_of}
use Rattle.exb_counters.specs.CounterUpdates.{FitsCounts, nothing, plus_events}
use Rattle.exb_world_spec.specs.Runs.PassedFrames.{StepsTellPassed}
use Rattle.exb_world_spec.specs.Steps.{Stepped}
use Rattle.exb_world_spec.specs.Worlds.{Left as Leaving, left_at}
use Rattle.exb_outbox.specs.declared.log.Log.{Log}
use Rattle.exb_world.specs.WorldContracts.{Network}
use Rattle.exb_bridge.specs.BridgeWorlds.{all_left}
use Rattle.exb_world_laws.specs.Runs.SegmentRuns.{RunsAreFew, RunsAreUnderWay, arrivals_in}
use Rattle.exb_play.specs.BridgeRuns.{HasTold, Told, ◌with◌}
use Rattle.exb_journal.specs.Tallies.{counts_of, nothing_counted}
use Rattle.exb_outputs.specs.declared.run_counts.RunCounts.{RunCounts}
use Rattle.exb_outputs.specs.Counts.{CanCount, GoTogether, IsCounted}
use Rattle.exb_outputs.specs.Manifests.{Listed}
use Rattle.exb_outputs.specs.CaptureSizes.{capture_size}
use Rattle.exb_play.specs.RunInvariants.{CanFollow}
use Rattle.exb_outputs.proofs.HistoryCounts.{count_events}
use Rattle.exb_play.proofs.ToldSegments.{tally-fits}
use Rattle.exb_outputs.proofs.PortCounts.{run_together, relayed_few, ignored_few, drops_few, octets_few, ports-can}

pub played_together : StepsTellPassed → (m : Mode) (i : Input) (so_far : List Segment) (n : Network) (t : Told) →
    HasTold m i so_far n t → GoTogether t.events t.passed
played_together law m i so_far n t p =
    let k = p.plays in
    let of_run : GoTogether p.done.events p.done.passed = subst (λ (d : Stepped). GoTogether d.events d.passed) (sym k.is) (run_together law _ _ _ _) in
    subst (λ (es : List Event). GoTogether es t.passed) (sym p.told) (subst (GoTogether p.done.events) (sym p.said) of_run)

-- ---- all fits
pub ports-fit : (m : Mode) (i : Input) (so_far : List Segment) (n : Network) (t : Told) → RunsAreFew → CanFollow i so_far →
    HasTold m i so_far n t → (q : ℕ) → FitsCounts (plus_events t.events t.passed q nothing)
ports-fit m i so_far n t law follows p q =
    let few = law m i so_far p.done p.plays in
    let relays = ap (λ (es : List Event). (count_events nothing_counted es).relayed) p.told in
    let ignores = ap (λ (es : List Event). (count_events nothing_counted es).ignored) p.told in
    let entered = few.entered in
    let arrivals = follows.few_arrivals in
    let all = relayed_few t.events q nothing_counted in
    let drops = drops_few t.events t.passed q in
    let others = ignored_few t.events q nothing_counted in
    record {
      relayed = omega (arith, relays, entered, arrivals, all);
      dropped = omega (arith, relays, entered, arrivals, all, drops);
      ignored = omega (arith, ignores, entered, arrivals, others);
      left = omega arith;
      octets = omega arith;
    }

-- and the bytes of each capture
pub sizes-fit : (m : Mode) (i : Input) (so_far : List Segment) (n : Network) (t : Told) → RunsAreFew → RunsAreUnderWay → length (arrivals_in so_far) ≤ 2 ^ 49 →
    HasTold m i so_far n t → (q : ℕ) → capture_size (left_at q t.left) < 2 ^ 64
sizes-fit m i so_far n t law way arrivals p q =
    let few = law m i so_far p.done p.plays in
    let at = ap (λ (xs : List Leaving). length (left_at q xs)) p.gone in
    let frames = few.left_each q in
    let copies = (way m i so_far p.done p.plays).copies in
    let short = octets_few q p.done.left (λ k d low. (copies k d low).short) in
    let bytes = ap (λ (xs : List Leaving). octets_of (left_at q xs)) p.gone in
    omega (arith, at, bytes, short, frames, arrivals)

pub can-count : (m : Mode) (i : Input) (manifest : Listed) (so_far : List Segment) (n : Network) (c : RunCounts) (t : Told) (log : Log) → StepsTellPassed → RunsAreFew → CanFollow i so_far →
    HasTold m i so_far n (t with log) → IsCounted manifest c t.events t.passed t.left → GoTogether t.events t.passed → CanCount c log.events log.passed (length (all_left log.left))
can-count m i manifest so_far n c t log steps few follows played are together = record {
  tally = tally-fits m i so_far n t log (counts_of c.tally) few follows played are.tally;
  ports = ports-can manifest c.ports t.events log.events t.passed log.passed are.ports together (ports-fit m i so_far n (t with log) few follows played);
}
