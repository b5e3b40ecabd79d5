use Rattle.std.proofs.Common.{◌≡◌, ◌⊎◌, Err, ap, sym, subst, arith}
use Rattle.std.proofs.lemmas.Option.{slice_get_within}
use Rattle.exb_inputs.specs.declared.fault.Fault.{Fault}
use Rattle.exb_inputs.specs.declared.fault.Fault.TheVariants.{Memory}
use Rattle.exb_timeline.specs.NetMergeOrder.{programmes_in}
use Rattle.exb_net.proofs.ListPlaces.{at_place}
use Rattle.exb_inputs.specs.NetRefusals.{member_fault}
use Rattle.exb_net.specs.ShelfEffects.{IsOfCaptures}
use Rattle.exb_net.proofs.CaptureFaults.{failed-changed, failed-counts, failed-never, of-bridge, unnamed-changed, unnamed-never, unnamed-play}
use Rattle.exb_net.proofs.ShelfEffects.{err-own}
use Rattle.exb_net.proofs.net_player.next_due.Goals as goal

pub returns-in-Some-clause-never : goal.returns-in-Some-clause-never
returns-in-Some-clause-never g c t =
    let x = c.in-Err.failure in
    failed-never c.as_str.result.now x.fault c.of_member.result (subst (λ (f : Fault). (c.of_member.result ≡ member_fault c.as_str.result.now f) ⊎ (c.of_member.result ≡ Memory)) c.from-fault.ensures c.of_member.ensures.is)
    (λ p at is streams. c.in-Err.ensures.never t x.bridge p at (ap Err (of-bridge x p at is)) streams)

pub returns-in-Some-clause-changed : goal.returns-in-Some-clause-changed
returns-in-Some-clause-changed g c name p at is =
    let x = c.in-Err.failure in
    let there = c.in-Some.ensures.lookup in
    failed-changed (IsOfCaptures c.args.rests.now (programmes_in c.args.agenda.now)) c.as_str.result.now x.fault c.of_member.result
    (subst (λ (f : Fault). (c.of_member.result ≡ member_fault c.as_str.result.now f) ⊎ (c.of_member.result ≡ Memory)) c.from-fault.ensures c.of_member.ensures.is)
    (λ q byte same. record {
      bridge = x.bridge;
      rest = c.in-Some.rest.now;
      is = at_place c.args.rests.now x.bridge c.in-Some.rest.now there.3.0 there.1;
      called = sym c.as_str.ensures;
      has = c.in-Err.ensures.port x.bridge q byte (ap Err (of-bridge x q byte same));
    })
    name p at (err-own c.of_member.result _ is)

pub returns-in-Some-clause-faults : goal.returns-in-Some-clause-faults
returns-in-Some-clause-faults g c = failed-counts c.in-Err.failure.fault c.from-fault.result c.of_member.result _ _ c.from-fault.ensures c.in-Err.ensures.faults c.in-Err.ensures.counts c.of_member.ensures.counts

pub returns-in-None-clause-never : goal.returns-in-None-clause-never
returns-in-None-clause-never g c t = unnamed-never c.in-Err.failure.fault c.from-fault.result c.from-fault.ensures

pub returns-in-None-clause-changed : goal.returns-in-None-clause-changed
returns-in-None-clause-changed g c name p at is = unnamed-changed c.in-Err.failure.fault c.from-fault.result c.from-fault.ensures name p at (err-own c.from-fault.result _ is)

pub returns-in-None-clause-faults : goal.returns-in-None-clause-faults
returns-in-None-clause-faults g c = failed-counts c.in-Err.failure.fault c.from-fault.result c.from-fault.result _ _ c.from-fault.ensures c.in-Err.ensures.faults c.in-Err.ensures.counts (λ old new h. h)

pub returns-in-None-clause-causes : goal.returns-in-None-clause-causes
returns-in-None-clause-causes g c =
    let x = c.in-Err.failure in
    let beyond = c.in-None.ensures.lookup.3 in
    let few = c.requires.rests in
    unnamed-play x.fault c.from-fault.result c.from-fault.ensures
    (λ p at is.
    let own = c.in-Err.ensures.port x.bridge p at (ap Err (of-bridge x p at is)) in
    let low = slice_get_within (programmes_in c.args.agenda.now) x.bridge own.0 own.1 in
    let no : ⊥ = omega (arith, low, few, beyond) in
    no)
