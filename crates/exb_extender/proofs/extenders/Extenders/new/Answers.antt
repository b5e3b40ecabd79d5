use Rattle.std.proofs.Common.{ℕ, [], ◌∷◌, refl, sym, subst, arith, length-append}
use Rattle.exb_model.specs.Setup.{shape_of}
use Rattle.exb_extender.specs.Extenders.{IsPoweredOn}
use Rattle.std.specs.Prelude.{slice_index}
use Rattle.exb_extender.proofs.ExtendersByNumber.{powered_more, powered_fars, powered_all, powered_only, powered_first, powered_noted, waiting_first, waiting_more}
use Rattle.exb_extender.proofs.extenders.Extenders.new.Goals as goal

pub at_power_on-requires-clause-ports : goal.at_power_on-requires-clause-ports
at_power_on-requires-clause-ports c = c.port_counts-ports.ensures.few c.loop-number.number

pub loop-number-init : goal.loop-number-init
loop-number-init c = rw (c.in_ok-push.ensures.items, c.new-extenders.ensures.items) (record { length = refl; powered = powered_first c.port_counts-ports.result; waiting = waiting_first })

pub loop-number-preserved : goal.loop-number-preserved
loop-number-preserved c =
    let ports = c.port_counts-ports.result in
    let xs = c.loop-number.extenders.items in
    let made = c.in_ok-extender.extender in
    let here = subst (λ (m : ℕ). IsPoweredOn m (slice_index ports m) made) (sym c.loop-number.invariant.length) c.in_ok-extender.ensures in
    rw c.in_ok-push-2.ensures.items (
    record {
      length = omega (arith, length-append xs (made ∷ []), c.loop-number.invariant.length);
      powered = powered_more ports xs made c.loop-number.invariant.powered here;
      waiting = waiting_more (slice_index ports c.loop-number.number) c.loop-number.number xs made c.loop-number.waiting c.with_bit-waiting.result c.is_some.result c.loop-number.invariant.length
          c.in_ok-extender.ensures c.is_some.ensures c.with_bit-waiting.ensures c.loop-number.invariant.waiting;
    })

pub returns-clause-far : goal.returns-clause-far
returns-clause-far c =
    powered_fars (shape_of c.args.setup.now) c.port_counts-ports.result c.loop-number.extenders.items 0 c.port_counts-ports.ensures.counts c.loop-number.invariant.powered

pub returns-clause-there : goal.returns-clause-there
returns-clause-there c =
    powered_all (shape_of c.args.setup.now) c.port_counts-ports.result c.loop-number.extenders.items c.port_counts-ports.ensures.counts c.loop-number.invariant.powered
    (omega (arith, c.requires.tree.sized, c.loop-number.invariant.length, c.loop-number-test.false))

pub returns-clause-only : goal.returns-clause-only
returns-clause-only c =
    powered_only (shape_of c.args.setup.now) c.port_counts-ports.result c.loop-number.extenders.items c.port_counts-ports.ensures.counts c.loop-number.invariant.powered

pub invariant_of-result : goal.invariant_of-result
invariant_of-result c =
    powered_noted c.port_counts-ports.result c.loop-number.extenders.items c.loop-number.waiting (let end = c.loop-number.auto.number-end in let past = c.loop-number-test.false in omega (arith, c.loop-number.invariant.length, past, end)) c.loop-number.invariant.powered
    c.loop-number.invariant.waiting
