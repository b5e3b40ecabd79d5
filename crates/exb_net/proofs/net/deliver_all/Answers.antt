use Rattle.std.proofs.Common.{◌≡◌, ◌<◌, ◌≤◌, ◌^◌, ◌∙◌, length, refl, subst, sym, arith}
use Rattle.exb_net.specs.Deliveries.{HasDelivered}
use Rattle.exb_net.proofs.ListPlaces.{falls_same, falls_then, none_there, stay_few}
use Rattle.exb_net.proofs.Deliveries.{none_left, played_so}
use Rattle.exb_net.proofs.net.deliver_all.Goals as goal

pub loop-delivery-init : goal.loop-delivery-init
loop-delivery-init g c = record { turn = c.requires.turn; ok = λ m turn d e. d; others = record { each = λ b none. refl }; few = c.requires.few; fates = falls_same (λ x. (goal.Fate-dyn g (x.fate.vtable, x.fate.value)).left x.fate.value) c.args.nodes.now.items }

pub deliver-requires-clause-turn : goal.deliver-requires-clause-turn
deliver-requires-clause-turn g c =
    let t = c.loop-delivery.invariant.turn in
    let room : c.loop-delivery._delivery < length t.0.net.wires = (let e = t.1.1.1 in omega (arith, c.loop-delivery-test.true, e)) in
    (t.0, (c.loop-delivery._delivery, (t.1.0, (subst (HasDelivered t.0 c.loop-delivery._delivery c.loop-delivery.nodes.items) c.in-Some.ensures.items t.1.1.0, room))))

pub deliver-requires-clause-few : goal.deliver-requires-clause-few
deliver-requires-clause-few g c = c.loop-delivery.invariant.few

pub loop-delivery-preserved : goal.loop-delivery-preserved
loop-delivery-preserved g c =
    let i = c.loop-delivery._delivery in
    let nodes = c.loop-delivery.nodes.items in
    let t = c.loop-delivery.invariant.turn in
    let room : i < length t.0.net.wires = (let e = t.1.1.1 in omega (arith, c.loop-delivery-test.true, e)) in
    record {
      turn = (t.0, (t.1.0, (c.in_ok-deliver.ensures.ok t.0 i t.1.0 (subst (HasDelivered t.0 i nodes) c.in-Some.ensures.items t.1.1.0) room, t.1.1.1)));
      ok = λ m turn d e. (let low = c.loop-delivery-test.true in c.in_ok-deliver.ensures.ok m i turn (subst (HasDelivered m i nodes) c.in-Some.ensures.items (c.loop-delivery.invariant.ok m turn d e)) (omega (arith, low, e)));
      others = record { each = λ b none. (let apart = c.mark.ensures b none in c.deliver.ensures.others b apart.1 ∙ c.loop-delivery.invariant.others.each b apart.0) };
      few = stay_few (λ x. (goal.Fate-dyn g (x.fate.vtable, x.fate.value)).left x.fate.value) (2 ^ 57) nodes c.deliver.new.nodes.items c.loop-delivery.invariant.few c.in_ok-deliver.ensures.fates;
      fates = falls_then (λ x. (goal.Fate-dyn g (x.fate.vtable, x.fate.value)).left x.fate.value) c.args.nodes.now.items nodes c.deliver.new.nodes.items c.loop-delivery.invariant.fates c.in_ok-deliver.ensures.fates;
    }

pub returns-in_default-clause-ok : goal.returns-in_default-clause-ok
returns-in_default-clause-ok g c = λ m turn d e.
    let i = c.loop-delivery._delivery in
    let low = c.loop-delivery-test.true in
    let within : i ≤ length m.net.wires = omega (arith, low, e) in
    let empty : length c.loop-delivery.queue.items ≡ 0 = omega (arith, c.in_default.ensures.cases.0, c.loop-delivery.queue.ok.0) in
    played_so c.deliveries_end_soon.ensures m i c.loop-delivery.nodes.items c.pop_front.new.self.items turn (subst (HasDelivered m i c.loop-delivery.nodes.items) c.in_default.ensures.items (c.loop-delivery.invariant.ok m turn d e)) within
    (sym c.in_default.ensures.items ∙ none_there c.loop-delivery.queue.items empty)

pub returns-in_default-clause-fates : goal.returns-in_default-clause-fates
returns-in_default-clause-fates g c = c.loop-delivery.invariant.fates

pub returns-clause-ok : goal.returns-clause-ok
returns-clause-ok g c = λ m turn d e.
    let i = c.loop-delivery._delivery in
    let now = c.loop-delivery.invariant.ok m turn d e in
    let auto = c.loop-delivery.auto in
    let all : i ≡ length m.net.wires = omega (arith, c.loop-delivery-test.false, e) in
    let within : i ≤ length m.net.wires = omega (arith, all) in
    played_so c.deliveries_end_soon.ensures m i c.loop-delivery.nodes.items c.loop-delivery.queue.items turn now within
    (none_left c.deliveries_end_soon.ensures m i c.loop-delivery.nodes.items c.loop-delivery.queue.items turn now within all)

pub returns-clause-fates : goal.returns-clause-fates
returns-clause-fates g c = c.loop-delivery.invariant.fates
