use Rattle.std.proofs.Common.{◌∙◌, ◌==◌, ◌++◌, ◌∷◌, [], List, slice_index, take, refl, sym, ap, subst}
use Rattle.std.proofs.lemmas.List.{take_more, take_all}
use Rattle.exb_net_spec.specs.declared.wires.Wire.{Wire}
use Rattle.exb_net_file.specs.Wires.{are_joined}
use Rattle.exb_net_file.proofs.LoopTest.{AreLabels, labels_begin, labels_step, other_label}
use Rattle.exb_net_file.proofs.wires.are_joined.Goals as goal

pub loop-wire-init : goal.loop-wire-init
loop-wire-init c = labels_begin c.own_labels-labels.result c.own_labels-labels.ensures.sized c.own_labels-labels.ensures.own

pub loop-wire-preserved : goal.loop-wire-preserved
loop-wire-preserved c =
    let xs = c.args.wires.now in
    let i = c.loop-wire.wire-index in
    let labels = c.loop-wire.labels in
    let x : Wire = c.wire-item.result in
    let new = c.relabel.new.labels in
    subst (λ (ws : List Wire). AreLabels new (are_joined ws)) (sym (take_more xs i x c.loop-wire-test.true ∙ ap (λ (y : Wire). take i xs ++ y ∷ []) (sym c.wire-item.is)))
    (labels_step labels new (are_joined (take i xs)) x c.loop-wire.invariant c.label_of-to.ensures.low c.label_of-from.ensures.low
    (λ b lt. c.relabel.ensures.named b lt ∙ (λ j. other_label (c.label_of-from.ensures.value j) (c.label_of-to.ensures.value j) (slice_index labels b)))
    (take i xs) refl c.relabel.ensures.sized)

pub returns : goal.returns
returns c =
    (λ j. c.label_of-label.ensures.value j == c.label_of-other_label.ensures.value j)
    ∙ c.loop-wire.invariant.tell c.args.bridge c.args.other c.label_of-label.ensures.low c.label_of-other_label.ensures.low
    ∙ ap (λ (ws : List Wire). are_joined ws c.args.bridge c.args.other) (take_all c.loop-wire.wire-index c.args.wires.now c.loop-wire-test.false)
