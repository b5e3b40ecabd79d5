use Rattle.std.proofs.Common.{◌≡◌, ℕ, ◌++◌, true, false, List, None, ◌==◌, cond, sym, ◌∙◌, ap, subst, arith}
use Rattle.std.proofs.lemmas.List.{append-nil, append_assoc}
use Rattle.exb_model.specs.Tree.{is_port, is_cascade, is_external}
use Rattle.exb_relay.specs.Spaces.{numbers_of}
use Rattle.exb_relay.specs.Sends.{local_send}
use Rattle.exb_model.specs.declared.vlan.Kind.TheVariants.{Tagged, Untagged}
use Rattle.exb_relay.specs.declared.send.SendTo.{SendTo}
use Rattle.exb_relay.specs.SendsBySource.{is_hearer, kind_among, set_below, set_word}
use Rattle.exb_relay.proofs.PortsBelow.{cascade_from, external_free}
use Rattle.exb_relay.proofs.RelayParts.{at_external, at_cascade, at_unknown}
use Rattle.exb_relay.proofs.forwarding.send_at.Goals as goal

joined : (xs ys zs a b : List SendTo) → ys ≡ xs ++ a → zs ≡ ys ++ b → zs ≡ xs ++ (a ++ b)
joined xs ys zs a b e d = d ∙ (ap (λ w. w ++ b) e ∙ append_assoc xs a b)

pub send_to_set-requires-clause-cascade : goal.send_to_set-requires-clause-cascade
send_to_set-requires-clause-cascade c =
    let at : c.at-port.result ≡ c.args.place = omega (arith, c.at-port.ensures) in
    subst (λ (x : ℕ). is_cascade c.args.tree.now x ≡ true) at (cascade_from c.args.tree.now c.is_tree.ensures c.in-Cascade.extender c.at-port.result c.in-Cascade.ensures.1)

pub send_to_set-requires-in-Cascade-clause-cascade : goal.send_to_set-requires-in-Cascade-clause-cascade
send_to_set-requires-in-Cascade-clause-cascade c =
    let at : c.at-port.result ≡ c.args.place = omega (arith, c.at-port.ensures) in
    subst (λ (x : ℕ). is_cascade c.args.tree.now x ≡ true) at (cascade_from c.args.tree.now c.is_tree.ensures c.in-Cascade.extender c.at-port.result c.in-Cascade.ensures.1)

pub returns-in-Unknown-clause-items : goal.returns-in-Unknown-clause-items
returns-in-Unknown-clause-items c =
    let at : c.at-port.result ≡ c.args.place = omega (arith, c.at-port.ensures) in
    let none : is_port c.args.tree.now c.args.place ≡ false = subst (λ (x : ℕ). is_port c.args.tree.now x ≡ false) at c.in-Unknown.ensures in
    rw (at_unknown c.args.tree.now c.is_tree.ensures (numbers_of c.args.spaces.now) c.args.source.now (is_hearer c.args.hearers.now Tagged) (is_hearer c.args.hearers.now Untagged) c.args.place c.requires.tagged c.requires.untagged none)
    (sym (append-nil c.args.sends.now.items))

pub returns-in-External-clause-items : goal.returns-in-External-clause-items
returns-in-External-clause-items c =
    let t = c.args.tree.now in
    let k = c.args.place in
    let at : c.at-port.result ≡ k = omega (arith, c.at-port.ensures) in
    let ext : is_external t k ≡ true = subst (λ (x : ℕ). is_external t x ≡ true) at c.in-External.ensures in
    let tagged = is_hearer c.args.hearers.now Tagged in
    let untagged = is_hearer c.args.hearers.now Untagged in
    let target = subst (λ (x : ℕ). c.target.result ≡ (cond (x == c.args.source.now.port) None (kind_among tagged untagged x))) at c.target.ensures in
    c.send_at_once.ensures.items ∙ ap (λ z. c.args.sends.now.items ++ z) (ap (local_send k) target ∙
    sym (at_external t c.is_tree.ensures (numbers_of c.args.spaces.now) c.args.source.now tagged untagged k (external_free t k ext)))

pub returns-in-Cascade-clause-items : goal.returns-in-Cascade-clause-items
returns-in-Cascade-clause-items c =
    let t = c.args.tree.now in
    let k = c.args.place in
    let at : c.at-port.result ≡ k = omega (arith, c.at-port.ensures) in
    let cascade : is_cascade t k ≡ true =
    subst (λ (x : ℕ). is_cascade t x ≡ true) at (cascade_from t c.is_tree.ensures c.in-Cascade.extender c.at-port.result c.in-Cascade.ensures.1) in
    let tagged = is_hearer c.args.hearers.now Tagged in
    let untagged = is_hearer c.args.hearers.now Untagged in
    rw (at_cascade t c.is_tree.ensures (numbers_of c.args.spaces.now) c.args.source.now tagged untagged k c.requires.tagged c.requires.untagged cascade)
    (joined c.args.sends.now.items c.send_to_set.new.sends.items c.send_to_set-in-Cascade.new.sends.items
    (set_word (numbers_of c.args.spaces.now) c.args.source.now k Tagged (set_below t k tagged)) (set_word (numbers_of c.args.spaces.now) c.args.source.now k Untagged (set_below t k untagged))
    c.send_to_set.ensures.items c.send_to_set-in-Cascade.ensures.items)
