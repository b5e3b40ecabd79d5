use Rattle.std.proofs.Common.{◌≡◌, ◌+◌, ◌-◌, ◌++◌, Bool, true, false, not, refl, sym, ◌∙◌, ap, arith}
use Rattle.std.proofs.lemmas.List.{append-nil}
use Rattle.exb_model.specs.Ports.{ports_of}
use Rattle.exb_model.specs.Refusals.{is_empty_set}
use Rattle.exb_numbers.specs.Groups.{group_of}
use Rattle.exb_numbers.specs.Spaces.{groups_at}
use Rattle.exb_relay.specs.SendsBySource.{is_hearer, set_below, words_for}
use Rattle.exb_relay.proofs.RelayParts.{ports_below}
use Rattle.exb_relay.proofs.forwarding.send_to_set.Goals as goal

not_not : (b c : Bool) → c ≡ not b → b ≡ not c
not_not true true e = e
not_not true false e = refl
not_not false true e = refl
not_not false false e = e

pub returns-then-has_below-clause-items : goal.returns-then-has_below-clause-items
returns-then-has_below-clause-items c =
    let t = c.args.tree.now in
    let k = c.args.place in
    let test = is_hearer c.args.hearers.now c.args.kind in
    let full : is_empty_set (set_below t k test) ≡ false = not_not _ c.has_below.result (c.has_below.ensures k refl) ∙ ap not c.if-has_below.true in
    let place : k + 1 - 1 ≡ k = omega arith in
    let groups : c.groups.result.now ≡ groups_at c.args.spaces.now k = c.groups.ensures ∙ ap (groups_at c.args.spaces.now) place in
    let found : c.find-group.result ≡ group_of (groups_at c.args.spaces.now k) (set_below t k test) =
    c.find-group.ensures.value ∙ (ap (λ g. group_of g (ports_of c.below-set.result)) groups ∙ ap (group_of (groups_at c.args.spaces.now k)) (ports_below t c.is_tree.ensures c.below-set.result test k (λ q. c.below-set.ensures k q refl))) in
    c.send_word.ensures.items ∙ ap (λ z. c.args.sends.now.items ++ z) (ap (words_for c.args.source.now k c.args.kind) found ∙ sym (rw full refl))

pub returns-else-has_below-clause-items : goal.returns-else-has_below-clause-items
returns-else-has_below-clause-items c =
    let t = c.args.tree.now in
    let k = c.args.place in
    let test = is_hearer c.args.hearers.now c.args.kind in
    let empty = not_not (is_empty_set (set_below t k test)) c.has_below.result (c.has_below.ensures k refl) ∙ ap not c.if-has_below.false in
    rw empty (sym (append-nil c.args.sends.now.items))
