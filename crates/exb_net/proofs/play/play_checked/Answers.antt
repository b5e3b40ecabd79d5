use Rattle.std.proofs.Common.{List, map, subst, inl, inr}
use Rattle.std.specs.Prelude.{string_bytes}
use Rattle.std.proofs.lemmas.Result.{err_from_is_err_and}
use Rattle.exb_inputs.proofs.Outcomes.{if_ok_map}
use Rattle.exb_net_spec.specs.Nets.{Net}
use Rattle.exb_outputs.specs.Manifests.{Listed}
use Rattle.exb_shelf.proofs.IdLemmas.{opens_then, opens_weaker}
use Rattle.exb_inputs.specs.OpenedNetFiles.{ReadsMemberCapture}
use Rattle.exb_net.specs.WrittenOutputs.{OnlyAllListed}
use Rattle.exb_net.specs.Nets.{net_of, manifest_with}
use Rattle.exb_net.specs.OpenOrder.{WritesNetOutput}
use Rattle.exb_net.specs.Outputs.{AreNetFronts}
use Rattle.exb_net.specs.NetInvariants.{HasWritten, IsCutOff}
use Rattle.exb_net.proofs.NetResults.{cut_fronts, made_fronts, played, played_fronts}
use Rattle.exb_net.proofs.PreparationLemmas.{net_is, prepared, trees_are}
use Rattle.exb_net.proofs.UntouchedCaptures.{captures_stay, members_same, net_same}
use Rattle.exb_net.proofs.ManifestsApart.{only_all_then}
use Rattle.exb_net.proofs.CombinedEffects.{either_way, made_as, made_then_read}
use Rattle.exb_net.proofs.play.play_checked.Goals as goal

pub set_desks-requires : goal.set_desks-requires
set_desks-requires g c = (let t = c.requires.read in record { read = (t.0, (t.1.0, (t.1.1.0, t.1.1.1.0))) })

pub play_into-requires-clause-prepared : goal.play_into-requires-clause-prepared
play_into-requires-clause-prepared g c =
    let S = g.S.Shelf in
    let t = c.requires.read in
    let ms = t.0 in
    let ws = t.1.0 in
    let taken = t.1.1.0 in
    let read = t.1.1.1.0 in
    let old = S.file c.args.shelf.now in
    let now = S.file c.set_desks.new.shelf in (
      c.args.counters,
      (
        ms,
        (
          ws,
          (
            old,
            prepared c.bridges_write_apart.ensures S.tells c.args.counters ms ws c.args.parts.now c.args.checked.now old now (S.ids c.set_desks.new.shelf) c.in_ok-desks.desks.items taken read
                (members_same S.tells ms old now c.args.checked.now (λ s. captures_stay c.args.counters ms ws read old now (c.in_ok-desks.ensures.only s ms ws taken read)) t.1.1.1.1) (c.in_ok-desks.ensures.set ms ws taken read),
          ),
        ),
      ),
    )

pub returns-clause-done : goal.returns-clause-done
returns-clause-done g c tells =
    let S = g.S.Shelf in
    let counters = c.args.counters in
    let old = S.file c.args.shelf.now in
    let now = S.file c.set_desks.new.shelf in
    let new = S.file c.play_into.new.shelf in
    if_ok_map c.play_into.result
    (λ line wrote ms ws taken read all.
    let stay = captures_stay counters ms ws read old now (c.in_ok-desks.ensures.only tells ms ws taken read) in
    let ready = prepared c.bridges_write_apart.ensures S.tells counters ms ws c.args.parts.now c.args.checked.now old now (S.ids c.set_desks.new.shelf) c.in_ok-desks.desks.items taken read
    (members_same S.tells ms old now c.args.checked.now (λ s. stay) all) (c.in_ok-desks.ensures.set ms ws taken read) in
    played counters ms (net_of ms ws old) (net_is ms ws old c.inputs_are_of_members.ensures read) (trees_are ms ws old) old new (string_bytes line)
    (subst (λ (n : Net). HasWritten (record { net = n; before = old; manifests = map (manifest_with counters) ms }) new (string_bytes line)) (net_same ms ws old now stay) (wrote counters ms ws old ready)))
    (c.play_into.ensures.done tells)

pub returns-clause-fronts : goal.returns-clause-fronts
returns-clause-fronts g c tells = λ ms ws taken read all.
    let S = g.S.Shelf in
    let counters = c.args.counters in
    let old = S.file c.args.shelf.now in
    let now = S.file c.set_desks.new.shelf in
    let new = S.file c.play_into.new.shelf in
    let stay = captures_stay counters ms ws read old now (c.in_ok-desks.ensures.only tells ms ws taken read) in
    let same = net_same ms ws old now stay in
    let net = net_is ms ws old c.inputs_are_of_members.ensures read in
    let ready = prepared c.bridges_write_apart.ensures S.tells counters ms ws c.args.parts.now c.args.checked.now old now (S.ids c.set_desks.new.shelf) c.in_ok-desks.desks.items taken read
    (members_same S.tells ms old now c.args.checked.now (λ s. stay) all) (c.in_ok-desks.ensures.set ms ws taken read) in
    either_way {R = AreNetFronts ms (net_of ms ws old) old new} c.play_into.result
    (λ line wrote. played_fronts counters ms (net_of ms ws old) net (trees_are ms ws old) old new (string_bytes line)
    (subst (λ (n : Net). HasWritten (record { net = n; before = old; manifests = map (manifest_with counters) ms }) new (string_bytes line)) same (wrote counters ms ws old ready)))
    (λ cut. cut_fronts counters ms (net_of ms ws old) net (trees_are ms ws old) c.nets_have_histories.ensures c.nets_are_played.ensures c.histories_go_on.ensures old new
    (subst (λ (n : Net). IsCutOff (record { net = n; before = old; manifests = map (manifest_with counters) ms }) new) same (cut counters ms ws old ready))) (c.play_into.ensures.done tells) (c.play_into.ensures.cut tells)

pub returns-in_err-desks-clause-fronts : goal.returns-in_err-desks-clause-fronts
returns-in_err-desks-clause-fronts g c tells = λ ms ws taken read all.
    let S = g.S.Shelf in
    let old = S.file c.args.shelf.now in
    made_fronts c.args.counters ms (net_of ms ws old) (net_is ms ws old c.inputs_are_of_members.ensures read) (trees_are ms ws old) c.nets_have_histories.ensures old (S.file c.set_desks.new.shelf)
    (λ text goes. c.in_err-desks.ensures.cut tells ms ws taken read text goes)

pub returns-clause-only : goal.returns-clause-only
returns-clause-only g c = λ t ms ws taken read.
    let S = g.S.Shelf in
    let ps = map (manifest_with c.args.counters) ms in
    let now = S.file c.set_desks.new.shelf in
    let new = S.file c.play_into.new.shelf in
    only_all_then ps (S.file c.args.shelf.now) now new (c.in_ok-desks.ensures.only t ms ws taken read)
    (subst (λ (qs : List Listed). OnlyAllListed qs now new) (c.in_ok-desks.ensures.set ms ws taken read).manifests (c.play_into.ensures.only t))

pub returns-clause-opens : goal.returns-clause-opens
returns-clause-opens g c = λ ms ws taken read.
    opens_then _ _ _ _ (opens_weaker (WritesNetOutput c.args.counters ms) _ _ _ (λ i writes. inr writes) (c.in_ok-desks.ensures.opened ms ws taken read)) (opens_weaker (ReadsMemberCapture ms) _ _ _ (λ i reads. inl reads) (c.play_into.ensures.opens ms ws taken))

pub returns-in_err-desks-clause-opens : goal.returns-in_err-desks-clause-opens
returns-in_err-desks-clause-opens g c = λ ms ws taken read. opens_weaker (WritesNetOutput c.args.counters ms) _ _ _ (λ i writes. inr writes) (c.in_err-desks.ensures.opened ms ws taken read)

pub returns-clause-made : goal.returns-clause-made
returns-clause-made g c = λ ms ws taken read. made_then_read c.args.counters ms _ c.play_into.result _ _ _ (c.in_ok-desks.ensures.made ms ws taken read) (c.play_into.ensures.opens ms ws taken)

pub returns-in_err-desks-clause-made : goal.returns-in_err-desks-clause-made
returns-in_err-desks-clause-made g c =
    let e = err_from_is_err_and c.from_residual.result c.from_residual.ensures.1 in
    rw (e.1, e.2) (λ ms ws taken read. made_as c.args.counters ms c.in_err-desks.field-0.0 _ _ c.in_err-desks.ensures.causes (c.in_err-desks.ensures.made ms ws taken read))
