use Rattle.std.proofs.Common.{◌≡◌, ◌+◌, ◌<◌, ℕ, suc, List, [], ◌∷◌, length, take, ap, sym, subst, ◌∙◌, arith}
use Rattle.std.proofs.lemmas.List.{take_all}
use Rattle.exb_model.specs.Texts.{Counts}
use Rattle.exb_journal.specs.Tallies.{FitsTally, counts_of}
use Rattle.exb_net.proofs.ListPlaces.{at_place}
use Rattle.exb_net.specs.declared.bridge_outputs.BridgeOutputs.{BridgeOutputs}
use Rattle.exb_net.specs.WrittenOutputs.{tallies_in}
use Rattle.exb_net.specs.Summaries.{added}
use Rattle.exb_net.proofs.TallySums.{added-more, added-none, fits-more}
use Rattle.exb_net.proofs.net_player.count_all.Goals as goal

pub loop-desk-init : goal.loop-desk-init
loop-desk-init c = c.new-total.ensures ∙ added-none c.args.desks.now

pub add-requires : goal.add-requires
add-requires c =
    let desks = c.args.desks.now in
    let i = c.loop-desk.desk-index in
    let inside : i < length desks = omega arith in
    let d = c.desk-item.result in
    let is = at_place desks i d inside c.desk-item.is in
    subst (λ (k : Counts). FitsTally (added (k ∷ counts_of d.counted.tally ∷ []))) (sym c.loop-desk.invariant)
    (subst (λ (k : Counts). FitsTally k) (sym (added-more desks i d is)) (fits-more desks i d is c.requires))

pub loop-desk-preserved : goal.loop-desk-preserved
loop-desk-preserved c =
    let desks = c.args.desks.now in
    let i = c.loop-desk.desk-index in
    let inside : i < length desks = omega arith in
    let d = c.desk-item.result in
    let is = at_place desks i d inside c.desk-item.is in
    c.add.ensures ∙ ap (λ (k : Counts). added (k ∷ counts_of d.counted.tally ∷ [])) c.loop-desk.invariant ∙ added-more desks i d is ∙ (let more : suc i ≡ i + 1 = omega arith in ap (λ (k : ℕ). added (tallies_in (take k desks))) more)

pub returns : goal.returns
returns c = c.loop-desk.invariant ∙ ap (λ (ds : List BridgeOutputs). added (tallies_in ds)) (take_all c.loop-desk.desk-index c.args.desks.now (omega arith))
