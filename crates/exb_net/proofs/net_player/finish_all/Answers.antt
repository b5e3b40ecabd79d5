use Rattle.std.proofs.Common.{rules, ◌≡◌, ℕ, ◌<◌, List, length, Some, refl, ap, sym, subst, ◌∙◌, arith, inl, inr}
use Rattle.std.specs.Prelude.{slice_get}
use Rattle.std.proofs.lemmas.Bool.{cases_eq, cases_lt}
use Rattle.std.proofs.lemmas.Option.{same_Some, slice_get_within}
use Rattle.std.proofs.lemmas.Result.{err_from_is_err_and}
use Rattle.exb_outputs.specs.Manifests.{Listed}
use Rattle.exb_outputs.proofs.ShelfEffects.{writes_from}
use Rattle.exb_outputs.specs.Counts.{counts_text}
use Rattle.exb_net.proofs.ListPlaces.{at_place, set_there}
use Rattle.exb_net.specs.declared.bridge_outputs.BridgeOutputs.{BridgeOutputs}
use Rattle.exb_net.specs.WrittenOutputs.{AreFronts, IsWhole, text_of}
use Rattle.exb_net.proofs.OutputsApart.{desk_at, fronts_stay, noted_stays, now_fronts, only_none, only_one, others_stay, manifest_at, manifests-long, manifests-same-long, manifests_set, tallies_set, whole_fronts, whole_stays}
use Rattle.exb_net.proofs.net_player.finish_all.Goals as goal

pub loop-bridge-init : goal.loop-bridge-init
loop-bridge-init g c = record {
  manifests = refl;
  tallies = refl;
  rest = λ b low. refl;
  ready = λ b d low is. c.requires.ready.each b d is;
  noted = λ dones all b d low is. all.each b d is;
  whole = λ t dones all b d low is. absurd (omega (arith, low));
  only = only_none _ _ _ _;
  faults = search rules;
  counted = refl;
}

pub finish-requires-clause-ready : goal.finish-requires-clause-ready
finish-requires-clause-ready g c =
    let inv = c.loop-bridge.invariant in
    let items = c.loop-bridge.desks.items in
    let i = c.loop-bridge.bridge in
    let long = manifests-same-long items c.args.desks.now.items c.loop-bridge.invariant.manifests in
    let ok = c.args.desks.now.ok.0 in
    let inside : i < length items = omega (arith, long, ok) in
    let was = c.index_mut.result.now in
    inv.ready i was (omega arith) (sym (inv.rest i (omega arith)) ∙ at_place items i was inside c.index_mut.ensures.value)

pub finish-requires-clause-counted : goal.finish-requires-clause-counted
finish-requires-clause-counted g c =
    let inv = c.loop-bridge.invariant in
    let items = c.loop-bridge.desks.items in
    let i = c.loop-bridge.bridge in
    let long = manifests-same-long items c.args.desks.now.items c.loop-bridge.invariant.manifests in
    let ok = c.args.desks.now.ok.0 in
    let inside : i < length items = omega (arith, long, ok) in
    let was = c.index_mut.result.now in
    (c.requires.can.each i was (sym (inv.rest i (omega arith)) ∙ at_place items i was inside c.index_mut.ensures.value)).counted

pub finish-requires-clause-sent : goal.finish-requires-clause-sent
finish-requires-clause-sent g c =
    let inv = c.loop-bridge.invariant in
    let items = c.loop-bridge.desks.items in
    let i = c.loop-bridge.bridge in
    let long = manifests-same-long items c.args.desks.now.items c.loop-bridge.invariant.manifests in
    let ok = c.args.desks.now.ok.0 in
    let inside : i < length items = omega (arith, long, ok) in
    let was = c.index_mut.result.now in
    (c.requires.can.each i was (sym (inv.rest i (omega arith)) ∙ at_place items i was inside c.index_mut.ensures.value)).sent

pub loop-bridge-preserved : goal.loop-bridge-preserved
loop-bridge-preserved g c =
    let S = g.S.Shelf in
    let inv = c.loop-bridge.invariant in
    let all_desks = c.args.desks.now.items in
    let items = c.loop-bridge.desks.items in
    let i = c.loop-bridge.bridge in
    let long = manifests-same-long items c.args.desks.now.items c.loop-bridge.invariant.manifests in
    let ok = c.args.desks.now.ok.0 in
    let inside : i < length items = omega (arith, long, ok) in
    let was = c.index_mut.result.now in
    let at = at_place items i was inside c.index_mut.ensures.value in
    let before = sym (inv.rest i (omega arith)) ∙ at in
    let done = c.in_ok-finish.ensures in
    let now = c.finish.new.desk in
    let old = S.file c.loop-bridge.shelf in
    let new = S.file c.finish.new.shelf in
    record {
      manifests = manifests_set items i was now at done.manifest ∙ inv.manifests;
      tallies = tallies_set items i was now at done.counted ∙ inv.tallies;
      rest = λ b high. set_there items i b now (omega (arith, high)) ∙ inv.rest b (omega (arith, high));
      ready = λ b d high is. (let r = inv.ready b d (omega (arith, high)) is in record { files = r.files; named = λ j low. done.only.kept _ ∙ r.named j low });
      noted = λ dones all b d high is.
          noted_stays S.tells old new d (dones b) (λ t. others_stay all_desks c.requires.apart i was before old new (done.only.others t) b d.manifest (manifest_at all_desks b d is) (omega (arith, high)))
          (inv.noted dones all b d (omega (arith, high)) is);
      whole = λ t dones all b d low is. elim (cases_eq b i) [
        | inl same ↦
            let there : was ≡ d = same_Some was d (sym before ∙ subst (λ (z : ℕ). slice_get all_desks z ≡ Some d) same is) in
            subst (λ (z : BridgeOutputs). IsWhole z.manifest new (text_of (dones b) (counts_text z.manifest z.counted.ports z.outputs))) there
            (subst (λ (z : ℕ). IsWhole was.manifest new (text_of (dones z) (counts_text was.manifest was.counted.ports was.outputs))) (sym same) (done.texts t (dones i) (inv.noted dones all i was (omega arith) before)))
        | inr ne ↦
            whole_stays old new d.manifest (text_of (dones b) (counts_text d.manifest d.counted.ports d.outputs))
            (others_stay all_desks c.requires.apart i was before old new (done.only.others t) b d.manifest (manifest_at all_desks b d is) ne) (inv.whole t dones all b d (omega (arith, low, ne)) is)
      ];
      only = only_one all_desks c.requires.apart i was before S.tells (S.file c.args.shelf.now) old new (S.ids c.args.shelf.now) (S.ids c.loop-bridge.shelf) (S.ids c.finish.new.shelf) inv.only done.only;
      faults = search (arith, done.faults.none_fell, inv.faults);
      counted = done.faults.once ∙ inv.counted;
    }

pub returns-clause-texts : goal.returns-clause-texts
returns-clause-texts g c = λ t dones all.
    let inv = c.loop-bridge.invariant in
    let long = ap (λ (ps : List Listed). length ps) inv.manifests in
    let mapped = manifests-long c.loop-bridge.desks.items in
    let mapped_before = manifests-long c.args.desks.now.items in
    record { each = λ b d is. inv.whole t dones all b d (let low = slice_get_within c.args.desks.now.items b d is in omega (arith, low, long, mapped, mapped_before)) is }

pub returns-in_err-finish-clause-only : goal.returns-in_err-finish-clause-only
returns-in_err-finish-clause-only g c =
    let S = g.S.Shelf in
    let inv = c.loop-bridge.invariant in
    let items = c.loop-bridge.desks.items in
    let i = c.loop-bridge.bridge in
    let long = manifests-same-long items c.args.desks.now.items c.loop-bridge.invariant.manifests in
    let ok = c.args.desks.now.ok.0 in
    let inside : i < length items = omega (arith, long, ok) in
    let was = c.index_mut.result.now in
    let before = sym (inv.rest i (omega arith)) ∙ at_place items i was inside c.index_mut.ensures.value in
    only_one c.args.desks.now.items c.requires.apart i was before S.tells (S.file c.args.shelf.now) (S.file c.loop-bridge.shelf) (S.file c.finish.new.shelf) (S.ids c.args.shelf.now) (S.ids c.loop-bridge.shelf) (S.ids c.finish.new.shelf) inv.only
    c.in_err-finish.ensures.only

pub returns-in_err-finish-clause-manifests : goal.returns-in_err-finish-clause-manifests
returns-in_err-finish-clause-manifests g c =
    let inv = c.loop-bridge.invariant in
    let items = c.loop-bridge.desks.items in
    let i = c.loop-bridge.bridge in
    let long = manifests-same-long items c.args.desks.now.items c.loop-bridge.invariant.manifests in
    let ok = c.args.desks.now.ok.0 in
    let inside : i < length items = omega (arith, long, ok) in
    let was = c.index_mut.result.now in
    manifests_set items i was c.finish.new.desk (at_place items i was inside c.index_mut.ensures.value) c.in_err-finish.ensures.manifest ∙ inv.manifests

pub returns-in_err-finish-clause-tallies : goal.returns-in_err-finish-clause-tallies
returns-in_err-finish-clause-tallies g c =
    let inv = c.loop-bridge.invariant in
    let items = c.loop-bridge.desks.items in
    let i = c.loop-bridge.bridge in
    let long = manifests-same-long items c.args.desks.now.items c.loop-bridge.invariant.manifests in
    let ok = c.args.desks.now.ok.0 in
    let inside : i < length items = omega (arith, long, ok) in
    let was = c.index_mut.result.now in
    tallies_set items i was c.finish.new.desk (at_place items i was inside c.index_mut.ensures.value) c.in_err-finish.ensures.counted ∙ inv.tallies

pub returns-in_err-finish-clause-cut : goal.returns-in_err-finish-clause-cut
returns-in_err-finish-clause-cut g c = λ t.
    let e = err_from_is_err_and c.from_residual.result c.from_residual.ensures.1 in
    rw e.1
    (λ dones all.
    let S = g.S.Shelf in
    let inv = c.loop-bridge.invariant in
    let all_desks = c.args.desks.now.items in
    let items = c.loop-bridge.desks.items in
    let i = c.loop-bridge.bridge in
    let long = manifests-same-long items c.args.desks.now.items c.loop-bridge.invariant.manifests in
    let ok = c.args.desks.now.ok.0 in
    let inside : i < length items = omega (arith, long, ok) in
    let was = c.index_mut.result.now in
    let before = sym (inv.rest i (omega arith)) ∙ at_place items i was inside c.index_mut.ensures.value in
    let old = S.file c.loop-bridge.shelf in
    let new = S.file c.finish.new.shelf in
    let bad = c.in_err-finish.ensures in
    record {
      each = λ b q is.
          let k = desk_at all_desks b q is in
          let stay = others_stay all_desks c.requires.apart i was before old new (bad.only.others t) b k.0.manifest (manifest_at all_desks b k.0 k.1) in
          subst (λ (z : Listed). AreFronts z new (dones b)) k.2
          (elim (cases_lt b i) [
            | inl low ↦ fronts_stay old new k.0.manifest (dones b) (stay (omega (arith, low))) (whole_fronts old k.0.manifest (dones b) _ (inv.whole t dones all b k.0 low k.1))
            | inr high ↦ elim (cases_eq b i) [
              | inl same ↦
                  let there : was ≡ k.0 = same_Some was k.0 (sym before ∙ subst (λ (z : ℕ). slice_get all_desks z ≡ Some k.0) same k.1) in
                  subst (λ (z : BridgeOutputs). AreFronts z.manifest new (dones b)) there (subst (λ (z : ℕ). AreFronts was.manifest new (dones z)) (sym same) (bad.cut t (dones i) (inv.noted dones all i was (omega arith) before)))
              | inr ne ↦ fronts_stay old new k.0.manifest (dones b) (stay ne) (now_fronts old k.0 (dones b) ((inv.noted dones all b k.0 (omega (arith, high)) k.1).texts t))
            ]
          ]);
    })

pub returns-in_err-finish-clause-faults : goal.returns-in_err-finish-clause-faults
returns-in_err-finish-clause-faults g c =
    let e = err_from_is_err_and c.from_residual.result c.from_residual.ensures.1 in
    rw (e.1, e.2) (writes_from _ _ _ _ c.loop-bridge.invariant.counted c.in_err-finish.ensures.faults)
