use Rattle.std.proofs.Common.{rules, ◌≡◌, ℕ, suc, ◌+◌, List, [], ◌++◌, ◌∷◌, length, refl, ap, sym, subst, ◌∙◌, arith}
use Rattle.std.proofs.lemmas.List.{length-map}
use Rattle.std.proofs.lemmas.Result.{err_from_is_err_and}
use Rattle.exb_model.specs.Setup.{IsValid}
use Rattle.exb_net.proofs.ListPlaces.{of_all}
use Rattle.exb_net_file.specs.declared.net_parts.BridgeInputs.{BridgeInputs}
use Rattle.exb_net_file.specs.declared.members.NetMember.{NetMember}
use Rattle.exb_net_file.specs.SetupParts.{rest_of}
use Rattle.exb_outputs.specs.CreationOrder.{MadeInOrder}
use Rattle.exb_outputs.specs.Manifests.{Listed}
use Rattle.exb_outputs.specs.ShelfEffects.{OnlyMakes}
use Rattle.exb_outputs.specs.WrittenTexts.{AreCut}
use Rattle.exb_net.specs.declared.bridge_outputs.BridgeOutputs.{BridgeOutputs}
use Rattle.exb_net.proofs.FileCreation.{SetUpTo, all_net, all_set, cut_before, made_all, makes_some, next_here, only_all, opened_more, set_next, set_none}
use Rattle.exb_net.proofs.preparation.set_desks.Goals as goal

pub loop-bridge-init : goal.loop-bridge-init
loop-bridge-init g c =
    let S = g.S.Shelf in
    record {
      set = λ ms ws taken read.
          subst (λ (ds : List BridgeOutputs). SetUpTo c.args.counters ms S.tells 0 (S.file c.args.shelf.now) (S.file c.args.shelf.now) (S.ids c.args.shelf.now) (S.ids c.args.shelf.now) ds) (sym c.new-desks.ensures.items)
          (set_none c.bridges_write_apart.ensures c.args.counters ms read.names read.apart S.tells (S.file c.args.shelf.now) (S.ids c.args.shelf.now));
      faults = search rules;
      counted = refl;
    }

pub set_desk-requires : goal.set_desk-requires
set_desk-requires g c =
    let t = c.requires.read in
    let i = c.loop-bridge.bridge in
    let k = next_here c.args.counters t.0 t.1.0 c.args.parts.now t.1.1.0 c.as_slice-setups.result.now c.as_slice-rests.result.now c.as_slice-setups.ensures c.as_slice-rests.ensures i (omega arith) c.index-setups-bridge.result c.index-rests-bridge.result
    c.as_str-name.result.now c.index-setups-bridge.is c.index-rests-bridge.is c.as_str-name.ensures in
    record { valid = subst IsValid (sym k.setup) (of_all (λ (m : NetMember). IsValid m.topology.setup) t.0 i k.member t.1.1.1.valid k.here) }

pub loop-bridge-preserved : goal.loop-bridge-preserved
loop-bridge-preserved g c =
    let S = g.S.Shelf in
    let inv = c.loop-bridge.invariant in
    let i = c.loop-bridge.bridge in
    let made = c.in_ok-set_desk.ensures in
    let old = S.file c.args.shelf.now in
    let now = S.file c.loop-bridge.shelf in
    let new = S.file c.set_desk.new.shelf in
    let given = S.ids c.args.shelf.now in
    let ids = S.ids c.loop-bridge.shelf in
    let ids2 = S.ids c.set_desk.new.shelf in
    let d = made.set in
    record {
      set = λ ms ws taken read.
          let k = next_here c.args.counters ms ws c.args.parts.now taken c.as_slice-setups.result.now c.as_slice-rests.result.now c.as_slice-setups.ensures c.as_slice-rests.ensures i (omega arith) c.index-setups-bridge.result c.index-rests-bridge.result
          c.as_str-name.result.now c.index-setups-bridge.is c.index-rests-bridge.is c.as_str-name.ensures in
          let only = subst (λ (p : Listed). OnlyMakes S.tells p now new ids ids2) k.manifest made.only in
          let next : SetUpTo c.args.counters ms S.tells (suc i) old new given ids2 (c.loop-bridge.desks.items ++ d.0 ∷ []) =
          set_next c.bridges_write_apart.ensures c.args.counters ms read.names read.apart S.tells i old now new given ids ids2 c.loop-bridge.desks.items k.member k.here (inv.set ms ws taken read) only d.0 (d.2 ∙ k.manifest) d.3
          (made_all _ _ tt ids ids2 k.manifest made.made) in
          subst (λ (n : ℕ). SetUpTo c.args.counters ms S.tells n old new given ids2 c.set_desk.new.desks.items) (plus i) (subst (λ (ds : List BridgeOutputs). SetUpTo c.args.counters ms S.tells (suc i) old new given ids2 ds) (sym d.1) next);
      faults = search (arith, made.faults.none_fell, inv.faults);
      counted = made.faults.once ∙ inv.counted;
    }
  where
    plus : (n : ℕ) → suc n ≡ n + 1
    plus n = omega arith

pub returns-clause-set : goal.returns-clause-set
returns-clause-set g c = λ ms ws taken read.
    let long = ap (λ (xs : List BridgeInputs). length xs) (c.as_slice-rests.ensures ∙ taken.rests) ∙ length-map ms rest_of in
    all_set c.args.counters ms _ c.loop-bridge.bridge _ _ _ _ _ (c.loop-bridge.invariant.set ms ws taken read) (omega (arith, long))

pub returns-clause-only : goal.returns-clause-only
returns-clause-only g c = λ t ms ws taken read.
    let long = ap (λ (xs : List BridgeInputs). length xs) (c.as_slice-rests.ensures ∙ taken.rests) ∙ length-map ms rest_of in
    (all_set c.args.counters ms _ c.loop-bridge.bridge _ _ _ _ _ (c.loop-bridge.invariant.set ms ws taken read) (omega (arith, long))).others t

pub returns-clause-opened : goal.returns-clause-opened
returns-clause-opened g c = λ ms ws taken read. (c.loop-bridge.invariant.set ms ws taken read).opened

pub returns-clause-made : goal.returns-clause-made
returns-clause-made g c = λ ms ws taken read.
    let long = ap (λ (xs : List BridgeInputs). length xs) (c.as_slice-rests.ensures ∙ taken.rests) ∙ length-map ms rest_of in
    all_net c.args.counters ms _ c.loop-bridge.bridge _ _ _ _ _ (c.loop-bridge.invariant.set ms ws taken read) (omega (arith, long)) _

pub returns-in_err-set_desk-clause-cut : goal.returns-in_err-set_desk-clause-cut
returns-in_err-set_desk-clause-cut g c = λ t.
    let e = err_from_is_err_and c.from_residual.result c.from_residual.ensures.1 in
    rw e.1
    (λ ms ws taken read text goes.
    let S = g.S.Shelf in
    let i = c.loop-bridge.bridge in
    let bad = c.in_err-set_desk.ensures in
    let now = S.file c.loop-bridge.shelf in
    let new = S.file c.set_desk.new.shelf in
    let k = next_here c.args.counters ms ws c.args.parts.now taken c.as_slice-setups.result.now c.as_slice-rests.result.now c.as_slice-setups.ensures c.as_slice-rests.ensures i (omega arith) c.index-setups-bridge.result c.index-rests-bridge.result
    c.as_str-name.result.now c.index-setups-bridge.is c.index-rests-bridge.is c.as_str-name.ensures in
    cut_before c.bridges_write_apart.ensures c.args.counters ms read.names read.apart S.tells i (S.file c.args.shelf.now) now new (S.ids c.args.shelf.now) (S.ids c.loop-bridge.shelf) (S.ids c.set_desk.new.shelf) c.loop-bridge.desks.items k.member k.here
    (c.loop-bridge.invariant.set ms ws taken read) (subst (λ (p : Listed). OnlyMakes S.tells p now new (S.ids c.loop-bridge.shelf) (S.ids c.set_desk.new.shelf)) k.manifest bad.only) t text goes
    (subst (λ (p : Listed). AreCut p now new (text i)) k.manifest (bad.cut t (text i) (goes i))))

pub returns-in_err-set_desk-clause-only : goal.returns-in_err-set_desk-clause-only
returns-in_err-set_desk-clause-only g c = λ t ms ws taken read.
    let S = g.S.Shelf in
    let i = c.loop-bridge.bridge in
    let now = S.file c.loop-bridge.shelf in
    let new = S.file c.set_desk.new.shelf in
    let k = next_here c.args.counters ms ws c.args.parts.now taken c.as_slice-setups.result.now c.as_slice-rests.result.now c.as_slice-setups.ensures c.as_slice-rests.ensures i (omega arith) c.index-setups-bridge.result c.index-rests-bridge.result
    c.as_str-name.result.now c.index-setups-bridge.is c.index-rests-bridge.is c.as_str-name.ensures in
    only_all c.bridges_write_apart.ensures c.args.counters ms read.names read.apart S.tells i (S.file c.args.shelf.now) now new (S.ids c.args.shelf.now) (S.ids c.loop-bridge.shelf) (S.ids c.set_desk.new.shelf) c.loop-bridge.desks.items k.member k.here
    (c.loop-bridge.invariant.set ms ws taken read) (subst (λ (p : Listed). OnlyMakes S.tells p now new (S.ids c.loop-bridge.shelf) (S.ids c.set_desk.new.shelf)) k.manifest c.in_err-set_desk.ensures.only) t

pub returns-in_err-set_desk-clause-opened : goal.returns-in_err-set_desk-clause-opened
returns-in_err-set_desk-clause-opened g c = λ ms ws taken read.
    let S = g.S.Shelf in
    let i = c.loop-bridge.bridge in
    let now = S.file c.loop-bridge.shelf in
    let new = S.file c.set_desk.new.shelf in
    let k = next_here c.args.counters ms ws c.args.parts.now taken c.as_slice-setups.result.now c.as_slice-rests.result.now c.as_slice-setups.ensures c.as_slice-rests.ensures i (omega arith) c.index-setups-bridge.result c.index-rests-bridge.result
    c.as_str-name.result.now c.index-setups-bridge.is c.index-rests-bridge.is c.as_str-name.ensures in
    opened_more c.bridges_write_apart.ensures c.args.counters ms read.names read.apart S.tells i (S.file c.args.shelf.now) now new (S.ids c.args.shelf.now) (S.ids c.loop-bridge.shelf) (S.ids c.set_desk.new.shelf) c.loop-bridge.desks.items k.member k.here
    (c.loop-bridge.invariant.set ms ws taken read) (subst (λ (p : Listed). OnlyMakes S.tells p now new (S.ids c.loop-bridge.shelf) (S.ids c.set_desk.new.shelf)) k.manifest c.in_err-set_desk.ensures.only)

pub returns-in_err-set_desk-clause-made : goal.returns-in_err-set_desk-clause-made
returns-in_err-set_desk-clause-made g c =
    let e = err_from_is_err_and c.from_residual.result c.from_residual.ensures.1 in
    rw (e.1, e.2)
    (λ ms ws taken read.
    let S = g.S.Shelf in
    let i = c.loop-bridge.bridge in
    let bad = c.in_err-set_desk.ensures in
    let x = c.in_err-set_desk.field-0.0 in
    let now = S.file c.loop-bridge.shelf in
    let new = S.file c.set_desk.new.shelf in
    let ids = S.ids c.loop-bridge.shelf in
    let ids2 = S.ids c.set_desk.new.shelf in
    let k = next_here c.args.counters ms ws c.args.parts.now taken c.as_slice-setups.result.now c.as_slice-rests.result.now c.as_slice-setups.ensures c.as_slice-rests.ensures i (omega arith) c.index-setups-bridge.result c.index-rests-bridge.result
    c.as_str-name.result.now c.index-setups-bridge.is c.index-rests-bridge.is c.as_str-name.ensures in
    makes_some c.bridges_write_apart.ensures c.args.counters ms read.names read.apart S.tells i (S.file c.args.shelf.now) now new (S.ids c.args.shelf.now) ids ids2 c.loop-bridge.desks.items k.member k.here
    (c.loop-bridge.invariant.set ms ws taken read) (subst (λ (p : Listed). OnlyMakes S.tells p now new ids ids2) k.manifest bad.only) x bad.made.count bad.causes
    (subst (λ (p : Listed). MadeInOrder p bad.made.count ids ids2) k.manifest bad.made.made))
