use Rattle.std.proofs.Common.{◌≡◌, ◌++◌, ◌∷◌, [], true, List, Ok, Err, ap, refl, subst, ◌∙◌, inr}
use Rattle.std.proofs.lemmas.Result.{err_from_is_err_and}
use Rattle.exb_inputs.specs.declared.fault.Fault.TheVariants.{Memory}
use Rattle.exb_inputs.proofs.ShelfEffects.{counts_as, counts_memory, counts_ok}
use Rattle.exb_outputs.specs.Manifests.{Listed}
use Rattle.exb_outputs.specs.CreationOrder.{MakesInOrder}
use Rattle.exb_outputs.specs.ShelfEffects.{OnlyMakes}
use Rattle.exb_outputs.specs.WrittenTexts.{AreCut}
use Rattle.exb_outputs.proofs.CreationOrder.{makes_as, makes_none}
use Rattle.exb_outputs.proofs.ShelfEffects.{makes_none as only_none}
use Rattle.exb_shelf.specs.Shelf.{Id}
use Rattle.exb_shelf.proofs.IdLemmas.{opens_none}
use Rattle.exb_net.specs.declared.bridge_outputs.BridgeOutputs.{BridgeOutputs}
use Rattle.exb_net.specs.Preparation.{manifest_under}
use Rattle.exb_net.proofs.FileCreation.{cut_none}
use Rattle.exb_net.proofs.preparation.set_desk.Goals as goal

-- ---- memory ran out before a file was made
pub returns-then-is_err : goal.returns-then-is_err
returns-then-is_err g c =
    let S = g.S.Shelf in
    let p = manifest_under c.args.setup.now c.args.name.now c.args.counters in
    record {
      set = tt;
      cut = λ tells text goes. cut_none p (S.file c.args.shelf.now) text;
      only = only_none S.tells p (S.file c.args.shelf.now) (S.ids c.args.shelf.now);
      made = makes_none (λ (i : Id). i.reads ≡ true) p Memory _ _ (λ i r. r) (opens_none _ _) tt;
      causes = inr refl;
      faults = counts_memory _ _ refl;
    }

pub returns-in_err-manifest : goal.returns-in_err-manifest
returns-in_err-manifest g c =
    let S = g.S.Shelf in
    let p = manifest_under c.args.setup.now c.args.name.now c.args.counters in
    let e = err_from_is_err_and c.from_residual.result c.from_residual.ensures.1 in
    rw (e.1, e.2)
    (record {
      set = tt;
      cut = λ tells text goes. cut_none p (S.file c.args.shelf.now) text;
      only = only_none S.tells p (S.file c.args.shelf.now) (S.ids c.args.shelf.now);
      made = makes_none (λ (i : Id). i.reads ≡ true) p Memory _ _ (λ i r. r) (opens_none _ _) tt;
      causes = inr refl;
      faults = counts_memory _ _ refl;
    })

pub returns-in_err-counted : goal.returns-in_err-counted
returns-in_err-counted g c =
    let S = g.S.Shelf in
    let p = manifest_under c.args.setup.now c.args.name.now c.args.counters in
    let e = err_from_is_err_and c.from_residual-in_err-counted.result c.from_residual-in_err-counted.ensures.1 in
    rw (e.1, e.2)
    (record {
      set = tt;
      cut = λ tells text goes. cut_none p (S.file c.args.shelf.now) text;
      only = only_none S.tells p (S.file c.args.shelf.now) (S.ids c.args.shelf.now);
      made = makes_none (λ (i : Id). i.reads ≡ true) p Memory _ _ (λ i r. r) (opens_none _ _) tt;
      causes = inr refl;
      faults = counts_memory _ _ refl;
    })

-- ---- some files were made, or all
pub returns-in_err-outputs : goal.returns-in_err-outputs
returns-in_err-outputs g c =
    let S = g.S.Shelf in
    let old = S.file c.args.shelf.now in
    let new = S.file c.create_all.new.shelf in
    let given = S.ids c.args.shelf.now in
    let ids = S.ids c.create_all.new.shelf in
    let under = c.in_ok-manifest.ensures in
    let bad = c.in_err-outputs.ensures in
    let x = c.in_err-outputs.field-0.0 in
    let e = err_from_is_err_and c.from_residual-in_err-outputs.result c.from_residual-in_err-outputs.ensures.1 in
    rw (e.1, e.2)
    (record {
      set = tt;
      cut = λ tells text goes. subst (λ (p : Listed). AreCut p old new text) under (bad.cut tells text);
      only = subst (λ (p : Listed). OnlyMakes S.tells p old new given ids) under bad.only;
      made = subst (λ (p : Listed). MakesInOrder {X = Unit {0}} p (Err x) given ids) under (makes_as c.in_ok-manifest.manifest x _ _ bad.made);
      causes = bad.causes;
      faults = counts_as x _ _ bad.faults;
    })

pub returns : goal.returns
returns g c =
    let S = g.S.Shelf in
    let old = S.file c.args.shelf.now in
    let new = S.file c.create_all.new.shelf in
    let given = S.ids c.args.shelf.now in
    let ids = S.ids c.create_all.new.shelf in
    let under = c.in_ok-manifest.ensures in
    let outputs = c.in_ok-outputs.ensures in
    let made = outputs.made in
    let desk : BridgeOutputs = record { manifest = c.in_ok-manifest.manifest; outputs = c.in_ok-outputs.outputs; counted = c.in_ok-counted.counted } in
    record {
      set = (
        desk,
        c.push_reserved.ensures.items ∙ ap (λ (ds : List BridgeOutputs). ds ++ desk ∷ []) c.reserve.ensures.items,
        under,
        record {
          ready = outputs.ready;
          counted = c.in_ok-counted.ensures;
          texts = λ t. (let held = outputs.texts t in record { each = held.each; others = λ m away. refl });
          sent = outputs.sent;
        },
      );
      cut = λ tells. tt;
      only = subst (λ (p : Listed). OnlyMakes S.tells p old new given ids) under outputs.only;
      made = subst (λ (p : Listed). MakesInOrder p (Ok tt) given ids) under (record { count = made.count; made = made.made; all = λ late. made.all tt; unread = λ failed. inr (made.all tt) });
      causes = tt;
      faults = counts_ok _ _ _ outputs.faults.once;
    }
