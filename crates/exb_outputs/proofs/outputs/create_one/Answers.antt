use Rattle.std.proofs.Common.{arith, ◌≡◌, ◌∙◌, ℕ, List, [], ap, inl, inr, refl, subst}
use Rattle.std.proofs.lemmas.Grind.{common_steps}
use Rattle.std.proofs.lemmas.Result.{err_from_is_err_and}
use Rattle.exb_inputs.proofs.ShelfEffects.{counts_memory, counts_ok}
use Rattle.exb_shelf.specs.Files.{Puts}
use Rattle.exb_shelf.specs.Shelf.{writing}
use Rattle.exb_shelf.proofs.IdLemmas.{opens_none, opens_one, opens_same}
use Rattle.exb_outputs.specs.Manifests.{output_name}
use Rattle.exb_outputs.proofs.ShelfEffects.{fault_counts, is_writing}
use Rattle.exb_outputs.proofs.outputs.create_one.Goals as goal

-- memory ran out before anything was made
pub returns-in_err-name : goal.returns-in_err-name
returns-in_err-name g c =
    let e = err_from_is_err_and c.from_residual.result c.from_residual.ensures.1 in
    rw (e.1, e.2) (record {
      ids = tt;
      pieces = tt;
      records = tt;
      sizes = tt;
      count = tt;
      opened = opens_none _ _;
      makes = tt;
      may_make = inl (λ j. refl);
      empty = λ t. tt;
      others = λ t m away. refl;
      stays = λ t. inl (λ m. refl);
      causes = inr refl;
      faults = counts_memory _ _ refl;
    })

pub returns-in_err-piece : goal.returns-in_err-piece
returns-in_err-piece g c =
    let e = err_from_is_err_and c.from_residual-in_err-piece.result c.from_residual-in_err-piece.ensures.1 in
    rw (e.1, e.2) (record {
      ids = tt;
      pieces = tt;
      records = tt;
      sizes = tt;
      count = tt;
      opened = opens_none _ _;
      makes = tt;
      may_make = inl (λ j. refl);
      empty = λ t. tt;
      others = λ t m away. refl;
      stays = λ t. inl (λ m. refl);
      causes = inr refl;
      faults = counts_memory _ _ refl;
    })

-- the file could not be made
pub returns-in_err-id : goal.returns-in_err-id
returns-in_err-id g c =
    let e = err_from_is_err_and c.from_residual-in_err-id.result c.from_residual-in_err-id.ensures.1 in
    let made = c.in_err-id.ensures in
    rw (e.1, e.2) (record {
      ids = tt;
      pieces = tt;
      records = tt;
      sizes = tt;
      count = tt;
      opened = opens_same _ _ _ made.none_given;
      makes = tt;
      may_make = inl made.none_given;
      empty = λ t. tt;
      others = λ t m away. made.err t m;
      stays = λ t. inl (made.err t);
      causes = is_writing _;
      faults = fault_counts _ _ _ (record { none_fell = made.faults; write = made.failed; once = made.counts });
    })

-- the file was made, and memory ran out for its place among the others
pub returns-then-is_err : goal.returns-then-is_err
returns-then-is_err g c =
    let S = g.S.Shelf in
    let made = c.in_ok-id.ensures in
    let same : c.as_str.result.now ≡ output_name c.args.manifest.now c.args.at = c.as_str.ensures.value ∙ c.in_ok-name.ensures in
    let named : S.ids c.create.new.self c.in_ok-id.id ≡ writing (output_name c.args.manifest.now c.args.at) = made.id ∙ ap writing same in
    record {
      ids = tt;
      pieces = tt;
      records = tt;
      sizes = tt;
      count = tt;
      opened = opens_one _ _ _ c.in_ok-id.id made.others made.kept made.rises (record { at = c.args.at; within = c.requires.within; writes = named });
      makes = tt;
      may_make = inr (c.in_ok-id.id, record { fresh = made.fresh; above = made.rises; named = named; others = made.others });
      empty = λ t. tt;
      others = λ t m away. (made.empty t).others m (λ e. away (e ∙ same));
      stays = λ t. inr (subst (λ (name : List ℕ). Puts (S.file c.args.shelf.now) (S.file c.create.new.self) name []) same (made.empty t));
      causes = inr refl;
      faults = counts_memory (S.faults c.args.shelf.now) (S.faults c.create.new.self) made.counts;
    }

pub returns : goal.returns
returns g c =
    let S = g.S.Shelf in
    let made = c.in_ok-id.ensures in
    let same : c.as_str.result.now ≡ output_name c.args.manifest.now c.args.at = c.as_str.ensures.value ∙ c.in_ok-name.ensures in
    let named : S.ids c.create.new.self c.in_ok-id.id ≡ writing (output_name c.args.manifest.now c.args.at) = made.id ∙ ap writing same in
    record {
      ids = (c.in_ok-id.id, grind (arith, common_steps), named);
      pieces = grind (arith, common_steps);
      records = grind (arith, common_steps);
      sizes = grind (arith, common_steps);
      count = grind (arith, common_steps);
      opened = opens_one _ _ _ c.in_ok-id.id made.others made.kept made.rises (record { at = c.args.at; within = c.requires.within; writes = named });
      makes = (c.in_ok-id.id, record { fresh = made.fresh; above = made.rises; named = named; others = made.others });
      may_make = tt;
      empty = λ t. subst (λ (name : List ℕ). Puts (S.file c.args.shelf.now) (S.file c.create.new.self) name []) same (made.empty t);
      others = λ t. tt;
      stays = λ t. tt;
      causes = tt;
      faults = counts_ok _ (S.faults c.args.shelf.now) (S.faults c.create.new.self) made.counts;
    }
