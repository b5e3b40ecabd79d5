use Rattle.std.proofs.Common.{◌≡◌, ◌<◌, ◌∙◌, ℕ, List, length, take, ap, arith, refl, subst, sym}
use Rattle.std.proofs.Math.Seq.{take-append_seam, take-length}
use Rattle.std.proofs.lemmas.Grind.{common_steps}
use Rattle.std.proofs.lemmas.Result.{err_from_is_err_and}
use Rattle.exb_shelf.specs.OpenFiles.{id_at}
use Rattle.exb_shelf.specs.Shelf.{Id}
use Rattle.exb_shelf.specs.declared.open_files.OpenFile.{OpenFile}
use Rattle.exb_shelf.proofs.OpenFileLemmas.{entries, id_at-free, id_at-kept, id_at-others, id_at-within}
use Rattle.exb_shelf.proofs.open_files.give.Goals as goal

-- no number is left for the id
pub returns-in_default : goal.returns-in_default
returns-in_default c = record {
  id = tt;
  fresh = tt;
  rises = tt;
  others = tt;
  kept = λ j given. refl;
  front = take-length _;
  err = refl;
}

-- memory ran out for the name
pub returns-in_err-name : goal.returns-in_err-name
returns-in_err-name c =
    let e = err_from_is_err_and c.from_residual.result c.from_residual.ensures.1 in
    rw e.1 (record {
      id = tt;
      fresh = tt;
      rises = tt;
      others = tt;
      kept = λ j given. refl;
      front = take-length _;
      err = refl;
    })

-- memory ran out for the entry
pub returns-in_err-push : goal.returns-in_err-push
returns-in_err-push c =
    let e = err_from_is_err_and c.from_residual-in_err-push.result c.from_residual-in_err-push.ensures.1 in
    let same = c.in_err-push.ensures.items in
    rw e.1 (record {
      id = tt;
      fresh = tt;
      rises = tt;
      others = tt;
      kept = λ j given. ap (λ (es : List OpenFile). id_at es j) same;
      front = ap (take (length c.args.entries.now.items)) same ∙ take-length _;
      err = same;
    })

pub returns : goal.returns
returns c =
    let had = c.args.entries.now.items in
    let more = c.in_ok-push.ensures.items in
    let last : c.in-Ok.id ≡ length had = grind (arith, common_steps) in
    record {
      id = grind (arith, entries);
      fresh = ap (λ (k : ℕ). (id_at had k).given) last ∙ ap (λ (i : Id). i.given) (id_at-free had);
      rises = λ j given. subst (λ (k : ℕ). j < k) (sym last) (id_at-within had j given);
      others = λ j away. ap (λ (es : List OpenFile). id_at es j) more ∙ id_at-others had _ j (λ q. away (q ∙ sym last));
      kept = λ j given. ap (λ (es : List OpenFile). id_at es j) more ∙ id_at-kept had _ j given;
      front = ap (take (length had)) more ∙ take-append_seam had _;
      err = tt;
    }
