use Rattle.std.proofs.Common.{◌≡◌, ◌∙◌, List, [], ap, refl, sym, subst}
use Rattle.std.specs.Prelude.{⊤}
use Rattle.std.proofs.lemmas.Result.{err_from_is_err_and}
use Rattle.exb_make.specs.GeneratedInputs.{made}
use Rattle.exb_model.specs.declared.setup.Timed.{Timed}
use Rattle.exb_model.specs.Setup.{shape_of}
use Rattle.exb_shelf.specs.Files.{Files}
use Rattle.exb_shelf.specs.ScratchFiles.{scratch_files}
use Rattle.exb_inputs.specs.declared.captures.CheckedCapture.{CheckedCapture}
use Rattle.exb_outputs.specs.InputsApart.{CanBeRead}
use Rattle.exb_inputs.specs.Inputs.{input_from}
use Rattle.exb_play.specs.BridgeRuns.{IsScript}
use Rattle.exb_run.proofs.RunInputs.{made_script}
use Rattle.exb_inputs.proofs.Outcomes.{files_same}
use Rattle.exb_run.proofs.GeneratedCaptures.{all_good, checked_alone, eager_says, input_same, made_captures, memory_alone}
use Rattle.exb_run.proofs.generated_run.play_kept.Goals as goal

-- captures that were made have no fault
pub returns-in_err-checked : goal.returns-in_err-checked
returns-in_err-checked g c =
    let i = c.requires.made in
    let input = c.args.input.now in
    let names = c.args.names.now in
    let file : Files = scratch_files c.args.shelf.now in
    let e = err_from_is_err_and c.from_residual.result c.from_residual.ensures.1 in
    rw (e.1, e.2) (record {
      line = tt;
      memory =
          checked_alone c.in_err-checked.field-0.0 _ _ names file (all_good c.args.number input.setup input.captures.items names file i.setup i.captures i.small c.requires.kept)
          (c.in_err-checked.ensures.flaw tt) c.in_err-checked.ensures.faults;
    })

pub returns-in_err-manifest : goal.returns-in_err-manifest
returns-in_err-manifest g c =
    let e = err_from_is_err_and c.from_residual-in_err-manifest.result c.from_residual-in_err-manifest.ensures.1 in
    rw (e.1, e.2) (record { line = tt; memory = refl })

pub play-played-requires : goal.play-played-requires
play-played-requires g c =
    let i = c.requires.made in
    let input = c.args.input.now in
    let names = c.args.names.now in
    let manifest = c.in_ok-manifest.manifest in
    let checked = c.in_ok-checked.checked.items in
    let file : Files = scratch_files c.args.shelf.now in
    let after : Files = scratch_files c.check_captures.new.shelf in
    record {
      valid = i.valid;
      tree = c.in_ok-manifest.ensures.tree;
      script =
          subst (λ (xs : List Timed). IsScript (shape_of input.setup) xs []) (sym c.as_slice.ensures)
          (made_script c.args.number input.setup input.commands i.setup i.no_fate i.named i.few i.rising);
      captures =
          subst (λ (cs : List CheckedCapture). CanBeRead ⊤ manifest names after cs) (sym c.as_slice-2.ensures.value)
          (subst (λ (f : Files). CanBeRead ⊤ manifest names f checked) (sym (files_same file after c.in_ok-checked.ensures.files))
          (made_captures c.args.number input.setup input.captures.items names file i.setup i.captures i.small c.requires.kept manifest checked c.in_ok-manifest.ensures.tree c.in_ok-manifest.ensures.prefix
          c.in_ok-checked.ensures.checked));
      fate = c.requires.fate;
    }

pub returns : goal.returns
returns g c =
    let i = c.requires.made in
    let input = c.args.input.now in
    let names = c.args.names.now in
    let file : Files = scratch_files c.args.shelf.now in
    let after : Files = scratch_files c.check_captures.new.shelf in
    let same : input_from input.setup c.as_slice.result.now names after ≡ made c.args.number =
    ap (λ (xs : List Timed). input_from input.setup xs names after) c.as_slice.ensures
    ∙ ap (input_from input.setup input.commands names) (files_same file after c.in_ok-checked.ensures.files)
    ∙ input_same c.args.number input.setup input.captures.items names file i.setup i.captures i.small c.requires.kept i.valid c.arrives_at_externals.ensures input.commands i.commands in
    record {
      line = eager_says c.play-played.result _ _ _ _ _ same (c.play-played.ensures.done tt);
      memory = memory_alone c.play-played.result _ _ c.play-played.ensures.causes (c.play-played.ensures.never tt) c.play-played.ensures.faults;
    }
