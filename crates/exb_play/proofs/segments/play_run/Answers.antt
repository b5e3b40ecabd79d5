use Rattle.std.proofs.Common.{◌≡◌, inl, inr, subst, sym, ◌∙◌, ℕ, true}
use Rattle.exb_shelf.specs.Files.{Files}
use Rattle.exb_outputs.specs.WrittenTexts.{HasTexts, first_text, pieces_of}
use Rattle.std.proofs.lemmas.Result.{err_from_is_err_and}
use Rattle.exb_play.specs.PartialOutputs.{AreCutSoFar}
use Rattle.exb_play.proofs.PartialOutputs.{made-so-far}
use Rattle.exb_outputs.proofs.ShelfEffects.{writing-port}
use Rattle.exb_inputs.specs.Inputs.{is_named}
use Rattle.exb_inputs.specs.ShelfEffects.{ReadsCapture}
use Rattle.exb_shelf.proofs.IdLemmas.{opens_then, opens_weaker}
use Rattle.exb_outputs.specs.KindTexts.{AreCutEagerly}
use Rattle.exb_play.specs.BridgeRuns.{mode_of}
use Rattle.exb_outputs.proofs.InputsApart.{can-read-on, input-stays}
use Rattle.exb_outputs.proofs.TextPrefixes.{made_eagerly}
use Rattle.exb_outputs.proofs.CreationOrder.{makes_as, makes_then_read}
use Rattle.exb_inputs.proofs.ShelfEffects.{counts_from}
use Rattle.exb_play.proofs.segments.play_run.Goals as goal

pub play_into-requires-clause-captures : goal.play_into-requires-clause-captures
play_into-requires-clause-captures g c =
    let S = g.S.Shelf in
    can-read-on S.tells c.args.manifest.now c.args.names.now (S.file c.args.shelf.now) (S.file c.create_all.new.shelf) c.args.checked.now c.create_all.ensures.only.others c.requires.captures

pub play_into-requires-clause-run : goal.play_into-requires-clause-run
play_into-requires-clause-run g c =
    let S = g.S.Shelf in
    let s = c.args.script.now in
    record {
      setup_is = c.requires.run.setup_is;
      given = c.requires.run.given;
      is = λ t. c.requires.run.is t ∙ sym (input-stays s.setup.now s.commands.now c.args.manifest.now c.args.names.now (S.file c.args.shelf.now) (S.file c.create_all.new.shelf) c.args.checked.now S.tells (c.create_all.ensures.only.others t) c.requires.captures);
    }

pub play_into-requires-clause-texts : goal.play_into-requires-clause-texts
play_into-requires-clause-texts g c = λ t.
    let S = g.S.Shelf in
    subst (λ (f : Files). HasTexts c.args.manifest.now (pieces_of c.in_ok-outputs.outputs) f (S.file c.create_all.new.shelf) first_text) (sym (c.requires.before t)) (c.in_ok-outputs.ensures.texts t)

pub returns-in_err-outputs-clause-fronts : goal.returns-in_err-outputs-clause-fronts
returns-in_err-outputs-clause-fronts g c tells eager =
    subst (λ (f : Files). AreCutEagerly g.R.OfRun.run.input c.args.manifest.now f (g.S.Shelf.file c.create_all.new.shelf)) (sym (c.requires.before tells))
    (made_eagerly _ c.args.manifest.now _ _ (c.in_err-outputs.ensures.cut tells))

pub returns-in_err-outputs-clause-so_far : goal.returns-in_err-outputs-clause-so_far
returns-in_err-outputs-clause-so_far g c tells =
    subst (λ (f : Files). AreCutSoFar (mode_of c.args.schedule) g.R.OfRun.run.input c.args.manifest.now f (g.S.Shelf.file c.create_all.new.shelf)) (sym (c.requires.before tells))
    (made-so-far (mode_of c.args.schedule) _ c.args.manifest.now _ _ (c.in_err-outputs.ensures.cut tells))

pub returns-clause-only : goal.returns-clause-only
returns-clause-only g c =
    let made = c.create_all.ensures.only in
    record {
      others = λ t m away. c.play_into.ensures.others t m away ∙ made.others t m away;
      opened = opens_then _ _ _ _ (opens_weaker _ _ _ _ (λ i writes. inr writes) made.opened) (opens_weaker _ _ _ _ (λ i reads. inl reads) c.play_into.ensures.opens);
    }

pub returns-clause-made : goal.returns-clause-made
returns-clause-made g c = makes_then_read (ReadsCapture c.args.names.now) c.args.manifest.now _ c.play_into.result _ _ _ (λ i r. r.reads.reads) c.in_ok-outputs.ensures.made c.play_into.ensures.opens

pub returns-in_err-outputs-clause-made : goal.returns-in_err-outputs-clause-made
returns-in_err-outputs-clause-made g c =
    let e = err_from_is_err_and c.from_residual.result c.from_residual.ensures.1 in
    rw (e.1, e.2) (makes_as c.args.manifest.now c.in_err-outputs.field-0.0 _ _ c.in_err-outputs.ensures.made)

pub returns-in_err-outputs-clause-only : goal.returns-in_err-outputs-clause-only
returns-in_err-outputs-clause-only g c =
    let made = c.create_all.ensures.only in
    record { others = made.others; opened = opens_weaker _ _ _ _ (λ i writes. inr writes) made.opened }

pub returns-clause-faults : goal.returns-clause-faults
returns-clause-faults g c = counts_from c.play_into.result _ _ _ c.in_ok-outputs.ensures.faults.once c.play_into.ensures.faults

pub returns-in_err-outputs-clause-port : goal.returns-in_err-outputs-clause-port
returns-in_err-outputs-clause-port g c =
    let e = err_from_is_err_and c.from_residual.result c.from_residual.ensures.1 in
    rw (e.1, e.2) (writing-port (λ (q : ℕ). is_named c.args.names.now q ≡ true) c.in_err-outputs.field-0.0 c.in_err-outputs.ensures.causes)
