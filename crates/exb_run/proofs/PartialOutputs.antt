-- However a run ended, what it leaves are fronts of the texts of what it told so far.
use Rattle.std.proofs.Common.{◌≡◌, ◌⊎◌, inl, inr, ℕ, List, ap, sym, subst, ◌∙◌}
use Rattle.exb_model.specs.Input.{Input, Mode, tree_of}
use Rattle.exb_model.specs.Setup.{shape_of}
use Rattle.exb_model.specs.Tree.{Shape, IsTree}
use Rattle.exb_trace_laws.specs.TracePrefixes.{IsHistorySoFar}
use Rattle.exb_shelf.specs.Files.{Files}
use Rattle.exb_journal.specs.declared.file_names.OutputKind.{OutputKind}
use Rattle.exb_journal.specs.FileNames.{file_name}
use Rattle.exb_outputs.specs.Manifests.{IsMade, Listed, place_of}
use Rattle.exb_outputs.specs.WrittenTexts.{first_text}
use Rattle.exb_outputs.proofs.KindPlaces.{made_of_port, placed}
use Rattle.exb_inputs.specs.Inputs.{input_of}
use Rattle.exb_topology.specs.declared.topology.Topology.{Topology}
use Rattle.exb_cli.specs.declared.invocations.Options.{Options}
use Rattle.exb_run.specs.Answers.{mode_for}
use Rattle.exb_outputs.specs.OutputNames.{IsCut}
use Rattle.exb_outputs.specs.KindTexts.{output_text, AreCutAlong, IsWrittenAlong}
use Rattle.exb_run.specs.PartialOutputs.{AreCutOf, LeavesPart}
use Rattle.exb_play.specs.PartialOutputs.{AreCutSoFar}

-- ---- by their names
module _ (i : Input) (manifest : Listed) (prefix : List ℕ) (same : manifest.prefix ≡ prefix) (tree : manifest.tree ≡ tree_of i) (is_tree : IsTree (tree_of i)) (f g : Files) where
  pub cut-of : (text : OutputKind → List ℕ) → AreCutAlong manifest f g text → AreCutOf manifest.options (tree_of i) prefix f g text
  cut-of text cut o made along =
      let own : IsMade manifest.options manifest.tree o = subst (λ (t : Shape). IsMade manifest.options t o) (sym tree) made in
      let place = placed manifest o own (made_of_port manifest.options (tree_of i) o is_tree made) in
      let j : ℕ = place_of manifest o in
      subst (λ (p : List ℕ). IsCut (f (file_name p o)) (g (file_name p o)) (text o)) same
      (subst (λ (k : OutputKind). IsCut (f (file_name manifest.prefix k)) (g (file_name manifest.prefix k)) (text k)) place.at (cut j place.low (subst IsWrittenAlong (sym place.at) along)))

pub parts-by : (options : Options) (t : Topology) (manifest : Listed) (m : Mode) (f g : Files) → manifest.options ≡ options → manifest.prefix ≡ t.prefix → manifest.tree ≡ shape_of t.setup → m ≡ mode_for options.seed → IsTree (shape_of t.setup)
    → AreCutSoFar m (input_of t f) manifest f g → AreCutOf options (shape_of t.setup) t.prefix f g first_text ⊎ LeavesPart options t f g
parts-by options t manifest m f g opts same tree mode is_tree (inl begun) =
    inl (subst (λ (o : Options). AreCutOf o (shape_of t.setup) t.prefix f g first_text) opts (cut-of (input_of t f) manifest t.prefix same tree is_tree f g first_text begun))
parts-by options t manifest m f g opts same tree mode is_tree (inr cut) = inr (record {
  history = cut.history;
  lines = cut.lines;
  told = subst (λ (k : Mode). IsHistorySoFar k (input_of t f) cut.history) mode cut.told;
  traced = λ on. cut.traced (ap (λ (o : Options). o.trace) opts ∙ on);
  cut = subst (λ (o : Options). AreCutOf o (shape_of t.setup) t.prefix f g (output_text (input_of t f) cut.history cut.lines)) opts
      (cut-of (input_of t f) manifest t.prefix same tree is_tree f g (output_text (input_of t f) cut.history cut.lines) cut.cut);
})
