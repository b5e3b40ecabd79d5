-- A topology that is run: the files of its manifest hold what is told of its external ports.
use Rattle.std.proofs.Common.{◌≡◌, ℕ, List, [], Some, refl, ap, sym, subst, ◌∙◌}
use Rattle.exb_model.specs.EagerHistory.{eager}
use Rattle.exb_model.specs.Input.{Input, Mode, tree_of}
use Rattle.exb_model.specs.Tree.{Shape, IsTree, is_external}
use Rattle.exb_shelf.specs.Files.{Files}
use Rattle.exb_journal.specs.declared.file_names.OutputKind.{OutputKind}
use Rattle.exb_journal.specs.declared.file_names.OutputKind.TheVariants as output
use Rattle.exb_journal.specs.FileNames.{IsOfPort, file_name}
use Rattle.exb_outputs.specs.Manifests.{Listed, IsMade, place_of}
use Rattle.exb_outputs.specs.KindTexts.{AreCutEagerly, GrowsEagerly, output_text}
use Rattle.exb_run.specs.Outputs.{AreFrontsOf, IsPlayed}
use Rattle.exb_outputs.specs.OutputNames.{IsCut}
use Rattle.exb_play.specs.Outputs.{HasPlayed}
use Rattle.exb_outputs.proofs.KindPlaces.{made_of_port, placed}
use Rattle.exb_outputs.proofs.OutputNames.{file_of, only_by}
use Rattle.exb_outputs.proofs.PortPlaces.{external_low}

module _ (i : Input) (manifest : Listed) (prefix : List ℕ) (same : manifest.prefix ≡ prefix) (tree : manifest.tree ≡ tree_of i) where
  pub played_by : (m : Mode) → IsTree (tree_of i) → (f g : Files) (line : List ℕ) → HasPlayed m i manifest f g line → IsPlayed m manifest.options i prefix f g line
  played_by m is_tree f g line played = record {
    history = played.history;
    legal = played.legal;
    eager = played.eager;
    captures = λ q is. holds (output.Capture q) (ap (λ (t : Shape). is_external t q) tree ∙ is) (external_low (tree_of i) q is_tree is);
    journal = holds output.Journal refl tt;
    back = played.back;
    trace = λ traced. record { lines = played.lines; is = holds output.Trace traced tt; legal = played.trace traced; bytes = played.bytes };
    counters = λ counted. holds output.Counters counted tt;
    files = (played.lines, λ o made. holds o (subst (λ (s : Shape). IsMade manifest.options s o) (sym tree) made) (made_of_port manifest.options (tree_of i) o is_tree made));
    others = only_by (tree_of i) manifest prefix same tree f g played.outputs.others;
    says = played.says;
  }
    where
      holds : (o : OutputKind) → IsMade manifest.options manifest.tree o → IsOfPort o → g (file_name prefix o) ≡ Some (output_text i played.history played.lines o)
      holds = file_of (tree_of i) manifest prefix same tree f g (output_text i played.history played.lines) played.outputs

  -- where it ended early
  pub fronts_by : IsTree (tree_of i) → (f g : Files) → AreCutEagerly i manifest f g → AreFrontsOf i prefix f g
  fronts_by is_tree f g cut = record {
    captures = λ q is. front (output.Capture q) (ap (λ (t : Shape). is_external t q) tree ∙ is) (external_low (tree_of i) q is_tree is) tt;
    journal = front output.Journal refl tt tt;
  }
    where
      front : (o : OutputKind) → IsMade manifest.options manifest.tree o → IsOfPort o → GrowsEagerly o → IsCut (f (file_name prefix o)) (g (file_name prefix o)) (output_text i (eager i) [] o)
      front o made of_port grows =
          let place = placed manifest o made of_port in
          let j : ℕ = place_of manifest o in
          subst (λ (p : List ℕ). IsCut (f (file_name p o)) (g (file_name p o)) (output_text i (eager i) [] o)) same
          (subst (λ (k : OutputKind). IsCut (f (file_name manifest.prefix k)) (g (file_name manifest.prefix k)) (output_text i (eager i) [] k)) place.at (cut j place.low (subst GrowsEagerly (sym place.at) grows)))
