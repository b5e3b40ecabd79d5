-- The outputs of a manifest by their names.
use Rattle.std.proofs.Common.{◌≡◌, ◌<◌, ◌++◌, inl, inr, ℕ, zero, suc, true, Option, Some, None, List, [], ◌∷◌, All, map, refl, ap, sym, subst, ◌∙◌, arith}
use Rattle.exb_model.specs.Tree.{Shape, external_ports, is_external}
use Rattle.exb_shelf.specs.Files.{Files, Filled}
use Rattle.exb_journal.specs.declared.file_names.OutputKind.{OutputKind}
use Rattle.exb_journal.specs.declared.file_names.OutputKind.TheVariants as output
use Rattle.exb_journal.specs.FileNames.{IsOfPort, all_outputs, file_name, other_outputs}
use Rattle.exb_cli.specs.Kinds.{port_of}
use Rattle.exb_cli.proofs.KindLemmas.{IsIn, capture_is, is_other}
use Rattle.exb_outputs.specs.OutputNames.{OnlyOutputs}
use Rattle.exb_outputs.specs.Manifests.{IsMade, IsMadeAt, OnlyListed, Listed, kind_at, output_count, output_name, place_in, place_of}
use Rattle.exb_outputs.proofs.KindPlaces.{kind_is, placed}
use Rattle.exb_outputs.proofs.PortPlaces.{place_low, port_of_place}

module _ (t : Shape) (manifest : Listed) (prefix : List ℕ) (same : manifest.prefix ≡ prefix) (tree : manifest.tree ≡ t) where
  made_by : (o : OutputKind) → IsMade manifest.options manifest.tree o → IsMade manifest.options t o
  made_by o made = subst (λ (s : Shape). IsMade manifest.options s o) tree made

  pub only_by : (f g : Files) → OnlyListed manifest f g → OnlyOutputs manifest.options t prefix f g
  only_by f g only m none =
      only m (λ j low e. none (kind_at manifest j) (made_by (kind_at manifest j) (kind_is manifest j low).made) (e ∙ ap (λ (p : List ℕ). file_name p (kind_at manifest j)) same))

  -- the file of a kind that is made holds the text of its kind
  pub file_of : (f g : Files) (text : OutputKind → List ℕ) → Filled f g (output_count manifest) (output_name manifest) (λ j bytes. bytes ≡ text (kind_at manifest j)) →
      (o : OutputKind) → IsMade manifest.options manifest.tree o → IsOfPort o → g (file_name prefix o) ≡ Some (text o)
  file_of f g text filled o made of_port =
      let place = placed manifest o made of_port in
      let found = filled.each (place_of manifest o) place.low in
      let name : file_name prefix o ≡ output_name manifest (place_of manifest o) = ap (λ (p : List ℕ). file_name p o) (sym same) ∙ ap (file_name manifest.prefix) (sym place.at) in
      ap g name ∙ found.1 ∙ ap Some (found.2 ∙ ap text place.at)

-- ---- of all kinds
all-cons : {X : Type 0} (P : X → Type 0) (x : X) (xs : List X) → P x → All P xs → All P (x ∷ xs)
all-cons P x xs here rest zero d low = here
all-cons P x xs here rest (suc k) d low = rest k d (omega (arith, low))

of_captures : (P : OutputKind → Type 0) (ports : List ℕ) (others : List OutputKind) → All P (map output.Capture ports ++ others) → All (λ q. P (output.Capture q)) ports
of_captures P [] others all = λ k d low. absurd (omega (arith, low))
of_captures P (p ∷ ports) others all =
    all-cons (λ q. P (output.Capture q)) p ports (all 0 output.Journal (omega arith)) (of_captures P ports others (λ k d low. all (suc k) d (omega (arith, low))))

of_others : (P : OutputKind → Type 0) (ports : List ℕ) (others : List OutputKind) → All P (map output.Capture ports ++ others) → All P others
of_others P [] others all = all
of_others P (p ∷ ports) others all = of_others P ports others (λ k d low. all (suc k) d (omega (arith, low)))

of_one : (P : OutputKind → Type 0) (o : OutputKind) (xs : List OutputKind) → IsIn o xs → All P xs → P o
of_one P o [] is all = absurd is
of_one P o (x ∷ xs) (inl same) all = subst P same (all 0 x (omega arith))
of_one P o (x ∷ xs) (inr later) all = of_one P o xs later (λ k d low. all (suc k) d (omega (arith, low)))

-- what holds of all that runs of a tree may write holds of what is made
pub of_kind : (manifest : Listed) (P : OutputKind → Type 0) → All P (all_outputs manifest.tree) → (o : OutputKind) → IsMade manifest.options manifest.tree o → IsOfPort o → P o
of_kind manifest P all o made of_port = by_port (port_of o) refl
  where
    by_port : (p : Option ℕ) → port_of o ≡ p → P o
    by_port (Some q) is =
        let same : o ≡ output.Capture q = capture_is o q is in
        let low : q < 4160 = subst IsOfPort same of_port in
        let out : is_external manifest.tree q ≡ true = subst (IsMadeAt manifest.options manifest.tree o) is made in
        subst P (sym same)
        (subst (λ (k : ℕ). P (output.Capture k)) (port_of_place manifest q low out)
        (of_captures P (external_ports manifest.tree) other_outputs all (place_in manifest.tree q) 0 (place_low manifest q low out)))
    by_port None is = of_one P o other_outputs (is_other o is) (of_others P (external_ports manifest.tree) other_outputs all)
