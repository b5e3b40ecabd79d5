-- The kinds of files and their places.
use Rattle.std.proofs.Common.{◌≡◌, ◌≢◌, ◌<◌, ◌≤◌, ◌+◌, ◌-◌, inl, inr, ℕ, true, Option, Some, None, List, get_or, refl, ap, sym, subst, ◌∙◌, arith}
use Rattle.std.proofs.lemmas.Bool.{cases_lt, lt-ltb, le-ltb}
use Rattle.exb_model.specs.Tree.{Shape, IsTree, is_external}
use Rattle.exb_shelf.proofs.FileLemmas.{Apart}
use Rattle.exb_journal.specs.declared.file_names.OutputKind.{OutputKind}
use Rattle.exb_journal.specs.declared.file_names.OutputKind.TheVariants as output
use Rattle.exb_journal.specs.FileNames.{IsOfPort, file_name}
use Rattle.exb_cli.specs.declared.invocations.Options.{Options}
use Rattle.exb_cli.specs.Kinds.{is_asked, kinds_behind, place_behind, port_of}
use Rattle.exb_cli.proofs.KindLemmas.{asked_stands, behind_is, capture_is, of_no_port}
use Rattle.exb_outputs.specs.Manifests.{output_name, Listed, IsMade, IsMadeAt, kind_at, output_count, place_at, place_in, place_of, port_at, port_count}
use Rattle.exb_outputs.proofs.PortPlaces.{external_low, port_is, place_low, port_of_place, place_of_port}

-- ---- the kinds of a manifest
behind : (manifest : Listed) (o : OutputKind) (k : ℕ) → get_or (kinds_behind manifest.options) k output.Journal ≡ o → kind_at manifest (port_count manifest + k) ≡ o
behind manifest o k is =
    let rest : port_count manifest + k - port_count manifest ≡ k = omega arith in
    rw (le-ltb (port_count manifest + k) (port_count manifest) (omega arith)) (ap (λ (n : ℕ). get_or (kinds_behind manifest.options) n output.Journal) rest ∙ is)

-- a kind that is asked for and is no capture stands behind the captures
pub record StandsBehind (manifest : Listed) (o : OutputKind) : Type 0 where
  pub low : port_count manifest + place_behind manifest.options o < output_count manifest
  pub at : kind_at manifest (port_count manifest + place_behind manifest.options o) ≡ o

pub stands_behind : (manifest : Listed) (o : OutputKind) → port_of o ≡ None → is_asked manifest.options o ≡ true → StandsBehind manifest o
stands_behind manifest o none asked =
    let own = asked_stands manifest.options o none asked in
    record { low = (let inside = own.low in omega (arith, inside)); at = behind manifest o (place_behind manifest.options o) own.here }

-- what is made has a place, and is found there
pub record IsPlaced (manifest : Listed) (o : OutputKind) : Type 0 where
  pub low : place_of manifest o < output_count manifest
  pub at : kind_at manifest (place_of manifest o) ≡ o

pub placed : (manifest : Listed) (o : OutputKind) → IsMade manifest.options manifest.tree o → IsOfPort o → IsPlaced manifest o
placed manifest o made of_port = by_port (port_of o) refl
  where
    by_port : (p : Option ℕ) → port_of o ≡ p → IsPlaced manifest o
    by_port (Some q) is =
        let same : o ≡ output.Capture q = capture_is o q is in
        let out : is_external manifest.tree q ≡ true = subst (IsMadeAt manifest.options manifest.tree o) is made in
        let low : q < 4160 = subst IsOfPort same of_port in
        let inside : place_in manifest.tree q < port_count manifest = place_low manifest q low out in
        let here : place_of manifest o ≡ place_in manifest.tree q = ap (place_at manifest o) is in
        record {
          low = omega (arith, inside, here);
          at = ap (kind_at manifest) here ∙ rw (lt-ltb (place_in manifest.tree q) (port_count manifest) inside) (ap output.Capture (port_of_place manifest q low out)) ∙ sym same;
        }
    by_port None is =
        let own = stands_behind manifest o is (subst (IsMadeAt manifest.options manifest.tree o) is made) in
        let here : place_of manifest o ≡ port_count manifest + place_behind manifest.options o = ap (place_at manifest o) is in
        record {
          low = (let inside = own.low in omega (arith, inside, here));
          at = ap (kind_at manifest) here ∙ own.at;
        }

-- and each place has a kind that is made
pub record IsKind (manifest : Listed) (j : ℕ) (o : OutputKind) : Type 0 where
  pub made : IsMade manifest.options manifest.tree o
  pub of_port : IsOfPort o
  pub place : place_of manifest o ≡ j

pub kind_is : (manifest : Listed) (j : ℕ) → j < output_count manifest → IsKind manifest j (kind_at manifest j)
kind_is manifest j low = elim (cases_lt j (port_count manifest)) [
  | inl inside ↦
      let port = port_is manifest j inside in
      subst (IsKind manifest j) (sym (capture_at inside)) (record { made = port.passes; of_port = port.low; place = place_of_port manifest j inside })
  | inr above ↦
      let k : ℕ = j - port_count manifest in
      let whole : port_count manifest + k ≡ j = omega (arith, above) in
      let o : OutputKind = get_or (kinds_behind manifest.options) k output.Journal in
      let own = behind_is manifest.options k (omega (arith, low, above)) in
      subst (IsKind manifest j) (sym (other_at above))
      (record {
        made = subst (IsMadeAt manifest.options manifest.tree o) (sym own.none) own.asked;
        of_port = of_no_port o own.none;
        place = ap (place_at manifest o) own.none ∙ ap (λ (n : ℕ). port_count manifest + n) own.place ∙ whole;
      })
]
  where
    capture_at : j < port_count manifest → kind_at manifest j ≡ output.Capture (port_at manifest j)
    capture_at inside = rw (lt-ltb j (port_count manifest) inside) refl

    other_at : port_count manifest ≤ j → kind_at manifest j ≡ get_or (kinds_behind manifest.options) (j - port_count manifest) output.Journal
    other_at above = rw (le-ltb j (port_count manifest) above) refl

-- what is made in a tree has a port of it, if any
pub made_of_port : (options : Options) (t : Shape) (o : OutputKind) → IsTree t → IsMade options t o → IsOfPort o
made_of_port options t o tree made = by_port (port_of o) refl
  where
    by_port : (p : Option ℕ) → port_of o ≡ p → IsOfPort o
    by_port (Some q) is = subst IsOfPort (sym (capture_is o q is)) (external_low t q tree (subst (IsMadeAt options t o) is made))
    by_port None is = of_no_port o is

-- ---- names and kinds differ
module _ (law : (prefix : List ℕ) (x y : OutputKind) → IsOfPort x → IsOfPort y → file_name prefix x ≡ file_name prefix y → x ≡ y) (manifest : Listed) where
  pub names_apart : Apart (output_count manifest) (output_name manifest)
  names_apart i j li lj differ e =
      let a = kind_is manifest i li in
      let b = kind_is manifest j lj in
      differ (sym a.place ∙ ap (place_of manifest) (law manifest.prefix (kind_at manifest i) (kind_at manifest j) a.of_port b.of_port e) ∙ b.place)

pub kinds_differ : (manifest : Listed) (i j : ℕ) → i < output_count manifest → j < output_count manifest → i ≢ j → kind_at manifest i ≢ kind_at manifest j
kinds_differ manifest i j li lj differ e = differ (sym (kind_is manifest i li).place ∙ ap (place_of manifest) e ∙ (kind_is manifest j lj).place)
