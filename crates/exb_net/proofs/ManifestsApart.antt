-- Several manifests on one shelf: what is made and written under one of them leaves the files and ids of the others as they are.
use Rattle.std.proofs.Common.{◌≡◌, ◌≢◌, ℕ, zero, suc, ◌<◌, ◌++◌, List, [], ◌∷◌, length, set, slice_index, Bool, true, Option, Some, None, refl, ap, sym, ◌∙◌, subst, arith, inl, inr}
use Rattle.std.specs.Prelude.{slice_get}
use Rattle.std.proofs.lemmas.Bool.{cases_eq, cases_lt}
use Rattle.exb_shelf.specs.Files.{Files}
use Rattle.exb_shelf.specs.Shelf.{Id, Opens}
use Rattle.exb_net_file.specs.declared.members.NetMember.{NetMember}
use Rattle.exb_net_file.specs.Soundness.{BridgesWriteApart}
use Rattle.exb_net_file.specs.EndNames.{is_name}
use Rattle.exb_outputs.specs.declared.outputs.Outputs.{Outputs}
use Rattle.exb_outputs.specs.Manifests.{OnlyListed, Listed, kind_at, output_count, output_name}
use Rattle.exb_outputs.specs.WrittenTexts.{IsReady, ids_of}
use Rattle.exb_outputs.proofs.KindPlaces.{kind_is}
use Rattle.exb_world_spec.specs.Steps.{Stepped}
use Rattle.exb_net.specs.WrittenOutputs.{AreFronts, OnlyAllListed}
use Rattle.exb_net.specs.Nets.{manifest_with}

-- ---- ids
-- outputs stay ready where their ids stand for what they stood for
pub ready_kept : (manifest : Listed) (given ids : ℕ → Id) (o : Outputs) → ((j : ℕ) → ids j ≡ given j) → IsReady manifest given o → IsReady manifest ids o
ready_kept manifest given ids o same ready = record { files = ready.files; named = λ j low. same (slice_index (ids_of o) j) ∙ ready.named j low }

-- and where files were opened since: an id that was given stays
pub ready_beside : (P : Id → Type 0) (manifest : Listed) (given ids : ℕ → Id) (o : Outputs) → Opens P given ids → IsReady manifest given o → IsReady manifest ids o
ready_beside P manifest given ids o opens ready =
    record {
      files = ready.files;
      named = λ j low. (let is = ready.named j low in opens.kept (slice_index (ids_of o) j) (ap (λ (i : Id). i.given) is) ∙ is);
    }

-- ---- files
-- no two files of two manifests have one name
abbrev pub WriteApart : Listed → Listed → Type 0
WriteApart p q = (i j : ℕ) → i < output_count p → j < output_count q → output_name p i ≢ output_name q j

pub others_stay : (p q : Listed) (old new : Files) → WriteApart p q → OnlyListed p old new → (j : ℕ) → j < output_count q → new (output_name q j) ≡ old (output_name q j)
others_stay p q old new apart only j low = only (output_name q j) (λ i i_low e. apart i j i_low low (sym e))

pub fronts_stay : (q : Listed) (old new : Files) (done : Stepped) → ((j : ℕ) → j < output_count q → new (output_name q j) ≡ old (output_name q j)) → AreFronts q old done → AreFronts q new done
fronts_stay q old new done same fronts = record { counts = fronts.counts; each = λ j low. (let k = fronts.each j low in (k.0, same j low ∙ k.1)) }

-- ---- of all manifests
pub only_of_all : (ps : List Listed) (b : ℕ) (p : Listed) (old new : Files) → slice_get ps b ≡ Some p → OnlyListed p old new → OnlyAllListed ps old new
only_of_all ps b p old new is only m away = only m (λ j low. away b p is j low)

pub only_all_same : (ps : List Listed) (file : Files) → OnlyAllListed ps file file
only_all_same ps file m away = refl

pub only_all_then : (ps : List Listed) (a b c : Files) → OnlyAllListed ps a b → OnlyAllListed ps b c → OnlyAllListed ps a c
only_all_then ps a b c first rest m away = rest m away ∙ first m away

-- ---- one of a list is another
module _ {A : Type 0} where
  set_at : (xs : List A) (b : ℕ) (y : A) → b < length xs → slice_get (set xs b y) b ≡ Some y
  set_at [] b y low = absurd (omega (arith, low))
  set_at (x ∷ xs) zero y low = refl
  set_at (x ∷ xs) (suc b) y low = set_at xs b y (omega (arith, low))

  set_away : (xs : List A) (b c : ℕ) (y : A) → c ≢ b → slice_get (set xs b y) c ≡ slice_get xs c
  set_away [] b c y other = refl
  set_away (x ∷ xs) zero zero y other = absurd (other refl)
  set_away (x ∷ xs) zero (suc c) y other = refl
  set_away (x ∷ xs) (suc b) zero y other = refl
  set_away (x ∷ xs) (suc b) (suc c) y other = set_away xs b c y (λ e. other (ap suc e))

  some_is : (x y : A) → Some x ≡ Some y → x ≡ y
  some_is x y e = cc

  -- what holds of all others, and of it, holds of each
  pub set_each : (P : ℕ → A → Type 0) (xs : List A) (b : ℕ) (y : A) → b < length xs → P b y → ((c : ℕ) (x : A) → c ≢ b → slice_get xs c ≡ Some x → P c x) → (c : ℕ) (x : A) → slice_get (set xs b y) c ≡ Some x → P c x
  set_each P xs b y low here others c x is = elim (cases_eq c b) [
    | inl same ↦ subst (P c) (some_is y x (sym (set_at xs b y low) ∙ (ap (slice_get (set xs b y)) (sym same) ∙ is))) (subst (λ (z : ℕ). P z y) (sym same) here)
    | inr other ↦ others c x other (sym (set_away xs b c y other) ∙ is)
  ]

  get_before : (xs : List A) (y : A) (c : ℕ) → c < length xs → slice_get (xs ++ y ∷ []) c ≡ slice_get xs c
  get_before [] y c low = absurd (omega (arith, low))
  get_before (x ∷ xs) y zero low = refl
  get_before (x ∷ xs) y (suc c) low = get_before xs y c (omega (arith, low))

  get_last : (xs : List A) (y : A) → slice_get (xs ++ y ∷ []) (length xs) ≡ Some y
  get_last [] y = refl
  get_last (x ∷ xs) y = get_last xs y

  get_none : (xs : List A) (y : A) (c : ℕ) → length xs < c → ◌≡◌ {A = Option A} (slice_get (xs ++ y ∷ []) c) None
  get_none [] y zero low = absurd (omega (arith, low))
  get_none [] y (suc c) low = refl
  get_none (x ∷ xs) y zero low = absurd (omega (arith, low))
  get_none (x ∷ xs) y (suc c) low = get_none xs y c (omega (arith, low))

  no_some : (x : A) → ◌≡◌ {A = Option A} None (Some x) → ⊥
  no_some x e = cc

  -- of a list with one more at its end likewise
  pub push_each : (P : ℕ → A → Type 0) (xs : List A) (y : A) → P (length xs) y → ((c : ℕ) (x : A) → slice_get xs c ≡ Some x → P c x) → (c : ℕ) (x : A) → slice_get (xs ++ y ∷ []) c ≡ Some x → P c x
  push_each P xs y last each c x is = elim (cases_eq c (length xs)) [
    | inl same ↦ subst (P c) (some_is y x (sym (get_last xs y) ∙ (ap (slice_get (xs ++ y ∷ [])) (sym same) ∙ is))) (subst (λ (z : ℕ). P z y) (sym same) last)
    | inr other ↦ each c x (sym (get_before xs y c (before c other is)) ∙ is)
  ]
    where
      before : (c : ℕ) → c ≢ length xs → slice_get (xs ++ y ∷ []) c ≡ Some x → c < length xs
      before c other is = elim (cases_lt c (length xs)) [
        | inl low ↦ low
        | inr high ↦ absurd (no_some x (sym (get_none xs y c (omega (arith, high, other))) ∙ is))
      ]

-- ---- bridges write apart
module _ (law : BridgesWriteApart) (counters : Bool) where
  pub two_apart : (m k : NetMember) → is_name m.name ≡ true → is_name k.name ≡ true → m.name ≢ k.name → WriteApart (manifest_with counters m) (manifest_with counters k)
  two_apart m k named called other i j i_low j_low same =
      let p : Listed = manifest_with counters m in
      let q : Listed = manifest_with counters k in
      other (law m.name k.name (kind_at p i) (kind_at q j) named called (kind_is p i i_low).of_port (kind_is q j j_low).of_port same).0
