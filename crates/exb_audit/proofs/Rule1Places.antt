-- Rule 1: lines of the journal are counted, and places are asked for.
use Rattle.std.proofs.Common.{◌≡◌, ◌⊎◌, inl, inr, ℕ, ◌+◌, true, false, List, [], ◌∷◌, ◌++◌, length, refl, sym, ap, ◌∙◌, subst}
use Rattle.std.proofs.lemmas.Bool.{false≢true}
use Rattle.exb_model.specs.declared.trace.TraceWay.{TraceWay}
use Rattle.exb_model.specs.declared.trace.TraceWay.TheVariants as way
use Rattle.exb_model.specs.Traces.{TraceLine, Journal, line_by}
use Rattle.exb_model.specs.Tree.{Shape}
use Rattle.exb_trace_spec.specs.Rule1Places.{journal_at, is_place, NamesPlace, HasPlaces}
use Rattle.exb_trace_spec.specs.Traversals.{Each}
use Rattle.exb_audit.specs.Frames.{is_next}
use Rattle.exb_audit.specs.Rule1Places.{IsToldSoFar}
use Rattle.exb_audit.proofs.FrameCounts.{none_more, one_more, wrong, whole, counted, none_yet}

pub each_more : {A : Type 0} (P : A → Type 0) (xs : List A) (y : A) → Each P xs → P y → Each P (xs ++ y ∷ [])
each_more P [] y h k = (k, tt)
each_more P (x ∷ xs) y h k = (h.0, each_more P xs y h.1 k)

pub each_at : {A : Type 0} (P : A → Type 0) (xs ys : List A) (y : A) → Each P (xs ++ y ∷ ys) → P y
each_at P [] ys y h = h.0
each_at P (x ∷ xs) ys y h = each_at P xs ys y h.1

module _ (t : Shape) (journal : List (List ℕ)) where
  pub begins_told : IsToldSoFar t journal [] 0
  begins_told = record { told = none_yet journal_at journal; places = tt }

  module _ (before : List TraceLine) (n : ℕ) (s : IsToldSoFar t journal before n) where
    pub passes : (l : TraceLine) → journal_at l ≡ [] → NamesPlace t l → IsToldSoFar t journal (before ++ l ∷ []) n
    passes l none place = record { told = none_more journal_at journal before l n none s.told; places = each_more (NamesPlace t) before l s.places place }

    pub tells : (text : List ℕ) → is_next journal n text ≡ true → IsToldSoFar t journal (before ++ Journal text ∷ []) (n + 1)
    tells text next = record { told = one_more journal_at journal before (Journal text) n text refl next s.told; places = each_more (NamesPlace t) before (Journal text) s.places tt }

    pub tells_wrong : (after : List TraceLine) (text : List ℕ) → is_next journal n text ≡ false → HasPlaces t journal (before ++ Journal text ∷ after) → ⊥
    tells_wrong after text next has = wrong journal_at journal before after (Journal text) n text refl next s.told has.told

    pub nowhere : (after : List TraceLine) (l : TraceLine) → (NamesPlace t l → ⊥) → HasPlaces t journal (before ++ l ∷ after) → ⊥
    nowhere after l none has = none (each_at (NamesPlace t) before after l has.places)

  pub all_told : (lines : List TraceLine) (n : ℕ) → IsToldSoFar t journal lines n → n ≡ length journal → HasPlaces t journal lines
  all_told lines n s e = record { told = whole journal_at journal lines n e s.told; places = s.places }

  pub told_all : (lines : List TraceLine) (n : ℕ) → IsToldSoFar t journal lines n → HasPlaces t journal lines → n ≡ length journal
  told_all lines n s has = counted journal_at journal lines n has.told s.told

-- ---- a line of code
pub journal_line : (w : TraceWay) (who side : ℕ) (bytes : List ℕ) (l : TraceLine) → line_by w who side bytes ≡ l → w ≡ way.Journal → l ≡ Journal bytes
journal_line w who side bytes l is e = sym is ∙ ap (λ v. line_by v who side bytes) e

pub not_there : (t : Shape) (w : TraceWay) (who side : ℕ) (bytes : List ℕ) (l : TraceLine) → line_by w who side bytes ≡ l → (w ≡ way.In) ⊎ (w ≡ way.Out) → is_place t who side ≡ false → NamesPlace t l → ⊥
not_there t w who side bytes l is e none place =
    elim e [
      | inl i ↦ false≢true (sym none ∙ subst (NamesPlace t) (sym is ∙ ap (λ v. line_by v who side bytes) i) place)
      | inr o ↦ false≢true (sym none ∙ subst (NamesPlace t) (sym is ∙ ap (λ v. line_by v who side bytes) o) place)
    ]
