-- A list is taken from its end.
use Rattle.std.proofs.Common.{◌≡◌, ◌<◌, ◌++◌, true, false, List, [], ◌∷◌, length, map, append_assoc, append-nil, refl, ap, sym, ◌∙◌, arith}
use Rattle.std.specs.Prelude.{reverse}
use Rattle.std.proofs.lemmas.Bool.{false≢true}
use Rattle.std.proofs.lemmas.List.{reverse-append}

module _ {A : Type 0} where
  pub turned_more : (back now next : List A) (x : A) → now ≡ next ++ x ∷ [] → back ++ reverse now ≡ (back ++ x ∷ []) ++ reverse next
  turned_more back now next x e = ap (λ (zs : List A). back ++ reverse zs) e ∙ (ap (λ (zs : List A). back ++ zs) (reverse-append next (x ∷ [])) ∙ sym (append_assoc back (x ∷ []) (reverse next)))

  pub turned_all : (back now : List A) → now ≡ [] → back ++ reverse now ≡ back
  turned_all back now e = ap (λ (zs : List A). back ++ reverse zs) e ∙ append-nil back

  pub none_left : (xs : List A) → (0 < length xs → false ≡ true) → xs ≡ []
  none_left [] h = refl
  none_left (x ∷ xs) h = absurd (false≢true (h (omega arith)))

  module _ {B : Type 0} (of : A → B) where
    pub mapped_all : (so_far : List B) (now : List A) → now ≡ [] → so_far ++ map of (reverse now) ≡ so_far
    mapped_all so_far now e = ap (λ (zs : List A). so_far ++ map of (reverse zs)) e ∙ append-nil so_far

    pub mapped_more : (so_far more : List B) (now next : List A) (x : A) → now ≡ next ++ x ∷ [] → more ≡ so_far ++ of x ∷ [] → so_far ++ map of (reverse now) ≡ more ++ map of (reverse next)
    mapped_more so_far more now next x e f =
        ap (λ (zs : List A). so_far ++ map of (reverse zs)) e
        ∙ (ap (λ (zs : List A). so_far ++ map of zs) (reverse-append next (x ∷ [])) ∙ (sym (append_assoc so_far (of x ∷ []) (map of (reverse next))) ∙ ap (λ (zs : List B). zs ++ map of (reverse next)) (sym f)))
