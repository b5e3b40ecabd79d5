-- One element of a list, at its place.
use Rattle.std.proofs.Common.{◌≡◌, ℕ, zero, suc, ◌<◌, List, [], ◌∷◌, ◌++◌, length, get_or, set, refl, sym, ap, ◌∙◌, arith}
use Rattle.std.specs.List.{AllByRecursion}

module _ {X : Type 0} where
  -- this element stands at that place
  pub record HasAt (xs : List X) (place : ℕ) (x : X) : Type 0 where
    pub before : List X
    pub after : List X
    pub split : xs ≡ before ++ x ∷ after
    pub at : length before ≡ place

  pub has_at : (xs : List X) (place : ℕ) (x : X) → place < length xs → x ≡ get_or xs place x → HasAt xs place x
  has_at [] place x low is = absurd (omega (arith, low))
  has_at (y ∷ ys) zero x low is = record { before = []; after = ys; split = ap (λ z. z ∷ ys) (sym is); at = refl }
  has_at (y ∷ ys) (suc n) x low is =
      let h = has_at ys n x (omega (arith, low)) is in
      record { before = y ∷ h.before; after = h.after; split = ap (λ zs. y ∷ zs) h.split; at = ap suc h.at }

  set_split : (before : List X) (x y : X) (after : List X) → set (before ++ x ∷ after) (length before) y ≡ before ++ y ∷ after
  set_split [] x y after = refl
  set_split (b ∷ before) x y after = ap (λ zs. b ∷ zs) (set_split before x y after)

  -- and once another one is put there
  pub set_at : (xs : List X) (place : ℕ) (x y : X) (h : HasAt xs place x) → set xs place y ≡ h.before ++ y ∷ h.after
  set_at xs place x y h = ap (λ zs. set zs place y) h.split ∙ ap (λ k. set (h.before ++ x ∷ h.after) k y) (sym h.at) ∙ set_split h.before x y h.after

  -- ---- what holds of all
  pub all_join : (P : X → Type 0) (xs ys : List X) → AllByRecursion P xs → AllByRecursion P ys → AllByRecursion P (xs ++ ys)
  all_join P [] ys left right = right
  all_join P (x ∷ xs) ys left right = (left.0, all_join P xs ys left.1 right)

  pub all_on : (P Q : X → Type 0) (xs : List X) → ((x : X) → P x → Q x) → AllByRecursion P xs → AllByRecursion Q xs
  all_on P Q [] on all = tt
  all_on P Q (x ∷ xs) on all = (on x all.0, all_on P Q xs on all.1)

  pub all_with : (P Q R : X → Type 0) (xs : List X) → ((x : X) → P x → Q x → R x) → AllByRecursion P xs → AllByRecursion Q xs → AllByRecursion R xs
  all_with P Q R [] on all also = tt
  all_with P Q R (x ∷ xs) on all also = (on x all.0 also.0, all_with P Q R xs on all.1 also.1)

  pub all_at : (P : X → Type 0) (before after : List X) (x : X) → AllByRecursion P (before ++ x ∷ after) → P x
  all_at P [] after x all = all.0
  all_at P (b ∷ before) after x all = all_at P before after x all.1

  -- another one is put at a place
  pub all_put : (P : X → Type 0) (before after : List X) (x y : X) → (P x → P y) → AllByRecursion P (before ++ x ∷ after) → AllByRecursion P (before ++ y ∷ after)
  all_put P [] after x y on all = (on all.0, all.1)
  all_put P (b ∷ before) after x y on all = (all.0, all_put P before after x y on all.1)
