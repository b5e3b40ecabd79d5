-- The numbers below n that pass a test, in order.
use Rattle.std.proofs.Common.{◌≡◌, ◌++◌, ℕ, suc, Bool, true, false, if◌then◌else◌, List, [], ◌∷◌, filter, refl, ap, sym, ◌∙◌, add-one}
use Rattle.std.proofs.lemmas.List.{append-nil}
use Rattle.std.proofs.lemmas.List.Elements.{filter-append}
use Rattle.exb_model.specs.Ports.{below}
use Rattle.exb_model.proofs.PortLemmas.{below-more}

module _ (P : ℕ → Bool) where
  -- those below n, and whether n is one
  abbrev pub last : ℕ → List ℕ
  last n = if P n then n ∷ [] else []

  pub passed_more : (n : ℕ) → filter P (below (suc n)) ≡ filter P (below n) ++ last n
  passed_more n = ap (λ (k : ℕ). filter P (below k)) (sym (add-one n)) ∙ ap (filter P) (below-more n) ∙ filter-append P (below n) (n ∷ [])

  pub passed_here : (n : ℕ) → P n ≡ true → filter P (below (suc n)) ≡ filter P (below n) ++ n ∷ []
  passed_here n is = passed_more n ∙ ap (λ (b : Bool). filter P (below n) ++ (if b then n ∷ [] else [])) is

  pub passed_not : (n : ℕ) → P n ≡ false → filter P (below (suc n)) ≡ filter P (below n)
  passed_not n isnt = passed_more n ∙ ap (λ (b : Bool). filter P (below n) ++ (if b then n ∷ [] else [])) isnt ∙ append-nil (filter P (below n))

  pub passed_none : filter P (below 0) ≡ []
  unfolding below
  passed_none = refl
