-- Ports below n, one after the other.
use Rattle.std.proofs.Common.{◌≡◌, ◌+◌, ◌++◌, ◌∷◌, [], ℕ, List, ap, refl, ◌∙◌}
use Rattle.std.specs.Prelude.{flat_map}
use Rattle.std.proofs.lemmas.Grind.{flat_map-append}
use Rattle.std.proofs.lemmas.List.{append-nil}
use Rattle.exb_model.specs.Ports.{below}
use Rattle.exb_model.proofs.PortLemmas.{below-more}

module _ {A : Type 0} (f : ℕ → List A) where
  pub flat_none : flat_map f (below 0) ≡ []
  unfolding below
  flat_none = refl

  pub flat_more : (n : ℕ) → flat_map f (below (n + 1)) ≡ flat_map f (below n) ++ f n
  flat_more n = ap (flat_map f) (below-more n) ∙ flat_map-append f (below n) (n ∷ []) ∙ ap (λ (xs : List A). flat_map f (below n) ++ xs) (append-nil (f n))
