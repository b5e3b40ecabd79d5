-- Ids that are given one after the other.
use Rattle.std.proofs.Common.{◌≡◌, ◌≢◌, ◌<◌, ℕ, true, inl, inr, refl, sym, ap, subst, ◌∙◌}
use Rattle.std.proofs.lemmas.Bool.{cases_Bool, cases_eq, false≢true}
use Rattle.exb_shelf.specs.Shelf.{Id, Opens}

-- nothing is opened
pub opens_none : (P : Id → Type 0) (a : ℕ → Id) → Opens P a a
opens_none P a = record { fresh = λ j was now. absurd (false≢true (sym was ∙ now)); rises = λ i j given was now. absurd (false≢true (sym was ∙ now)); kept = λ j given. refl }

pub opens_same : (P : Id → Type 0) (a b : ℕ → Id) → ((j : ℕ) → b j ≡ a j) → Opens P a b
opens_same P a b same = record {
  fresh = λ j was now. absurd (false≢true (sym was ∙ sym (ap (λ (i : Id). i.given) (same j)) ∙ now));
  rises = λ i j given was now. absurd (false≢true (sym was ∙ sym (ap (λ (i : Id). i.given) (same j)) ∙ now));
  kept = λ j given. same j;
}

-- one id is given
pub opens_one : (P : Id → Type 0) (a b : ℕ → Id) (id : ℕ) → ((j : ℕ) → j ≢ id → b j ≡ a j) → ((j : ℕ) → (a j).given ≡ true → b j ≡ a j) → ((j : ℕ) → (a j).given ≡ true → j < id) → P (b id) → Opens P a b
opens_one P a b id others kept rises here = record {
  fresh = λ j was now. elim (cases_eq j id) [
    | inl same ↦ subst (λ (i : ℕ). P (b i)) (sym same) here
    | inr other ↦ absurd (false≢true (sym was ∙ sym (ap (λ (i : Id). i.given) (others j other)) ∙ now))
  ];
  rises = λ i j given was now. elim (cases_eq j id) [
    | inl same ↦ subst (λ (k : ℕ). i < k) (sym same) (rises i given)
    | inr other ↦ absurd (false≢true (sym was ∙ sym (ap (λ (i : Id). i.given) (others j other)) ∙ now))
  ];
  kept = kept;
}

pub opens_weaker : (P Q : Id → Type 0) (a b : ℕ → Id) → ((i : Id) → P i → Q i) → Opens P a b → Opens Q a b
opens_weaker P Q a b so h = record { fresh = λ j was now. so (b j) (h.fresh j was now); rises = h.rises; kept = h.kept }

-- something is opened, and then something else
pub opens_then : (P : Id → Type 0) (a b c : ℕ → Id) → Opens P a b → Opens P b c → Opens P a c
opens_then P a b c h k = record {
  fresh = λ j was now. elim (cases_Bool (b j).given) [
    | inl given ↦ subst P (sym (k.kept j given)) (h.fresh j was given)
    | inr free ↦ k.fresh j free now
  ];
  rises = λ i j given was now. elim (cases_Bool (b j).given) [
    | inl known ↦ h.rises i j given was known
    | inr free ↦ k.rises i j (ap (λ (i : Id). i.given) (h.kept i given) ∙ given) free now
  ];
  kept = λ j given. k.kept j (ap (λ (i : Id). i.given) (h.kept j given) ∙ given) ∙ h.kept j given;
}
