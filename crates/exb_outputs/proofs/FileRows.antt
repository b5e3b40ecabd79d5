-- Rows of files: a weaker fact of each, and a file that gets more at its end.
use Rattle.std.proofs.Common.{◌≡◌, ◌≢◌, ◌<◌, ◌++◌, inl, inr, ℕ, List, Some, ap, sym, ◌∙◌, subst}
use Rattle.std.proofs.lemmas.Bool.{cases_eq}
use Rattle.exb_shelf.specs.Files.{Files, SameFiles, Adds, Filled}
use Rattle.exb_shelf.proofs.FileLemmas.{Apart}

-- a weaker fact of each file
pub weaker : (f g : Files) (n : ℕ) (name : ℕ → List ℕ) (P Q : ℕ → List ℕ → Type 0)
    → Filled f g n name P → ((j : ℕ) (bytes : List ℕ) → j < n → P j bytes → Q j bytes) → Filled f g n name Q
weaker f g n name P Q p q = record {
  each = λ j l. let old = p.each j l in (old.0, old.1, q j old.0 l old.2);
  others = p.others;
}

-- no file has changed since
pub still_filled : (f g h : Files) (n : ℕ) (name : ℕ → List ℕ) (P : ℕ → List ℕ → Type 0)
    → Filled f g n name P → SameFiles g h → Filled f h n name P
still_filled f g h n name P p same = record {
  each = λ j l. let old = p.each j l in (old.0, same (name j) ∙ old.1, old.2);
  others = λ m away. same m ∙ p.others m away;
}

-- one file has more at its end, which makes its fact another
pub one_more : (f g h : Files) (n k : ℕ) (name : ℕ → List ℕ) (P Q : ℕ → List ℕ → Type 0) (more : List ℕ)
    → Apart n name → k < n → Filled f g n name P → Adds g h (name k) more
    → ((j : ℕ) (bytes : List ℕ) → j ≢ k → P j bytes → Q j bytes) → ((bytes : List ℕ) → P k bytes → Q k (bytes ++ more))
    → Filled f h n name Q
one_more f g h n k name P Q more apart lt p add keep gain = record {
  each = λ j l.
      let old = p.each j l in
      elim (cases_eq j k) [
        | inl same ↦
            let was : g (name k) ≡ Some old.0 = ap g (ap name (sym same)) ∙ old.1 in (
              old.0 ++ more,
              ap h (ap name same) ∙ add.here old.0 was,
              subst (λ (i : ℕ). Q i (old.0 ++ more)) (sym same) (gain old.0 (subst (λ (i : ℕ). P i old.0) same old.2)),
            )
        | inr other ↦ (old.0, add.others (name j) (apart j k l lt other) ∙ old.1, keep j old.0 other old.2)
      ];
  others = λ m away. add.others m (away k lt) ∙ p.others m away;
}
