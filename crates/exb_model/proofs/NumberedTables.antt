-- Tables by number, seen as functions.
use Rattle.std.proofs.Common.{◌≡◌, ℕ, ◌<◌, List, length, set, get_or, refl, ◌∙◌, inl, inr, eq-eqb}
use Rattle.std.specs.Prelude.{slice_index_or, replicate}
use Rattle.std.proofs.lemmas.Bool.{cases_eq, ne_eqb}
use Rattle.std.proofs.lemmas.List.{get_or-set_same, get_or-set_other, get_or_default}
use mathlib.Core.Path.{fun_ext}
use Rattle.exb_model.proofs.PortBits.{get_or-same}
use Rattle.exb_model.specs.Tables.{at}

-- what a list has at a place, and d past its end
abbrev pub table : {A : Type 0} → List A → A → ℕ → A
table xs d m = slice_index_or xs m d

-- the same everywhere
abbrev pub alike : {A : Type 0} → A → ℕ → A
alike x m = x

-- one place is set
pub at_set : {A : Type 0} (xs : List A) (n : ℕ) (x d : A) → n < length xs → table (set xs n x) d ≡ at n x (table xs d)
at_set xs n x d within = fun_ext (λ m. by_place m)
  where
    by_place : (m : ℕ) → slice_index_or (set xs n x) m d ≡ at n x (table xs d) m
    by_place m =
        elim (cases_eq m n) [
          | inl is ↦ rw (is, eq-eqb n n refl) (get_or-set_same xs n x d within)
          | inr ne ↦ rw (ne_eqb m n ne) (get_or-set_other xs n m x d ne)
        ]

-- all places are alike
pub at_all : {A : Type 0} (n : ℕ) (x : A) → table (replicate n x) x ≡ alike x
at_all n x = fun_ext (λ m. get_or-same n m x)

-- the element that was read
pub at_read : {A : Type 0} (xs : List A) (n : ℕ) (x d e : A) → n < length xs → x ≡ get_or xs n e → x ≡ slice_index_or xs n d
at_read xs n x d e within is = is ∙ get_or_default xs n e d within
