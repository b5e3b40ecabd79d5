-- Tests, codes and sets.
use Rattle.std.proofs.Common.{◌≡◌, ℕ, ◌==◌, not, cond, Bool, true, false, List, [], ◌∷◌, refl}
use Rattle.std.proofs.lemmas.Bool.{false≢true}
use Rattle.exb_model.specs.Refusals.{is_empty_set}

pub not_both : (b : Bool) → b ≡ true → not b ≡ true → ⊥
not_both true e f = false≢true f
not_both false e f = false≢true e

-- a code of 0, and what follows it
pub by_zero : (code rest : ℕ) → code ≡ 0 → rest ≡ 0 → cond (code == 0) rest code ≡ 0
by_zero code rest a b = rw (a) b

-- a set that isn't used
pub none_there : (set : List ℕ) → (not (is_empty_set set) ≡ true → ⊥) → set ≡ []
none_there [] none = refl
none_there (x ∷ xs) none = absurd (none refl)
