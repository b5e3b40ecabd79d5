-- Numbers that may be there.
use Rattle.std.proofs.Common.{◌≡◌, ℕ, true, false, Option, Some, None, refl, sym}
use Rattle.std.specs.Prelude.{is_some}
use Rattle.std.proofs.lemmas.Bool.{false≢true}

pub some_is : (a b : ℕ) → Some a ≡ Some b → a ≡ b
some_is a b e = cc

pub none_some : (m : ℕ) → None ≡ Some m → ⊥
none_some m e = cc

pub of_some : (o : Option ℕ) → is_some o ≡ true → (p : ℕ) × (o ≡ Some p)
of_some None e = absurd (false≢true e)
of_some (Some p) e = (p, refl)

pub is_none_at : {X : Type 0} (o : Option X) → is_some o ≡ false → o ≡ None
is_none_at None e = refl
is_none_at (Some x) e = absurd (false≢true (sym e))
