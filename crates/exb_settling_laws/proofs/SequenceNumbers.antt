-- Sequences: the next differs, and comes from one alone.
use Rattle.std.proofs.Common.{◌≡◌, ◌⊎◌, inl, inr, ℕ, ◌+◌, ◌==◌, ◌≤◌, ◌<◌, true, false, Option, Some, None, refl, ap, sym, ◌∙◌, arith}
use Rattle.std.specs.Prelude.{nat_lt}
use borrow.Author.Tests.{ltb-true, ltb-false}
use Rattle.std.proofs.lemmas.Bool.{eqb-true, eqb-false}
use Rattle.exb_settling_laws.specs.StopAndWait.{is_got}
use Rattle.exb_ecp.specs.StopAndWait.{after}

pub after_ne : (s : ℕ) → after s ≡ s → ⊥
unfolding after
after_ne s e =
    elim (s == 65535) as (λ b. (s == 65535) ≡ b → ⊥) [
      | true ↦ λ t. let q : s ≡ 65535 = eqb-true s 65535 t in let a : 0 ≡ s = rw t at e in omega arith
      | false ↦ λ t. let a : s + 1 ≡ s = rw t at e in omega arith
    ] refl

pub after_same : (s t : ℕ) → after s ≡ after t → s ≡ t
unfolding after
after_same s t e =
    elim (s == 65535) as (λ b. (s == 65535) ≡ b → s ≡ t) [
      | true ↦ λ p. elim (t == 65535) as (λ b. (t == 65535) ≡ b → s ≡ t) [
        | true ↦ λ q. eqb-true s 65535 p ∙ sym (eqb-true t 65535 q)
        | false ↦ λ q. let a : 0 ≡ t + 1 = rw (p, q) at e in absurd (omega arith)
      ] refl
      | false ↦ λ p. elim (t == 65535) as (λ b. (t == 65535) ≡ b → s ≡ t) [
        | true ↦ λ q. let a : s + 1 ≡ 0 = rw (p, q) at e in absurd (omega arith)
        | false ↦ λ q. let a : s + 1 ≡ t + 1 = rw (p, q) at e in omega arith
      ] refl
    ] refl

pub got-true : (o : Option ℕ) (s : ℕ) → is_got o s ≡ true → o ≡ Some s
got-true None s e = absurd (cc)
got-true (Some g) s e = ap (λ n. Some n) (eqb-true g s e)

pub got-false : (o : Option ℕ) (s : ℕ) → is_got o s ≡ false → o ≡ Some s → ⊥
got-false None s e h = absurd (cc)
got-false (Some g) s e h = let q : g ≡ s = cc in eqb-false g s e q

pub got-is : (o : Option ℕ) (s : ℕ) → (o ≡ Some s) ⊎ (o ≡ Some s → ⊥)
got-is o s =
    elim (is_got o s) as (λ b. is_got o s ≡ b → (o ≡ Some s) ⊎ (o ≡ Some s → ⊥)) [
      | true ↦ λ e. inl (got-true o s e)
      | false ↦ λ e. inr (got-false o s e)
    ] refl

pub cases_le : (a b : ℕ) → (a ≤ b) ⊎ (b < a)
cases_le a b =
    elim (nat_lt b a) as (λ v. nat_lt b a ≡ v → (a ≤ b) ⊎ (b < a)) [
      | true ↦ λ e. inr (ltb-true b a e)
      | false ↦ λ e. inl (ltb-false b a e)
    ] refl
