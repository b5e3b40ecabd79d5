-- Sequences: the next differs, and comes from one alone.
use Rattle.std.proofs.Common.{◌≡◌, ℕ, ◌+◌, ◌==◌, ◌<◌, true, false, cond, refl, arith}
use Rattle.std.proofs.lemmas.Bool.{eqb-true, eqb-false}
use Rattle.exb_ecp.specs.StopAndWait.{after}

pub after_fits : (s : ℕ) → s < 65536 → after s < 65536
unfolding after
after_fits s fits =
    elim (s == 65535) as (λ b. (s == 65535) ≡ b → cond b 0 (s + 1) < 65536) [
      | true ↦ λ t. omega arith
      | false ↦ λ t. let n : s ≡ 65535 → ⊥ = eqb-false s 65535 t in omega arith
    ] refl

pub after_differs : (s : ℕ) → after s ≡ s → ⊥
unfolding after
after_differs s e =
    elim (s == 65535) as (λ b. (s == 65535) ≡ b → cond b 0 (s + 1) ≡ s → ⊥) [
      | true ↦ λ t h. let q : s ≡ 65535 = eqb-true s 65535 t in omega arith
      | false ↦ λ t h. omega arith
    ] refl e
