-- The uses stay those of a configuration where the groups that it doesn't need are freed.
use Rattle.std.proofs.Common.{◌≡◌, ℕ, ◌+◌, cond, Bool, true, false, not, List, [], refl, sym, ◌∙◌, inl, inr, arith}
use Rattle.std.proofs.lemmas.Bool.{cases_lt, and_parts, and_from, lt-ltb, false≢true}
use Rattle.exb_model.specs.Tree.{Shape}
use Rattle.exb_model.specs.Configuration.{Bridge}
use Rattle.exb_model.specs.Refusals.{is_empty_set}
use Rattle.exb_control_spec.specs.Plans.Sets.{PortsAt, sets_of}
use Rattle.exb_control_spec.specs.Plans.HeldNumbers.{Held, group_used, free_where}
use Rattle.exb_control_spec.specs.Plans.Differences.{has_set, is_gone}
use Rattle.exb_control_spec.specs.Plans.TouchedParts.{uses_of}
use Rattle.exb_control_spec.proofs.Plans.SetUses.{sets_are_used}
use Rattle.exb_plan.specs.UseCounts.{uses_at, IsCounted}

not_false : (b : Bool) → not b ≡ true → b ≡ true → ⊥
not_false true e f = false≢true e
not_false false e f = false≢true f

pub counted_freed : (t : Shape) (d : Bridge) (h : Held) (uses : List (List ℕ)) (gone : ℕ → ℕ → Bool) → ((k g : ℕ) → gone k g ≡ is_gone (sets_of t d) h k g) →
    IsCounted t d h uses → IsCounted t d (free_where gone h) uses
counted_freed t d h uses gone is counted k g low cascade above = counted k g low cascade above ∙ by_gone (gone k g) refl
  where
    none : gone k g ≡ true → let s : PortsAt = record { bridge_port = k + 1; ports = h.set k g } in uses_of t d s ≡ 0
    none e =
        let s : PortsAt = record { bridge_port = k + 1; ports = h.set k g } in
        let parts = and_parts (group_used h k g) (not (has_set (sets_of t d) s)) (sym (is k g) ∙ e) in
        elim (cases_lt 0 (uses_of t d s)) [
          | inl more ↦ absurd (not_false (has_set (sets_of t d) s) parts.1 (sets_are_used t d s ∙ and_from _ _ parts.0 (lt-ltb 0 (uses_of t d s) more)))
          | inr less ↦ omega (arith, less)
        ]

    zero_all : (e : Bool) (n : ℕ) → n ≡ 0 → cond e 0 n ≡ 0
    zero_all true n h = refl
    zero_all false n h = h

    by_gone : (b : Bool) → gone k g ≡ b → uses_at t d h k g
        ≡ (let set : List ℕ = cond b [] (h.set k g) in let s : PortsAt = record { bridge_port = k + 1; ports = set } in cond (is_empty_set set) 0 (uses_of t d s))
    by_gone true e = zero_all (is_empty_set (h.set k g)) _ (none e)
    by_gone false e = refl
