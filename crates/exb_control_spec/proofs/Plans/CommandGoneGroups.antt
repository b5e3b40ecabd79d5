-- The groups that go with a command.
use Rattle.std.proofs.Common.{◌≡◌, ℕ, ◌+◌, ◌-◌, ◌<◌, ◌==◌, ◌&&◌, Bool, true, false, not, refl, sym, ◌∙◌, ap, arith, inl, inr, eq-eqb}
use Rattle.std.specs.Prelude.{nat_lt, is_some, bytes_eq}
use Rattle.std.specs.List.{list_any}
use Rattle.std.proofs.lemmas.Bool.{cases_lt, and_parts, ltb-true, lt-ltb, le-ltb, ne_eqb}
use Rattle.exb_model.specs.Tree.{Shape, is_cascade}
use Rattle.exb_model.specs.Configuration.{Bridge, after}
use Rattle.exb_model.specs.Refusals.{is_empty_set, sets_at}
use Rattle.exb_control_spec.specs.Plans.Sets.{PortsAt, sets_of}
use Rattle.exb_control_spec.specs.Plans.HeldNumbers.{Held, HoldsNeeded, group_used}
use Rattle.exb_control_spec.specs.Plans.Differences.{has_set}
use Rattle.exb_control_spec.proofs.Plans.SetFacts.{has_at}
use Rattle.exb_control_spec.specs.Plans.TouchedParts.{uses_in, uses_of, parts_before, parts_after}
use Rattle.exb_control_spec.specs.Plans.TouchedPartLaws.{GoneAreTouched}
use Rattle.exb_control_spec.proofs.Plans.SetUses.{uses_change, sets_are_used}

-- one that was used goes where it is no more, and so it was touched
goes_where : (used : Bool) (old new before came : ℕ) → (used ≡ true → 0 < old) → new + before ≡ old + came →
    (used && not (used && nat_lt 0 new)) ≡ (used && (nat_lt 0 before && new == 0))
goes_where false old new before came had change = refl
goes_where true old new before came had change =
    elim (cases_lt 0 new) [
      | inl some ↦ rw (lt-ltb 0 new some, ne_eqb new 0 (λ e. omega arith)) (sym (neither (nat_lt 0 before)))
      | inr none ↦
          let was : 0 < old = had refl in
          rw (le-ltb 0 new none, lt-ltb 0 before (omega (arith, was, change, none)), eq-eqb new 0 (omega (arith, none))) refl
    ]
  where
    neither : (c : Bool) → (c && false) ≡ false
    neither true = refl
    neither false = refl

module _ (t : Shape) (b : Bridge) (h : Held) (k g : ℕ) (needed : HoldsNeeded t b h) (low : k < 64) (cascade : is_cascade t k ≡ true) where
  its_set : PortsAt
  its_set = record { bridge_port = k + 1; ports = h.set k g }

  -- a group in use is of a part of the configuration
  used_part : group_used h k g ≡ true → 0 < uses_of t b its_set
  unfolding its_set
  used_part used =
      let place : k ≡ k + 1 - 1 = omega arith in
      let there : list_any (bytes_eq (h.set k g)) (sets_at t k b) ≡ true = sym (needed.groups k (h.set k g) low cascade) ∙ ap is_some (needed.one_group k g low cascade used) in
      let has : has_set (sets_of t b) its_set ≡ true =
      has_at t b its_set (omega arith) (omega (arith, low)) ∙ (ap (λ (n : ℕ). list_any (bytes_eq (h.set k g)) (sets_at t n b)) (sym place) ∙ there) in
      ltb-true 0 (uses_of t b its_set) (and_parts (not (is_empty_set (h.set k g))) (nat_lt 0 (uses_of t b its_set)) (sym (sets_are_used t b its_set) ∙ has)).1

pub gone_are_touched : GoneAreTouched
unfolding its_set
gone_are_touched t c b h k g needed low cascade =
    let s : PortsAt = record { bridge_port = k + 1; ports = h.set k g } in
    ap (λ x. group_used h k g && not x) (sets_are_used t (after c b) s)
    ∙ goes_where (group_used h k g) (uses_of t b s) (uses_of t (after c b) s) (uses_in (parts_before t c b) s) (uses_in (parts_after t c b) s)
    (used_part t b h k g needed low cascade) (uses_change t c b s)
