-- The groups that lose their last use, one part after another.
use Rattle.std.proofs.Common.{◌≡◌, ℕ, zero, suc, ◌+◌, ◌-◌, ◌<◌, ◌==◌, ◌&&◌, ◌||◌, ◌++◌, cond, Bool, true, false, List, [], ◌∷◌, Some, None, refl, sym, ◌∙◌, ap, arith, eq-eqb}
use Rattle.std.specs.Prelude.{nat_lt}
use Rattle.std.proofs.lemmas.Bool.{lt-ltb, and_parts, and_from, eqb-true, false≢true, false_from_ne_true}
use Rattle.exb_numbers.specs.Spaces.{Spaces, has_space}
use Rattle.exb_control_spec.specs.Plans.Sets.{PortsAt}
use Rattle.exb_plan.specs.SpaceContents.{held_by}
use Rattle.exb_control_spec.specs.Plans.HeldNumbers.{Held, group_in}
use Rattle.exb_plan.specs.PlanValues.{IsPlaced}
use Rattle.exb_plan.specs.UseCounts.{count_at}
use Rattle.exb_plan.specs.Recount.{parts_at, AreOwn}
use Rattle.exb_plan.specs.LostUses.{is_left}
use Rattle.exb_plan.proofs.RecountLemmas.{both_ways, one_at, none_at, parts_more}

-- ---- of one part more
neither : (p q r : Bool) → (p && false || q && false) ≡ (r && false)
neither true true true = refl
neither true true false = refl
neither true false true = refl
neither true false false = refl
neither false true true = refl
neither false true false = refl
neither false false true = refl
neither false false false = refl

some_more : (a b : ℕ) (z : Bool) → (nat_lt 0 a && z || nat_lt 0 b && z) ≡ (nat_lt 0 (b + a) && z)
some_more a b false = neither (nat_lt 0 a) (nat_lt 0 b) (nat_lt 0 (b + a))
some_more zero b true = ap (λ (n : ℕ). nat_lt 0 n && true) (let e : b ≡ b + 0 = omega arith in e)
some_more (suc a) b true =
    let one : nat_lt 0 (suc a) ≡ true = lt-ltb 0 (suc a) (omega arith) in
    let all : nat_lt 0 (b + suc a) ≡ true = lt-ltb 0 (b + suc a) (omega arith) in
    ap (λ (t : Bool). t && true || nat_lt 0 b && true) one ∙ sym (ap (λ (t : Bool). t && true) all)

pub left_more : (h : Held) (uses : List (List ℕ)) (xs : List PortsAt) (s : PortsAt) (k g : ℕ) →
    (is_left h uses (s ∷ []) k g || is_left h uses xs k g) ≡ is_left h uses (xs ++ s ∷ []) k g
left_more h uses xs s k g =
    some_more (parts_at h (s ∷ []) k g) (parts_at h xs k g) (count_at uses k g == 0)
    ∙ ap (λ (n : ℕ). nat_lt 0 n && count_at uses k g == 0) (sym (parts_more h xs (s ∷ []) k g))

some_cond : (b : Bool) → nat_lt 0 (cond b 1 0) ≡ true → b ≡ true
some_cond true h = refl
some_cond false h = absurd (false≢true h)

module _ (v : Spaces) (own : AreOwn v) (s : PortsAt) (placed : IsPlaced v s) (uses : List (List ℕ)) (k : ℕ) (there : has_space v k ≡ true) where
  its_number : (m g : ℕ) → group_in (held_by v) (s.bridge_port - 1) s.ports ≡ Some m → is_left (held_by v) uses (s ∷ []) k g ≡ true → (g ≡ m) × (count_at uses k g ≡ 0)
  its_number m g is left =
      let parts = and_parts (nat_lt 0 (parts_at (held_by v) (s ∷ []) k g)) (count_at uses k g == 0) left in
      let test : (k == s.bridge_port - 1 && g == m) ≡ true = some_cond _ (ap (nat_lt 0) (sym (one_at v own s placed m k g is there)) ∙ parts.0) in
      (eqb-true g m (and_parts (k == s.bridge_port - 1) (g == m) test).1, eqb-true (count_at uses k g) 0 parts.1)

  pub left_goes : (m g : ℕ) → k ≡ s.bridge_port - 1 → group_in (held_by v) (s.bridge_port - 1) s.ports ≡ Some m → count_at uses k m ≡ 0 → is_left (held_by v) uses (s ∷ []) k g ≡ (m == g)
  left_goes m g place is zero' = both_ways (is_left (held_by v) uses (s ∷ []) k g) (m == g)
      (λ left. eq-eqb m g (sym (its_number m g is left).0))
      (λ e.
      let same : g ≡ m = sym (eqb-true m g e) in
      let test : (k == s.bridge_port - 1 && g == m) ≡ true = and_from _ _ (eq-eqb k (s.bridge_port - 1) place) (eq-eqb g m same) in
      let one : parts_at (held_by v) (s ∷ []) k g ≡ 1 = one_at v own s placed m k g is there ∙ ap (λ (b : Bool). cond b 1 0) test in
      and_from _ _ (ap (nat_lt 0) one) (eq-eqb (count_at uses k g) 0 (ap (count_at uses k) same ∙ zero')))

  pub left_stays : (m g : ℕ) → group_in (held_by v) (s.bridge_port - 1) s.ports ≡ Some m → 0 < count_at uses k m → is_left (held_by v) uses (s ∷ []) k g ≡ false
  left_stays m g is some = false_from_ne_true (is_left (held_by v) uses (s ∷ []) k g) (λ left.
      let r = its_number m g is left in
      let none : count_at uses k m ≡ 0 = sym (ap (count_at uses k) r.0) ∙ r.1 in
      omega (arith, none, some))

  pub left_absent : (g : ℕ) → group_in (held_by v) (s.bridge_port - 1) s.ports ≡ None → is_left (held_by v) uses (s ∷ []) k g ≡ false
  left_absent g is = ap (λ (n : ℕ). nat_lt 0 n && count_at uses k g == 0) (none_at v own s placed k g is there)
