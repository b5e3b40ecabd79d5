-- Fresh sets can be given groups where the groups suffice.
use Rattle.std.proofs.Common.{◌≡◌, ◌≢◌, ℕ, zero, suc, ◌+◌, ◌-◌, ◌<◌, ◌≤◌, cond, Bool, true, false, not, List, [], ◌∷◌, Option, Some, None, length, filter, refl, sym, ◌∙◌, ap, arith, inl, inr}
use Rattle.std.specs.Prelude.{bytes_eq, nat_lt, is_some, find}
use Rattle.std.specs.List.{range_with_len}
use Rattle.std.proofs.lemmas.Bool.{cases_Bool, cases_lt, and_parts, ltb-false, ne_eqb, false≢true}
use Rattle.exb_model.specs.declared.event.Cause.{Cause}
use Rattle.exb_model.specs.declared.event.Cause.TheVariants as cause
use Rattle.exb_model.specs.Ports.{below}
use Rattle.exb_model.specs.Tree.{Shape, IsTree, is_cascade}
use Rattle.exb_model.specs.Setup.{Limits}
use Rattle.exb_model.specs.Configuration.{Bridge}
use Rattle.exb_model.specs.Refusals.{sets_at}
use Rattle.exb_control_spec.specs.Plans.Sets.{PortsAt, is_same_set, sets_of}
use Rattle.exb_control_spec.specs.Plans.HeldNumbers.{Held, HoldsNeeded, group_in, group_used}
use Rattle.exb_control_spec.specs.Plans.Differences.{has_set, fresh_sets}
use Rattle.exb_control_spec.specs.Plans.FreshSets.{AreFresh, has_group, how_many, is_at, needed_at, is_short, short_by, short_of}
use Rattle.exb_control_spec.proofs.Plans.Ranges.{IsFound, found, none_passes}
use Rattle.exb_control_spec.proofs.Plans.UsedNumbers.{few_used}
use Rattle.exb_control_spec.proofs.Plans.DistinctLists.{filter_sets}
use Rattle.exb_control_spec.proofs.Plans.EachElement.{Each, each_map, each_filter, filter_each, few-filter, how_many-none}
use Rattle.exb_control_spec.proofs.Plans.SetFacts.{IsBelow, sets_below, sets_apart, bytes_is, has_at, count_at}
use Rattle.exb_control_spec.proofs.Plans.GroupClaims.{set_is, set_itself, is_none, AreApart, AreLow, AreAbsent, HasRoom, are_fresh}
use Rattle.exb_control_spec.proofs.Plans.OptionalNumbers.{is_none_at, some_is}
use Rattle.exb_control_spec.proofs.Plans.Bools.{is_not}

length_range : (a n : ℕ) → length (range_with_len a n) ≡ n
length_range a zero = refl
length_range a (suc n) = ap suc (length_range (a + 1) n)

module _ (t : Shape) (valid : IsTree t) (old new : Bridge) (h : Held) (needed : HoldsNeeded t old h) where
  -- a set has a group where the old configuration has it
  has_is : (s : PortsAt) → IsBelow t s → has_group h s ≡ has_set (sets_of t old) s
  has_is s is = needed.groups (s.bridge_port - 1) s.ports is.low is.cascade ∙ sym (has_at t old s is.from1 is.low)

  -- so the new sets without a group are the fresh ones
  pub fresh_are : filter (λ s. not (has_group h s)) (sets_of t new) ≡ fresh_sets t old new
  unfolding fresh_sets
  fresh_are = filter_each (IsBelow t) (λ s. not (has_group h s)) (λ s. not (has_set (sets_of t old) s)) (sets_of t new) (sets_below t valid new) (λ s is. ap not (has_is s is))

  -- no more groups are used than the old configuration has sets
  few : (k n : ℕ) → k < 64 → is_cascade t k ≡ true → how_many (group_used h k) (range_with_len 4096 n) ≤ length (sets_at t k old)
  few k n low c =
      few_used bytes_eq bytes_is (h.set k) (group_used h k) one 4096 n (sets_at t k old) (λ g a u.
      sym (needed.groups k (h.set k g) low c) ∙ ap is_some (needed.one_group k g low c u))
    where
      one : (g m : ℕ) → group_used h k g ≡ true → group_used h k m ≡ true → h.set k g ≡ h.set k m → g ≡ m
      one g m u w e = some_is g m (sym (needed.one_group k g low c u) ∙ (ap (group_in h k) e ∙ needed.one_group k m low c w))

  pub fresh_below : Each (λ s. IsBelow t s × (not (has_set (sets_of t old) s) ≡ true)) (fresh_sets t old new)
  unfolding fresh_sets
  fresh_below = each_filter (IsBelow t) (λ s. not (has_set (sets_of t old) s)) (sets_of t new) (sets_below t valid new)

  fresh_apart : AreApart (fresh_sets t old new)
  unfolding fresh_sets
  fresh_apart = filter_sets is_none is_same_set set_is set_itself (λ s. not (has_set (sets_of t old) s)) (sets_of t new) (sets_apart t new)

  low_all : (xs : List PortsAt) → Each (λ s. IsBelow t s × (not (has_set (sets_of t old) s) ≡ true)) xs → AreLow xs
  low_all [] a = tt
  low_all (x ∷ xs) a = (a.0.0.from1, low_all xs a.1)

  pub fresh_low : AreLow (fresh_sets t old new)
  fresh_low = low_all (fresh_sets t old new) fresh_below

  absent_all : (xs : List PortsAt) → Each (λ s. IsBelow t s × (not (has_set (sets_of t old) s) ≡ true)) xs → AreAbsent h xs
  absent_all [] a = tt
  absent_all (x ∷ xs) a =
      (is_none_at (group_in h (x.bridge_port - 1) x.ports) (has_is x a.0.0 ∙ is_not (has_set (sets_of t old) x) a.0.1), absent_all xs a.1)

  at_no_port : (k : ℕ) → ((s : PortsAt) → IsBelow t s → s.bridge_port ≢ k + 1) → how_many (is_at (k + 1)) (fresh_sets t old new) ≡ 0
  at_no_port k none = how_many-none (is_at (k + 1)) (fresh_sets t old new)
      (each_map (λ s. IsBelow t s × (not (has_set (sets_of t old) s) ≡ true)) (λ s. is_at (k + 1) s ≡ false) (fresh_sets t old new) (λ s a. ne_eqb s.bridge_port (k + 1) (none s a.0)) fresh_below)

  at_most : (k n : ℕ) → how_many (group_used h k) (range_with_len 4096 n) ≤ n
  at_most k n = let e = few-filter (group_used h k) (range_with_len 4096 n) in let l = length_range 4096 n in omega (arith, e, l)

  module _ (l : Limits) (fits : short_by t l (sets_of t old) (fresh_sets t old new) ≡ None) where
    none_found : (o : Option ℕ) → ((k : ℕ) → o ≡ Some k → is_short t l (sets_of t old) (fresh_sets t old new) k ≡ true) →
        short_of l (sets_of t old) (fresh_sets t old new) o ≡ None → o ≡ None
    none_found None is e = refl
    none_found (Some k) is e =
        let both = and_parts (is_cascade t k) (nat_lt l.groups (needed_at (sets_of t old) (fresh_sets t old new) (k + 1))) (is k refl) in
        absurd (never (nat_lt l.groups (needed_at (sets_of t old) (fresh_sets t old new) (k + 1))) (cause.Groups (needed_at (sets_of t old) (fresh_sets t old new) (k + 1)) l.groups) both.1 e)
      where
        never : (b : Bool) (x : Cause) → b ≡ true → cond b (Some x) None ≡ None → ⊥
        never true x f e = cc
        never false x f e = false≢true f

    none_short : (k : ℕ) → k < 64 → is_short t l (sets_of t old) (fresh_sets t old new) k ≡ false
    unfolding short_by below
    none_short k low =
        let test = is_short t l (sets_of t old) (fresh_sets t old new) in
        let none : find test (range_with_len 0 64) ≡ None = none_found (find test (range_with_len 0 64)) (λ m e. (let f : IsFound test 0 64 m = found test 0 64 m e in f.passes)) fits in
        none_passes test 0 64 none k (omega arith) (omega (arith, low))

    room : HasRoom l.groups h (fresh_sets t old new)
    room k =
        elim (cases_lt k 64) [
          | inr high ↦
              let z = at_no_port k (λ s is e. (let m = is.low in let n = is.from1 in absurd (omega (arith, m, n, e, high)))) in
              let m = at_most k l.groups in
              omega (arith, z, m)
          | inl low ↦ elim (cases_Bool (is_cascade t k)) [
            | inr off ↦
                let z = at_no_port k (λ s is e. false≢true (sym off ∙ ap (is_cascade t) (let n = is.from1 in omega (arith, e, n)) ∙ is.cascade)) in
                let m = at_most k l.groups in
                omega (arith, z, m)
            | inl c ↦
                let s : nat_lt l.groups (needed_at (sets_of t old) (fresh_sets t old new) (k + 1)) ≡ false = rw c at (none_short k low) in
                let m : how_many (is_at (k + 1)) (sets_of t old) + how_many (is_at (k + 1)) (fresh_sets t old new) ≤ l.groups = ltb-false l.groups _ s in
                let f = few k l.groups low c in
                let n = count_at t old k low in
                omega (arith, m, f, n)
          ]
        ]

    pub fresh_can : AreFresh l.groups h (fresh_sets t old new)
    fresh_can = are_fresh l.groups h (fresh_sets t old new) fresh_apart (low_all (fresh_sets t old new) fresh_below) (absent_all (fresh_sets t old new) fresh_below) room
