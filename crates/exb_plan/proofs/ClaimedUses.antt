-- The uses of groups once those of the fresh sets are claimed.
use Rattle.std.proofs.Common.{◌≡◌, ℕ, ◌+◌, ◌-◌, ◌<◌, ◌≤◌, cond, Bool, true, false, not, List, [], ◌∷◌, Option, Some, None, filter, refl, sym, ◌∙◌, ap, arith, inl, inr}
use Rattle.std.specs.Prelude.{is_some}
use Rattle.std.proofs.lemmas.Bool.{cases_eq, and_from, lt-ltb, false≢true}
use Rattle.std.proofs.lemmas.Bool.{cases_lt, cases_Bool}
use Rattle.exb_model.specs.declared.command.Command.{Command}
use Rattle.exb_model.specs.Tree.{Shape, is_cascade}
use Rattle.exb_model.specs.Setup.{Limits}
use Rattle.exb_model.specs.Configuration.{Bridge, after}
use Rattle.exb_model.specs.Refusals.{is_empty_set}
use Rattle.exb_model.specs.LowestFree.{lowest_free}
use Rattle.exb_control_spec.specs.Plans.Sets.{PortsAt, is_same_set, sets_of}
use Rattle.exb_control_spec.specs.Plans.HeldNumbers.{Held, Group, HoldsNeeded, group_in, group_used, group_for, or_zero, give, give_all, numbered}
use Rattle.exb_control_spec.specs.Plans.Differences.{has_set}
use Rattle.exb_control_spec.specs.Plans.FreshSets.{AreFresh, has_group}
use Rattle.exb_plan.specs.PlanValues.{with_up_by, claimed_by}
use Rattle.exb_control_spec.specs.Plans.Plans.{with_channel}
use Rattle.exb_control_spec.proofs.Plans.Ranges.{IsFound, found}
use Rattle.exb_control_spec.proofs.Plans.GroupClaims.{AreLow, set_is, free_set, given_else}
use Rattle.exb_control_spec.proofs.Plans.GroupOwners.{Owns, IsGroupOf, group_found, owns_from, owns_one, owns_all}
use Rattle.exb_control_spec.proofs.Plans.Sufficiency.{fresh_with}
use Rattle.exb_control_spec.proofs.Plans.SetFacts.{has_at}
use Rattle.exb_control_spec.specs.Plans.TouchedParts.{uses_in, uses_of, parts_after}
use Rattle.exb_control_spec.proofs.Plans.ListTests.{count-cons}
use Rattle.exb_control_spec.proofs.Plans.SetUses.{uses_change, sets_are_used}
use Rattle.exb_plan.specs.Parts.{has_ports}
use Rattle.exb_plan.specs.UseCounts.{count_at, uses_at}
use Rattle.exb_plan.specs.Recount.{parts_at}
use Rattle.exb_plan.proofs.TouchedSets.{before_within, some_uses}

-- ---- what is given
module _ (groups : ℕ) where
  numbers_low : (used : ℕ → Bool) (o : Option ℕ) → lowest_free used 4096 groups ≡ o → is_some o ≡ true → or_zero o < 4096 + groups
  unfolding lowest_free
  numbers_low used None e some = absurd (false≢true some)
  numbers_low used (Some m) e some = (let r : IsFound (λ c. not (used c)) 4096 groups m = found (λ c. not (used c)) 4096 groups m e in r.high)

  -- a group in use keeps its set
  pub set_kept : (sets : List PortsAt) (h : Held) (k g : ℕ) → AreFresh groups h sets → AreLow sets → is_empty_set (h.set k g) ≡ false → (give_all (numbered groups h sets) h).set k g ≡ h.set k g
  unfolding give_all numbered
  set_kept [] h k g fresh low some = refl
  set_kept (s ∷ sets) h k g fresh low some =
      let x : Group = group_for groups h s in
      let same : (give x h).set k g ≡ h.set k g = given_else x h k g (λ place e.
      let at : k ≡ s.bridge_port - 1 = omega (arith, place) in
      let free : h.set k g ≡ [] = ap (h.set k) e ∙ (ap (λ (j : ℕ). h.set j x.number) at ∙ free_set groups h (s.bridge_port - 1) fresh.0.free) in
      false≢true (sym some ∙ ap is_empty_set free)) in
      set_kept sets (give x h) k g fresh.1 low.1 (ap is_empty_set same ∙ some) ∙ same

  -- the numbers are in the range
  pub in_range : (sets : List PortsAt) (h : Held) (k g : ℕ) → AreFresh groups h sets → AreLow sets → (group_used h k g ≡ true → g < 4096 + groups) →
      group_used (give_all (numbered groups h sets) h) k g ≡ true → g < 4096 + groups
  unfolding give_all numbered
  in_range [] h k g fresh low range used = range used
  in_range (s ∷ sets) h k g fresh low range used =
      let x : Group = group_for groups h s in
      in_range sets (give x h) k g fresh.1 low.1 (λ u. elim (cases_eq g x.number) [
        | inl e ↦ (let high : x.number < 4096 + groups = numbers_low (group_used h (s.bridge_port - 1)) (lowest_free (group_used h (s.bridge_port - 1)) 4096 groups) refl fresh.0.free in omega (arith, e, high))
        | inr n ↦ range (ap (λ s. not (is_empty_set s)) (sym (given_else x h k g (λ place. n))) ∙ u)
      ]) used

-- so it is beside the channel of a port
owns_with : (t : Shape) (c : ℕ) (o : Option ℕ) (h : Held) (k : ℕ) (has : List ℕ → Bool) → Owns h k has → Owns (with_channel t c o h) k has
owns_with t c None h k has owns = owns
owns_with t c (Some p) h k has owns = record { low = owns.low; high = owns.high; one = owns.one; sound = owns.sound; full = owns.full; some = owns.some }

set_with : (t : Shape) (c : ℕ) (o : Option ℕ) (h : Held) (k g : ℕ) → (with_channel t c o h).set k g ≡ h.set k g
set_with t c None h k g = refl
set_with t c (Some p) h k g = refl

module _ (t : Shape) (l : Limits) (h : Held) (up : Option ℕ) (sets : List PortsAt) (fresh : AreFresh l.groups h sets) (low : AreLow sets) where
  pub claimed_kept : (k g : ℕ) → is_empty_set (h.set k g) ≡ false → (claimed_by t l h up sets).set k g ≡ h.set k g
  claimed_kept k g some =
      let same = set_with t _ up h k g in
      set_kept l.groups sets (with_up_by t l h up) k g (fresh_with t l.groups _ up h sets fresh) low (ap is_empty_set same ∙ some) ∙ same

  pub claimed_range : (k g : ℕ) → (group_used h k g ≡ true → g < 4096 + l.groups) → group_used (claimed_by t l h up sets) k g ≡ true → g < 4096 + l.groups
  claimed_range k g range used =
      in_range l.groups sets (with_up_by t l h up) k g (fresh_with t l.groups _ up h sets fresh) low (λ u. range (ap (λ s. not (is_empty_set s)) (sym (set_with t _ up h k g)) ∙ u)) used

  pub claimed_own : l.groups ≤ 12288 → (k g : ℕ) → ((g : ℕ) → group_used h k g ≡ true → group_in h k (h.set k g) ≡ Some g) →
      group_used (claimed_by t l h up sets) k g ≡ true → group_in (claimed_by t l h up sets) k ((claimed_by t l h up sets).set k g) ≡ Some g
  claimed_own few k g one used =
      let before : Owns h k (λ set. is_some (group_in h k set)) = owns_from h k (λ set. is_some (group_in h k set)) (λ set. refl) one in
      owns_one (claimed_by t l h up sets) k _ (owns_all l.groups k few sets (with_up_by t l h up) _ (fresh_with t l.groups _ up h sets fresh) low (owns_with t _ up h k _ before)) g used

-- ---- parts that pass a test
filter_count : (test : PortsAt → Bool) (s : PortsAt) (xs : List PortsAt) → uses_in (filter test xs) s ≡ cond (test s) (uses_in xs s) 0
filter_count test s [] = by_test (test s)
  where
    by_test : (b : Bool) → let z : ℕ = 0 in z ≡ cond b z z
    by_test true = refl
    by_test false = refl
filter_count test s (x ∷ xs) =
    elim (cases_Bool (test x)) [
      | inl e ↦ rw e (one_more (is_same_set s x) (test s) _ _ _ _ (λ same. ap test (set_is s x same) ∙ e) (count-cons (is_same_set s) x (filter test xs)) (count-cons (is_same_set s) x xs) (filter_count test s xs))
      | inr e ↦ rw e (none_more (is_same_set s x) (test s) _ _ _ (λ same. ap test (set_is s x same) ∙ e) (count-cons (is_same_set s) x xs) (filter_count test s xs))
    ]
  where
    one_more : (b p : Bool) (a c d e : ℕ) → (b ≡ true → p ≡ true) → a ≡ cond b 1 0 + c → d ≡ cond b 1 0 + e → c ≡ cond p e 0 → a ≡ cond p d 0
    one_more true true a c d e f x y z = omega (arith, x, y, z)
    one_more true false a c d e f x y z = absurd (false≢true (f refl))
    one_more false true a c d e f x y z = omega (arith, x, y, z)
    one_more false false a c d e f x y z = omega (arith, x, y, z)

    none_more : (b p : Bool) (c d e : ℕ) → (b ≡ true → p ≡ false) → d ≡ cond b 1 0 + e → c ≡ cond p e 0 → c ≡ cond p d 0
    none_more true true c d e f y z = absurd (false≢true (sym (f refl)))
    none_more true false c d e f y z = z
    none_more false true c d e f y z = omega (arith, y, z)
    none_more false false c d e f y z = z

-- the touched parts without a group
abbrev pub unfound_of : Shape → Command → Bridge → Held → List PortsAt
unfound_of t c b h = filter (λ s. not (has_group h s)) (filter has_ports (parts_after t c b))

-- ---- the uses
module _ (t : Shape) (c : Command) (b : Bridge) (h now : Held) (needed : HoldsNeeded t b h) (k : ℕ) (low : k < 64) (cascade : is_cascade t k ≡ true)
    (kept : (g : ℕ) → is_empty_set (h.set k g) ≡ false → now.set k g ≡ h.set k g) (own : (g : ℕ) → group_used now k g ≡ true → group_in now k (now.set k g) ≡ Some g) where
  place : k + 1 - 1 ≡ k
  place = omega arith

  group_is : (set : List ℕ) → has_group h (record { bridge_port = k + 1; ports = set }) ≡ is_some (group_in h k set)
  group_is set = ap (λ (j : ℕ). is_some (group_in h j set)) place

  -- the set of a group in use isn't among those without one
  old_none : (g : ℕ) → is_empty_set (h.set k g) ≡ false → parts_at now (unfound_of t c b h) k g ≡ 0
  old_none g some = by_test (is_empty_set (now.set k g))
    where
      there : let s : PortsAt = record { bridge_port = k + 1; ports = now.set k g } in not (has_group h s) ≡ false
      there = ap not (group_is (now.set k g) ∙ (ap (λ (set : List ℕ). is_some (group_in h k set)) (kept g some) ∙ ap is_some (needed.one_group k g low cascade (ap not some))))

      by_test : (e : Bool) → let s : PortsAt = record { bridge_port = k + 1; ports = now.set k g } in cond e 0 (uses_in (filter (λ s. not (has_group h s)) (filter has_ports (parts_after t c b))) s) ≡ 0
      by_test true = refl
      by_test false = let s : PortsAt = record { bridge_port = k + 1; ports = now.set k g } in filter_count (λ s. not (has_group h s)) s (filter has_ports (parts_after t c b)) ∙ ap (λ (e : Bool). cond e (uses_in (filter has_ports (parts_after t c b)) s) 0) there

  -- that of another group had none
  new_none : (g : ℕ) → is_empty_set (h.set k g) ≡ true → is_empty_set (now.set k g) ≡ false → is_some (group_in h k (now.set k g)) ≡ false
  new_none g free some = by_group (group_in h k (now.set k g)) refl
    where
      by_group : (o : Option ℕ) → group_in h k (now.set k g) ≡ o → is_some o ≡ false
      by_group None e = refl
      by_group (Some m) e =
          let r : IsGroupOf h k (now.set k g) m = group_found h k (now.set k g) m e in
          let full : is_empty_set (h.set k m) ≡ false = ap is_empty_set r.is ∙ some in
          let same : now.set k m ≡ now.set k g = kept m full ∙ r.is in
          let mine : group_in now k (now.set k m) ≡ Some m = own m (ap (λ s. not (is_empty_set s)) same ∙ ap not some) in
          let its : group_in now k (now.set k g) ≡ Some g = own g (ap not some) in
          let one : m ≡ g = some_is m g (sym mine ∙ (ap (group_in now k) same ∙ its)) in
          absurd (false≢true (sym full ∙ (ap (λ (n : ℕ). is_empty_set (h.set k n)) one ∙ free)))
        where
          some_is : (x y : ℕ) → Some x ≡ Some y → x ≡ y
          some_is x y e = cc

  not_used : (s : PortsAt) → s.bridge_port ≡ k + 1 → is_empty_set s.ports ≡ false → has_set (sets_of t b) s ≡ false → uses_of t b s ≡ 0
  not_used s at some none =
      elim (cases_lt 0 (uses_of t b s)) [
        | inl more ↦ absurd (false≢true (sym none ∙ (sets_are_used t b s ∙ and_from _ _ (ap not some) (lt-ltb 0 (uses_of t b s) more))))
        | inr less ↦ omega (arith, less)
      ]

  -- so it stands among the parts as often as it is one afterwards
  new_all : (g : ℕ) → is_empty_set (h.set k g) ≡ true → parts_at now (unfound_of t c b h) k g ≡ uses_at t (after c b) now k g
  new_all g free = by_test (is_empty_set (now.set k g)) refl
    where
      by_test : (e : Bool) → is_empty_set (now.set k g) ≡ e → let s : PortsAt = record { bridge_port = k + 1; ports = now.set k g } in cond e 0 (uses_in (filter (λ s. not (has_group h s)) (filter has_ports (parts_after t c b))) s) ≡ cond e 0 (uses_of t (after c b) s)
      by_test true some = refl
      by_test false some =
          let s : PortsAt = record { bridge_port = k + 1; ports = now.set k g } in
          let none : has_group h s ≡ false = group_is (now.set k g) ∙ new_none g free some in
          let had : has_set (sets_of t b) s ≡ has_group h s = has_at t b s (omega arith) (omega (arith, low)) ∙ (sym (needed.groups (k + 1 - 1) (now.set k g) (omega (arith, low)) (ap (is_cascade t) place ∙ cascade))) in
          let unused : uses_of t b s ≡ 0 = not_used s refl some (had ∙ none) in
          let all : uses_in (filter (λ s. not (has_group h s)) (filter has_ports (parts_after t c b))) s ≡ uses_in (filter has_ports (parts_after t c b)) s =
          filter_count (λ s. not (has_group h s)) s (filter has_ports (parts_after t c b)) ∙ ap (λ (e : Bool). cond (not e) (uses_in (filter has_ports (parts_after t c b)) s) 0) none in
          let parts = some_uses s some (parts_after t c b) in
          let change = uses_change t c b s in
          let before = before_within t c b s in
          omega (arith, unused, all, parts, change, before)

  module _ (more last : List (List ℕ)) (moved : (g : ℕ) → 4096 ≤ g → count_at more k g ≡ uses_at t (after c b) h k g) where
    free_unused : (g : ℕ) → 4096 ≤ g → is_empty_set (h.set k g) ≡ true → count_at more k g ≡ 0
    free_unused g above free = moved g above ∙ ap (λ (e : Bool). cond e 0 (let s : PortsAt = record { bridge_port = k + 1; ports = h.set k g } in uses_of t (after c b) s)) free

    pub new_unused : (g : ℕ) → 4096 ≤ g → 0 < parts_at now (unfound_of t c b h) k g → count_at more k g ≡ 0
    new_unused g above some =
        elim (cases_Bool (is_empty_set (h.set k g))) [
          | inl free ↦ free_unused g above free
          | inr full ↦ (let none = old_none g full in absurd (omega (arith, none, some)))
        ]

    pub counted_last : (g : ℕ) → 4096 ≤ g → count_at last k g ≡ count_at more k g + parts_at now (unfound_of t c b h) k g → count_at last k g ≡ uses_at t (after c b) now k g
    counted_last g above raised =
        elim (cases_Bool (is_empty_set (h.set k g))) [
          | inl free ↦ (
              let none = free_unused g above free in
              let all = new_all g free in
              omega (arith, raised, none, all)
              )
          | inr full ↦ (
              let none = old_none g full in
              let was = moved g above in
              let same : uses_at t (after c b) h k g ≡ uses_at t (after c b) now k g =
              ap (λ (set : List ℕ). cond (is_empty_set set) 0 (let s : PortsAt = record { bridge_port = k + 1; ports = set } in uses_of t (after c b) s)) (sym (kept g full)) in
              omega (arith, raised, none, was, same)
              )
        ]
