-- The parts that a command touches are parts of the configuration, before it and after it.
use Rattle.std.proofs.Common.{◌≡◌, ℕ, zero, suc, ◌+◌, ◌-◌, ◌<◌, ◌≤◌, ◌&&◌, cond, Bool, true, false, not, List, [], ◌∷◌, length, get_or, map, filter, refl, sym, ◌∙◌, ap, subst, arith, inl, inr}
use Rattle.std.specs.Prelude.{All, fold, count_by, nat_lt}
use Rattle.std.specs.List.{list_any}
use Rattle.std.proofs.lemmas.Bool.{cases_Bool, or_cases, and_from, ltb-true, lt-ltb, false≢true, false_from_ne_true}
use Rattle.std.proofs.lemmas.List.Elements.{filter_agree}
use Rattle.exb_model.specs.declared.command.Command.{Command}
use Rattle.exb_model.specs.Tree.{Shape, IsTree}
use Rattle.exb_model.specs.Configuration.{Bridge, after}
use Rattle.exb_model.specs.Refusals.{is_empty_set}
use Rattle.exb_numbers.specs.Spaces.{Spaces}
use Rattle.exb_control_spec.specs.declared.plan.set_at.SetAt.{SetAt}
use Rattle.exb_control_spec.specs.Plans.Sets.{PortsAt, is_same_set, with_set_at, sets_of, seen}
use Rattle.exb_control_spec.specs.Plans.HeldNumbers.{Held, HoldsNeeded}
use Rattle.exb_control_spec.specs.Plans.Differences.{has_set, fresh_sets}
use Rattle.exb_plan.specs.PlanValues.{IsPlaced, SpacesOf}
use Rattle.exb_control_spec.specs.Plans.FreshSets.{has_group}
use Rattle.exb_control_spec.proofs.Plans.EachElement.{Each, filter_each}
use Rattle.exb_control_spec.proofs.Plans.SetFacts.{IsBelow, sets_below, has_at}
use Rattle.exb_control_spec.proofs.Plans.GroupClaims.{set_is, set_itself, is_none}
use Rattle.exb_control_spec.specs.Plans.TouchedParts.{uses_in, uses_of, parts_before, parts_after}
use Rattle.exb_control_spec.proofs.Plans.ListTests.{count-cons, any_counts, filter-both}
use Rattle.exb_control_spec.proofs.Plans.DistinctInsertion.{some-fold}
use Rattle.exb_control_spec.proofs.Plans.ListDifferences.{Differ, none, kept, goes, comes}
use Rattle.exb_control_spec.proofs.Plans.Commands.{command_differs}
use Rattle.exb_control_spec.proofs.Plans.ListCovers.{each_there}
use Rattle.exb_control_spec.proofs.Plans.SetUses.{sets_are_used}
use Rattle.exb_control_spec.proofs.Plans.CommandFreshSets.{fresh_are_touched}
use Rattle.exb_plan.specs.Parts.{has_ports}

-- ---- what goes and comes is of the lists
module _ {Y : Type 0} (p : Y → Bool) where
  gone_within : {xs ys gone come : List Y} → Differ xs ys gone come → count_by p gone ≤ count_by p xs
  gone_within none = omega arith
  gone_within (kept {x} {xs} {ys} {gone} {come} d) =
      let rest = gone_within d in
      let a = count-cons p x xs in
      omega (arith, rest, a)
  gone_within (goes {x} {xs} {ys} {gone} {come} d) =
      let rest = gone_within d in
      let a = count-cons p x xs in
      let b = count-cons p x gone in
      omega (arith, rest, a, b)
  gone_within (comes {x} {xs} {ys} {gone} {come} d) = gone_within d

  come_within : {xs ys gone come : List Y} → Differ xs ys gone come → count_by p come ≤ count_by p ys
  come_within none = omega arith
  come_within (kept {x} {xs} {ys} {gone} {come} d) =
      let rest = come_within d in
      let a = count-cons p x ys in
      omega (arith, rest, a)
  come_within (goes {x} {xs} {ys} {gone} {come} d) = come_within d
  come_within (comes {x} {xs} {ys} {gone} {come} d) =
      let rest = come_within d in
      let a = count-cons p x ys in
      let b = count-cons p x come in
      omega (arith, rest, a, b)

pub before_within : (t : Shape) (c : Command) (b : Bridge) (s : PortsAt) → uses_in (parts_before t c b) s ≤ uses_of t b s
before_within t c b s = gone_within (is_same_set s) (command_differs t b c)

pub after_within : (t : Shape) (c : Command) (b : Bridge) (s : PortsAt) → uses_in (parts_after t c b) s ≤ uses_of t (after c b) s
after_within t c b s = come_within (is_same_set s) (command_differs t b c)

-- ---- parts with a port
not_true : (b : Bool) → not b ≡ true → b ≡ false
not_true true e = sym e
not_true false e = refl

apart : (b : Bool) (n m w : ℕ) → b ≡ false → w ≡ cond b 1 0 + m → n ≡ m → n ≡ w
apart true n m w off whole rest = absurd (false≢true (sym off))
apart false n m w off whole rest = omega (arith, whole, rest)

pub some_uses : (s : PortsAt) → is_empty_set s.ports ≡ false → (xs : List PortsAt) → uses_in (filter has_ports xs) s ≡ uses_in xs s
some_uses s some [] = refl
some_uses s some (x ∷ xs) =
    elim (cases_Bool (is_empty_set x.ports)) [
      | inl e ↦
          let other : is_same_set s x ≡ false = false_from_ne_true (is_same_set s x) (λ same. false≢true (sym some ∙ (ap (λ (y : PortsAt). is_empty_set y.ports) (set_is s x same) ∙ e))) in
          rw e (apart (is_same_set s x) (uses_in (filter has_ports xs) s) (uses_in xs s) (uses_in (x ∷ xs) s) other (count-cons (is_same_set s) x xs) (some_uses s some xs))
      | inr e ↦ rw e (count-cons (is_same_set s) x (filter has_ports xs) ∙ (ap (λ (n : ℕ). cond (is_same_set s x) 1 0 + n) (some_uses s some xs) ∙ sym (count-cons (is_same_set s) x xs)))
    ]

any_some : (s : PortsAt) (xs : List PortsAt) → list_any (is_same_set s) (filter has_ports xs) ≡ true → is_empty_set s.ports ≡ false
any_some s [] h = absurd (false≢true h)
any_some s (x ∷ xs) h =
    elim (cases_Bool (is_empty_set x.ports)) [
      | inl e ↦ any_some s xs (rw e at h)
      | inr e ↦ elim (or_cases (is_same_set s x) (list_any (is_same_set s) (filter has_ports xs)) (rw e at h)) [
        | inl same ↦ ap (λ (y : PortsAt). is_empty_set y.ports) (set_is s x same) ∙ e
        | inr rest ↦ any_some s xs rest
      ]
    ]

each_has : (P : PortsAt → Type 0) (xs : List PortsAt) (s : PortsAt) → Each P xs → list_any (is_same_set s) xs ≡ true → P s
each_has P [] s each h = absurd (false≢true h)
each_has P (x ∷ xs) s each h =
    elim (or_cases (is_same_set s x) (list_any (is_same_set s) xs) h) [
      | inl same ↦ subst P (sym (set_is s x same)) each.0
      | inr rest ↦ each_has P xs s each.1 rest
    ]

-- they are below cascade ports of the bridge where they are parts of a configuration
pub some_below : (t : Shape) → IsTree t → (d : Bridge) (parts : List PortsAt) → ((s : PortsAt) → uses_in parts s ≤ uses_of t d s) → Each (IsBelow t) (filter has_ports parts)
some_below t valid d parts within =
    each_there is_none is_same_set set_is set_itself (IsBelow t) (sets_of t d) (filter has_ports parts)
    (λ s h.
    let some : is_empty_set s.ports ≡ false = any_some s parts h in
    let count : 0 < uses_in (filter has_ports parts) s = ltb-true 0 (uses_in (filter has_ports parts) s) (sym (any_counts (is_same_set s) (filter has_ports parts)) ∙ h) in
    let all = some_uses s some parts in
    let most = within s in
    let used : nat_lt 0 (uses_of t d s) ≡ true = lt-ltb 0 (uses_of t d s) (omega (arith, count, all, most)) in
    sets_are_used t d s ∙ and_from _ _ (ap not some) used)
    (λ s h. each_has (IsBelow t) (sets_of t d) s (sets_below t valid d) h)

placed_each : (t : Shape) (v : Spaces) → SpacesOf t v → (xs : List SetAt) → Each (IsBelow t) (map seen xs) → (k : ℕ) (d : SetAt) → k < length xs → IsPlaced v (seen (get_or xs k d))
placed_each t v spaces [] each k d within = absurd (omega arith)
placed_each t v spaces (x ∷ xs) each zero d within = (each.0.from1, spaces (x.bridge_port - 1) each.0.low each.0.cascade)
placed_each t v spaces (x ∷ xs) each (suc k) d within = placed_each t v spaces xs each.1 k d (omega arith)

pub parts_placed : (t : Shape) (v : Spaces) → SpacesOf t v → (xs : List SetAt) (ys : List PortsAt) → map seen xs ≡ ys → Each (IsBelow t) ys → All (λ s. IsPlaced v (seen s)) xs
parts_placed t v spaces xs ys e each = placed_each t v spaces xs (subst (λ (l : List PortsAt). Each (IsBelow t) l) (sym e) each)

-- ---- the sets that come
and_swap : (a b : Bool) → (a && b) ≡ (b && a)
and_swap true true = refl
and_swap true false = refl
and_swap false true = refl
and_swap false false = refl

pub has_group_is : (t : Shape) (b : Bridge) (h : Held) → HoldsNeeded t b h → (s : PortsAt) → IsBelow t s → has_group h s ≡ has_set (sets_of t b) s
has_group_is t b h needed s is = needed.groups (s.bridge_port - 1) s.ports is.low is.cascade ∙ sym (has_at t b s is.from1 is.low)

pub fresh_once : (t : Shape) → IsTree t → (c : Command) (b : Bridge) (h : Held) → HoldsNeeded t b h →
    fold with_set_at [] (filter (λ s. not (has_group h s)) (filter has_ports (parts_after t c b))) ≡ fresh_sets t b (after c b)
fresh_once t valid c b h needed =
    let new : PortsAt → Bool = λ s. not (has_set (sets_of t b) s) in
    let parts = parts_after t c b in
    let some = some_below t valid (after c b) parts (after_within t c b) in
    ap (fold with_set_at []) (filter_each (IsBelow t) (λ s. not (has_group h s)) new (filter has_ports parts) some (λ s is. ap not (has_group_is t b h needed s is))
    ∙ (filter-both new has_ports parts ∙ (filter_agree (λ s. has_ports s && new s) (λ s. new s && has_ports s) (λ s. and_swap (has_ports s) (new s)) parts
    ∙ sym (filter-both has_ports new parts))))
    ∙ (some-fold is_none is_same_set set_is set_itself (filter new parts) []
    ∙ sym (fresh_are_touched t c b))

pub fresh_made : (t : Shape) → IsTree t → (c : Command) (b : Bridge) (h : Held) → HoldsNeeded t b h → (made lone later : List PortsAt) → made ≡ fold with_set_at [] lone →
    lone ≡ filter (λ s. not (has_group h s)) later → later ≡ filter has_ports (parts_after t c b) → made ≡ fresh_sets t b (after c b)
fresh_made t valid c b h needed made lone later is alone parts =
    is ∙ (ap (fold with_set_at []) (alone ∙ ap (filter (λ s. not (has_group h s))) parts) ∙ fresh_once t valid c b h needed)
