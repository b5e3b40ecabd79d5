-- The spaces and the uses once a command's change is claimed.
use Rattle.std.proofs.Common.{◌≡◌, ℕ, ◌+◌, ◌<◌, ◌≤◌, true, false, not, List, [], Option, Some, None, length, filter, map, sym, ◌∙◌, ap, subst, arith}
use Rattle.std.specs.Prelude.{All, slice_index_or}
use Rattle.exb_model.specs.declared.command.Command.{Command}
use Rattle.exb_model.specs.Tree.{Shape, IsTree, is_cascade}
use Rattle.exb_model.specs.Setup.{Limits}
use Rattle.exb_model.specs.Configuration.{Bridge, after}
use Rattle.exb_model.specs.Refusals.{is_empty_set}
use Rattle.exb_numbers.specs.Spaces.{Spaces, has_space, groups_at}
use Rattle.exb_control_spec.specs.declared.plan.set_at.SetAt.{SetAt}
use Rattle.exb_control_spec.specs.Plans.Sets.{PortsAt, seen}
use Rattle.exb_control_spec.specs.Plans.HeldNumbers.{Held, HoldsNeeded, group_in, group_used}
use Rattle.exb_plan.specs.SpaceContents.{HasSpaces, held_by}
use Rattle.exb_control_spec.specs.Plans.Differences.{fresh_sets, refusal_between}
use Rattle.exb_plan.specs.PlanValues.{IsPlaced, IsAlike, claimed_by}
use Rattle.exb_control_spec.specs.Plans.FreshSets.{AreFresh, has_group}
use Rattle.exb_control_spec.proofs.Plans.EachElement.{each_filter, each_map}
use Rattle.exb_control_spec.proofs.Plans.SetFacts.{IsBelow}
use Rattle.exb_control_spec.proofs.Plans.GroupClaims.{AreLow}
use Rattle.exb_control_spec.proofs.Plans.FreshSets.{fresh_can, fresh_low}
use Rattle.exb_control_spec.proofs.Plans.GroupOwners.{IsGroupOf, group_found}
use Rattle.exb_plan.proofs.WholePlans.{spaces_of, alike_has}
use Rattle.exb_control_spec.proofs.Plans.Sufficiency.{none_short}
use Rattle.exb_control_spec.specs.Plans.TouchedParts.{parts_after}
use Rattle.exb_plan.specs.Parts.{has_ports}
use Rattle.exb_plan.specs.UseCounts.{count_at, uses_at, IsCounted}
use Rattle.exb_plan.specs.Recount.{AreOwn, HavePlaces, HaveRowsOf, AreRaised, AreUnused}
use Rattle.exb_plan.proofs.TouchedSets.{after_within, some_below, parts_placed}
use Rattle.exb_plan.proofs.UsesAfterCommand.{at_space}
use Rattle.exb_plan.proofs.ClaimedUses.{unfound_of, claimed_kept, claimed_range, claimed_own, new_unused, counted_last}

module _ (t : Shape) (valid : IsTree t) (c : Command) (b : Bridge) (v w : Spaces) (l : Limits) (has : HasSpaces t l v) (few : l.groups ≤ 12288) (needed : HoldsNeeded t b (held_by v))
    (fits : refusal_between t l b (after c b) ≡ None) (up : Option ℕ) (sets : List PortsAt) (fresh : sets ≡ fresh_sets t b (after c b)) (alike : IsAlike v w)
    (held : held_by w ≡ claimed_by t l (held_by v) up sets) where
  has_now : HasSpaces t l w
  has_now = alike_has t l v w alike has

  fresh_there : AreFresh l.groups (held_by v) sets
  fresh_there = subst (λ (xs : List PortsAt). AreFresh l.groups (held_by v) xs) (sym fresh) (fresh_can t valid b (after c b) (held_by v) needed l (none_short t valid l b (after c b) fits).1)

  low_there : AreLow sets
  low_there = subst (λ (xs : List PortsAt). AreLow xs) (sym fresh) (fresh_low t valid b (after c b) (held_by v) needed)

  pub unfound_placed : (xs : List SetAt) → map seen xs ≡ unfound_of t c b (held_by v) → All (λ s. IsPlaced w (seen s)) xs
  unfound_placed xs is =
      parts_placed t w (spaces_of t l w has_now) xs (unfound_of t c b (held_by v)) is
      (each_map (λ s. IsBelow t s × (not (has_group (held_by v) s) ≡ true)) (IsBelow t) (unfound_of t c b (held_by v)) (λ s p. p.0)
      (each_filter (IsBelow t) (λ s. not (has_group (held_by v) s)) (filter has_ports (parts_after t c b)) (some_below t valid (after c b) (parts_after t c b) (after_within t c b))))

  pub own_now : AreOwn w
  own_now k g there used =
      let s = at_space t b w l has_now k there in
      let own : group_used (claimed_by t l (held_by v) up sets) k g ≡ true → group_in (claimed_by t l (held_by v) up sets) k ((claimed_by t l (held_by v) up sets).set k g) ≡ Some g =
      claimed_own t l (held_by v) up sets fresh_there low_there few k g (λ m u. needed.one_group k m s.0 s.1 u) in
      subst (λ (h : Held). group_used h k g ≡ true → group_in h k (h.set k g) ≡ Some g) (sym held) own used

  kept_now : (k g : ℕ) → is_empty_set ((held_by v).set k g) ≡ false → (held_by w).set k g ≡ (held_by v).set k g
  kept_now k g some = ap (λ (h : Held). h.set k g) held ∙ claimed_kept t l (held_by v) up sets fresh_there low_there k g some

  pub places_now : (uses next : List (List ℕ)) → HavePlaces v uses → ((k : ℕ) → k < 64 → is_cascade t k ≡ true → length (slice_index_or uses k []) ≡ (groups_at v k).limit) → HaveRowsOf uses next → HavePlaces w next
  places_now uses next places rows same k g there used =
      let s = at_space t b w l has_now k there in
      let was : has_space v k ≡ true = sym (alike.spaces k) ∙ there in
      let size : length (slice_index_or uses k []) ≡ l.groups = rows k s.0 s.1 ∙ has.groups k was in
      let wide : length (slice_index_or next k []) ≡ length (slice_index_or uses k []) = same k in
      let r : IsGroupOf (held_by w) k ((held_by w).set k g) g = group_found (held_by w) k ((held_by w).set k g) g (own_now k g there used) in
      let above = r.low in
      let range : group_used (claimed_by t l (held_by v) up sets) k g ≡ true → g < 4096 + l.groups =
      claimed_range t l (held_by v) up sets fresh_there low_there k g (λ u. (let p = places k g was u in omega (arith, p, size))) in
      let high : g < 4096 + l.groups = subst (λ (h : Held). group_used h k g ≡ true → g < 4096 + l.groups) (sym held) range used in
      omega (arith, size, wide, above, high)

  module _ (next : List (List ℕ)) (moved : (k g : ℕ) → has_space v k ≡ true → 4096 ≤ g → count_at next k g ≡ uses_at t (after c b) (held_by v) k g) where
    pub unused_now : AreUnused w (unfound_of t c b (held_by v)) next
    unused_now k g there above some =
        let s = at_space t b w l has_now k there in
        let was : has_space v k ≡ true = sym (alike.spaces k) ∙ there in
        new_unused t c b (held_by v) (held_by w) needed k s.0 s.1 (λ m. kept_now k m) (λ m u. own_now k m there u) next next (λ m low. moved k m was low) g above some

    pub counted_now : (last : List (List ℕ)) → AreRaised w (unfound_of t c b (held_by v)) next last → IsCounted t (after c b) (held_by w) last
    counted_now last raised k g low cascade above =
        let there : has_space w k ≡ true = spaces_of t l w has_now k low cascade in
        let was : has_space v k ≡ true = spaces_of t l v has k low cascade in
        counted_last t c b (held_by v) (held_by w) needed k low cascade (λ m. kept_now k m) (λ m u. own_now k m there u) next last (λ m h. moved k m was h) g above (raised k g there above)
