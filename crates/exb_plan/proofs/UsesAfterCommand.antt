-- The uses of groups follow a command by the parts that it touches.
use Rattle.std.proofs.Common.{◌≡◌, ℕ, ◌+◌, ◌-◌, ◌<◌, ◌≤◌, ◌==◌, ◌&&◌, cond, Bool, true, false, not, List, [], length, filter, refl, sym, ◌∙◌, ap, arith, inl, inr}
use Rattle.std.specs.Prelude.{nat_lt, is_some, bytes_eq, slice_index_or}
use Rattle.std.specs.List.{list_any}
use Rattle.std.proofs.lemmas.Bool.{cases_lt, and_parts, ltb-true}
use Rattle.std.proofs.lemmas.List.{get_or_past}
use Rattle.exb_model.specs.declared.command.Command.{Command}
use Rattle.exb_model.specs.Tree.{Shape, is_cascade}
use Rattle.exb_model.specs.Setup.{Limits}
use Rattle.exb_model.specs.Configuration.{Bridge, after}
use Rattle.exb_model.specs.Refusals.{is_empty_set, sets_at}
use Rattle.exb_numbers.specs.Spaces.{Spaces, has_space}
use Rattle.exb_control_spec.specs.Plans.Sets.{PortsAt, sets_of}
use Rattle.exb_control_spec.specs.Plans.HeldNumbers.{Held, HoldsNeeded, group_used}
use Rattle.exb_plan.specs.SpaceContents.{HasSpaces, held_by}
use Rattle.exb_control_spec.specs.Plans.Differences.{has_set}
use Rattle.exb_control_spec.specs.Plans.FreshSets.{how_many, is_at}
use Rattle.exb_control_spec.proofs.Plans.SetFacts.{has_at}
use Rattle.exb_control_spec.proofs.Plans.GroupOwners.{IsGroupOf, group_found}
use Rattle.exb_control_spec.specs.Plans.TouchedParts.{uses_in, uses_of, parts_before, parts_after}
use Rattle.exb_control_spec.proofs.Plans.SetUses.{uses_change, sets_are_used}
use Rattle.exb_control_spec.proofs.Plans.CommandGoneGroups.{gone_are_touched}
use Rattle.exb_control_spec.proofs.Plans.GroupsInUse.{used_are_sets}
use Rattle.exb_plan.specs.Parts.{has_ports}
use Rattle.exb_plan.specs.UseCounts.{count_at, used_in, used_at, uses_at, IsCounted}
use Rattle.exb_plan.specs.Recount.{parts_at, AreOwn, HavePlaces, AreRaised, AreLowered, AreEnough}
use Rattle.exb_plan.specs.LostUses.{AreLeft}
use Rattle.exb_plan.proofs.UseRows.{counted_alike}
use Rattle.exb_plan.proofs.TouchedSets.{before_within, some_uses}

some_parts_at : (h : Held) (parts : List PortsAt) (k g : ℕ) → parts_at h (filter has_ports parts) k g ≡ parts_at h parts k g
some_parts_at h parts k g = by_test (is_empty_set (h.set k g)) refl
  where
    by_test : (e : Bool) → is_empty_set (h.set k g) ≡ e → let s : PortsAt = record { bridge_port = k + 1; ports = h.set k g } in cond e 0 (uses_in (filter has_ports parts) s) ≡ cond e 0 (uses_in parts s)
    by_test true is = refl
    by_test false is = some_uses (record { bridge_port = k + 1; ports = h.set k g }) is parts

module _ (t : Shape) (b : Bridge) (v : Spaces) (l : Limits) (has : HasSpaces t l v) where
  pub at_space : (k : ℕ) → has_space v k ≡ true → (k < 64) × (is_cascade t k ≡ true)
  at_space k there =
      let parts = and_parts (nat_lt k 64) (is_cascade t k) (sym (has.spaces k) ∙ there) in
      (ltb-true k 64 parts.0, parts.1)

  module _ (needed : HoldsNeeded t b (held_by v)) where
    pub own_sets : AreOwn v
    own_sets k g there used = let s = at_space k there in needed.one_group k g s.0 s.1 used

    pub set_used : (k g : ℕ) → k < 64 → is_cascade t k ≡ true → is_empty_set ((held_by v).set k g) ≡ false →
        nat_lt 0 (let s : PortsAt = record { bridge_port = k + 1; ports = (held_by v).set k g } in uses_of t b s) ≡ true
    set_used k g low cascade some =
        let s : PortsAt = record { bridge_port = k + 1; ports = (held_by v).set k g } in
        let place : k ≡ k + 1 - 1 = omega arith in
        let there : list_any (bytes_eq s.ports) (sets_at t k b) ≡ true = sym (needed.groups k s.ports low cascade) ∙ ap is_some (needed.one_group k g low cascade (ap not some)) in
        let had : has_set (sets_of t b) s ≡ true = has_at t b s (omega arith) (omega (arith, low)) ∙ (ap (λ (n : ℕ). list_any (bytes_eq s.ports) (sets_at t n b)) (sym place) ∙ there) in
        (and_parts (not (is_empty_set s.ports)) (nat_lt 0 (uses_of t b s)) (sym (sets_are_used t b s) ∙ had)).1

    module _ (uses : List (List ℕ)) (counted : IsCounted t b (held_by v) uses) where
      counts_used : (k g : ℕ) → k < 64 → is_cascade t k ≡ true → 4096 ≤ g → nat_lt 0 (count_at uses k g) ≡ group_used (held_by v) k g
      counts_used k g low cascade above = ap (nat_lt 0) (counted k g low cascade above) ∙ by_test (is_empty_set ((held_by v).set k g)) refl
        where
          by_test : (e : Bool) → is_empty_set ((held_by v).set k g) ≡ e → let s : PortsAt = record { bridge_port = k + 1; ports = (held_by v).set k g } in nat_lt 0 (cond e 0 (uses_of t b s)) ≡ not e
          by_test true is = refl
          by_test false is = set_used k g low cascade is

      -- as many groups have a use as there are sets
      pub used_sets : (k : ℕ) → k < 64 → is_cascade t k ≡ true → used_at uses k ≡ how_many (is_at (k + 1)) (sets_of t b)
      unfolding used_in
      used_sets k low cascade =
          counted_alike (λ g. nat_lt 0 (count_at uses k g)) (group_used (held_by v) k) 4096 12288 (λ g above. counts_used k g low cascade above)
          ∙ used_are_sets t b (held_by v) k needed low cascade

      -- each group in use has a place
      pub places : HavePlaces v uses
      places k g there used =
          let s = at_space k there in
          let r : IsGroupOf (held_by v) k ((held_by v).set k g) g = group_found (held_by v) k ((held_by v).set k g) g (own_sets k g there used) in
          let some : 0 < count_at uses k g = ltb-true 0 (count_at uses k g) (counts_used k g s.0 s.1 r.low ∙ used) in
          elim (cases_lt (g - 4096) (length (slice_index_or uses k []))) [
            | inl within ↦ within
            | inr past ↦ (let none : count_at uses k g ≡ 0 = get_or_past (slice_index_or uses k []) (g - 4096) 0 past in absurd (omega (arith, none, some)))
          ]

      module _ (c : Command) where
        pub enough : AreEnough v (filter has_ports (parts_before t c b)) uses
        enough k g there above =
            let s = at_space k there in
            let all = some_parts_at (held_by v) (parts_before t c b) k g in
            let is : count_at uses k g ≡ uses_at t b (held_by v) k g = counted k g s.0 s.1 above in
            let few = by_test (is_empty_set ((held_by v).set k g)) in
            omega (arith, all, is, few)
          where
            by_test : (e : Bool) → let s : PortsAt = record { bridge_port = k + 1; ports = (held_by v).set k g } in cond e 0 (uses_in (parts_before t c b) s) ≤ cond e 0 (uses_of t b s)
            by_test true = omega arith
            by_test false = before_within t c b (record { bridge_port = k + 1; ports = (held_by v).set k g })

        module _ (less more : List (List ℕ)) (lowered : AreLowered v (filter has_ports (parts_before t c b)) uses less) (raised : AreRaised v (filter has_ports (parts_after t c b)) less more) where
          -- the groups that there are have the uses of their sets after the command
          pub moved : (k g : ℕ) → has_space v k ≡ true → 4096 ≤ g → count_at more k g ≡ uses_at t (after c b) (held_by v) k g
          moved k g there above =
              let s = at_space k there in
              let is : count_at uses k g ≡ uses_at t b (held_by v) k g = counted k g s.0 s.1 above in
              let down = lowered k g there above in
              let up = raised k g there above in
              let before = some_parts_at (held_by v) (parts_before t c b) k g in
              let come = some_parts_at (held_by v) (parts_after t c b) k g in
              let change = by_test (is_empty_set ((held_by v).set k g)) in
              omega (arith, is, down, up, before, come, change)
            where
              by_test : (e : Bool) → let s : PortsAt = record { bridge_port = k + 1; ports = (held_by v).set k g } in
                  cond e 0 (uses_of t (after c b) s) + cond e 0 (uses_in (parts_before t c b) s) ≡ cond e 0 (uses_of t b s) + cond e 0 (uses_in (parts_after t c b) s)
              by_test true = refl
              by_test false = uses_change t c b (record { bridge_port = k + 1; ports = (held_by v).set k g })

          -- and those without one go
          pub left_go : (k : ℕ) → k < 64 → is_cascade t k ≡ true → has_space v k ≡ true → AreLeft (held_by v) more (filter has_ports (parts_before t c b)) (sets_of t (after c b)) k
          left_go k low cascade there g above below' =
              gone_are_touched t c b (held_by v) k g needed low cascade
              ∙ (by_test (is_empty_set ((held_by v).set k g)) (count_at more k g) (moved k g there above)
              ∙ ap (λ (n : ℕ). nat_lt 0 n && count_at more k g == 0) (sym (some_parts_at (held_by v) (parts_before t c b) k g)))
            where
              by_test : (e : Bool) (n : ℕ) → let s : PortsAt = record { bridge_port = k + 1; ports = (held_by v).set k g } in n ≡ cond e 0 (uses_of t (after c b) s) →
                  (not e && (nat_lt 0 (uses_in (parts_before t c b) s) && uses_of t (after c b) s == 0)) ≡ (nat_lt 0 (cond e 0 (uses_in (parts_before t c b) s)) && n == 0)
              by_test true n is = refl
              by_test false n is = let s : PortsAt = record { bridge_port = k + 1; ports = (held_by v).set k g } in ap (λ (m : ℕ). nat_lt 0 (uses_in (parts_before t c b) s) && m == 0) (sym is)
