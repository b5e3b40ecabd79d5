use Rattle.std.proofs.Common.{◌≡◌, ◌+◌, ◌-◌, ◌<◌, ◌≤◌, ◌∙◌, ℕ, List, [], ◌∷◌, ◌++◌, true, length, get_or, map, take, not, sym, ap, arith}
use Rattle.std.proofs.lemmas.Bool.{false≢true}
use Rattle.std.proofs.lemmas.List.{append_assoc, map-append, take_more}
use Rattle.exb_model.specs.declared.port_set.PortSet.{PortSet}
use Rattle.exb_model.specs.Ports.{ports_of}
use Rattle.exb_model.specs.Refusals.{is_empty_set}
use Rattle.exb_numbers.specs.Groups.{Groups, set_of}
use Rattle.exb_numbers.specs.Spaces.{Spaces, groups_at}
use Rattle.exb_control_spec.specs.declared.plan.group_at.GroupAt.{GroupAt}
use Rattle.exb_control_spec.specs.Plans.Differences.{group_at}
use Rattle.exb_control_spec.specs.Plans.HeldNumbers.{Group, group_used}
use Rattle.exb_control_spec.specs.Plans.FreshSets.{seen_group}
use Rattle.exb_plan.specs.SpaceContents.{held_by}
use Rattle.exb_plan.proofs.RisingNumbers.{among_at}
use Rattle.exb_plan.proofs.lost_uses.put_groups.Goals as goal
use Rattle.exb_plan.proofs.lost_uses.put_groups.Goals.{in-Some+in_ok-push, in_default}

module _ (v : Spaces) (bridge_port number : ℕ) (groups : Groups) (is : groups ≡ groups_at v (bridge_port - 1)) where
  -- a group with its set is that of its number
  seen_at : (set : PortSet) → 1 ≤ bridge_port → ports_of set ≡ set_of groups number →
      seen_group (record { bridge_port = bridge_port; number = number; set = set }) ≡ group_at (held_by v) (bridge_port - 1) number
  seen_at set low ports =
      let place : bridge_port ≡ bridge_port - 1 + 1 = omega (arith, low) in
      ap (λ (n : ℕ). let x : Group = record { bridge_port = n; number = number; ports = ports_of set } in x) place
      ∙ ap (λ (s : List ℕ). let x : Group = record { bridge_port = bridge_port - 1 + 1; number = number; ports = s } in x) (ports ∙ ap (λ (x : Groups). set_of x number) is)

  -- a group in use has a set
  has_set : set_of groups number ≡ [] → group_used (held_by v) (bridge_port - 1) number ≡ true → ⊥
  has_set empty used' = false≢true (sym (ap (λ (s : List ℕ). not (is_empty_set s)) (ap (λ (x : Groups). set_of x number) (sym is) ∙ empty)) ∙ used')

-- one group more
one_more : (f : ℕ → Group) (numbers : List ℕ) (i : ℕ) (x : GroupAt) (old : List Group) (items more : List GroupAt) → i < length numbers → seen_group x ≡ f (get_or numbers i 0) →
    map seen_group items ≡ old ++ map f (take i numbers) → more ≡ items ++ x ∷ [] → map seen_group more ≡ old ++ map f (take (i + 1) numbers)
one_more f numbers i x old items more within same before put =
    ap (map seen_group) put
    ∙ (map-append seen_group items (x ∷ []) ∙ (ap (λ (l : List Group). l ++ seen_group x ∷ []) before
    ∙ (append_assoc old (map f (take i numbers)) (seen_group x ∷ []) ∙ ap (λ (l : List Group). old ++ l)
    (ap (λ (y : Group). map f (take i numbers) ++ y ∷ []) same
    ∙ sym (ap (map f) (take_more numbers i 0 within) ∙ map-append f (take i numbers) (get_or numbers i 0 ∷ []))))))

pub loop-number-preserved : goal.loop-number-preserved
loop-number-preserved c =
    let v = c.args.spaces.now in
    let bridge_port = c.args.bridge_port in
    let numbers = c.args.numbers.now in
    let i = c.loop-number.number-index in
    let number = get_or numbers i 0 in
    let groups = c.groups-groups.result.now in
    elim c.match-set.branch [
      | in-Some+in_ok-push w ↦
          rw w.gone-is
          (one_more (group_at (held_by v) (bridge_port - 1)) numbers i (record { bridge_port = bridge_port; number = number; set = w.in-Some.set.now })
          (map seen_group c.args.gone.now.items) c.loop-number.gone.items w.push.new.self.items c.loop-number-test.true
          (seen_at v bridge_port number groups c.groups-groups.ensures w.in-Some.set.now c.requires.from1 w.in-Some.ensures.0) c.loop-number.invariant w.in_ok-push.ensures.items)
      | in_default w ↦ absurd (has_set v bridge_port number groups c.groups-groups.ensures w.in_default.ensures (c.requires.used number (among_at numbers i c.loop-number-test.true)))
    ]
