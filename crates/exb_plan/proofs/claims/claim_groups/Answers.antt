use Rattle.std.proofs.Common.{◌≡◌, ◌∙◌, ◌+◌, ◌-◌, ◌++◌, ◌∷◌, [], ℕ, List, map, drop, length, sym, ap, subst, arith, length-append}
use Rattle.std.proofs.lemmas.List.{drop_all, map-append}
use Rattle.exb_model.specs.Ports.{ports_of}
use Rattle.exb_control_spec.specs.Plans.Sets.{PortsAt, seen}
use Rattle.exb_control_spec.specs.declared.plan.group_at.GroupAt.{GroupAt}
use Rattle.exb_control_spec.specs.Plans.HeldNumbers.{Group, group_for, free_group, give}
use Rattle.exb_plan.specs.SpaceContents.{held_by}
use Rattle.exb_control_spec.specs.Plans.FreshSets.{seen_group, AreFresh, IsFresh}
use Rattle.exb_plan.specs.PlanValues.{ArePlaced, IsPlaced}
use Rattle.exb_plan.proofs.Lists.{image_rest}
use Rattle.exb_plan.proofs.ClaimLoop.{IsClaiming, alike_itself, alike_more, claiming_begins, claiming_step, claiming_ends, limit_here}
use Rattle.exb_plan.proofs.claims.claim_groups.Goals as goal

pub loop-set-init : goal.loop-set-init
loop-set-init c =
    record {
      alike = alike_itself c.args.spaces.now;
      count = ap length c.requires.none;
      room = c.requires.room;
      claims = λ groups limited. claiming_begins groups c.args.spaces.now (map seen c.args.sets.now) (map seen_group c.args.given.now.items) c.requires.fresh (ap (map seen_group) c.requires.none) limited;
    }

pub claim_group-number-requires-clause-placed : goal.claim_group-number-requires-clause-placed
claim_group-number-requires-clause-placed c =
    let s = c.set-item.result in
    let sets = c.args.sets.now in
    let i = c.loop-set.set-index in
    let v = c.loop-set.spaces in
    let is = c.loop-set.invariant.claims c.requires.fresh.groups c.requires.fresh.limited in
    (subst (λ (l : List PortsAt). ArePlaced v l) (image_rest seen sets i s c.loop-set-test.true c.set-item.is) is.placed).0

pub claim_group-number-requires-clause-fresh : goal.claim_group-number-requires-clause-fresh
claim_group-number-requires-clause-fresh c =
    let s = c.set-item.result in
    let sets = c.args.sets.now in
    let i = c.loop-set.set-index in
    let v = c.loop-set.spaces in
    let groups = c.requires.fresh.groups in
    let is = c.loop-set.invariant.claims groups c.requires.fresh.limited in
    let rest = image_rest seen sets i s c.loop-set-test.true c.set-item.is in
    let placed : IsPlaced v (seen s) = (subst (λ (l : List PortsAt). ArePlaced v l) rest is.placed).0 in
    let limit = limit_here groups c.args.spaces.now v (seen s) c.requires.fresh.limited c.loop-set.invariant.alike placed in
    let fresh : IsFresh groups (held_by v) (seen s) = (subst (λ (l : List PortsAt). AreFresh groups (held_by v) l) rest is.fresh).0 in
    subst (λ (n : ℕ). IsFresh n (held_by v) (seen s)) (sym limit) fresh

pub loop-set-preserved : goal.loop-set-preserved
loop-set-preserved c =
    let s = c.set-item.result in
    let sets = c.args.sets.now in
    let i = c.loop-set.set-index in
    let v = c.loop-set.spaces in
    let w = c.claim_group-number.new.spaces in
    let g : GroupAt = record { bridge_port = s.bridge_port; number = c.claim_group-number.result; set = s.set } in
    let items : c.push.new.self.items ≡ c.loop-set.given.items ++ g ∷ [] = rw c.unwrap.ensures at c.push.ensures.items in
    record {
      alike = alike_more c.args.spaces.now v w c.loop-set.invariant.alike c.claim_group-number.ensures.alike;
      count = ap length items ∙ (length-append c.loop-set.given.items (g ∷ []) ∙ ap (λ (n : ℕ). n + 1) c.loop-set.invariant.count);
      room = (let a = c.loop-set.invariant.room in let b = c.push.ensures.capacity in omega (arith, a, b));
      claims = λ groups limited.
          let rest = image_rest seen sets i s c.loop-set-test.true c.set-item.is in
          let is : IsClaiming groups (held_by c.args.spaces.now) (map seen sets) v (seen s ∷ map seen (drop (i + 1) sets)) (map seen_group c.loop-set.given.items) =
          subst (λ (l : List PortsAt). IsClaiming groups (held_by c.args.spaces.now) (map seen sets) v l (map seen_group c.loop-set.given.items)) rest (c.loop-set.invariant.claims groups limited) in
          let limit = limit_here groups c.args.spaces.now v (seen s) limited c.loop-set.invariant.alike is.placed.0 in
          let x : seen_group g ≡ group_for groups (held_by v) (seen s) =
          ap (λ (n : ℕ). let y : Group = record { bridge_port = s.bridge_port; number = n; ports = ports_of s.set } in y)
          (c.claim_group-number.ensures.number ∙ ap (λ (n : ℕ). free_group n (held_by v) (s.bridge_port - 1)) limit) in
          let held = c.claim_group-number.ensures.held ∙ ap (λ (n : ℕ). give (group_for n (held_by v) (seen s)) (held_by v)) limit in
          let step = claiming_step groups (held_by c.args.spaces.now) (map seen sets) v w (seen s) (map seen (drop (i + 1) sets)) (map seen_group c.loop-set.given.items) (seen_group g) is c.claim_group-number.ensures.alike x held in
          let all : map seen_group c.push.new.self.items ≡ map seen_group c.loop-set.given.items ++ seen_group g ∷ [] = ap (map seen_group) items ∙ map-append seen_group c.loop-set.given.items (g ∷ []) in
          subst (λ (l : List Group). IsClaiming groups (held_by c.args.spaces.now) (map seen sets) w (map seen (drop (i + 1) sets)) l) (sym all) step;
    }

pub returns-clause-claimed : goal.returns-clause-claimed
returns-clause-claimed c groups limited =
    let sets = c.args.sets.now in
    let none : map seen (drop c.loop-set.set-index sets) ≡ [] = ap (map seen) (drop_all c.loop-set.set-index sets (omega (arith, c.loop-set-test.false))) in
    claiming_ends groups (held_by c.args.spaces.now) (map seen sets) c.loop-set.spaces (map seen_group c.loop-set.given.items)
    (subst (λ (l : List PortsAt). IsClaiming groups (held_by c.args.spaces.now) (map seen sets) c.loop-set.spaces l (map seen_group c.loop-set.given.items)) none (c.loop-set.invariant.claims groups limited))
