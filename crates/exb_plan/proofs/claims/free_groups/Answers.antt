use Rattle.std.proofs.Common.{◌≡◌, ◌∙◌, ◌-◌, ◌++◌, ◌∷◌, [], ℕ, List, take, map, sym, ap, subst}
use Rattle.std.proofs.lemmas.List.{append-nil, map-append}
use Rattle.exb_control_spec.specs.declared.plan.group_at.GroupAt.{GroupAt}
use Rattle.exb_control_spec.specs.Plans.HeldNumbers.{Held, Group}
use Rattle.exb_plan.specs.SpaceContents.{held_by}
use Rattle.exb_control_spec.specs.Plans.FreshSets.{seen_group}
use Rattle.exb_plan.specs.PlanValues.{IsLaterBy}
use Rattle.exb_plan.proofs.ReturnedGroups.{IsLast, last_given, none_given}
use Rattle.exb_plan.proofs.ClaimLoop.{alike_more}
use Rattle.exb_plan.proofs.claims.free_groups.Goals as goal

split : (xs ys : List GroupAt) (x : GroupAt) → ys ≡ xs ++ x ∷ [] → map seen_group ys ≡ map seen_group xs ++ seen_group x ∷ []
split xs ys x e = ap (map seen_group) e ∙ map-append seen_group xs (x ∷ [])

pub free_group-requires-clause-from1 : goal.free_group-requires-clause-from1
free_group-requires-clause-from1 c =
    let now = held_by c.loop-group.spaces in
    let h = c.requires.0 in
    let xs = map seen_group c.pop.new.self.items in
    let later = subst (λ (l : List Group). IsLaterBy c.args.spaces.now h l now) (split c.pop.new.self.items c.loop-group.given.items c.in-Some.group c.in-Some.ensures.items) (c.loop-group.invariant.later h c.requires.1) in
    let last : IsLast c.args.spaces.now h xs (seen_group c.in-Some.group) now = last_given c.args.spaces.now h xs (seen_group c.in-Some.group) now later in
    last.from1

pub free_group-requires-clause-cascade : goal.free_group-requires-clause-cascade
free_group-requires-clause-cascade c =
    let now = held_by c.loop-group.spaces in
    let h = c.requires.0 in
    let xs = map seen_group c.pop.new.self.items in
    let later = subst (λ (l : List Group). IsLaterBy c.args.spaces.now h l now) (split c.pop.new.self.items c.loop-group.given.items c.in-Some.group c.in-Some.ensures.items) (c.loop-group.invariant.later h c.requires.1) in
    let last : IsLast c.args.spaces.now h xs (seen_group c.in-Some.group) now = last_given c.args.spaces.now h xs (seen_group c.in-Some.group) now later in
    c.loop-group.invariant.alike.spaces (c.in-Some.group.bridge_port - 1) ∙ last.cascade

pub free_group-requires-clause-used : goal.free_group-requires-clause-used
free_group-requires-clause-used c =
    let now = held_by c.loop-group.spaces in
    let h = c.requires.0 in
    let xs = map seen_group c.pop.new.self.items in
    let later = subst (λ (l : List Group). IsLaterBy c.args.spaces.now h l now) (split c.pop.new.self.items c.loop-group.given.items c.in-Some.group c.in-Some.ensures.items) (c.loop-group.invariant.later h c.requires.1) in
    let last : IsLast c.args.spaces.now h xs (seen_group c.in-Some.group) now = last_given c.args.spaces.now h xs (seen_group c.in-Some.group) now later in
    last.used

pub loop-group-preserved : goal.loop-group-preserved
loop-group-preserved c =
    record {
      alike = alike_more c.args.spaces.now c.loop-group.spaces c.free_group.new.spaces c.loop-group.invariant.alike c.free_group.ensures.alike;
      later = λ h is.
          let now = held_by c.loop-group.spaces in
          let xs = map seen_group c.pop.new.self.items in
          let later = subst (λ (l : List Group). IsLaterBy c.args.spaces.now h l now) (split c.pop.new.self.items c.loop-group.given.items c.in-Some.group c.in-Some.ensures.items) (c.loop-group.invariant.later h is) in
          let last : IsLast c.args.spaces.now h xs (seen_group c.in-Some.group) now = last_given c.args.spaces.now h xs (seen_group c.in-Some.group) now later in
          subst (λ (k : Held). IsLaterBy c.args.spaces.now h xs k) (sym c.free_group.ensures.held) last.back;
    }

pub returns-clause-held : goal.returns-clause-held
returns-clause-held c h later =
    let empty : c.pop.new.self.items ≡ [] = c.in_default.ensures.rest ∙ ap (λ (n : ℕ). take (n - 1) c.loop-group.given.items) c.in_default.ensures.cases.0 in
    let all : c.loop-group.given.items ≡ [] = c.in_default.ensures.items ∙ (append-nil c.pop.new.self.items ∙ empty) in
    none_given c.args.spaces.now h (held_by c.loop-group.spaces)
    (subst (λ (l : List Group). IsLaterBy c.args.spaces.now h l (held_by c.loop-group.spaces)) (ap (map seen_group) all) (c.loop-group.invariant.later h later))
