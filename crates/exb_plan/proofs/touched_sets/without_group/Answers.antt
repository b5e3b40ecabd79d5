use Rattle.std.proofs.Common.{◌≡◌, ◌+◌, ◌<◌, ◌∙◌, ℕ, List, [], ◌∷◌, ◌++◌, Bool, true, false, cond, length, get_or, map, filter, take, not, sym, ap, rules}
use Rattle.std.proofs.lemmas.List.{append-nil, map-append, take_all}
use Rattle.std.proofs.lemmas.List.Elements.{filter-append}
use Rattle.exb_control_spec.specs.declared.plan.set_at.SetAt.{SetAt}
use Rattle.exb_control_spec.specs.Plans.FreshSets.{has_group}
use Rattle.exb_control_spec.specs.Plans.Sets.{PortsAt, seen}
use Rattle.exb_plan.specs.SpaceContents.{held_by}
use Rattle.exb_plan.proofs.Lists.{image_next}
use Rattle.exb_plan.proofs.touched_sets.without_group.Goals as goal
use Rattle.exb_plan.proofs.touched_sets.without_group.Goals.{then-not-has_group+in_ok-push, else-not-has_group}

module _ {X Y : Type 0} (f : X → Y) (test : Y → Bool) (xs : List X) (i : ℕ) (x : X) (within : i < length xs) (is : x ≡ get_or xs i x) where
  one_more : filter test (map f (take (i + 1) xs)) ≡ filter test (map f (take i xs)) ++ cond (test (f x)) (f x ∷ []) []
  one_more = ap (filter test) (image_next f xs i x within is) ∙ filter-append test (map f (take i xs)) (f x ∷ [])

  kept : (ys more : List X) → test (f x) ≡ true → map f ys ≡ filter test (map f (take i xs)) → more ≡ ys ++ x ∷ [] → map f more ≡ filter test (map f (take (i + 1) xs))
  kept ys more passes before items =
      ap (map f) items
      ∙ (map-append f ys (x ∷ []) ∙ (ap (λ (l : List Y). l ++ f x ∷ []) before
      ∙ sym (one_more ∙ ap (λ (b : Bool). filter test (map f (take i xs)) ++ cond b (f x ∷ []) []) passes)))

  left : (ys : List X) → test (f x) ≡ false → map f ys ≡ filter test (map f (take i xs)) → map f ys ≡ filter test (map f (take (i + 1) xs))
  left ys fails before =
      before ∙ sym (one_more ∙ (ap (λ (b : Bool). filter test (map f (take i xs)) ++ cond b (f x ∷ []) []) fails ∙ append-nil (filter test (map f (take i xs)))))

pub loop-part-preserved : goal.loop-part-preserved
loop-part-preserved c =
    let h = held_by c.args.spaces.now in
    let fresh : PortsAt → Bool = λ s. not (has_group h s) in
    let parts = c.args.parts.now in
    let i = c.loop-part.part-index in
    let part = c.part-item.result in
    elim c.if-not-has_group.branch [
      | then-not-has_group+in_ok-push w ↦
          let passes : not c.has_group.result ≡ true = search rules in
          rw w.fresh-is
          (kept seen fresh parts i part c.loop-part-test.true c.part-item.is c.loop-part.fresh.items w.push.new.self.items
          (ap not (sym c.has_group.ensures) ∙ passes) c.loop-part.invariant w.in_ok-push.ensures.items)
      | else-not-has_group w ↦
          let fails : not c.has_group.result ≡ false = search rules in
          rw w.fresh-is
          (left seen fresh parts i part c.loop-part-test.true c.part-item.is c.loop-part.fresh.items (ap not (sym c.has_group.ensures) ∙ fails) c.loop-part.invariant)
    ]

pub returns : goal.returns
returns c =
    let fresh : PortsAt → Bool = λ s. not (has_group (held_by c.args.spaces.now) s) in
    c.loop-part.invariant ∙ ap (λ (l : List SetAt). filter fresh (map seen l)) (take_all c.loop-part.part-index c.args.parts.now c.loop-part-test.false)
