use Rattle.std.proofs.Common.{◌≡◌, ◌∙◌, ◌+◌, length, sym, subst, slice_get, Some, arith}
use Rattle.std.proofs.lemmas.Option.{slice_get_within}
use Rattle.std.specs.Prelude.{IfSome}
use Rattle.indexmap.specs.IndexMap.{spare}
use Rattle.exb_learn.specs.Stations.{IsTaken}
use Rattle.exb_learn.proofs.StoreCalls.{removing, stored_removed, taken_out}
use Rattle.exb_learn.proofs.store.EntryStore.remove.Goals as goal

pub invariant_of-self : goal.invariant_of-self
invariant_of-self c =
    let es = c.self.inside.places.entries in
    let new = c.swap_remove_index.new.self in
    let e = c.unwrap.result in
    let there : slice_get es c.args.slot ≡ Some e = sym c.swap_remove_index.ensures.entry ∙ c.unwrap.ensures in
    let within = slice_get_within es c.args.slot e there in
    let short : length new.entries + 1 ≡ length es = rw c.unwrap.ensures at c.swap_remove_index.ensures.len in
    let last = c.len-last.ensures.len in
    stored_removed es new.entries c.args.slot c.self.inside.room (spare c.self.inside.places) (spare new) e c.self.inside.slots.ages c.self.inside.slots.ports c.remove.new.self.ages c.remove.new.self.ports
    c.self.invariant there (rw c.unwrap.ensures at c.swap_remove_index.ensures.entries) c.swap_remove_index.ensures.room.0 c.swap_remove_index.ensures.unique
    (c.remove.ensures es (length es + c.self.inside.room) e
    (removing es c.self.inside.room (spare c.self.inside.places) c.self.inside.slots.ages c.self.inside.slots.ports c.args.slot c.len-last.result c.self.invariant within (omega (arith, short, last))) there)

pub returns-clause-taken : goal.returns-clause-taken
returns-clause-taken c =
    let es = c.self.inside.places.entries in
    let new = c.swap_remove_index.new.self in
    let e = c.unwrap.result in
    let there : slice_get es c.args.slot ≡ Some e = sym c.swap_remove_index.ensures.entry ∙ c.unwrap.ensures in
    let short : length new.entries + 1 ≡ length es = rw c.unwrap.ensures at c.swap_remove_index.ensures.len in
    let updates = rw c.unwrap.ensures at c.swap_remove_index.ensures.updates in
    rw (← c.self.view_is)
    (subst (λ o. IfSome o (λ e. IsTaken es new.entries e)) (sym there) (taken_out es new.entries c.args.slot e c.self.invariant.once there updates.0 (omega (arith, short))))
