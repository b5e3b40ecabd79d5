use Rattle.std.proofs.Common.{◌≡◌, ◌∙◌, ℕ, List, Option, map, filter, not, refl, sym, ap, subst}
use Rattle.std.proofs.lemmas.Result.{err_from_is_err_and}
use Rattle.exb_model.specs.Configuration.{after}
use Rattle.exb_config.specs.Tables.{bridge_of}
use Rattle.exb_control_spec.specs.Plans.Sets.{PortsAt, seen, sets_of}
use Rattle.exb_control_spec.specs.Plans.TouchedParts.{parts_before, parts_after}
use Rattle.exb_plan.specs.SpaceContents.{held_by}
use Rattle.exb_control_spec.specs.Plans.Differences.{gone_groups}
use Rattle.exb_plan.specs.PlanValues.{CanClaim, CanClaimUp}
use Rattle.exb_control_spec.specs.Plans.FreshSets.{has_group, seen_group}
use Rattle.exb_control_spec.proofs.Plans.Channels.{any_extended}
use Rattle.exb_plan.proofs.WholePlans.{spaces_of, up_can, fresh_claim, changes_are, claims_are}
use Rattle.exb_plan.specs.Recount.{AreEnough, AreLowered, AreRaised, AreUnused}
use Rattle.exb_plan.specs.LostUses.{AreLeft}
use Rattle.exb_plan.proofs.TouchedSets.{before_within, after_within, some_below, parts_placed}
use Rattle.exb_plan.proofs.UsesAfterCommand.{places, enough, moved, left_go}
use Rattle.exb_plan.proofs.SpacesAfterCommand.{unfound_placed, own_now, places_now, unused_now, counted_now}
use Rattle.exb_plan.proofs.command_plan.ready.Goals as goal

pub moved-requires-clause-before : goal.moved-requires-clause-before
moved-requires-clause-before c =
    let t = c.args.tree.now in
    let b = bridge_of c.args.config.now in
    let v = c.args.spaces.now in
    parts_placed t v (spaces_of t c.requires.limits.0 v c.requires.limits.1) c.as_slice-before.result.now _ (ap (map seen) c.as_slice-before.ensures.value ∙ c.requires.touched.before)
    (some_below t c.is_tree.ensures b (parts_before t c.args.command.now b) (before_within t c.args.command.now b))

pub moved-requires-clause-later : goal.moved-requires-clause-later
moved-requires-clause-later c =
    let t = c.args.tree.now in
    let b = bridge_of c.args.config.now in
    let v = c.args.spaces.now in
    parts_placed t v (spaces_of t c.requires.limits.0 v c.requires.limits.1) c.as_slice.result.now _ (ap (map seen) c.as_slice.ensures.value ∙ c.requires.touched.later)
    (some_below t c.is_tree.ensures (after c.args.command.now b) (parts_after t c.args.command.now b) (after_within t c.args.command.now b))

pub moved-requires-clause-places : goal.moved-requires-clause-places
moved-requires-clause-places c =
    places c.args.tree.now (bridge_of c.args.config.now) c.args.spaces.now c.requires.limits.0 c.requires.limits.1 c.requires.held c.args.uses.now c.requires.counted

pub moved-requires-clause-enough : goal.moved-requires-clause-enough
moved-requires-clause-enough c =
    subst (λ (xs : List PortsAt). AreEnough c.args.spaces.now xs c.args.uses.now) (sym (ap (map seen) c.as_slice-before.ensures.value ∙ c.requires.touched.before))
    (enough c.args.tree.now (bridge_of c.args.config.now) c.args.spaces.now c.requires.limits.0 c.requires.limits.1 c.requires.held c.args.uses.now c.requires.counted c.args.command.now)

pub gone_groups-requires-clause-placed : goal.gone_groups-requires-clause-placed
gone_groups-requires-clause-placed c =
    let t = c.args.tree.now in
    let b = bridge_of c.args.config.now in
    let v = c.args.spaces.now in
    parts_placed t v (spaces_of t c.requires.limits.0 v c.requires.limits.1) c.as_slice-before.result.now _ (ap (map seen) c.as_slice-before.ensures.value ∙ c.requires.touched.before)
    (some_below t c.is_tree.ensures b (parts_before t c.args.command.now b) (before_within t c.args.command.now b))

pub make_change-requires-clause-up : goal.make_change-requires-clause-up
make_change-requires-clause-up c =
    let t = c.args.tree.now in
    let b = bridge_of c.args.config.now in
    let v = c.args.spaces.now in
    let l = c.requires.limits.0 in
    subst (λ (o : Option ℕ). CanClaimUp t v o) (sym c.requires.up) (up_can t c.is_tree.ensures l b (after c.args.command.now b) v c.requires.limits.1 c.requires.held (c.requires.fits l c.requires.limits.1))

pub make_change-requires-clause-down : goal.make_change-requires-clause-down
make_change-requires-clause-down c =
    let b = bridge_of c.args.config.now in
    any_extended c.args.tree.now (after c.args.command.now b) b c.goes_down-down.result (sym c.goes_down-down.ensures)

pub make_change-requires-clause-fresh : goal.make_change-requires-clause-fresh
make_change-requires-clause-fresh c =
    let t = c.args.tree.now in
    let b = bridge_of c.args.config.now in
    let v = c.args.spaces.now in
    let l = c.requires.limits.0 in
    subst (λ (xs : List PortsAt). CanClaim v xs) (sym (ap (map seen) c.as_slice-fresh.ensures.value ∙ c.requires.touched.fresh)) (fresh_claim t c.is_tree.ensures l b (after c.args.command.now b) v c.requires.limits.1 c.requires.held (c.requires.fits l c.requires.limits.1))

pub raise_new-requires-clause-placed : goal.raise_new-requires-clause-placed
raise_new-requires-clause-placed c =
    let v = c.args.spaces.now in
    let l = c.requires.limits.0 in
    let has = c.requires.limits.1 in
    unfound_placed c.args.tree.now c.is_tree.ensures c.args.command.now (bridge_of c.args.config.now) v c.make_change.new.spaces l has c.requires.limits.2 c.requires.held (c.requires.fits l has)
    c.args.up.now (map seen c.as_slice-fresh.result.now) (ap (map seen) c.as_slice-fresh.ensures.value ∙ c.requires.touched.fresh) c.in_ok-change.ensures.alike (c.in_ok-change.ensures.held l has) c.as_slice-3.result.now
    (ap (map seen) c.as_slice-3.ensures.value ∙ (c.requires.touched.unfound ∙ ap (filter (λ s. not (has_group (held_by v) s))) c.requires.touched.later))

pub raise_new-requires-clause-own : goal.raise_new-requires-clause-own
raise_new-requires-clause-own c =
    let v = c.args.spaces.now in
    let l = c.requires.limits.0 in
    let has = c.requires.limits.1 in
    own_now c.args.tree.now c.is_tree.ensures c.args.command.now (bridge_of c.args.config.now) v c.make_change.new.spaces l has c.requires.limits.2 c.requires.held (c.requires.fits l has)
    c.args.up.now (map seen c.as_slice-fresh.result.now) (ap (map seen) c.as_slice-fresh.ensures.value ∙ c.requires.touched.fresh) c.in_ok-change.ensures.alike (c.in_ok-change.ensures.held l has)

pub raise_new-requires-clause-places : goal.raise_new-requires-clause-places
raise_new-requires-clause-places c =
    let t = c.args.tree.now in
    let b = bridge_of c.args.config.now in
    let v = c.args.spaces.now in
    let l = c.requires.limits.0 in
    let has = c.requires.limits.1 in
    places_now t c.is_tree.ensures c.args.command.now b v c.make_change.new.spaces l has c.requires.limits.2 c.requires.held (c.requires.fits l has)
    c.args.up.now (map seen c.as_slice-fresh.result.now) (ap (map seen) c.as_slice-fresh.ensures.value ∙ c.requires.touched.fresh) c.in_ok-change.ensures.alike (c.in_ok-change.ensures.held l has) c.args.uses.now c.in_ok-next.next
    (places t b v l has c.requires.held c.args.uses.now c.requires.counted) c.requires.rows c.in_ok-next.ensures.rows

pub raise_new-requires-clause-unused : goal.raise_new-requires-clause-unused
raise_new-requires-clause-unused c =
    let t = c.args.tree.now in
    let b = bridge_of c.args.config.now in
    let v = c.args.spaces.now in
    let w = c.make_change.new.spaces in
    let l = c.requires.limits.0 in
    let has = c.requires.limits.1 in
    let is = c.in_ok-next.ensures in
    let lowered = subst (λ (xs : List PortsAt). AreLowered v xs c.args.uses.now is.less) (ap (map seen) c.as_slice-before.ensures.value ∙ c.requires.touched.before) is.lowered in
    let raised = subst (λ (xs : List PortsAt). AreRaised v xs is.less c.in_ok-next.next) (ap (map seen) c.as_slice.ensures.value ∙ c.requires.touched.later) is.raised in
    subst (λ (xs : List PortsAt). AreUnused w xs c.in_ok-next.next) (sym (ap (map seen) c.as_slice-3.ensures.value ∙ (c.requires.touched.unfound ∙ ap (filter (λ s. not (has_group (held_by v) s))) c.requires.touched.later)))
    (unused_now t c.is_tree.ensures c.args.command.now b v w l has c.requires.limits.2 c.requires.held (c.requires.fits l has)
    c.args.up.now (map seen c.as_slice-fresh.result.now) (ap (map seen) c.as_slice-fresh.ensures.value ∙ c.requires.touched.fresh) c.in_ok-change.ensures.alike (c.in_ok-change.ensures.held l has) c.in_ok-next.next
    (moved t b v l has c.requires.held c.args.uses.now c.requires.counted c.args.command.now is.less c.in_ok-next.next lowered raised))

-- memory ran out before anything was claimed
pub returns-in_err-next : goal.returns-in_err-next
returns-in_err-next c =
    let e = err_from_is_err_and c.from_residual.result c.from_residual.ensures.1 in
    rw e.1 (record {
      change = λ l has. tt;
      held = λ l has. tt;
      err = refl;
      alike = record { spaces = λ k. refl; channels = λ k. refl; groups = λ k. refl };
      counted = tt;
      unchanged = refl;
      rows = λ k. refl;
    })

pub returns-in_err-gone : goal.returns-in_err-gone
returns-in_err-gone c =
    let e = err_from_is_err_and c.from_residual-in_err-gone.result c.from_residual-in_err-gone.ensures.1 in
    rw e.1 (record {
      change = λ l has. tt;
      held = λ l has. tt;
      err = refl;
      alike = record { spaces = λ k. refl; channels = λ k. refl; groups = λ k. refl };
      counted = tt;
      unchanged = refl;
      rows = λ k. refl;
    })

pub returns-in_err-change : goal.returns-in_err-change
returns-in_err-change c =
    let e = err_from_is_err_and c.from_residual-in_err-change.result c.from_residual-in_err-change.ensures.1 in
    rw e.1 (record {
      change = λ l has. tt;
      held = λ l has. tt;
      err = c.in_err-change.ensures.err;
      alike = c.in_err-change.ensures.alike;
      counted = tt;
      unchanged = refl;
      rows = λ k. refl;
    })

pub returns-clause-change : goal.returns-clause-change
returns-clause-change c l has =
    let t = c.args.tree.now in
    let b = bridge_of c.args.config.now in
    let d = after c.args.command.now b in
    let v = c.args.spaces.now in
    let h = held_by v in
    let next = c.in_ok-next.next in
    let is = c.in_ok-next.ensures in
    let before = ap (map seen) c.as_slice-before.ensures.value ∙ c.requires.touched.before in
    let lowered = subst (λ (xs : List PortsAt). AreLowered v xs c.args.uses.now is.less) before is.lowered in
    let raised = subst (λ (xs : List PortsAt). AreRaised v xs is.less next) (ap (map seen) c.as_slice.ensures.value ∙ c.requires.touched.later) is.raised in
    let gone : map seen_group c.as_slice-2.result.now ≡ gone_groups t (sets_of t d) h =
    ap (map seen_group) c.as_slice-2.ensures.value ∙ c.in_ok-gone.ensures (sets_of t d) (λ k low cascade.
    subst (λ (xs : List PortsAt). AreLeft h next xs (sets_of t d) k) (sym before)
    (left_go t b v l has c.requires.held c.args.uses.now c.requires.counted c.args.command.now is.less next lowered raised k low cascade (spaces_of t l v has k low cascade))) in
    c.in_ok-change.ensures.change l has
    ∙ changes_are t l b d h c.args.up.now c.goes_down-down.result (map seen_group c.as_slice-2.result.now) (map seen c.as_slice-fresh.result.now)
    c.requires.up c.goes_down-down.ensures gone (ap (map seen) c.as_slice-fresh.ensures.value ∙ c.requires.touched.fresh)

pub returns-clause-held : goal.returns-clause-held
returns-clause-held c l has =
    let b = bridge_of c.args.config.now in
    c.in_ok-change.ensures.held l has
    ∙ claims_are c.args.tree.now l b (after c.args.command.now b) (held_by c.args.spaces.now) c.args.up.now (map seen c.as_slice-fresh.result.now)
    c.requires.up (ap (map seen) c.as_slice-fresh.ensures.value ∙ c.requires.touched.fresh)

pub returns-clause-err : goal.returns-clause-err
returns-clause-err c = tt

pub returns-clause-alike : goal.returns-clause-alike
returns-clause-alike c = c.in_ok-change.ensures.alike

pub returns-clause-unchanged : goal.returns-clause-unchanged
returns-clause-unchanged c = tt

pub returns-clause-rows : goal.returns-clause-rows
returns-clause-rows c = λ k. c.raise_new.ensures.rows k ∙ c.in_ok-next.ensures.rows k

pub returns-clause-counted : goal.returns-clause-counted
returns-clause-counted c =
    let t = c.args.tree.now in
    let b = bridge_of c.args.config.now in
    let v = c.args.spaces.now in
    let w = c.make_change.new.spaces in
    let l = c.requires.limits.0 in
    let has = c.requires.limits.1 in
    let is = c.in_ok-next.ensures in
    let lowered = subst (λ (xs : List PortsAt). AreLowered v xs c.args.uses.now is.less) (ap (map seen) c.as_slice-before.ensures.value ∙ c.requires.touched.before) is.lowered in
    let raised = subst (λ (xs : List PortsAt). AreRaised v xs is.less c.in_ok-next.next) (ap (map seen) c.as_slice.ensures.value ∙ c.requires.touched.later) is.raised in
    let last = subst (λ (xs : List PortsAt). AreRaised w xs c.in_ok-next.next c.raise_new.new.uses) (ap (map seen) c.as_slice-3.ensures.value ∙ (c.requires.touched.unfound ∙ ap (filter (λ s. not (has_group (held_by v) s))) c.requires.touched.later)) c.raise_new.ensures.counts in
    counted_now t c.is_tree.ensures c.args.command.now b v w l has c.requires.limits.2 c.requires.held (c.requires.fits l has)
    c.args.up.now (map seen c.as_slice-fresh.result.now) (ap (map seen) c.as_slice-fresh.ensures.value ∙ c.requires.touched.fresh) c.in_ok-change.ensures.alike (c.in_ok-change.ensures.held l has) c.in_ok-next.next
    (moved t b v l has c.requires.held c.args.uses.now c.requires.counted c.args.command.now is.less c.in_ok-next.next lowered raised) c.raise_new.new.uses last
