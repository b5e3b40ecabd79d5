use Rattle.std.proofs.Common.{◌∙◌, sym}
use Rattle.exb_control_spec.specs.declared.plan.change.Decision.TheVariants.{Ready}
use Rattle.exb_control.specs.ActiveConfigs.{ActiveConfig, active_config_of}
use Rattle.exb_control.proofs.ActiveConfigInvariant.{rest_needed, start_needed, started_cause, started_stage, started_held, started}
use Rattle.exb_control.proofs.GroupUses.{rows_fit, start_counted, started_uses}
use Rattle.exb_control.proofs.active_config.ActiveConfig.start.Goals as goal

pub decide-requires-clause-held : goal.decide-requires-clause-held
decide-requires-clause-held c =
    let f : ActiveConfig = active_config_of c.self.inside.tree.value c.self.inside.channels c.self.inside.groups c.self.inside.config c.self.inside.spaces c.self.inside.stage in
    let rest = rw (← c.self.view_is) at c.requires.rest in
    rw c.deref.ensures (start_needed f c.self.invariant.active rest)

pub decide-requires-clause-rows : goal.decide-requires-clause-rows
decide-requires-clause-rows c =
    let f : ActiveConfig = active_config_of c.self.inside.tree.value c.self.inside.channels c.self.inside.groups c.self.inside.config c.self.inside.spaces c.self.inside.stage in
    rw c.deref.ensures (rows_fit f c.self.inside.uses c.self.invariant)

pub decide-requires-clause-counted : goal.decide-requires-clause-counted
decide-requires-clause-counted c =
    let f : ActiveConfig = active_config_of c.self.inside.tree.value c.self.inside.channels c.self.inside.groups c.self.inside.config c.self.inside.spaces c.self.inside.stage in
    let rest = rw (← c.self.view_is) at c.requires.rest in
    rw c.deref.ensures (start_counted f c.self.inside.uses c.self.invariant rest)

pub invariant_of-self-in-Ready : goal.invariant_of-self-in-Ready
invariant_of-self-in-Ready c =
    let f : ActiveConfig = active_config_of c.self.inside.tree.value c.self.inside.channels c.self.inside.groups c.self.inside.config c.self.inside.spaces c.self.inside.stage in
    let is = c.self.invariant.active in
    let j = c.args.job.now in
    let rest = rw (← c.self.view_is) at c.requires.rest in
    let fits = rw (← c.self.view_is) at c.requires.fits in
    let says = rw c.deref.ensures at c.in_ok-decision.ensures.decision in
    let claims = rw c.deref.ensures at c.in_ok-decision.ensures.claimed in
    let has = rw c.deref.ensures at c.in_ok-decision.ensures.spaces in
    let counts = rw (c.deref.ensures, c.in-Ready.is) at c.in_ok-decision.ensures.counted in
    let said = sym c.in-Ready.is ∙ says f.limits is.spaces in
    let held = claims f.limits is.spaces in
    record {
      active = started f is rest j fits _ c.decide.new.spaces said held (has f.limits is.spaces);
      uses =
          started_uses f c.self.inside.uses c.self.invariant rest j fits (Ready c.in-Ready.change) c.decide.new.spaces c.decide.new.uses counts c.in_ok-decision.ensures.rows (rest_needed f is rest)
          (started_stage f is rest j fits _ c.decide.new.spaces said held) (started_held f is rest j fits _ c.decide.new.spaces said held);
    }

pub returns-in-Refused-clause-cause : goal.returns-in-Refused-clause-cause
returns-in-Refused-clause-cause c =
    let f : ActiveConfig = active_config_of c.self.inside.tree.value c.self.inside.channels c.self.inside.groups c.self.inside.config c.self.inside.spaces c.self.inside.stage in
    let rest = rw (← c.self.view_is) at c.requires.rest in
    let fits = rw (← c.self.view_is) at c.requires.fits in
    let says = rw c.deref.ensures at c.in_ok-decision.ensures.decision in
    let claims = rw c.deref.ensures at c.in_ok-decision.ensures.claimed in
    rw (← c.self.view_is) (started_cause f c.self.invariant.active rest c.args.job.now fits _ c.decide.new.spaces (sym c.in-Refused.is ∙ says f.limits c.self.invariant.active.spaces) (claims f.limits c.self.invariant.active.spaces))

pub returns-in-Refused-clause-held : goal.returns-in-Refused-clause-held
returns-in-Refused-clause-held c =
    let f : ActiveConfig = active_config_of c.self.inside.tree.value c.self.inside.channels c.self.inside.groups c.self.inside.config c.self.inside.spaces c.self.inside.stage in
    let rest = rw (← c.self.view_is) at c.requires.rest in
    let fits = rw (← c.self.view_is) at c.requires.fits in
    let says = rw c.deref.ensures at c.in_ok-decision.ensures.decision in
    let claims = rw c.deref.ensures at c.in_ok-decision.ensures.claimed in
    rw (← c.self.view_is) (started_held f c.self.invariant.active rest c.args.job.now fits _ c.decide.new.spaces (sym c.in-Refused.is ∙ says f.limits c.self.invariant.active.spaces) (claims f.limits c.self.invariant.active.spaces))

pub returns-in-Refused-clause-stage : goal.returns-in-Refused-clause-stage
returns-in-Refused-clause-stage c =
    let f : ActiveConfig = active_config_of c.self.inside.tree.value c.self.inside.channels c.self.inside.groups c.self.inside.config c.self.inside.spaces c.self.inside.stage in
    let rest = rw (← c.self.view_is) at c.requires.rest in
    let fits = rw (← c.self.view_is) at c.requires.fits in
    let says = rw c.deref.ensures at c.in_ok-decision.ensures.decision in
    let claims = rw c.deref.ensures at c.in_ok-decision.ensures.claimed in
    rw (← c.self.view_is) (rest ∙ started_stage f c.self.invariant.active rest c.args.job.now fits _ c.decide.new.spaces (sym c.in-Refused.is ∙ says f.limits c.self.invariant.active.spaces) (claims f.limits c.self.invariant.active.spaces))

pub returns-in-Ready-clause-cause : goal.returns-in-Ready-clause-cause
returns-in-Ready-clause-cause c =
    let f : ActiveConfig = active_config_of c.self.inside.tree.value c.self.inside.channels c.self.inside.groups c.self.inside.config c.self.inside.spaces c.self.inside.stage in
    let rest = rw (← c.self.view_is) at c.requires.rest in
    let fits = rw (← c.self.view_is) at c.requires.fits in
    let says = rw c.deref.ensures at c.in_ok-decision.ensures.decision in
    let claims = rw c.deref.ensures at c.in_ok-decision.ensures.claimed in
    rw (← c.self.view_is) (started_cause f c.self.invariant.active rest c.args.job.now fits _ c.decide.new.spaces (sym c.in-Ready.is ∙ says f.limits c.self.invariant.active.spaces) (claims f.limits c.self.invariant.active.spaces))

pub returns-in-Ready-clause-held : goal.returns-in-Ready-clause-held
returns-in-Ready-clause-held c =
    let f : ActiveConfig = active_config_of c.self.inside.tree.value c.self.inside.channels c.self.inside.groups c.self.inside.config c.self.inside.spaces c.self.inside.stage in
    let rest = rw (← c.self.view_is) at c.requires.rest in
    let fits = rw (← c.self.view_is) at c.requires.fits in
    let says = rw c.deref.ensures at c.in_ok-decision.ensures.decision in
    let claims = rw c.deref.ensures at c.in_ok-decision.ensures.claimed in
    rw (← c.self.view_is) (started_held f c.self.invariant.active rest c.args.job.now fits _ c.decide.new.spaces (sym c.in-Ready.is ∙ says f.limits c.self.invariant.active.spaces) (claims f.limits c.self.invariant.active.spaces))

pub returns-in-Ready-clause-stage : goal.returns-in-Ready-clause-stage
returns-in-Ready-clause-stage c =
    let f : ActiveConfig = active_config_of c.self.inside.tree.value c.self.inside.channels c.self.inside.groups c.self.inside.config c.self.inside.spaces c.self.inside.stage in
    let rest = rw (← c.self.view_is) at c.requires.rest in
    let fits = rw (← c.self.view_is) at c.requires.fits in
    let says = rw c.deref.ensures at c.in_ok-decision.ensures.decision in
    let claims = rw c.deref.ensures at c.in_ok-decision.ensures.claimed in
    rw (← c.self.view_is) (started_stage f c.self.invariant.active rest c.args.job.now fits _ c.decide.new.spaces (sym c.in-Ready.is ∙ says f.limits c.self.invariant.active.spaces) (claims f.limits c.self.invariant.active.spaces))
