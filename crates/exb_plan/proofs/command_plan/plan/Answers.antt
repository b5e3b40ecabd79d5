use Rattle.std.proofs.Common.{◌∙◌, map, refl, sym, ap}
use Rattle.std.proofs.lemmas.Result.{err_from_is_err_and}
use Rattle.exb_model.specs.Configuration.{after}
use Rattle.exb_config.specs.Tables.{bridge_of}
use Rattle.exb_control_spec.specs.Plans.Sets.{seen, sets_of}
use Rattle.exb_plan.specs.SpaceContents.{held_by}
use Rattle.exb_control_spec.specs.declared.plan.change.Decision.TheVariants.{Ready}
use Rattle.exb_control_spec.proofs.Plans.Channels.{any_extended}
use Rattle.exb_plan.proofs.WholePlans.{alike_has, spaces_of, refusal_are, refused_is, refused_held, decided, decided_held}
use Rattle.exb_plan.proofs.UsesAfterCommand.{used_sets}
use Rattle.exb_plan.proofs.command_plan.plan.Goals as goal

pub touched_sets-requires-clause-spaces : goal.touched_sets-requires-clause-spaces
touched_sets-requires-clause-spaces c = spaces_of c.args.tree.now c.requires.limits.0 c.args.spaces.now c.requires.limits.1

pub refusal-requires-clause-up : goal.refusal-requires-clause-up
refusal-requires-clause-up c =
    let b = bridge_of c.args.config.now in
    any_extended c.args.tree.now b (after c.args.command.now b) c.goes_up-up.result (sym c.goes_up-up.ensures)

pub refusal-requires-clause-counted : goal.refusal-requires-clause-counted
refusal-requires-clause-counted c =
    used_sets c.args.tree.now (bridge_of c.args.config.now) c.args.spaces.now c.requires.limits.0 c.requires.limits.1 c.requires.held c.args.uses.now c.requires.counted

-- memory ran out before anything was decided
pub returns-in_err-touched : goal.returns-in_err-touched
returns-in_err-touched c =
    let e = err_from_is_err_and c.from_residual.result c.from_residual.ensures.1 in
    rw e.1 (record {
      decision = λ l has. tt;
      claimed = λ l has. tt;
      no_memory = refl;
      spaces = λ l has. has;
      counted = tt;
      unchanged = refl;
      rows = λ k. refl;
    })

pub returns-in-Some-clause-decision : goal.returns-in-Some-clause-decision
returns-in-Some-clause-decision c l has =
    let t = c.args.tree.now in
    let b = bridge_of c.args.config.now in
    let d = after c.args.command.now b in
    let fresh = ap (map seen) c.as_slice-fresh.ensures.value ∙ c.in_ok-touched.ensures.fresh in
    let is = c.refusal.ensures l has ∙ refusal_are t c.is_tree.ensures l b d c.goes_up-up.result (sets_of t b) (map seen c.as_slice-fresh.result.now) c.goes_up-up.ensures refl fresh in
    refused_is t l b d (held_by c.args.spaces.now) c.in-Some.cause (sym is ∙ c.in-Some.is)

pub returns-in-Some-clause-claimed : goal.returns-in-Some-clause-claimed
returns-in-Some-clause-claimed c l has =
    let t = c.args.tree.now in
    let b = bridge_of c.args.config.now in
    let d = after c.args.command.now b in
    let fresh = ap (map seen) c.as_slice-fresh.ensures.value ∙ c.in_ok-touched.ensures.fresh in
    let is = c.refusal.ensures l has ∙ refusal_are t c.is_tree.ensures l b d c.goes_up-up.result (sets_of t b) (map seen c.as_slice-fresh.result.now) c.goes_up-up.ensures refl fresh in
    refused_held t l b d (held_by c.args.spaces.now) c.in-Some.cause (sym is ∙ c.in-Some.is)

pub returns-in-Some-clause-no_memory : goal.returns-in-Some-clause-no_memory
returns-in-Some-clause-no_memory c = tt

pub returns-in-Some-clause-spaces : goal.returns-in-Some-clause-spaces
returns-in-Some-clause-spaces c = λ l has. has

pub returns-in-Some-clause-counted : goal.returns-in-Some-clause-counted
returns-in-Some-clause-counted c = refl

pub returns-in-Some-clause-unchanged : goal.returns-in-Some-clause-unchanged
returns-in-Some-clause-unchanged c = tt

pub returns-in-Some-clause-rows : goal.returns-in-Some-clause-rows
returns-in-Some-clause-rows c = λ k. refl

pub ready-requires-clause-fits : goal.ready-requires-clause-fits
ready-requires-clause-fits c l has =
    let t = c.args.tree.now in
    let b = bridge_of c.args.config.now in
    let d = after c.args.command.now b in
    let fresh = ap (map seen) c.as_slice-fresh.ensures.value ∙ c.in_ok-touched.ensures.fresh in
    let is = c.refusal.ensures l has ∙ refusal_are t c.is_tree.ensures l b d c.goes_up-up.result (sets_of t b) (map seen c.as_slice-fresh.result.now) c.goes_up-up.ensures refl fresh in
    sym is ∙ c.in_default.is

-- memory ran out for the change
pub returns-in_err-change : goal.returns-in_err-change
returns-in_err-change c =
    let e = err_from_is_err_and c.from_residual-in_err-change.result c.from_residual-in_err-change.ensures.1 in
    let made = c.in_err-change.ensures in
    rw e.1 (record {
      decision = λ l has. tt;
      claimed = λ l has. tt;
      no_memory = made.err;
      spaces = λ l has. alike_has c.args.tree.now l c.args.spaces.now c.ready.new.spaces made.alike has;
      counted = tt;
      unchanged = made.unchanged;
      rows = made.rows;
    })

pub returns-clause-decision : goal.returns-clause-decision
returns-clause-decision c l has =
    let t = c.args.tree.now in
    let b = bridge_of c.args.config.now in
    let d = after c.args.command.now b in
    let fresh = ap (map seen) c.as_slice-fresh.ensures.value ∙ c.in_ok-touched.ensures.fresh in
    let is = c.refusal.ensures l has ∙ refusal_are t c.is_tree.ensures l b d c.goes_up-up.result (sets_of t b) (map seen c.as_slice-fresh.result.now) c.goes_up-up.ensures refl fresh in
    ap Ready (c.in_ok-change.ensures.change l has) ∙ decided t l b d (held_by c.args.spaces.now) (sym is ∙ c.in_default.is)

pub returns-clause-claimed : goal.returns-clause-claimed
returns-clause-claimed c l has =
    let t = c.args.tree.now in
    let b = bridge_of c.args.config.now in
    let d = after c.args.command.now b in
    let fresh = ap (map seen) c.as_slice-fresh.ensures.value ∙ c.in_ok-touched.ensures.fresh in
    let is = c.refusal.ensures l has ∙ refusal_are t c.is_tree.ensures l b d c.goes_up-up.result (sets_of t b) (map seen c.as_slice-fresh.result.now) c.goes_up-up.ensures refl fresh in
    c.in_ok-change.ensures.held l has ∙ decided_held t l b d (held_by c.args.spaces.now) (sym is ∙ c.in_default.is)

pub returns-clause-no_memory : goal.returns-clause-no_memory
returns-clause-no_memory c = tt

pub returns-clause-spaces : goal.returns-clause-spaces
returns-clause-spaces c = λ l has. alike_has c.args.tree.now l c.args.spaces.now c.ready.new.spaces c.in_ok-change.ensures.alike has

pub returns-clause-counted : goal.returns-clause-counted
returns-clause-counted c = c.in_ok-change.ensures.counted

pub returns-clause-unchanged : goal.returns-clause-unchanged
returns-clause-unchanged c = tt

pub returns-clause-rows : goal.returns-clause-rows
returns-clause-rows c = c.in_ok-change.ensures.rows
