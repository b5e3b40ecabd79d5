use Rattle.std.proofs.Common.{◌∙◌, ℕ, List, map, subst}
use Rattle.exb_control_spec.specs.Plans.Sets.{seen}
use Rattle.exb_plan.specs.Recount.{AreLowered, HaveRowsOf}
use Rattle.exb_plan.proofs.command_plan.moved.Goals as goal

pub returns : goal.returns
returns c =
    let same = c.in_ok-next.ensures in
    record {
      less = c.lower_all.new.uses;
      lowered = subst (λ (u : List (List ℕ)). AreLowered c.args.spaces.now (map seen c.args.before.now) u c.lower_all.new.uses) same c.lower_all.ensures.counts;
      raised = c.in_ok-raise_all.ensures.counts;
      rows = subst (λ (u : List (List ℕ)). HaveRowsOf u c.raise_all.new.uses) same (λ k. c.in_ok-raise_all.ensures.rows k ∙ c.lower_all.ensures.rows k);
    }
