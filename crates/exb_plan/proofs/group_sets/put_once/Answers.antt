use Rattle.std.proofs.Common.{◌∙◌, sym, ap, map}
use Rattle.exb_control_spec.specs.Plans.Sets.{seen}
use Rattle.exb_plan.proofs.SetPorts.{empty_sets}
use Rattle.exb_plan.proofs.SetFolds.{with_set-none}
use Rattle.exb_plan.proofs.SetIndex.{put_seen}
use Rattle.std.proofs.lemmas.Bool.{or_left}
use Rattle.exb_plan.proofs.group_sets.put_once.Goals as goal

pub returns : goal.returns
returns c =
    let some = sym (empty_sets c.args.set.now.set c.is_empty.result c.is_empty.ensures) ∙ c.if-is_empty.false in
    ap (map seen) c.in_ok-insert.ensures.keys ∙ put_seen c.args.sets.now.keys c.args.set.now some

pub returns-then-is_empty : goal.returns-then-is_empty
returns-then-is_empty c =
    let empty = sym (empty_sets c.args.set.now.set c.is_empty.result c.is_empty.ensures) ∙ c.if-is_empty.true in
    sym (with_set-none (map seen c.args.sets.now.keys) (seen c.args.set.now) (or_left _ _ empty))
