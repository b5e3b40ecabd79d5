use Rattle.std.proofs.Common.{◌∙◌, sym, ap, map, [], ◌∷◌}
use Rattle.std.proofs.lemmas.List.{map-append}
use Rattle.exb_control_spec.specs.Plans.Sets.{seen}
use Rattle.exb_plan.proofs.SetPorts.{empty_sets}
use Rattle.exb_plan.proofs.PartLists.{none_more, one_more}
use Rattle.exb_plan.proofs.parts.put.Goals as goal

pub returns-then-is_empty : goal.returns-then-is_empty
returns-then-is_empty c =
    none_more (map seen c.args.parts.now.items) (seen c.args.part) (sym (empty_sets c.args.part.set c.is_empty.result c.is_empty.ensures) ∙ c.if-is_empty.true)

pub returns : goal.returns
returns c =
    ap (map seen) c.in_ok-push.ensures.items ∙ (map-append seen c.args.parts.now.items (c.args.part ∷ [])
    ∙ one_more (map seen c.args.parts.now.items) (seen c.args.part) (sym (empty_sets c.args.part.set c.is_empty.result c.is_empty.ensures) ∙ c.if-is_empty.false))
