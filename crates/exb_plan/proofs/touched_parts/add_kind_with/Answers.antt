use Rattle.std.proofs.Common.{◌∙◌, sym, [], ◌∷◌, filter}
use Rattle.std.proofs.lemmas.Result.{on_ok_weaker}
use Rattle.exb_model.specs.Refusals.{Source, both_kinds}
use Rattle.exb_config.specs.Tables.{bridge_of}
use Rattle.exb_control_spec.specs.Plans.TouchedParts.{has_port}
use Rattle.exb_plan.proofs.PartLists.{adds_none, adds_same}
use Rattle.exb_plan.proofs.TouchedSources.{kinds_with, kinds_without}
use Rattle.exb_plan.proofs.touched_parts.add_kind_with.Goals as goal

pub returns-in-Some : goal.returns-in-Some
returns-in-Some g c t here test branches is_among there =
    let b = bridge_of c.args.config.now in
    let d = g.V.View.bridge c.args.view.now in
    let x : Source = record { vid = c.args.vid; kind = c.in-Some.kind; among = test } in
    on_ok_weaker c.put_kind.result
    (adds_same t d here (x ∷ []) (filter (has_port b c.args.port) (both_kinds c.args.vid test)) c.args.parts.now.items c.put_kind.new.parts.items
    (sym (kinds_with b c.args.port c.args.vid test c.in-Some.kind there (sym c.member.ensures ∙ c.in-Some.is))))
    (c.put_kind.ensures t here test branches is_among)

pub returns-in-None : goal.returns-in-None
returns-in-None g c t here test branches is_among there =
    let b = bridge_of c.args.config.now in
    let d = g.V.View.bridge c.args.view.now in
    adds_same t d here [] (filter (has_port b c.args.port) (both_kinds c.args.vid test)) c.args.parts.now.items c.args.parts.now.items
    (sym (kinds_without b c.args.port c.args.vid test there (sym c.member.ensures ∙ c.in-None.is))) (adds_none t d here c.args.parts.now.items)
