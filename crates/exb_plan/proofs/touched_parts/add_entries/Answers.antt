use Rattle.std.proofs.Common.{◌≡◌, ◌∙◌, ◌+◌, ◌++◌, [], ◌∷◌, sym, ap, take}
use Rattle.std.specs.Prelude.{slice_get}
use Rattle.std.specs.List.{flat_map}
use Rattle.std.proofs.lemmas.List.{take_more}
use Rattle.std.proofs.lemmas.Option.{get_or_from_slice_get, slice_get_within}
use Rattle.exb_model.specs.declared.rules.StaticAt.{StaticAt}
use Rattle.exb_config.specs.Tables.{bridge_of}
use Rattle.exb_plan.specs.TouchedSources.{entry_touched}
use Rattle.exb_plan.proofs.PartLists.{adds_none, adds_more, adds_same}
use Rattle.exb_plan.proofs.TouchedSources.{entry_more, whole_list, mapped_some, mapped_none}
use Rattle.exb_plan.proofs.touched_parts.add_entries.Goals as goal

pub loop-at-init : goal.loop-at-init
loop-at-init g c t here branches = adds_none t (g.V.View.bridge c.args.view.now) here c.args.parts.now.items

pub loop-at-preserved : goal.loop-at-preserved
loop-at-preserved g c t here branches =
    let b = bridge_of c.args.config.now in
    let d = g.V.View.bridge c.args.view.now in
    let i = c.loop-at.at in
    let there = mapped_some (λ (s : StaticAt). s.vid) (slice_get b.statics i) c.in-Some.vid (sym c.static_vid.ensures ∙ c.in-Some.is) in
    let e = there.0 in
    let found = there.1 in
    let f = entry_touched c.args.command.now b in
    let whole : take (i + 1) b.statics ≡ take i b.statics ++ e ∷ [] =
    take_more b.statics i e (slice_get_within b.statics i e found) ∙ ap (λ (s : StaticAt). take i b.statics ++ s ∷ []) (get_or_from_slice_get b.statics i e e found) in
    adds_same t d here _ _ c.args.parts.now.items c.add_entry_at.new.parts.items
    (entry_more f (take i b.statics) e ∙ ap (flat_map f) (sym whole))
    (adds_more t d here (flat_map f (take i b.statics)) (f e) c.args.parts.now.items c.loop-at.parts.items c.add_entry_at.new.parts.items
    (c.loop-at.invariant t here branches) (c.in_ok-add_entry_at-in-Some.ensures t here e branches found there.2))

pub returns-in-None : goal.returns-in-None
returns-in-None g c t here branches =
    let b = bridge_of c.args.config.now in
    adds_same t (g.V.View.bridge c.args.view.now) here _ _ c.args.parts.now.items c.loop-at.parts.items
    (ap (flat_map (entry_touched c.args.command.now b)) (whole_list b.statics c.loop-at.at (mapped_none (λ (s : StaticAt). s.vid) (slice_get b.statics c.loop-at.at) (sym c.static_vid.ensures ∙ c.in-None.is))))
    (c.loop-at.invariant t here branches)
