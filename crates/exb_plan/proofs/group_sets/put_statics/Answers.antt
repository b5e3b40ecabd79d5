use Rattle.std.proofs.Common.{◌≡◌, ◌∙◌, ◌+◌, ◌&&◌, ◌++◌, [], ◌∷◌, sym, ap, List, map, fold, take}
use Rattle.std.specs.List.{flat_map}
use Rattle.std.proofs.lemmas.List.{take_more}
use Rattle.std.proofs.lemmas.Option.{get_or_from_slice_get, slice_get_within}
use Rattle.exb_model.specs.declared.rules.StaticAt.{StaticAt}
use Rattle.exb_model.specs.Ports.{port_in}
use Rattle.exb_model.specs.Refusals.{both_kinds}
use Rattle.exb_config.specs.Tables.{bridge_of}
use Rattle.exb_control_spec.specs.Plans.Sets.{seen, with_set_at, parts_below}
use Rattle.exb_plan.proofs.SetFolds.{source_more}
use Rattle.exb_plan.proofs.group_sets.put_statics.Goals as goal

pub loop-at-preserved : goal.loop-at-preserved
loop-at-preserved c t branches =
    let b = bridge_of c.args.config.now in
    let i = c.loop-at.at in
    let e = c.in-Some.entry in
    let old = map seen c.args.sets.now.keys in
    let f = λ (s : StaticAt). both_kinds s.vid (port_in s.ports) in
    let found = sym c.static_at.ensures ∙ c.in-Some.is in
    let whole : take (i + 1) b.statics ≡ take i b.statics ++ e ∷ [] =
    take_more b.statics i e (slice_get_within b.statics i e found) ∙ ap (λ (s : StaticAt). take i b.statics ++ s ∷ []) (get_or_from_slice_get b.statics i e e found) in
    let one = c.in_ok-put_vlan-in-Some.ensures t (port_in e.ports) branches (λ q. c.both-among.ensures q ∙ ap (λ x. x && port_in e.ports q) (branches.extended q)) in
    source_more t b f (take i b.statics) e old (map seen c.loop-at.sets.keys) (map seen c.put_vlan.new.sets.keys) (c.loop-at.invariant t branches) one
    ∙ ap (λ (s : List StaticAt). fold with_set_at old (flat_map (parts_below t b) (flat_map f s))) (sym whole)
