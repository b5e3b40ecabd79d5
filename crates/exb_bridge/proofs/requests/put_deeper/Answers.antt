use Rattle.std.proofs.Common.{rules, ◌≡◌, ◌<◌, ℕ, ◌-◌, List, sym, ap, subst, ◌∙◌, arith}
use Rattle.std.proofs.lemmas.Result.{on_ok_weaker}
use Rattle.exb_model.specs.ETags.{Tag, TagFits, tagged}
use Rattle.exb_extender.specs.Forwarding.{channel_tag}
use Rattle.exb_model.specs.Tree.{Shape, on, trunk}
use Rattle.exb_control.specs.ActiveConfigs.{held_in}
use Rattle.exb_world_spec.specs.BridgeLearning.{channel_at_trunk}
use Rattle.exb_world_spec.specs.ExtenderSteps.{hung_on}
use Rattle.exb_world_spec.specs.ControlFrames.{puts}
use Rattle.exb_bridge.specs.BridgeWorlds.{whole, world_in, Does}
use Rattle.exb_bridge.proofs.HungExtenders.{hung_numbered}
use Rattle.exb_bridge.proofs.ExtenderRequests.{channel_fits, trunk_below, channel_has, tagged_on}
use Rattle.exb_bridge.proofs.requests.put_deeper.Goals as goal

pub tag_into-requires-clause-fits : goal.tag_into-requires-clause-fits
tag_into-requires-clause-fits g c =
    let f = c.args.bridge.now.control.active in
    subst TagFits (sym c.channel_tag.ensures) (channel_fits f.shape (held_in f) c.on.result c.in-Some-of.channel (sym c.of.ensures ∙ c.in-Some-of.is))

pub put-requires : goal.put-requires
put-requires g c =
    let low : c.trunk-trunk.result - 1 < 64 = search rules in (
      c.requires.0,
      (low, hung_numbered c.tree-tree.result.now c.is_tree.ensures c.at.result c.in-Some.below (sym c.hung_on.ensures ∙ c.in-Some.is)),
    )

pub returns : goal.returns
returns g c =
    let t = c.args.site.now.tree in
    let n = c.args.extender in
    let core = (whole g.rest c.args.bridge.now) in
    let f = core.control.active in
    let below = trunk_below t c.tree-tree.result.now n c.at.result c.trunk-trunk.result c.hung_on.result c.in-Some.below c.tree-tree.ensures c.trunk-trunk.ensures.value c.at.ensures c.hung_on.ensures c.in-Some.is in
    let has = channel_has t f.shape (held_in f) n c.on.result c.of.result c.in-Some-of.channel c.requires.0.shape c.on.ensures c.of.ensures c.in-Some-of.is in
    let spelled = c.from_vec.ensures ∙ c.in_ok-tag_into.ensures ∙ ap (λ (x : Tag). tagged c.args.frame.now x) c.channel_tag.ensures in
    let top = c.trunk-trunk.ensures.value in
    let place : c.trunk-trunk.result - 1 ≡ trunk c.tree-tree.result.now n = omega (arith, top) in
    let here : c.trunk-trunk.result - 1 ≡ trunk t n = place ∙ ap (λ (u : Shape). trunk u n) c.tree-tree.ensures in
    on_ok_weaker c.put.result (λ done.
    tagged_on c.args.site.now core (whole g.rest c.put.new.bridge) (trunk t n) (hung_on t (trunk t n)) (channel_at_trunk t (held_in f) (on t n)) c.args.frame.now c.in-Some.below c.in-Some-of.channel c.args.post.now.log c.put.new.post.log below has
    (subst (λ (k : ℕ). Does (puts k c.in-Some.below (tagged c.args.frame.now (channel_tag c.in-Some-of.channel)) (world_in core)) c.args.site.now (whole g.rest c.put.new.bridge) c.args.post.now.log c.put.new.post.log) here
    (subst (λ (x : List ℕ). Does (puts (c.trunk-trunk.result - 1) c.in-Some.below x (world_in core)) c.args.site.now (whole g.rest c.put.new.bridge) c.args.post.now.log c.put.new.post.log) spelled done))) c.put.ensures
