use Rattle.std.proofs.Common.{ℕ, ◌-◌, List, ap, sym, ◌∙◌}
use Rattle.std.proofs.lemmas.Result.{on_ok_weaker}
use Rattle.exb_model.specs.ETags.{read_etag, stripped}
use Rattle.exb_model.specs.Tree.{Shape, is_external}
use Rattle.exb_world_spec.specs.DataFrames.{holder_by}
use Rattle.exb_bridge.specs.BridgeWorlds.{whole, world_in}
use Rattle.exb_bridge.proofs.RelayedFrames.{from_port}
use Rattle.exb_bridge.proofs.incoming.take_data.Goals as goal

pub returns : goal.returns
returns g c =
    let s = c.args.site.now in
    let w = world_in (whole g.rest c.args.bridge.now) in
    let k = c.args.bridge_port - 1 in
    let bytes = c.args.word.bytes in
    let some = sym c.in-Some.is ∙ c.holder.ensures ∙ ap (λ (f : List ℕ). holder_by w k (read_etag f)) c.bytes.ensures in
    let external = ap (λ (t : Shape). is_external t c.in-Some.port) (sym c.tree.ensures) ∙ sym c.is_external.ensures ∙ c.if-not-is_external.false in
    on_ok_weaker c.come_in.result (λ done.
    from_port s (whole g.rest c.args.bridge.now) (whole g.rest c.come_in.new.bridge) (holder_by w k (read_etag bytes)) c.in-Some.port c.args.word.stamp c.in-Some-stamp.stamp (stripped bytes) c.strip_in_place.new.bytes c.args.room.now.post.log c.come_in.new.room.post.log some
    (sym c.stamp.ensures ∙ c.in-Some-stamp.is) external (c.strip_in_place.ensures ∙ ap (λ (f : List ℕ). stripped f) c.unboxed-bytes.ensures) done)
    c.come_in.ensures
