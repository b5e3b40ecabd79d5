use Rattle.std.proofs.Common.{◌≡◌, ℕ, ◌/◌, List, arith, subst}
use Rattle.std.proofs.lemmas.Result.{on_ok_weaker}
use Rattle.exb_model.specs.Tree.{on}
use Rattle.exb_world_spec.specs.ControlFrames.{puts}
use Rattle.exb_bridge.specs.BridgeWorlds.{whole, world_in, Does}
use Rattle.exb_bridge.proofs.ExtenderRequests.{near_by}
use Rattle.exb_bridge.proofs.requests.send_to_extender.Goals as goal

pub returns-in_ok-bytes : goal.returns-in_ok-bytes
returns-in_ok-bytes g c =
    let t = c.args.site.now.tree in
    let n = c.args.extender in
    let port = c.on-port.ensures in
    let device = c.device.ensures.value in
    let is = c.if-device-eq0.true in
    let place = c.place.ensures.value in
    let low : on t n / 64 ≡ 0 = omega (arith, port, device, is) in
    let here : c.place.result ≡ on t n = omega (arith, port, device, is, place) in
    on_ok_weaker c.put.result (λ done.
    near_by t c.args.site.now (whole g.rest c.args.bridge.now) (whole g.rest c.put.new.bridge) n c.args.frame.now c.args.post.now.log c.put.new.post.log low
    (subst (λ (k : ℕ). Does (puts k n c.args.frame.now (world_in (whole g.rest c.args.bridge.now))) c.args.site.now (whole g.rest c.put.new.bridge) c.args.post.now.log c.put.new.post.log) here
    (subst (λ (x : List ℕ). Does (puts c.place.result n x (world_in (whole g.rest c.args.bridge.now))) c.args.site.now (whole g.rest c.put.new.bridge) c.args.post.now.log c.put.new.post.log) c.in_ok-bytes.ensures done))) c.put.ensures
