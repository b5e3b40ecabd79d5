use Rattle.std.specs.List.{All}
use Rattle.std.proofs.Common.{sym, subst, ◌∙◌}
use Rattle.exb_model.specs.Learning.{passes}
use Rattle.exb_world_spec.specs.Effects.{only}
use Rattle.exb_world_spec.specs.DataFrames.{sends_all, sends_for}
use Rattle.exb_bridge.specs.Sends.{CanSend, learns}
use Rattle.exb_bridge.specs.BridgeWorlds.{whole, world_in}
use Rattle.exb_bridge.proofs.IncomingFrames.{has_passed, sends_none}
use Rattle.exb_bridge.proofs.RemainingEffects.{does_then}
use Rattle.exb_bridge.proofs.PartChanges.{does_nothing}
use Rattle.exb_bridge.proofs.RelayedFrames.{does_as}
use Rattle.exb_bridge.proofs.incoming.relay_on.Goals as goal

pub send_all-requires : goal.send_all-requires
send_all-requires g c = (
  (c.in_ok-relayed.ensures.does c.args.room.now.post.log).at,
  (
    has_passed (world_in (whole g.rest c.args.bridge.now)).control.bridge c.args.arrival.now _ (rw c.as_slice.ensures at c.are_bytes.ensures) (sym c.in_ok-relayed.ensures.ingress ∙ c.in-Passed.is),
    subst (All CanSend) (sym c.as_slice-sends.ensures.value) c.in_ok-relayed.ensures.can,
  ),
)

pub returns-in-Dropped-clause-does : goal.returns-in-Dropped-clause-does
returns-in-Dropped-clause-does g c =
    let s = c.args.site.now in
    let w = world_in (whole g.rest c.args.bridge.now) in
    let a = c.args.arrival.now in
    let d = (whole g.rest c.relay.new.bridge) in
    let log = c.args.room.now.post.log in
    let done = c.in_ok-relayed.ensures in
    does_then (learns a w) (sends_all s.tree a (sends_for s.tree w a) (passes w.control.bridge a.port a.bytes)) s d d log log log (done.does log)
    (does_as _ (only (world_in d)) s d log log (sends_none s.tree a w (world_in d) (sym done.ingress ∙ c.in-Dropped.is)) (does_nothing s d log (done.does log).at))
