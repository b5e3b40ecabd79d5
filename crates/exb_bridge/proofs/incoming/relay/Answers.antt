use Rattle.std.proofs.lemmas.Result.{on_ok_weaker}
use Rattle.exb_bridge.specs.BridgeWorlds.{whole}
use Rattle.exb_bridge.proofs.IncomingFrames.{came_can, came_sends}
use Rattle.exb_bridge.proofs.incoming.relay.Goals as goal

pub returns-clause-sends : goal.returns-clause-sends
returns-clause-sends g c =
    on_ok_weaker c.relay_and_learn.result (λ sends.
    came_sends c.args.site.now (whole g.rest c.args.bridge.now) c.args.arrival.now c.relay_and_learn.new.out.sends.items c.requires.0 (rw (c.active-active.ensures, c.as_slice-frame.ensures) at sends)
    (rw c.active-active.ensures at c.is_active_config.ensures.tree))
    c.relay_and_learn.ensures.sends

pub returns-clause-can : goal.returns-clause-can
returns-clause-can g c =
    on_ok_weaker c.relay_and_learn.result (λ sends.
    came_can c.args.site.now (whole g.rest c.args.bridge.now) c.args.arrival.now c.relay_and_learn.new.out.sends.items c.requires.0 (rw (c.active-active.ensures, c.as_slice-frame.ensures) at sends)
    (c.spaces_number.ensures c.args.bridge.now.control.active.spaces) (rw c.as_slice-frame.ensures at c.are_bytes.ensures))
    c.relay_and_learn.ensures.sends
