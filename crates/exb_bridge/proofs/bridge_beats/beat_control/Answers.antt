use Rattle.std.proofs.Common.{sym, ◌∙◌}
use Rattle.exb_bridge.specs.BridgeWorlds.{whole}
use Rattle.exb_bridge.proofs.Beats.{beats_settled}
use Rattle.exb_bridge.proofs.bridge_beats.beat_control.Goals as goal

pub returns-then-settled : goal.returns-then-settled
returns-then-settled g c = beats_settled c.args.site.now.tree c.args.site.now (whole g.rest c.args.bridge.now) c.args.room.now.post.log (sym c.settled.ensures ∙ c.if-settled.true) c.requires.0
