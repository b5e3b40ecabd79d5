use Rattle.std.proofs.Common.{◌-◌, subst, sym, ◌∙◌}
use Rattle.exb_model.specs.Tree.{IsTree}
use Rattle.exb_model.proofs.TreeTrunks.{hung_cascade}
use Rattle.exb_bridge.specs.TreeIndexes.{limits_in}
use Rattle.exb_bridge.specs.BridgeWorlds.{whole}
use Rattle.exb_bridge.proofs.RelayedFrames.{bridge_control}
use Rattle.exb_bridge.proofs.incoming.take.Goals as goal

pub take_data-requires : goal.take_data-requires
take_data-requires g c = (
  c.requires.0,
  (c.requires.1.0, (c.requires.1.1.0, hung_cascade c.args.site.now.tree (subst IsTree c.tree.ensures c.is_tree.ensures) c.args.below (c.args.bridge_port - 1) c.requires.1.1.1.0)),
)

pub returns-in_ok-take_control : goal.returns-in_ok-take_control
returns-in_ok-take_control g c =
    bridge_control c.args.site.now (limits_in c.args.site.now) (whole g.rest c.args.bridge.now) (whole g.rest c.take_control.new.bridge) (c.args.bridge_port - 1) c.args.below c.args.word c.bytes-frame.result.now c.args.room.now.post.log c.take_control.new.room.post.log
    (sym c.is_control.ensures ∙ c.if-is_control.true) c.bytes-frame.ensures c.in_ok-take_control.ensures
