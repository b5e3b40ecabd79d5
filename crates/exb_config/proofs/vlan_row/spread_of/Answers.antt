use Rattle.exb_config.proofs.Rows.{spread_marked, spread_passed, spread_whole}
use Rattle.exb_config.proofs.vlan_row.spread_of.Goals.{then-is_on, else-is_on}
use Rattle.exb_config.proofs.vlan_row.spread_of.Goals as goal

pub loop-device-preserved : goal.loop-device-preserved
loop-device-preserved c =
    elim c.if-is_on.branch [
      | then-is_on w ↦ rw (w.spread-is) (spread_marked c.loop-device.spread w.mark-spread.result c.loop-device.device c.args.members.now w.mark-spread.ensures c.loop-device.invariant)
      | else-is_on w ↦ rw (w.spread-is) (spread_passed c.loop-device.spread c.loop-device.device c.args.members.now (c.is_on.ensures w.if-is_on.false) c.loop-device.invariant)
    ]

pub returns : goal.returns
returns c = spread_whole c.loop-device.spread c.loop-device.device c.args.members.now c.loop-device-test.false c.loop-device.invariant
