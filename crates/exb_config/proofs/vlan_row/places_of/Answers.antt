use Rattle.exb_config.proofs.Rows.{placed_more, placed_whole}
use Rattle.exb_config.proofs.vlan_row.places_of.Goals as goal

pub loop-device-preserved : goal.loop-device-preserved
loop-device-preserved c = placed_more c.loop-device.places c.loop-device.device c.args.members.now c.loop-device.invariant

pub returns : goal.returns
returns c = placed_whole c.loop-device.places c.loop-device.device c.args.members.now c.loop-device-test.false c.loop-device.invariant
