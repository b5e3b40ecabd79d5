use Rattle.std.proofs.Common.{◌≡◌, ◌-◌, ◌≤◌, length, None}
use Rattle.exb_lldp.specs.declared.tlv.TlvPosition.TheVariants.{Later}
use Rattle.exb_lldp.proofs.TlvSteps.{counted}
use Rattle.exb_lldp.proofs.reader.later_port_count.Given as goal

abbrev pub invariant-tlvs : goal.invariant-tlvs
invariant-tlvs l = record { within : l.at ≤ length l.frame; rest : counted Later l.count l.frame l.at ≡ counted Later None l.frame l.start }

abbrev pub decreases-tlvs : goal.decreases-tlvs
decreases-tlvs l = length l.frame - l.at
