use Rattle.std.proofs.Common.{ap, sym, ◌∙◌, arith}
use Rattle.exb_lldp.specs.Announcements.{announced}
use Rattle.exb_lldp.proofs.RoundTrip.{spelling_is, announced-spelling}
use Rattle.exb_lldp.proofs.writer.write.Goals as goal

pub returns-clause-spelled : goal.returns-clause-spelled
returns-clause-spelled c =
    rw (c.append_tlv-5.ensures, c.append_tlv-4.ensures, c.append_tlv-3.ensures, c.append_tlv-2.ensures, c.append_tlv.ensures, c.append-3.ensures, c.append-2.ensures, c.append.ensures, c.clear.ensures)
    (sym (spelling_is c.args.announce.now (omega arith)))

pub returns-clause-read_again : goal.returns-clause-read_again
returns-clause-read_again c = ap announced (returns-clause-spelled c) ∙ announced-spelling c.args.announce.now (omega arith) c.requires
