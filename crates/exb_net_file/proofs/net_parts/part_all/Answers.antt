use Rattle.std.proofs.Common.{◌∙◌, sym}
use Rattle.exb_net_file.specs.SetupParts.{rest_of, setup_in}
use Rattle.exb_net_file.proofs.Reversal.{mapped_all, mapped_more, none_left}
use Rattle.exb_net_file.proofs.net_parts.part_all.Goals as goal

pub loop-member-preserved : goal.loop-member-preserved
loop-member-preserved c = record {
  setups = sym (mapped_more setup_in c.loop-member.setups c.part.new.setups c.loop-member.back c.pop.new.self c.in-Some.member c.in-Some.ensures.items c.in_ok-part.ensures.setups) ∙ c.loop-member.invariant.setups;
  rests = sym (mapped_more rest_of c.loop-member.rests c.part.new.rests c.loop-member.back c.pop.new.self c.in-Some.member c.in-Some.ensures.items c.in_ok-part.ensures.rests) ∙ c.loop-member.invariant.rests;
}

pub returns-clause-setups : goal.returns-clause-setups
returns-clause-setups c = sym (mapped_all setup_in c.loop-member.setups c.loop-member.back (none_left c.loop-member.back c.in_default.ensures.some.1)) ∙ c.loop-member.invariant.setups

pub returns-clause-rests : goal.returns-clause-rests
returns-clause-rests c = sym (mapped_all rest_of c.loop-member.rests c.loop-member.back (none_left c.loop-member.back c.in_default.ensures.some.1)) ∙ c.loop-member.invariant.rests
