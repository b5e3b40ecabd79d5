use Rattle.std.proofs.Common.{◌≡◌, ◌∙◌, ◌++◌, List, ap, sym}
use Rattle.std.specs.Prelude.{reverse}
use Rattle.exb_net_file.specs.declared.members.NetMember.{NetMember}
use Rattle.exb_net_file.proofs.Reversal.{none_left, turned_all, turned_more}
use Rattle.exb_net_file.proofs.net_parts.turned.Goals as goal

pub loop-member-preserved : goal.loop-member-preserved
loop-member-preserved c =
    ap (λ (zs : List NetMember). zs ++ reverse c.pop.new.self) c.in_ok-push.ensures.ok
    ∙ (sym (turned_more c.loop-member.back c.loop-member.members c.pop.new.self c.in-Some.member c.in-Some.ensures.items) ∙ c.loop-member.invariant)

pub returns : goal.returns
returns c = sym (turned_all c.loop-member.back c.loop-member.members (none_left c.loop-member.members c.in_default.ensures.some.1)) ∙ c.loop-member.invariant
