use Rattle.std.proofs.Common.{◌∙◌, sym, subst}
use Rattle.exb_model.specs.Setup.{IsValid}
use Rattle.exb_net_file.specs.declared.members.NetMember.{NetMember}
use Rattle.exb_net_file.proofs.LoopSteps.{found_here, found_later, found_none}
use Rattle.exb_net_file.proofs.wires.member_of.Goals as goal

pub returns-then-named-clause-value : goal.returns-then-named-clause-value
returns-then-named-clause-value c = found_here c.args.name.now c.args.members.now c.loop-index.index c.index-members-index.result c.loop-index-test.true (sym c.index-members-index.is) (sym c.is_named-named.ensures ∙ c.if-named.true) c.loop-index.invariant

pub loop-index-preserved : goal.loop-index-preserved
loop-index-preserved c = found_later c.args.name.now c.args.members.now c.loop-index.index c.index-members-index.result c.loop-index-test.true (sym c.index-members-index.is) (sym c.is_named-named.ensures ∙ c.if-named.false) c.loop-index.invariant

pub returns-clause-value : goal.returns-clause-value
returns-clause-value c = found_none c.args.name.now c.args.members.now c.loop-index.index c.loop-index-test.false c.loop-index.invariant

pub returns-then-named-clause-valid : goal.returns-then-named-clause-valid
returns-then-named-clause-valid c = subst (λ (m : NetMember). IsValid m.topology.setup) (sym c.index-members-index.is) (c.requires.valid c.loop-index.index c.index-members-index.result c.loop-index-test.true)
