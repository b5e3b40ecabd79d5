use Rattle.std.proofs.Common.{subst, arith}
use Rattle.std.specs.Prelude.{All}
use Rattle.std.proofs.lemmas.List.{take_all}
use Rattle.std.proofs.lemmas.List.Elements.{All-more}
use Rattle.exb_world_spec.specs.Runs.ReachedWorlds.{HasVid}
use Rattle.exb_world.proofs.command_facts.name_vlans.Goals as goal

pub loop-command-preserved : goal.loop-command-preserved
loop-command-preserved c =
    let xs = c.args.commands.now in
    All-more HasVid xs c.loop-command.command-index c.command-item.result c.loop-command-test.true c.loop-command.invariant (subst HasVid c.command-item.is c.names_vlan.ensures)

pub returns : goal.returns
returns c = subst (All HasVid) (take_all c.loop-command.command-index c.args.commands.now (omega arith)) c.loop-command.invariant
