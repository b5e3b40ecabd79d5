use Rattle.exb_config.specs.Tables.{bridge_of}
use Rattle.exb_plan.proofs.Presences.{up_else}
use Rattle.exb_plan.proofs.presence.goes_up.Goals as goal

pub returns-in_default : goal.returns-in_default
returns-in_default c = up_else c.args.tree.now (bridge_of c.args.config.now) c.args.command.now c.in_default.not-Up
