use Rattle.std.proofs.Common.{◌∙◌, sym}
use Rattle.exb_config.specs.Tables.{bridge_of}
use Rattle.exb_relay.proofs.IngressSteps.{let_in_by}
use Rattle.exb_relay.proofs.ingress.admit.Goals as goal

pub returns-then-lets_in-clause-admitted : goal.returns-then-lets_in-clause-admitted
returns-then-lets_in-clause-admitted c =
    sym c.if-lets_in.true
    ∙ let_in_by (bridge_of c.args.config.now) c.args.port c.args.vid c.in_ok-members.members.now c.lets_in.result (sym c.in_ok-members.ensures.known) c.in_ok-members.ensures.kinds c.lets_in.ensures

pub returns-else-lets_in-clause-admitted : goal.returns-else-lets_in-clause-admitted
returns-else-lets_in-clause-admitted c =
    sym c.if-lets_in.false
    ∙ let_in_by (bridge_of c.args.config.now) c.args.port c.args.vid c.in_ok-members.members.now c.lets_in.result (sym c.in_ok-members.ensures.known) c.in_ok-members.ensures.kinds c.lets_in.ensures
