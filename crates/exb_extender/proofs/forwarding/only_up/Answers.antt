use Rattle.std.proofs.Common.{sym, ◌∙◌}
use Rattle.exb_extender.specs.Tables.{tables_of}
use Rattle.exb_extender.proofs.SingleSideLemmas.{goes_on_up}
use Rattle.exb_extender.proofs.forwarding.only_up.Goals as goal

pub returns : goal.returns
returns c =
    goes_on_up (tables_of c.args.tables.now) c.args.port c.args.frame.now (sym c.cascade.ensures ∙ c.if-not-cascade.false) (sym c.names_channel.ensures ∙ c.if-not-names_channel.false)
