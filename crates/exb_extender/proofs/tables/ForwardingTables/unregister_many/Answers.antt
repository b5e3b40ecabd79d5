use Rattle.std.proofs.Common.{sym, ◌∙◌}
use Rattle.exb_csp.proofs.ExecutionLoops.{all_ecids_small, clears_good, clears_bad}
use Rattle.exb_extender.proofs.TableLemmas.{clears_code_is, unregistered, unregister_refused}
use Rattle.exb_extender.proofs.tables.ForwardingTables.unregister_many.Goals as goal

pub returns-then-not-all_known-clause-code : goal.returns-then-not-all_known-clause-code
returns-then-not-all_known-clause-code c = clears_code_is _ _ _ _ c.args.ecids.now _ (clears_bad c.args.ecids.now (sym c.all_known.ensures ∙ c.if-not-all_known.true))

pub returns-then-not-all_known-clause-tables : goal.returns-then-not-all_known-clause-tables
returns-then-not-all_known-clause-tables c = unregister_refused _ _ _ _ c.args.ecids.now (clears_bad c.args.ecids.now (sym c.all_known.ensures ∙ c.if-not-all_known.true))

pub clear_rows-requires : goal.clear_rows-requires
clear_rows-requires c = all_ecids_small c.args.ecids.now (sym c.all_known.ensures ∙ c.if-not-all_known.false)

pub returns-clause-code : goal.returns-clause-code
returns-clause-code c = clears_code_is _ _ _ _ c.args.ecids.now _ (clears_good c.args.ecids.now (sym c.all_known.ensures ∙ c.if-not-all_known.false))

pub returns-clause-tables : goal.returns-clause-tables
returns-clause-tables c = unregistered _ _ _ _ c.args.ecids.now _ (clears_good c.args.ecids.now (sym c.all_known.ensures ∙ c.if-not-all_known.false)) c.clear_rows.ensures
