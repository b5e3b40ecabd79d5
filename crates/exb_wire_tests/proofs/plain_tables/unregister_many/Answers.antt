use Rattle.std.proofs.Common.{sym, ◌∙◌, ◌<◌, subst}
use Rattle.std.specs.Prelude.{All}
use Rattle.exb_csp.proofs.ExecutionLoops.{all_ecids_small, clears_good, clears_bad}
use Rattle.exb_wire_tests.proofs.plain_tables.unregister_many.Goals as goal

pub returns-then-not-all_known-clause-code : goal.returns-then-not-all_known-clause-code
returns-then-not-all_known-clause-code c = clears_bad c.args.ecids.now (sym c.all_known.ensures ∙ c.if-not-all_known.true)

pub clear_rows-requires : goal.clear_rows-requires
clear_rows-requires c =
    subst (λ n. All (λ ecid. ecid < n) c.args.ecids.now) (sym c.requires) (all_ecids_small c.args.ecids.now (sym c.all_known.ensures ∙ c.if-not-all_known.false))

pub returns-clause-code : goal.returns-clause-code
returns-clause-code c = clears_good c.args.ecids.now (sym c.all_known.ensures ∙ c.if-not-all_known.false)
