use Rattle.std.proofs.Common.{[], sym, ◌∙◌, ◌<◌, subst}
use Rattle.std.specs.Prelude.{All}
use Rattle.exb_wire_tests.specs.PlainStates.{tables_in}
use Rattle.exb_csp.proofs.ExecutionLoops.{all_rows_small}
use Rattle.exb_wire_tests.proofs.plain_tables.register_many.Goals as goal

pub set_rows-requires : goal.set_rows-requires
set_rows-requires c =
    subst (λ n. All (λ row. row.ecid < n) c.args.rows.now) (sym c.requires)
    (all_rows_small (tables_in c.args.own.now [] c.args.words.now) c.args.rows.now (sym c.rows_code-code.ensures ∙ c.if-code-ne0.false))
