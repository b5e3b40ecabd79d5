use Rattle.std.proofs.Common.{[], sym, ◌∙◌}
use Rattle.exb_wire_tests.specs.PlainStates.{tables_in}
use Rattle.exb_csp.proofs.ExecutionLoops.{code_stray, code_taken, code_none}
use Rattle.exb_wire_tests.proofs.plain_tables.row_code.Goals as goal

pub returns-then-has_stray : goal.returns-then-has_stray
returns-then-has_stray c =
    code_stray (tables_in c.args.own.now [] c.args.words.now) c.args.earlier.now c.args.row.ecid c.args.row.mask
    (sym c.is_ecid.ensures ∙ c.if-not-is_ecid.false) (sym (c.has_stray.ensures c.args.words.now) ∙ c.if-has_stray.true)

pub returns-then-is_taken : goal.returns-then-is_taken
returns-then-is_taken c =
    code_taken (tables_in c.args.own.now [] c.args.words.now) c.args.earlier.now c.args.row.ecid c.args.row.mask
    (sym c.is_ecid.ensures ∙ c.if-not-is_ecid.false) (sym (c.has_stray.ensures c.args.words.now) ∙ c.if-has_stray.false) (sym c.is_taken.ensures ∙ c.if-is_taken.true)

pub returns : goal.returns
returns c =
    code_none (tables_in c.args.own.now [] c.args.words.now) c.args.earlier.now c.args.row.ecid c.args.row.mask
    (sym c.is_ecid.ensures ∙ c.if-not-is_ecid.false) (sym (c.has_stray.ensures c.args.words.now) ∙ c.if-has_stray.false) (sym c.is_taken.ensures ∙ c.if-is_taken.false)
