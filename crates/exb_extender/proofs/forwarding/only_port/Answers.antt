use Rattle.std.proofs.Common.{arith, sym, ◌∙◌}
use Rattle.exb_frame.specs.TagValues.{tag_of}
use Rattle.exb_extender.specs.Tables.{tables_of}
use Rattle.exb_extender.proofs.SingleSideLemmas.{goes_at}
use Rattle.exb_extender.proofs.forwarding.only_port.Goals as goal

pub returns-in-Some : goal.returns-in-Some
returns-in-Some c =
    let word = c.row-word.result in
    let small = c.row-word.type_inv in
    goes_at (tables_of c.args.tables.now) (tag_of c.args.tag.now) word c.in-Some.form c.if-word-eq0.false (omega (arith, small)) c.row-word.ensures c.if-word-at-ne0.false (sym c.form_at.ensures ∙ c.in-Some.is)
