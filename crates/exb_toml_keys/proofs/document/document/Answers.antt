use Rattle.std.proofs.Common.{ap, ◌∙◌, Option}
use Rattle.std.specs.Option.{ok_or}
use Rattle.toml.specs.Data.{Members}
use Rattle.exb_toml_keys.specs.Faults.{not_toml}
use Rattle.exb_toml_keys.proofs.Documents.{document_of_text, document_of_no_text}
use Rattle.exb_toml_keys.proofs.KeyOrder.{document_sorted}
use Rattle.exb_toml_keys.proofs.document.document.Goals as goal

pub returns-in-Err-clause-exact : goal.returns-in-Err-clause-exact
returns-in-Err-clause-exact c = document_of_no_text c.args.most c.args.file.now c.if-file-most.false c.in-Err.ensures.cases.0

pub returns-in-Ok-table_from_str-clause-exact : goal.returns-in-Ok-table_from_str-clause-exact
returns-in-Ok-table_from_str-clause-exact c =
    let e = document_of_text c.args.most c.args.file.now c.in-Ok.text.now c.if-file-most.false c.in-Ok.ensures.cases.0 c.in-Ok.ensures.cases.1 in
    e ∙ ap (λ (o : Option Members). ok_or o not_toml) c.in-Ok-table_from_str.ensures.ok

pub returns-in-Ok-table_from_str-clause-sorted : goal.returns-in-Ok-table_from_str-clause-sorted
returns-in-Ok-table_from_str-clause-sorted c = document_sorted c.in-Ok.text.now _ c.in-Ok-table_from_str.ensures.ok
