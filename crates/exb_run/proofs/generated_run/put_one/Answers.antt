use Rattle.std.proofs.Common.{rules, ◌≡◌, ◌++◌, ◌∷◌, [], ◌∙◌, ap, List}
use Rattle.exb_topology_tables.specs.declared.elements.Named.{Named}
use Rattle.exb_run.specs.GeneratedCaptures.{name_made}
use Rattle.exb_run.proofs.GeneratedCaptures.{keeps_more}
use Rattle.exb_run.proofs.generated_run.put_one.Goals as goal

pub returns : goal.returns
returns c =
    let capture = c.args.capture.now in
    let names : List Named = c.args.names.now.items in
    let put : c.as_str.result.now ≡ name_made capture.port = search rules in
    let named : c.in_ok-name-2.name ≡ name_made capture.port = search rules in
    let pushed : c.push.new.self.items ≡ names ++ record { port = capture.port; name = c.in_ok-name-2.name } ∷ [] = search rules in
    keeps_more capture names c.push.new.self.items _ _ c.number-number.ensures.range
    (pushed ∙ ap (λ n. names ++ record { port = capture.port; name = n } ∷ []) named) (search rules)
