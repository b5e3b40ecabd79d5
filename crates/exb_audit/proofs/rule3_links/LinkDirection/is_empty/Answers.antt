use Rattle.exb_audit.specs.Rule3Links.{before_in, words_of}
use Rattle.exb_audit.proofs.Rule3Links.{all_came}
use Rattle.std.proofs.lemmas.List.{length-map}
use Rattle.std.proofs.Common.{arith}
use Rattle.exb_audit.proofs.rule3_links.LinkDirection.is_empty.Goals as goal

pub returns : goal.returns
returns c = λ x s. (
    let many = length-map c.args.self.now.sent.items (λ w. w.now) in
    let ok = c.args.self.now.sent.ok.0 in
    let n = c.len.ensures in
    all_came (before_in c.args.self.now.before) (words_of c.args.self.now.sent.items) c.args.self.now.came x c.len.result (omega (arith, many, ok, n)) s
    )
