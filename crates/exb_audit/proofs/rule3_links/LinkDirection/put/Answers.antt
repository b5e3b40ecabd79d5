use Rattle.exb_audit.specs.Rule3Links.{before_in, words_of, some_or, noted, IsLink}
use Rattle.exb_audit.proofs.Rule3Links.{control_goes, data_goes}
use Rattle.std.proofs.lemmas.List.{length-map, map-append}
use Rattle.std.proofs.lemmas.Result.{on_ok_weaker}
use Rattle.exb_trace_spec.specs.TraceChecker.{goes_out}
use Rattle.std.specs.Prelude.{length}
use Rattle.std.proofs.Common.{◌≡◌, ◌∷◌, ◌++◌, [], sym, ◌∙◌, ap, subst, arith}
use Rattle.exb_audit.proofs.rule3_links.LinkDirection.put.Goals as goal

pub returns-then-is_control_frame : goal.returns-then-is_control_frame
returns-then-is_control_frame c =
    on_ok_weaker c.note.result (λ e x s. (
    let mapped = length-map c.args.self.now.sent.items (λ w. w.now) in
    let ok = c.args.self.now.sent.ok.0 in
    let n = c.len.ensures in
    let many : c.len.result ≡ length (words_of c.args.self.now.sent.items) = omega (arith, mapped, ok, n) in
    control_goes (before_in c.args.self.now.before) (words_of c.args.self.now.sent.items) c.args.self.now.came x s c.args.frame.now (before_in c.note.new.before) (sym c.is_control_frame.ensures ∙ c.if-is_control_frame.true)
    (λ g. e g ∙ ap (λ k. some_or (before_in c.args.self.now.before g) (noted c.args.frame.now k g)) many)
    )) c.note.ensures

pub returns : goal.returns
returns c = λ x s. (
    let words : words_of c.push.new.self.items ≡ words_of c.args.self.now.sent.items ++ c.args.frame.now ∷ [] = ap words_of c.in_ok-push.ensures.items ∙ map-append (λ w. w.now) c.args.self.now.sent.items (c.args.frame ∷ []) in
    subst (λ ws. IsLink (before_in c.args.self.now.before) ws c.args.self.now.came (goes_out (c.args.frame.now ∷ []) x)) (sym words)
    (data_goes (before_in c.args.self.now.before) (words_of c.args.self.now.sent.items) c.args.self.now.came x s c.args.frame.now (sym c.is_control_frame.ensures ∙ c.if-is_control_frame.false))
    )
