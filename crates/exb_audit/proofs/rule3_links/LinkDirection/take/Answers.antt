use Rattle.exb_audit.specs.Rule3Links.{before_in, words_of}
use Rattle.exb_audit.proofs.Rule3Links.{data_comes, data_wrong}
use Rattle.std.proofs.Common.{sym, ◌∙◌, arith}
use Rattle.exb_audit.proofs.rule3_links.LinkDirection.take.Goals as goal

pub returns-then-not-is_next-clause-no : goal.returns-then-not-is_next-clause-no
returns-then-not-is_next-clause-no c = λ z x s.
    data_wrong (before_in c.args.self.now.before) (words_of c.args.self.now.sent.items) c.args.self.now.came x s c.args.frame.now (sym c.is_control_frame.ensures ∙ c.if-is_control_frame.false) (sym c.is_next.ensures.value ∙ c.if-not-is_next.true)

pub overflow_add-self : goal.overflow_add-self
overflow_add-self c = (let fits = c.is_next.ensures.fits c.if-not-is_next.false in omega (arith, fits))

pub returns-clause-yes : goal.returns-clause-yes
returns-clause-yes c = λ z x s.
    data_comes (before_in c.args.self.now.before) (words_of c.args.self.now.sent.items) c.args.self.now.came x s c.args.frame.now (sym c.is_control_frame.ensures ∙ c.if-is_control_frame.false) (sym c.is_next.ensures.value ∙ c.if-not-is_next.false)
