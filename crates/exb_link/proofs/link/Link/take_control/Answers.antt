use Rattle.std.proofs.Common.{◌∙◌}
use Rattle.exb_link.proofs.Calls.{control_of, ahead_taken, behind_taken, none_taken}
use Rattle.exb_link.proofs.link.Link.take_control.Goals.{then-at-self, else-at-self}
use Rattle.exb_link.proofs.link.Link.take_control.Goals as goal

pub returns-in_err-word-clause-word : goal.returns-in_err-word-clause-word
returns-in_err-word-clause-word c =
    let e = control_of c.self.inside.ahead c.self.inside.frames.items c.self.inside.control.items c.args.self.now c.self.invariant c.self.view_is in
    rw e (c.from_residual.ensures ∙ c.in_err-word.ensures.word)

pub returns-in_err-word-clause-rest : goal.returns-in_err-word-clause-rest
returns-in_err-word-clause-rest c = none_taken c.self.inside.ahead c.self.inside.frames.items c.self.inside.control.items c.args.self.now c.self.invariant c.self.view_is c.args.at c.in_err-word.ensures.word c.remove_at.new.words.items c.in_err-word.ensures.rest

pub invariant_of-self-then-at-self : goal.invariant_of-self-then-at-self
invariant_of-self-then-at-self c =
    (ahead_taken c.self.inside.ahead c.self.inside.frames.items c.self.inside.control.items c.args.self.now c.self.invariant c.self.view_is c.args.at c.in_ok-word.word c.if-at-self.true c.in_ok-word.ensures.word c.remove_at.new.words.items c.in_ok-word.ensures.rest).0

pub invariant_of-self-else-at-self : goal.invariant_of-self-else-at-self
invariant_of-self-else-at-self c =
    (behind_taken c.self.inside.ahead c.self.inside.frames.items c.self.inside.control.items c.args.self.now c.self.invariant c.self.view_is c.args.at c.in_ok-word.word c.if-at-self.false c.in_ok-word.ensures.word
    c.one_less_behind.new.frames.items c.remove_at.new.words.items c.one_less_behind.ensures c.in_ok-word.ensures.rest).0

pub returns-clause-word : goal.returns-clause-word
returns-clause-word c =
    let e = control_of c.self.inside.ahead c.self.inside.frames.items c.self.inside.control.items c.args.self.now c.self.invariant c.self.view_is in
    rw e c.in_ok-word.ensures.word

pub returns-clause-rest : goal.returns-clause-rest
returns-clause-rest c =
    elim c.if-at-self.branch [
      | then-at-self w ↦
          w.self-is ∙ (ahead_taken c.self.inside.ahead c.self.inside.frames.items c.self.inside.control.items c.args.self.now c.self.invariant c.self.view_is c.args.at c.in_ok-word.word w.if-at-self.true c.in_ok-word.ensures.word c.remove_at.new.words.items c.in_ok-word.ensures.rest).1
      | else-at-self w ↦
          w.self-is ∙ (behind_taken c.self.inside.ahead c.self.inside.frames.items c.self.inside.control.items c.args.self.now c.self.invariant c.self.view_is c.args.at c.in_ok-word.word w.if-at-self.false c.in_ok-word.ensures.word
          w.one_less_behind.new.frames.items c.remove_at.new.words.items w.one_less_behind.ensures c.in_ok-word.ensures.rest).1
    ]
