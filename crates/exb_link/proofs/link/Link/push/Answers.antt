use Rattle.std.proofs.Common.{sym, ◌∙◌}
use Rattle.exb_link.proofs.Calls.{frame_pushed, control_pushed}
use Rattle.exb_link.proofs.link.Link.push.Goals.{then-is_control+in_ok-push_control, else-is_control+in_ok-push_frame}
use Rattle.exb_link.proofs.link.Link.push.Goals as goal

pub invariant_of-self-then-is_control : goal.invariant_of-self-then-is_control
invariant_of-self-then-is_control c =
    (control_pushed c.self.inside.ahead c.self.inside.frames.items c.self.inside.control.items c.args.self.now c.self.invariant c.self.view_is c.args.word (sym c.is_control.ensures ∙ c.if-is_control.true)
    c.one_more_behind-self-inside.result c.one_more_behind-self-inside.new.frames.items c.push_control.new.control.items
    c.one_more_behind-self-inside.ensures.ahead c.one_more_behind-self-inside.ensures.frames c.in_ok-push_control.ensures.ok).0

pub invariant_of-self-in-Continue-branch-2 : goal.invariant_of-self-in-Continue-branch-2
invariant_of-self-in-Continue-branch-2 c =
    (frame_pushed c.self.inside.ahead c.self.inside.frames.items c.self.inside.control.items c.args.self.now c.self.invariant c.self.view_is c.args.word (sym c.is_control.ensures ∙ c.if-is_control.false) c.push_frame.new.frames.items c.in_ok-push_frame.ensures.ok).0

pub returns-clause-ok : goal.returns-clause-ok
returns-clause-ok c =
    elim c.if-is_control.branch [
      | then-is_control+in_ok-push_control w ↦
          w.self-is ∙ (control_pushed c.self.inside.ahead c.self.inside.frames.items c.self.inside.control.items c.args.self.now c.self.invariant c.self.view_is c.args.word (sym c.is_control.ensures ∙ w.if-is_control.true)
          w.one_more_behind-self-inside.result w.one_more_behind-self-inside.new.frames.items w.push_control.new.control.items
          w.one_more_behind-self-inside.ensures.ahead w.one_more_behind-self-inside.ensures.frames w.in_ok-push_control.ensures.ok).1
      | else-is_control+in_ok-push_frame w ↦
          w.self-is ∙ (frame_pushed c.self.inside.ahead c.self.inside.frames.items c.self.inside.control.items c.args.self.now c.self.invariant c.self.view_is c.args.word (sym c.is_control.ensures ∙ w.if-is_control.false) w.push_frame.new.frames.items w.in_ok-push_frame.ensures.ok).1
    ]
