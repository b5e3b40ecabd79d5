use Rattle.std.proofs.Common.{sym, ap, ◌∙◌}
use Rattle.exb_extender.specs.ExtenderParts.{state_with}
use Rattle.exb_extender.specs.Machine.{Reaction}
use Rattle.exb_extender.specs.Tables.{tables_of}
use Rattle.exb_extender.proofs.ControlLemmas.{executes_next, order_stored, stored_is, executes_is, turned}
use Rattle.exb_extender.proofs.control.ExtenderControl.take_request.Goals as goal

pub invariant_of-self : goal.invariant_of-self
invariant_of-self c =
    let next = executes_next c.self.inside.session c.args.serial c.args.request c.in-Execute.request (sym c.in-Execute.ensures.due) in
    order_stored _ _ _ _ c.args.serial (tables_of c.args.tables.now) c.in-Execute.request _
    (stored_is c.self.inside.session c.take.new.self _ c.args.serial c.args.request c.in-Execute.request (tables_of c.args.tables.now) c.execute-response.result next c.in-Execute.ensures.state c.store.ensures c.execute-response.ensures.response)
    next.some c.args.tables.now.kept.some c.args.tables.now.kept.few c.self.invariant

pub returns-in-Execute-clause-state : goal.returns-in-Execute-clause-state
returns-in-Execute-clause-state c =
    let s = c.self.inside in
    rw (← c.self.view_is)
    (c.answer.ensures.state (tables_of c.execute-response.new.self)
    ∙ ap (λ (r : Reaction). r.0)
    (turned (state_with (tables_of c.args.tables.now) (record { number = s.number; session = s.session; ecp = s.ecp; beats = s.beats; opened = s.opened })) _ c.args.serial c.args.request c.in-Execute.request c.in-Execute.ensures.due
    (executes_is (tables_of c.args.tables.now) (tables_of c.execute-response.new.self) (record { number = s.number; session = s.session; ecp = s.ecp; beats = s.beats; opened = s.opened }) c.take.new.self _ c.args.serial c.args.request c.in-Execute.request c.execute-response.result _
    c.in-Execute.ensures.state c.store.ensures c.execute-response.ensures.response c.execute-response.ensures.tables c.is_opened-self-inside.ensures)))

pub returns-in-Execute-clause-sends : goal.returns-in-Execute-clause-sends
returns-in-Execute-clause-sends c =
    let s = c.self.inside in
    rw (← c.self.view_is)
    (c.answer.ensures.sends (tables_of c.execute-response.new.self)
    ∙ ap (λ (r : Reaction). r.1)
    (turned (state_with (tables_of c.args.tables.now) (record { number = s.number; session = s.session; ecp = s.ecp; beats = s.beats; opened = s.opened })) _ c.args.serial c.args.request c.in-Execute.request c.in-Execute.ensures.due
    (executes_is (tables_of c.args.tables.now) (tables_of c.execute-response.new.self) (record { number = s.number; session = s.session; ecp = s.ecp; beats = s.beats; opened = s.opened }) c.take.new.self _ c.args.serial c.args.request c.in-Execute.request c.execute-response.result _
    c.in-Execute.ensures.state c.store.ensures c.execute-response.ensures.response c.execute-response.ensures.tables c.is_opened-self-inside.ensures)))
