use Rattle.std.proofs.Common.{arith, sym, ◌∙◌}
use Rattle.exb_link.proofs.Calls.{data_first, data_none, rest_fits, frame_taken, without_frame_none}
use Rattle.exb_link.proofs.link.Link.take_data.Goals as goal

pub overflow_add-self : goal.overflow_add-self
overflow_add-self c =
    let h = rest_fits c.self.inside.ahead c.self.inside.frames.items c.self.inside.control.items c.args.self.now c.self.invariant c.self.view_is c.in-Some.field-0 c.pop_front.new.self.items c.in-Some.ensures.items in
    let ok = c.self.inside.control.ok.0 in
    let small = c.self.inside.control.small in
    omega (arith, h, ok, small.0, small.1)

pub invariant_of-self : goal.invariant_of-self
invariant_of-self c = (frame_taken c.self.inside.ahead c.self.inside.frames.items c.self.inside.control.items c.args.self.now c.self.invariant c.self.view_is c.in-Some.field-0 c.pop_front.new.self.items c.in-Some.ensures.items).0

pub returns-in-Some-clause-word : goal.returns-in-Some-clause-word
returns-in-Some-clause-word c = data_first c.self.inside.ahead c.self.inside.frames.items c.self.inside.control.items c.args.self.now c.self.invariant c.self.view_is c.in-Some.field-0 c.pop_front.new.self.items c.in-Some.ensures.items

pub returns-in-Some-clause-rest : goal.returns-in-Some-clause-rest
returns-in-Some-clause-rest c = (frame_taken c.self.inside.ahead c.self.inside.frames.items c.self.inside.control.items c.args.self.now c.self.invariant c.self.view_is c.in-Some.field-0 c.pop_front.new.self.items c.in-Some.ensures.items).1

pub returns-in-None-clause-word : goal.returns-in-None-clause-word
returns-in-None-clause-word c = data_none c.self.inside.ahead c.self.inside.frames.items c.self.inside.control.items c.args.self.now c.self.invariant c.self.view_is (sym c.self.inside.frames.ok.0 ∙ c.in-None.ensures.cases.0)

pub returns-in-None-clause-rest : goal.returns-in-None-clause-rest
returns-in-None-clause-rest c = without_frame_none c.self.inside.ahead c.self.inside.frames.items c.self.inside.control.items c.args.self.now c.self.invariant c.self.view_is (sym c.self.inside.frames.ok.0 ∙ c.in-None.ensures.cases.0) c.pop_front.new.self.items c.in-None.ensures.items
