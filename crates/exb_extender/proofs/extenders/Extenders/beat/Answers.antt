use Rattle.std.proofs.Common.{ap, sym, ◌∙◌}
use Rattle.exb_extender.specs.Machine.{ExtenderState, Beats, react}
use Rattle.exb_extender.proofs.ExtendersByNumber.{far_after, far_found, not_none, noted_after, same_found}
use Rattle.exb_extender.proofs.extenders.Extenders.beat.Goals as goal

pub invariant_of-self : goal.invariant_of-self
invariant_of-self c =
    let d = c.self.inside in
    noted_after d.ports d.extenders.items d.passed c.args.self.now c.args.number _ c.index_mut.result.now c.self.view_is c.requires.there c.index_mut.ensures.value
    c.put_back.new.extender c.in-Some.extender d.sending d.waiting c.with_bit-self-inside.result c.with_bit-self-inside-in-Some.result c.idle-busy.result c.rests-wakes.result c.in-Some.is c.self.invariant
    c.with_bit-self-inside.ensures c.with_bit-self-inside-in-Some.ensures c.idle-busy.ensures.idle c.rests-wakes.ensures

pub returns-in-Some-clause-state : goal.returns-in-Some-clause-state
returns-in-Some-clause-state c =
    let d = c.self.inside in
    far_after d.ports d.extenders.items d.passed c.args.self.now c.args.number _ c.index_mut.result.now c.self.view_is c.requires.there c.index_mut.ensures.value
    c.put_back.new.extender c.in-Some.extender (λ s. (react Beats s).0) c.in-Some.is (c.put_back.ensures ∙ c.beat.ensures.state ∙ ap (λ (s : ExtenderState). (react Beats s).0) c.pass.ensures)

pub returns-in-Some-clause-sends : goal.returns-in-Some-clause-sends
returns-in-Some-clause-sends c =
    let d = c.self.inside in
    let far = far_found d.ports d.extenders.items d.passed c.args.self.now c.args.number _ c.index_mut.result.now c.self.view_is c.requires.there c.index_mut.ensures.value c.in-Some.extender c.in-Some.is in
    c.beat.ensures.sends ∙ ap (λ (s : ExtenderState). (react Beats s).1) (c.pass.ensures ∙ sym far)

pub returns-in-Some-clause-same : goal.returns-in-Some-clause-same
returns-in-Some-clause-same c =
    let d = c.self.inside in
    same_found d.ports d.extenders.items d.passed c.args.self.now c.args.number _ c.index_mut.result.now c.self.view_is c.requires.there c.index_mut.ensures.value
    c.put_back.new.extender c.in-Some.extender c.in-Some.is
    (ap (λ (s : ExtenderState). s.tables.ports) c.put_back.ensures ∙ c.beat.ensures.device.ports ∙ ap (λ (s : ExtenderState). s.tables.ports) c.pass.ensures)

pub returns-in_default-clause-state : goal.returns-in_default-clause-state
returns-in_default-clause-state c =
    let d = c.self.inside in
    absurd (not_none d.ports d.extenders.items d.passed c.args.self.now c.args.number _ c.index_mut.result.now c.self.view_is c.requires.there c.index_mut.ensures.value c.in_default.is)

pub returns-in_default-clause-sends : goal.returns-in_default-clause-sends
returns-in_default-clause-sends c =
    let d = c.self.inside in
    absurd (not_none d.ports d.extenders.items d.passed c.args.self.now c.args.number _ c.index_mut.result.now c.self.view_is c.requires.there c.index_mut.ensures.value c.in_default.is)

pub returns-in_default-clause-none : goal.returns-in_default-clause-none
returns-in_default-clause-none c =
    let d = c.self.inside in
    absurd (not_none d.ports d.extenders.items d.passed c.args.self.now c.args.number _ c.index_mut.result.now c.self.view_is c.requires.there c.index_mut.ensures.value c.in_default.is)
