use Rattle.std.proofs.Common.{ap, sym, ◌∙◌}
use Rattle.exb_extender.specs.Fields.{state_of}
use Rattle.exb_extender.specs.Machine.{ExtenderState, Arrives, react}
use Rattle.exb_extender.specs.IdleExtender.{rested}
use Rattle.exb_extender.specs.Extenders.{far_of}
use Rattle.exb_extender.proofs.ExtendersByNumber.{far_after, not_none, noted_same, same_found, tables_found}
use Rattle.exb_extender.proofs.DataFrames.{can_take, same_sends, stays}
use Rattle.exb_extender.proofs.SidesSent.{sides_comes, can_go}
use Rattle.exb_extender.proofs.extenders.Extenders.forward.Goals as goal
use Rattle.exb_extender.proofs.extenders.Extenders.forward.Goals.{in-Some, in_default}

pub invariant_of-self : goal.invariant_of-self
invariant_of-self c =
    let d = c.self.inside in
    elim c.match-index_mut.branch [
      | in-Some w ↦
          rw w.self-inside-is
          (noted_same d.ports d.extenders.items d.passed c.args.self.now c.args.number _ c.index_mut.result.now c.self.view_is c.requires.there c.index_mut.ensures.value
          w.take.new.self w.in-Some.extender d.sending d.waiting w.in-Some.is c.self.invariant (w.take.ensures.state ∙ stays c.args.from c.args.frame.now (state_of w.in-Some.extender) c.requires.plain))
      | in_default w ↦ absurd (not_none d.ports d.extenders.items d.passed c.args.self.now c.args.number _ c.index_mut.result.now c.self.view_is c.requires.there c.index_mut.ensures.value w.in_default.is)
    ]

pub take-requires : goal.take-requires
take-requires c =
    let d = c.self.inside in
    can_take c.args.from (far_of c.args.self.now c.args.number) (state_of c.in-Some.extender) (tables_found d.ports d.extenders.items d.passed c.args.self.now c.args.number _ c.index_mut.result.now c.self.view_is c.requires.there c.index_mut.ensures.value c.in-Some.extender c.in-Some.is) c.requires.from

pub returns-clause-state : goal.returns-clause-state
returns-clause-state c =
    let d = c.self.inside in
    elim c.match-index_mut.branch [
      | in-Some w ↦
          let s = state_of w.in-Some.extender in
          rw w.self-inside-is
          (far_after d.ports d.extenders.items d.passed c.args.self.now c.args.number _ c.index_mut.result.now c.self.view_is c.requires.there c.index_mut.ensures.value
          w.take.new.self w.in-Some.extender (λ s. (react (Arrives c.args.from c.args.frame.now) s).0) w.in-Some.is
          (ap (rested d.passed) (w.take.ensures.state ∙ stays c.args.from c.args.frame.now s c.requires.plain) ∙ sym (stays c.args.from c.args.frame.now (rested d.passed s) c.requires.plain)))
      | in_default w ↦ absurd (not_none d.ports d.extenders.items d.passed c.args.self.now c.args.number _ c.index_mut.result.now c.self.view_is c.requires.there c.index_mut.ensures.value w.in_default.is)
    ]

pub returns-clause-sends : goal.returns-clause-sends
returns-clause-sends c =
    let d = c.self.inside in
    elim c.match-index_mut.branch [
      | in-Some w ↦
          let tables = tables_found d.ports d.extenders.items d.passed c.args.self.now c.args.number _ c.index_mut.result.now c.self.view_is c.requires.there c.index_mut.ensures.value w.in-Some.extender w.in-Some.is in
          rw w.sends-is (w.take.ensures.sends ∙ same_sends c.args.from c.args.frame.now (state_of w.in-Some.extender) (far_of c.args.self.now c.args.number) c.requires.plain (sym tables))
      | in_default w ↦ absurd (not_none d.ports d.extenders.items d.passed c.args.self.now c.args.number _ c.index_mut.result.now c.self.view_is c.requires.there c.index_mut.ensures.value w.in_default.is)
    ]

pub returns-clause-same : goal.returns-clause-same
returns-clause-same c =
    let d = c.self.inside in
    elim c.match-index_mut.branch [
      | in-Some w ↦
          rw w.self-inside-is
          (same_found d.ports d.extenders.items d.passed c.args.self.now c.args.number _ c.index_mut.result.now c.self.view_is c.requires.there c.index_mut.ensures.value
          w.take.new.self w.in-Some.extender w.in-Some.is
          (ap (λ (s : ExtenderState). (rested d.passed s).tables.ports) (w.take.ensures.state ∙ stays c.args.from c.args.frame.now (state_of w.in-Some.extender) c.requires.plain)))
      | in_default w ↦ absurd (not_none d.ports d.extenders.items d.passed c.args.self.now c.args.number _ c.index_mut.result.now c.self.view_is c.requires.there c.index_mut.ensures.value w.in_default.is)
    ]

pub returns-clause-given : goal.returns-clause-given
returns-clause-given c =
    let d = c.self.inside in
    let f = c.args.frame.now in
    elim c.match-index_mut.branch [
      | in-Some w ↦
          let s = state_of w.in-Some.extender in
          rw w.sends-is (can_go f w.take.new.sends (react (Arrives c.args.from f) s).1 w.take.ensures.sends (sides_comes c.args.from f s w.has_few_ports.ensures) w.take.ensures.given)
      | in_default w ↦ absurd (not_none d.ports d.extenders.items d.passed c.args.self.now c.args.number _ c.index_mut.result.now c.self.view_is c.requires.there c.index_mut.ensures.value w.in_default.is)
    ]
