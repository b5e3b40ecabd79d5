use Rattle.std.proofs.Common.{[], length, drop, sym, ◌∙◌, arith}
use Rattle.std.proofs.lemmas.Result.{on_ok_weaker}
use Rattle.exb_control.specs.MachineSteps.{Front, asks_in, asks_after, left_at, rest_of, advances}
use Rattle.exb_control.proofs.MachineSteps.{asked_on, none_asked, on_from}
use Rattle.exb_control.proofs.Soundness.{can_ask, may_still, advances_steady, steady_by}
use Rattle.exb_control.proofs.change_execution.proceed.Goals as goal

pub ask_at-requires : goal.ask_at-requires
ask_at-requires c =
    let old = c.args.core.now in
    can_ask (drop old.place (asks_in old.active.stage)) (length (asks_after old.active.stage)) _ c.requires.known c.requires.may

pub end_phase-requires-clause-may : goal.end_phase-requires-clause-may
end_phase-requires-clause-may c =
    let told = c.in_ok-ask_at.ensures in
    let old = c.args.core.now in
    let none = none_asked (drop old.place (asks_in old.active.stage)) _ _ _ _ (sym told.asked ∙ c.if-branch.false) told.sessions told.asks in
    may_still (left_at old.active.stage old.place) _ _ _ none.askers (omega arith) c.requires.may

pub returns-then-branch-clause-reached : goal.returns-then-branch-clause-reached
returns-then-branch-clause-reached c f =
    let told = c.in_ok-ask_at.ensures in
    let old = c.args.core.now in
    asked_on (rest_of f old) old.active.stage old.place _ c.args.out.now.events _ _ _ (sym told.asked ∙ c.if-branch.true) told.sessions told.asks

pub returns-clause-reached : goal.returns-clause-reached
returns-clause-reached c =
    let told = c.in_ok-ask_at.ensures in
    let old = c.args.core.now in
    let none = none_asked (drop old.place (asks_in old.active.stage)) _ _ _ _ (sym told.asked ∙ c.if-branch.false) told.sessions told.asks in
    on_ok_weaker c.end_phase.result (λ reached f. reached f ∙ on_from (rest_of f old) old.active.stage _ _ _ _ c.args.out.now.events _ none) c.end_phase.ensures.reached

-- any front will do
front : Front
front = record { queue = []; heard = []; given = 0 }

pub returns-then-branch-clause-steady : goal.returns-then-branch-clause-steady
returns-then-branch-clause-steady c k may =
    let old = c.args.core.now in
    let xs = drop old.place (asks_in old.active.stage) in
    steady_by k _ (advances old.active.stage xs (rest_of front old)) _ _ _ _ _ _ (returns-then-branch-clause-reached c front)
    (advances_steady old.active.stage xs (rest_of front old) k c.requires.busy c.requires.known c.requires.after may)

pub returns-clause-steady : goal.returns-clause-steady
returns-clause-steady c =
    let old = c.args.core.now in
    let xs = drop old.place (asks_in old.active.stage) in
    on_ok_weaker c.end_phase.result (λ reached k may.
    steady_by k _ (advances old.active.stage xs (rest_of front old)) _ _ _ _ _ _ (reached front)
    (advances_steady old.active.stage xs (rest_of front old) k c.requires.busy c.requires.known c.requires.after may)) (returns-clause-reached c)
