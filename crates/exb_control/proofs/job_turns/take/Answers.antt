use Rattle.std.proofs.Common.{◌≡◌, ℕ, ◌+◌, ◌*◌, ◌^◌, None, length, drop, refl, sym, ap, ◌∙◌, arith}
use Rattle.exb_csp.specs.Sessions.AskingEnd.{AskerState, took}
use Rattle.exb_control_spec.specs.Machine.{Moved, with_asker}
use Rattle.exb_control.specs.Controls.{decide_of}
use Rattle.exb_control.specs.MachineSteps.{askers_of, asks_in, left_at, rest_of, state_in, reached, reached_by, advances}
use Rattle.exb_control.specs.ActiveConfigs.{bridge_in, held_in}
use Rattle.exb_control.proofs.NextJobs.{same_decide}
use Rattle.exb_control.proofs.Soundness.{may_ask}
use Rattle.exb_control.proofs.JobStart.{short_phase}
use Rattle.exb_control.proofs.IncomingMessages.{can_proceed, answered_on, then_wakes, no_answer, put_same, stayed}
use Rattle.exb_control.proofs.job_turns.take.Goals as goal

pub overflow_add-core : goal.overflow_add-core
overflow_add-core c =
    let old = c.args.core.now in
    let able = can_proceed (2 ^ 21 * length c.args.queue.now) old.active.stage old.place (askers_of old.sessions) c.args.extender c.args.message.now _ c.requires.steady
    (sym c.take-taken.ensures.taken ∙ c.in-Answer.is) in
    let few = short_phase old.active.shape (bridge_in old.active) (held_in old.active) old.active.stage old.place c.is_active_config.ensures.holds able.on.within in
    omega arith

pub proceed-requires-clause-busy : goal.proceed-requires-clause-busy
proceed-requires-clause-busy c =
    let old = c.args.core.now in
    (can_proceed (2 ^ 21 * length c.args.queue.now) old.active.stage old.place (askers_of old.sessions) c.args.extender c.args.message.now _ c.requires.steady
    (sym c.take-taken.ensures.taken ∙ c.in-Answer.is)).busy

pub proceed-requires-clause-known : goal.proceed-requires-clause-known
proceed-requires-clause-known c =
    let old = c.args.core.now in
    (can_proceed (2 ^ 21 * length c.args.queue.now) old.active.stage old.place (askers_of old.sessions) c.args.extender c.args.message.now _ c.requires.steady
    (sym c.take-taken.ensures.taken ∙ c.in-Answer.is)).on.known

pub proceed-requires-clause-after : goal.proceed-requires-clause-after
proceed-requires-clause-after c =
    let old = c.args.core.now in
    (can_proceed (2 ^ 21 * length c.args.queue.now) old.active.stage old.place (askers_of old.sessions) c.args.extender c.args.message.now _ c.requires.steady
    (sym c.take-taken.ensures.taken ∙ c.in-Answer.is)).on.after

pub proceed-requires-clause-may : goal.proceed-requires-clause-may
proceed-requires-clause-may c =
    let old = c.args.core.now in
    let able = can_proceed (2 ^ 21 * length c.args.queue.now) old.active.stage old.place (askers_of old.sessions) c.args.extender c.args.message.now _ c.requires.steady
    (sym c.take-taken.ensures.taken ∙ c.in-Answer.is) in
    rw c.take-taken.ensures.state (may_ask (left_at old.active.stage (old.place + 1) + 2 ^ 21 * length c.args.queue.now) _ _ (omega arith) able.on.may)

pub wake-requires-clause-steady : goal.wake-requires-clause-steady
wake-requires-clause-steady c =
    let old = c.args.core.now in
    let able = can_proceed (2 ^ 21 * length c.args.queue.now) old.active.stage old.place (askers_of old.sessions) c.args.extender c.args.message.now _ c.requires.steady
    (sym c.take-taken.ensures.taken ∙ c.in-Answer.is) in
    c.in_ok-proceed.ensures.steady (2 ^ 21 * length c.args.queue.now) (rw c.take-taken.ensures.state able.on.may)

pub returns-in_ok-wake-clause-steady : goal.returns-in_ok-wake-clause-steady
returns-in_ok-wake-clause-steady c k steady =
    let old = c.args.core.now in
    let able = can_proceed (2 ^ 21 * length c.args.queue.now + k) old.active.stage old.place (askers_of old.sessions) c.args.extender c.args.message.now _ steady
    (sym c.take-taken.ensures.taken ∙ c.in-Answer.is) in
    c.in_ok-wake.ensures.steady k (c.in_ok-proceed.ensures.steady (2 ^ 21 * length c.args.queue.now + k) (rw c.take-taken.ensures.state able.on.may))

pub returns-in_ok-wake-clause-reached : goal.returns-in_ok-wake-clause-reached
returns-in_ok-wake-clause-reached c f same is =
    let old = c.args.core.now in
    let e = c.args.extender in
    let took_it = took (askers_of old.sessions e) c.args.message.now in
    let able = can_proceed (2 ^ 21 * length c.args.queue.now) old.active.stage old.place (askers_of old.sessions) e c.args.message.now _ c.requires.steady
    (sym c.take-taken.ensures.taken ∙ c.in-Answer.is) in
    let d = decide_of old.active in
    let s = with_asker e took_it.0 (state_in f old) in
    let m = advances old.active.stage (drop (old.place + 1) (asks_in old.active.stage)) (record s { work = None }) in
    let first : reached (state_in f c.proceed.new.core) c.proceed.new.out.events c.proceed.new.out.asks c.proceed.new.out.downs
    ≡ reached_by m c.args.out.now.events c.args.out.now.asks c.args.out.now.downs =
    c.in_ok-proceed.ensures.reached f
    ∙ ap (λ (a : ℕ → AskerState). reached_by (advances old.active.stage (drop (old.place + 1) (asks_in old.active.stage)) (record (rest_of f old) { askers = a }))
    c.args.out.now.events c.args.out.now.asks c.args.out.now.downs) c.take-taken.ensures.state in
    c.in_ok-wake.ensures.reached f same is
    ∙ then_wakes d (decide_of c.proceed.new.core.active) m (state_in f c.proceed.new.core) c.args.out.now.events _ c.args.out.now.asks _ _ _
    (same_decide old.active c.proceed.new.core.active c.in_ok-proceed.ensures.shape c.in_ok-proceed.ensures.limits) first
    ∙ ap (λ (n : Moved). reached_by n c.args.out.now.events c.args.out.now.asks c.args.out.now.downs)
    (answered_on d old.active.stage old.place s took_it.1 _ refl (sym c.take-taken.ensures.taken ∙ c.in-Answer.is) able.busy able.on.within)

pub returns-in_default-clause-reached : goal.returns-in_default-clause-reached
returns-in_default-clause-reached c f same is =
    let old = c.args.core.now in
    let e = c.args.extender in
    let took_it = took (askers_of old.sessions e) c.args.message.now in
    stayed (decide_of old.active) took_it.1 (with_asker e took_it.0 (state_in f old)) _ c.args.out.now.events c.args.out.now.asks c.args.out.now.downs
    (λ r is_one. c.in_default.not-Answer r (c.take-taken.ensures.taken ∙ is_one))
    (rw (c.take-taken.ensures.state, is) refl)

pub returns-in_default-clause-steady : goal.returns-in_default-clause-steady
returns-in_default-clause-steady c k steady =
    let old = c.args.core.now in
    let e = c.args.extender in
    let m = c.args.message.now in
    let same = no_answer (askers_of old.sessions e) m (λ r is_one. c.in_default.not-Answer r (c.take-taken.ensures.taken ∙ is_one)) in
    rw (c.take-taken.ensures.state ∙ put_same e (took (askers_of old.sessions e) m).0 (askers_of old.sessions) same) steady
