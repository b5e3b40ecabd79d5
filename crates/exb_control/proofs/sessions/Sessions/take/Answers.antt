use Rattle.std.proofs.Common.{◌≡◌, ◌<◌, List, length, ap, ◌∙◌, arith}
use Rattle.exb_csp.specs.Sessions.AskingEnd.{AskerState, took}
use Rattle.exb_control.specs.MachineSteps.{askers_of, put}
use Rattle.exb_control.proofs.Askers.{put_set, read}
use Rattle.exb_control.proofs.sessions.Sessions.take.Goals as goal

pub returns-clause-state : goal.returns-clause-state
returns-clause-state c =
    let xs = c.self.inside.askers.items in
    let e = c.args.extender in
    let m = c.args.message.now in
    let long : length xs ≡ 65 = c.self.invariant in
    let within : e < length xs = omega arith in
    put_set xs e c.take.new.self within
    ∙ ap (λ (a : AskerState). put e a (askers_of xs)) (c.take.ensures.state ∙ ap (λ (a : AskerState). (took a m).0) (read xs e c.index_mut-asker.result.now within c.index_mut-asker.ensures.value))
    ∙ ap (λ (ys : List AskerState). put e (took (askers_of ys e) m).0 (askers_of ys)) c.self.view_is
