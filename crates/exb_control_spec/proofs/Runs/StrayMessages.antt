-- Messages that are no answer.
use Rattle.std.proofs.Common.{◌≡◌, ◌≢◌, ℕ, ◌<◌, Option, Some, None}
use Rattle.std.proofs.lemmas.Bool.{lt-ltb}
use Rattle.exb_csp.specs.declared.message.Request.{Request}
use Rattle.exb_csp.specs.declared.message.Response.{Response}
use Rattle.exb_csp.specs.declared.message.Body.{Body}
use Rattle.exb_csp.specs.declared.message.Body.TheVariants as body
use Rattle.exb_csp.specs.declared.session.asker.Taken.TheVariants as taken
use Rattle.exb_csp.specs.Sessions.AskingEnd.{AskerState, took_body}
use Rattle.exb_control_spec.specs.Runs.StrayMessages.{StraysChangeNothing, OldAreStray}
use Rattle.exb_control_spec.proofs.Runs.AskerAnswers.{stray_is_still}

pub strays_change_nothing : StraysChangeNothing
strays_change_nothing decide s n m stray = stray_is_still decide n m s stray

earlier_is : (a : AskerState) (o : Option Request) (serial : ℕ) (content : Body) (response : Response) → serial < a.serial → (took_body a o serial content).1 ≢ taken.Answer response
earlier_is a None serial content response l e = absurd (cc)
earlier_is a (Some request) serial (body.Ask other) response l e = absurd (cc)
earlier_is a (Some request) serial (body.Answer given) response l e = absurd (let k = rw (lt-ltb serial a.serial l) at e in cc)

unasked_is : (a : AskerState) (o : Option Request) (serial : ℕ) (content : Body) (response : Response) → o ≡ None → (took_body a o serial content).1 ≢ taken.Answer response
unasked_is a None serial content response n e = absurd (cc)
unasked_is a (Some request) serial content response n e = absurd (cc)

pub old_are_stray : OldAreStray
old_are_stray s n m =
    record {
      earlier = λ l response. earlier_is (s.askers n) (s.askers n).waiting m.serial m.body response l;
      unasked = λ free response. unasked_is (s.askers n) (s.askers n).waiting m.serial m.body response free;
    }
