-- What holds of every asker.
use Rattle.std.proofs.Common.{◌≡◌, ℕ, ◌+◌, ◌<◌, ◌==◌, ◌||◌, not, nat_lt, Bool, true, false, cond, Option, Some, None, refl, subst, arith}
use Rattle.std.specs.Prelude.{IfSome}
use Rattle.std.specs.Option.{option_map}
use Rattle.std.proofs.lemmas.Bool.{eqb-false}
use Rattle.exb_csp.specs.declared.message.Request.{Request}
use Rattle.exb_csp.specs.declared.message.Body.{Body}
use Rattle.exb_csp.specs.declared.message.Body.TheVariants as body
use Rattle.exb_csp.specs.declared.message.Message.{Message}
use Rattle.exb_csp.specs.RequestKinds.{kind_of, same_kind}
use Rattle.exb_csp.specs.Encoding.{IsSpelledRequest, HasSpelling}
use Rattle.exb_csp.specs.declared.session.asker.Taken.{Taken}
use Rattle.exb_csp.specs.declared.session.asker.Taken.TheVariants as taken
use Rattle.exb_csp.specs.Sessions.AskingEnd.{AskerState, took_body, beaten_while, IsSound, StaysSound, AsksAreSpelled}

-- the waiting is over
sound_done : (serial : ℕ) → IsSound (record { serial = serial; waiting = None; beats = 0 })
sound_done serial = record { beats = omega arith; numbered = λ request e. absurd (cc) }

sound_if : (b : Bool) (x y : AskerState × Taken) → IsSound x.0 → IsSound y.0 → IsSound (cond b x y).0
sound_if true x y h k = h
sound_if false x y h k = k

sound_body : (s : AskerState) (waiting : Option Request) (serial : ℕ) (content : Body) → IsSound s → IsSound (took_body s waiting serial content).0
sound_body s None serial content h = h
sound_body s (Some request) serial (body.Ask other) h = h
sound_body s (Some request) serial (body.Answer response) h =
    let done : AskerState × Taken = (record { serial = s.serial; waiting = None; beats = 0 }, taken.Answer response) in
    let later : AskerState × Taken = cond (nat_lt s.serial serial || not (same_kind response.to (kind_of request))) (s, taken.NotOurs) done in
    sound_if (nat_lt serial s.serial) (s, taken.Stale) later h
    (sound_if (nat_lt s.serial serial || not (same_kind response.to (kind_of request))) (s, taken.NotOurs) done h (sound_done s.serial))

sound_counted : (b : Bool) (s : AskerState) → (s.beats == 15) ≡ b → IsSound s → IsSound (cond {A = AskerState × Bool} b (record s { beats = 0 }, true) (record s { beats = s.beats + 1 }, false)).0
sound_counted true s e h = record { beats = omega arith; numbered = h.numbered }
sound_counted false s e h = record { beats = (let other = eqb-false s.beats 15 e in let low = h.beats in omega arith); numbered = h.numbered }

sound_beaten : (s : AskerState) (waiting : Option Request) → IsSound s → IsSound (beaten_while s waiting).0
sound_beaten s None h = h
sound_beaten s (Some request) h = sound_counted (s.beats == 15) s refl h

pub stays_sound : StaysSound
stays_sound = record {
  begins = sound_done 0;
  asks = λ s request h. record { beats = omega arith; numbered = λ other e. omega arith };
  takes = λ s m h. sound_body s s.waiting m.serial m.body h;
  beats = λ s h. sound_beaten s s.waiting h;
}

spelled_again : (serial : ℕ) (waiting : Option Request) (m : Message) → ((request : Request) → waiting ≡ Some request → 0 < serial) → IfSome waiting IsSpelledRequest
    → option_map (λ (request : Request). record { serial = serial; body = body.Ask request }) waiting ≡ Some m → HasSpelling m
spelled_again serial None m numbered spelled e = absurd (cc)
spelled_again serial (Some request) m numbered spelled e =
    let is : record { serial = serial; body = body.Ask request } ≡ m = cc in
    subst HasSpelling is (record { numbered = numbered request refl; spelled = spelled })

pub asks_spelled : AsksAreSpelled
asks_spelled = record {
  asks = λ s request spelled. record { numbered = omega arith; spelled = spelled };
  again = λ s m sound spelled e. spelled_again s.serial s.waiting m sound.numbered spelled e;
}
