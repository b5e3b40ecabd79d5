-- The end of a session that asks, as a pure machine.
use Rattle.std.specs.Prelude.{◌≡◌, ◌<◌, ℕ, ◌+◌, ◌==◌, ◌||◌, not, nat_lt, Bool, true, false, if◌then◌else◌, Option, Some, None, IfSome}
use Rattle.std.specs.Option.{option_map}
use Rattle.exb_csp.specs.declared.message.Response.{Response}
use Rattle.exb_csp.specs.declared.message.Request.{Request}
use Rattle.exb_csp.specs.declared.message.Body.{Body}
use Rattle.exb_csp.specs.declared.message.Body.TheVariants as body
use Rattle.exb_csp.specs.declared.message.Message.{Message}
use Rattle.exb_csp.specs.RequestKinds.{kind_of, same_kind}
use Rattle.exb_csp.specs.Encoding.{IsSpelledRequest, HasSpelling}
use Rattle.exb_csp.specs.declared.session.asker.Taken.{Taken}
use Rattle.exb_csp.specs.declared.session.asker.Taken.TheVariants as taken

-- the serial of the last request that was asked, the request that is waited for, and the beats of
-- waiting since it was asked or was due to be asked again
pub record AskerState : Type 0 where
  pub serial : ℕ
  pub waiting : Option Request
  pub beats : ℕ

-- nothing was asked yet
abbrev pub begun : AskerState
begun = record { serial = 0; waiting = None; beats = 0 }

-- the next request is asked, and this is its message
abbrev pub asked : AskerState → Request → AskerState × Message
asked s request = (
  record { serial = s.serial + 1; waiting = Some request; beats = 0 },
  record { serial = s.serial + 1; body = body.Ask request },
)

-- the message of the request that is waited for
abbrev pub message_again : AskerState → Option Message
message_again s = option_map (λ request. record { serial = s.serial; body = body.Ask request }) s.waiting

-- a response that comes with a serial while a request is waited for
abbrev pub took_answer : AskerState → Request → ℕ → Response → AskerState × Taken
took_answer s request serial response =
    if nat_lt serial s.serial then (s, taken.Stale) else
    (if nat_lt s.serial serial || not (same_kind response.to (kind_of request)) then (s, taken.NotOurs) else
    (record { serial = s.serial; waiting = None; beats = 0 }, taken.Answer response))

abbrev pub took_body : AskerState → Option Request → ℕ → Body → AskerState × Taken
took_body s None serial content = (s, taken.NotOurs)
took_body s (Some request) serial (body.Ask other) = (s, taken.NotOurs)
took_body s (Some request) serial (body.Answer response) = took_answer s request serial response

-- a message is taken, and this is what it is
abbrev pub took : AskerState → Message → AskerState × Taken
took s m = took_body s s.waiting m.serial m.body

abbrev pub beaten_while : AskerState → Option Request → AskerState × Bool
beaten_while s None = (s, false)
beaten_while s (Some request) =
    if s.beats == 15 then (record s { beats = 0 }, true) else (record s { beats = s.beats + 1 }, false)

-- one beat, and whether it is a sixteenth one of waiting
abbrev pub beaten : AskerState → AskerState × Bool
beaten s = beaten_while s s.waiting

-- fewer than sixteen beats of waiting are counted, and what is waited for has a serial
pub record IsSound (s : AskerState) : Type 0 where
  pub beats : s.beats < 16
  pub numbered : (request : Request) → s.waiting ≡ Some request → 0 < s.serial

-- An asker is sound at its beginning, and whatever it asks, takes and counts.
pub record StaysSound : Type 0 where
  pub begins : IsSound begun
  pub asks : (s : AskerState) (request : Request) → IsSound s → IsSound (asked s request).0
  pub takes : (s : AskerState) (m : Message) → IsSound s → IsSound (took s m).0
  pub beats : (s : AskerState) → IsSound s → IsSound (beaten s).0

-- What an asker asks has a spelling where its request can be spelled, the first time and once more.
pub record AsksAreSpelled : Type 0 where
  pub asks : (s : AskerState) (request : Request) → IsSpelledRequest request → HasSpelling (asked s request).1
  pub again : (s : AskerState) (m : Message) → IsSound s → IfSome s.waiting IsSpelledRequest → message_again s ≡ Some m
      → HasSpelling m
