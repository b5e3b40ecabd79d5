-- The end of a session that answers, as a pure machine.
use Rattle.std.specs.Prelude.{ℕ, ◌+◌, ◌==◌, ◌&&◌, nat_lt, is_none, Bool, if◌then◌else◌, Option, Some, None}
use Rattle.std.specs.Option.{option_map}
use Rattle.exb_csp.specs.declared.message.Request.{Request}
use Rattle.exb_csp.specs.declared.message.Response.{Response}
use Rattle.exb_csp.specs.declared.message.Body.TheVariants as body
use Rattle.exb_csp.specs.declared.message.Message.{Message}
use Rattle.exb_csp.specs.declared.session.answerer.Due.{Due}
use Rattle.exb_csp.specs.declared.session.answerer.Due.TheVariants.{Execute, Again, Ignore}

-- the serial of the last request that was executed, 0 before the first, and its stored response
pub record AnswererState : Type 0 where
  pub last : ℕ
  pub answer : Option Response

-- nothing was executed yet
abbrev pub fresh : AnswererState
fresh = record { last = 0; answer = None }

-- a request is executed whose response isn't stored
abbrev pub is_owing : AnswererState → Bool
is_owing s = nat_lt 0 s.last && is_none s.answer

-- a request comes with its serial, and this is what is due
abbrev pub arrived : AnswererState → ℕ → Request → AnswererState × Due
arrived s serial request =
    if serial == 0 then (s, Ignore) else
    (if serial == s.last then (s, Again) else
    (if serial == s.last + 1 then (record { last = serial; answer = None }, Execute request) else (s, Ignore)))

abbrev pub stored : AnswererState → Response → AnswererState
stored s response = record { last = s.last; answer = Some response }

-- the answer to the last request
abbrev pub stored_message : AnswererState → Option Message
stored_message s = option_map (λ response. record { serial = s.last; body = body.Answer response }) s.answer
