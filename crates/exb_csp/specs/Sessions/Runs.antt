-- A session of an asker and an answerer, whose messages come in any order and number, or not at all.
use Rattle.std.specs.Prelude.{◌≡◌, ℕ, suc, All, is_none, if◌then◌else◌, Option, Some, None, List, [], ◌∷◌, ◌++◌, slice_get}
use Rattle.std.specs.Option.{option_to_list}
use Rattle.exb_csp.specs.declared.message.Request.{Request}
use Rattle.exb_csp.specs.declared.message.Response.{Response}
use Rattle.exb_csp.specs.declared.message.Body.{Body}
use Rattle.exb_csp.specs.declared.message.Body.TheVariants as body
use Rattle.exb_csp.specs.declared.message.Message.{Message}
use Rattle.exb_csp.specs.RequestKinds.{kind_of}
use Rattle.exb_csp.specs.Encoding.{IsSpelledRequest, IsSpelledBody, HasSpelling}
use Rattle.exb_csp.specs.declared.session.asker.Taken.{Taken}
use Rattle.exb_csp.specs.declared.session.asker.Taken.TheVariants as taken
use Rattle.exb_csp.specs.declared.session.answerer.Due.{Due}
use Rattle.exb_csp.specs.declared.session.answerer.Due.TheVariants.{Execute, Again, Ignore}
use Rattle.exb_csp.specs.Sessions.AskingEnd.{AskerState, begun, asked, message_again, took}
use Rattle.exb_csp.specs.Sessions.AnsweringEnd.{AnswererState, fresh, is_owing, arrived, stored, stored_message}

-- The asker asks a request, or what it waits for once more. The answerer stores a response, or sends
-- what it has stored. The message that either sent k-th, counted from 0, comes to the other.
pub data Event : Type 0 where
  Asks : Request → Event
  AsksAgain : Event
  RequestComes : ℕ → Event
  Stores : Response → Event
  SendsAnswer : Event
  AnswerComes : ℕ → Event

-- the two ends, every message that either sent, and what was asked, executed, stored and answered
pub record Session : Type 0 where
  pub asker : AskerState
  pub answerer : AnswererState
  pub requests : List Message
  pub answers : List Message
  pub asks : List Request
  pub executed : List Request
  pub responses : List Response
  pub answered : List Response

-- nothing happened yet
abbrev pub opened : Session
opened = record {
  asker = begun;
  answerer = fresh;
  requests = [];
  answers = [];
  asks = [];
  executed = [];
  responses = [];
  answered = [];
}

abbrev pub executed_by : Due → List Request
executed_by (Execute request) = request ∷ []
executed_by Again = []
executed_by Ignore = []

abbrev pub answered_by : Taken → List Response
answered_by (taken.Answer response) = response ∷ []
answered_by taken.Stale = []
answered_by taken.NotOurs = []

-- the asker asks
abbrev pub asking : Session → Request → Session
asking s request =
    record s {
      asker = (asked s.asker request).0;
      requests = s.requests ++ (asked s.asker request).1 ∷ [];
      asks = s.asks ++ request ∷ [];
    }

-- the answerer takes a request
abbrev pub arriving : Session → ℕ → Request → Session
arriving s serial request =
    record s {
      answerer = (arrived s.answerer serial request).0;
      executed = s.executed ++ executed_by (arrived s.answerer serial request).1;
    }

-- it stores a response
abbrev pub storing : Session → Response → Session
storing s response = record s { answerer = stored s.answerer response; responses = s.responses ++ response ∷ [] }

-- the asker takes an answer
abbrev pub taking : Session → Message → Session
taking s message = record s {
  asker = (took s.asker message).0;
  answered = s.answered ++ answered_by (took s.asker message).1;
}

-- a message comes to the answerer, where its last response is stored
abbrev pub arriving_body : Session → ℕ → Body → Session
arriving_body s serial (body.Ask request) = if is_owing s.answerer then s else arriving s serial request
arriving_body s serial (body.Answer response) = s

abbrev pub arriving_message : Session → Option Message → Session
arriving_message s None = s
arriving_message s (Some message) = arriving_body s message.serial message.body

abbrev pub taking_message : Session → Option Message → Session
taking_message s None = s
taking_message s (Some message) = taking s message

-- One event. It happens where its call may be made, and a message where it was sent.
abbrev pub stepped : Event → Session → Session
stepped (Asks request) s = if is_none s.asker.waiting then asking s request else s
stepped AsksAgain s = record s { requests = s.requests ++ option_to_list (message_again s.asker) }
stepped (RequestComes k) s = arriving_message s (slice_get s.requests k)
stepped (Stores response) s = if is_owing s.answerer then storing s response else s
stepped SendsAnswer s = record s { answers = s.answers ++ option_to_list (stored_message s.answerer) }
stepped (AnswerComes k) s = taking_message s (slice_get s.answers k)

abbrev pub run : List Event → Session → Session
run [] s = s
run (event ∷ more) s = run more (stepped event s)

-- the first list is a front of the second: the same members in the same order, each once
abbrev pub IsFront : {A : Type 0} → List A → List A → Type 0
IsFront {A} front all = (rest : List A) × (all ≡ front ++ rest)

-- Over every list of events, what is executed is a front of what was asked, and what is answered a
-- front of what was stored.
abbrev pub EachRequestOnce : Type 0
EachRequestOnce = (events : List Event) → IsFront (run events opened).executed (run events opened).asks
    × IsFront (run events opened).answered (run events opened).responses

-- A request that comes is executed, and the response that is stored is taken as its answer.
abbrev pub RequestsAreAnswered : Type 0
RequestsAreAnswered =
    (request : Request) (response : Response) → response.to ≡ kind_of request →
    let s = run (Asks request ∷ RequestComes 0 ∷ Stores response ∷ SendsAnswer ∷ AnswerComes 0 ∷ []) opened in
    (s.executed ≡ request ∷ []) × (s.answered ≡ response ∷ [])

-- the message is the request that was asked under its serial: that of the k-th is k
pub record IsAsked (asks : List Request) (m : Message) : Type 0 where
  pub before : ℕ
  pub request : Request
  pub is : m ≡ record { serial = suc before; body = body.Ask request }
  pub there : slice_get asks before ≡ Some request

-- the message is the response that was stored under its serial
pub record IsStored (responses : List Response) (m : Message) : Type 0 where
  pub before : ℕ
  pub response : Response
  pub is : m ≡ record { serial = suc before; body = body.Answer response }
  pub there : slice_get responses before ≡ Some response

pub record AreNumbered (s : Session) : Type 0 where
  pub requests : All (IsAsked s.asks) s.requests
  pub answers : All (IsStored s.responses) s.answers

-- Over every list of events, a request that was sent under serial k is the k-th that was asked, and an
-- answer under serial k the k-th response that was stored.
abbrev pub MessagesAreNumbered : Type 0
MessagesAreNumbered = (events : List Event) → AreNumbered (run events opened)

-- where each request that is asked can be spelled, and each response that is stored, so can each message
pub record AreSpelled (s : Session) : Type 0 where
  pub requests : All IsSpelledRequest s.asks → All HasSpelling s.requests
  pub answers : All (λ response. IsSpelledBody (body.Answer response)) s.responses → All HasSpelling s.answers

abbrev pub MessagesAreSpelled : Type 0
MessagesAreSpelled = (events : List Event) → AreSpelled (run events opened)
