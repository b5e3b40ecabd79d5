-- The machine of changes and the tables of all extenders.
use Rattle.std.specs.Prelude.{◌≢◌, ℕ, List, [], ◌∷◌, Option, Some, None}
use Rattle.exb_model.specs.declared.command.Command.{Command}
use Rattle.exb_csp.specs.declared.message.Response.{Response}
use Rattle.exb_csp.specs.declared.message.Body.TheVariants as body
use Rattle.exb_csp.specs.declared.message.Message.{Message}
use Rattle.exb_csp.specs.Execution.{ExtenderTables, code_of, response_to}
use Rattle.exb_csp.specs.declared.session.asker.Taken.TheVariants as taken
use Rattle.exb_csp.specs.Sessions.AskingEnd.{took}
use Rattle.exb_csp.specs.AllTables.{executes_at}
use Rattle.exb_csp.specs.declared.ask_at.AskAt.{AskAt}
use Rattle.exb_control_spec.specs.Decisions.{Decide}
use Rattle.exb_control_spec.specs.Machine.{Work, State, Moved, still, ordered, heard, answered, beats}

-- `answer`: the outstanding request was executed, and this is its answer, which wasn't taken yet
pub record System : Type 0 where
  pub state : State
  pub tables : ℕ → ExtenderTables
  pub answer : Option Response

-- A command is given, an extender is heard, the extender of the outstanding request executes it, the message
-- that answers it comes, any other message comes from an extender, or a beat passes.
pub data Step : Type 0 where
  Order : (command : Command) → Step
  Hear : (extender : ℕ) → Step
  Execute : Step
  Answer : Step
  Stray : (extender : ℕ) (message : Message) → Step
  Beat : Step

-- ---- the extender of the outstanding request
abbrev pub executes_first : AskAt → (ℕ → ExtenderTables) → ℕ → ExtenderTables
executes_first a all = executes_at a.extender a.request all

-- It executes the request once.
abbrev pub executes : Option Work → Option Response → (ℕ → ExtenderTables) → ℕ → ExtenderTables
executes None answer all = all
executes (Some w) None all = executes_first w.first all
executes (Some w) (Some response) all = all

abbrev pub answer_of : Option Work → Option Response → (ℕ → ExtenderTables) → Option Response
answer_of None answer all = answer
answer_of (Some w) None all = Some (response_to (all w.first.extender) w.first.request)
answer_of (Some w) (Some response) all = Some response

-- the code that a request is executed with
abbrev pub code_by : Option Work → Option Response → (ℕ → ExtenderTables) → ℕ
code_by None answer all = 0
code_by (Some w) None all = code_of (all w.first.extender) w.first.request
code_by (Some w) (Some response) all = 0

-- ---- messages
-- the answer has the serial of the request
abbrev pub answer_message : ℕ → Response → Message
answer_message serial response = record { serial = serial; body = body.Answer response }

abbrev pub takes_answer : Decide → Option Work → Option Response → State → Moved
takes_answer decide None answer s = still s
takes_answer decide (Some w) None s = still s
takes_answer decide (Some w) (Some response) s =
    answered decide w.first.extender (answer_message (s.askers w.first.extender).serial response) s

-- nobody takes the message as an answer
abbrev pub IsStray : State → ℕ → Message → Type 0
IsStray s n m = (response : Response) → (took (s.askers n) m).1 ≢ taken.Answer response

-- ---- a step
-- what a step makes of the machine
abbrev pub moved : Decide → System → Step → Moved
moved decide y (Order c) = ordered decide c y.state
moved decide y (Hear n) = heard decide n y.state
moved decide y Execute = still y.state
moved decide y Answer = takes_answer decide y.state.work y.answer y.state
moved decide y (Stray n m) = answered decide n m y.state
moved decide y Beat = beats y.state

abbrev pub tables_after : System → Step → ℕ → ExtenderTables
tables_after y Execute = executes y.state.work y.answer y.tables
tables_after y _ = y.tables

abbrev pub answer_after : System → Step → Option Response
answer_after y Execute = answer_of y.state.work y.answer y.tables
answer_after y Answer = None
answer_after y _ = y.answer

abbrev pub stepped : Decide → System → Step → System
stepped decide y step = record {
  state = (moved decide y step).state;
  tables = tables_after y step;
  answer = answer_after y step;
}

-- the code that a step makes an extender answer
abbrev pub code_in : System → Step → ℕ
code_in y Execute = code_by y.state.work y.answer y.tables
code_in y _ = 0

-- ---- a run
abbrev pub run : Decide → List Step → System → System
run decide [] y = y
run decide (step ∷ steps) y = run decide steps (stepped decide y step)
