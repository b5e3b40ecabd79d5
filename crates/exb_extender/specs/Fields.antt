-- What an extender keeps, and the state that this is.
use Rattle.std.specs.Prelude.{ℕ, Bool, List}
use Rattle.exb_ecp.specs.StopAndWait.{State}
use Rattle.exb_csp.specs.Sessions.AnsweringEnd.{AnswererState}
use Rattle.exb_extender.specs.Machine.{ExtenderState}
use Rattle.exb_extender.specs.TableRows.{tables_in}

-- a channel and a kind for each port, from 1, with place 0 empty; a row of ports for each E-CID; and the rest of the
-- state
pub record Fields : Type 0 where
  pub number : ℕ
  pub ports : ℕ
  pub own : List ℕ
  pub cascade : List Bool
  pub rows : List ℕ
  pub session : AnswererState
  pub ecp : State
  pub beats : ℕ
  pub opened : Bool

abbrev pub state_of : Fields → ExtenderState
state_of f = record {
  number = f.number;
  tables = tables_in f.ports f.own f.cascade f.rows;
  session = f.session;
  ecp = f.ecp;
  beats = f.beats;
  opened = f.opened;
}
