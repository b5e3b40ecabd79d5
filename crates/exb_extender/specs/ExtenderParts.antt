-- The state of an extender, by what it keeps.
use Rattle.exb_csp.specs.Execution.{ExtenderTables}
use Rattle.exb_extender.specs.declared.tables.ForwardingTables.{ForwardingTables}
use Rattle.exb_extender.specs.Machine.{ExtenderState}
use Rattle.exb_extender.specs.ControlState.{ControlState}
use Rattle.exb_extender.specs.Fields.{Fields}
use Rattle.exb_extender.specs.Tables.{tables_of}

abbrev pub state_with : ExtenderTables → ControlState → ExtenderState
state_with t c = record {
  number = c.number;
  tables = t;
  session = c.session;
  ecp = c.ecp;
  beats = c.beats;
  opened = c.opened;
}

abbrev pub state_in : ForwardingTables → ControlState → ExtenderState
state_in t c = state_with (tables_of t) c

abbrev pub fields_in : ForwardingTables → ControlState → Fields
fields_in t c =
    record {
      number = c.number;
      ports = t.count;
      own = t.own;
      cascade = t.cascade;
      rows = t.rows;
      session = c.session;
      ecp = c.ecp;
      beats = c.beats;
      opened = c.opened;
    }
