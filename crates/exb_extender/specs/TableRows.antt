-- Tables as lists by port and rows by E-CID.
use Rattle.std.specs.Prelude.{ℕ, Bool, false, List, slice_index, slice_index_or}
use Rattle.exb_extender.specs.MemberSets.{row_of}
use Rattle.exb_csp.specs.Execution.{ExtenderTables, in_mask}

-- the tables that these are: the channel and the kind of each port, and the ports of each E-CID
abbrev pub tables_in : ℕ → List ℕ → List Bool → List ℕ → ExtenderTables
tables_in count own cascade rows =
    record {
      ports = count;
      own = slice_index own;
      cascade = λ q. slice_index_or cascade q false;
      pair = λ e q. in_mask (row_of rows e) q;
    }
