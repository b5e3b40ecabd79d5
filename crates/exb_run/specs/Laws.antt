-- What the counters of a run and its summary say together.
use Rattle.std.specs.Prelude.{◌≡◌, ℕ, List, Ok}
use Rattle.exb_counters.specs.Laws.{AreSummed}
use Rattle.exb_inputs.specs.Inputs.{input_of}
use Rattle.exb_model.specs.History.{History}
use Rattle.exb_model.specs.Input.{Mode, basis_of}
use Rattle.exb_model.specs.LegalHistory.{Legal}
use Rattle.exb_model.specs.Setup.{shape_of}
use Rattle.exb_shelf.specs.Files.{Files}
use Rattle.exb_topology.specs.declared.topology.Topology.{Topology}
use Rattle.exb_topology.specs.Topologies.{topology_of, topology_view}

-- Over each history that the input of a topology allows, be it eager or drawn, the counts of all external ports
-- together are those of the summary.
abbrev pub CountersSumUp : Type 0
CountersSumUp =
    (bytes : List ℕ) (t : Topology) (file : Files) (m : Mode) (h : History) → topology_of bytes ≡ Ok (topology_view t)
    → Legal m (input_of t file) h
    → AreSummed (shape_of t.setup) (basis_of (input_of t file)) h
