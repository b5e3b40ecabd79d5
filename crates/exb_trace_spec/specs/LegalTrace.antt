-- The legal trace of a run, decided by its lines, the tree, the journal, the captures and the output files alone.
use Rattle.std.specs.Prelude.{ℕ, List}
use Rattle.exb_model.specs.Tree.{Shape}
use Rattle.exb_model.specs.Traces.{TraceLine}
use Rattle.exb_trace_spec.specs.Rule1Places.{HasPlaces}
use Rattle.exb_trace_spec.specs.Rule2Extenders.{FollowMachines}
use Rattle.exb_trace_spec.specs.Rule3Links.{LinksInOrder, LinksAreEmpty}
use Rattle.exb_trace_spec.specs.Rule4Captures.{IsCaptured}
use Rattle.exb_trace_spec.specs.Rule5Relays.{AreSteps}

-- a run that may still go on: words may be on the links
pub record LegalSoFar (t : Shape) (journal : List (List ℕ)) (captures outputs : ℕ → List (List ℕ))
    (lines : List TraceLine) : Type 0 where
  pub rule_1 : HasPlaces t journal lines
  pub rule_2 : FollowMachines t lines
  pub rule_3 : LinksInOrder t lines
  pub rule_4 : IsCaptured t captures outputs lines
  pub rule_5 : AreSteps t captures lines

-- a run that has ended
pub record LegalTrace (t : Shape) (journal : List (List ℕ)) (captures outputs : ℕ → List (List ℕ))
    (lines : List TraceLine) : Type 0 where
  pub so_far : LegalSoFar t journal captures outputs lines
  pub empty : LinksAreEmpty t lines
