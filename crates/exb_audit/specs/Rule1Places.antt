-- Rule 1: what is known of lines by the count of the journal's lines.
use Rattle.std.specs.Prelude.{ℕ, List}
use Rattle.exb_model.specs.Traces.{TraceLine}
use Rattle.exb_model.specs.Tree.{Shape}
use Rattle.exb_trace_spec.specs.Rule1Places.{journal_at, NamesPlace}
use Rattle.exb_trace_spec.specs.Traversals.{Each}
use Rattle.exb_audit.specs.FrameCounts.{IsSoFar}

pub record IsToldSoFar (t : Shape) (journal : List (List ℕ)) (lines : List TraceLine) (n : ℕ) : Type 0 where
  pub told : IsSoFar journal_at lines journal n
  pub places : Each (NamesPlace t) lines
