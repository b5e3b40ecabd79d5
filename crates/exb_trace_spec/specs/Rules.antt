-- The five rules, each as one statement.
use Rattle.std.specs.Prelude.{ℕ, zero, suc, ◌<◌, List}
use Rattle.exb_model.specs.Tree.{Shape}
use Rattle.exb_model.specs.Traces.{TraceLine}
use Rattle.exb_trace_spec.specs.Rule1Places.{HasPlaces}
use Rattle.exb_trace_spec.specs.Rule2Extenders.{FollowMachines}
use Rattle.exb_trace_spec.specs.Rule3Links.{LinksInOrder, LinksAreEmpty}
use Rattle.exb_trace_spec.specs.Rule4Captures.{IsCaptured}
use Rattle.exb_trace_spec.specs.Rule5Relays.{AreSteps}
use Rattle.exb_trace_spec.specs.LegalTrace.{LegalTrace}

-- What a run wrote and was given, as the rules see it: its tree, the journal's lines, the frames of the capture and of
-- the output file of each port, and the trace's lines.
pub record Files : Type 0 where
  pub tree : Shape
  pub journal : List (List ℕ)
  pub captures : ℕ → List (List ℕ)
  pub outputs : ℕ → List (List ℕ)
  pub lines : List TraceLine

-- the third is of each place of the trace and of its end
pub record KeepsLinks (t : Shape) (lines : List TraceLine) : Type 0 where
  pub in_order : LinksInOrder t lines
  pub empty : LinksAreEmpty t lines

-- rule k holds, of k from 1 to 5
abbrev pub HoldsRule : Files → ℕ → Type 0
HoldsRule x (suc zero) = HasPlaces x.tree x.journal x.lines
HoldsRule x (suc (suc zero)) = FollowMachines x.tree x.lines
HoldsRule x (suc (suc (suc zero))) = KeepsLinks x.tree x.lines
HoldsRule x (suc (suc (suc (suc zero)))) = IsCaptured x.tree x.captures x.outputs x.lines
HoldsRule x (suc (suc (suc (suc (suc zero))))) = AreSteps x.tree x.captures x.lines
HoldsRule x _ = Unit {0}

-- all rules hold
abbrev pub IsLegal : Files → Type 0
IsLegal x = LegalTrace x.tree x.journal x.captures x.outputs x.lines

-- rule r is the lowest that doesn't
pub record IsLowestBroken (x : Files) (r : ℕ) : Type 0 where
  pub broken : HoldsRule x r → ⊥
  pub lower : (k : ℕ) → k < r → HoldsRule x k
