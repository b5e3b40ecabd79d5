-- Rule 4 of a legal trace: what comes in at the external ports is captured, and what goes out there is written. A
-- checker collects the frames of each external port.
use Rattle.std.specs.Prelude.{◌≡◌, ℕ, true, List}
use Rattle.exb_model.specs.Tree.{Shape, is_external}
use Rattle.exb_model.specs.Traces.{TraceLine}
use Rattle.exb_trace_spec.specs.Rule3Links.{place_of, ins, outs}

-- by port, the frames of its capture, and those of its output file
pub record IsCaptured (t : Shape) (captures outputs : ℕ → List (List ℕ)) (lines : List TraceLine) : Type 0 where
  pub arrived : (p : ℕ) → is_external t p ≡ true → ins (place_of p) lines ≡ captures p
  pub left : (p : ℕ) → is_external t p ≡ true → outs (place_of p) lines ≡ outputs p
