-- Traces that aren't legal, each by one rule.
use Rattle.std.specs.Prelude.{◌≡◌, ℕ, true, false, List, [], ◌∷◌}
use Rattle.exb_model.specs.declared.event.Event.TheVariants as event
use Rattle.exb_model.specs.Texts.{line_of}
use Rattle.exb_model.specs.Tree.{Shape}
use Rattle.exb_model.specs.Frames.{is_control_frame}
use Rattle.exb_model.specs.Traces.{In, Out, Beat, Journal}
use Rattle.exb_trace_spec.specs.Rule2Extenders.{FollowsMachine}
use Rattle.exb_trace_spec.specs.Rule3Links.{place_of, upstream_of, GoesInOrder}
use Rattle.exb_trace_spec.specs.Rule5Relays.{is_data_at, AreSteps}

pub record RefusesWrong : Type 0 where
  -- an extender sends what its machine doesn't
  pub unasked : (t : Shape) (n k : ℕ) (f : List ℕ) → FollowsMachine t n (Out n k f ∷ []) → ⊥
  -- a control word comes in before a data word that was sent before it
  pub overtaking : (d c : List ℕ) → is_control_frame d ≡ false → is_control_frame c ≡ true
      → GoesInOrder (upstream_of 1) (place_of 0) (Out 1 0 d ∷ Out 1 0 c ∷ In 0 1 c ∷ []) → ⊥
  -- a data word comes in that wasn't sent
  pub unsent : (d : List ℕ) → is_control_frame d ≡ false → GoesInOrder (upstream_of 1) (place_of 0) (In 0 1 d ∷ []) → ⊥
  -- a record is relayed with no frame that came
  pub no_frame : (t : Shape) (captures : ℕ → List (List ℕ)) (p n moment : ℕ) (f : List ℕ)
      → AreSteps t captures (Beat ∷ Journal (line_of (event.Relay p n moment f)) ∷ []) → ⊥
  -- the bridge sends a data frame with none relayed
  pub no_relay : (t : Shape) (captures : ℕ → List (List ℕ)) (k : ℕ) (f : List ℕ) → is_data_at t k f ≡ true
      → AreSteps t captures (Beat ∷ Out 0 k f ∷ []) → ⊥
  -- a frame comes to the bridge, and nothing is said of it
  pub unsaid : (t : Shape) (captures : ℕ → List (List ℕ)) (k : ℕ) (f : List ℕ) → is_data_at t k f ≡ true
      → AreSteps t captures (In 0 k f ∷ []) → ⊥
