-- What lines have of some frames so far: as many as are counted, and these are the first.
use Rattle.std.specs.Prelude.{◌≡◌, ℕ, ◌≤◌, List, length, take, flat_map}
use Rattle.exb_model.specs.Traces.{TraceLine}

pub record IsSoFar (pick : TraceLine → List (List ℕ)) (lines : List TraceLine) (all : List (List ℕ))
    (n : ℕ) : Type 0 where
  pub low : n ≤ length all
  pub is : flat_map pick lines ≡ take n all
