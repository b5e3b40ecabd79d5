-- What holds of all of a list.
use Rattle.std.proofs.Common.{List, [], ◌∷◌, ◌++◌}
use Rattle.std.specs.List.{AllByRecursion}

module _ {X : Type 0} where
  -- what holds of all holds of the members of each part
  pub all-left : (P : X → Type 0) (xs ys : List X) → AllByRecursion P (xs ++ ys) → AllByRecursion P xs
  all-left P [] ys all = tt
  all-left P (x ∷ xs) ys all = (all.0, all-left P xs ys all.1)

  pub all-right : (P : X → Type 0) (xs ys : List X) → AllByRecursion P (xs ++ ys) → AllByRecursion P ys
  all-right P [] ys all = all
  all-right P (x ∷ xs) ys all = all-right P xs ys all.1
