-- Lists that are taken from their front.
use Rattle.std.specs.Prelude.{Bool, true, false, List, [], ◌∷◌, Option, Some, None}

abbrev pub is_empty : {X : Type 0} → List X → Bool
is_empty [] = true
is_empty (x ∷ xs) = false

abbrev pub first_in : {X : Type 0} → List X → Option X
first_in [] = None
first_in (x ∷ xs) = Some x

abbrev pub after_first : {X : Type 0} → List X → List X
after_first [] = []
after_first (x ∷ xs) = xs
