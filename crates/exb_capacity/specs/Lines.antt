-- What is said of the numbers that a setup needs.
use Rattle.std.specs.Prelude.{ℕ, List, [], ◌∷◌, ◌++◌, codes, decimal}
use Rattle.exb_model.specs.Setup.{Limits}
use Rattle.exb_capacity.specs.declared.needs.Needs.{Needs}

-- so many of so many
abbrev pub line_of : List ℕ → ℕ → ℕ → List ℕ
line_of what needed limit = what ++ decimal needed ++ codes " of " ++ decimal limit ++ 10 ∷ []

-- the two lines: channels, and sets of ports, which want a group each
unfoldable pub lines_of : Needs → Limits → List ℕ
lines_of n l = line_of (codes "channels ") n.channels l.channels ++ line_of (codes "sets ") n.sets l.groups
