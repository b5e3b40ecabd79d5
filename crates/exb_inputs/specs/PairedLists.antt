-- Two lists that go together, and what is done for one element of a list after another.
use Rattle.std.specs.Prelude.{⊤, ◌≡◌, ℕ, List, [], ◌∷◌}
use Rattle.exb_shelf.specs.Shelf.{Id, Opens}

-- there are as many of these as of those, and each goes with the one at its place
abbrev pub OneByOne : {A B : Type 0} → (A → B → Type 0) → List A → List B → Type 0
OneByOne R [] [] = ⊤
OneByOne R (x ∷ xs) (y ∷ ys) = R x y × OneByOne R xs ys
OneByOne R _ _ = ⊥

-- What was opened for these, one after another: up to a moment for the first alone, from then on for the second alone,
-- and so on; for some of them perhaps nothing.
abbrev pub OpensOneByOne : {A : Type 0} → (A → Id → Type 0) → List A → (ℕ → Id) → (ℕ → Id) → Type 0
OpensOneByOne P [] given ids = (j : ℕ) → ids j ≡ given j
OpensOneByOne P (x ∷ xs) given ids = (between : ℕ → Id) × Opens (P x) given between × OpensOneByOne P xs between ids
