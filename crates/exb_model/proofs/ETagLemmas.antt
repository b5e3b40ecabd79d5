-- How long frames with an E-TAG are.
use Rattle.std.proofs.Common.{◌≡◌, ℕ, ◌+◌, ◌≤◌, List, length, arith, length-append, length-drop}
use Rattle.std.proofs.lemmas.List.{length-take}
use Rattle.exb_model.specs.ETags.{Tag, tagged, stripped}

pub length-tagged : (f : List ℕ) (t : Tag) → 12 ≤ length f → length (tagged f t) ≡ length f + 8
length-tagged f t h = simp length-append (omega (arith, length-take {A = ℕ}, length-drop {A = ℕ}))

pub length-stripped : (f : List ℕ) → 20 ≤ length f → length (stripped f) + 8 ≡ length f
length-stripped f h = simp length-append (omega (arith, length-take {A = ℕ}, length-drop {A = ℕ}))
