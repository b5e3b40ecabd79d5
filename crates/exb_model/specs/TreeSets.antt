-- Sets of ports in the tree: which ports have a port of a set in their subtree.
use Rattle.std.specs.Prelude.{ℕ, ◌+◌, ◌*◌, ◌&&◌, Bool}
use Rattle.exb_model.specs.Masks.{bits_of}
use Rattle.exb_model.specs.Tree.{Shape, is_port, above, any_below}

-- q is a port of the tree and of the set, and p is q or lies above it
abbrev pub reaches_member : Shape → (ℕ → Bool) → ℕ → ℕ → Bool
reaches_member t set p q = (set q && is_port t q) && above t p q

-- the subtree of port p has a port of the set
abbrev pub covers : Shape → (ℕ → Bool) → ℕ → Bool
covers t set p = any_below (reaches_member t set p) 4160

-- the ports of device n whose subtree has a port of the set: bit j is the port with that place
abbrev pub mask_of : Shape → (ℕ → Bool) → ℕ → ℕ
mask_of t set n = bits_of (λ j. covers t set (64 * n + j)) 64
