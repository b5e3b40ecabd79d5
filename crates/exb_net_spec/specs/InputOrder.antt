-- The order in which things come to a net: bridges are of the net, and at each the commands come in their order.
use Rattle.std.specs.Prelude.{◌≡◌, ℕ, suc, ◌<◌, ◌≤◌, ◌==◌, if◌then◌else◌, List, [], ◌∷◌, AllPairs}
use Rattle.exb_model.specs.Input.{Coming, Ordered, Captured}
use Rattle.exb_net_spec.specs.Nets.{Net}
use Rattle.exb_net_spec.specs.NetHistory.{Due}

-- each comes to a bridge of the net
abbrev pub AreHere : Net → List Due → Type 0
AreHere n [] = Unit {0}
AreHere n (d ∷ ds) = (d.bridge < n.count) × AreHere n ds

-- the number of a command is one more than that of the one before it at its bridge
abbrev pub IsNext : ℕ → Coming → Type 0
IsNext taken (Ordered moment k) = k ≡ suc taken
IsNext taken (Captured a) = Unit {0}

abbrev pub taken_by : Coming → ℕ → ℕ
taken_by (Ordered moment k) taken = suc taken
taken_by (Captured a) taken = taken

abbrev pub taken_after : Due → (ℕ → ℕ) → ℕ → ℕ
taken_after d taken c = if c == d.bridge then taken_by d.coming (taken c) else taken c

-- with so many taken at each bridge
abbrev pub AreInOrder : (ℕ → ℕ) → List Due → Type 0
AreInOrder taken [] = Unit {0}
AreInOrder taken (d ∷ ds) = IsNext (taken d.bridge) d.coming × AreInOrder (taken_after d taken) ds

-- The seconds of the commands of each bridge don't fall, as in each topology file that is read.
abbrev pub AreTimely : Net → Type 0
AreTimely n = (b : ℕ) → b < n.count → AllPairs (λ c d. c.at ≤ d.at) (n.input b).commands
