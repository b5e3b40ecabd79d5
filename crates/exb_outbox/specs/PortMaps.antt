-- Rows: some ports of one device.
use Rattle.std.specs.Prelude.{◌≡◌, ℕ, ◌≤◌, false, if◌then◌else◌, List, [], ◌∷◌}
use Rattle.std.specs.List.{flat_map, range_with_len}
use Rattle.exb_csp.specs.AllTables.{port_of}
use Rattle.exb_csp.specs.Execution.{in_mask}

-- the device, and its ports as bits, the lowest that of port 1
pub record Row : Type 0 where
  pub device : ℕ
  pub ports : ℕ

-- the ports, lowest first
unfoldable pub ports_in : Row → List ℕ
ports_in r = flat_map (λ k. if in_mask r.ports k then port_of r.device k ∷ [] else []) (range_with_len 1 64)

-- neither port k nor one behind it is in the row
abbrev pub HasNoneFrom : Row → ℕ → Type 0
HasNoneFrom r k = (j : ℕ) → k ≤ j → in_mask r.ports j ≡ false

-- there is one
pub record HasSome (ports : List ℕ) : Type 0 where
  pub first : ℕ
  pub rest : List ℕ
  pub is : ports ≡ first ∷ rest
