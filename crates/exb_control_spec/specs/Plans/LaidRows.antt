-- Rows that are laid in the tables of the extenders. The numbers of one bridge port are used under another
-- one too, so all is said of the extenders under one bridge port, their trunk.
use Rattle.std.specs.Prelude.{◌≡◌, ◌≢◌, ℕ, ◌<◌, ◌==◌, ◌&&◌, ◌||◌, Bool, true, false, List, nat_le}
use Rattle.exb_model.specs.Tree.{Shape, IsTree, device, trunk, is_port, is_cascade, is_cascade_under}
use Rattle.exb_model.specs.TreeSets.{covers}
use Rattle.exb_model.specs.ExtenderForwarding.{Tables}
use Rattle.exb_control_spec.specs.declared.plan.row.Row.{Row}
use Rattle.exb_control_spec.specs.Plans.Rows.{rows_of, rows_have}

-- a port of an extender with trunk k
abbrev pub is_port_under : Shape → ℕ → ℕ → Bool
is_port_under s k p = nat_le 64 p && is_port s p && trunk s (device p) == k

-- a cascade port sends a number's frames on as they are: it was made one, and has a channel, another one
pub record SendsOn (t : Tables) (number p : ℕ) : Type 0 where
  pub kind : t.cascade p ≡ true
  pub channel : 0 < t.own p
  pub other : t.own p ≢ number

-- The rows of a set are laid for a number under bridge port k: the pairs of the number are just those of
-- the rows, each cascade port on the way to a port of the set sends on, and the ports of the set were made
-- what they are and have channels.
pub record IsLaid (s : Shape) (t : Tables) (k : ℕ) (set : ℕ → Bool) (number : ℕ) : Type 0 where
  pub rows : (p : ℕ) → is_port_under s k p ≡ true → t.pair number p ≡ covers s set p
  pub ways : (p : ℕ) → is_cascade_under s k p ≡ true → covers s set p ≡ true → set p ≡ false → SendsOn t number p
  pub kinds : (p : ℕ) → set p ≡ true → t.cascade p ≡ is_cascade s p
  pub channels : (p : ℕ) → set p ≡ true → 0 < t.own p

-- the tables with rows put under a number
abbrev pub with_rows : Tables → ℕ → List Row → Tables
with_rows t number rows = record t { pair = λ e p. t.pair e p || (e == number && rows_have rows p) }

-- no extender under bridge port k has a pair of the number
abbrev pub IsFree : Shape → Tables → ℕ → ℕ → Type 0
IsFree s t k number = (p : ℕ) → is_port_under s k p ≡ true → t.pair number p ≡ false

-- Where a number is free under bridge port k, cascade ports on the way to a set send on, and the ports of
-- the set have channels, the rows of the set are laid once they are put under the number.
abbrev pub RowsLie : Type 0
RowsLie =
    (s : Shape) (t : Tables) (k : ℕ) (set : ℕ → Bool) (number : ℕ) → IsTree s → IsFree s t k number →
    ((p : ℕ) → is_cascade_under s k p ≡ true → covers s set p ≡ true → set p ≡ false → SendsOn t number p) →
    ((p : ℕ) → set p ≡ true → t.cascade p ≡ is_cascade s p) → ((p : ℕ) → set p ≡ true → 0 < t.own p) →
    IsLaid s (with_rows t number (rows_of s set)) k set number
