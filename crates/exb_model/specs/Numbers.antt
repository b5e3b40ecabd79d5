-- The numbers by which the bridge reaches ports of extenders. Each bridge port has a space of its own.
use Rattle.std.specs.Prelude.{◌≡◌, ℕ, ◌<◌, ◌≤◌, Bool, true, bytes_eq, List, Option, Some, IsSome}
use Rattle.std.specs.List.{list_any}
use Rattle.exb_model.specs.Tree.{Shape, is_external, is_under}
use Rattle.exb_model.specs.Configuration.{Bridge}
use Rattle.exb_model.specs.Refusals.{sets_at}

-- in the space of a bridge port: the channel of a port, and the group of a set, its ports in order
pub record Numbers : Type 0 where
  pub channel : ℕ → ℕ → Option ℕ
  pub group : ℕ → List ℕ → Option ℕ

-- the set is one of the configuration's below bridge port k
abbrev pub has_set : Shape → ℕ → Bridge → List ℕ → Bool
has_set t k b set = list_any (bytes_eq set) (sets_at t k b)

-- Every present port is an external port of the tree. In the space of each bridge port k the sets of the
-- configuration have groups, and the present ports in U(k) channels. There may be more of both.
pub record IsReady (t : Shape) (b : Bridge) (m : Numbers) : Type 0 where
  pub external : (q : ℕ) → b.present q ≡ true → is_external t q ≡ true
  pub groups : (k : ℕ) (set : List ℕ) → k < 64 → has_set t k b set ≡ true → IsSome (m.group k set)
  pub channels : (k q : ℕ) → is_under t k q ≡ true → b.present q ≡ true → IsSome (m.channel k q)

-- Channels are 1 to 4094 and no two ports have one in the same space; groups are 4,096 to 16,383.
pub record IsNumbering (m : Numbers) : Type 0 where
  pub some : (k q c : ℕ) → m.channel k q ≡ Some c → 0 < c
  pub small : (k q c : ℕ) → m.channel k q ≡ Some c → c < 4095
  pub alone : (k q r c : ℕ) → m.channel k q ≡ Some c → m.channel k r ≡ Some c → q ≡ r
  pub high : (k g : ℕ) (set : List ℕ) → m.group k set ≡ Some g → 4096 ≤ g
  pub fits : (k g : ℕ) (set : List ℕ) → m.group k set ≡ Some g → g < 16384
