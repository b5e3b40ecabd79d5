-- The tree of extenders below the bridge (IEEE 802.1BR-2012).
use Rattle.std.specs.Prelude.{◌≡◌, ℕ, zero, suc, ◌+◌, ◌*◌, ◌/◌, ◌%◌, ◌<◌, ◌==◌, ◌&&◌, ◌||◌, Bool, true, false, not, ◌++◌, List, [], ◌∷◌, length, nat_lt, nat_le, slice_index, if◌then◌else◌, filter, flat_map, count_by}
use Rattle.std.specs.List.{list_any, range_with_len}
use Rattle.exb_model.specs.declared.role.Role.{Role}
use Rattle.exb_model.specs.declared.role.Role.TheVariants as role
use Rattle.exb_model.specs.Ports.{all_ports}

-- the device of a port: 0 is the bridge, n is extender n
abbrev pub device : ℕ → ℕ
device p = p / 64

-- the number of a port at its device, from 1
abbrev pub port_number : ℕ → ℕ
port_number p = p % 64 + 1

-- The tree, by device from 0 (the bridge) to 64: how many ports a device has (0: there is no such
-- extender), and the port on which an extender hangs.
pub record Shape : Type 0 where
  pub ports : List ℕ
  pub on : List ℕ

abbrev pub on : Shape → ℕ → ℕ
on t n = slice_index t.on n

-- the tree has that port
abbrev pub is_port : Shape → ℕ → Bool
is_port t p = nat_lt (p % 64) (slice_index t.ports (device p))

-- there is an extender n
abbrev pub is_extender : Shape → ℕ → Bool
is_extender t n = nat_lt 0 n && nat_lt 0 (slice_index t.ports n)

-- extender n is there and hangs on port p
pub record HangsOn (t : Shape) (n p : ℕ) : Type 0 where
  pub extender : 0 < n
  pub there : 0 < slice_index t.ports n
  pub at : on t n ≡ p

-- an extender hangs on port p
abbrev pub IsCascade : Shape → ℕ → Type 0
IsCascade t p = (n : ℕ) × HangsOn t n p

-- some number below n passes
unfoldable pub any_below : (ℕ → Bool) → ℕ → Bool
any_below test zero = false
any_below test (suc n) = any_below test n || test n

-- the same as a test
unfoldable pub is_cascade : Shape → ℕ → Bool
is_cascade t p = any_below (λ n. is_extender t n && on t n == p) 65

-- a port of the tree on which no extender hangs
abbrev pub is_external : Shape → ℕ → Bool
is_external t p = is_port t p && not (is_cascade t p)

-- an external port of an extender
abbrev pub is_extended : Shape → ℕ → Bool
is_extended t p = nat_le 64 p && is_external t p

-- what a port is: none of the tree, an external port, or the port on which extender n hangs
abbrev pub HasRole : Shape → ℕ → Role → Type 0
HasRole t p role.Unknown = is_port t p ≡ false
HasRole t p role.External = is_external t p ≡ true
HasRole t p (role.Cascade n) = (is_port t p ≡ true) × HangsOn t n p

-- The ports from p up to the bridge, p first, at most d of them above p, where extender n hangs on port
-- n of `hung`.
unfoldable pub up : List ℕ → ℕ → ℕ → List ℕ
up hung zero p = p ∷ []
up hung (suc d) p = p ∷ (if nat_lt p 64 then [] else up hung d (slice_index hung (device p)))

-- the last one
unfoldable pub top : List ℕ → ℕ → ℕ → ℕ
top hung zero p = p
top hung (suc d) p = if nat_lt p 64 then p else top hung d (slice_index hung (device p))

-- There are at most 64 extenders, so at most 64 ports stand above any.
unfoldable pub path : List ℕ → ℕ → List ℕ
path hung p = up hung 64 p

-- port p lies on the way from q up to the bridge: q is p or lies below it
abbrev pub above : Shape → ℕ → ℕ → Bool
above t p q = list_any (λ x. x == p) (path t.on q)

-- the trunk of extender n: the bridge port above it
unfoldable pub trunk : Shape → ℕ → ℕ
trunk t n = top t.on 63 (on t n)

-- U(k): the external ports of the extenders with trunk k
abbrev pub is_under : Shape → ℕ → ℕ → Bool
is_under t k q = is_extended t q && trunk t (device q) == k

-- a cascade port of an extender with trunk k
abbrev pub is_cascade_under : Shape → ℕ → ℕ → Bool
is_cascade_under t k q = nat_le 64 q && is_port t q && is_cascade t q && trunk t (device q) == k

-- how many there are
unfoldable pub cascades_under : Shape → ℕ → ℕ
cascades_under t k = count_by (is_cascade_under t k) all_ports

-- how deep extender n hangs: 1 on the bridge
abbrev pub depth : Shape → ℕ → ℕ
depth t n = length (path t.on (on t n))

-- there is an extender n, and it hangs at depth d
abbrev pub hangs_at_depth : Shape → ℕ → ℕ → Bool
hangs_at_depth t n d = nat_lt 0 (slice_index t.ports n) && depth t n == d

-- the extenders up to number k that hang at depth d, by number
unfoldable pub level : Shape → ℕ → ℕ → List ℕ
level t d zero = []
level t d (suc k) = level t d k ++ (if hangs_at_depth t (suc k) d then suc k ∷ [] else [])

-- those that hang at depth d or above, by depth and number
unfoldable pub levels : Shape → ℕ → List ℕ
levels t zero = []
levels t (suc d) = levels t d ++ level t (suc d) 64

-- all extenders, by depth and number
unfoldable pub by_depth : Shape → List ℕ
by_depth t = levels t 64

-- the external ports of device n, in port order
unfoldable pub externals_of : Shape → ℕ → List ℕ
externals_of t n = filter (is_external t) (range_with_len (64 * n) 64)

-- the external ports, in port order
unfoldable pub external_ports : Shape → List ℕ
external_ports t = filter (is_external t) all_ports

-- the external ports of extenders, by depth and number of their extender
abbrev pub opening_ports : Shape → List ℕ
opening_ports t = flat_map (externals_of t) (by_depth t)

-- What makes it a tree: each extender hangs on a port that is there and on which no other one hangs, and
-- its way up ends at the bridge.
pub record IsTree (t : Shape) : Type 0 where
  pub sized : length t.ports ≡ 65
  pub on_port : (n : ℕ) → 0 < n → 0 < slice_index t.ports n → is_port t (on t n) ≡ true
  pub alone : (n m p : ℕ) → HangsOn t n p → HangsOn t m p → n ≡ m
  pub rooted : (n : ℕ) → 0 < n → 0 < slice_index t.ports n → top t.on 63 (on t n) < 64
