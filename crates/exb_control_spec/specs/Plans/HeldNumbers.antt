-- What the spaces hold: by the place of a bridge port, which is its number less 1, the port of each channel
-- and the set of each group.
use Rattle.std.specs.Prelude.{◌≡◌, ℕ, ◌+◌, ◌-◌, ◌<◌, ◌==◌, ◌&&◌, ◌||◌, Bool, true, not, bytes_eq, List, [], ◌∷◌, Option, Some, None, is_some, find, nat_lt, if◌then◌else◌}
use Rattle.std.specs.List.{list_any, range_with_len}
use Rattle.exb_model.specs.Tree.{Shape, device, is_cascade, is_under, is_cascade_under, trunk}
use Rattle.exb_model.specs.Configuration.{Bridge}
use Rattle.exb_model.specs.Refusals.{is_empty_set, sets_at}
use Rattle.exb_model.specs.LowestFree.{lowest_free, is_port}
use Rattle.exb_model.specs.Numbers.{Numbers}
use Rattle.exb_control_spec.specs.Plans.Sets.{PortsAt}

-- the port of a channel, and the ports of a group in order, none where it is free
pub record Held : Type 0 where
  pub port : ℕ → ℕ → Option ℕ
  pub set : ℕ → ℕ → List ℕ

-- the channel of a port, among all that there can be
unfoldable pub channel_in : Held → ℕ → ℕ → Option ℕ
channel_in h k p = find (λ c. is_port p (h.port k c)) (range_with_len 1 4094)

-- the group of a set, among all that there can be
unfoldable pub group_in : Held → ℕ → List ℕ → Option ℕ
group_in h k set = if is_empty_set set then None else find (λ g. bytes_eq set (h.set k g)) (range_with_len 4096 12288)

-- what is held, as the numbers by which the bridge reaches ports
abbrev pub numbers_in : Held → Numbers
numbers_in h = record { channel = channel_in h; group = group_in h }

abbrev pub channel_used : Held → ℕ → ℕ → Bool
channel_used h k c = is_some (h.port k c)

abbrev pub group_used : Held → ℕ → ℕ → Bool
group_used h k g = not (is_empty_set (h.set k g))

-- ---- exactly what a configuration needs
-- a port that has a channel in the space of bridge port k: a present port of U(k), or a cascade port of an
-- extender under k
abbrev pub needs_channel : Shape → Bridge → ℕ → ℕ → Bool
needs_channel t b k p = is_under t k p && b.present p || is_cascade_under t k p

-- Each cascade port of the bridge has a space. Its groups are just of the sets that the configuration needs
-- there, its channels just of the ports that need one, and no set and no port has two.
pub record HoldsNeeded (t : Shape) (b : Bridge) (h : Held) : Type 0 where
  pub channels : (k p : ℕ) → k < 64 → is_cascade t k ≡ true → is_some (channel_in h k p) ≡ needs_channel t b k p
  pub one_channel : (k p c : ℕ) → k < 64 → is_cascade t k ≡ true → h.port k c ≡ Some p → channel_in h k p ≡ Some c
  pub groups : (k : ℕ) (set : List ℕ) → k < 64 → is_cascade t k ≡ true → is_some (group_in h k set)
      ≡ list_any (bytes_eq set) (sets_at t k b)
  pub one_group : (k g : ℕ) → k < 64 → is_cascade t k ≡ true → group_used h k g ≡ true
      → group_in h k (h.set k g) ≡ Some g

-- ---- numbers that are given
abbrev pub or_zero : Option ℕ → ℕ
or_zero None = 0
or_zero (Some n) = n

-- the lowest free channel of so many, and the lowest free group of so many; 0, which is neither, where all
-- are in use
abbrev pub free_channel : ℕ → Held → ℕ → ℕ
free_channel channels h k = or_zero (lowest_free (channel_used h k) 1 channels)

abbrev pub free_group : ℕ → Held → ℕ → ℕ
free_group groups h k = or_zero (lowest_free (group_used h k) 4096 groups)

-- a group, with its set, in the space of a bridge port, which is numbered from 1
pub record Group : Type 0 where
  pub bridge_port : ℕ
  pub number : ℕ
  pub ports : List ℕ

-- the group is given to its set
abbrev pub give : Group → Held → Held
give x h = record h { set = λ k g. if k + 1 == x.bridge_port && g == x.number then x.ports else h.set k g }

-- and taken back
abbrev pub take_back : Group → Held → Held
take_back x h = record h { set = λ k g. if k + 1 == x.bridge_port && g == x.number then [] else h.set k g }

unfoldable pub give_all : List Group → Held → Held
give_all [] h = h
give_all (x ∷ xs) h = give_all xs (give x h)

-- the group that a set gets: the lowest free one
abbrev pub group_for : ℕ → Held → PortsAt → Group
group_for groups h s = record {
  bridge_port = s.bridge_port;
  number = free_group groups h (s.bridge_port - 1);
  ports = s.ports;
}

-- the groups that sets get in their order
unfoldable pub numbered : ℕ → Held → List PortsAt → List Group
numbered groups h [] = []
numbered groups h (s ∷ sets) = group_for groups h s ∷ numbered groups (give (group_for groups h s) h) sets

-- port p gets a channel of its trunk
abbrev pub give_channel : Shape → ℕ → ℕ → Held → Held
give_channel t p c h = record h { port = λ k e. if k == trunk t (device p) && e == c then Some p else h.port k e }

-- ---- numbers that are freed
abbrev pub free_port_of : Shape → ℕ → ℕ → Held → Held
free_port_of t p c h = record h { port = λ k e. if k == trunk t (device p) && e == c then None else h.port k e }

-- the groups for which the test holds, by bridge port and number, are free
abbrev pub free_where : (ℕ → ℕ → Bool) → Held → Held
free_where gone h = record h { set = λ k g. if gone k g then [] else h.set k g }

-- ---- spaces
-- bridge port k has a space: an extender hangs on it
abbrev pub is_place : Shape → ℕ → Bool
is_place t k = nat_lt k 64 && is_cascade t k

-- Numbers are held in the spaces of the bridge's cascade ports alone.
abbrev pub in_spaces : Shape → Held → Held
in_spaces t h =
    record {
      port = λ k c. if is_place t k then h.port k c else None;
      set = λ k g. if is_place t k then h.set k g else [];
    }
