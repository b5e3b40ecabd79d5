-- Rings of nodes: for each node the one after it and the one before it.
use Rattle.std.specs.Prelude.{◌≡◌, ◌≤◌, ◌<◌, ◌+◌, ◌-◌, ℕ, Bool, ◌==◌, nat_lt, if◌then◌else◌, List, length, slice_get, Option, Some, None}
use Rattle.std.specs.Option.{option_map_or}
use Rattle.exb_learn.specs.declared.rings.RingLink.{RingLink}

-- f, with v at i
abbrev pub put : (ℕ → ℕ) → ℕ → ℕ → ℕ → ℕ
put f i v x = if x == i then v else f x

pub record Links : Type 0 where
  pub next : ℕ → ℕ
  pub prev : ℕ → ℕ

-- each node stands alone
abbrev pub itself : Links
itself = record { next = λ x. x; prev = λ x. x }

-- what a table has for a node; where it has nothing, the node itself
abbrev pub next_in : List RingLink → ℕ → ℕ
next_in links x = option_map_or (λ k. k.next) (slice_get links x) x

abbrev pub prev_in : List RingLink → ℕ → ℕ
prev_in links x = option_map_or (λ k. k.prev) (slice_get links x) x

pub record RingTable : Type 0 where
  pub heads : ℕ
  pub links : List RingLink

abbrev pub in_table : List RingLink → Links
in_table links = record { next = next_in links; prev = prev_in links }

abbrev pub links_of : RingTable → Links
links_of r = in_table r.links

-- for how many slots there is room
abbrev pub room_of : RingTable → ℕ
room_of r = length r.links - r.heads

-- no link leads out of the table
pub record IsClosed (links : List RingLink) : Type 0 where
  pub next : (x : ℕ) → x < length links → next_in links x < length links
  pub prev : (x : ℕ) → x < length links → prev_in links x < length links

-- a node is taken out of its ring
abbrev pub taken : Links → ℕ → Links
taken l x = record { next = put l.next (l.prev x) (l.next x); prev = put l.prev (l.next x) (l.prev x) }

-- a node x is put before another, b
abbrev pub placed : Links → ℕ → ℕ → Links
placed l b x = record { next = put (put l.next (l.prev b) x) x b; prev = put (put l.prev x (l.prev b)) b x }

-- The nodes that are in a ring; the first so many nodes are the heads. Each node has the ring in which it is, and a key
-- that doesn't fall from one node to the next. Each has a rank that rises from one node to the next, so each ring comes
-- back to its head.
pub record IsRings (inside : ℕ → Type 0) (heads : ℕ) (l : Links) (home key rank : ℕ → ℕ) : Type 0 where
  pub head : (x : ℕ) → x < heads → inside x × (home x ≡ x)
  pub next_in : (x : ℕ) → inside x → inside (l.next x)
  pub prev_in : (x : ℕ) → inside x → inside (l.prev x)
  pub forth : (x : ℕ) → inside x → l.prev (l.next x) ≡ x
  pub back : (x : ℕ) → inside x → l.next (l.prev x) ≡ x
  pub one_home : (x : ℕ) → inside x → home (l.prev x) ≡ home x
  pub rises : (x : ℕ) → inside x → heads ≤ x → heads ≤ l.prev x → (rank (l.prev x) < rank x) × (key (l.prev x) ≤ key x)

-- the rings of all slots from 0 to n - 1: their ranks stay below a bound
pub record IsRinged (heads n : ℕ) (l : Links) (home key : ℕ → ℕ) : Type 0 where
  pub rank : ℕ → ℕ
  pub top : ℕ
  pub below : (x : ℕ) → x < heads + n → rank x < top
  pub rings : IsRings (λ x. x < heads + n) heads l home key rank

module _ {K V : Type 0} (heads : ℕ) where
  -- a head's own number, and behind the heads what f has for the value of the entry with this slot
  abbrev pub by_slot : (V → ℕ) → List (K × V) → ℕ → ℕ
  by_slot f es x = if nat_lt x heads then x else option_map_or (λ e. f e.1) (slice_get es (x - heads)) 0

  -- each entry's slot stands in the ring that `home` has for its value, and `key` doesn't fall from one slot to the
  -- next
  abbrev pub IsLaid : Links → List (K × V) → (V → ℕ) → (V → ℕ) → Type 0
  IsLaid l es home key = IsRinged heads (length es) l (by_slot home es) (by_slot key es)

-- a node x is taken out, and stands then in the place of y
abbrev pub replaced : Links → ℕ → ℕ → Links
replaced l x y = placed (taken (taken l x) y) ((taken l x).next y) x

-- the links after slot i is taken out and slot n, the last, is given its number
abbrev pub removed : ℕ → Links → ℕ → ℕ → Links
removed heads l i n = if i == n then taken l (heads + i) else replaced l (heads + i) (heads + n)

-- the first slot of a ring
abbrev pub first_of : ℕ → Links → ℕ → Option ℕ
first_of heads l h = if l.next h == h then None else Some (l.next h - heads)

-- the links after a slot that may have to move is put at the end of a ring, or left where it is
abbrev pub moved_if : RingTable → Bool → ℕ → ℕ → Links
moved_if r moves ring slot = if moves then placed (taken (links_of r) (r.heads + slot)) ring
    (r.heads + slot) else links_of r

-- a table after a call: as many heads, as much room, and these links
pub record IsNow (old new : RingTable) (l : Links) : Type 0 where
  pub heads : new.heads ≡ old.heads
  pub links : links_of new ≡ l
  pub room : room_of new ≡ room_of old
