-- The order in which a round goes through the directions of one way, and which of them has its turn.
use Rattle.std.specs.Prelude.{◌≡◌, ◌≢◌, ◌⊎◌, ℕ, ◌<◌, ◌≤◌, true, List, [], Some, slice_get}
use Rattle.exb_model.specs.Tree.{Shape, by_depth, is_extender}
use Rattle.exb_link.specs.declared.link_frame.LinkFrame.{LinkFrame}
use Rattle.exb_world_spec.specs.Settling.{deepest_first}
use Rattle.exb_world_spec.specs.Steps.{words_on}
use Rattle.exb_world_spec.specs.Worlds.{World}
use Rattle.exb_world_spec.specs.Worlds.{Way as Direction}
use Rattle.exb_world_spec.specs.Worlds.{Up as Upwards, Down as Downwards}
use Rattle.exb_world.specs.declared.link_turns.LinkTurn.{LinkTurn}
use Rattle.exb_link.specs.Links.{words_of}

-- up from the deepest extender, down from the bridge
abbrev pub order_of : Shape → Direction → List ℕ
order_of t Upwards = deepest_first t 64
order_of t Downwards = by_depth t

-- It is the first in the order, from a place on, that has a word.
pub record IsTurn (t : Shape) (way : Direction) (w : World) (first : ℕ) (turn : LinkTurn) : Type 0 where
  pub low : turn.place < 64
  pub from : first ≤ turn.place
  pub at : slice_get (order_of t way) turn.place ≡ Some turn.link
  pub extender : is_extender t turn.link ≡ true
  pub busy : words_on turn.link way w ≢ []
  pub before : (k n : ℕ) → first ≤ k → k < turn.place → slice_get (order_of t way) k ≡ Some n → words_on n way w ≡ []

-- the same of links alone
pub record IsFirst (order : List ℕ) (links : List (List LinkFrame)) (first : ℕ) (turn : LinkTurn) : Type 0 where
  pub low : turn.place < 64
  pub from : first ≤ turn.place
  pub at : slice_get order turn.place ≡ Some turn.link
  pub busy : words_of links turn.link ≢ []
  pub before : (k n : ℕ) → first ≤ k → k < turn.place → slice_get order k ≡ Some n → words_of links n ≡ []

-- the earlier of two places, of which the second counts only where it isn't before `from`
pub record IsEarlier (first place from result : ℕ) : Type 0 where
  pub one : (result ≡ first) ⊎ ((result ≡ place) × (from ≤ place))
  pub least : result ≤ first
  pub below : from ≤ place → result ≤ place
