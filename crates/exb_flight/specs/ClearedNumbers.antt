-- What a request clears, and what then holds of the words on the links.
use Rattle.std.specs.Prelude.{◌≡◌, ℕ, true, false, List}
use Rattle.exb_model.specs.Tree.{Shape, device}
use Rattle.exb_csp.specs.Execution.{ExtenderTables}
use Rattle.exb_csp.specs.AllTables.{tables_at, executes_at}
use Rattle.exb_csp.specs.declared.ask_at.AskAt.{AskAt}
use Rattle.exb_flight.specs.Items.{Key, Item, Each, NotOf, NotFrom, words_of, has, behind}
use Rattle.exb_flight.specs.Tree.{Over, Above, IsDeep}

-- a number has a pair at the extender of a request that is gone once the request is executed
pub record IsCleared (s : Shape) (all : ℕ → ExtenderTables) (a : AskAt) (e : ℕ) : Type 0 where
  pub port : ℕ
  pub deep : IsDeep s port
  pub here : device port ≡ a.extender
  pub now : (tables_at all).pair e port ≡ true
  pub gone : (tables_at (executes_at a.extender a.request all)).pair e port ≡ false

-- The words of number e on the way to extender x: on each link they were sent before the request of this key, and no
-- link above one that holds the request has such a word.
pub record Clears (s : Shape) (down : ℕ → List Item) (key : Key) (x e : ℕ) : Type 0 where
  pub after : (n : ℕ) → Over s n x → Each (NotOf e) (behind key (down n))
  pub above : (n m : ℕ) → Over s n x → has key (down n) ≡ true → Above s m n → Each (NotOf e) (words_of (down m))

-- The words of port q on the way up from its extender x: on each link they were sent before the answer of this key, and
-- no link below one that holds the answer has such a word.
pub record Deletes (s : Shape) (up : ℕ → List Item) (key : Key) (x q : ℕ) : Type 0 where
  pub after : (n : ℕ) → Over s n x → Each (NotFrom q) (behind key (up n))
  pub below : (n m : ℕ) → Over s n x → has key (up n) ≡ true → Over s m x → Above s n m
      → Each (NotFrom q) (words_of (up m))
