-- Requests that only add to the tables, and requests that only take away; and numbers that stay held.
use Rattle.std.specs.Prelude.{◌≡◌, ℕ, ◌<◌, ◌≤◌, true, false, List, [], ◌∷◌, Some}
use Rattle.exb_model.specs.Refusals.{is_empty_set}
use Rattle.exb_csp.specs.declared.message.Request.{Request}
use Rattle.exb_csp.specs.declared.message.Request.TheVariants.{Open, PortCreate, PortDelete, Register, Unregister, RegisterMany, UnregisterMany}
use Rattle.exb_csp.specs.Execution.{ExtenderTables}
use Rattle.exb_csp.specs.declared.ask_at.AskAt.{AskAt}
use Rattle.exb_control_spec.specs.Plans.HeldNumbers.{Held}

-- The second tables of an extender have all pairs of the first, and each port that has a channel in the first has it
-- there, and is of the same kind.
pub record IsWithin (x y : ExtenderTables) : Type 0 where
  pub pairs : (e q : ℕ) → x.pair e q ≡ true → y.pair e q ≡ true
  pub own : (q : ℕ) → 0 < x.own q → y.own q ≡ x.own q
  pub kinds : (q : ℕ) → 0 < x.own q → y.cascade q ≡ x.cascade q

-- so it is at each extender
abbrev pub AreWithin : (ℕ → ExtenderTables) → (ℕ → ExtenderTables) → Type 0
AreWithin all more = (n : ℕ) → IsWithin (all n) (more n)

-- the request lays something, or opens
abbrev pub IsAdding : Request → Type 0
IsAdding Open = Unit {0}
IsAdding (PortCreate port cascade channel) = Unit {0}
IsAdding (PortDelete port) = ⊥
IsAdding (Register ecid mask) = Unit {0}
IsAdding (Unregister ecid) = ⊥
IsAdding (RegisterMany rows) = Unit {0}
IsAdding (UnregisterMany ecids) = ⊥

-- it clears something
abbrev pub IsClearing : Request → Type 0
IsClearing Open = ⊥
IsClearing (PortCreate port cascade channel) = ⊥
IsClearing (PortDelete port) = Unit {0}
IsClearing (Register ecid mask) = ⊥
IsClearing (Unregister ecid) = Unit {0}
IsClearing (RegisterMany rows) = ⊥
IsClearing (UnregisterMany ecids) = Unit {0}

-- so it is of each request of a list
abbrev pub AllAsk : (Request → Type 0) → List AskAt → Type 0
AllAsk P [] = Unit {0}
AllAsk P (a ∷ more) = P a.request × AllAsk P more

abbrev pub AllAdd : List AskAt → Type 0
AllAdd asks = AllAsk IsAdding asks

abbrev pub AllClear : List AskAt → Type 0
AllClear asks = AllAsk IsClearing asks

-- ---- numbers
-- all that is held is held afterwards too
pub record Keeps (h g : Held) : Type 0 where
  pub groups : (k n : ℕ) (set : List ℕ) → is_empty_set set ≡ false → 4096 ≤ n → h.set k n ≡ set → g.set k n ≡ set
  pub ports : (k c p : ℕ) → 1 ≤ c → h.port k c ≡ Some p → g.port k c ≡ Some p
