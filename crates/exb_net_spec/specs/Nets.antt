-- What a net is given: bridges, and wires between their external ports.
use Rattle.std.specs.Prelude.{◌≡◌, ◌≢◌, ℕ, ◌<◌, ◌≤◌, ◌==◌, ◌&&◌, ◌||◌, Bool, true, if◌then◌else◌, List, [], ◌∷◌, ◌++◌, Option, Some, None, is_some, flat_map, All, AllPairs, sum_by, length}
use Rattle.std.specs.List.{list_any}
use Rattle.exb_model.specs.Input.{Input, tree_of}
use Rattle.exb_model.specs.Ports.{below}
use Rattle.exb_model.specs.Setup.{IsValid}
use Rattle.exb_model.specs.Tree.{is_external, external_ports}
use Rattle.exb_net_spec.specs.declared.wires.End.{End}
use Rattle.exb_net_spec.specs.declared.wires.Wire.{Wire}

-- so many bridges, each with its setup, its commands and its captures, and the wires, in the order of FILE
pub record Net : Type 0 where
  pub count : ℕ
  pub input : ℕ → Input
  pub wires : List Wire

-- ---- ends
abbrev pub is_at : End → ℕ → ℕ → Bool
is_at e b p = e.bridge == b && e.port == p

-- the other end of a wire of which one end is port p of bridge b
abbrev pub across : Wire → ℕ → ℕ → Option End
across x b p = if is_at x.a b p then Some x.b else if is_at x.b b p then Some x.a else None

abbrev pub first_or : {A : Type 0} → Option A → Option A → Option A
first_or (Some x) o = Some x
first_or None o = o

-- what is wired to port p of bridge b
unfoldable pub far_end : List Wire → ℕ → ℕ → Option End
far_end [] b p = None
far_end (x ∷ xs) b p = first_or (across x b p) (far_end xs b p)

abbrev pub is_wired : List Wire → ℕ → ℕ → Bool
is_wired xs b p = is_some (far_end xs b p)

-- ---- no loops
-- a wire lies between bridges b and c
abbrev pub is_between : ℕ → ℕ → Wire → Bool
is_between b c x = (x.a.bridge == b && x.b.bridge == c) || (x.b.bridge == b && x.a.bridge == c)

-- by these bridges, one after another, wires lead from b to c
abbrev pub Leads : List Wire → ℕ → List ℕ → ℕ → Type 0
Leads xs b [] c = b ≡ c
Leads xs b (d ∷ ds) c = (list_any (is_between b d) xs ≡ true) × Leads xs d ds c

-- they are the same, or wires join them
abbrev pub AreJoined : List Wire → ℕ → ℕ → Type 0
AreJoined xs b c = (by : List ℕ) × Leads xs b by c

-- no wire lies between bridges that are the same or that those before it join
abbrev pub HaveNoLoop : List Wire → List Wire → Type 0
HaveNoLoop before [] = Unit {0}
HaveNoLoop before (x ∷ xs) = (AreJoined before x.a.bridge x.b.bridge → ⊥) × HaveNoLoop (before ++ x ∷ []) xs

-- ---- when a net is valid
abbrev pub ends_of : List Wire → List End
ends_of xs = flat_map (λ (x : Wire). x.a ∷ x.b ∷ []) xs

-- an external port of a bridge of the net, of which no records come
pub record IsEnd (n : Net) (e : End) : Type 0 where
  pub bridge : e.bridge < n.count
  pub port : is_external (tree_of (n.input e.bridge)) e.port ≡ true
  pub free : (n.input e.bridge).records e.port ≡ []

-- Each bridge has a valid setup, each end is a port of a bridge that is in no other end and has no capture, and the
-- wires have no loop.
pub record IsNet (n : Net) : Type 0 where
  pub setups : (b : ℕ) → b < n.count → IsValid (n.input b).setup
  pub ends : All (IsEnd n) (ends_of n.wires)
  pub apart : AllPairs (λ e f. e ≢ f) (ends_of n.wires)
  pub loops : HaveNoLoop [] n.wires

-- how large a net of FILE is at most
pub record IsOfFile (n : Net) : Type 0 where
  pub some : 1 ≤ n.count
  pub bridges : n.count ≤ 16
  pub wires : length n.wires ≤ 15
  pub ports : sum_by (λ b. length (external_ports (tree_of (n.input b)))) (below n.count) ≤ 4160
