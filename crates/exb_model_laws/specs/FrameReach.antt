-- Where a frame arrives. `i` is what the history is of and `h` the history; a frame f of moment t, record n of
-- port p, is then relayed in VLAN v, and q is any port.
use Rattle.std.specs.Prelude.{◌≡◌, ◌≢◌, ◌⊎◌, ℕ, true, false, List, [], ◌∷◌, ◌++◌, Some, None}
use Rattle.exb_model.specs.declared.event.Event.TheVariants as event
use Rattle.exb_model.specs.declared.rules.StaticAt.{StaticAt}
use Rattle.exb_model.specs.declared.vlan.Kind.{Kind}
use Rattle.exb_model.specs.Ports.{port_in}
use Rattle.exb_model.specs.Frames.{destination, is_group, egress}
use Rattle.exb_model.specs.Configuration.{Bridge}
use Rattle.exb_model.specs.History.{Basis, History, bridge_after}
use Rattle.exb_model.specs.Learning.{passes, learned}
use Rattle.exb_model.specs.Targets.{static_for}
use Rattle.exb_model.specs.FlatBridge.{flat}

-- the frame comes at a present port, and passes in this VLAN
pub record Comes (k : Bridge) (p : ℕ) (f : List ℕ) (v : ℕ) : Type 0 where
  pub present : k.present p ≡ true
  pub passed : passes k p f ≡ Some v

-- port q may get what comes at port p: it is a present member of the VLAN, another port than p, and not
-- isolated where p is
pub record MayGet (k : Bridge) (p v q : ℕ) (kind : Kind) : Type 0 where
  pub present : k.present q ≡ true
  pub member : k.member v q ≡ Some kind
  pub other : q ≢ p
  pub apart : ((k.rule p).isolated ≡ false) ⊎ ((k.rule q).isolated ≡ false)

-- the frame leaves port q once, with the bytes of this kind
abbrev pub Reaches : Basis → History → ℕ → ℕ → ℕ → List ℕ → ℕ → ℕ → Kind → Type 0
Reaches i h p n t f v q kind = flat i (event.Relay p n t f ∷ h) q ≡ flat i h q ++ (t, egress f kind v) ∷ []

-- it doesn't leave port q
abbrev pub Misses : Basis → History → ℕ → ℕ → ℕ → List ℕ → ℕ → Type 0
Misses i h p n t f q = flat i (event.Relay p n t f ∷ h) q ≡ flat i h q

-- a frame without a static entry whose destination is a group address, or not learned, reaches every port that
-- may get it
abbrev pub FloodReachesAll : Type 0
FloodReachesAll =
    (i : Basis) (h : History) (p n t : ℕ) (f : List ℕ) (v q : ℕ) (kind : Kind) →
    Comes (bridge_after i h) p f v → static_for (bridge_after i h).statics v (destination f) ≡ None →
    (is_group (destination f) ≡ true) ⊎ (learned i h v (destination f) ≡ None) →
    MayGet (bridge_after i h) p v q kind → Reaches i h p n t f v q kind

-- one whose destination is learned reaches the learned port, where that may get it
abbrev pub LearnedIsReached : Type 0
LearnedIsReached =
    (i : Basis) (h : History) (p n t : ℕ) (f : List ℕ) (v q : ℕ) (kind : Kind) →
    Comes (bridge_after i h) p f v → static_for (bridge_after i h).statics v (destination f) ≡ None →
    is_group (destination f) ≡ false → learned i h v (destination f) ≡ Some q →
    MayGet (bridge_after i h) p v q kind → Reaches i h p n t f v q kind

-- where there is a static entry, its ports
pub record ByEntry (i : Basis) (h : History) (p n t : ℕ) (f : List ℕ) (v : ℕ) (entry : StaticAt) (q : ℕ) : Type 0 where
  pub listed : (kind : Kind) → port_in entry.ports q ≡ true → MayGet (bridge_after i h) p v q kind
      → Reaches i h p n t f v q kind
  pub others : port_in entry.ports q ≡ false → Misses i h p n t f q

abbrev pub StaticReachesItsPorts : Type 0
StaticReachesItsPorts =
    (i : Basis) (h : History) (p n t : ℕ) (f : List ℕ) (v q : ℕ) (entry : StaticAt) →
    Comes (bridge_after i h) p f v → static_for (bridge_after i h).statics v (destination f) ≡ Some entry →
    ByEntry i h p n t f v entry q
