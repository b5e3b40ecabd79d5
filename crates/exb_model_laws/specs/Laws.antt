-- Laws of the one bridge, over the definitions. `i` is what the history is of and `h` the history; a frame f
-- of moment t, record n of port p, is then relayed, and q is any port.
use Rattle.std.specs.Prelude.{◌≡◌, ◌≢◌, ◌⊎◌, ℕ, true, false, List, [], ◌∷◌, ◌++◌, Some, None}
use Rattle.exb_model.specs.declared.event.Event.{Event}
use Rattle.exb_model.specs.declared.event.Event.TheVariants as event
use Rattle.exb_model.specs.declared.event.Cause.{Cause}
use Rattle.exb_model.specs.declared.vlan.Kind.{Kind}
use Rattle.exb_model.specs.Frames.{destination, source, is_group, egress}
use Rattle.exb_model.specs.History.{Basis, History, ◌then◌, bridge_after}
use Rattle.exb_model.specs.Learning.{passes, learned}
use Rattle.exb_model.specs.Targets.{static_for}
use Rattle.exb_model.specs.FlatBridge.{flat}

-- by the event nothing leaves at the port
abbrev pub SendsNothing : Basis → History → Event → ℕ → Type 0
SendsNothing i h e q = flat i (e ∷ h) q ≡ flat i h q

abbrev pub NeverGoesBack : Type 0
NeverGoesBack = (i : Basis) (h : History) (p n t : ℕ) (f : List ℕ) → SendsNothing i h (event.Relay p n t f) p

-- the frame leaves once, with the bytes of that kind
pub record LeavesOnce (i : Basis) (h : History) (p n t : ℕ) (f : List ℕ) (q : ℕ) : Type 0 where
  pub vid : ℕ
  pub kind : Kind
  pub passed : passes (bridge_after i h) p f ≡ Some vid
  pub present : (bridge_after i h).present q ≡ true
  pub member : (bridge_after i h).member vid q ≡ Some kind
  pub once : flat i (event.Relay p n t f ∷ h) q ≡ flat i h q ++ (t, egress f kind vid) ∷ []

-- nothing leaves, or the frame once, and then by a present member of the VLAN in which it passes
abbrev pub LeavesByMembers : Type 0
LeavesByMembers =
    (i : Basis) (h : History) (p n t : ℕ) (f : List ℕ) (q : ℕ) →
    SendsNothing i h (event.Relay p n t f) q ⊎ LeavesOnce i h p n t f q

-- of two isolated ports neither sends what came at the other
abbrev pub IsolatedPortsAreApart : Type 0
IsolatedPortsAreApart =
    (i : Basis) (h : History) (p n t : ℕ) (f : List ℕ) (q : ℕ) →
    ((bridge_after i h).rule p).isolated ≡ true → ((bridge_after i h).rule q).isolated ≡ true →
    SendsNothing i h (event.Relay p n t f) q

-- a frame to an individual address that is learned at a port, and has no static entry, leaves by that port
-- at most.
abbrev pub LearnedGoesThere : Type 0
LearnedGoesThere =
    (i : Basis) (h : History) (p n t : ℕ) (f : List ℕ) (q v r : ℕ) →
    passes (bridge_after i h) p f ≡ Some v → static_for (bridge_after i h).statics v (destination f) ≡ None →
    is_group (destination f) ≡ false → learned i h v (destination f) ≡ Some r → q ≢ r →
    SendsNothing i h (event.Relay p n t f) q

abbrev pub NoGroupIsLearned : Type 0
NoGroupIsLearned = (i : Basis) (h : History) (v : ℕ) (m : List ℕ) → is_group m ≡ true → learned i h v m ≡ None

-- a frame from a group address changes nothing of what is learned
abbrev pub GroupSourceTeachesNothing : Type 0
GroupSourceTeachesNothing =
    (i : Basis) (h : History) (p n t : ℕ) (f : List ℕ) (v : ℕ) (m : List ℕ) → is_group (source f) ≡ true →
    learned i (event.Relay p n t f ∷ h) v m ≡ learned i h v m

abbrev pub AgeingZeroLearnsNothing : Type 0
AgeingZeroLearnsNothing = (i : Basis) (h : History) (v : ℕ) (m : List ℕ) → i.ageing ≡ 0 → learned i h v m ≡ None

-- whatever happens after a refused command, everything is as if it had not been given: the configuration,
-- what is learned and what has left
pub record IsSame (i : Basis) (h h' : History) : Type 0 where
  pub bridge : bridge_after i h ≡ bridge_after i h'
  pub learned : (v : ℕ) (m : List ℕ) → learned i h v m ≡ learned i h' v m
  pub left : (q : ℕ) → flat i h q ≡ flat i h' q

abbrev pub RefusedChangesNothing : Type 0
RefusedChangesNothing =
    (i : Basis) (h : History) (n : ℕ) (cause : Cause) (es : List Event) →
    IsSame i (h then (event.Refuse n cause ∷ es)) (h then es)
