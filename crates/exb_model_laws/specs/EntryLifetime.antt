-- What is learned of a frame, and how long it stays so.
use Rattle.std.specs.Prelude.{⊤, ◌≡◌, ◌<◌, ℕ, true, false, List, [], ◌∷◌, Some, sum_by}
use Rattle.exb_model.specs.declared.event.Event.{Event}
use Rattle.exb_model.specs.declared.event.Event.TheVariants as event
use Rattle.exb_model.specs.Frames.{source, is_group}
use Rattle.exb_model.specs.History.{Basis, History, ◌then◌, bridge_after, seconds_of}
use Rattle.exb_model.specs.Learning.{passes, teaches, takes_down, learned}

-- the frame passes in VLAN v, and is from an individual address
pub record Teaches (i : Basis) (h : History) (p : ℕ) (f : List ℕ) (v : ℕ) : Type 0 where
  pub passed : passes (bridge_after i h) p f ≡ Some v
  pub individual : is_group (source f) ≡ false

-- where there is an ageing time, the source of such a frame is learned at its port
abbrev pub SourceIsLearned : Type 0
SourceIsLearned =
    (i : Basis) (h : History) (p n t : ℕ) (f : List ℕ) (v : ℕ) → Teaches i h p f v → 0 < i.ageing →
    learned i (event.Relay p n t f ∷ h) v (source f) ≡ Some p

-- the event neither shows the address at another port nor takes port p down
abbrev pub Leaves : Basis → History → ℕ → ℕ → List ℕ → Event → Type 0
Leaves i h p v m (event.Relay q n t f) = teaches (bridge_after i h) q f v m ≡ true → q ≡ p
Leaves i h p v m e = takes_down i p e ≡ false

-- none of the events after the history does, the oldest first
abbrev pub AllLeave : Basis → History → ℕ → ℕ → List ℕ → List Event → Type 0
AllLeave i h p v m [] = ⊤
AllLeave i h p v m (e ∷ es) = Leaves i h p v m e × AllLeave i (e ∷ h) p v m es

-- what was learned of a frame is learned after each such list of events of less than the ageing time
abbrev pub LearnedStays : Type 0
LearnedStays =
    (i : Basis) (h : History) (p n t : ℕ) (f : List ℕ) (v : ℕ) (es : List Event) → Teaches i h p f v →
    AllLeave i (event.Relay p n t f ∷ h) p v (source f) es → sum_by seconds_of es < i.ageing →
    learned i ((event.Relay p n t f ∷ h) then es) v (source f) ≡ Some p
