-- Plans that keep the channels of the ports on which extenders hang.
use Rattle.std.specs.Prelude.{◌≡◌, ℕ, ◌<◌, ◌≤◌, Bool, true, [], Some}
use Rattle.exb_model.specs.Tree.{Shape, on, trunk, is_extender, is_cascade}
use Rattle.exb_model.specs.Setup.{Limits}
use Rattle.exb_model.specs.Configuration.{Bridge}
use Rattle.exb_control_spec.specs.Plans.HeldNumbers.{Held}
use Rattle.exb_control_spec.specs.InitialState.{first_held}
use Rattle.exb_control_spec.specs.Runs.MachineInvariant.{Planning}
use Rattle.exb_control_spec.specs.Runs.PlannedChanges.{planning, IsExact, HasBoth}

-- each port of an extender on which an extender hangs has a channel
abbrev pub AreFirst : Shape → Held → Type 0
AreFirst t f = (n : ℕ) → is_extender t n ≡ true → 64 ≤ on t n → (channel : ℕ) × (0 < channel)
    × (f.port (trunk t n) channel ≡ Some (on t n))

-- and has it still
abbrev pub AreFixed : Shape → Held → Held → Type 0
AreFixed t f h = (n channel : ℕ) → is_extender t n ≡ true → 64 ≤ on t n → 0 < channel
    → f.port (trunk t n) channel ≡ Some (on t n) → h.port (trunk t n) channel ≡ Some (on t n)

-- no channel is a group's number
abbrev pub AreHigh : Shape → Held → Type 0
AreHigh t h = (k c : ℕ) → k < 64 → is_cascade t k ≡ true → 0 < c → c < 4096 → h.set k c ≡ []

pub record IsExactly (t : Shape) (f : Held) (opened : ℕ → Bool) (b : Bridge) (h : Held) : Type 0 where
  pub exact : IsExact t opened b h
  pub first : AreFirst t f
  pub fixed : AreFixed t f h

pub record HasBothFixed (t : Shape) (f : Held) (opened : ℕ → Bool) (old new : Bridge) (h : Held) : Type 0 where
  pub both : HasBoth t opened old new h
  pub fixed : AreFixed t f h
  pub high : AreHigh t h

-- the plans of changes, of which this is asked too
abbrev pub fixing : Shape → Limits → Planning
fixing t l = record (planning t) { Exact = IsExactly t (first_held t l); During = HasBothFixed t (first_held t l) }
