-- What is true of all plans.
use Rattle.std.specs.Prelude.{◌≡◌, ◌≢◌, ℕ, ◌<◌, ◌≤◌, true, false, [], Some, None, is_some}
use Rattle.exb_model.specs.declared.command.Command.{Command}
use Rattle.exb_model.specs.Tree.{Shape, IsTree, is_cascade, is_external, is_extended, is_cascade_under}
use Rattle.exb_model.specs.Setup.{Limits}
use Rattle.exb_model.specs.Configuration.{Bridge, after}
use Rattle.exb_model.specs.Refusals.{refusal}
use Rattle.exb_control_spec.specs.Plans.HeldNumbers.{Held, HoldsNeeded, channel_in}
use Rattle.exb_control_spec.specs.Plans.Differences.{refusal_between}
use Rattle.exb_control_spec.specs.Plans.Plans.{claimed, freed}

-- A plan for what a command makes of a configuration is refused just where the command is, for the same cause.
abbrev pub RefusedAsCommanded : Type 0
RefusedAsCommanded = (t : Shape) (l : Limits) (old : Bridge) (c : Command) → IsTree t
    → refusal_between t l old (after c old) ≡ refusal t l old c

-- the presence of at most one port differs, and present ports are external ports of the tree
pub record IsStep (t : Shape) (old new : Bridge) : Type 0 where
  pub one : (p q : ℕ) → old.present p ≢ new.present p → old.present q ≢ new.present q → p ≡ q
  pub external_old : (q : ℕ) → old.present q ≡ true → is_external t q ≡ true
  pub external_new : (q : ℕ) → new.present q ≡ true → is_external t q ≡ true

-- Where just what the old configuration needs is held and the plan isn't refused, just what the new one needs
-- is held once the numbers are claimed and, at the end, freed.
abbrev pub HeldGoesOn : Type 0
HeldGoesOn =
    (t : Shape) (l : Limits) (old new : Bridge) (h : Held) → IsTree t → l.channels ≤ 4094 → l.groups ≤ 12288
    → IsStep t old new → HoldsNeeded t old h →
    refusal_between t l old new ≡ None → HoldsNeeded t new (freed t old new (claimed t l old new h))

-- no group is held, and just the cascade ports of extenders have channels, each one
pub record HoldsFirst (t : Shape) (h : Held) : Type 0 where
  pub groups : (k g : ℕ) → k < 64 → is_cascade t k ≡ true → h.set k g ≡ []
  pub channels : (k p : ℕ) → k < 64 → is_cascade t k ≡ true → is_some (channel_in h k p) ≡ is_cascade_under t k p
  pub one_channel : (k p c : ℕ) → k < 64 → is_cascade t k ≡ true → h.port k c ≡ Some p → channel_in h k p ≡ Some c

-- and no external port of an extender is present
pub record IsBeginning (t : Shape) (b : Bridge) (h : Held) : Type 0 where
  pub absent : (q : ℕ) → is_extended t q ≡ true → b.present q ≡ false
  pub held : HoldsFirst t h

-- Then just what the configuration needs is held.
abbrev pub BeginsHeld : Type 0
BeginsHeld = (t : Shape) (b : Bridge) (h : Held) → IsBeginning t b h → HoldsNeeded t b h
