-- What is true of the requests of all plans.
use Rattle.std.specs.Prelude.{◌≡◌, ℕ, ◌≤◌, ◌^◌, ◌&&◌, true, false, nat_lt, List, [], ◌∷◌, None, length}
use Rattle.exb_model.specs.Tree.{Shape, IsTree, is_cascade, is_extender}
use Rattle.exb_model.specs.Setup.{Limits}
use Rattle.exb_model.specs.Configuration.{Bridge}
use Rattle.exb_csp.specs.declared.ask_at.AskAt.{AskAt}
use Rattle.exb_control_spec.specs.declared.plan.change.Change.{Change}
use Rattle.exb_control_spec.specs.Plans.HeldNumbers.{Held, HoldsNeeded}
use Rattle.exb_control_spec.specs.Plans.Differences.{refusal_between}
use Rattle.exb_control_spec.specs.Plans.Plans.{prepare_of, cleanup_of, claimed, freed, change_of}
use Rattle.exb_control_spec.specs.Plans.Laws.{IsStep}
use Rattle.exb_control_spec.specs.declared.job.Job.{Job}
use Rattle.exb_control_spec.specs.Decisions.{Ready, decide, release}
use Rattle.exb_control_spec.specs.JobsOfTree.{Fits}

-- a change that is planned from one configuration to another
pub record IsPlanned (t : Shape) (l : Limits) (old new : Bridge) (h : Held) : Type 0 where
  -- the extenders make a tree
  pub tree : IsTree t
  -- the numbers that may be given are channels and groups
  pub channels : l.channels ≤ 4094
  pub groups : l.groups ≤ 12288
  -- at most one port goes up or down
  pub step : IsStep t old new
  -- just what the old configuration needs is held
  pub needed : HoldsNeeded t old h
  -- there are enough numbers
  pub fits : refusal_between t l old new ≡ None

-- A plan has at most 2 ^ 20 requests before its commit, and as many after it.
abbrev pub ChangesAreShort : Type 0
ChangesAreShort =
    (t : Shape) (l : Limits) (old new : Bridge) (h : Held) → IsPlanned t l old new h →
    (length (prepare_of t l old new h) ≤ 2 ^ 20) × (length (cleanup_of t old new h) ≤ 2 ^ 20)

-- no group is held but at the cascade ports of the bridge
abbrev pub IsHeldAtCascades : Shape → Held → Type 0
IsHeldAtCascades t h = (k g : ℕ) → (nat_lt k 64 && is_cascade t k) ≡ false → h.set k g ≡ []

-- What is given back at the end of a change is what its plan frees.
abbrev pub ReleasedIsFreed : Type 0
ReleasedIsFreed =
    (t : Shape) (l : Limits) (old new : Bridge) (h : Held) → IsPlanned t l old new h → IsHeldAtCascades t h →
    release (change_of t l old new h) (claimed t l old new h) ≡ freed t old new (claimed t l old new h)

-- Then just what the new configuration needs is held.
abbrev pub ReleasedIsNeeded : Type 0
ReleasedIsNeeded =
    (t : Shape) (l : Limits) (old new : Bridge) (h : Held) → IsPlanned t l old new h →
    HoldsNeeded t new (release (change_of t l old new h) (claimed t l old new h))

-- each request goes to an extender of the tree
abbrev pub AreKnown : Shape → List AskAt → Type 0
AreKnown t [] = Unit {0}
AreKnown t (a ∷ rest) = (is_extender t a.extender ≡ true) × AreKnown t rest

pub record IsKnown (t : Shape) (x : Change) : Type 0 where
  pub prepare : AreKnown t x.prepare
  pub cleanup : AreKnown t x.cleanup

-- So do those of each change that is decided.
abbrev pub PlansAreKnown : Type 0
PlansAreKnown = (t : Shape) (l : Limits) (b : Bridge) (h : Held) (j : Job) (x : Change) (claimed : Held) → Fits t j
    → decide t l b h j ≡ Ready x claimed → IsKnown t x
