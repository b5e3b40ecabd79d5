-- What is true of the requests of all plans, and of the tables that they lead to.
use Rattle.std.specs.Prelude.{◌≡◌, ℕ, ◌≤◌, ◌<◌, ◌==◌, ◌||◌, Bool, true, false, slice_index, [], Some, None}
use Rattle.exb_model.specs.Tree.{Shape, IsTree, device, on, is_cascade, is_extender, is_extended}
use Rattle.exb_model.specs.Setup.{Limits}
use Rattle.exb_model.specs.Configuration.{Bridge}
use Rattle.exb_csp.specs.PortMasks.{powered_on}
use Rattle.exb_control_spec.specs.Plans.LaidRows.{IsLaid, IsFree}
use Rattle.exb_csp.specs.AllTables.{tables_at, RunsAt}
use Rattle.exb_model.specs.Lists.{is_listed}
use Rattle.exb_control_spec.specs.Plans.HeldNumbers.{Held, HoldsNeeded, needs_channel, group_used}
use Rattle.exb_control_spec.specs.Plans.Differences.{goes_up}
use Rattle.exb_control_spec.specs.Plans.Plans.{prepare_of, cleanup_of, claimed, freed}
use Rattle.exb_control_spec.specs.Plans.Laws.{IsBeginning}
use Rattle.exb_control_spec.specs.RequestLaws.{IsPlanned}
use Rattle.exb_control_spec.specs.Decisions.{channel_of, opening_asks}
use Rattle.exb_control_spec.specs.Runs.LaidTables.{is_shown, laid}

-- ---- what executing the requests leads to
-- Extenders are opened from the bridge down, and ports are present just at opened ones.
pub record AreOpened (t : Shape) (opened : ℕ → Bool) (b : Bridge) : Type 0 where
  -- the extender on which an opened one hangs is opened
  pub above : (n : ℕ) → is_extender t n ≡ true → opened n ≡ true → 64 ≤ on t n → opened (device (on t n)) ≡ true
  -- a present port of an extender is one of an opened extender
  pub present : (q : ℕ) → is_extended t q ≡ true → b.present q ≡ true → opened (device q) ≡ true

-- a planned change where extenders are opened
pub record IsReady (t : Shape) (l : Limits) (old new : Bridge) (h : Held) (opened : ℕ → Bool) : Type 0 where
  pub planned : IsPlanned t l old new h
  -- extenders are opened for the old configuration
  pub order : AreOpened t opened old
  -- a port that goes up is one of an opened extender
  pub up : (p : ℕ) → goes_up t old new ≡ Some p → opened (device p) ≡ true

-- the requests before the commit are each answered with code 0 and lay just what is claimed
abbrev pub PrepareRuns : Shape → Limits → Bridge → Bridge → Held → (ℕ → Bool) → Type 0
PrepareRuns t l old new h opened = RunsAt (laid t opened h) (prepare_of t l old new h)
    (laid t opened (claimed t l old new h))

-- those after it are each answered with code 0 and leave just what isn't freed
abbrev pub CleanupRuns : Shape → Limits → Bridge → Bridge → Held → (ℕ → Bool) → Type 0
CleanupRuns t l old new h opened =
    RunsAt (laid t opened (claimed t l old new h)) (cleanup_of t old new h)
    (laid t opened (freed t old new (claimed t l old new h)))

-- Where just what is held is laid, executing a plan's requests in order gives code 0 each time; then just what is
-- claimed is laid, and at the end just what isn't freed.
abbrev pub PlansRun : Type 0
PlansRun =
    (t : Shape) (l : Limits) (old new : Bridge) (h : Held) (opened : ℕ → Bool) → IsReady t l old new h opened →
    PrepareRuns t l old new h opened × CleanupRuns t l old new h opened

abbrev pub with_opened : (ℕ → Bool) → ℕ → ℕ → Bool
with_opened opened n m = m == n || opened m

-- an extender may be opened
pub record CanOpen (t : Shape) (b : Bridge) (h : Held) (opened : ℕ → Bool) (n : ℕ) : Type 0 where
  -- the extenders make a tree
  pub tree : IsTree t
  -- just what the configuration needs is held
  pub needed : HoldsNeeded t b h
  pub order : AreOpened t opened b
  -- the extender is of the tree, and isn't opened
  pub there : is_extender t n ≡ true
  pub closed : opened n ≡ false
  -- the extender on which it hangs is opened
  pub above : 64 ≤ on t n → opened (device (on t n)) ≡ true

-- Executing the requests of an opening gives code 0 each time, and then the channels of the extender's cascade ports
-- are laid.
abbrev pub OpeningsRun : Type 0
OpeningsRun =
    (t : Shape) (b : Bridge) (h : Held) (opened : ℕ → Bool) (n : ℕ) → CanOpen t b h opened n →
    RunsAt (laid t opened h) (opening_asks t n h) (laid t (with_opened opened n) h)

-- ---- what is laid
-- What the tables of all extenders say of what is held under each cascade port of the bridge.
pub record IsLaidOut (t : Shape) (opened : ℕ → Bool) (b : Bridge) (h : Held) : Type 0 where
  -- the rows of each group are those of its set
  pub groups : (k g : ℕ) → k < 64 → is_cascade t k ≡ true → group_used h k g ≡ true
      → IsLaid t (tables_at (laid t opened h)) k (is_listed (h.set k g)) g
  -- a port that needs a channel has the one that it holds, once it was created
  pub own : (k p : ℕ) → k < 64 → is_cascade t k ≡ true → needs_channel t b k p ≡ true → is_shown t opened p ≡ true
      → (tables_at (laid t opened h)).own p ≡ channel_of t h p
  -- its rows are those of the port
  pub channels : (k p : ℕ) → k < 64 → is_cascade t k ≡ true → needs_channel t b k p ≡ true
      → is_shown t opened p ≡ true →
      IsLaid t (tables_at (laid t opened h)) k (λ x. x == p) (channel_of t h p)
  -- a number that isn't held has no rows
  pub free : (k e : ℕ) → h.port k e ≡ None → h.set k e ≡ [] → IsFree t (tables_at (laid t opened h)) k e

-- At rest just what is held is laid out.
abbrev pub RestIsLaidOut : Type 0
RestIsLaidOut =
    (t : Shape) (b : Bridge) (h : Held) (opened : ℕ → Bool) → IsTree t → HoldsNeeded t b h → AreOpened t opened b
    → IsLaidOut t opened b h

-- In the middle of a change, for the old configuration and the new one.
abbrev pub ClaimedIsLaidOut : Type 0
ClaimedIsLaidOut =
    (t : Shape) (l : Limits) (old new : Bridge) (h : Held) (opened : ℕ → Bool) → IsReady t l old new h opened →
    IsLaidOut t opened old (claimed t l old new h) × IsLaidOut t opened new (claimed t l old new h)

-- At power-on no extender has anything, and where nothing but the channels of cascade ports is held that is laid, since
-- no extender is opened.
abbrev pub NothingIsLaid : Type 0
NothingIsLaid =
    (t : Shape) (b : Bridge) (h : Held) → IsTree t → IsBeginning t b h → laid t (λ n. false) h
    ≡ (λ n. powered_on (slice_index t.ports n))
