-- What a network keeps: the machine's world stays sound, and words stay bytes.
use Rattle.std.proofs.Common.{◌≡◌, ℕ, ◌<◌, ◌^◌, ◌≤◌, true, List, [], ◌∷◌, Option, Some, None, refl, sym, ap, ◌∙◌, subst}
use Rattle.std.specs.Prelude.{is_none, ◌++◌, All}
use Rattle.exb_model.specs.declared.setup.Setup.{Setup}
use Rattle.exb_model.specs.Setup.{Limits, IsValid, shape_of, limits_of, start_of}
use Rattle.exb_model.specs.Tree.{Shape, IsTree, is_extender}
use Rattle.exb_control_spec.specs.Runs.PlannedChanges.{IsSetting}
use Rattle.exb_control.specs.ActiveConfigs.{IsActiveConfig}
use Rattle.exb_control_spec.specs.PlannedExchanges.{planned}
use Rattle.exb_control_spec.specs.Decisions.{decide}
use Rattle.exb_control_spec.specs.Machine.{State}
use Rattle.exb_control.specs.Controls.{decide_of}
use Rattle.exb_control.specs.Queues.{is_empty}
use Rattle.exb_world_spec.specs.AllowedSteps.{Can, IsSettled}
use Rattle.exb_world_spec.specs.Settling.{run}
use Rattle.exb_world_spec.specs.Steps.{done_by, stepped}
use Rattle.exb_world_spec.specs.Worlds.{World, Step, first_world}
use Rattle.exb_world_spec.specs.Runs.Requests.{AsksCanBeSent, AsksWell}
use Rattle.exb_world_spec.specs.Runs.SessionLaws.{HasBytes, RunsStaySound, SetupsBeginSound}
use Rattle.exb_world_spec.specs.Runs.Sessions.{AreLow}
use Rattle.exb_world_spec.specs.Runs.Simulation.{IsSound}
use Rattle.exb_world_spec.specs.Runs.FrameBytes.{AreWritten, BeginsWritten, StepsStayWritten, WrittenAreShort}
use Rattle.exb_outbox.specs.declared.log.Log.{Log}
use Rattle.exb_world.specs.declared.parts.WorldParts.{WorldParts}
use Rattle.exb_world.specs.IdleExtenders.{IsIdle}
use Rattle.exb_world.specs.WorldContracts.{IsLive}
use Rattle.exb_world_spec.specs.Runs.ReachedWorlds.{IsReached, HasVid, HasVidIn, MayTake, MayTakeAll, beginning, reached_by}
use Rattle.exb_world_spec.specs.Steps.{Stepped}
use Rattle.exb_world_spec.proofs.Rounds.{run_then}
use Rattle.exb_bridge.specs.TreeIndexes.{Site, limits_in}
use Rattle.exb_world.specs.MachineWorlds.{world_in, IsAt, Does}
use Rattle.exb_bridge.proofs.ExtenderRequests.{serials_low}

-- ---- a step
pub setting_of : (s : Site) (c : WorldParts) → IsActiveConfig c.bridge.control.active → IsAt s c → IsSetting s.tree (limits_in s)
setting_of s c active is_at =
    record {
      tree = subst IsTree is_at.shape active.tree;
      channels = subst (λ (l : Limits). l.channels ≤ 4094) is_at.limits active.channels;
      groups = subst (λ (l : Limits). l.groups ≤ 12288) is_at.limits active.groups;
    }

pub asks_well : AsksCanBeSent → (s : Site) (c : WorldParts) → IsActiveConfig c.bridge.control.active → IsLive s c → AsksWell s.tree (limits_in s) (world_in c).control
asks_well law s c active live = law s.tree (limits_in s) (world_in c) (setting_of s c active live.at) live.sound

-- a step more
module _ (t : Shape) (l : Limits) where
  take_then : (xs ys : List Step) (w : World) → MayTakeAll t l w xs → MayTakeAll t l (run t l xs w).world ys → MayTakeAll t l w (xs ++ ys)
  unfolding run
  take_then [] ys w a b = b
  take_then (x ∷ xs) ys w a b = (a.0, take_then xs ys (stepped t l x w).world a.1 b)

  one_step : (step : Step) (w : World) → (run t l (step ∷ []) w).world ≡ (stepped t l step w).world
  unfolding run
  one_step step w = refl

reached_more : (t : Shape) (l : Limits) (w v : World) (step : Step) → IsReached t l w → MayTake t w step → v ≡ (stepped t l step w).world → IsReached t l v
reached_more t l w v step k may is =
    let t0 : Shape = shape_of k.setup in
    let l0 : Limits = limits_of k.setup in
    let u : World = reached_by k.setup k.steps in
    let P : Shape → Limits → World → Type 0 = λ a b z. MayTake a z step × (v ≡ (stepped a b step z).world) in
    let here : P t l w = (may, is) in
    let there : P t0 l0 u = subst (P t0 l0) k.world (subst (λ (b : Limits). P t0 b w) k.limits (subst (λ (a : Shape). P a l w) k.tree here)) in
    record {
      setup = k.setup;
      steps = k.steps ++ step ∷ [];
      valid = k.valid;
      vids = k.vids;
      tree = k.tree;
      limits = k.limits;
      may = take_then t0 l0 k.steps (step ∷ []) (beginning k.setup) k.may (there.0, tt);
      world = there.1 ∙ (sym (one_step t0 l0 step u) ∙ ap (λ (z : Stepped). z.world) (sym (run_then t0 l0 k.steps (step ∷ []) (beginning k.setup))));
    }

pub live_after : RunsStaySound → StepsStayWritten → WrittenAreShort → (s : Site) (c d : WorldParts) (step : Step) (old new : Log) → IsActiveConfig c.bridge.control.active → IsLive s c → Can s.tree (world_in c) step → HasBytes step → HasVidIn step →
    ((n : ℕ) → ((world_in c).control.askers n).serial < 2 ^ 40) → ((n : ℕ) → ((world_in d).control.askers n).serial < 2 ^ 40) →
    Does (done_by s.tree (limits_in s) step (world_in c)) s d old new → IsLive s d
unfolding run stepped
live_after sounds writes shorts s c d step old new active live can bytes vid low low_after does =
    record {
      at = does.at;
      sound = subst (IsSound s.tree (limits_in s)) (sym does.world) sound;
      written = subst AreWritten (sym does.world) written;
      reached = reached_more s.tree (limits_in s) (world_in c) (world_in d) step live.reached (record { can = can; has = bytes; vid = vid }) does.world;
    }
  where
    setting : IsSetting s.tree (limits_in s)
    setting = setting_of s c active live.at

    lows : AreLow (world_in c).control.askers
    lows = serials_low (world_in c).control.askers low

    lows_after : AreLow (done_by s.tree (limits_in s) step (world_in c)).world.control.askers
    lows_after = subst (λ (w : World). AreLow w.control.askers) does.world (serials_low (world_in d).control.askers low_after)

    sound : IsSound s.tree (limits_in s) (done_by s.tree (limits_in s) step (world_in c)).world
    sound =
        (sounds s.tree (limits_in s) setting (world_in c) (step ∷ []) live.sound
        (record { can = can; has = bytes; bytes = (shorts (world_in c) live.written).0; low = lows; after = lows_after }, tt)).sound

    written : AreWritten (done_by s.tree (limits_in s) step (world_in c)).world
    written = writes s.tree (limits_in s) setting (world_in c) step live.sound active.pvids can bytes lows lows_after live.written

-- as it begins
pub live_first : SetupsBeginSound → BeginsWritten → (setup : Setup) (s : Site) (c : WorldParts) → IsValid setup → All HasVid setup.start → s.tree ≡ shape_of setup → limits_in s ≡ limits_of setup →
    world_in c ≡ first_world (shape_of setup) (limits_of setup) (start_of setup) setup.ageing → IsAt s c → IsLive s c
unfolding run
live_first sounds writes setup s c valid vids tree limits world is_at =
    record {
      at = is_at;
      sound =
          subst (λ (t : Shape). IsSound t (limits_in s) (world_in c)) (sym tree) (
          subst (λ (l : Limits). IsSound (shape_of setup) l (world_in c)) (sym limits) (
          subst (IsSound (shape_of setup) (limits_of setup)) (sym world) (sounds setup valid).1));
      written = subst AreWritten (sym world) (writes (shape_of setup) (limits_of setup) (start_of setup) setup.ageing);
      reached = first_reached;
    }
  where
    first_reached : IsReached s.tree (limits_in s) (world_in c)
    first_reached = record { setup = setup; steps = []; valid = valid; vids = vids; tree = tree; limits = limits; may = tt; world = world }

-- ---- settled
empty_is : {A : Type 0} (xs : List A) → is_empty xs ≡ true → xs ≡ []
empty_is [] e = refl
empty_is (x ∷ xs) e = absurd (cc)

none_is : {A : Type 0} (o : Option A) → is_none o ≡ true → o ≡ None
none_is None e = refl
none_is (Some x) e = absurd (cc)

pub settled_from : (t : Shape) (w : World) → is_empty w.control.queue ≡ true → is_none w.control.work ≡ true → ((n : ℕ) → is_extender t n ≡ true → IsIdle w n) → IsSettled t w
settled_from t w queue work idle =
    record {
      queue = empty_is w.control.queue queue;
      work = none_is w.control.work work;
      near = λ n e. (idle n e).near;
      far = λ n e. (idle n e).far;
      down = λ n e. (idle n e).down;
      up = λ n e. (idle n e).up;
    }

pub settled_idle : (t : Shape) (w : World) → IsSettled t w → (n : ℕ) → is_extender t n ≡ true → IsIdle w n
settled_idle t w settled n e = record { near = settled.near n e; far = settled.far n e; down = settled.down n e; up = settled.up n e }

-- how many are still to come
pub planned_at : (s : Site) (c : WorldParts) (state : State) (count : ℕ) → IsAt s c → count ≡ planned c.bridge.control.active.shape (decide_of c.bridge.control.active) state →
    count ≡ planned s.tree (decide s.tree (limits_in s)) state
planned_at s c state count is_at is =
    subst (λ (l : Limits). count ≡ planned s.tree (decide s.tree l) state) is_at.limits
    (subst (λ (t : Shape). count ≡ planned t (decide t c.bridge.control.active.limits) state) is_at.shape is)
