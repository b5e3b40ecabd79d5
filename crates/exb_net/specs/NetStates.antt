-- A net of the code plays a net.
use Rattle.std.specs.Prelude.{◌≡◌, ℕ, ◌+◌, ◌≤◌, ◌<◌, true, false, [], Some, length, slice_get}
use Rattle.exb_model.specs.declared.setup.Setup.{Setup}
use Rattle.exb_world_spec.specs.Settling.{nothing}
use Rattle.exb_world_spec.specs.Worlds.{Step}
use Rattle.exb_world_spec.specs.Runs.ReachedWorlds.{beginning}
use Rattle.exb_net_spec.specs.declared.wires.NetSetup.{NetSetup}
use Rattle.exb_net_spec.specs.Nets.{Net, IsNet, is_wired}
use Rattle.exb_net_laws.specs.NetRuns.{AreOpened, Between, Dones, Empties, Handles, MayPass, pass}
use Rattle.exb_net_laws.specs.Deliveries.{AreRun, HaveVids}
use Rattle.exb_net.specs.declared.net.Net.{Net as Bridges}
use Rattle.exb_net.specs.NodeViews.{Holds}

-- a net with these setups and wires
pub record IsSetupOf (n : Net) (s : NetSetup) : Type 0 where
  pub count : n.count ≡ length s.setups
  pub setups : (b : ℕ) (x : Setup) → slice_get s.setups b ≡ Some x → (n.input b).setup ≡ x
  pub wires : n.wires ≡ s.wires

-- ---- where it is
-- nothing is done
abbrev pub no_dones : Net → Dones
no_dones n b = nothing (beginning (n.input b).setup)

-- it begins
pub record IsBegun {V : Type 0} {X : V → Type 0} (n : Net) (x : Bridges V X) : Type 0 where
  pub net : IsNet n
  pub vids : HaveVids n
  pub holds : Holds n (no_dones n) (no_dones n) x.nodes.items
  pub none : x.came ≡ 0
  pub queue : x.queue.items ≡ []
  pub wires : x.wires ≡ length n.wires

-- After its opening its bridges are where they came by what they did, and of that so much was told. No frame is between
-- bridges.
pub record IsPlaying {V : Type 0} {X : V → Type 0} (n : Net) (s told : Dones) (x : Bridges V X) : Type 0 where
  pub net : IsNet n
  pub vids : HaveVids n
  pub holds : Holds n s told x.nodes.items
  pub run : AreRun n s
  pub few : (c p : ℕ) → c < n.count → is_wired n.wires c p ≡ true → (s c).world.next p ≤ x.came + 1
  pub queue : x.queue.items ≡ []
  pub wires : x.wires ≡ length n.wires

-- so it is, while memory hasn't run out
abbrev pub IsOpen : {V : Type 0} {X : V → Type 0} → Bridges V X → Type 0
IsOpen x = x.failed ≡ false → (n : Net) × ((s : Dones) × ((told : Dones) × IsPlaying n s told x))

-- ---- what the calls do
-- all are opened
pub record Opens {V : Type 0} {X : V → Type 0} (n : Net) (x : Bridges V X) : Type 0 where
  pub dones : Dones
  pub opened : AreOpened n dones
  pub playing : IsPlaying n dones (no_dones n) x

-- Bridge b is given something, and then as many deliveries are made as leave no frame between bridges.
pub record Handled {V : Type 0} {X : V → Type 0} (n : Net) (b : ℕ) (step : Step) (s told : Dones)
    (x : Bridges V X) : Type 0 where
  pub given : Between
  pub end : Between
  pub times : ℕ
  pub handles : Handles n b step (record { dones = s; queue = [] }) given
  pub empties : Empties n times given end
  pub playing : IsPlaying n end.dones told x

-- Seconds pass at each bridge, where there are any.
pub record Passes {V : Type 0} {X : V → Type 0} (n : Net) (seconds : ℕ) (s told : Dones) (x : Bridges V X) : Type 0
  where
    pub may : MayPass n seconds s
    pub playing : IsPlaying n (pass n seconds s) told x
