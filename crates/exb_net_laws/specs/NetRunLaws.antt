-- What runs of several worlds tell and send.
use Rattle.std.specs.Prelude.{◌≡◌, ℕ, ◌<◌, true, List, [], All}
use Rattle.exb_model.specs.FlatBridge.{flat}
use Rattle.exb_model.specs.History.{◌then◌}
use Rattle.exb_model.specs.Tree.{is_external}
use Rattle.exb_world_spec.specs.Runs.PassedFrames.{passed_over}
use Rattle.exb_world_spec.specs.Worlds.{left_at}
use Rattle.exb_world_spec.specs.Runs.ReachedWorlds.{HasVid}
use Rattle.exb_net_spec.specs.Nets.{Net, IsNet}
use Rattle.exb_net_spec.specs.NetHistory.{Due, Histories, Goes, NetEager, basis_in, dues, openings}
use Rattle.exb_net_spec.specs.InputOrder.{AreHere, AreInOrder, AreTimely}
use Rattle.exb_net_laws.specs.NetRuns.{Dones, Plays, AreOpened, tree_in}

-- Bridge by bridge this was told and has left, and this is said of each Relay.
pub record IsShown (n : Net) (hs : Histories) (s : Dones) (b : ℕ) : Type 0 where
  pub told : hs b ≡ ([] then (s b).events)
  pub left : (q : ℕ) → is_external (tree_in n b) q ≡ true → left_at q (s b).left ≡ flat (basis_in n b) (hs b) q
  pub passed : (s b).passed ≡ passed_over (basis_in n b) [] (s b).events

pub record ArePlayed (n : Net) (ds : List Due) (s : Dones) : Type 0 where
  pub histories : Histories
  pub goes : Goes n ds (openings n) histories
  pub shown : (b : ℕ) → b < n.count → IsShown n histories s b

-- A run of a net that plays what comes, in that order, shows the histories that the net gives its bridges.
abbrev pub NetsArePlayed : Type 0
NetsArePlayed =
    (n : Net) (ds : List Due) (s e : Dones) → IsNet n → ((b : ℕ) → b < n.count → All HasVid (n.input b).setup.start)
    → AreHere n ds → AreInOrder (λ b. 0) ds →
    AreOpened n s → Plays n ds s e → ArePlayed n ds e

-- So a run that plays all that comes shows NetEager(I).
pub record ArePlayedEagerly (n : Net) (s : Dones) : Type 0 where
  pub histories : Histories
  pub eager : NetEager n histories
  pub shown : (b : ℕ) → b < n.count → IsShown n histories s b

abbrev pub NetsArePlayedEagerly : Type 0
NetsArePlayedEagerly =
    (n : Net) (s e : Dones) → IsNet n → ((b : ℕ) → b < n.count → All HasVid (n.input b).setup.start) → AreTimely n
    → AreOpened n s → Plays n (dues n) s e → ArePlayedEagerly n e
