-- What is true of every net.
use Rattle.std.specs.Prelude.{◌≡◌, ◌++◌, ℕ, List, []}
use Rattle.exb_model.specs.declared.event.Event.{Event}
use Rattle.exb_model.specs.Configuration.{Bridge}
use Rattle.exb_model.specs.EagerHistory.{arrival_event, eager}
use Rattle.exb_model.specs.FlatBridge.{sent_by}
use Rattle.exb_model.specs.History.{◌then◌}
use Rattle.exb_model.specs.declared.arrival.Arrival.{Arrival}
use Rattle.exb_model.specs.Input.{Input}
use Rattle.exb_model.specs.Learning.{Look}
use Rattle.exb_net_spec.specs.Nets.{Net}
use Rattle.exb_net_spec.specs.NetHistory.{Due, Histories, Goes, NetEager, dues, openings}
use Rattle.exb_net_spec.specs.InputOrder.{AreHere, AreInOrder, AreTimely}

-- A net has no more than one history by bridge.
abbrev pub HistoriesAreOne : Type 0
HistoriesAreOne = (n : Net) (hs ks : Histories) → NetEager n hs → NetEager n ks → hs ≡ ks

-- Histories only go on: what more of what comes adds stands behind what there was.
abbrev pub HistoriesGoOn : Type 0
HistoriesGoOn =
    (n : Net) (ds rest : List Due) (hs ks : Histories) → Goes n ds (openings n) hs → Goes n (ds ++ rest) (openings n) ks
    → (b : ℕ) → (more : List Event) × (ks b ≡ (hs b then more))

-- All that comes does so to bridges of the net, and at each the commands in their order.
abbrev pub DuesAreInOrder : Type 0
DuesAreInOrder = (n : Net) → AreTimely n → AreHere n (dues n) × AreInOrder (λ b. 0) (dues n)

-- Nothing is sent back at the port of an arrival: a frame that crosses a wire doesn't return over it at once.
abbrev pub NothingGoesBack : Type 0
NothingGoesBack = (b : Bridge) (look : Look) (a : Arrival) → sent_by b look (arrival_event b a) a.port ≡ []

-- ---- a net of one bridge
abbrev pub alone_in : Input → Net
alone_in i = record { count = 1; input = λ b. i; wires = [] }

-- Its history is that of the eager run.
abbrev pub OneIsEager : Type 0
OneIsEager = (i : Input) (hs : Histories) → NetEager (alone_in i) hs → hs 0 ≡ eager i
