-- That queues end, since wires have no loop: so a valid net has its histories.
use Rattle.std.specs.Prelude.{◌≡◌, ℕ, suc, ◌+◌, ◌<◌, ◌≤◌, [], ◌∷◌, length}
use Rattle.exb_model.specs.declared.event.Event.TheVariants as event
use Rattle.exb_model.specs.History.{History}
use Rattle.exb_net_spec.specs.Nets.{Net, IsNet}
use Rattle.exb_net_spec.specs.NetHistory.{Due, Histories, NetEager, IsDrained, comes, delivered_times, named_at}

-- After some deliveries nothing is left of what one event sent.
abbrev pub QueuesEnd : Type 0
QueuesEnd = (n : Net) → IsNet n → (d : Due) (hs : Histories) → (next : Histories) × IsDrained n (comes n d hs) next

-- So a valid net has its histories.
abbrev pub NetsHaveHistories : Type 0
NetsHaveHistories = (n : Net) → IsNet n → (hs : Histories) × NetEager n hs

-- how many arrivals a history names
unfoldable pub named_in : History → ℕ
named_in [] = 0
named_in (event.Relay p n t f ∷ h) = suc (named_in h)
named_in (event.Ignored p n ∷ h) = suc (named_in h)
named_in (e ∷ h) = named_in h

-- It takes no more deliveries than there are wires, and meanwhile each bridge has one arrival at most, and so each
-- port.
pub record EndsSoon (n : Net) (d : Due) (hs : Histories) : Type 0 where
  pub empty : (delivered_times n (length n.wires) (comes n d hs)).queue ≡ []
  pub few : (b p : ℕ) → named_at ((delivered_times n (length n.wires) (comes n d hs)).histories b) p
      ≤ named_at (hs b) p + 1
  pub once : (b : ℕ) → named_in ((delivered_times n (length n.wires) (comes n d hs)).histories b) ≤ named_in (hs b) + 1

abbrev pub QueuesEndSoon : Type 0
QueuesEndSoon = (n : Net) → IsNet n → (d : Due) (hs : Histories) → d.bridge < n.count → EndsSoon n d hs
