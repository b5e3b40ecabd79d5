-- The one VLAN bridge that owns all the ports: what it sends over a history.
use Rattle.std.specs.Prelude.{ℕ, List, [], ◌∷◌, ◌++◌, Option, Some}
use Rattle.exb_model.specs.declared.vlan.Kind.{Kind}
use Rattle.exb_model.specs.declared.event.Event.{Event}
use Rattle.exb_model.specs.declared.event.Event.TheVariants as event
use Rattle.exb_model.specs.Frames.{egress}
use Rattle.exb_model.specs.Configuration.{Bridge}
use Rattle.exb_model.specs.History.{Basis, History, bridge_after}
use Rattle.exb_model.specs.Learning.{Look, passes, learned}
use Rattle.exb_model.specs.Targets.{target}

-- a frame's moment and the bytes with which it leaves
abbrev pub Sent : Type 0
Sent = ℕ × List ℕ

abbrev pub sent_as : ℕ → List ℕ → Option ℕ → Option Kind → List Sent
sent_as t f (Some v) (Some kind) = (t, egress f kind v) ∷ []
sent_as t f _ _ = []

-- what one event sends at port q: a Relay the frame, where q is a target, and any other event nothing
abbrev pub sent_by : Bridge → Look → Event → ℕ → List Sent
sent_by b look (event.Relay p n t f) q = sent_as t f (passes b p f) (target b look p f q)
sent_by b look _ q = []

-- Flat(H, q): what leaves at port q, in order. Each event is looked at in what stands before it.
unfoldable pub flat : Basis → History → ℕ → List Sent
flat i [] q = []
flat i (e ∷ h) q = flat i h q ++ sent_by (bridge_after i h) (learned i h) e q
