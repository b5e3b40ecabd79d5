-- Counters by external port, from scratch over a history.
use Rattle.std.specs.Prelude.{ℕ, ◌+◌, ◌==◌, ◌&&◌, if◌then◌else◌, is_none, List, [], ◌∷◌, ◌++◌, codes, decimal, flat_map, length, sum_by}
use Rattle.exb_model.specs.declared.event.Event.{Event}
use Rattle.exb_model.specs.declared.event.Event.TheVariants as event
use Rattle.exb_model.specs.Configuration.{Bridge}
use Rattle.exb_model.specs.FlatBridge.{Sent, flat}
use Rattle.exb_model.specs.History.{Basis, History, bridge_after}
use Rattle.exb_model.specs.Learning.{passes}
use Rattle.exb_model.specs.Texts.{port_name}
use Rattle.exb_model.specs.Tree.{Shape, external_ports}
use Rattle.exb_counters.specs.declared.counters.Counts5.{Counts5}

-- ---- what an event adds
-- a Relay of port q
abbrev pub relayed_by : Event → ℕ → ℕ
relayed_by (event.Relay p n t f) q = if p == q then 1 else 0
relayed_by _ q = 0

-- a Relay of port q whose frame passes nowhere, in the configuration before it
abbrev pub dropped_by : Bridge → Event → ℕ → ℕ
dropped_by b (event.Relay p n t f) q = if p == q && is_none (passes b p f) then 1 else 0
dropped_by b _ q = 0

-- an Ignored of port q
abbrev pub ignored_by : Event → ℕ → ℕ
ignored_by (event.Ignored p n) q = if p == q then 1 else 0
ignored_by _ q = 0

-- ---- over a history
unfoldable pub relayed_at : History → ℕ → ℕ
relayed_at [] q = 0
relayed_at (e ∷ h) q = relayed_at h q + relayed_by e q

-- each Relay is looked at in the configuration before it
unfoldable pub dropped_at : Basis → History → ℕ → ℕ
dropped_at i [] q = 0
dropped_at i (e ∷ h) q = dropped_at i h q + dropped_by (bridge_after i h) e q

unfoldable pub ignored_at : History → ℕ → ℕ
ignored_at [] q = 0
ignored_at (e ∷ h) q = ignored_at h q + ignored_by e q

abbrev pub octets_of : List Sent → ℕ
octets_of xs = sum_by (λ (x : Sent). length x.1) xs

-- of port q: its Relays, those of them that pass nowhere, its Ignored, and the frames that left it with their total
-- length
abbrev pub port_counts : Basis → History → ℕ → Counts5
port_counts i h q =
    record {
      relayed = relayed_at h q;
      dropped = dropped_at i h q;
      ignored = ignored_at h q;
      left = length (flat i h q);
      octets = octets_of (flat i h q);
    }

-- ---- the text
-- PORT relayed R dropped D ignored I left L octets O, with its newline
unfoldable pub count_line : ℕ → Counts5 → List ℕ
count_line q c =
    port_name q ++ (codes " relayed " ++ decimal c.relayed ++ codes " dropped " ++ decimal c.dropped ++ codes " ignored " ++ decimal c.ignored
    ++ codes " left " ++ decimal c.left ++ codes " octets " ++ decimal c.octets ++ 10 ∷ [])

-- a line for each of these ports
abbrev pub count_lines : (ℕ → Counts5) → List ℕ → List ℕ
count_lines counts qs = flat_map (λ q. count_line q (counts q)) qs

-- CountText(H): each external port in port order
unfoldable pub count_text : Shape → Basis → History → List ℕ
count_text t i h = count_lines (port_counts i h) (external_ports t)
