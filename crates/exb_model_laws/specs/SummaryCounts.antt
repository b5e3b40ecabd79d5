-- What a summary counts, as counts over the events of a history.
use Rattle.std.specs.Prelude.{ℕ, Bool, true, false, [], ◌∷◌, sum_by, length}
use Rattle.exb_model.specs.declared.event.Event.{Event}
use Rattle.exb_model.specs.declared.event.Event.TheVariants as event
use Rattle.exb_model.specs.Tree.{Shape, external_ports}
use Rattle.exb_model.specs.History.{Basis, History}
use Rattle.exb_model.specs.FlatBridge.{flat}
use Rattle.exb_model.specs.Texts.{Counts, counted}

abbrev pub nothing_yet : Counts
nothing_yet = record { relayed = 0; ignored = 0; left = 0; commits = 0; refusals = 0 }

-- what is counted of the events alone
unfoldable pub counted_all : History → Counts
counted_all [] = nothing_yet
counted_all (e ∷ h) = counted e (counted_all h)

abbrev pub is_relay : Event → Bool
is_relay (event.Relay p n t f) = true
is_relay _ = false

abbrev pub is_ignored : Event → Bool
is_ignored (event.Ignored p n) = true
is_ignored _ = false

abbrev pub is_commit : Event → Bool
is_commit (event.Commit n) = true
is_commit _ = false

abbrev pub is_refusal : Event → Bool
is_refusal (event.Refuse n x) = true
is_refusal _ = false

-- the frames that left the external ports over a history
abbrev pub all_left : Shape → Basis → History → ℕ
all_left t i h = sum_by (λ q. length (flat i h q)) (external_ports t)
