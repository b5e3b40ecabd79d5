-- An extender that is watched.
use Rattle.std.specs.Prelude.{◌≡◌, ℕ, ◌≤◌, Bool, false, List, [], drop, Option, Some, None}
use Rattle.std.specs.Str.{bytes_eq}
use denote.Ref.{Bor}
use Rattle.exb_model.specs.Traces.{TraceLine, In}
use Rattle.exb_extender.specs.Fields.{state_of}
use Rattle.exb_extender.specs.Machine.{at_power_on}
use Rattle.exb_extender.specs.SentFrames.{sent_by}
use Rattle.exb_trace_spec.specs.TraceChecker.{is_done, through, watch_line}
use Rattle.exb_trace_spec.specs.Rule2Extenders.{Watch}
use Rattle.exb_audit.specs.declared.rule2_extenders.Watcher.{Watcher}

abbrev pub watch_of : Watcher → Watch
watch_of w = record { state = state_of w.extender; owed = drop w.gone (sent_by w.frame.items w.sends) }

abbrev pub HasPorts : ℕ → Watcher → Type 0
HasPorts ports w = (state_of w.extender).tables.ports ≡ ports

-- extender n at power-on
abbrev pub powered_on : ℕ → ℕ → Watch
powered_on n ports = record { state = at_power_on n ports; owed = [] }

-- extender n, which has so many ports, does what its machine does
abbrev pub done_at : ℕ → ℕ → List TraceLine → Bool
done_at n ports lines = is_done (through (watch_line n) (Some (powered_on n ports)) lines)

-- where a frame comes in at extender n, it does at a side of it
abbrev pub IsSideOf : ℕ → ℕ → TraceLine → Type 0
IsSideOf n ports (In m k f) = m ≡ n → k ≤ ports
IsSideOf n ports _ = Unit {0}

-- these bytes are the rest of what begins with others
abbrev pub is_rest : List ℕ → Option (Bor (List ℕ)) → Bool
is_rest more None = false
is_rest more (Some rest) = bytes_eq more rest.now
