-- The order of a plan's requests: a port is deleted last of all; once a cascade port is created, nothing more is laid
-- for its channel; and once another port is created, no cascade port is.
use Rattle.std.specs.Prelude.{◌≡◌, ℕ, ◌<◌, ◌==◌, Bool, true, false, List, [], ◌∷◌, ⊤}
use Rattle.exb_csp.specs.declared.message.Request.{Request}
use Rattle.exb_csp.specs.declared.message.Request.TheVariants.{Open, PortCreate, PortDelete, Register, Unregister, RegisterMany, UnregisterMany}
use Rattle.exb_csp.specs.Execution.{is_named}
use Rattle.exb_csp.specs.declared.ask_at.AskAt.{AskAt}
use Rattle.exb_control_spec.specs.declared.job.Phase.{Phase}
use Rattle.exb_control_spec.specs.declared.job.Phase.TheVariants.{Preparing, Cleaning}
use Rattle.exb_control_spec.specs.Machine.{Work}

abbrev pub IsDelete : Request → Type 0
IsDelete (PortDelete port) = ⊤
IsDelete _ = ⊥

-- a port is deleted last of all requests
abbrev pub DeletesLast : List AskAt → Type 0
DeletesLast [] = ⊤
DeletesLast (a ∷ more) = (IsDelete a.request → more ≡ []) × DeletesLast more

abbrev pub DeletesIn : Phase → Work → Type 0
DeletesIn Preparing v = DeletesLast v.change.cleanup
DeletesIn Cleaning v = DeletesLast (v.first ∷ v.rest)

-- a request lays something for the number
abbrev pub lays : Request → ℕ → Bool
lays Open e = false
lays (PortCreate port cascade channel) e = channel == e
lays (PortDelete port) e = false
lays (Register ecid mask) e = ecid == e
lays (Unregister ecid) e = false
lays (RegisterMany rows) e = is_named rows e
lays (UnregisterMany ecids) e = false

abbrev pub NoneLays : ℕ → List AskAt → Type 0
NoneLays e [] = ⊤
NoneLays e (a ∷ more) = (lays a.request e ≡ false) × NoneLays e more

-- a request that creates no cascade port
abbrev pub IsPlain : Request → Type 0
IsPlain (PortCreate port true channel) = ⊥
IsPlain _ = ⊤

abbrev pub AllPlain : List AskAt → Type 0
AllPlain [] = ⊤
AllPlain (a ∷ more) = IsPlain a.request × AllPlain more

abbrev pub CreatedLast : Bool → ℕ → List AskAt → Type 0
CreatedLast true channel more = 0 < channel → NoneLays channel more
CreatedLast false channel more = AllPlain more

-- once a cascade port is created, none of these requests lays its channel; once another port is, none creates a cascade
-- port
abbrev pub Completes : Request → List AskAt → Type 0
Completes Open more = ⊤
Completes (PortCreate port cascade channel) more = CreatedLast cascade channel more
Completes (PortDelete port) more = ⊤
Completes (Register ecid mask) more = ⊤
Completes (Unregister ecid) more = ⊤
Completes (RegisterMany rows) more = ⊤
Completes (UnregisterMany ecids) more = ⊤

abbrev pub CreatesLast : List AskAt → Type 0
CreatesLast [] = ⊤
CreatesLast (a ∷ more) = Completes a.request more × CreatesLast more

abbrev pub CreatesIn : Phase → Work → Type 0
CreatesIn Preparing v = CreatesLast (v.first ∷ v.rest)
CreatesIn Cleaning v = ⊤
