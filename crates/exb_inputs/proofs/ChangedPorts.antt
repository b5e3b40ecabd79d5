-- Of which port a capture turns out to be another one, and what was counted by then.
use Rattle.std.proofs.Common.{◌≡◌, inl, ℕ, true, List, Err, filter, map, refl, sym, subst}
use Rattle.std.specs.List.{AllByRecursion}
use Rattle.exb_timeline.specs.declared.capture_merge.CaptureFault.{CaptureFault}
use Rattle.exb_timeline.specs.declared.capture_merge.CaptureFault.TheVariants as again
use Rattle.exb_timeline.specs.FaultCounts.{CountsFault as CountsAgain}
use Rattle.exb_timeline.specs.CaptureMerges.{HasPort}
use Rattle.exb_model.specs.Ports.{all_ports}
use Rattle.exb_shelf.specs.Shelf.{Faults, NoFewer}
use Rattle.exb_topology_tables.specs.declared.elements.Named.{Named}
use Rattle.exb_inputs.specs.declared.captures.CheckedCapture.{CheckedCapture}
use Rattle.exb_inputs.specs.declared.fault.Fault.{Fault}
use Rattle.exb_inputs.specs.declared.fault.Fault.TheVariants.{Changed, Memory, Read}
use Rattle.exb_inputs.specs.Answers.{fault_again}
use Rattle.exb_inputs.specs.FaultCounts.{CountsFault}
use Rattle.exb_inputs.specs.Inputs.{is_named}
use Rattle.exb_inputs.specs.FaultPhases.{IsOfCapture}
use Rattle.exb_inputs.specs.ShelfEffects.{CountsFaults}
use Rattle.exb_inputs.proofs.ShelfEffects.{counted_once}
use Rattle.exb_inputs.specs.ReplayStart.{first_standing}
use Rattle.exb_inputs.proofs.FirstRecords.{has-named, ports_in, passing}

-- captures that were checked are of ports that are named
pub named-port : (names : List Named) (cs : List CheckedCapture) (ports : ports_in cs ≡ filter (is_named names) all_ports) (q : ℕ) → HasPort q (map first_standing cs) → is_named names q ≡ true
named-port names cs ports q has = has-named (λ (r : ℕ). is_named names r ≡ true) cs q (subst (AllByRecursion (λ (r : ℕ). is_named names r ≡ true)) (sym ports) (passing (is_named names) all_ports)) has

-- the port of a capture that has changed is told on
pub again-port : (P : ℕ → Type 0) (failure : CaptureFault) → ((p at : ℕ) → failure ≡ again.Changed p at → P p) → (p at : ℕ) → fault_again failure ≡ Changed p at → P p
again-port P again.Memory own p at e = absurd (cc)
again-port P again.Read own p at e = absurd (cc)
again-port P (again.Changed q byte) own p at e = (let same : q ≡ p = cc in subst P same (own q byte refl))

-- no capture has changed while captures are checked
pub checking-port : (P : ℕ → Type 0) (x : Fault) → IsOfCapture x → (p at : ℕ) → x ≡ Changed p at → P p
checking-port P x is p at e = absurd (subst IsOfCapture e is)

-- ---- counts
-- those of a capture that isn't read again
again-once : (failure : CaptureFault) (a b : Faults) → CountsAgain failure a b → CountsFault (fault_again failure) a b
again-once again.Memory a b is = inl is
again-once again.Read a b is = is
again-once (again.Changed p at) a b is = is

pub again-counts : {X : Type 0} (failure : CaptureFault) (a b : Faults) → NoFewer a b → CountsAgain failure a b → CountsFaults {X = X} (Err (fault_again failure)) a b
again-counts failure a b fewer is = counted_once (Err (fault_again failure)) a b fewer (again-once failure a b is)
