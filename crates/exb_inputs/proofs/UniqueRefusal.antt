-- What stops a topology and its captures: there is one such fault, or none.
use Rattle.std.proofs.Common.{◌≡◌, ℕ, List, Option, Some, None, sym, subst, ◌∙◌, ap}
use Rattle.exb_shelf.specs.Files.{Files}
use Rattle.exb_topology_tables.specs.declared.elements.Named.{Named}
use Rattle.exb_topology.specs.declared.topology.Topology.{Topology}
use Rattle.exb_topology.specs.Topologies.{topology_of}
use Rattle.exb_inputs.specs.declared.fault.Fault.{Fault}
use Rattle.exb_inputs.specs.CaptureChecks.{FirstFault}
use Rattle.exb_inputs.specs.Answers.{HoldsTopology, CaptureFaulty, IsRefused, refused_by}
use Rattle.exb_inputs.proofs.UniqueTopology.{err_once, ok_or_err, holds_once, captures_same}

-- a topology file is refused for one cause
pub refused_once : (name : List ℕ) (o : Option (List ℕ)) (x y : Fault) → IsRefused name o x → IsRefused name o y → x ≡ y
refused_once name None x y p q = p ∙ sym q
refused_once name (Some bytes) x y (a, refused, is) (b, refused', is') = is ∙ ap refused_by (err_once (topology_of bytes) a b refused refused') ∙ sym is'

-- and not where it holds one
pub held_not : (name : List ℕ) (file : Files) (t : Topology) (x : Fault) → HoldsTopology name file t → IsRefused name (file name) x → ⊥
held_not name file t x holds is = by_bytes (subst (λ (o : Option (List ℕ)). IsRefused name o x) holds.there is)
  where
    by_bytes : IsRefused name (Some holds.bytes) x → ⊥
    by_bytes (refusal, refused, is') = ok_or_err _ _ _ holds.read refused

-- a capture that stops a run is one of the topology that was read
pub first_of : (name : List ℕ) (file : Files) (t : Topology) (x : Fault) → HoldsTopology name file t → CaptureFaulty name file x → (p : ℕ) × FirstFault t.captures file p x
first_of name file t x holds faulty = (
  faulty.port,
  subst (λ (names : List Named). FirstFault names file faulty.port x) (captures_same faulty.topology t (holds_once name file faulty.topology t faulty.holds holds)) faulty.first,
)
