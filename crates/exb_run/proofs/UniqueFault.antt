-- What stops what is asked for: there is one such fault, or none.
use Rattle.std.proofs.Common.{◌≡◌, ◌⊎◌, inl, inr, ℕ, List, Option, Some, None, ap, ◌∙◌, subst}
use Rattle.exb_shelf.specs.Files.{Files}
use Rattle.exb_cli.specs.CommandLines.{Ask, Run, Check, Make, Audit, Net}
use Rattle.exb_inputs.specs.declared.fault.Fault.{Fault}
use Rattle.exb_inputs.specs.declared.fault.Fault.TheVariants.{Read, Write, Memory}
use Rattle.exb_model.specs.Setup.{shape_of}
use Rattle.exb_model.specs.Tree.{Shape}
use Rattle.exb_topology_tables.specs.declared.elements.Named.{Named}
use Rattle.exb_topology.specs.declared.topology.Topology.{Topology}
use Rattle.exb_inputs.specs.Answers.{HoldsTopology}
use Rattle.exb_inputs.proofs.UniqueTopology.{captures_same, holds_once, prefix_same, shape_same}
use Rattle.exb_audit_files.specs.Audits.{StopsAudit}
use Rattle.exb_audit_files.specs.Scopes.{Scope, scope_of}
use Rattle.exb_audit_files.proofs.UniqueEnd.{seen_not}
use Rattle.exb_run.specs.Answers.{AuditStops, CanBeDone, IsFailure, Stops}
use Rattle.exb_inputs.proofs.UniqueNetRefusal.{net_good_not, net_held_not}
use Rattle.exb_inputs.proofs.CaptureFaults.{first_none}
use Rattle.exb_inputs.proofs.UniqueRefusal.{first_of, held_not}

-- the file of this name has one scope
abbrev scope_by : Shape → List Named → List ℕ → Scope
scope_by tree captures prefix = record { tree = tree; captures = captures; prefix = prefix }

pub scope_same : (name : List ℕ) (file : Files) (t u : Topology) → HoldsTopology name file t → HoldsTopology name file u → scope_of t ≡ scope_of u
scope_same name file t u p q =
    let e = holds_once name file t u p q in
    ap (λ (x : Shape). scope_by x t.captures t.prefix) (shape_same t u e)
    ∙ ap (λ (x : List Named). scope_by (shape_of u.setup) x t.prefix) (captures_same t u e)
    ∙ ap (λ (x : List ℕ). scope_by (shape_of u.setup) u.captures x) (prefix_same t u e)

-- what stops an audit stops that of the topology that was read
pub stops_of : (name : List ℕ) (file : Files) (t : Topology) (x : Fault) → HoldsTopology name file t → AuditStops name file x → StopsAudit (scope_of t) file x
stops_of name file t x holds stopped = subst (λ (s : Scope). StopsAudit s file x) (scope_same name file stopped.topology t stopped.holds holds) stopped.stops

-- nothing stops what can be done
pub can_not : (a : Option Ask) (file : Files) (x : Fault) → CanBeDone a file → Stops a file x → ⊥
can_not None file x can stops = absurd can
can_not (Some (Run name options)) file x (t, ready) (inl refused) = held_not name file t x ready.holds refused
can_not (Some (Run name options)) file x (t, ready) (inr faulty) = let found = first_of name file t x ready.holds faulty in first_none t.captures file found.0 x ready.good found.1
can_not (Some (Check name)) file x (t, holds) stops = held_not name file t x holds stops
can_not (Some (Make number)) file x can stops = absurd stops
can_not (Some (Audit name)) file x (t, holds, seen, is, legal) (inl refused) = held_not name file t x holds refused
can_not (Some (Audit name)) file x (t, holds, seen, is, legal) (inr stopped) = seen_not (scope_of t) file seen x is legal (stops_of name file t x holds stopped)
can_not (Some (Net name counters)) file x can (inl refused) = net_held_not name file can.members can.wires x can.ready.holds refused
can_not (Some (Net name counters)) file x can (inr faulty) = net_good_not name file can.members can.wires x can.ready.holds can.ready.good faulty

-- any failure
pub failure_is : (a : Option Ask) (x : Fault) → IsFailure a x → (x ≡ Read) ⊎ (x ≡ Write) ⊎ (x ≡ Memory)
failure_is None x is = absurd is
failure_is (Some (Run name options)) x is = is
failure_is (Some (Check name)) x (inl read) = inl read
failure_is (Some (Check name)) x (inr memory) = inr (inr memory)
failure_is (Some (Make number)) x is = inr (inr is)
failure_is (Some (Audit name)) x (inl read) = inl read
failure_is (Some (Audit name)) x (inr memory) = inr (inr memory)
failure_is (Some (Net name counters)) x is = is
