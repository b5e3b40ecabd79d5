-- What is printed of what was done, and with which status.
use Rattle.std.proofs.Common.{◌≡◌, ◌≢◌, ◌<◌, ◌++◌, ◌⊎◌, inl, inr, Bool, ℕ, List, Option, Some, None, Ok, Err, ap, sym, ◌∙◌, refl, subst, arith}
use Rattle.std.specs.Prelude.{IfOk, IfErr, IsErrOf, string_bytes, codes}
use Rattle.std.proofs.lemmas.Bool.{false≢true, cases_eq}
use Rattle.exb_toml_keys.specs.declared.faults.TopoFault.TheVariants as topology
use Rattle.exb_toml_keys.specs.Faults.{Refusal, not_toml, large, at}
use Rattle.exb_shelf.specs.Files.{Files, AppendsFront}
use Rattle.exb_shelf.specs.Shelf.{Id, Faults, Rose, Opens}
use Rattle.exb_shelf.proofs.IdLemmas.{opens_weaker, opens_then}
use Rattle.exb_topology_tables.specs.declared.elements.Named.{Named}
use Rattle.exb_cli.specs.declared.invocations.Options.{Options}
use Rattle.exb_cli.specs.CommandLines.{Ask, Run, Check, Make, Audit, Net}
use Rattle.exb_inputs.specs.declared.fault.Fault.{Fault}
use Rattle.exb_inputs.specs.declared.fault.Fault.TheVariants.{Usage, Missing, Topology as BadTopology, Capture, Changed, Net as BadNet, Member as BadMember, MemberCapture, MemberChanged, Output, TooLarge, BadLine, Illegal, Read, Write, Memory}
use Rattle.exb_inputs.specs.Inputs.{name_of}
use Rattle.exb_inputs.specs.CaptureChecks.{FirstFault}
use Rattle.exb_inputs.specs.FaultPhases.{IsOfAudit, IsOfTopology, IsOfPlaying, IsOfPlay}
use Rattle.exb_inputs.specs.Answers.{CanBe, IsFaultLine, IsRefused, fault_line, fault_status, line_of, refused_by, status_of, usage}
use Rattle.exb_run.specs.Answers.{IsCause, IsDone, IsFailure, IsOfInput, IsRun, IsStatus, IsText, Stops, StopsWith}
use Rattle.exb_inputs.specs.declared.fault.AuditInput.{AuditInput}
use Rattle.exb_inputs.specs.declared.fault.AuditInput.TheVariants as part
use Rattle.exb_audit_files.specs.declared.port_files.FramesFault.{FramesFault}
use Rattle.exb_audit_files.specs.declared.port_files.FramesFault.TheVariants as frames
use Rattle.exb_audit_files.specs.declared.texts.LinesFault.{LinesFault}
use Rattle.exb_audit_files.specs.declared.texts.LinesFault.TheVariants as lines
use Rattle.exb_audit_files.specs.Lines.{IsLinesFault}
use Rattle.exb_trace_spec.specs.JournalLines.{entry_in}
use Rattle.exb_trace_spec.specs.TraceTexts.{read_line as line_in}
use Rattle.exb_journal.specs.FileNames.{journal_name, trace_name}
use Rattle.exb_audit_files.specs.Audits.{StopsAudit, captures_fault, lines_fault, most, outputs_fault}
use Rattle.exb_audit_files.specs.Scopes.{Scope, scope_of}
use Rattle.exb_audit_files.proofs.UniqueEnd.{IsOfFiles, first_of_files}
use Rattle.exb_inputs.specs.NetRefusals.{IsFileRefused, member_fault, net_refused_by}
use Rattle.exb_net.specs.Answers.{IsOfNet, IsOfNetPlay, NetStops}
use Rattle.exb_run.specs.Outcomes.{CanCome, IsOfMaking}
use Rattle.exb_inputs.proofs.CaptureFaults.{fault_of_named}
use Rattle.exb_inputs.proofs.Outcomes.{Outcome}
use Rattle.exb_run.proofs.UniqueFault.{failure_is}

-- ---- which faults can come
pub topology_can_be : (x : Fault) → IsOfTopology x → CanBe x
topology_can_be Usage is = absurd is
topology_can_be (Missing name) is = tt
topology_can_be (BadTopology topology.Memory) is = absurd is
topology_can_be (BadTopology topology.NotToml) is = tt
topology_can_be (BadTopology topology.Large) is = tt
topology_can_be (BadTopology (topology.At fault key)) is = tt
topology_can_be (Capture p flaw) is = absurd is
topology_can_be (Changed p byte) is = absurd is
topology_can_be (BadNet fault) is = absurd is
topology_can_be (BadMember name fault) is = absurd is
topology_can_be (MemberCapture name p flaw) is = absurd is
topology_can_be (MemberChanged name p byte) is = absurd is
topology_can_be (Output p broke) is = absurd is
topology_can_be (TooLarge what) is = absurd is
topology_can_be (BadLine what n) is = absurd is
topology_can_be (Illegal r) is = absurd is
topology_can_be Read is = tt
topology_can_be Write is = absurd is
topology_can_be Memory is = tt

pub playing_can_be : (x : Fault) → IsOfPlaying x → CanBe x
playing_can_be Usage is = tt
playing_can_be (Missing name) is = tt
playing_can_be (BadTopology fault) is = absurd is
playing_can_be (Capture p flaw) is = is
playing_can_be (Changed p byte) is = is
playing_can_be (BadNet fault) is = absurd is
playing_can_be (BadMember name fault) is = absurd is
playing_can_be (MemberCapture name p flaw) is = absurd is
playing_can_be (MemberChanged name p byte) is = absurd is
playing_can_be (Output p broke) is = absurd is
playing_can_be (TooLarge what) is = absurd is
playing_can_be (BadLine what n) is = absurd is
playing_can_be (Illegal r) is = absurd is
playing_can_be Read is = tt
playing_can_be Write is = tt
playing_can_be Memory is = tt

pub audit_can_be : (x : Fault) → IsOfAudit x → CanBe x
audit_can_be Usage is = tt
audit_can_be (Missing name) is = tt
audit_can_be (BadTopology fault) is = absurd is
audit_can_be (Capture p flaw) is = is
audit_can_be (Changed p byte) is = absurd is
audit_can_be (BadNet fault) is = absurd is
audit_can_be (BadMember name fault) is = absurd is
audit_can_be (MemberCapture name p flaw) is = absurd is
audit_can_be (MemberChanged name p byte) is = absurd is
audit_can_be (Output p broke) is = is
audit_can_be (TooLarge what) is = tt
audit_can_be (BadLine what n) is = is
audit_can_be (Illegal r) is = is
audit_can_be Read is = tt
audit_can_be Write is = tt
audit_can_be Memory is = tt

net_can_be : (x : Fault) → IsOfNet x → CanBe x
net_can_be Usage is = absurd is
net_can_be (Missing name) is = tt
net_can_be (BadTopology fault) is = absurd is
net_can_be (Capture p flaw) is = absurd is
net_can_be (Changed p byte) is = absurd is
net_can_be (BadNet topology.Memory) is = absurd is
net_can_be (BadNet topology.NotToml) is = tt
net_can_be (BadNet topology.Large) is = tt
net_can_be (BadNet (topology.At fault key)) is = tt
net_can_be (BadMember name topology.Memory) is = absurd is
net_can_be (BadMember name topology.NotToml) is = tt
net_can_be (BadMember name topology.Large) is = tt
net_can_be (BadMember name (topology.At fault key)) is = tt
net_can_be (MemberCapture name p flaw) is = is
net_can_be (MemberChanged name p byte) is = is
net_can_be (Output p broke) is = absurd is
net_can_be (TooLarge what) is = absurd is
net_can_be (BadLine what n) is = absurd is
net_can_be (Illegal r) is = absurd is
net_can_be Read is = tt
net_can_be Write is = tt
net_can_be Memory is = tt

can_be_come : (a : Option Ask) (x : Fault) → CanCome a x → CanBe x
can_be_come None x is = subst CanBe (sym is) tt
can_be_come (Some (Run name options)) x (inl topology) = topology_can_be x topology
can_be_come (Some (Run name options)) x (inr playing) = playing_can_be x playing
can_be_come (Some (Check name)) x is = topology_can_be x is
can_be_come (Some (Make number)) x is = subst CanBe (sym is) tt
can_be_come (Some (Audit name)) x (inl topology) = topology_can_be x topology
can_be_come (Some (Audit name)) x (inr audit) = audit_can_be x audit
can_be_come (Some (Net name counters)) x is = net_can_be x is

come_of : (a : Option Ask) (o : Outcome) (x : Fault) → IfErr o (CanCome a) → o ≡ Err x → CanCome a x
come_of a o x come e = subst (λ (p : Outcome). IfErr p (CanCome a)) e come

pub can_be : (a : Option Ask) (o : Outcome) → IfErr o (CanCome a) → (x : Fault) → o ≡ Err x → CanBe x
can_be a o come x e = can_be_come a x (come_of a o x come e)

-- the words alone are answered with the usage line
usage_none : (a : Option Ask) → CanCome a Usage → a ≡ None
usage_none None is = refl
usage_none (Some (Run name options)) (inl is) = absurd is
usage_none (Some (Run name options)) (inr is) = absurd is
usage_none (Some (Check name)) is = absurd is
usage_none (Some (Make number)) is = absurd (cc)
usage_none (Some (Audit name)) (inl is) = absurd is
usage_none (Some (Audit name)) (inr is) = absurd is
usage_none (Some (Net name counters)) is = absurd is

pub none_by_usage : (a : Option Ask) (o : Outcome) → IfErr o (CanCome a) → o ≡ Err Usage → a ≡ None
none_by_usage a o come e = usage_none a (come_of a o Usage come e)

-- only a run writes
write_runs : (a : Option Ask) → CanCome a Write → IsRun a
write_runs None is = absurd (cc)
write_runs (Some (Run name options)) is = tt
write_runs (Some (Check name)) is = absurd is
write_runs (Some (Make number)) is = absurd (cc)
write_runs (Some (Audit name)) (inl is) = absurd is
write_runs (Some (Audit name)) (inr is) = absurd is
write_runs (Some (Net name counters)) is = tt

pub run_by_write : (a : Option Ask) (o : Outcome) → IfErr o (CanCome a) → o ≡ Err Write → IsRun a
run_by_write a o come e = write_runs a (come_of a o Write come e)

-- ---- which outcome has a status
pub is_usage : (o : Outcome) → status_of o ≡ 2 → o ≡ Err Usage
is_usage (Ok line) e = absurd (omega arith)
is_usage (Err Usage) e = refl
is_usage (Err (Missing name)) e = absurd (omega arith)
is_usage (Err (BadTopology fault)) e = absurd (omega arith)
is_usage (Err (Capture p x)) e = absurd (omega arith)
is_usage (Err (Changed p byte)) e = absurd (omega arith)
is_usage (Err (BadNet fault)) e = absurd (omega arith)
is_usage (Err (BadMember name fault)) e = absurd (omega arith)
is_usage (Err (MemberCapture name p flaw)) e = absurd (omega arith)
is_usage (Err (MemberChanged name p byte)) e = absurd (omega arith)
is_usage (Err (Output p broke)) e = absurd (omega arith)
is_usage (Err (TooLarge what)) e = absurd (omega arith)
is_usage (Err (BadLine what n)) e = absurd (omega arith)
is_usage (Err (Illegal r)) e = absurd (omega arith)
is_usage (Err Read) e = absurd (omega arith)
is_usage (Err Write) e = absurd (omega arith)
is_usage (Err Memory) e = absurd (omega arith)

pub is_read : (o : Outcome) → status_of o ≡ 6 → o ≡ Err Read
is_read (Ok line) e = absurd (omega arith)
is_read (Err Usage) e = absurd (omega arith)
is_read (Err (Missing name)) e = absurd (omega arith)
is_read (Err (BadTopology fault)) e = absurd (omega arith)
is_read (Err (Capture p x)) e = absurd (omega arith)
is_read (Err (Changed p byte)) e = absurd (omega arith)
is_read (Err (BadNet fault)) e = absurd (omega arith)
is_read (Err (BadMember name fault)) e = absurd (omega arith)
is_read (Err (MemberCapture name p flaw)) e = absurd (omega arith)
is_read (Err (MemberChanged name p byte)) e = absurd (omega arith)
is_read (Err (Output p broke)) e = absurd (omega arith)
is_read (Err (TooLarge what)) e = absurd (omega arith)
is_read (Err (BadLine what n)) e = absurd (omega arith)
is_read (Err (Illegal r)) e = absurd (omega arith)
is_read (Err Read) e = refl
is_read (Err Write) e = absurd (omega arith)
is_read (Err Memory) e = absurd (omega arith)

-- the outcome is writing that failed, or its status is another
pub write_or_not : (o : Outcome) → (o ≡ Err Write) ⊎ (status_of o ≢ 7)
write_or_not (Ok line) = inr (λ e. omega arith)
write_or_not (Err Usage) = inr (λ e. omega arith)
write_or_not (Err (Missing name)) = inr (λ e. omega arith)
write_or_not (Err (BadTopology fault)) = inr (λ e. omega arith)
write_or_not (Err (Capture p x)) = inr (λ e. omega arith)
write_or_not (Err (Changed p byte)) = inr (λ e. omega arith)
write_or_not (Err (BadNet fault)) = inr (λ e. omega arith)
write_or_not (Err (BadMember name fault)) = inr (λ e. omega arith)
write_or_not (Err (MemberCapture name p flaw)) = inr (λ e. omega arith)
write_or_not (Err (MemberChanged name p byte)) = inr (λ e. omega arith)
write_or_not (Err (Output p broke)) = inr (λ e. omega arith)
write_or_not (Err (TooLarge what)) = inr (λ e. omega arith)
write_or_not (Err (BadLine what n)) = inr (λ e. omega arith)
write_or_not (Err (Illegal r)) = inr (λ e. omega arith)
write_or_not (Err Read) = inr (λ e. omega arith)
write_or_not (Err Write) = inl refl
write_or_not (Err Memory) = inr (λ e. omega arith)

-- from 2 on it is that of a fault
pub is_fault : (o : Outcome) (s : ℕ) → status_of o ≡ s → 1 < s → (x : Fault) × (o ≡ Err x) × (fault_status x ≡ s)
is_fault (Ok line) s e more = absurd (omega arith)
is_fault (Err x) s e more = (x, refl, e)

pub is_missing : (o : Outcome) → status_of o ≡ 5 → (name : List ℕ) × (o ≡ Err (Missing name))
is_missing (Ok line) e = absurd (omega arith)
is_missing (Err Usage) e = absurd (omega arith)
is_missing (Err (Missing name)) e = (name, refl)
is_missing (Err (BadTopology fault)) e = absurd (omega arith)
is_missing (Err (Capture p x)) e = absurd (omega arith)
is_missing (Err (Changed p byte)) e = absurd (omega arith)
is_missing (Err (BadNet fault)) e = absurd (omega arith)
is_missing (Err (BadMember name fault)) e = absurd (omega arith)
is_missing (Err (MemberCapture name p flaw)) e = absurd (omega arith)
is_missing (Err (MemberChanged name p byte)) e = absurd (omega arith)
is_missing (Err (Output p broke)) e = absurd (omega arith)
is_missing (Err (TooLarge what)) e = absurd (omega arith)
is_missing (Err (BadLine what n)) e = absurd (omega arith)
is_missing (Err (Illegal r)) e = absurd (omega arith)
is_missing (Err Read) e = absurd (omega arith)
is_missing (Err Write) e = absurd (omega arith)
is_missing (Err Memory) e = absurd (omega arith)

-- ---- statuses
topology_status : (name : List ℕ) (x : Fault) → IsOfTopology x → IsStatus (Some (Check name)) (fault_status x)
topology_status name Usage is = absurd is
topology_status name (Missing n) is = refl
topology_status name (BadTopology fault) is = refl
topology_status name (Capture p flaw) is = absurd is
topology_status name (Changed p byte) is = absurd is
topology_status name (BadNet fault) is = absurd is
topology_status name (BadMember bridge fault) is = absurd is
topology_status name (MemberCapture bridge p flaw) is = absurd is
topology_status name (MemberChanged bridge p byte) is = absurd is
topology_status name (Output p broke) is = absurd is
topology_status name (TooLarge what) is = absurd is
topology_status name (BadLine what n) is = absurd is
topology_status name (Illegal r) is = absurd is
topology_status name Read is = refl
topology_status name Write is = absurd is
topology_status name Memory is = refl

run_status : (name : List ℕ) (options : Options) (x : Fault) → IsOfTopology x ⊎ IsOfPlaying x → IsStatus (Some (Run name options)) (fault_status x)
run_status name options Usage (inl is) = absurd is
run_status name options Usage (inr is) = absurd is
run_status name options (Missing n) is = refl
run_status name options (BadTopology fault) is = refl
run_status name options (Capture p flaw) is = refl
run_status name options (Changed p byte) is = refl
run_status name options (BadNet fault) (inl is) = absurd is
run_status name options (BadNet fault) (inr is) = absurd is
run_status name options (BadMember bridge fault) (inl is) = absurd is
run_status name options (BadMember bridge fault) (inr is) = absurd is
run_status name options (MemberCapture bridge p flaw) (inl is) = absurd is
run_status name options (MemberCapture bridge p flaw) (inr is) = absurd is
run_status name options (MemberChanged bridge p byte) (inl is) = absurd is
run_status name options (MemberChanged bridge p byte) (inr is) = absurd is
run_status name options (Output p broke) (inl is) = absurd is
run_status name options (Output p broke) (inr is) = absurd is
run_status name options (TooLarge what) (inl is) = absurd is
run_status name options (TooLarge what) (inr is) = absurd is
run_status name options (BadLine what n) (inl is) = absurd is
run_status name options (BadLine what n) (inr is) = absurd is
run_status name options (Illegal r) (inl is) = absurd is
run_status name options (Illegal r) (inr is) = absurd is
run_status name options Read is = refl
run_status name options Write is = refl
run_status name options Memory is = refl

audit_status : (name : List ℕ) (x : Fault) → IsOfTopology x ⊎ IsOfAudit x → IsStatus (Some (Audit name)) (fault_status x)
audit_status name Usage (inl is) = absurd is
audit_status name Usage (inr is) = absurd is
audit_status name (Missing n) is = refl
audit_status name (BadTopology fault) is = refl
audit_status name (Capture p flaw) is = refl
audit_status name (Changed p byte) (inl is) = absurd is
audit_status name (Changed p byte) (inr is) = absurd is
audit_status name (BadNet fault) (inl is) = absurd is
audit_status name (BadNet fault) (inr is) = absurd is
audit_status name (BadMember bridge fault) (inl is) = absurd is
audit_status name (BadMember bridge fault) (inr is) = absurd is
audit_status name (MemberCapture bridge p flaw) (inl is) = absurd is
audit_status name (MemberCapture bridge p flaw) (inr is) = absurd is
audit_status name (MemberChanged bridge p byte) (inl is) = absurd is
audit_status name (MemberChanged bridge p byte) (inr is) = absurd is
audit_status name (Output p broke) is = refl
audit_status name (TooLarge what) is = refl
audit_status name (BadLine what n) is = refl
audit_status name (Illegal r) is = refl
audit_status name Read is = refl
audit_status name Write (inl is) = absurd is
audit_status name Write (inr is) = absurd is
audit_status name Memory is = refl

net_status : (name : List ℕ) (counters : Bool) (x : Fault) → IsOfNet x → IsStatus (Some (Net name counters)) (fault_status x)
net_status name counters Usage is = absurd is
net_status name counters (Missing n) is = refl
net_status name counters (BadTopology fault) is = absurd is
net_status name counters (Capture p flaw) is = absurd is
net_status name counters (Changed p byte) is = absurd is
net_status name counters (BadNet fault) is = refl
net_status name counters (BadMember bridge fault) is = refl
net_status name counters (MemberCapture bridge p flaw) is = refl
net_status name counters (MemberChanged bridge p byte) is = refl
net_status name counters (Output p broke) is = absurd is
net_status name counters (TooLarge what) is = absurd is
net_status name counters (BadLine what n) is = absurd is
net_status name counters (Illegal r) is = absurd is
net_status name counters Read is = refl
net_status name counters Write is = refl
net_status name counters Memory is = refl

status_comes : (a : Option Ask) (o : Outcome) → IfErr o (CanCome a) → (a ≡ None → IsErrOf o Usage) → IsStatus a (status_of o)
status_comes None o come none = subst (λ (p : Outcome). IsStatus None (status_of p)) (sym (none refl)) refl
status_comes (Some (Run name options)) (Ok text) come none = refl
status_comes (Some (Run name options)) (Err x) come none = run_status name options x come
status_comes (Some (Check name)) (Ok text) come none = refl
status_comes (Some (Check name)) (Err x) come none = topology_status name x come
status_comes (Some (Audit name)) (Ok text) come none = refl
status_comes (Some (Audit name)) (Err x) come none = audit_status name x come
status_comes (Some (Net name counters)) (Ok text) come none = refl
status_comes (Some (Net name counters)) (Err x) come none = net_status name counters x come
status_comes (Some (Make number)) (Ok text) come none = refl
status_comes (Some (Make number)) (Err x) come none = subst (λ (y : Fault). IsStatus (Some (Make number)) (fault_status y)) (sym come) refl

one_is : (a : Option Ask) → IsStatus a 1
one_is None = refl
one_is (Some (Run name options)) = refl
one_is (Some (Check name)) = refl
one_is (Some (Make number)) = refl
one_is (Some (Audit name)) = refl
one_is (Some (Net name counters)) = refl

seven_is : (a : Option Ask) → IsStatus a 7
seven_is None = refl
seven_is (Some (Run name options)) = refl
seven_is (Some (Check name)) = refl
seven_is (Some (Make number)) = refl
seven_is (Some (Audit name)) = refl
seven_is (Some (Net name counters)) = refl

pub status_is : (a : Option Ask) (o : Outcome) (s : ℕ) → IfErr o (CanCome a) → (a ≡ None → IsErrOf o Usage) → (s ≢ 1 → s ≢ 7 → s ≡ status_of o) → IsStatus a s
status_is a o s come none is = elim (cases_eq s 1) [
  | inl one ↦ subst (IsStatus a) (sym one) (one_is a)
  | inr n1 ↦ elim (cases_eq s 7) [
    | inl seven ↦ subst (IsStatus a) (sym seven) (seven_is a)
    | inr n7 ↦ subst (IsStatus a) (sym (is n1 n7)) (status_comes a o come none)
  ]
]

-- ---- a fault that stops a run is none of its failures
module _ (s : ℕ) (two : s ≢ 2) (three : s ≢ 3) (four : s ≢ 4) (five : s ≢ 5) (eleven : s ≢ 11) (twelve : s ≢ 12) where
  refusal_status : (r : Refusal) → fault_status (refused_by r) ≢ s
  refusal_status not_toml e = three (sym e)
  refusal_status large e = three (sym e)
  refusal_status (at fault key) e = three (sym e)

  refused_status : (name : List ℕ) (o : Option (List ℕ)) (x : Fault) → IsRefused name o x → fault_status x ≢ s
  refused_status name None x is h = five (sym h ∙ ap fault_status is)
  refused_status name (Some bytes) x (r, refused, is) h = refusal_status r (sym (ap fault_status is) ∙ h)

  first_status : (names : List Named) (file : Files) (p : ℕ) (x : Fault) → FirstFault names file p x → fault_status x ≢ s
  first_status names file p x first h = elim (fault_of_named p (name_of names p) file x first.here) [
    | inl missing ↦ five (sym h ∙ ap fault_status missing.1)
    | inr flaw ↦ four (sym h ∙ ap fault_status flaw.1)
  ]

  frames_status : (f : FramesFault) (x : Fault) → IsOfFiles f → (x ≡ captures_fault f) ⊎ (x ≡ outputs_fault f) → fault_status x ≢ s
  frames_status frames.Memory x of (inl is) h = absurd of
  frames_status frames.Memory x of (inr is) h = absurd of
  frames_status frames.Read x of (inl is) h = absurd of
  frames_status frames.Read x of (inr is) h = absurd of
  frames_status (frames.Missing name) x of (inl is) h = five (sym h ∙ ap fault_status is)
  frames_status (frames.Missing name) x of (inr is) h = five (sym h ∙ ap fault_status is)
  frames_status (frames.Broken p broke) x of (inl is) h = four (sym h ∙ ap fault_status is)
  frames_status (frames.Broken p broke) x of (inr is) h = four (sym h ∙ ap fault_status is)
  frames_status frames.Large x of (inl is) h = four (sym h ∙ ap fault_status is)
  frames_status frames.Large x of (inr is) h = four (sym h ∙ ap fault_status is)

  lines_status : {A : Type 0} (read : List ℕ → Option A) (file : Option (List ℕ)) (what : AuditInput) (name : List ℕ) (f : LinesFault) (x : Fault) → IsLinesFault read most file f → x ≡ lines_fault what name f → fault_status x ≢ s
  lines_status read file what name lines.Memory x bad is h = absurd bad
  lines_status read file what name lines.Read x bad is h = absurd bad
  lines_status read file what name lines.Missing x bad is h = five (sym h ∙ ap fault_status is)
  lines_status read file what name lines.Large x bad is h = four (sym h ∙ ap fault_status is)
  lines_status read file what name (lines.Bad n) x bad is h = twelve (sym h ∙ ap fault_status is)

  audit_stop_status : (c : Scope) (file : Files) (x : Fault) → StopsAudit c file x → fault_status x ≢ s
  audit_stop_status c file x (inl (f, first, is)) h = frames_status f x (first_of_files _ file most _ f first) (inl is) h
  audit_stop_status c file x (inr (captures, inl (f, first, is))) h = frames_status f x (first_of_files _ file most _ f first) (inr is) h
  audit_stop_status c file x (inr (captures, inr (outputs, inl (f, bad, is)))) h = lines_status entry_in (file (journal_name c.prefix)) part.Journal (journal_name c.prefix) f x bad is h
  audit_stop_status c file x (inr (captures, inr (outputs, inr (entries, inl (f, bad, is))))) h = lines_status line_in (file (trace_name c.prefix)) part.Trace (trace_name c.prefix) f x bad is h
  audit_stop_status c file x (inr (captures, inr (outputs, inr (entries, inr (seen, is_seen, r, lowest, is))))) h = eleven (sym h ∙ ap fault_status is)

  -- of a net
  net_refusal_status : (r : Refusal) → fault_status (net_refused_by r) ≢ s
  net_refusal_status not_toml e = three (sym e)
  net_refusal_status large e = three (sym e)
  net_refusal_status (at fault key) e = three (sym e)

  member_refusal_status : (bridge : List ℕ) (r : Refusal) → fault_status (member_fault bridge (refused_by r)) ≢ s
  member_refusal_status bridge not_toml e = three (sym e)
  member_refusal_status bridge large e = three (sym e)
  member_refusal_status bridge (at fault key) e = three (sym e)

  member_refused_status : (bridge name : List ℕ) (o : Option (List ℕ)) (x : Fault) → IsRefused name o x → fault_status (member_fault bridge x) ≢ s
  member_refused_status bridge name None x is h = five (sym h ∙ ap (λ (y : Fault). fault_status (member_fault bridge y)) is)
  member_refused_status bridge name (Some bytes) x (r, refused, is) h = member_refusal_status bridge r (sym (ap (λ (y : Fault). fault_status (member_fault bridge y)) is) ∙ h)

  member_first_status : (bridge : List ℕ) (names : List Named) (file : Files) (p : ℕ) (x : Fault) → FirstFault names file p x → fault_status (member_fault bridge x) ≢ s
  member_first_status bridge names file p x first h = elim (fault_of_named p (name_of names p) file x first.here) [
    | inl missing ↦ five (sym h ∙ ap (λ (y : Fault). fault_status (member_fault bridge y)) missing.1)
    | inr flaw ↦ four (sym h ∙ ap (λ (y : Fault). fault_status (member_fault bridge y)) flaw.1)
  ]

  file_refused_status : (name : List ℕ) (o : Option (List ℕ)) (x : Fault) → IsFileRefused name o x → fault_status x ≢ s
  file_refused_status name None x is h = five (sym h ∙ ap fault_status is)
  file_refused_status name (Some bytes) x (r, refused, is) h = net_refusal_status r (sym (ap fault_status is) ∙ h)

  net_stop_status : (name : List ℕ) (f : Files) (x : Fault) → NetStops name f x → fault_status x ≢ s
  net_stop_status name f x (inl (inl refused)) h = file_refused_status name (f name) x refused h
  net_stop_status name f x (inl (inr (inl refused))) h =
      let own = refused.first.here in
      member_refused_status refused.first.bridge.name refused.first.bridge.topology (f refused.first.bridge.topology) own.0 own.1 (sym (ap fault_status own.2) ∙ h)
  net_stop_status name f x (inl (inr (inr wires))) h = let own = wires.refused in net_refusal_status own.0 (sym (ap fault_status own.2) ∙ h)
  net_stop_status name f x (inr faulty) h =
      let own = faulty.first.here in
      member_first_status faulty.first.member.name faulty.first.member.topology.captures f own.port own.own own.first (sym (ap fault_status own.is) ∙ h)

  pub stop_status : (a : Option Ask) (f : Files) (x : Fault) → Stops a f x → fault_status x ≢ s
  stop_status None f x is h = two (sym h ∙ ap fault_status is)
  stop_status (Some (Run name options)) f x (inl refused) h = refused_status name (f name) x refused h
  stop_status (Some (Run name options)) f x (inr p) h = first_status p.topology.captures f p.port x p.first h
  stop_status (Some (Check name)) f x refused h = refused_status name (f name) x refused h
  stop_status (Some (Make number)) f x is h = absurd is
  stop_status (Some (Audit name)) f x (inl refused) h = refused_status name (f name) x refused h
  stop_status (Some (Audit name)) f x (inr p) h = audit_stop_status (scope_of p.topology) f x p.stops h
  stop_status (Some (Net name counters)) f x stops h = net_stop_status name f x stops h

pub stop_not_seven : (a : Option Ask) (f : Files) (x : Fault) → Stops a f x → fault_status x ≢ 7
stop_not_seven = stop_status 7 (λ e. omega arith) (λ e. omega arith) (λ e. omega arith) (λ e. omega arith) (λ e. omega arith) (λ e. omega arith)

pub stop_not_six : (a : Option Ask) (f : Files) (x : Fault) → Stops a f x → fault_status x ≢ 6
stop_not_six = stop_status 6 (λ e. omega arith) (λ e. omega arith) (λ e. omega arith) (λ e. omega arith) (λ e. omega arith) (λ e. omega arith)

pub stop_not_ten : (a : Option Ask) (f : Files) (x : Fault) → Stops a f x → fault_status x ≢ 10
stop_not_ten = stop_status 10 (λ e. omega arith) (λ e. omega arith) (λ e. omega arith) (λ e. omega arith) (λ e. omega arith) (λ e. omega arith)

pub stop_not_one : (a : Option Ask) (f : Files) (x : Fault) → Stops a f x → fault_status x ≢ 1
stop_not_one = stop_status 1 (λ e. omega arith) (λ e. omega arith) (λ e. omega arith) (λ e. omega arith) (λ e. omega arith) (λ e. omega arith)

-- a fault has one of these causes
pub cause_of : (a : Option Ask) (f : Files) (o : Outcome) (x : Fault) → IfErr o (λ y. Stops a f y ⊎ IsFailure a y) → o ≡ Err x → Stops a f x ⊎ IsFailure a x
cause_of a f o x cause e = subst (λ (p : Outcome). IfErr p (λ y. Stops a f y ⊎ IsFailure a y)) e cause

-- a status from 2 on, but for 6 and 7, is that of a fault that stops
pub stops_with : (o : Outcome) (a : Option Ask) (f : Files) (s : ℕ) → IfErr o (λ y. Stops a f y ⊎ IsFailure a y) →
    status_of o ≡ s → 1 < s → s ≢ 6 → s ≢ 7 → StopsWith a f s
stops_with o a f s cause is more n6 n7 =
    let found = is_fault o s is more in
    elim (cause_of a f o found.0 cause found.1) [
      | inl stops ↦ (found.0, stops, found.2)
      | inr failure ↦ elim (failure_is a found.0 failure) [
        | inl read ↦ absurd (n6 (sym found.2 ∙ ap fault_status read))
        | inr other ↦ elim other [
          | inl write ↦ absurd (n7 (sym found.2 ∙ ap fault_status write))
          | inr memory ↦ absurd (let one : s ≡ 1 = sym found.2 ∙ ap fault_status memory in omega arith)
        ]
      ]
    ]

-- so none has status 10
pub not_ten : (o : Outcome) (a : Option Ask) (f : Files) → IfErr o (λ y. Stops a f y ⊎ IsFailure a y) → status_of o ≢ 10
not_ten o a f cause ten =
    let found = stops_with o a f 10 cause ten (omega arith) (λ e. omega arith) (λ e. omega arith) in
    stop_not_ten a f found.0 found.1 found.2

-- the statuses of faults of what is asked for
pub record OfInput (n : ℕ) : Type 0 where
  pub late : 1 < n
  pub one : n ≢ 1
  pub six : n ≢ 6
  pub seven : n ≢ 7

pub of_input : (n : ℕ) → IsOfInput n → OfInput n
of_input n is =
    let zero : n ≢ 0 = λ e. false≢true (subst IsOfInput e is) in
    let one : n ≢ 1 = λ e. false≢true (subst IsOfInput e is) in
    record {
      late = omega arith;
      one = one;
      six = λ e. false≢true (subst IsOfInput e is);
      seven = λ e. false≢true (subst IsOfInput e is);
    }

-- ---- what is printed
pub usage_line : (o : Outcome) → o ≡ Err Usage → line_of o ≡ usage
unfolding fault_line
usage_line o e = ap line_of e

pub read_line : (o : Outcome) → o ≡ Err Read → line_of o ≡ codes "exbr: read fault\n"
unfolding fault_line
read_line o e = ap line_of e

pub write_line : (o : Outcome) → o ≡ Err Write → line_of o ≡ codes "exbr: write fault\n"
unfolding fault_line
write_line o e = ap line_of e

pub fault_says : (o : Outcome) (s : ℕ) (before after : List ℕ) → status_of o ≡ s → 1 < s → ((x : Fault) → o ≡ Err x → CanBe x)
    → after ≡ before ++ line_of o → (line : List ℕ) × IsFaultLine s line × (after ≡ before ++ line)
fault_says o s before after is more can says =
    let found = is_fault o s is more in
    (fault_line found.0, (found.0, can found.0 found.1, found.2, refl), says ∙ ap (λ (p : Outcome). before ++ line_of p) found.1)

pub front_by : (o : Outcome) (a : Option Ask) (f h : Files) (c d : Faults) (before after : List ℕ)
    → IfOk o (λ text. IsDone a f h (string_bytes text)) → IfErr o (λ x. Stops a f x ⊎ IsFailure a x)
    → (IsErrOf o Read → Rose c.reads d.reads) → (IsErrOf o Write → Rose c.writes d.writes) → AppendsFront before after (line_of o)
    → (text : List ℕ) × IsText a f h c d text × AppendsFront before after text
front_by (Ok text) a f h c d before after done cause read write front = (string_bytes text, inr done, front)
front_by (Err x) a f h c d before after done cause read write front =
    let is : IsCause a f c d x = elim cause [
      | inl stops ↦ inl stops
      | inr failure ↦ inr (failure, λ e. read (ap (λ (y : Fault). Err y) e), λ e. write (ap (λ (y : Fault). Err y) e))
    ] in
    (fault_line x, inl (x, is, refl), front)

no_zero : (y : Fault) → fault_status y ≡ 0 → ⊥
no_zero Usage e = omega arith
no_zero (Missing name) e = omega arith
no_zero (BadTopology fault) e = omega arith
no_zero (Capture p flaw) e = omega arith
no_zero (Changed p byte) e = omega arith
no_zero (BadNet fault) e = omega arith
no_zero (BadMember name fault) e = omega arith
no_zero (MemberCapture name p flaw) e = omega arith
no_zero (MemberChanged name p byte) e = omega arith
no_zero (Output p broke) e = omega arith
no_zero (TooLarge what) e = omega arith
no_zero (BadLine what n) e = omega arith
no_zero (Illegal r) e = omega arith
no_zero Read e = omega arith
no_zero Write e = omega arith
no_zero Memory e = omega arith

-- what is done where all went well
pub done_by : (o : Outcome) (a : Option Ask) (f h : Files) → IfOk o (λ text. IsDone a f h (string_bytes text)) → status_of o ≡ 0 → (text : List ℕ) × IsDone a f h text × (text ≡ line_of o)
done_by (Ok text) a f h done zero = (string_bytes text, done, refl)
done_by (Err x) a f h done zero = absurd (no_zero x zero)

-- and its text
pub text_by : (o : Outcome) (text : List ℕ) → IfOk o (λ t. string_bytes t ≡ text) → status_of o ≡ 0 → line_of o ≡ text
text_by (Ok t) text is zero = is
text_by (Err x) text is zero = absurd (no_zero x zero)

-- an early end has none of the statuses of faults that come while a topology or a net is played
late_status : (x : Fault) → IsOfPlay x → fault_status x ≢ 1 → fault_status x ≢ 6 → fault_status x ≢ 7 → fault_status x ≢ 10 → ⊥
late_status Usage is n1 n6 n7 n10 = is
late_status (Missing name) is n1 n6 n7 n10 = is
late_status (BadTopology fault) is n1 n6 n7 n10 = is
late_status (Capture p flaw) is n1 n6 n7 n10 = is
late_status (Changed p byte) is n1 n6 n7 n10 = n10 refl
late_status (BadNet fault) is n1 n6 n7 n10 = is
late_status (BadMember name fault) is n1 n6 n7 n10 = is
late_status (MemberCapture name p flaw) is n1 n6 n7 n10 = is
late_status (MemberChanged name p byte) is n1 n6 n7 n10 = is
late_status (Output p broke) is n1 n6 n7 n10 = is
late_status (TooLarge what) is n1 n6 n7 n10 = is
late_status (BadLine what n) is n1 n6 n7 n10 = is
late_status (Illegal r) is n1 n6 n7 n10 = is
late_status Read is n1 n6 n7 n10 = n6 refl
late_status Write is n1 n6 n7 n10 = n7 refl
late_status Memory is n1 n6 n7 n10 = n1 refl

net_late_status : (x : Fault) → IsOfNetPlay x → fault_status x ≢ 1 → fault_status x ≢ 6 → fault_status x ≢ 7 → fault_status x ≢ 10 → ⊥
net_late_status Usage is n1 n6 n7 n10 = is
net_late_status (Missing name) is n1 n6 n7 n10 = is
net_late_status (BadTopology fault) is n1 n6 n7 n10 = is
net_late_status (Capture p flaw) is n1 n6 n7 n10 = is
net_late_status (Changed p byte) is n1 n6 n7 n10 = is
net_late_status (BadNet fault) is n1 n6 n7 n10 = is
net_late_status (BadMember name fault) is n1 n6 n7 n10 = is
net_late_status (MemberCapture name p flaw) is n1 n6 n7 n10 = is
net_late_status (MemberChanged name p byte) is n1 n6 n7 n10 = n10 refl
net_late_status (Output p broke) is n1 n6 n7 n10 = is
net_late_status (TooLarge what) is n1 n6 n7 n10 = is
net_late_status (BadLine what n) is n1 n6 n7 n10 = is
net_late_status (Illegal r) is n1 n6 n7 n10 = is
net_late_status Read is n1 n6 n7 n10 = n6 refl
net_late_status Write is n1 n6 n7 n10 = n7 refl
net_late_status Memory is n1 n6 n7 n10 = n1 refl

pub making_end : (o : Outcome) (P : Type 0) → IfErr o (λ x. IsOfMaking x ⊎ P) → status_of o ≢ 0 → status_of o ≢ 1 → status_of o ≢ 6 → status_of o ≢ 7 → status_of o ≢ 10 → P
making_end (Ok line) P early n0 n1 n6 n7 n10 = absurd (n0 refl)
making_end (Err x) P (inl (inl late)) n0 n1 n6 n7 n10 = absurd (late_status x late n1 n6 n7 n10)
making_end (Err x) P (inl (inr late)) n0 n1 n6 n7 n10 = absurd (net_late_status x late n1 n6 n7 n10)
making_end (Err x) P (inr early) n0 n1 n6 n7 n10 = early

pub run_makes : (o : Outcome) (P : Type 0) → IfErr o (λ x. IsOfPlay x ⊎ P) → IfErr o (λ x. IsOfMaking x ⊎ P)
run_makes (Ok line) P early = tt
run_makes (Err x) P (inl late) = inl (inl late)
run_makes (Err x) P (inr early) = inr early

pub net_makes : (o : Outcome) (P : Type 0) → IfErr o (λ x. IsOfNetPlay x ⊎ P) → IfErr o (λ x. IsOfMaking x ⊎ P)
net_makes (Ok line) P early = tt
net_makes (Err x) P (inl late) = inl (inr late)
net_makes (Err x) P (inr early) = inr early

pub early_end : (o : Outcome) (P : Type 0) → IfErr o (λ x. IsOfPlay x ⊎ P) → status_of o ≢ 0 → status_of o ≢ 1 → status_of o ≢ 6 → status_of o ≢ 7 → status_of o ≢ 10 → P
early_end o P early = making_end o P (run_makes o P early)

-- what is opened first, and then by a run that ends early
pub opens_on : (o : Outcome) (P Q : Id → Type 0) (a b d : ℕ → Id) → Opens P a b → ((i : Id) → Q i → P i) → IfErr o (λ x. IsOfPlay x ⊎ Opens Q b d) → IfErr o (λ x. IsOfPlay x ⊎ Opens P a d)
opens_on (Ok line) P Q a b d first so later = tt
opens_on (Err x) P Q a b d first so (inl late) = inl late
opens_on (Err x) P Q a b d first so (inr later) = inr (opens_then P a b d first (opens_weaker Q P b d so later))

-- ---- completeness
pub made_is : (o : Outcome) (number : ℕ) → IfErr o (CanCome (Some (Make number))) → (status_of o ≡ 0) ⊎ (status_of o ≡ 1)
made_is (Ok text) number come = inl refl
made_is (Err x) number come = inr (ap fault_status come)

pub status_cases : (o : Outcome) (P : Type 0) → (status_of o ≡ 0 → P) → ((x : Fault) → o ≡ Err x → P) → P
status_cases (Ok line) P zero fault = zero refl
status_cases (Err x) P zero fault = fault x refl
