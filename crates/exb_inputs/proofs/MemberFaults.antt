-- Faults of bridges as those of their net: their causes, and what the shelf counted for them.
use Rattle.std.proofs.Common.{◌≡◌, ◌<◌, ◌∙◌, ◌⊎◌, inl, inr, ℕ, List, Result, Ok, Err, length, refl, ap, sym, subst}
use Rattle.std.specs.Prelude.{IfErr}
use Rattle.std.proofs.lemmas.Bool.{lt-ltb}
use Rattle.exb_toml_keys.specs.declared.faults.TopoFault.TheVariants as topology
use Rattle.exb_toml_keys.specs.Documents.{document}
use Rattle.exb_toml_keys.specs.Faults.{Refusal, not_toml, large, at}
use Rattle.exb_shelf.specs.Files.{Files}
use Rattle.exb_shelf.specs.Shelf.{Faults}
use Rattle.exb_net_file.specs.declared.elements.NetBridge.{NetBridge}
use Rattle.exb_net_file.specs.declared.members.NetMember.{NetMember}
use Rattle.exb_net_file.specs.NetFiles.{net_file_of}
use Rattle.exb_inputs.specs.declared.fault.Fault.{Fault}
use Rattle.exb_inputs.specs.declared.fault.Fault.TheVariants.{Usage, Missing, Topology as BadTopology, Capture, Changed, Net, Member, MemberCapture, MemberChanged, Output, TooLarge, BadLine, Illegal, Read, Write, Memory}
use Rattle.exb_inputs.specs.declared.fault.InputFlaw.{InputFlaw}
use Rattle.exb_inputs.specs.Answers.{IsRefused}
use Rattle.exb_inputs.specs.CaptureChecks.{FirstFault}
use Rattle.exb_inputs.specs.FaultCounts.{CountsFault}
use Rattle.exb_inputs.specs.FaultPhases.{IsOfCapture, IsOfTopology}
use Rattle.exb_inputs.specs.ShelfEffects.{CountsFaults}
use Rattle.exb_inputs.proofs.ShelfEffects.{counted_once, counts_ok, fewer_same}
use Rattle.exb_inputs.specs.NetFaultPhases.{IsOfMemberCapture, IsOfNet}
use Rattle.exb_inputs.specs.NetRefusals.{IsNetRefusal, IsOwnFault, IsOwnRefusal, member_fault, net_refused_by}

pub large_refused : (bytes : List ℕ) → 1_048_576 < length bytes → net_file_of bytes ≡ Err large
unfolding net_file_of document
large_refused bytes more = rw (lt-ltb 1_048_576 (length bytes) more) refl

-- ---- causes
-- so it is, or memory ran out
abbrev pub Is : Fault → Fault → Type 0
Is fault is = (fault ≡ is) ⊎ (fault ≡ Memory)

-- of a topology
of_topology : (name : List ℕ) (x : Fault) → IsOfTopology x → IsOfNet (member_fault name x)
of_topology name Usage of = absurd of
of_topology name (Missing file) of = tt
of_topology name (BadTopology topology.Memory) of = absurd of
of_topology name (BadTopology topology.NotToml) of = tt
of_topology name (BadTopology topology.Large) of = tt
of_topology name (BadTopology (topology.At fault key)) of = tt
of_topology name (Capture p flaw) of = absurd of
of_topology name (Changed p byte) of = absurd of
of_topology name (Net fault) of = absurd of
of_topology name (Member m fault) of = absurd of
of_topology name (MemberCapture m p flaw) of = absurd of
of_topology name (MemberChanged m p byte) of = absurd of
of_topology name (Output p broke) of = absurd of
of_topology name (TooLarge what) of = absurd of
of_topology name (BadLine what n) of = absurd of
of_topology name (Illegal r) of = absurd of
of_topology name Read of = tt
of_topology name Write of = absurd of
of_topology name Memory of = tt

pub cause_of_member : (name : List ℕ) (x y : Fault) → IsOfTopology x → Is y (member_fault name x) → IsOfNet y
cause_of_member name x y of (inl is) = subst IsOfNet (sym is) (of_topology name x of)
cause_of_member name x y of (inr memory) = subst IsOfNet (sym memory) tt

-- of a capture
of_capture : (name : List ℕ) (x : Fault) → IsOfCapture x → IsOfMemberCapture (member_fault name x)
of_capture name Usage of = absurd of
of_capture name (Missing file) of = tt
of_capture name (BadTopology fault) of = absurd of
of_capture name (Capture p flaw) of = of
of_capture name (Changed p byte) of = absurd of
of_capture name (Net fault) of = absurd of
of_capture name (Member m fault) of = absurd of
of_capture name (MemberCapture m p flaw) of = absurd of
of_capture name (MemberChanged m p byte) of = absurd of
of_capture name (Output p broke) of = absurd of
of_capture name (TooLarge what) of = absurd of
of_capture name (BadLine what n) of = absurd of
of_capture name (Illegal r) of = absurd of
of_capture name Read of = tt
of_capture name Write of = absurd of
of_capture name Memory of = tt

pub cause_of_capture : (name : List ℕ) (x y : Fault) → IsOfCapture x → Is y (member_fault name x) → IsOfMemberCapture y
cause_of_capture name x y of (inl is) = subst IsOfMemberCapture (sym is) (of_capture name x of)
cause_of_capture name x y of (inr memory) = subst IsOfMemberCapture (sym memory) tt

-- which fault of a bridge is one of a capture of the net
named_by : (own : List ℕ) (x : Fault) (name : List ℕ) (q : ℕ) (flaw : InputFlaw) → IsOfCapture x → member_fault own x ≡ MemberCapture name q flaw → (name ≡ own) × (x ≡ Capture q flaw)
named_by own Usage name q flaw of e = absurd of
named_by own (Missing file) name q flaw of e = absurd (cc)
named_by own (BadTopology fault) name q flaw of e = absurd of
named_by own (Capture p f) name q flaw of e = (cc, cc)
named_by own (Changed p byte) name q flaw of e = absurd of
named_by own (Net fault) name q flaw of e = absurd of
named_by own (Member m fault) name q flaw of e = absurd of
named_by own (MemberCapture m p f) name q flaw of e = absurd of
named_by own (MemberChanged m p byte) name q flaw of e = absurd of
named_by own (Output p broke) name q flaw of e = absurd of
named_by own (TooLarge what) name q flaw of e = absurd of
named_by own (BadLine what n) name q flaw of e = absurd of
named_by own (Illegal r) name q flaw of e = absurd of
named_by own Read name q flaw of e = absurd (cc)
named_by own Write name q flaw of e = absurd of
named_by own Memory name q flaw of e = absurd (cc)

pub capture_named : (own : List ℕ) (x y : Fault) (name : List ℕ) (q : ℕ) (flaw : InputFlaw) → IsOfCapture x → Is y (member_fault own x) → y ≡ MemberCapture name q flaw → (name ≡ own) × (x ≡ Capture q flaw)
capture_named own x y name q flaw of (inl is) e = named_by own x name q flaw of (sym is ∙ e)
capture_named own x y name q flaw of (inr memory) e = let no : Memory ≡ MemberCapture name q flaw = sym memory ∙ e in absurd (cc)

-- ---- what stops a bridge stops the net
-- a failure of the shelf, or want of memory, is as it was
pub failed_so : (name : List ℕ) (x y : Fault) → (x ≡ Read) ⊎ (x ≡ Memory) → Is y (member_fault name x) → (y ≡ Read) ⊎ (y ≡ Memory)
failed_so name x y (inl read) (inl is) = inl (is ∙ ap (member_fault name) read)
failed_so name x y (inr memory) (inl is) = inr (is ∙ ap (member_fault name) memory)
failed_so name x y failed (inr memory) = inr memory

pub refused_so : (file : Files) (b : NetBridge) (x y : Fault) → IsRefused b.topology (file b.topology) x ⊎ ((x ≡ Read) ⊎ (x ≡ Memory)) → Is y (member_fault b.name x) → IsOwnRefusal file b y ⊎ ((y ≡ Read) ⊎ (y ≡ Memory))
refused_so file b x y (inl refused) (inl is) = inl (x, refused, is)
refused_so file b x y (inl refused) (inr memory) = inr (inr memory)
refused_so file b x y (inr failed) is = inr (failed_so b.name x y failed is)

pub faulty_so : (file : Files) (m : NetMember) (x y : Fault) → ((p : ℕ) × FirstFault m.topology.captures file p x) ⊎ ((x ≡ Read) ⊎ (x ≡ Memory)) → Is y (member_fault m.name x) → IsOwnFault m file y ⊎ ((y ≡ Read) ⊎ (y ≡ Memory))
faulty_so file m x y (inl (p, first)) (inl is) = inl (record { port = p; own = x; first = first; is = is })
faulty_so file m x y (inl first) (inr memory) = inr (inr memory)
faulty_so file m x y (inr failed) is = inr (failed_so m.name x y failed is)

-- ---- what is counted
pub counts_so : {X Y : Type 0} (x y : Fault) (a b : Faults) → ((old new : Faults) → CountsFault x old new → CountsFault y old new) → CountsFaults {X = X} (Err x) a b → CountsFaults {X = Y} (Err y) a b
counts_so x y a b so counts = counted_once (Err y) a b counts.none_fell (so a b counts.once)

-- why the file of a net or its wires are refused is no fault of the shelf
refusal_counts : (refusal : Refusal) (a : Faults) → CountsFault (net_refused_by refusal) a a
refusal_counts not_toml a = refl
refusal_counts large a = refl
refusal_counts (at fault key) a = refl

pub refused_counts : {Y : Type 0} (read : Result Y Refusal) (x : Fault) (a : Faults) → IsNetRefusal read x ⊎ (x ≡ Memory) → CountsFault x a a
refused_counts read x a (inl (refusal, refused, is)) = subst (λ (y : Fault). CountsFault y a a) (sym is) (refusal_counts refusal a)
refused_counts read x a (inr memory) = subst (λ (y : Fault). CountsFault y a a) (sym memory) (inl refl)

pub parsed_counts : {X Y : Type 0} (read : Result Y Refusal) (result : Result X Fault) (a b : Faults) → b ≡ a → IfErr result (λ (x : Fault). IsNetRefusal read x ⊎ (x ≡ Memory)) → CountsFaults result a b
parsed_counts read (Ok x) a b same refused = counts_ok x a b same
parsed_counts read (Err x) a b same refused = counted_once (Err x) a b (fewer_same a b same) (subst (λ (f : Faults). CountsFault x a f) (sym same) (refused_counts read x a refused))

-- and of none that can come while a net is read is it an own one
refusal_cause : (refusal : Refusal) → IsOfNet (net_refused_by refusal)
refusal_cause not_toml = tt
refusal_cause large = tt
refusal_cause (at fault key) = tt

pub refused_cause : {Y : Type 0} (read : Result Y Refusal) (x : Fault) → IsNetRefusal read x ⊎ (x ≡ Memory) → IsOfNet x
refused_cause read x (inl (refusal, refused, is)) = subst IsOfNet (sym is) (refusal_cause refusal)
refused_cause read x (inr memory) = subst IsOfNet (sym memory) tt
