-- A net that is asked for: what comes of it, and what it opened.
use Rattle.std.proofs.Common.{◌≡◌, ◌≢◌, ◌++◌, ◌⊎◌, ◌∙◌, inl, inr, ℕ, Bool, List, Some, Ok, Err, ap, sym, refl, arith}
use Rattle.std.specs.Prelude.{IfOk, IfErr, IsErrOf, string_bytes}
use Rattle.exb_shelf.specs.Files.{Files, SameFiles}
use Rattle.exb_shelf.specs.Shelf.{Id, IsReading, Opens}
use Rattle.exb_cli.specs.CommandLines.{Net}
use Rattle.exb_inputs.specs.Answers.{CanBe, fault_status, line_of, status_of}
use Rattle.exb_inputs.specs.declared.fault.Fault.{Fault}
use Rattle.exb_inputs.specs.declared.fault.Fault.TheVariants.{Usage, Missing, Topology as BadTopology, Capture, Changed, Net as BadNet, Member as BadMember, MemberCapture, MemberChanged, Output, TooLarge, BadLine, Illegal, Read, Write, Memory}
use Rattle.exb_inputs.specs.declared.fault.InputFlaw.{InputFlaw}
use Rattle.exb_inputs.specs.OpenedNetFiles.{OpensNet}
use Rattle.exb_inputs.specs.NetFaultPhases.{IsOfNet as IsRefusing}
use Rattle.exb_net.specs.Answers.{AreFrontsOfNet, IsNetFailure, IsOfNet, IsOfNetPlay, NetPlayed, NetStops, OnlyNetAsked}
use Rattle.exb_net.specs.OpenOrder.{IsNetLate, IsNetWanted, MakesNetOutputOf, NetOpens, NetOpensInOrder}
use Rattle.exb_run.specs.OpenedNetFiles.{NetOpened, NetOpenedInOrder}
use Rattle.exb_run.specs.OpenedFiles.{OpensBy}
use Rattle.exb_run.specs.Outcomes.{CameOut}
use Rattle.exb_outputs.specs.Counts.{IsSummary}
use Rattle.exb_inputs.proofs.Outcomes.{Outcome}
use Rattle.exb_run.proofs.Reports.{is_read, making_end, net_makes}

-- ---- what comes of it
pub record NetPlaysOut (tells : Type 0) (name : List ℕ) (counters : Bool) (o : Outcome) (old new : Files) : Type 0 where
  pub done : tells → IfOk o (λ line. NetPlayed name counters old new (string_bytes line))
  pub says : IfOk o (λ line. IsSummary (string_bytes line))
  pub cause : tells → IfErr o (λ x. NetStops name old x ⊎ IsNetFailure x)
  pub stops : tells → (x : Fault) → NetStops name old x → IsErrOf o x ⊎ IsErrOf o Read ⊎ IsErrOf o Memory
  pub causes : IfErr o IsOfNet
  pub early : IfErr o (λ x. IsOfNetPlay x ⊎ SameFiles old new)
  pub stopped : tells → (x : Fault) → NetStops name old x → SameFiles old new
  pub others : tells → OnlyNetAsked name counters old new
  pub fronts : tells → AreFrontsOfNet name old new

pub came_net : (tells : Type 0) (name : List ℕ) (counters : Bool) (o : Outcome) (f h : Files) → NetPlaysOut tells name counters o f h → CameOut tells (Some (Net name counters)) o f h
came_net tells name counters o f h out = record {
  unaccepted = λ none. absurd (cc);
  done = out.done;
  says = out.says;
  cause = out.cause;
  stops = out.stops;
  can_come = out.causes;
  early = net_makes o (SameFiles f h) out.early;
  read_only = λ other. absurd (other tt);
  stopped = out.stopped;
  others = out.others;
  fronts = out.fronts;
  parts = out.fronts;
}

-- ---- what it opened
net_end : (o : Outcome) (P : Type 0) → IfErr o (λ x. IsOfNetPlay x ⊎ P) → status_of o ≢ 0 → status_of o ≢ 1 → status_of o ≢ 6 → status_of o ≢ 7 → status_of o ≢ 10 → P
net_end o P early = making_end o P (net_makes o P early)

pub opens_by_net : (tells : Type 0) (name : List ℕ) (counters : Bool) (o : Outcome) (f : Files) (a b : ℕ → Id) → IfErr o (λ x. IsOfNetPlay x ⊎ Opens IsReading a b) → (tells → IfErr o (λ x. IsOfNetPlay x ⊎ Opens (IsNetWanted name f) a b))
    → (tells → Opens (λ i. IsNetWanted name f i ⊎ MakesNetOutputOf name counters f i) a b) → OpensBy tells (status_of o) (Some (Net name counters)) f a b
opens_by_net tells name counters o f a b reads wanted only = record {
  nothing = λ e. absurd (cc);
  made = λ number e. absurd (cc);
  topology = λ e. net_end o (Opens IsReading a b) reads (λ h. omega arith) (λ h. omega arith) (λ h. omega arith) (λ h. omega arith) (λ h. omega arith);
  checked = λ n e. absurd (cc);
  audited = λ n e. absurd (cc);
  reads = λ n0 n1 n6 n7 n10. net_end o (Opens IsReading a b) reads n0 n1 n6 n7 n10;
  wanted = λ told n0 n1 n6 n7 n10. net_end o (Opens (IsNetWanted name f) a b) (wanted told) n0 n1 n6 n7 n10;
  only = only;
}

-- ---- by the status
refusing_status : (x : Fault) → IsRefusing x → (fault_status x ≢ 0) × (fault_status x ≢ 4) × (fault_status x ≢ 10)
refusing_status Usage is = absurd is
refusing_status (Missing name) is = (λ e. omega arith, λ e. omega arith, λ e. omega arith)
refusing_status (BadTopology fault) is = absurd is
refusing_status (Capture p flaw) is = absurd is
refusing_status (Changed p at) is = absurd is
refusing_status (BadNet fault) is = (λ e. omega arith, λ e. omega arith, λ e. omega arith)
refusing_status (BadMember name fault) is = (λ e. omega arith, λ e. omega arith, λ e. omega arith)
refusing_status (MemberCapture name p flaw) is = absurd is
refusing_status (MemberChanged name p at) is = absurd is
refusing_status (Output p broke) is = absurd is
refusing_status (TooLarge what) is = absurd is
refusing_status (BadLine what n) is = absurd is
refusing_status (Illegal r) is = absurd is
refusing_status Read is = (λ e. omega arith, λ e. omega arith, λ e. omega arith)
refusing_status Write is = absurd is
refusing_status Memory is = (λ e. omega arith, λ e. omega arith, λ e. omega arith)

net_late : (o : Outcome) → IfErr o IsOfNet → (status_of o ≡ 0) ⊎ (status_of o ≡ 10) → IsNetLate o
net_late (Ok line) come is = tt
net_late (Err Usage) come is = absurd come
net_late (Err (Missing name)) come is = elim is [ inl e ↦ omega arith | inr e ↦ omega arith ]
net_late (Err (BadTopology fault)) come is = absurd come
net_late (Err (Capture p flaw)) come is = absurd come
net_late (Err (Changed p at)) come is = absurd come
net_late (Err (BadNet fault)) come is = elim is [ inl e ↦ omega arith | inr e ↦ omega arith ]
net_late (Err (BadMember name fault)) come is = elim is [ inl e ↦ omega arith | inr e ↦ omega arith ]
net_late (Err (MemberCapture name p flaw)) come is = elim is [ inl e ↦ omega arith | inr e ↦ omega arith ]
net_late (Err (MemberChanged name p at)) come is = tt
net_late (Err (Output p broke)) come is = absurd come
net_late (Err (TooLarge what)) come is = absurd come
net_late (Err (BadLine what n)) come is = absurd come
net_late (Err (Illegal r)) come is = absurd come
net_late (Err Read) come is = elim is [ inl e ↦ omega arith | inr e ↦ omega arith ]
net_late (Err Write) come is = elim is [ inl e ↦ omega arith | inr e ↦ omega arith ]
net_late (Err Memory) come is = elim is [ inl e ↦ omega arith | inr e ↦ omega arith ]

net_capture : (o : Outcome) → IfErr o IsOfNet → status_of o ≡ 4 → (bridge : List ℕ) × (p : ℕ) × (flaw : InputFlaw) × (o ≡ Err (MemberCapture bridge p flaw))
net_capture (Ok line) come e = absurd (omega arith)
net_capture (Err Usage) come e = absurd come
net_capture (Err (Missing name)) come e = absurd (omega arith)
net_capture (Err (BadTopology fault)) come e = absurd come
net_capture (Err (Capture p flaw)) come e = absurd come
net_capture (Err (Changed p at)) come e = absurd come
net_capture (Err (BadNet fault)) come e = absurd (omega arith)
net_capture (Err (BadMember name fault)) come e = absurd (omega arith)
net_capture (Err (MemberCapture name p flaw)) come e = (name, p, flaw, refl)
net_capture (Err (MemberChanged name p at)) come e = absurd (omega arith)
net_capture (Err (Output p broke)) come e = absurd come
net_capture (Err (TooLarge what)) come e = absurd come
net_capture (Err (BadLine what n)) come e = absurd come
net_capture (Err (Illegal r)) come e = absurd come
net_capture (Err Read) come e = absurd (omega arith)
net_capture (Err Write) come e = absurd (omega arith)
net_capture (Err Memory) come e = absurd (omega arith)

net_changed : (o : Outcome) → IfErr o IsOfNet → status_of o ≡ 10 → (bridge : List ℕ) × (p : ℕ) × (at : ℕ) × (o ≡ Err (MemberChanged bridge p at))
net_changed (Ok line) come e = absurd (omega arith)
net_changed (Err Usage) come e = absurd come
net_changed (Err (Missing name)) come e = absurd (omega arith)
net_changed (Err (BadTopology fault)) come e = absurd come
net_changed (Err (Capture p flaw)) come e = absurd come
net_changed (Err (Changed p at)) come e = absurd come
net_changed (Err (BadNet fault)) come e = absurd (omega arith)
net_changed (Err (BadMember name fault)) come e = absurd (omega arith)
net_changed (Err (MemberCapture name p flaw)) come e = absurd (omega arith)
net_changed (Err (MemberChanged name p at)) come e = (name, p, at, refl)
net_changed (Err (Output p broke)) come e = absurd come
net_changed (Err (TooLarge what)) come e = absurd come
net_changed (Err (BadLine what n)) come e = absurd come
net_changed (Err (Illegal r)) come e = absurd come
net_changed (Err Read) come e = absurd (omega arith)
net_changed (Err Write) come e = absurd (omega arith)
net_changed (Err Memory) come e = absurd (omega arith)

not_three : (o : Outcome) → IfErr o (λ x. fault_status x ≢ 3) → status_of o ≢ 3
not_three (Ok line) taken = λ e. omega arith
not_three (Err x) taken = taken

module _ (tells printing : Type 0) (name : List ℕ) (counters : Bool) (o : Outcome) (status : ℕ) (file : Files) (given ids : ℕ → Id) (before after : List ℕ) (is : status ≢ 1 → status ≢ 7 → status ≡ status_of o)
    (says : printing → status ≢ 1 → status ≢ 7 → after ≡ before ++ line_of o) (come : IfErr o IsOfNet) (can : (x : Fault) → o ≡ Err x → CanBe x) where
  own_status : (n : ℕ) → n ≢ 1 → n ≢ 7 → status ≡ n → status_of o ≡ n
  own_status n n1 n7 e = sym (is (λ h. n1 (sym e ∙ h)) (λ h. n7 (sym e ∙ h))) ∙ e

  all_said : (n : ℕ) → n ≢ 1 → n ≢ 7 → status ≡ n → printing → after ≡ before ++ line_of o
  all_said n n1 n7 e p = says p (λ h. n1 (sym e ∙ h)) (λ h. n7 (sym e ∙ h))

  by_net : NetOpens tells name counters o file given ids → NetOpened tells printing name counters status file given ids before after
  by_net r = record {
    bridges = r.bridges;
    members = r.members;
    wires = r.wires;
    holds = r.holds;
    opened = r.opened;
    count = r.made.count;
    made = r.made.made;
    behind = r.behind;
    all = λ which. r.made.all (net_late o come (elim which [
      | inl e ↦ inl (own_status 0 (λ h. omega arith) (λ h. omega arith) e)
      | inr e ↦ inr (own_status 10 (λ h. omega arith) (λ h. omega arith) e)
    ]));
    taken = λ e. not_three o r.taken (own_status 3 (λ h. omega arith) (λ h. omega arith) e);
    six = λ e. r.made.unread (is_read o (own_status 6 (λ h. omega arith) (λ h. omega arith) e));
    four = λ e.
        let found = net_capture o come (own_status 4 (λ h. omega arith) (λ h. omega arith) e) in
        (found.0, found.1, found.2, r.own found.0 found.1 found.2 found.3, λ p. all_said 4 (λ h. omega arith) (λ h. omega arith) e p ∙ ap (λ (q : Outcome). before ++ line_of q) found.3);
    ten = λ e.
        let found = net_changed o come (own_status 10 (λ h. omega arith) (λ h. omega arith) e) in
        (found.0, found.1, found.2, can (MemberChanged found.0 found.1 found.2) found.3, r.changed found.0 found.1 found.2 found.3, λ p. all_said 10 (λ h. omega arith) (λ h. omega arith) e p ∙ ap (λ (q : Outcome). before ++ line_of q) found.3);
    first = r.first;
  }

  refused : (x : Fault) → o ≡ Err x → IsRefusing x → OpensNet tells name file (Err x) given ids → NetOpenedInOrder tells printing name counters status file given ids before after
  refused x same refusing opens =
      let other = refusing_status x refusing in
      inl (
        λ e. other.0 (sym (ap status_of same) ∙ own_status 0 (λ h. omega arith) (λ h. omega arith) e),
        λ e. other.1 (sym (ap status_of same) ∙ own_status 4 (λ h. omega arith) (λ h. omega arith) e),
        λ e. other.2 (sym (ap status_of same) ∙ own_status 10 (λ h. omega arith) (λ h. omega arith) e),
        x,
        opens,
      )

  by_result : (p : Outcome) → o ≡ p → NetOpensInOrder tells name counters p file given ids → (NetOpens tells name counters p file given ids → NetOpens tells name counters o file given ids)
      → NetOpenedInOrder tells printing name counters status file given ids before after
  by_result (Ok line) same opens back = inr (by_net (back opens))
  by_result (Err x) same (inl (refusing, opens)) back = refused x same refusing opens
  by_result (Err x) same (inr opens) back = inr (by_net (back opens))

  pub opened_by_net : NetOpensInOrder tells name counters o file given ids → NetOpenedInOrder tells printing name counters status file given ids before after
  opened_by_net opens = by_result o refl opens (λ r. r)
