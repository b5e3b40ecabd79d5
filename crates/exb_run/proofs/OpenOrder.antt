-- What a run opened and made, in order.
use Rattle.std.proofs.Common.{◌≡◌, ◌≢◌, ◌+◌, ◌++◌, ◌∙◌, ◌⊎◌, inl, inr, ℕ, true, List, Ok, Err, ap, sym, refl, arith, subst, false}
use Rattle.std.proofs.lemmas.Bool.{cases_Bool, cases_lt, false≢true}
use Rattle.std.specs.Prelude.{IfErr, IsErrOf}
use Rattle.exb_model.specs.Setup.{shape_of}
use Rattle.exb_model.specs.Tree.{Shape}
use Rattle.exb_shelf.specs.Files.{Files}
use Rattle.exb_shelf.specs.Shelf.{Id, IsReadingOf, Opens}
use Rattle.exb_shelf.proofs.IdLemmas.{opens_then, opens_weaker}
use Rattle.exb_topology_tables.specs.declared.elements.Named.{Named}
use Rattle.exb_topology.specs.declared.topology.Topology.{Topology}
use Rattle.exb_cli.specs.declared.invocations.Options.{Options}
use Rattle.exb_inputs.specs.declared.fault.Fault.{Fault}
use Rattle.exb_inputs.specs.declared.fault.Fault.TheVariants.{Usage, Missing, Topology as BadTopology, Capture, Changed, Net as BadNet, Member as BadMember, MemberCapture, MemberChanged, Output, TooLarge, BadLine, Illegal, Read, Write, Memory}
use Rattle.exb_inputs.specs.declared.fault.InputFlaw.{InputFlaw}
use Rattle.exb_inputs.specs.Answers.{CanBe, HoldsTopology, fault_status, line_of, status_of}
use Rattle.exb_inputs.specs.CaptureChecks.{FirstFault}
use Rattle.exb_inputs.specs.Inputs.{is_named, name_of}
use Rattle.exb_inputs.specs.FaultPhases.{IsOfPlaying, IsOfTopology, IsOfPlay}
use Rattle.exb_inputs.specs.ShelfEffects.{EndsAt, OpensEach, ReadsBelow, ReadsCapture}
use Rattle.exb_inputs.proofs.LastChecked.{opened_higher}
use Rattle.exb_inputs.proofs.CaptureFaults.{named_not}
use Rattle.exb_outputs.specs.CreationOrder.{IsLate, MakesInOrder}
use Rattle.exb_run.specs.OpenedFiles.{IsFileOf, IsRefusedEarly, MadeBehind, OpenedInOrder, ReadsUpTo, RunOpened, RunOpens, manifest_for}
use Rattle.exb_outputs.specs.Manifests.{Listed}
use Rattle.exb_play.specs.ShelfEffects.{IsOfRun}
use Rattle.exb_outputs.proofs.CreationOrder.{read_then_makes}
use Rattle.exb_run.proofs.OpenedFiles.{listed_is_output}
use Rattle.exb_run.proofs.Reports.{is_read}
use Rattle.exb_inputs.proofs.Outcomes.{Outcome}

-- ---- one topology
pub manifest_is : (manifest : Listed) (options : Options) (t : Topology) → manifest.options ≡ options → manifest.prefix ≡ t.prefix → manifest.tree ≡ shape_of t.setup → manifest ≡ manifest_for t options
manifest_is manifest options t same prefix tree =
    ap (λ (o : Options). record { tree = manifest.tree; prefix = manifest.prefix; options = o }) same
    ∙ ap (λ (p : List ℕ). record { tree = manifest.tree; prefix = p; options = options }) prefix
    ∙ ap (λ (s : Shape). record { tree = s; prefix = t.prefix; options = options }) tree

-- captures are opened, and then these again and outputs
pub files_for : (manifest : Listed) (options : Options) (t : Topology) (a b c : ℕ → Id) → manifest.options ≡ options → manifest.prefix ≡ t.prefix → manifest.tree ≡ shape_of t.setup
    → Opens (ReadsCapture t.captures) a b → Opens (IsOfRun t.captures manifest) b c → Opens (IsFileOf options t) a c
files_for manifest options t a b c same prefix tree read played =
    opens_then (IsFileOf options t) a b c
    (opens_weaker (ReadsCapture t.captures) (IsFileOf options t) a b (λ i reads. inl reads) read)
    (opens_weaker (IsOfRun t.captures manifest) (IsFileOf options t) b c (λ i opened. elim opened [
      | inl reads ↦ inl reads
      | inr writes ↦ inr (listed_is_output manifest options t same prefix tree i writes)
    ]) played)

pub captures_are_files : (options : Options) (t : Topology) (a b : ℕ → Id) → Opens (ReadsCapture t.captures) a b → Opens (IsFileOf options t) a b
captures_are_files options t a b opens = opens_weaker (ReadsCapture t.captures) (IsFileOf options t) a b (λ i reads. inl reads) opens

-- the fault of a result
pub err_is : (x y : Fault) → ◌≡◌ {A = Outcome} (Err x) (Err y) → x ≡ y
err_is x y e = cc

-- checking ends no later than at the first fault
pub ends_upto : (tells : Type 0) (names : List Named) (file : Files) (a b : ℕ → Id) (x : Fault) → EndsAt tells names file a b x → tells → (p : ℕ) (fault : Fault) → FirstFault names file p fault → Opens (ReadsBelow names (p + 1)) a b
ends_upto tells names file a b x ends told p fault first = elim (cases_lt p ends.port) [
  | inl low ↦ absurd (named_not p (name_of names p) file fault (ends.before told p low) first.here)
  | inr high ↦ opened_higher names (ends.port + 1) (p + 1) a b (omega arith) ends.opened
]

pub ends_own : (tells : Type 0) (names : List Named) (file : Files) (a b : ℕ → Id) (x : Fault) → EndsAt tells names file a b x → (p : ℕ) (flaw : InputFlaw) → x ≡ Capture p flaw → (is_named names p ≡ true) × Opens (ReadsBelow names (p + 1)) a b
ends_own tells names file a b x ends p flaw is =
    let own = ends.own p flaw is in
    (ap (is_named names) own.0 ∙ own.1, subst (λ (n : ℕ). Opens (ReadsBelow names (n + 1)) a b) (sym own.0) ends.opened)

-- none is one of a capture, where captures are played
pub play_own : (o : Outcome) → IfErr o IsOfPlay → (p : ℕ) (flaw : InputFlaw) → IsErrOf o (Capture p flaw) → ⊥
play_own o is p flaw e = subst (λ (q : Outcome). IfErr q IsOfPlay) e is

-- ---- what is made is made behind all captures
-- where nothing was made
pub behind_none : (names : List Named) (a b : ℕ → Id) → Opens (ReadsCapture names) a b → MadeBehind names a b
behind_none names a b opens i was now writes = absurd (false≢true (sym writes ∙ (opens.fresh i was now).reads.reads))

-- captures are checked, and then outputs are made
pub behind_checks : (P : Id → Type 0) (names : List Named) (a b c : ℕ → Id) → Opens (ReadsCapture names) a b → OpensEach names 4160 a b → Opens P b c → MadeBehind names a c
behind_checks P names a b c read each played i was now writes = elim (cases_Bool (b i).given) [
  | inl given ↦ absurd (false≢true (sym writes ∙ ap (λ (k : Id). k.reads) (played.kept i given) ∙ (read.fresh i was given).reads.reads))
  | inr free ↦ λ q name low named.
      let found = each q name low named in
      (found.0, found.1, subst (IsReadingOf name) (sym (played.kept found.0 found.2.given)) found.2, played.rises found.0 i found.2.given free now)
]

-- the topology is read before
pub behind_later : (P : Id → Type 0) (name : List ℕ) (names : List Named) (a b c : ℕ → Id) → Opens (IsReadingOf name) a b → Opens P b c → MadeBehind names b c → MadeBehind names a c
behind_later P name names a b c read played behind i was now writes = elim (cases_Bool (b i).given) [
  | inl given ↦ absurd (false≢true (sym writes ∙ ap (λ (k : Id). k.reads) (played.kept i given) ∙ (read.fresh i was given).reads))
  | inr free ↦ λ q own low named.
      let found = behind i free now writes q own low named in
      (found.0, still_free found.0 found.1, found.2, found.3)
]
  where
    still_free : (j : ℕ) → (b j).given ≡ false → (a j).given ≡ false
    still_free j free = elim (cases_Bool (a j).given) [
      | inl given ↦ absurd (false≢true (sym free ∙ ap (λ (k : Id). k.given) (read.kept j given) ∙ given))
      | inr none ↦ none
    ]

-- ---- the whole
module _ (tells : Type 0) (name : List ℕ) (options : Options) (o : Outcome) (t : Topology) (file : Files) (a b c : ℕ → Id) (read : Opens (IsReadingOf name) a b) where
  upto : (p : ℕ) → Opens (ReadsBelow t.captures (p + 1)) b c → Opens (ReadsUpTo name t p) a c
  upto p opens =
      opens_then (ReadsUpTo name t p) a b c (opens_weaker (IsReadingOf name) (ReadsUpTo name t p) a b (λ i reads. inl reads) read)
      (opens_weaker (ReadsBelow t.captures (p + 1)) (ReadsUpTo name t p) b c (λ i reads. inr reads) opens)

  pub run_opens : (tells → HoldsTopology name file t) → Opens (IsFileOf options t) b c → MakesInOrder (manifest_for t options) o b c → MadeBehind t.captures b c
      → IfErr o (λ x. (p at : ℕ) → x ≡ Changed p at → is_named t.captures p ≡ true) → ((p : ℕ) (flaw : InputFlaw) → IsErrOf o (Capture p flaw) → (is_named t.captures p ≡ true) × Opens (ReadsBelow t.captures (p + 1)) b c)
      → (tells → (p : ℕ) (fault : Fault) → FirstFault t.captures file p fault → Opens (ReadsBelow t.captures (p + 1)) b c)
      → RunOpens tells name options o file a c
  run_opens holds opened made behind port own first = record {
    topology = t;
    holds = holds;
    opened =
        opens_then (λ i. IsReadingOf name i ⊎ IsFileOf options t i) a b c (opens_weaker (IsReadingOf name) (λ i. IsReadingOf name i ⊎ IsFileOf options t i) a b (λ i reads. inl reads) read)
        (opens_weaker (IsFileOf options t) (λ i. IsReadingOf name i ⊎ IsFileOf options t i) b c (λ i is. inr is) opened);
    made = read_then_makes (IsReadingOf name) (manifest_for t options) o a b c (λ i r. r.reads) read opened.kept made;
    behind = behind_later (IsFileOf options t) name t.captures a b c read opened behind;
    changed = λ p at is. (subst (λ (q : Outcome). IfErr q (λ x. (p at : ℕ) → x ≡ Changed p at → is_named t.captures p ≡ true)) is port) p at refl;
    own = λ p flaw is. let found = own p flaw is in (found.0, upto p found.1);
    first = λ told p fault is. upto p (first told p fault is);
  }

-- ---- by the status
topology_status : (x : Fault) → IsOfTopology x → (fault_status x ≢ 0) × (fault_status x ≢ 4) × (fault_status x ≢ 10)
topology_status Usage is = absurd is
topology_status (Missing name) is = (λ e. omega arith, λ e. omega arith, λ e. omega arith)
topology_status (BadTopology fault) is = (λ e. omega arith, λ e. omega arith, λ e. omega arith)
topology_status (Capture p flaw) is = absurd is
topology_status (Changed p at) is = absurd is
topology_status (BadNet fault) is = absurd is
topology_status (BadMember name fault) is = absurd is
topology_status (MemberCapture name p flaw) is = absurd is
topology_status (MemberChanged name p at) is = absurd is
topology_status (Output p broke) is = absurd is
topology_status (TooLarge what) is = absurd is
topology_status (BadLine what n) is = absurd is
topology_status (Illegal r) is = absurd is
topology_status Read is = (λ e. omega arith, λ e. omega arith, λ e. omega arith)
topology_status Write is = absurd is
topology_status Memory is = (λ e. omega arith, λ e. omega arith, λ e. omega arith)

early_status : (o : Outcome) → IsRefusedEarly o → (status_of o ≢ 0) × (status_of o ≢ 4) × (status_of o ≢ 10)
early_status (Ok line) early = absurd early
early_status (Err x) early = topology_status x early

late_of : (o : Outcome) → IfErr o (λ x. IsOfTopology x ⊎ IsOfPlaying x) → (status_of o ≡ 0) ⊎ (status_of o ≡ 10) → IsLate o
late_of (Ok line) come is = tt
late_of (Err Usage) come is = elim is [ inl e ↦ omega arith | inr e ↦ omega arith ]
late_of (Err (Missing name)) come is = elim is [ inl e ↦ omega arith | inr e ↦ omega arith ]
late_of (Err (BadTopology fault)) come is = elim is [ inl e ↦ omega arith | inr e ↦ omega arith ]
late_of (Err (Capture p flaw)) come is = elim is [ inl e ↦ omega arith | inr e ↦ omega arith ]
late_of (Err (Changed p at)) come is = tt
late_of (Err (BadNet fault)) come is = elim is [ inl e ↦ omega arith | inr e ↦ omega arith ]
late_of (Err (BadMember name fault)) come is = elim is [ inl e ↦ omega arith | inr e ↦ omega arith ]
late_of (Err (MemberCapture name p flaw)) come is = elim is [ inl e ↦ omega arith | inr e ↦ omega arith ]
late_of (Err (MemberChanged name p at)) (inl not) is = absurd not
late_of (Err (MemberChanged name p at)) (inr not) is = absurd not
late_of (Err (Output p broke)) come is = elim is [ inl e ↦ omega arith | inr e ↦ omega arith ]
late_of (Err (TooLarge what)) come is = elim is [ inl e ↦ omega arith | inr e ↦ omega arith ]
late_of (Err (BadLine what n)) come is = elim is [ inl e ↦ omega arith | inr e ↦ omega arith ]
late_of (Err (Illegal r)) come is = elim is [ inl e ↦ omega arith | inr e ↦ omega arith ]
late_of (Err Read) come is = elim is [ inl e ↦ omega arith | inr e ↦ omega arith ]
late_of (Err Write) come is = elim is [ inl e ↦ omega arith | inr e ↦ omega arith ]
late_of (Err Memory) come is = elim is [ inl e ↦ omega arith | inr e ↦ omega arith ]

is_capture : (o : Outcome) → IfErr o (λ x. IsOfTopology x ⊎ IsOfPlaying x) → status_of o ≡ 4 → (p : ℕ) × (flaw : InputFlaw) × (o ≡ Err (Capture p flaw))
is_capture (Ok line) come e = absurd (omega arith)
is_capture (Err Usage) come e = absurd (omega arith)
is_capture (Err (Missing name)) come e = absurd (omega arith)
is_capture (Err (BadTopology fault)) come e = absurd (omega arith)
is_capture (Err (Capture p flaw)) come e = (p, flaw, refl)
is_capture (Err (Changed p at)) come e = absurd (omega arith)
is_capture (Err (BadNet fault)) come e = absurd (omega arith)
is_capture (Err (BadMember name fault)) come e = absurd (omega arith)
is_capture (Err (MemberCapture name p flaw)) (inl is) e = absurd is
is_capture (Err (MemberCapture name p flaw)) (inr is) e = absurd is
is_capture (Err (MemberChanged name p at)) come e = absurd (omega arith)
is_capture (Err (Output p broke)) (inl is) e = absurd is
is_capture (Err (Output p broke)) (inr is) e = absurd is
is_capture (Err (TooLarge what)) (inl is) e = absurd is
is_capture (Err (TooLarge what)) (inr is) e = absurd is
is_capture (Err (BadLine what n)) come e = absurd (omega arith)
is_capture (Err (Illegal r)) come e = absurd (omega arith)
is_capture (Err Read) come e = absurd (omega arith)
is_capture (Err Write) come e = absurd (omega arith)
is_capture (Err Memory) come e = absurd (omega arith)

is_changed : (o : Outcome) → IfErr o (λ x. IsOfTopology x ⊎ IsOfPlaying x) → status_of o ≡ 10 → (p : ℕ) × (at : ℕ) × (o ≡ Err (Changed p at))
is_changed (Ok line) come e = absurd (omega arith)
is_changed (Err Usage) come e = absurd (omega arith)
is_changed (Err (Missing name)) come e = absurd (omega arith)
is_changed (Err (BadTopology fault)) come e = absurd (omega arith)
is_changed (Err (Capture p flaw)) come e = absurd (omega arith)
is_changed (Err (Changed p at)) come e = (p, at, refl)
is_changed (Err (BadNet fault)) come e = absurd (omega arith)
is_changed (Err (BadMember name fault)) come e = absurd (omega arith)
is_changed (Err (MemberCapture name p flaw)) come e = absurd (omega arith)
is_changed (Err (MemberChanged name p at)) (inl not) e = absurd not
is_changed (Err (MemberChanged name p at)) (inr not) e = absurd not
is_changed (Err (Output p broke)) come e = absurd (omega arith)
is_changed (Err (TooLarge what)) come e = absurd (omega arith)
is_changed (Err (BadLine what n)) come e = absurd (omega arith)
is_changed (Err (Illegal r)) come e = absurd (omega arith)
is_changed (Err Read) come e = absurd (omega arith)
is_changed (Err Write) come e = absurd (omega arith)
is_changed (Err Memory) come e = absurd (omega arith)

module _ (tells printing : Type 0) (name : List ℕ) (options : Options) (o : Outcome) (status : ℕ) (file : Files) (given ids : ℕ → Id) (before after : List ℕ) (is : status ≢ 1 → status ≢ 7 → status ≡ status_of o)
    (says : printing → status ≢ 1 → status ≢ 7 → after ≡ before ++ line_of o) (come : IfErr o (λ x. IsOfTopology x ⊎ IsOfPlaying x)) (can : (x : Fault) → o ≡ Err x → CanBe x) where
  own_status : (n : ℕ) → n ≢ 1 → n ≢ 7 → status ≡ n → status_of o ≡ n
  own_status n n1 n7 e = sym (is (λ h. n1 (sym e ∙ h)) (λ h. n7 (sym e ∙ h))) ∙ e

  all_said : (n : ℕ) → n ≢ 1 → n ≢ 7 → status ≡ n → printing → after ≡ before ++ line_of o
  all_said n n1 n7 e p = says p (λ h. n1 (sym e ∙ h)) (λ h. n7 (sym e ∙ h))

  by_run : RunOpens tells name options o file given ids → RunOpened tells printing name options status file given ids before after
  by_run r = record {
    topology = r.topology;
    holds = r.holds;
    opened = r.opened;
    count = r.made.count;
    made = r.made.made;
    behind = r.behind;
    all = λ which. r.made.all (late_of o come (elim which [
      | inl e ↦ inl (own_status 0 (λ h. omega arith) (λ h. omega arith) e)
      | inr e ↦ inr (own_status 10 (λ h. omega arith) (λ h. omega arith) e)
    ]));
    six = λ e. r.made.unread (is_read o (own_status 6 (λ h. omega arith) (λ h. omega arith) e));
    four = λ e.
        let found = is_capture o come (own_status 4 (λ h. omega arith) (λ h. omega arith) e) in
        let own = r.own found.0 found.1 found.2 in
        (found.0, found.1, own.0, own.1, λ p. all_said 4 (λ h. omega arith) (λ h. omega arith) e p ∙ ap (λ (q : Outcome). before ++ line_of q) found.2);
    ten = λ e.
        let found = is_changed o come (own_status 10 (λ h. omega arith) (λ h. omega arith) e) in
        (found.0, found.1, can (Changed found.0 found.1) found.2, r.changed found.0 found.1 found.2, λ p. all_said 10 (λ h. omega arith) (λ h. omega arith) e p ∙ ap (λ (q : Outcome). before ++ line_of q) found.2);
    first = r.first;
  }

  pub opened_by_run : (IsRefusedEarly o × Opens (IsReadingOf name) given ids) ⊎ RunOpens tells name options o file given ids → OpenedInOrder tells printing name options status file given ids before after
  opened_by_run (inl (early, opens)) =
      let other = early_status o early in
      inl ((λ e. other.0 (own_status 0 (λ h. omega arith) (λ h. omega arith) e)), (λ e. other.1 (own_status 4 (λ h. omega arith) (λ h. omega arith) e)), (λ e. other.2 (own_status 10 (λ h. omega arith) (λ h. omega arith) e)), opens)
  opened_by_run (inr r) = inr (by_run r)
