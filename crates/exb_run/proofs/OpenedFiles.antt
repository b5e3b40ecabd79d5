-- Which files are opened.
use Rattle.std.proofs.Common.{◌≡◌, ◌≢◌, ◌<◌, ◌⊎◌, inl, inr, ℕ, List, Option, Some, Ok, Err, refl, sym, subst, ◌∙◌, arith}
use Rattle.std.specs.Prelude.{IfErr}
use Rattle.exb_model.specs.Setup.{shape_of}
use Rattle.exb_model.specs.Tree.{Shape}
use Rattle.exb_shelf.specs.Files.{Files}
use Rattle.exb_shelf.specs.Shelf.{Id, IsReading, IsReadingOf, Opens}
use Rattle.exb_shelf.proofs.IdLemmas.{opens_none, opens_weaker, opens_then}
use Rattle.exb_topology.specs.declared.topology.Topology.{Topology}
use Rattle.exb_cli.specs.CommandLines.{Ask, Run, Check, Audit}
use Rattle.exb_inputs.specs.declared.fault.Fault.{Fault}
use Rattle.exb_inputs.specs.declared.fault.Fault.TheVariants.{Usage, Missing, Topology as BadTopology, Capture, Changed, Net as BadNet, Member as BadMember, MemberCapture, MemberChanged, Output, TooLarge, BadLine, Illegal, Read, Write, Memory}
use Rattle.exb_cli.specs.declared.invocations.Options.{Options}
use Rattle.exb_outputs.specs.Manifests.{Listed, kind_at, output_count, output_name}
use Rattle.exb_inputs.specs.CaptureChecks.{AreAllGood}
use Rattle.exb_inputs.specs.FaultPhases.{IsChange, IsOfPlay, IsOfAudit, IsOfCapture, IsOfPlaying}
use Rattle.exb_play.specs.ShelfEffects.{IsOfRun}
use Rattle.exb_outputs.specs.ShelfEffects.{WritesListed}
use Rattle.exb_inputs.specs.Answers.{HoldsTopology, status_of}
use Rattle.exb_audit_files.specs.OpenedFiles.{ReadsEvidence}
use Rattle.exb_audit_files.specs.Scopes.{scope_of}
use Rattle.exb_audit_files.proofs.AuditSteps.{reads_evidence}
use Rattle.exb_outputs.specs.OutputNames.{IsOutput}
use Rattle.exb_run.specs.OpenedFiles.{IsWanted, WritesOutput, IsOpenedFor, OpensBy}
use Rattle.exb_inputs.specs.ShelfEffects.{ReadsCapture}
use Rattle.exb_outputs.proofs.KindPlaces.{kind_is}
use Rattle.exb_run.proofs.Reports.{early_end, opens_on}
use Rattle.exb_inputs.proofs.Outcomes.{Outcome}

-- ---- faults of a topology that is played
pub capture_plays : (x : Fault) → IsOfCapture x → IsOfPlaying x
capture_plays Usage is = absurd is
capture_plays (Missing name) is = tt
capture_plays (BadTopology fault) is = absurd is
capture_plays (Capture p flaw) is = is
capture_plays (Changed p at) is = absurd is
capture_plays (BadNet fault) is = absurd is
capture_plays (BadMember name fault) is = absurd is
capture_plays (MemberCapture name p flaw) is = absurd is
capture_plays (MemberChanged name p at) is = absurd is
capture_plays (Output p broke) is = absurd is
capture_plays (TooLarge what) is = absurd is
capture_plays (BadLine what n) is = absurd is
capture_plays (Illegal r) is = absurd is
capture_plays Read is = tt
capture_plays Write is = absurd is
capture_plays Memory is = tt

play_plays : (x : Fault) → IsOfPlay x → IsOfPlaying x
play_plays Usage is = absurd is
play_plays (Missing name) is = absurd is
play_plays (BadTopology fault) is = absurd is
play_plays (Capture p flaw) is = absurd is
play_plays (Changed p at) is = is
play_plays (BadNet fault) is = absurd is
play_plays (BadMember name fault) is = absurd is
play_plays (MemberCapture name p flaw) is = absurd is
play_plays (MemberChanged name p at) is = absurd is
play_plays (Output p broke) is = absurd is
play_plays (TooLarge what) is = absurd is
play_plays (BadLine what n) is = absurd is
play_plays (Illegal r) is = absurd is
play_plays Read is = tt
play_plays Write is = tt
play_plays Memory is = tt

pub played_plays : (o : Outcome) → IfErr o IsOfPlay → IfErr o IsOfPlaying
played_plays (Ok line) is = tt
played_plays (Err x) is = play_plays x is

-- where no capture has become another one, the shelf failed or memory ran out
pub play_fails : (o : Outcome) → IfErr o IsOfPlay → IfErr o (λ x. IsChange x → ⊥) → IfErr o (λ x. (x ≡ Read) ⊎ (x ≡ Write) ⊎ (x ≡ Memory))
play_fails (Ok line) is never = tt
play_fails (Err Usage) is never = absurd is
play_fails (Err (Missing name)) is never = absurd is
play_fails (Err (BadTopology fault)) is never = absurd is
play_fails (Err (Capture p flaw)) is never = absurd is
play_fails (Err (Changed p at)) is never = absurd (never tt)
play_fails (Err (BadNet fault)) is never = absurd is
play_fails (Err (BadMember name fault)) is never = absurd is
play_fails (Err (MemberCapture name p flaw)) is never = absurd is
play_fails (Err (MemberChanged name p at)) is never = absurd is
play_fails (Err (Output p broke)) is never = absurd is
play_fails (Err (TooLarge what)) is never = absurd is
play_fails (Err (BadLine what n)) is never = absurd is
play_fails (Err (Illegal r)) is never = absurd is
play_fails (Err Read) is never = inl refl
play_fails (Err Write) is never = inr (inl refl)
play_fails (Err Memory) is never = inr (inr refl)

-- the topology is not at fault
not_three : (o : Outcome) → IfErr o IsOfPlaying → status_of o ≢ 3
not_three (Ok line) is = λ e. omega arith
not_three (Err Usage) is = absurd is
not_three (Err (Missing name)) is = λ e. omega arith
not_three (Err (BadTopology fault)) is = absurd is
not_three (Err (Capture p flaw)) is = λ e. omega arith
not_three (Err (Changed p at)) is = λ e. omega arith
not_three (Err (BadNet fault)) is = absurd is
not_three (Err (BadMember name fault)) is = absurd is
not_three (Err (MemberCapture name p flaw)) is = absurd is
not_three (Err (MemberChanged name p at)) is = absurd is
not_three (Err (Output p broke)) is = λ e. omega arith
not_three (Err (TooLarge what)) is = λ e. omega arith
not_three (Err (BadLine what n)) is = λ e. omega arith
not_three (Err (Illegal r)) is = λ e. omega arith
not_three (Err Read) is = λ e. omega arith
not_three (Err Write) is = λ e. omega arith
not_three (Err Memory) is = λ e. omega arith

audit_three : (o : Outcome) → IfErr o IsOfAudit → status_of o ≢ 3
audit_three (Ok line) is = λ e. omega arith
audit_three (Err Usage) is = absurd is
audit_three (Err (Missing name)) is = λ e. omega arith
audit_three (Err (BadTopology fault)) is = absurd is
audit_three (Err (Capture p flaw)) is = λ e. omega arith
audit_three (Err (Changed p at)) is = absurd is
audit_three (Err (BadNet fault)) is = absurd is
audit_three (Err (BadMember name fault)) is = absurd is
audit_three (Err (MemberCapture name p flaw)) is = absurd is
audit_three (Err (MemberChanged name p at)) is = absurd is
audit_three (Err (Output p broke)) is = λ e. omega arith
audit_three (Err (TooLarge what)) is = λ e. omega arith
audit_three (Err (BadLine what n)) is = λ e. omega arith
audit_three (Err (Illegal r)) is = λ e. omega arith
audit_three (Err Read) is = λ e. omega arith
audit_three (Err Write) is = absurd is
audit_three (Err Memory) is = λ e. omega arith

-- ---- outputs
output_is : (manifest : Listed) (j : ℕ) → j < output_count manifest → IsOutput manifest.options manifest.tree manifest.prefix (output_name manifest j)
output_is manifest j low = (kind_at manifest j, (kind_is manifest j low).made, refl)

-- an output of a manifest is one of its topology
pub listed_is_output : (manifest : Listed) (options : Options) (t : Topology) → manifest.options ≡ options → manifest.prefix ≡ t.prefix → manifest.tree ≡ shape_of t.setup → (i : Id)
    → WritesListed manifest i → WritesOutput options t i
listed_is_output manifest options t same prefix tree i w = record {
  name = output_name manifest w.at;
  output =
      subst (λ (b : Options). IsOutput b (shape_of t.setup) t.prefix (output_name manifest w.at)) same
      (subst (λ (p : List ℕ). IsOutput manifest.options (shape_of t.setup) p (output_name manifest w.at)) prefix
      (subst (λ (s : Shape). IsOutput manifest.options s manifest.prefix (output_name manifest w.at)) tree (output_is manifest w.at w.within)));
  writes = w.writes;
}

-- captures are opened, and then these again and outputs
pub opened_for : (manifest : Listed) (options : Options) (t : Topology) (f : Files) (a b c : ℕ → Id) → manifest.options ≡ options → manifest.prefix ≡ t.prefix → manifest.tree ≡ shape_of t.setup
    → AreAllGood t.captures f → Opens (ReadsCapture t.captures) a b → Opens (IsOfRun t.captures manifest) b c → Opens (IsOpenedFor options t f) a c
opened_for manifest options t f a b c same prefix tree good read played =
    opens_then (IsOpenedFor options t f) a b c
    (opens_weaker (ReadsCapture t.captures) (IsOpenedFor options t f) a b (λ i reads. inl reads) read)
    (opens_weaker (IsOfRun t.captures manifest) (IsOpenedFor options t f) b c (λ i opened. elim opened [
      | inl reads ↦ inl reads
      | inr writes ↦ inr (good, listed_is_output manifest options t same prefix tree i writes)
    ]) played)

-- ---- by the status
-- nothing is opened
pub opens_by_none : (tells : Type 0) (a : Option Ask) (f : Files) (status : ℕ) (ids : ℕ → Id) → ((name : List ℕ) → a ≢ Some (Check name)) → ((name : List ℕ) → a ≢ Some (Audit name)) → OpensBy tells status a f ids ids
opens_by_none tells a f status ids not_check not_audit = record {
  nothing = λ e j. refl;
  made = λ number e j. refl;
  topology = λ e. opens_none _ ids;
  checked = λ name e. absurd (not_check name e);
  audited = λ name e. absurd (not_audit name e);
  reads = λ n0 n1 n6 n7 n10. opens_none _ ids;
  wanted = λ t n0 n1 n6 n7 n10. opens_none _ ids;
  only = λ t. opens_none _ ids;
}

module _ (tells : Type 0) (f : Files) (name : List ℕ) (a b : ℕ → Id) (read : Opens (IsReadingOf name) a b) where
  -- the topology alone
  pub check_opens : (status : ℕ) → OpensBy tells status (Some (Check name)) f a b
  check_opens status = record {
    nothing = λ e. absurd (cc);
    made = λ number e. absurd (cc);
    topology = λ e. read;
    checked = λ n e. read;
    audited = λ n e. absurd (cc);
    reads = λ n0 n1 n6 n7 n10. opens_weaker _ _ a b (λ i r. record { given = r.given; reads = r.reads }) read;
    wanted = λ t n0 n1 n6 n7 n10. opens_weaker _ _ a b (λ i r. inl r) read;
    only = λ t. opens_weaker _ _ a b (λ i r. inl (inl r)) read;
  }

  -- the topology alone, since it is refused, or what is audited too
  pub audit_refused_opens : (status : ℕ) → OpensBy tells status (Some (Audit name)) f a b
  audit_refused_opens status = record {
    nothing = λ e. absurd (cc);
    made = λ number e. absurd (cc);
    topology = λ e. read;
    checked = λ n e. absurd (cc);
    audited = λ n e. opens_weaker _ _ a b (λ i r. record { given = r.given; reads = r.reads }) read;
    reads = λ n0 n1 n6 n7 n10. opens_weaker _ _ a b (λ i r. record { given = r.given; reads = r.reads }) read;
    wanted = λ t n0 n1 n6 n7 n10. opens_weaker _ _ a b (λ i r. inl r) read;
    only = λ t. opens_weaker _ _ a b (λ i r. inl (inl r)) read;
  }

  pub opens_by_audit : (o : Outcome) (t : Topology) (c : ℕ → Id) → (tells → HoldsTopology name f t) → IfErr o IsOfAudit → Opens (ReadsEvidence (scope_of t)) b c
      → OpensBy tells (status_of o) (Some (Audit name)) f a c
  opens_by_audit o t c holds causes opened = record {
    nothing = λ e. absurd (cc);
    made = λ number e. absurd (cc);
    topology = λ e. absurd (audit_three o causes e);
    checked = λ n e. absurd (cc);
    audited = λ n e. all;
    reads = λ n0 n1 n6 n7 n10. all;
    wanted = λ told n0 n1 n6 n7 n10. wants told;
    only = λ told. opens_weaker _ _ a c (λ i r. inl r) (wants told);
  }
    where
      all : Opens IsReading a c
      all = opens_then IsReading a b c (opens_weaker _ _ a b (λ i r. record { given = r.given; reads = r.reads }) read) (opens_weaker _ _ b c (λ i r. reads_evidence (scope_of t) i r) opened)

      wants : tells → Opens (IsWanted (Some (Audit name)) f) a c
      wants told = opens_then _ a b c (opens_weaker _ _ a b (λ i r. inl r) read) (opens_weaker _ _ b c (λ i r. inr (record { topology = t; holds = holds told; evidence = r })) opened)

  module _ (options : Options) where
    -- the topology alone, since it is refused
    pub run_refused_opens : (status : ℕ) → OpensBy tells status (Some (Run name options)) f a b
    run_refused_opens status = record {
      nothing = λ e. absurd (cc);
      made = λ number e. absurd (cc);
      topology = λ e. read;
      checked = λ n e. absurd (cc);
      audited = λ n e. absurd (cc);
      reads = λ n0 n1 n6 n7 n10. opens_weaker _ _ a b (λ i r. record { given = r.given; reads = r.reads }) read;
      wanted = λ t n0 n1 n6 n7 n10. opens_weaker _ _ a b (λ i r. inl r) read;
      only = λ t. opens_weaker _ _ a b (λ i r. inl (inl r)) read;
    }

    -- the topology, its captures, and its outputs
    pub opens_by_run : (o : Outcome) (t : Topology) (g : Files) (c : ℕ → Id) → (tells → HoldsTopology name f t) → g ≡ f → IfErr o IsOfPlaying
        → IfErr o (λ x. IsOfPlay x ⊎ Opens (ReadsCapture t.captures) b c)
        → (tells → Opens (IsOpenedFor options t g) b c)
        → OpensBy tells (status_of o) (Some (Run name options)) f a c
    opens_by_run o t g c holds same causes early played = record {
      nothing = λ e. absurd (cc);
      made = λ number e. absurd (cc);
      topology = λ e. absurd (not_three o causes e);
      checked = λ n e. absurd (cc);
      audited = λ n e. absurd (cc);
      reads = λ n0 n1 n6 n7 n10.
          early_end o _
          (opens_on o IsReading (ReadsCapture t.captures) a b c (opens_weaker _ _ a b (λ i r. record { given = r.given; reads = r.reads }) read)
          (λ i r. record { given = r.reads.given; reads = r.reads.reads }) early)
          n0 n1 n6 n7 n10;
      wanted = λ told n0 n1 n6 n7 n10.
          early_end o _
          (opens_on o _ (ReadsCapture t.captures) a b c (opens_weaker _ _ a b (λ i r. inl r) read)
          (λ i r. inr (record { topology = t; holds = holds told; capture = r })) early)
          n0 n1 n6 n7 n10;
      only = λ told.
          opens_then _ a b c (opens_weaker _ _ a b (λ i r. inl (inl r)) read)
          (opens_weaker _ _ b c (λ i opened. elim opened [
            | inl r ↦ inl (inr (record { topology = t; holds = holds told; capture = r }))
            | inr made ↦ inr (record {
              topology = t;
              ready = record { holds = holds told; good = subst (λ (k : Files). AreAllGood t.captures k) same made.0 };
              output = made.1;
            })
          ]) (played told));
    }

-- the status is that of the outcome, or 1 or 7
pub opens_by_status : (tells : Type 0) (asked : Option Ask) (f : Files) (status : ℕ) (o : Outcome) (a b : ℕ → Id) → (status ≢ 1 → status ≢ 7 → status ≡ status_of o)
    → OpensBy tells (status_of o) asked f a b → OpensBy tells status asked f a b
opens_by_status tells asked f status o a b is opens = record {
  nothing = opens.nothing;
  made = opens.made;
  topology = λ e. opens.topology (sym (is (λ x. omega arith) (λ x. omega arith)) ∙ e);
  checked = opens.checked;
  audited = opens.audited;
  reads = λ n0 n1 n6 n7 n10. let same = is n1 n7 in opens.reads (λ e. n0 (same ∙ e)) (λ e. n1 (same ∙ e)) (λ e. n6 (same ∙ e)) (λ e. n7 (same ∙ e)) (λ e. n10 (same ∙ e));
  wanted = λ t n0 n1 n6 n7 n10. let same = is n1 n7 in opens.wanted t (λ e. n0 (same ∙ e)) (λ e. n1 (same ∙ e)) (λ e. n6 (same ∙ e)) (λ e. n7 (same ∙ e)) (λ e. n10 (same ∙ e));
  only = opens.only;
}
