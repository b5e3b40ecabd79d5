-- The parts of what is asked for make the whole.
use Rattle.std.proofs.Common.{◌≡◌, ◌⊎◌, inl, inr, ℕ, List, Option, Some, None, Ok, Err, ap, sym, refl, subst}
use Rattle.std.specs.Prelude.{IfOk, IfErr, IsErrOf, string_bytes}
use Rattle.exb_make.specs.GeneratedInputs.{made}
use Rattle.exb_model.specs.Input.{Eager}
use Rattle.exb_model.specs.Setup.{shape_of, limits_of}
use Rattle.exb_model.specs.Tree.{Shape}
use Rattle.exb_capacity.specs.Lines.{lines_of}
use Rattle.exb_capacity.specs.NeededNumbers.{needs_of}
use Rattle.exb_shelf.specs.Files.{Files, SameFiles}
use Rattle.exb_topology.specs.declared.topology.Topology.{Topology}
use Rattle.exb_cli.specs.declared.invocations.Options.{Options}
use Rattle.exb_cli.specs.CommandLines.{Run, Check, Make, Audit}
use Rattle.exb_inputs.specs.declared.fault.Fault.{Fault}
use Rattle.exb_inputs.specs.declared.fault.Fault.TheVariants.{Usage, Read, Write, Memory}
use Rattle.exb_inputs.specs.Inputs.{input_of}
use Rattle.exb_run.specs.Outputs.{AreFrontsOf, IsPlayed}
use Rattle.exb_outputs.specs.OutputNames.{OnlyOutputs}
use Rattle.exb_inputs.specs.CaptureChecks.{AreAllGood, FirstFault}
use Rattle.exb_inputs.specs.FaultPhases.{IsOfAudit, IsOfTopology, IsOfPlaying, IsOfPlay}
use Rattle.exb_run.specs.PartialOutputs.{LeavesParts}
use Rattle.exb_run.specs.Answers.{AreFrontsIn, IsDone, IsFailure, OnlyAsked, Stops, eager_summary, mode_for}
use Rattle.exb_inputs.specs.Answers.{HoldsTopology, IsRefused}
use Rattle.exb_audit_files.specs.Audits.{IsFoundLegal, StopsAudit}
use Rattle.exb_audit_files.specs.Scopes.{scope_of}
use Rattle.exb_audit_files.proofs.UniqueEnd.{legal_not, stops_once}
use Rattle.exb_run.specs.Outcomes.{CameOut, IsOfMaking}
use Rattle.exb_run.specs.SuccessLines.{IsLegalLine}
use Rattle.exb_outputs.specs.Counts.{IsSummary}
use Rattle.exb_inputs.proofs.UniqueTopology.{holds_once, shape_same, prefix_same}
use Rattle.exb_inputs.proofs.Outcomes.{Outcome}
use Rattle.exb_run.proofs.Reports.{run_makes}
use Rattle.exb_run.proofs.UniqueFault.{stops_of}
use Rattle.exb_inputs.proofs.UniqueRefusal.{refused_once, held_not, first_of}

-- ---- the words are not accepted
pub came_unaccepted : (tells : Type 0) (f : Files) → CameOut tells None (Err Usage) f f
came_unaccepted tells f = record {
  unaccepted = λ none. refl;
  done = λ t. tt;
  says = tt;
  cause = λ t. inl refl;
  stops = λ t fault is. inl (ap Err (sym is));
  can_come = refl;
  early = inr (λ n. refl);
  read_only = λ other n. refl;
  stopped = λ t fault is n. refl;
  others = λ t n. refl;
  fronts = λ t. tt;
  parts = λ t n. refl;
}

-- ---- the topology is not taken
-- no file has changed
fronts_same : (name : List ℕ) (seed : Option ℕ) (f g : Files) → SameFiles f g → AreFrontsIn seed name f g
fronts_same name None f g same = inl same
fronts_same name (Some n) f g same = tt

module _ (tells : Type 0) (name : List ℕ) (f g : Files) (x : Fault) (is : tells → IsRefused name (f name) x ⊎ (x ≡ Read) ⊎ (x ≡ Memory)) (causes : IsOfTopology x) (same : SameFiles f g) where
  ends : (fault : Fault) → IsRefused name (f name) x ⊎ (x ≡ Read) ⊎ (x ≡ Memory) → (IsRefused name (f name) x → x ≡ fault)
      → ◌≡◌ {A = Outcome} (Err x) (Err fault) ⊎ ◌≡◌ {A = Outcome} (Err x) (Err Read) ⊎ ◌≡◌ {A = Outcome} (Err x) (Err Memory)
  ends fault (inl refused) one = inl (ap Err (one refused))
  ends fault (inr (inl read)) one = inr (inl (ap Err read))
  ends fault (inr (inr memory)) one = inr (inr (ap Err memory))

  pub came_run_refused : (options : Options) → CameOut tells (Some (Run name options)) (Err x) f g
  came_run_refused options = record {
    unaccepted = λ none. absurd (cc);
    done = λ t. tt;
    says = tt;
    cause = λ t. elim (is t) [
      | inl refused ↦ inl (inl refused)
      | inr other ↦ inr (elim other [
        | inl read ↦ inl read
        | inr memory ↦ inr (inr memory)
      ])
    ];
    stops = λ t fault stops. ends fault (is t) (λ refused. elim stops [
      | inl refused' ↦ refused_once name (f name) x fault refused refused'
      | inr faulty ↦ absurd (held_not name f faulty.topology x faulty.holds refused)
    ]);
    can_come = inl causes;
    early = inr same;
    read_only = λ other. same;
    stopped = λ t fault stops. same;
    others = λ t u holds m none. same m;
    fronts = λ t. fronts_same name options.seed f g same;
    parts = λ t. inl same;
  }

  pub came_audit_refused : CameOut tells (Some (Audit name)) (Err x) f g
  came_audit_refused = record {
    unaccepted = λ none. absurd (cc);
    done = λ t. tt;
    says = tt;
    cause = λ t. elim (is t) [
      | inl refused ↦ inl (inl refused)
      | inr other ↦ inr other
    ];
    stops = λ t fault stops. ends fault (is t) (λ refused. elim stops [
      | inl refused' ↦ refused_once name (f name) x fault refused refused'
      | inr stopped ↦ absurd (held_not name f stopped.topology x stopped.holds refused)
    ]);
    can_come = inl causes;
    early = inr same;
    read_only = λ other. same;
    stopped = λ t fault stops. same;
    others = λ t. same;
    fronts = λ t. tt;
    parts = λ t. same;
  }

  pub came_check_refused : CameOut tells (Some (Check name)) (Err x) f g
  came_check_refused = record {
    unaccepted = λ none. absurd (cc);
    done = λ t. tt;
    says = tt;
    cause = λ t. elim (is t) [
      | inl refused ↦ inl refused
      | inr other ↦ inr other
    ];
    stops = λ t fault stops. ends fault (is t) (λ refused. refused_once name (f name) x fault refused stops);
    can_come = causes;
    early = inr same;
    read_only = λ other. same;
    stopped = λ t fault stops. same;
    others = λ t. same;
    fronts = λ t. tt;
    parts = λ t. same;
  }

-- ---- the topology is checked
pub came_checked : (tells : Type 0) (name : List ℕ) (f g : Files) (t : Topology) (o : Outcome) → (tells → HoldsTopology name f t) → SameFiles f g
    → IfOk o (λ lines. string_bytes lines ≡ lines_of (needs_of t.setup) (limits_of t.setup)) → IfErr o (λ x. x ≡ Memory) → CameOut tells (Some (Check name)) o f g
came_checked tells name f g t (Ok lines) holds same says memory = record {
  unaccepted = λ none. absurd (cc);
  done = λ told. record { topology = t; holds = holds told; says = says };
  says = (needs_of t.setup, limits_of t.setup, says);
  cause = λ told. tt;
  stops = λ told fault stops. absurd (held_not name f t fault (holds told) stops);
  can_come = tt;
  early = tt;
  read_only = λ other. same;
  stopped = λ told fault stops. same;
  others = λ told. same;
  fronts = λ told. tt;
  parts = λ told. same;
}
came_checked tells name f g t (Err x) holds same says memory = record {
  unaccepted = λ none. absurd (cc);
  done = λ told. tt;
  says = tt;
  cause = λ told. inr (inr memory);
  stops = λ told fault stops. absurd (held_not name f t fault (holds told) stops);
  can_come = subst IsOfTopology (sym memory) tt;
  early = inr same;
  read_only = λ other. same;
  stopped = λ told fault stops. same;
  others = λ told. same;
  fronts = λ told. tt;
  parts = λ told. same;
}

-- ---- what a run wrote is audited
module _ (tells : Type 0) (name : List ℕ) (f g : Files) (t : Topology) (holds : tells → HoldsTopology name f t) (same : SameFiles f g) where
  legal-by : (o : Outcome) → IfOk o (λ text. IsFoundLegal (scope_of t) f (string_bytes text)) → HoldsTopology name f t → IfOk o (λ text. IsDone (Some (Audit name)) f g (string_bytes text))
  legal-by (Ok text) legal held = record { topology = t; holds = held; legal = legal }
  legal-by (Err x) legal held = tt

  cause-of : (o : Outcome) → IfErr o (λ x. StopsAudit (scope_of t) f x ⊎ (x ≡ Read) ⊎ (x ≡ Memory)) → HoldsTopology name f t
      → IfErr o (λ x. Stops (Some (Audit name)) f x ⊎ IsFailure (Some (Audit name)) x)
  cause-of (Ok text) cause held = tt
  cause-of (Err x) (inl stops) held = inl (inr (record { topology = t; holds = held; stops = stops }))
  cause-of (Err x) (inr failure) held = inr failure

  -- what stops the audit is answered, since there is one such fault
  one-by : (o : Outcome) → IfOk o (λ text. IsFoundLegal (scope_of t) f (string_bytes text)) → IfErr o (λ x. StopsAudit (scope_of t) f x ⊎ (x ≡ Read) ⊎ (x ≡ Memory))
      → (y : Fault) → StopsAudit (scope_of t) f y → IsErrOf o y ⊎ IsErrOf o Read ⊎ IsErrOf o Memory
  one-by (Ok text) legal cause y stops = absurd (legal_not (scope_of t) f (string_bytes text) y legal stops)
  one-by (Err x) legal (inl stopped) y stops = inl (ap Err (stops_once (scope_of t) f x y stopped stops))
  one-by (Err x) legal (inr (inl read)) y stops = inr (inl (ap Err read))
  one-by (Err x) legal (inr (inr memory)) y stops = inr (inr (ap Err memory))

  audit-by : (y : Fault) → HoldsTopology name f t → Stops (Some (Audit name)) f y → StopsAudit (scope_of t) f y
  audit-by y held (inl refused) = absurd (held_not name f t y held refused)
  audit-by y held (inr stopped) = stops_of name f t y held stopped

  comes-audit : (o : Outcome) → IfErr o IsOfAudit → IfErr o (λ x. IsOfTopology x ⊎ IsOfAudit x)
  comes-audit (Ok text) is = tt
  comes-audit (Err x) is = inr is

  early-audit : (o : Outcome) → IfErr o (λ x. IsOfMaking x ⊎ SameFiles f g)
  early-audit (Ok text) = tt
  early-audit (Err x) = inr same

  pub came_audited : (o : Outcome) → (tells → IfOk o (λ text. IsFoundLegal (scope_of t) f (string_bytes text))) → IfOk o (λ text. IsLegalLine (string_bytes text))
      → (tells → IfErr o (λ x. StopsAudit (scope_of t) f x ⊎ (x ≡ Read) ⊎ (x ≡ Memory))) → IfErr o IsOfAudit → CameOut tells (Some (Audit name)) o f g
  came_audited o legal says cause causes = record {
    unaccepted = λ none. absurd (cc);
    done = λ told. legal-by o (legal told) (holds told);
    says = says;
    cause = λ told. cause-of o (cause told) (holds told);
    stops = λ told y stops. one-by o (legal told) (cause told) y (audit-by y (holds told) stops);
    can_come = comes-audit o causes;
    early = early-audit o;
    read_only = λ other. same;
    stopped = λ told y stops. same;
    others = λ told. same;
    fronts = λ told. tt;
    parts = λ told. same;
  }

-- ---- an input is made
pub came_made : (tells : Type 0) (number : ℕ) (f : Files) (o : Outcome) → IfOk o (λ line. string_bytes line ≡ eager_summary (made number)) → IfErr o (λ x. x ≡ Memory)
    → CameOut tells (Some (Make number)) o f f
came_made tells number f (Ok line) says memory = record {
  unaccepted = λ none. absurd (cc);
  done = λ told. says;
  says = says;
  cause = λ told. tt;
  stops = λ told fault stops. absurd stops;
  can_come = tt;
  early = tt;
  read_only = λ other n. refl;
  stopped = λ told fault stops n. refl;
  others = λ told n. refl;
  fronts = λ told. tt;
  parts = λ told n. refl;
}
came_made tells number f (Err x) says memory = record {
  unaccepted = λ none. absurd (cc);
  done = λ told. tt;
  says = tt;
  cause = λ told. inr memory;
  stops = λ told fault stops. absurd stops;
  can_come = memory;
  early = inr (λ n. refl);
  read_only = λ other n. refl;
  stopped = λ told fault stops n. refl;
  others = λ told n. refl;
  fronts = λ told. tt;
  parts = λ told n. refl;
}

-- ---- the topology is played
-- what comes of it, over the files before and after
pub record PlaysOut (tells : Type 0) (options : Options) (t : Topology) (o : Outcome) (old new : Files) : Type 0 where
  pub good : tells → IfOk o (λ line. AreAllGood t.captures old)
  pub done : tells → IfOk o (λ line. IsPlayed (mode_for options.seed) options (input_of t old) t.prefix old new (string_bytes line))
  pub says : IfOk o (λ line. IsSummary (string_bytes line))
  pub cause : tells → IfErr o (λ x. ((p : ℕ) × FirstFault t.captures old p x) ⊎ (x ≡ Read) ⊎ (x ≡ Write) ⊎ (x ≡ Memory))
  pub stops : tells → (p : ℕ) (x : Fault) → FirstFault t.captures old p x → IsErrOf o x ⊎ IsErrOf o Read ⊎ IsErrOf o Memory
  pub causes : IfErr o IsOfPlaying
  pub early : IfErr o (λ x. IsOfPlay x ⊎ SameFiles old new)
  pub stopped : tells → (p : ℕ) (x : Fault) → FirstFault t.captures old p x → SameFiles old new
  pub others : tells → OnlyOutputs options (shape_of t.setup) t.prefix old new
  pub fronts : tells → mode_for options.seed ≡ Eager → AreFrontsOf (input_of t old) t.prefix old new
  pub parts : tells → LeavesParts options t old new

module _ (tells : Type 0) (name : List ℕ) (options : Options) (t : Topology) (f h : Files) (holds : tells → HoldsTopology name f t) where
  done-by : (o : Outcome) → IfOk o (λ line. AreAllGood t.captures f) → IfOk o (λ line. IsPlayed (mode_for options.seed) options (input_of t f) t.prefix f h (string_bytes line)) → HoldsTopology name f t
      → IfOk o (λ line. IsDone (Some (Run name options)) f h (string_bytes line))
  done-by (Ok line) good played held = record { topology = t; ready = record { holds = held; good = good }; played = played }
  done-by (Err x) good played held = tt

  cause-by : (o : Outcome) → IfErr o (λ x. ((p : ℕ) × FirstFault t.captures f p x) ⊎ (x ≡ Read) ⊎ (x ≡ Write) ⊎ (x ≡ Memory)) → HoldsTopology name f t
      → IfErr o (λ x. Stops (Some (Run name options)) f x ⊎ IsFailure (Some (Run name options)) x)
  cause-by (Ok line) cause held = tt
  cause-by (Err x) (inl (p, first)) held = inl (inr (record { topology = t; holds = held; port = p; first = first }))
  cause-by (Err x) (inr failure) held = inr failure

  comes : (o : Outcome) → IfErr o IsOfPlaying → IfErr o (λ x. IsOfTopology x ⊎ IsOfPlaying x)
  comes (Ok line) is = tt
  comes (Err x) is = inr is

  -- the captures are at fault, since the topology isn't
  first-by : (x : Fault) → HoldsTopology name f t → Stops (Some (Run name options)) f x → (p : ℕ) × FirstFault t.captures f p x
  first-by x held (inl refused) = absurd (held_not name f t x held refused)
  first-by x held (inr faulty) = first_of name f t x held faulty

  others-by : OnlyOutputs options (shape_of t.setup) t.prefix f h → HoldsTopology name f t → OnlyAsked (Some (Run name options)) f h
  others-by only held u held-u =
      let e = holds_once name f t u held held-u in
      subst (λ (p : List ℕ). OnlyOutputs options (shape_of u.setup) p f h) (prefix_same t u e)
      (subst (λ (s : Shape). OnlyOutputs options s t.prefix f h) (shape_same t u e) only)

  fronts-by : (s : Option ℕ) → (mode_for s ≡ Eager → AreFrontsOf (input_of t f) t.prefix f h) → HoldsTopology name f t → AreFrontsIn s name f h
  fronts-by None fronts held = inr (record { topology = t; holds = held; fronts = fronts refl })
  fronts-by (Some n) fronts held = tt

  pub came_played : (o : Outcome) → PlaysOut tells options t o f h → CameOut tells (Some (Run name options)) o f h
  came_played o out = record {
    unaccepted = λ none. absurd (cc);
    done = λ told. done-by o (out.good told) (out.done told) (holds told);
    says = out.says;
    cause = λ told. cause-by o (out.cause told) (holds told);
    stops = λ told x stops. let found = first-by x (holds told) stops in out.stops told found.0 x found.1;
    can_come = comes o out.causes;
    early = run_makes o (SameFiles f h) out.early;
    read_only = λ other. absurd (other tt);
    stopped = λ told x stops. let found = first-by x (holds told) stops in out.stopped told found.0 x found.1;
    others = λ told. others-by (out.others told) (holds told);
    fronts = λ told. fronts-by options.seed (out.fronts told) (holds told);
    parts = λ told. inr (t, holds told, out.parts told);
  }
