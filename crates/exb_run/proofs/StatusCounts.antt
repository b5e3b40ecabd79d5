-- What was counted by the end of a call, by its status.
use Rattle.std.proofs.Common.{◌≡◌, ◌≢◌, ◌⊎◌, ◌∙◌, inl, inr, ℕ, Ok, Err, refl, ap, sym, arith}
use Rattle.std.proofs.lemmas.Bool.{cases_eq}
use Rattle.exb_shelf.specs.FaultCounts.{missing_more}
use Rattle.exb_shelf.specs.Shelf.{Faults, Rose}
use Rattle.exb_inputs.specs.Answers.{status_of}
use Rattle.exb_inputs.specs.FaultCounts.{CountsOnce}
use Rattle.exb_inputs.specs.declared.fault.Fault.TheVariants.{Usage, Missing, Topology as BadTopology, Capture, Changed, Net as BadNet, Member as BadMember, MemberCapture, MemberChanged, Output, TooLarge, BadLine, Illegal, Read, Write, Memory}
use Rattle.exb_run.specs.StatusCounts.{CountedAt, CountedBy}
use Rattle.exb_inputs.proofs.Outcomes.{Outcome}

-- a status at which nothing is counted
nothing : (own : ℕ) (a b : Faults) → own ≢ 1 → own ≢ 5 → own ≢ 6 → own ≢ 7 → own ≢ 10 → b ≡ a → CountedAt own a b
nothing own a b n1 n5 n6 n7 n10 same = record {
  five = λ e. absurd (n5 e);
  six = λ e. absurd (n6 e);
  seven = λ e. absurd (n7 e);
  either = λ which. absurd (elim which [ inl e ↦ n1 e | inr e ↦ n10 e ]);
  others = λ m1 m5 m6 m7 m10. same;
}

-- by the answer of what was done
pub counted-at : (o : Outcome) (a b : Faults) → CountsOnce o a b → CountedAt (status_of o) a b
counted-at (Ok line) a b once = nothing 0 a b (λ e. omega arith) (λ e. omega arith) (λ e. omega arith) (λ e. omega arith) (λ e. omega arith) once
counted-at (Err Usage) a b once = nothing 2 a b (λ e. omega arith) (λ e. omega arith) (λ e. omega arith) (λ e. omega arith) (λ e. omega arith) once
counted-at (Err (Missing name)) a b once = record {
  five = λ e. once;
  six = λ e. absurd (omega arith);
  seven = λ e. absurd (omega arith);
  either = λ which. absurd (elim which [ inl e ↦ omega arith | inr e ↦ omega arith ]);
  others = λ m1 m5 m6 m7 m10. absurd (m5 refl);
}
counted-at (Err (BadTopology fault)) a b once = nothing 3 a b (λ e. omega arith) (λ e. omega arith) (λ e. omega arith) (λ e. omega arith) (λ e. omega arith) once
counted-at (Err (Capture p flaw)) a b once = nothing 4 a b (λ e. omega arith) (λ e. omega arith) (λ e. omega arith) (λ e. omega arith) (λ e. omega arith) once
counted-at (Err (Changed p byte)) a b once = record {
  five = λ e. absurd (omega arith);
  six = λ e. absurd (omega arith);
  seven = λ e. absurd (omega arith);
  either = λ which. once;
  others = λ m1 m5 m6 m7 m10. absurd (m10 refl);
}
counted-at (Err (BadNet fault)) a b once = nothing 3 a b (λ e. omega arith) (λ e. omega arith) (λ e. omega arith) (λ e. omega arith) (λ e. omega arith) once
counted-at (Err (BadMember name fault)) a b once = nothing 3 a b (λ e. omega arith) (λ e. omega arith) (λ e. omega arith) (λ e. omega arith) (λ e. omega arith) once
counted-at (Err (MemberCapture name p flaw)) a b once = nothing 4 a b (λ e. omega arith) (λ e. omega arith) (λ e. omega arith) (λ e. omega arith) (λ e. omega arith) once
counted-at (Err (MemberChanged name p at)) a b once = record {
  five = λ e. absurd (omega arith);
  six = λ e. absurd (omega arith);
  seven = λ e. absurd (omega arith);
  either = λ which. once;
  others = λ m1 m5 m6 m7 m10. absurd (m10 refl);
}
counted-at (Err (Output p broke)) a b once = nothing 4 a b (λ e. omega arith) (λ e. omega arith) (λ e. omega arith) (λ e. omega arith) (λ e. omega arith) once
counted-at (Err (TooLarge what)) a b once = nothing 4 a b (λ e. omega arith) (λ e. omega arith) (λ e. omega arith) (λ e. omega arith) (λ e. omega arith) once
counted-at (Err (BadLine what n)) a b once = nothing 12 a b (λ e. omega arith) (λ e. omega arith) (λ e. omega arith) (λ e. omega arith) (λ e. omega arith) once
counted-at (Err (Illegal r)) a b once = nothing 11 a b (λ e. omega arith) (λ e. omega arith) (λ e. omega arith) (λ e. omega arith) (λ e. omega arith) once
counted-at (Err Read) a b once = record {
  five = λ e. absurd (omega arith);
  six = λ e. once;
  seven = λ e. absurd (omega arith);
  either = λ which. absurd (elim which [ inl e ↦ omega arith | inr e ↦ omega arith ]);
  others = λ m1 m5 m6 m7 m10. absurd (m6 refl);
}
counted-at (Err Write) a b once = record {
  five = λ e. absurd (omega arith);
  six = λ e. absurd (omega arith);
  seven = λ e. once;
  either = λ which. absurd (elim which [ inl e ↦ omega arith | inr e ↦ omega arith ]);
  others = λ m1 m5 m6 m7 m10. absurd (m7 refl);
}
counted-at (Err Memory) a b once = record {
  five = λ e. absurd (omega arith);
  six = λ e. absurd (omega arith);
  seven = λ e. absurd (omega arith);
  either = λ which. once;
  others = λ m1 m5 m6 m7 m10. absurd (m1 refl);
}

-- no failure to read or to write where it isn't 6 or 7
none-hidden : (own : ℕ) (a b : Faults) → CountedAt own a b → own ≢ 6 → own ≢ 7 → (b.reads ≡ a.reads) × (b.writes ≡ a.writes)
none-hidden own a b at n6 n7 = elim (cases_eq own 5) [
  | inl five ↦ missing (at.five five)
  | inr n5 ↦ elim (cases_eq own 1) [
    | inl one ↦ maybe (at.either (inl one))
    | inr n1 ↦ elim (cases_eq own 10) [
      | inl ten ↦ maybe (at.either (inr ten))
      | inr n10 ↦ same (at.others n1 n5 n6 n7 n10)
    ]
  ]
]
  where
    same : b ≡ a → (b.reads ≡ a.reads) × (b.writes ≡ a.writes)
    same e = (ap (λ (f : Faults). f.reads) e, ap (λ (f : Faults). f.writes) e)

    missing : b ≡ missing_more a → (b.reads ≡ a.reads) × (b.writes ≡ a.writes)
    missing e = (ap (λ (f : Faults). f.reads) e, ap (λ (f : Faults). f.writes) e)

    maybe : (b ≡ a) ⊎ (b ≡ missing_more a) → (b.reads ≡ a.reads) × (b.writes ≡ a.writes)
    maybe (inl e) = same e
    maybe (inr e) = missing e

pub counted-by : (o : Outcome) (status : ℕ) (a b : Faults) (failed fails : ℕ) → (status ≢ 1 → status ≢ 7 → status ≡ status_of o) → (status ≡ 7 → status_of o ≢ 7 → Rose failed fails) → CountsOnce o a b → CountedBy status a b failed fails
counted-by o status a b failed fails is seven once = record {
  own = status_of o;
  late = λ other. elim (cases_eq status 1) [
    | inl one ↦ inl one
    | inr n1 ↦ elim (cases_eq status 7) [
      | inl e ↦ inr (e, seven e (λ h. other (e ∙ sym h)))
      | inr n7 ↦ absurd (other (is n1 n7))
    ]
  ];
  at = counted-at o a b once;
  none_hidden = λ n1 n6 n7. none-hidden (status_of o) a b (counted-at o a b once) (λ h. n6 (is n1 n7 ∙ h)) (λ h. n7 (is n1 n7 ∙ h));
}
