-- How the lines of faults begin.
use Rattle.std.proofs.Common.{◌≡◌, ◌≢◌, ◌<◌, ◌+◌, ◌/◌, ◌%◌, Bool, true, false, ◌++◌, ◌∙◌, ◌⊎◌, inl, inr, ℕ, List, [], ◌∷◌, get_or, length, take, ap, sym, refl, arith}
use Rattle.std.proofs.lemmas.List.{append-nil}
use Rattle.std.specs.Prelude.{if◌then◌else◌, codes, nat_lt}
use Rattle.std.specs.Fmt.{decimal}
use Rattle.exb_model.specs.Texts.{port_name}
use Rattle.exb_inputs.specs.Answers.{broken_text, capture_line, fault_line, member_capture_line, member_line, output_line}
use Rattle.exb_inputs.specs.declared.fault.AuditInput.{AuditInput}
use Rattle.exb_inputs.specs.declared.fault.AuditInput.TheVariants as part
use Rattle.exb_inputs.specs.declared.fault.Fault.{Fault}
use Rattle.exb_inputs.specs.declared.fault.Fault.TheVariants.{Usage, Missing, Topology as BadTopology, Capture, Changed, Net, Member, MemberCapture, MemberChanged, Output, TooLarge, BadLine, Illegal, Read, Write, Memory}

-- none is empty
pub some_line : (x : Fault) → 0 < length (fault_line x)
unfolding fault_line capture_line member_line member_capture_line output_line
some_line Usage = omega arith
some_line (Missing name) = omega arith
some_line (BadTopology fault) = omega arith
some_line (Capture p flaw) = omega arith
some_line (Changed p byte) = omega arith
some_line (Net fault) = omega arith
some_line (Member name fault) = omega arith
some_line (MemberCapture name p flaw) = omega arith
some_line (MemberChanged name p byte) = omega arith
some_line (Output p broke) = omega arith
some_line (TooLarge what) = omega arith
some_line (BadLine what n) = omega arith
some_line (Illegal r) = omega arith
some_line Read = omega arith
some_line Write = omega arith
some_line Memory = omega arith

-- nothing of a line is printed
nothing : (xs : List ℕ) → take 0 xs ≡ []
nothing [] = refl
nothing (x ∷ xs) = refl

pub none_printed : (before line : List ℕ) → before ≡ before ++ take 0 line
none_printed before line = sym (ap (λ (xs : List ℕ). before ++ xs) (nothing line) ∙ append-nil before)

-- a letter in which a line differs from that of want of memory
pub record Differs (x : Fault) : Type 0 where
  pub place : ℕ
  pub letter : ℕ
  pub low : place < length (fault_line Memory)
  pub is : get_or (fault_line Memory) place 0 ≡ letter
  pub other : get_or (fault_line x) place 0 ≢ letter

-- a port's name begins with b or x
port_letter : (p : ℕ) (rest : List ℕ) → get_or (port_name p ++ rest) 0 0 ≢ 111
port_letter p rest = by_test (nat_lt p 64)
  where
    by_test : (b : Bool) → get_or ((if b then codes "b" ++ decimal (p + 1) else codes "x" ++ decimal (p / 64) ++ codes "." ++ decimal (p % 64 + 1)) ++ rest) 0 0 ≢ 111
    by_test true e = let no : 98 ≡ 111 = e in omega arith
    by_test false e = let no : 120 ≡ 111 = e in omega arith

large_letter : (what : AuditInput) → Differs (TooLarge what)
unfolding fault_line
large_letter part.Captures = record { place = 6; letter = 111; low = omega arith; is = refl; other = λ e. (let no : 99 ≡ 111 = e in omega arith) }
large_letter part.Outputs = record { place = 9; letter = 32; low = omega arith; is = refl; other = λ e. (let no : 112 ≡ 32 = e in omega arith) }
large_letter part.Journal = record { place = 6; letter = 111; low = omega arith; is = refl; other = λ e. (let no : 106 ≡ 111 = e in omega arith) }
large_letter part.Trace = record { place = 6; letter = 111; low = omega arith; is = refl; other = λ e. (let no : 116 ≡ 111 = e in omega arith) }

bad_letter : (what : AuditInput) (n : ℕ) → Differs (BadLine what n)
unfolding fault_line
bad_letter part.Captures n = record { place = 6; letter = 111; low = omega arith; is = refl; other = λ e. (let no : 99 ≡ 111 = e in omega arith) }
bad_letter part.Outputs n = record { place = 9; letter = 32; low = omega arith; is = refl; other = λ e. (let no : 112 ≡ 32 = e in omega arith) }
bad_letter part.Journal n = record { place = 6; letter = 111; low = omega arith; is = refl; other = λ e. (let no : 106 ≡ 111 = e in omega arith) }
bad_letter part.Trace n = record { place = 6; letter = 111; low = omega arith; is = refl; other = λ e. (let no : 116 ≡ 111 = e in omega arith) }

-- it is told from all others by one
pub memory_line : (x : Fault) → (x ≡ Memory) ⊎ Differs x
unfolding fault_line capture_line member_line member_capture_line output_line
memory_line Usage = inr (record { place = 6; letter = 111; low = omega arith; is = refl; other = λ e. (let no : 117 ≡ 111 = e in omega arith) })
memory_line (Missing name) = inr (record { place = 6; letter = 111; low = omega arith; is = refl; other = λ e. (let no : 109 ≡ 111 = e in omega arith) })
memory_line (BadTopology fault) = inr (record { place = 6; letter = 111; low = omega arith; is = refl; other = λ e. (let no : 116 ≡ 111 = e in omega arith) })
memory_line (Capture p flaw) = inr (record { place = 6; letter = 111; low = omega arith; is = refl; other = λ e. (let no : 99 ≡ 111 = e in omega arith) })
memory_line (Changed p byte) = inr (record { place = 6; letter = 111; low = omega arith; is = refl; other = λ e. (let no : 99 ≡ 111 = e in omega arith) })
memory_line (Net fault) = inr (record { place = 6; letter = 111; low = omega arith; is = refl; other = λ e. (let no : 110 ≡ 111 = e in omega arith) })
memory_line (Member name fault) = inr (record { place = 6; letter = 111; low = omega arith; is = refl; other = λ e. (let no : 116 ≡ 111 = e in omega arith) })
memory_line (MemberCapture name p flaw) = inr (record { place = 6; letter = 111; low = omega arith; is = refl; other = λ e. (let no : 99 ≡ 111 = e in omega arith) })
memory_line (MemberChanged name p byte) = inr (record { place = 6; letter = 111; low = omega arith; is = refl; other = λ e. (let no : 99 ≡ 111 = e in omega arith) })
memory_line (Output p broke) = inr (record { place = 10; letter = 111; low = omega arith; is = refl; other = port_letter p (codes ": " ++ (broken_text broke ++ codes "\n")) })
memory_line (TooLarge what) = inr (large_letter what)
memory_line (BadLine what n) = inr (bad_letter what n)
memory_line (Illegal r) = inr (record { place = 6; letter = 111; low = omega arith; is = refl; other = λ e. (let no : 116 ≡ 111 = e in omega arith) })
memory_line Read = inr (record { place = 6; letter = 111; low = omega arith; is = refl; other = λ e. (let no : 114 ≡ 111 = e in omega arith) })
memory_line Write = inr (record { place = 6; letter = 111; low = omega arith; is = refl; other = λ e. (let no : 119 ≡ 111 = e in omega arith) })
memory_line Memory = inl refl

pub memory_begins : (get_or (fault_line Memory) 0 0 ≡ 101) × (0 < length (fault_line Memory))
unfolding fault_line
memory_begins = (refl, omega arith)
