-- What is printed of an outcome.
use Rattle.std.proofs.Common.{◌≡◌, ◌≢◌, ◌<◌, ◌++◌, ◌∙◌, ◌⊎◌, inl, inr, ℕ, zero, suc, List, [], ◌∷◌, Option, Some, None, Ok, Err, get_or, length, take, ap, sym, refl, arith, subst}
use Rattle.std.proofs.lemmas.Bool.{cases_eq}
use Rattle.std.proofs.lemmas.List.{append_cancel_left, length-take-le}
use Rattle.std.specs.Prelude.{IfOk, IfErr, string_bytes}
use Rattle.exb_model.specs.Texts.{Counts, summary_line}
use Rattle.exb_audit_files.specs.Audits.{legal_line}
use Rattle.exb_make.specs.GeneratedInputs.{made}
use Rattle.exb_model.specs.Setup.{Limits}
use Rattle.exb_capacity.specs.declared.needs.Needs.{Needs}
use Rattle.exb_capacity.specs.Lines.{lines_of}
use Rattle.exb_run.specs.Answers.{eager_summary}
use Rattle.exb_shelf.specs.Files.{AppendsFront, BreaksOff}
use Rattle.exb_shelf.specs.Shelf.{Faults}
use Rattle.exb_cli.specs.CommandLines.{Ask, Run, Check, Make, Audit, Net}
use Rattle.exb_inputs.specs.Answers.{fault_line, fault_status, line_of, status_of}
use Rattle.exb_inputs.specs.ShelfEffects.{CountsFaults}
use Rattle.exb_inputs.specs.declared.fault.Fault.{Fault}
use Rattle.exb_inputs.specs.declared.fault.Fault.TheVariants.{Memory}
use Rattle.exb_inputs.proofs.FaultLines.{memory_begins, memory_line}
use Rattle.exb_run.specs.Outcomes.{CanCome}
use Rattle.exb_run.specs.PrintedLines.{IsLineOf, Prints}
use Rattle.exb_run.specs.SuccessLines.{SaysDone}
use Rattle.exb_inputs.proofs.Outcomes.{Outcome}

-- a status that isn't that of the outcome is 1 or 7
late : (status own : ℕ) → (status ≢ 1 → status ≢ 7 → status ≡ own) → status ≢ own → (status ≡ 1) ⊎ (status ≡ 7)
late status own is other = elim (cases_eq status 1) [
  | inl one ↦ inl one
  | inr n1 ↦ elim (cases_eq status 7) [
    | inl seven ↦ inr seven
    | inr n7 ↦ absurd (other (is n1 n7))
  ]
]

-- the line of an outcome is one that can be printed
pub line_is : (o : Outcome) (a : Option Ask) (counted counts : Faults) → IfErr o (CanCome a) → IfOk o (λ text. SaysDone a (string_bytes text)) → CountsFaults o counted counts
    → IsLineOf a counted counts (status_of o) (line_of o)
line_is (Ok text) a counted counts come says faults = inr (refl, says)
line_is (Err x) a counted counts come says faults =
    inl (x, come, record { missing = λ name e. faults.missing name (ap (λ (y : Fault). Err y) e); read = λ e. faults.read (ap (λ (y : Fault). Err y) e); write = λ e. faults.write (ap (λ (y : Fault). Err y) e) }, refl, refl)

pub prints_by : (o : Outcome) (a : Option Ask) (counted counts : Faults) (status : ℕ) (before after : List ℕ) → IfErr o (CanCome a) → IfOk o (λ text. SaysDone a (string_bytes text))
    → CountsFaults o counted counts → (status ≢ 1 → status ≢ 7 → status ≡ status_of o) → (status ≢ 1 → status ≢ 7 → after ≡ before ++ line_of o) → AppendsFront before after (line_of o)
    → (status ≢ status_of o → BreaksOff before after (line_of o)) → Prints a counted counts status before after
prints_by o a counted counts status before after come says faults is whole front short = record {
  own = status_of o;
  line = line_of o;
  is = line_is o a counted counts come says faults;
  late = late status (status_of o) is;
  whole = whole;
  front = front;
  short = short;
}

-- ---- the line of want of memory
-- a letter of a front is one of the text
front_letter : (k i : ℕ) (xs : List ℕ) → i < length (take k xs) → get_or xs i 0 ≡ get_or (take k xs) i 0
front_letter zero i [] low = absurd (omega arith)
front_letter zero i (x ∷ xs) low = absurd (omega arith)
front_letter (suc k) i [] low = absurd (omega arith)
front_letter (suc k) zero (x ∷ xs) low = refl
front_letter (suc k) (suc i) (x ∷ xs) low = front_letter k i xs (omega arith)

front_as : (before after line memory : List ℕ) → AppendsFront before after line → after ≡ before ++ memory → (i : ℕ) → i < length memory → get_or line i 0 ≡ get_or memory i 0
front_as before after line memory (k, is) whole i low =
    let same : take k line ≡ memory = append_cancel_left before (take k line) memory (sym is ∙ whole) in
    front_letter k i line (subst (λ (xs : List ℕ). i < length xs) (sym same) low) ∙ ap (λ (xs : List ℕ). get_or xs i 0) same

-- what says that something is done begins with another letter
lines_begin : (n : Needs) (l : Limits) → get_or (lines_of n l) 0 0 ≡ 99
unfolding lines_of
lines_begin n l = refl

summary_begins : (c : Counts) → get_or (summary_line c) 0 0 ≡ 97
unfolding summary_line
summary_begins c = refl

begins : (text line : List ℕ) (letter : ℕ) → text ≡ line → get_or line 0 0 ≡ letter → get_or text 0 0 ≡ 101 → letter ≡ 101
begins text line letter is first e = sym first ∙ sym (ap (λ (xs : List ℕ). get_or xs 0 0) is) ∙ e

done_letter : (a : Option Ask) (text : List ℕ) → SaysDone a text → get_or text 0 0 ≢ 101
done_letter None text says = absurd says
done_letter (Some (Run name options)) text (c, is) = λ e. let no : 97 ≡ 101 = begins text (summary_line c) 97 is (summary_begins c) e in omega (arith, no)
done_letter (Some (Net name counters)) text (c, is) = λ e. let no : 97 ≡ 101 = begins text (summary_line c) 97 is (summary_begins c) e in omega (arith, no)
done_letter (Some (Check name)) text (n, l, is) = λ e. let no : 99 ≡ 101 = begins text (lines_of n l) 99 is (lines_begin n l) e in omega (arith, no)
done_letter (Some (Audit name)) text (n, is) = λ e. let no : 108 ≡ 101 = begins text (legal_line n) 108 is refl e in omega (arith, no)
done_letter (Some (Make number)) text is = λ e. let no : 97 ≡ 101 = begins text (eager_summary (made number)) 97 is (summary_begins _) e in omega (arith, no)

-- a part isn't the whole
not_short : (before after line : List ℕ) → after ≡ before ++ line → BreaksOff before after line → ⊥
not_short before after line whole (k, low, part) =
    let same : take k line ≡ line = append_cancel_left before (take k line) line (sym part ∙ whole) in
    let long : k ≡ length line = sym (length-take-le k line (omega (arith, low))) ∙ ap length same in
    omega (arith, low, long)

pub memory_is_one : (o : Outcome) (a : Option Ask) (status : ℕ) (before after : List ℕ) → IfOk o (λ text. SaysDone a (string_bytes text)) → AppendsFront before after (line_of o)
    → (status ≢ status_of o → BreaksOff before after (line_of o)) → after ≡ before ++ fault_line Memory → status ≡ 1
memory_is_one (Ok text) a status before after says front short whole =
    absurd (done_letter a (string_bytes text) says (front_as before after (string_bytes text) (fault_line Memory) front whole 0 memory_begins.1 ∙ memory_begins.0))
memory_is_one (Err x) a status before after says front short whole = elim (memory_line x) [
  | inl memory ↦ elim (cases_eq status 1) [
    | inl one ↦ one
    | inr n1 ↦ absurd (not_short before after (fault_line Memory) whole
        (subst (λ (y : Fault). BreaksOff before after (fault_line y)) memory (short (λ e. n1 (e ∙ ap fault_status memory)))))
  ]
  | inr d ↦ absurd (d.other (front_as before after (fault_line x) (fault_line Memory) front whole d.place d.low ∙ d.is))
]
