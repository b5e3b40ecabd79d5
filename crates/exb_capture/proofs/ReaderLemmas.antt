-- The parts of a turn make the turn.
use Rattle.std.proofs.Common.{◌≡◌, ◌≤◌, ℕ, Bool, List, length, take, drop, Option, Some, None, refl, ap, sym, ◌∙◌, cond, arith}
use Rattle.std.proofs.lemmas.Bool.{le-ltb}
use Rattle.exb_capture.specs.declared.format.RecordSpan.{RecordSpan}
use Rattle.exb_capture.specs.declared.fault.FormatFault.{FormatFault}
use Rattle.exb_capture.specs.declared.fault.Flaw.TheVariants.{Cut}
use Rattle.exb_capture.specs.declared.format.Front.{Front}
use Rattle.exb_capture.specs.Formats.{fault}
use Rattle.exb_capture.specs.Formats.{Front as Stood}
use Rattle.exb_capture.specs.Blocks.{most_held}
use Rattle.exb_capture.specs.ReaderMachine.{At, Reading, Step, Answers, Found, gone, over, at_last, turn_at, turn_of, turn}
use Rattle.exb_capture.specs.FieldRanges.{told}
use Rattle.exb_capture.specs.ReaderAnswers.{stage_of, Looks}

pub none_stage : {S : Type 0} (failed : Option FormatFault) (s : S) → ((f : FormatFault) → failed ≡ Some f → ⊥) → stage_of failed s ≡ At s
none_stage None s never = refl
none_stage (Some f) s never = absurd (never f refl)

-- where nothing is owed, a turn is what stands at the front
turn_is : {S : Type 0} (stands : S → List ℕ → Stood S) (ended : Bool) (r : Reading S) (s : S) → r.stage ≡ At s → (gone r).owing ≤ 0 → turn_at most_held ended (stands s (gone r).held) (gone r) ≡ turn most_held stands ended r
turn_is {S = S} stands ended r s st none =
    sym (ap (λ x. turn_of most_held stands ended x r) st
    ∙ ap (λ b. cond b (at_last most_held ended (fault Cut (gone r).begun) (gone r)) (turn_at most_held ended (stands s (gone r).held) (gone r))) (le-ltb 0 (gone r).owing none))

pub turned_at : {S : Type 0} (stands : S → List ℕ → Stood S) (ended : Bool) (r g l : Reading S) (s : S) (x : Front) → r.stage ≡ At s → g ≡ gone r → g.owing ≤ 0 → (look : Looks stands x s g l)
    → turn_at most_held ended (told x look.state g.held) g ≡ turn most_held stands ended r
turned_at {S = S} stands ended r g l s x st is none look =
    let owing = ap (λ (y : Reading S). y.owing) is in
    ap (λ y. turn_at most_held ended y g) look.shows.value
    ∙ ap (λ (y : Reading S). turn_at most_held ended (stands s y.held) y) is
    ∙ turn_is stands ended r s st (omega (arith, owing, none))

-- a state that is kept
pub same_state : {S : Type 0} (g l : Reading S) (s t : S) → l ≡ record g { stage = At t } → t ≡ s → g.stage ≡ At s → l ≡ g
same_state {S = S} g l s t is e st = is ∙ ap (λ u. record g { stage = u }) (ap At e ∙ sym st)

-- what is passed over
pub passed_over : {S : Type 0} (g l new : Reading S) (s t : S) (n : ℕ) → l ≡ record g { stage = At t } → ((u : S) → l.stage ≡ At u → new ≡ over n u l) → new ≡ over n t g
passed_over {S = S} g l new s t n is pass = pass t (ap (λ (y : Reading S). y.stage) is) ∙ ap (over n t) is

-- ---- the parts of equal readers
pub stage_is : {S : Type 0} (r x : Reading S) → r ≡ x → r.stage ≡ x.stage
stage_is {S = S} r x e = ap (λ (y : Reading S). y.stage) e

pub owing_is : {S : Type 0} (r x : Reading S) → r ≡ x → r.owing ≡ x.owing
owing_is {S = S} r x e = ap (λ (y : Reading S). y.owing) e

pub place_is : {S : Type 0} (r x : Reading S) → r ≡ x → r.place ≡ x.place
place_is {S = S} r x e = ap (λ (y : Reading S). y.place) e

pub held_is : {S : Type 0} (r x : Reading S) → r ≡ x → length r.held ≡ length x.held
held_is {S = S} r x e = ap (λ (y : Reading S). length y.held) e

pub found_is : {S : Type 0} (s : RecordSpan) (r x : Reading S) → r ≡ x
    → Answers (Found (record { time = s.moment; bytes = take s.bytes (drop s.from r.held) })) r ≡ Answers (Found (record { time = s.moment; bytes = take s.bytes (drop s.from x.held) })) x
found_is {S = S} s r x e = ap (λ (y : Reading S). Answers (Found (record { time = s.moment; bytes = take s.bytes (drop s.from y.held) })) y) e

pub answer_is : {S : Type 0} (a b : Step S) → a ≡ b → a.answer ≡ b.answer
answer_is {S = S} a b e = ap (λ (y : Step S). y.answer) e

pub left_is : {S : Type 0} (a b : Step S) → a ≡ b → a.left ≡ b.left
left_is {S = S} a b e = ap (λ (y : Step S). y.left) e
