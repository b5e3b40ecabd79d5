-- What reading counts, one call after the other.
use Rattle.std.proofs.Common.{◌≡◌, ◌∙◌, ℕ, Result, Ok, Err, ap, arith, sym, subst}
use Rattle.std.specs.Prelude.{IfErr}
use Rattle.exb_shelf.specs.FaultCounts.{after_open, after_read, one_more}
use Rattle.exb_shelf.specs.declared.shelf.OpenFault.{OpenFault}
use Rattle.exb_shelf.specs.declared.shelf.OpenFault.TheVariants as opening
use Rattle.exb_shelf.specs.declared.shelf.ShelfFault.{ShelfFault}
use Rattle.exb_shelf.specs.declared.shelf.ShelfFault.TheVariants as shelf
use Rattle.exb_shelf.specs.Shelf.{Faults, NoFewer, Rose}
use Rattle.exb_audit_files.specs.declared.port_files.FramesFault.{FramesFault}
use Rattle.exb_audit_files.specs.declared.port_files.FramesFault.TheVariants as frames
use Rattle.exb_audit_files.specs.declared.texts.LinesFault.{LinesFault}
use Rattle.exb_audit_files.specs.declared.texts.LinesFault.TheVariants as lines
use Rattle.exb_audit_files.specs.LineFeeds.{unopened, unread}
use Rattle.exb_audit_files.specs.FrameFiles.{CountsFrame, CountsFrames, CountsFramesOnce}
use Rattle.exb_audit_files.specs.Lines.{CountsLines, after_lines, after_lines_fault}

more_rises : (n : ℕ) → Rose n (one_more n)
more_rises n low = omega (arith, low)

-- a count that rose did so for this fault
pub counted_frames : {X : Type 0} (result : Result X FramesFault) (a b : Faults) → NoFewer a b → CountsFramesOnce result a b → CountsFrames result a b
counted_frames result a b fewer once = record {
  none_fell = fewer;
  missing = λ name e. subst (Rose a.missing) (sym (ap (λ (f : Faults). f.missing) (by_fault (frames.Missing name) e))) (more_rises a.missing);
  read = λ e. subst (Rose a.reads) (sym (ap (λ (f : Faults). f.reads) (by_fault frames.Read e))) (more_rises a.reads);
  once = once;
}
  where
    by_fault : (x : FramesFault) → result ≡ Err x → CountsFrame x a b
    by_fault x e = subst (λ (r : Result _ FramesFault). CountsFramesOnce r a b) e once

-- the fault of a later call
pub frames_from : {X Y : Type 0} (x : FramesFault) (a b c : Faults) → b ≡ a → CountsFrames {X = X} (Err x) b c → CountsFrames {X = Y} (Err x) a c
frames_from x a b c same counts = counted_frames (Err x) a c (subst (λ (f : Faults). NoFewer f c) same counts.none_fell) (subst (λ (f : Faults). CountsFrame x f c) same counts.once)

pub counted_lines : {X : Type 0} (result : Result X LinesFault) (a b : Faults) → NoFewer a b → b ≡ after_lines result a → CountsLines result a b
counted_lines result a b fewer once = record {
  none_fell = fewer;
  missing = λ e. subst (Rose a.missing) (sym (ap (λ (f : Faults). f.missing) (by_fault lines.Missing e))) (more_rises a.missing);
  read = λ e. subst (Rose a.reads) (sym (ap (λ (f : Faults). f.reads) (by_fault lines.Read e))) (more_rises a.reads);
  once = once;
}
  where
    by_fault : (x : LinesFault) → result ≡ Err x → b ≡ after_lines_fault x a
    by_fault x e = subst (λ (r : Result _ LinesFault). b ≡ after_lines r a) e once

pub lines_from : {X : Type 0} (x : LinesFault) (a b c : Faults) → NoFewer a c → b ≡ a → c ≡ after_lines_fault x b → CountsLines {X = X} (Err x) a c
lines_from x a b c fewer same is = counted_lines (Err x) a c fewer (is ∙ ap (after_lines_fault x) same)

-- a line that can't be read is no fault of the shelf
pub finish_counts : {X : Type 0} (P : ℕ → Type 0) (result : Result X LinesFault) (a b : Faults) → NoFewer a b → b ≡ a → IfErr result (λ fault. (n : ℕ) × (fault ≡ lines.Bad n) × P n) → CountsLines result a b
finish_counts P (Ok x) a b fewer same bad = counted_lines (Ok x) a b fewer same
finish_counts P (Err x) a b fewer same (n, is, told) = counted_lines (Err x) a b fewer (same ∙ ap (λ (y : LinesFault). after_lines_fault y a) (sym is))

pub unopened_counts : {X : Type 0} (fault : OpenFault) (a b : Faults) → NoFewer a b → b ≡ after_open {X = ℕ} (Err fault) a → CountsLines {X = X} (Err (unopened fault)) a b
unopened_counts opening.Missing a b fewer is = counted_lines (Err lines.Missing) a b fewer is
unopened_counts opening.Failed a b fewer is = counted_lines (Err lines.Read) a b fewer is
unopened_counts opening.Memory a b fewer is = counted_lines (Err lines.Memory) a b fewer is

pub unread_counts : (fault : ShelfFault) (a b : Faults) → b ≡ after_read {X = ℕ} (Err fault) a → b ≡ after_lines_fault (unread fault) a
unread_counts shelf.Failed a b is = is
unread_counts shelf.Memory a b is = is
