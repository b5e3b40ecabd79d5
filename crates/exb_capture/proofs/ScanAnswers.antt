-- What is answered of a file that is read once, from its front on, and what is opened for it.
use Rattle.std.proofs.Common.{◌≡◌, ℕ, ◌+◌, ◌^◌, ◌<◌, ◌≤◌, true, false, List, Option, Some, None, Ok, Err, refl, ap, sym, subst, inl, inr, ◌∙◌, arith}
use Rattle.std.specs.Prelude.{◌⊎◌, IsErrOf, IsSome}
use Rattle.std.proofs.lemmas.Bool.{cases_eq, cases_lt}
use Rattle.exb_shelf.specs.declared.shelf.ShelfFault.{ShelfFault}
use Rattle.exb_shelf.specs.declared.shelf.ShelfFault.TheVariants as shelf
use Rattle.exb_shelf.specs.FaultCounts.{after_read}
use Rattle.exb_shelf.specs.Files.{bytes_of}
use Rattle.exb_shelf.specs.Shelf.{Faults, Id, IsReadingOf, Opens, Rose, reading}
use Rattle.exb_capture.specs.FaultCounts.{after_halt, after_looking, after_scan}
use Rattle.exb_capture.specs.declared.fault.FormatFault.{FormatFault}
use Rattle.exb_capture.specs.declared.scans.Scanned.{Scanned}
use Rattle.exb_capture.specs.declared.scans.ScanFault.{ScanFault}
use Rattle.exb_capture.specs.declared.scans.ScanFault.TheVariants.{Missing, Read}
use Rattle.exb_capture.specs.declared.scans.ScanFault.TheVariants as scan
use Rattle.exb_capture.specs.declared.capture_file.Halt.{Halt}
use Rattle.exb_capture.specs.declared.capture_file.Halt.TheVariants.{Memory, Failed, Broken, Large}
use Rattle.exb_capture.specs.CaptureFiles.{HaltsBy, MovesOn, halted}
use Rattle.exb_capture.specs.Scans.{IsScan, IsScanOf, IsScanned, refused}

halt_of : (limit : ℕ) (bytes : List ℕ) (halt : Halt) → HaltsBy bytes limit halt → IsScanOf limit bytes (Err (refused limit halt))
halt_of limit bytes Memory h = tt
halt_of limit bytes Failed h = tt
halt_of limit bytes (Broken fault) h = h
halt_of limit bytes Large h = (refl, h.0, h.1)

-- a file that wasn't opened
pub missing_told : (limit : ℕ) (file : Option (List ℕ)) → file ≡ None → IsScan limit file (Err Missing)
missing_told limit file is = subst (λ (o : Option (List ℕ)). IsScan limit o (Err Missing)) (sym is) (inl refl)

pub failed_told : (limit : ℕ) (file : Option (List ℕ)) → IsScan limit file (Err Read)
failed_told limit None = inr (inl refl)
failed_told limit (Some bytes) = tt

pub no_memory_told : (limit : ℕ) (file : Option (List ℕ)) → IsScan limit file (Err scan.Memory)
no_memory_told limit None = inr (inr refl)
no_memory_told limit (Some bytes) = tt

-- a file that wasn't read to its end
pub halt_told : (limit : ℕ) (file : Option (List ℕ)) (bytes : List ℕ) (halt : Halt) → IsSome file → bytes ≡ bytes_of file → HaltsBy bytes limit halt
    → IsScan limit file (Err (refused limit halt))
halt_told limit None bytes halt there is h = absurd (cc)
halt_told limit (Some all) bytes halt there is h = halt_of limit all halt (subst (λ b. HaltsBy b limit halt) is h)

-- a file that was read to its end
pub whole_told : (limit : ℕ) (file : Option (List ℕ)) (bytes : List ℕ) (s : Scanned) → IsSome file → bytes ≡ bytes_of file → IsScanned limit bytes s
    → IsScan limit file (Ok s)
whole_told limit None bytes s there is h = absurd (cc)
whole_told limit (Some all) bytes s there is h = subst (λ b. IsScanned limit b s) is h

-- ---- the shelf failed, or memory ran out
pub halted_fits : {X : Type 0} (fault : ShelfFault) → IsErrOf {T = X} (Err (halted fault)) Large → ⊥
halted_fits shelf.Failed e = cc
halted_fits shelf.Memory e = cc

pub halted_unbroken : {X : Type 0} (fault : ShelfFault) (broke : FormatFault) → IsErrOf {T = X} (Err (halted fault)) (Broken broke) → ⊥
halted_unbroken shelf.Failed broke e = cc
halted_unbroken shelf.Memory broke e = cc

pub halted_reads : {X : Type 0} (fault : ShelfFault) → IsErrOf {T = X} (Err (halted fault)) Failed → fault ≡ shelf.Failed
halted_reads shelf.Failed e = refl
halted_reads shelf.Memory e = absurd (cc)

pub halted_counts : (fault : ShelfFault) (f : Faults) → after_read {X = ℕ} (Err fault) f ≡ after_looking {X = Unit {0}} (Err (halted fault)) f
halted_counts shelf.Failed f = refl
halted_counts shelf.Memory f = refl

-- ---- what is counted there
by_halt : (limit : ℕ) (halt : Halt) (f : Faults) → after_scan {X = Scanned} (Err (refused limit halt)) f ≡ after_halt halt f
by_halt limit Memory f = refl
by_halt limit Failed f = refl
by_halt limit (Broken fault) f = refl
by_halt limit Large f = refl

pub halt_counts : (limit : ℕ) (halt : Halt) (e : ScanFault) (f : Faults) → e ≡ refused limit halt → after_scan {X = Scanned} (Err e) f ≡ after_halt halt f
halt_counts limit halt e f is = subst (λ (x : ScanFault). after_scan {X = Scanned} (Err x) f ≡ after_halt halt f) (sym is) (by_halt limit halt f)

pub fault_is : (e other : ScanFault) → IsErrOf {T = Scanned} (Err e) other → e ≡ other
fault_is e other is = cc

-- a file that was opened isn't missing
pub halt_there : (limit : ℕ) (halt : Halt) → refused limit halt ≡ Missing → ⊥
halt_there limit Memory e = cc
halt_there limit Failed e = cc
halt_there limit (Broken fault) e = cc
halt_there limit Large e = cc

-- it is Read only where a read failed
pub halt_reads : (limit : ℕ) (halt : Halt) → refused limit halt ≡ Read → halt ≡ Failed
halt_reads limit Memory e = absurd (cc)
halt_reads limit Failed e = refl
halt_reads limit (Broken fault) e = absurd (cc)
halt_reads limit Large e = absurd (cc)

pub rose_later : (old mid new : ℕ) → old ≤ mid → mid ≤ new → Rose mid new → Rose old new
rose_later old mid new low high rose small = by_size (cases_lt (mid + 1) (2 ^ 64))
  where
    by_size : (mid + 1 < 2 ^ 64) ⊎ (2 ^ 64 ≤ mid + 1) → old < new
    by_size (inl t) = omega (arith, low, rose t)
    by_size (inr t) = omega (arith, low, high, small, t)

-- ---- what is opened
-- what was opened to be read, with its place at the front
pub is_reading : (name : List ℕ) (i : Id) → i ≡ reading name 0 → IsReadingOf name i
is_reading name i is = record { given = ap (λ (k : Id). k.given) is; reads = ap (λ (k : Id). k.reads) is; named = ap (λ (k : Id). k.name) is }

-- it was opened, and then read on
pub opens_on : (name : List ℕ) (given mid ids : ℕ → Id) (id : ℕ) → (given id).given ≡ false → mid id ≡ reading name 0 → Opens (IsReadingOf name) given mid → MovesOn id mid ids → Opens (IsReadingOf name) given ids
opens_on name given mid ids id fresh is opens moves = record {
  fresh = λ j not_given now. by_id j not_given now (cases_eq j id);
  rises = λ i j was not_given now. opens.rises i j was not_given (known j now (cases_eq j id));
  kept = λ j was. moves.others j (λ e. let no : true ≡ false = sym was ∙ ap (λ k. (given k).given) e ∙ fresh in cc) ∙ opens.kept j was;
}
  where
    known : (j : ℕ) → (ids j).given ≡ true → (j ≡ id) ⊎ (j ≡ id → ⊥) → (mid j).given ≡ true
    known j now (inl e) = ap (λ (k : ℕ). (mid k).given) e ∙ ap (λ (i : Id). i.given) is
    known j now (inr other) = ap (λ (i : Id). i.given) (sym (moves.others j other)) ∙ now

    by_id : (j : ℕ) → (given j).given ≡ false → (ids j).given ≡ true → (j ≡ id) ⊎ (j ≡ id → ⊥) → IsReadingOf name (ids j)
    by_id j not_given now (inl e) =
        subst (λ k. IsReadingOf name (ids k)) (sym e)
        (moves.same name (is_reading name (mid id) is))
    by_id j not_given now (inr other) =
        subst (λ (i : Id). IsReadingOf name i) (sym (moves.others j other)) (opens.fresh j not_given (ap (λ (i : Id). i.given) (sym (moves.others j other)) ∙ now))
