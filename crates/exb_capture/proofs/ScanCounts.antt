-- What is told of the records that were taken.
use Rattle.std.proofs.Common.{◌≡◌, ◌<◌, ◌+◌, ◌-◌, ◌*◌, ◌^◌, ℕ, Option, List, [], ◌∷◌, ◌++◌, length, Some, None, refl, ap, sym, ◌∙◌, arith, length-append}
use Rattle.std.specs.Prelude.{min, IfSome}
use Rattle.std.specs.Option.{option_or}
use Rattle.exb_model.specs.Input.{Record}
use Rattle.exb_capture.specs.declared.scans.Scanned.{Scanned}
use Rattle.exb_capture.specs.declared.capture_file.CaptureFile.{CaptureFile}
use Rattle.exb_capture.specs.CaptureFiles.{IsSound, HasRead, IsWhole, ComesNext, next_of}
use Rattle.exb_capture.specs.Scans.{HasCounted, IsScanned, first_time, or_this}

pub none_counted : (bytes : List ℕ) (f : CaptureFile) → HasRead bytes [] f → HasCounted bytes f (record { bytes = 0; records = 0; first = None })
none_counted bytes f h = record { taken = []; read = h; records = refl; first = refl }

pub or_is : (first : Option ℕ) (m : ℕ) → option_or first (Some m) ≡ or_this first m
or_is None m = refl
or_is (Some k) m = refl

first_on : (xs : List Record) (x : Record) (m : ℕ) → x.time ≡ m → or_this (first_time xs) m ≡ first_time (xs ++ x ∷ [])
first_on [] x m e = ap Some (sym e)
first_on (y ∷ ys) x m e = refl

-- the time of the first one is within the same limit
pub first_in_time : (first : Option ℕ) (m : ℕ) → IfSome first (λ k. k < 2 ^ 32 * 1_000_000_000) → m < 2 ^ 32 * 1_000_000_000 → IfSome (or_this first m) (λ k. k < 2 ^ 32 * 1_000_000_000)
first_in_time None m had low = low
first_in_time (Some k) m had low = had

pub one_counted : (bytes : List ℕ) (f g : CaptureFile) (s t : Scanned) (m : ℕ) → HasCounted bytes f s → ComesNext m f
    → ((xs : List Record) (x : Record) → next_of f ≡ Some x → HasRead bytes xs f → HasRead bytes (xs ++ x ∷ []) g) → IsSound g
    → t.records ≡ min (s.records + 1) (2 ^ 64 - 1) → t.first ≡ or_this s.first m → HasCounted bytes g t
one_counted bytes f g s t m c next passes sound records first =
    let x = next.0 in
    let read = passes c.taken x next.1 c.read in
    let size : length (c.taken ++ x ∷ []) ≡ length c.taken + 1 = length-append c.taken (x ∷ []) in
    record {
      taken = c.taken ++ x ∷ [];
      read = read;
      records = omega (arith, records, c.records, size, read.few, sound.most, sound.small);
      first = first ∙ ap (λ o. or_this o m) c.first ∙ first_on c.taken x m next.2;
    }

pub all_counted : (bytes : List ℕ) (f g : CaptureFile) (s : Scanned) (got limit : ℕ) (c : HasCounted bytes f s) → IsWhole bytes c.taken g → got ≡ g.got → g.limit ≡ limit
    → IsScanned limit bytes (record s { bytes = got })
all_counted bytes f g s got limit c whole is most = record {
  small = omega (arith, whole.small, most);
  records = c.taken;
  read = whole.records;
  tells = λ i. record { bytes = (is ∙ whole.size) i; records = c.records i; first = c.first i };
}
