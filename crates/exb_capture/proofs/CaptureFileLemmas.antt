-- What was read of a file, as more of it is read and taken.
use Rattle.std.proofs.Common.{◌≡◌, ◌<◌, ◌≤◌, ◌+◌, ◌-◌, ◌^◌, ℕ, Bool, true, false, List, [], ◌∷◌, ◌++◌, length, take, drop, Option, Some, None, Ok, Err, refl, ap, sym, subst, ◌∙◌, arith, length-append, length-drop, length-take, append_assoc, take-add}
use Rattle.std.specs.Prelude.{IfSome}
use Rattle.std.proofs.Math.Seq.{take-length}
use Rattle.std.proofs.lemmas.Bool.{false≢true}
use Rattle.std.proofs.lemmas.List.{append-nil, take-append-drop}
use Rattle.exb_model.specs.Input.{Record}
use Rattle.exb_capture.specs.Formats.{Capture, before, at_end, at_fault, whole}
use Rattle.exb_capture.specs.declared.fault.FormatFault.{FormatFault}
use Rattle.exb_capture.specs.declared.format.AnyFormat.{AnyFormat as State}
use Rattle.exb_capture.specs.declared.format.AnyFormat.TheVariants.{Unknown}
use Rattle.exb_capture.specs.Blocks.{most_held}
use Rattle.exb_capture.specs.Captures.{capture_front, capture_of, capture_records}
use Rattle.exb_capture.specs.ReaderMachine.{Reading, Step, Answer, Found, More, End, Faulty, unread, fed, asked, to_come, IsFirst}
use Rattle.exb_capture.specs.ReaderAnswers.{IsAheadIn}
use Rattle.exb_capture.proofs.CaptureLemmas.{captures_are_a_format}
use Rattle.exb_capture.proofs.FrontLemmas.{over_there}
use Rattle.exb_capture.proofs.PieceLaws.{same_coming}
use Rattle.exb_capture.proofs.FaultPlaces.{AnswersBy, IsAskedBy, asked_by, fails_on}
use Rattle.exb_capture.proofs.TurnLemmas.{asked_reads}
use Rattle.exb_capture.proofs.PrefixLaws.{asked_unsettled, asked_left, IsLeft, IsHeld, taken_by}
use Rattle.exb_capture.specs.declared.capture_file.CaptureFile.{CaptureFile}
use Rattle.exb_capture.specs.declared.format.RecordSpan.{RecordSpan}
use Rattle.exb_capture.specs.declared.capture_file.Halt.TheVariants.{Broken, Large}
use Rattle.exb_capture.specs.CaptureFiles.{IsSound, IsHeldIn, HasRead, IsWhole, HaltsBy, after, coming, next_of, seen_in, with_next, left_to_read}

-- ---- what a question answers of a capture
abbrev pub asked_of : CaptureFile → Step State
asked_of f = asked most_held capture_front f.ended f.reader

reads : (f : CaptureFile) (more : List ℕ) → (f.ended ≡ true → more ≡ [])
    → IsFirst (asked_of f).answer (asked_of f).left.begun (to_come capture_front (asked_of f).left more) (to_come capture_front f.reader more)
reads f more last = asked_reads most_held capture_front captures_are_a_format f.ended f.reader more last

leaves : (f : CaptureFile) → IsLeft most_held capture_front captures_are_a_format f.ended f.reader (asked_of f)
leaves f = asked_left most_held capture_front captures_are_a_format f.ended f.reader

-- ---- nothing was read
pub begun_sound : (id limit : ℕ) → limit < 2 ^ 64 → IsSound (record { id = id; reader = unread most_held Unknown; next = None; got = 0; limit = limit; ended = false })
begun_sound id limit small = record { most = omega arith; small = small; fits = omega arith; seen = tt; begun = omega arith; fails = tt }

pub begun_read : (bytes : List ℕ) (id limit : ℕ) → HasRead bytes [] (record { id = id; reader = unread most_held Unknown; next = None; got = 0; limit = limit; ended = false })
begun_read bytes id limit = record {
  within = omega arith;
  few = omega arith;
  ended = λ t. absurd (false≢true t);
  places = [];
  paired = refl;
  whole = λ more last. sym (over_there most_held capture_front captures_are_a_format Unknown 0 0 0 more (omega arith));
}

-- ---- a piece was read
fed_coming : (r : Reading State) (n : ℕ) (piece more : List ℕ) → to_come capture_front (fed n piece r) more ≡ to_come capture_front r (take n piece ++ more)
fed_coming r n piece more = same_coming capture_front r.stage r.place _ _ more (take n piece ++ more) r.owing r.begun _ _ (append_assoc r.held (take n piece) more)

unseen_coming : (f : CaptureFile) (more : List ℕ) → f.next ≡ None → coming f more ≡ to_come capture_front f.reader more
unseen_coming f more none = ap (λ o. with_next (seen_in o f.reader.held) f.reader.begun (to_come capture_front f.reader more)) none

unseen_held : (o : Option RecordSpan) (owing : ℕ) (held : List ℕ) → o ≡ None → IfSome o (IsHeldIn owing held)
unseen_held None owing held e = tt
unseen_held (Some s) owing held e = absurd (cc)

pub fed_sound : (f : CaptureFile) (n : ℕ) (piece : List ℕ) → f.next ≡ None → IsSound f → n ≤ length piece → f.got + n ≤ f.limit
    → IsSound (record f { reader = fed n piece f.reader; got = f.got + n })
fed_sound f n piece none s there fits = record {
  most = fits;
  small = s.small;
  fits = omega (arith, s.fits, length-append f.reader.held (take n piece), length-take n piece);
  seen = unseen_held f.next f.reader.owing (f.reader.held ++ take n piece) none;
  begun = omega (arith, s.begun);
  fails = fails_on f.got (f.got + n) f.reader.stage (omega arith) s.fails;
}

pub fed_read : (bytes : List ℕ) (xs : List Record) (f : CaptureFile) (n : ℕ) (piece : List ℕ) → f.next ≡ None → f.ended ≡ false → n ≤ length piece → take n piece ≡ take n (drop f.got bytes)
    → HasRead bytes xs f → HasRead bytes xs (record f { reader = fed n piece f.reader; got = f.got + n })
fed_read bytes xs f n piece none opened there is h =
    let part : List ℕ = take n (drop f.got bytes) in
    let size : length part ≡ n = sym (ap length is) ∙ omega (arith, length-take n piece, there) in
    let g : CaptureFile = record f { reader = fed n piece f.reader; got = f.got + n } in
    record {
      within = omega (arith, h.within, size, length-take n (drop f.got bytes), length-drop f.got bytes);
      few = omega (arith, h.few, length-append f.reader.held (take n piece), length-take n piece, there);
      ended = λ t. absurd (false≢true (sym opened ∙ t));
      places = h.places;
      paired = h.paired;
      whole = λ more last.
          ap (λ ys. capture_of (ys ++ more)) (take-add f.got n bytes)
          ∙ ap capture_of (append_assoc (take f.got bytes) part more)
          ∙ h.whole (part ++ more) (λ t. absurd (false≢true (sym opened ∙ t)))
          ∙ ap (after xs h.places) (unseen_coming f (part ++ more) none
          ∙ ap (λ ys. to_come capture_front f.reader (ys ++ more)) (sym is)
          ∙ sym (fed_coming f.reader n piece more)
          ∙ sym (unseen_coming g more none));
    }

pub fed_on : (bytes : List ℕ) (xs : List Record) (f : CaptureFile) (n k : ℕ) (piece : List ℕ) (r : Reading State) → r ≡ fed k piece f.reader → k ≡ n → f.next ≡ None → f.ended ≡ false → n ≤ length piece
    → take n piece ≡ take n (drop f.got bytes) → HasRead bytes xs f → HasRead bytes xs (record f { reader = r; got = f.got + n })
fed_on bytes xs f n k piece r is count none opened there part h =
    subst (λ (q : Reading State). HasRead bytes xs (record f { reader = q; got = f.got + n })) (sym (is ∙ ap (λ m. fed m piece f.reader) count)) (fed_read bytes xs f n piece none opened there part h)

pub fed_fits : (f : CaptureFile) (n k : ℕ) (piece : List ℕ) (r : Reading State) → r ≡ fed k piece f.reader → k ≡ n → f.next ≡ None → IsSound f → n ≤ length piece → f.got + n ≤ f.limit
    → IsSound (record f { reader = r; got = f.got + n })
fed_fits f n k piece r is count none s there fits =
    subst (λ (q : Reading State). IsSound (record f { reader = q; got = f.got + n })) (sym (is ∙ ap (λ m. fed m piece f.reader) count)) (fed_sound f n piece none s there fits)

-- ---- the end was told
pub ended_read : (bytes : List ℕ) (xs : List Record) (f : CaptureFile) → f.got ≡ length bytes → HasRead bytes xs f → HasRead bytes xs (record f { ended = true })
ended_read bytes xs f is h = record { within = h.within; few = h.few; ended = λ t. is; places = h.places; paired = h.paired; whole = λ more last. h.whole more (λ t. last refl) }

-- ---- it was asked what comes, and that is no record
more_first : (a : Answer) (p : ℕ) (left coming : Capture) → a ≡ More → IsFirst a p left coming → coming ≡ left
more_first a p left coming e first = subst (λ b. IsFirst b p left coming) e first

end_left : (a : Answer) (p : ℕ) (left coming : Capture) → a ≡ End → IsFirst a p left coming → coming ≡ left
end_left a p left coming e first = let both = subst (λ b. IsFirst b p left coming) e first in both.0 ∙ sym both.1

fault_left : (a : Answer) (fault : FormatFault) (p : ℕ) (left coming : Capture) → a ≡ Faulty fault → IsFirst a p left coming → coming ≡ left
fault_left a fault p left coming e first = let both = subst (λ b. IsFirst b p left coming) e first in both.0 ∙ sym both.1

abbrev pub left_of : CaptureFile → CaptureFile
left_of f = record f { reader = (asked_of f).left }

placed : (f : CaptureFile) → IsSound f → IsAskedBy f.got (asked_of f)
placed f s = asked_by most_held capture_front captures_are_a_format f.ended f.got f.reader (record { fits = s.fits; begun = s.begun; fails = s.fails })

-- a fault lies within what was read
pub fault_place : (f : CaptureFile) (fault : FormatFault) → IsSound f → (asked_of f).answer ≡ Faulty fault → fault.at ≤ f.got
fault_place f fault s e = subst (AnswersBy f.got) e (placed f s).0

pub asked_sound : (f : CaptureFile) → f.next ≡ None → IsSound f → IsSound (left_of f)
asked_sound f none s = record {
  most = s.most;
  small = s.small;
  fits = (leaves f).1 f.got s.fits;
  seen = unseen_held f.next (asked_of f).left.owing (asked_of f).left.held none;
  begun = (placed f s).1.begun;
  fails = (placed f s).1.fails;
}

pub asked_less : (f : CaptureFile) → left_to_read (left_of f) ≤ left_to_read f
asked_less f = omega (arith, (leaves f).0)

-- where nothing was taken, the same is still to come
passed_read : (bytes : List ℕ) (xs : List Record) (f : CaptureFile) → f.next ≡ None
    → ((more : List ℕ) → (f.ended ≡ true → more ≡ []) → to_come capture_front f.reader more ≡ to_come capture_front (asked_of f).left more)
    → HasRead bytes xs f → HasRead bytes xs (left_of f)
passed_read bytes xs f none same h = record {
  within = h.within;
  few = omega (arith, h.few, (leaves f).0);
  ended = h.ended;
  places = h.places;
  paired = h.paired;
  whole = λ more last. h.whole more last ∙ ap (after xs h.places) (unseen_coming f more none ∙ same more last ∙ sym (unseen_coming (left_of f) more none));
}

pub more_read : (bytes : List ℕ) (xs : List Record) (f : CaptureFile) → f.next ≡ None → (asked_of f).answer ≡ More → HasRead bytes xs f → HasRead bytes xs (left_of f)
more_read bytes xs f none e h = passed_read bytes xs f none (λ more last. more_first _ _ _ _ e (reads f more last)) h

pub end_read : (bytes : List ℕ) (xs : List Record) (f : CaptureFile) → f.next ≡ None → (asked_of f).answer ≡ End → HasRead bytes xs f → HasRead bytes xs (left_of f)
end_read bytes xs f none e h = passed_read bytes xs f none (λ more last. end_left _ _ _ _ e (reads f more last)) h

-- ---- a record was found
found_first : (a : Answer) (x : Record) (p : ℕ) (left coming : Capture) → a ≡ Found x → IsFirst a p left coming → coming ≡ before x p left
found_first a x p left coming e first = subst (λ b. IsFirst b p left coming) e first

-- with what was found
abbrev pub with_seen : CaptureFile → Reading State → RecordSpan → CaptureFile
with_seen f r s = record f { reader = r; next = Some s }

abbrev pub found_in : RecordSpan → List ℕ → Record
found_in s held = record { time = s.moment; bytes = take s.bytes (drop s.from held) }

found_held : (a : Answer) (x : Record) (r : Reading State) → a ≡ Found x → IsHeld a r → r.owing ≤ length r.held
found_held a x r e held = subst (λ b. IsHeld b r) e held

pub seen_sound : (f : CaptureFile) (s : RecordSpan) → IsSound f → (asked_of f).answer ≡ Found (found_in s (asked_of f).left.held) → IsAheadIn (asked_of f).left.held s.moment s.from s.bytes
    → IsSound (with_seen f (asked_of f).left s)
seen_sound f s sound e ahead = record {
  most = sound.most;
  small = sound.small;
  fits = (leaves f).1 f.got sound.fits;
  seen = record { there = ahead.there; in_time = ahead.in_time; short = ahead.short; whole = found_held (asked_of f).answer (found_in s (asked_of f).left.held) (asked_of f).left e (leaves f).2 };
  begun = (placed f sound).1.begun;
  fails = (placed f sound).1.fails;
}

taken_one : (a : Answer) (x : Record) → a ≡ Found x → taken_by a ≡ 16
taken_one a x e = ap taken_by e

pub seen_less : (f : CaptureFile) (s : RecordSpan) → f.next ≡ None → (asked_of f).answer ≡ Found (found_in s (asked_of f).left.held) → left_to_read (with_seen f (asked_of f).left s) ≤ left_to_read f
seen_less f s none e = omega (arith, (leaves f).0, taken_one (asked_of f).answer (found_in s (asked_of f).left.held) e)

pub seen_read : (bytes : List ℕ) (xs : List Record) (f : CaptureFile) (s : RecordSpan) → f.next ≡ None → (asked_of f).answer ≡ Found (found_in s (asked_of f).left.held)
    → HasRead bytes xs f → HasRead bytes xs (with_seen f (asked_of f).left s)
seen_read bytes xs f s none e h = record {
  within = h.within;
  few = omega (arith, h.few, (leaves f).0, taken_one (asked_of f).answer (found_in s (asked_of f).left.held) e);
  ended = h.ended;
  places = h.places;
  paired = h.paired;
  whole = λ more last.
      h.whole more last
      ∙ ap (after xs h.places) (unseen_coming f more none ∙ found_first _ (found_in s (asked_of f).left.held) _ _ _ e (reads f more last));
}

-- ---- a record was taken
abbrev pub taken : CaptureFile → CaptureFile
taken f = record f { next = None }

pub taken_sound : (f : CaptureFile) → IsSound f → IsSound (taken f)
taken_sound f s = record { most = s.most; small = s.small; fits = s.fits; seen = tt; begun = s.begun; fails = s.fails }

pub taken_less : (f : CaptureFile) (x : Record) → next_of f ≡ Some x → left_to_read (taken f) + 16 ≤ left_to_read f
taken_less f x e = by_next f.next e
  where
    by_next : (o : Option RecordSpan) → seen_in o f.reader.held ≡ Some x → left_to_read (taken f) + 16 ≤ left_to_read (record f { next = o })
    by_next None t = absurd (cc)
    by_next (Some s) t = omega arith

after_one_more : (xs : List Record) (ps : List ℕ) (x : Record) (p : ℕ) (rest : Capture) → after xs ps (before x p rest) ≡ after (xs ++ x ∷ []) (ps ++ p ∷ []) rest
after_one_more xs ps x p rest = λ i. record { records = sym (append_assoc xs (x ∷ []) rest.records) i; places = sym (append_assoc ps (p ∷ []) rest.places) i; fault = rest.fault }

pub taken_read : (bytes : List ℕ) (xs : List Record) (x : Record) (f : CaptureFile) → next_of f ≡ Some x → HasRead bytes xs f → HasRead bytes (xs ++ x ∷ []) (taken f)
taken_read bytes xs x f e h =
    let less = taken_less f x e in
    record {
      within = h.within;
      few = omega (arith, h.few, less, length-append xs (x ∷ []));
      ended = h.ended;
      places = h.places ++ f.reader.begun ∷ [];
      paired = omega (arith, h.paired, length-append xs (x ∷ []), length-append h.places (f.reader.begun ∷ []));
      whole = λ more last.
          h.whole more last
          ∙ ap (λ o. after xs h.places (with_next o f.reader.begun (to_come capture_front f.reader more))) e
          ∙ after_one_more xs h.places x f.reader.begun (to_come capture_front f.reader more);
    }

-- ---- what is told of the whole
after_end : (xs : List Record) (ps : List ℕ) → after xs ps at_end ≡ record { records = xs; places = ps; fault = None }
after_end xs ps = λ i. record { records = append-nil xs i; places = append-nil ps i; fault = None }

after_fault : (xs : List Record) (ps : List ℕ) (fault : FormatFault) → after xs ps (at_fault fault) ≡ record { records = xs; places = ps; fault = Some fault }
after_fault xs ps fault = λ i. record { records = append-nil xs i; places = append-nil ps i; fault = Some fault }

read_whole : (c : Capture) (xs : List Record) (ps : List ℕ) → c ≡ record { records = xs; places = ps; fault = None } → whole c ≡ Ok xs
read_whole c xs ps e = ap whole e

read_fault : (c : Capture) (xs : List Record) (ps : List ℕ) (fault : FormatFault) → c ≡ record { records = xs; places = ps; fault = Some fault } → whole c ≡ Err fault
read_fault c xs ps fault e = ap whole e

fault_read : (rs : List Record) (ps : List ℕ) (o : Option FormatFault) (fault : FormatFault) → whole (record { records = rs; places = ps; fault = o }) ≡ Err fault → o ≡ Some fault
fault_read rs ps None fault t = absurd (cc)
fault_read rs ps (Some first) fault t = let is : first ≡ fault = cc in ap Some is

end_first : (a : Answer) (p : ℕ) (left coming : Capture) → a ≡ End → IsFirst a p left coming → coming ≡ at_end
end_first a p left coming e first = (subst (λ b. IsFirst b p left coming) e first).0

fault_first : (a : Answer) (fault : FormatFault) (p : ℕ) (left coming : Capture) → a ≡ Faulty fault → IsFirst a p left coming → coming ≡ at_fault fault
fault_first a fault p left coming e first = (subst (λ b. IsFirst b p left coming) e first).0

all_taken : (bytes : List ℕ) (got : ℕ) → got ≡ length bytes → take got bytes ++ [] ≡ bytes
all_taken bytes got e = append-nil (take got bytes) ∙ ap (λ n. take n bytes) e ∙ take-length bytes

pub end_told : (bytes : List ℕ) (xs : List Record) (f : CaptureFile) → f.next ≡ None → IsSound f → HasRead bytes xs f → (asked_of f).answer ≡ End → IsWhole bytes xs f
unfolding capture_records
end_told bytes xs f none s h e =
    let size : f.got ≡ length bytes = h.ended ((leaves f).3 e) in
    let nothing : to_come capture_front f.reader [] ≡ at_end = end_first _ _ _ _ e (reads f [] (λ t. refl)) in
    record {
      records =
          read_whole (capture_of bytes) xs h.places
          (ap capture_of (sym (all_taken bytes f.got size)) ∙ h.whole [] (λ t. refl) ∙ ap (after xs h.places) (unseen_coming f [] none ∙ nothing) ∙ after_end xs h.places);
      size = size;
      small = omega (arith, size, s.most);
    }

-- where a fault comes next, it is that of all that follows
faulty : (bytes : List ℕ) (xs : List Record) (f : CaptureFile) (fault : FormatFault) → f.next ≡ None → HasRead bytes xs f → (asked_of f).answer ≡ Faulty fault
    → (more : List ℕ) → (f.ended ≡ true → more ≡ []) → capture_records (take f.got bytes ++ more) ≡ Err fault
unfolding capture_records
faulty bytes xs f fault none h e more last =
    read_fault (capture_of (take f.got bytes ++ more)) xs h.places fault
    (h.whole more last ∙ ap (after xs h.places) (unseen_coming f more none ∙ fault_first _ fault _ _ _ e (reads f more last)) ∙ after_fault xs h.places fault)

faulty_at : (ended : Bool) (bytes : List ℕ) (xs : List Record) (f : CaptureFile) (fault : FormatFault) → f.ended ≡ ended → f.next ≡ None → IsSound f → HasRead bytes xs f → (asked_of f).answer ≡ Faulty fault
    → HaltsBy bytes f.limit (Broken fault)
faulty_at true bytes xs f fault is none s h e =
    let size : f.got ≡ length bytes = h.ended is in
    (ap capture_records (sym (all_taken bytes f.got size)) ∙ faulty bytes xs f fault none h e [] (λ t. refl), λ long. absurd (omega (arith, size, s.most, long)))
faulty_at false bytes xs f fault is none s h e =
    let never : (more : List ℕ) → f.ended ≡ true → more ≡ [] = λ more t. absurd (false≢true (sym is ∙ t)) in
    let rest : List ℕ = drop f.got bytes in
    let part : List ℕ = take (f.limit - f.got) rest in
    let split : take f.limit bytes ≡ take f.got bytes ++ part = ap (λ n. take n bytes) (omega (arith, s.most)) ∙ take-add f.got (f.limit - f.got) bytes in (
      ap capture_records (sym (take-append-drop f.got bytes)) ∙ faulty bytes xs f fault none h e rest (never rest),
      λ long more b.
          ap (λ ys. capture_records (ys ++ more)) split ∙ ap capture_records (append_assoc (take f.got bytes) part more)
          ∙ faulty bytes xs f fault none h e (part ++ more) (never (part ++ more)),
    )

pub fault_told : (bytes : List ℕ) (xs : List Record) (f : CaptureFile) (fault : FormatFault) → f.next ≡ None → IsSound f → HasRead bytes xs f → (asked_of f).answer ≡ Faulty fault
    → HaltsBy bytes f.limit (Broken fault)
fault_told bytes xs f fault none s h e = faulty_at f.ended bytes xs f fault refl none s h e

-- where more bytes decide and no more may be read, no fault stands
large_at : (ended : Bool) (bytes : List ℕ) (xs : List Record) (f : CaptureFile) → f.ended ≡ ended → f.next ≡ None → IsSound f → HasRead bytes xs f → (asked_of f).answer ≡ More
    → f.got ≡ f.limit → f.limit < length bytes → HaltsBy bytes f.limit Large
unfolding capture_records
large_at true bytes xs f is none s h e full long = absurd (omega (arith, h.ended is, full, long))
large_at false bytes xs f is none s h e full long = (
  long,
  λ fault stands. (asked_unsettled most_held capture_front captures_are_a_format f.reader (ap (λ b. (asked most_held capture_front b f.reader).answer) (sym is) ∙ e)).fault fault
      (λ more b.
      let last : f.ended ≡ true → more ≡ [] = λ t. absurd (false≢true (sym is ∙ t)) in
      let read : capture_of (take f.limit bytes ++ more) ≡ after xs h.places (to_come capture_front f.reader more) =
      ap (λ n. capture_of (take n bytes ++ more)) (sym full) ∙ h.whole more last ∙ ap (after xs h.places) (unseen_coming f more none) in
      let c : Capture = capture_of (take f.limit bytes ++ more) in
      ap (λ (c : Capture). c.fault) (sym read) ∙ fault_read c.records c.places c.fault fault (stands more b)),
)

pub large_told : (bytes : List ℕ) (xs : List Record) (f : CaptureFile) → f.next ≡ None → IsSound f → HasRead bytes xs f → (asked_of f).answer ≡ More
    → f.got ≡ f.limit → f.limit < length bytes → HaltsBy bytes f.limit Large
large_told bytes xs f none s h e full long = large_at f.ended bytes xs f refl none s h e full long

-- ---- the record that was looked at
pub seen_held : (f : CaptureFile) (s : RecordSpan) → f.next ≡ Some s → IsSound f → IsHeldIn f.reader.owing f.reader.held s
seen_held f s e sound = subst (λ o. IfSome o (IsHeldIn f.reader.owing f.reader.held)) e sound.seen

pub seen_bytes : (f : CaptureFile) (s : RecordSpan) (x : Record) → f.next ≡ Some s → next_of f ≡ Some x → take s.bytes (drop s.from f.reader.held) ≡ x.bytes
seen_bytes f s x e t =
    let both : Some (found_in s f.reader.held) ≡ Some x = sym (ap (λ o. seen_in o f.reader.held) e) ∙ t in
    let same : found_in s f.reader.held ≡ x = cc in
    ap (λ (y : Record). y.bytes) same

pub seen_none : (f : CaptureFile) (x : Record) → f.next ≡ None → next_of f ≡ Some x → ⊥
seen_none f x e t = let no : None ≡ Some x = sym (ap (λ o. seen_in o f.reader.held) e) ∙ t in cc

pub seen_next : (f : CaptureFile) (s : RecordSpan) → f.next ≡ Some s → (x : Record) × (next_of f ≡ Some x) × (x.time ≡ s.moment)
seen_next f s e = (found_in s f.reader.held, ap (λ o. seen_in o f.reader.held) e, refl)

pub none_seen : (o : Option RecordSpan) → ((s : RecordSpan) → o ≡ Some s → ⊥) → o ≡ None
none_seen None never = refl
none_seen (Some s) never = absurd (never s refl)
