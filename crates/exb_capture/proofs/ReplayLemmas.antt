-- What is given of a capture that is read again.
use Rattle.std.proofs.Common.{◌≡◌, ◌<◌, ◌≤◌, ◌+◌, ℕ, true, List, [], ◌∷◌, ◌++◌, length, drop, Option, Some, None, Result, Ok, Err, refl, ap, sym, subst, inl, inr, ◌∙◌, arith, length-append, length-drop, append_assoc}
use Rattle.std.specs.Prelude.{◌⊎◌, ◌≢◌, min, max, nat_lt, IsErrOf, IfSome, IfOk, IfNone}
use Rattle.std.proofs.lemmas.Bool.{cases_lt, ltb-true}
use Rattle.std.proofs.lemmas.List.{take-append-drop, append_cancel_left}
use Rattle.exb_model.specs.Input.{Record}
use Rattle.exb_capture.specs.Formats.{Capture, whole}
use Rattle.exb_capture.specs.declared.fault.FormatFault.{FormatFault}
use Rattle.exb_capture.specs.declared.format.RecordSpan.{RecordSpan}
use Rattle.exb_capture.specs.Captures.{capture_front, capture_of, capture_records}
use Rattle.exb_capture.specs.ReaderMachine.{to_come}
use Rattle.exb_capture.specs.declared.scans.Scanned.{Scanned}
use Rattle.exb_capture.specs.declared.capture_file.CaptureFile.{CaptureFile}
use Rattle.exb_capture.specs.declared.capture_file.Halt.{Halt}
use Rattle.exb_capture.specs.declared.capture_file.Halt.TheVariants as halt
use Rattle.exb_capture.specs.declared.replay.Replay.{Replay}
use Rattle.exb_capture.specs.declared.replay.ReplayFault.{ReplayFault}
use Rattle.exb_capture.specs.declared.replay.ReplayFault.TheVariants.{Changed}
use Rattle.exb_capture.specs.CaptureFiles.{IsSound, IsHeldIn, HasRead, IsWhole, HaltsBy, after, coming, next_of, seen_in, with_next}
use Rattle.exb_capture.specs.Replays.{comes_early, unread, BeginsWith, Disagrees, Breaks, Ends, GoesOn, ComesEarly, ComesAt, HasGiven, IsPlayed, IsReplaying}
use Rattle.exb_capture.specs.Scans.{first_time, scanned_of}

nil_of : {X : Type 0} (xs : List X) → length xs ≡ 0 → xs ≡ []
nil_of [] e = refl
nil_of (x ∷ xs) e = absurd (omega (arith, e))

-- ---- the records of the whole file
rest_of : (bytes : List ℕ) (xs : List Record) (f : CaptureFile) (h : HasRead bytes xs f) → capture_of bytes ≡ after xs h.places (coming f (drop f.got bytes))
rest_of bytes xs f h =
    let rest : List ℕ = drop f.got bytes in
    ap capture_of (sym (take-append-drop f.got bytes))
    ∙ h.whole rest (λ t. nil_of rest (omega (arith, length-drop f.got bytes, h.ended t)))

good_whole : (rs : List Record) (ps : List ℕ) (o : Option FormatFault) (xs : List Record) → whole (record { records = rs; places = ps; fault = o }) ≡ Ok xs → rs ≡ xs
good_whole rs ps None xs t = cc
good_whole rs ps (Some fault) xs t = absurd (cc)

pub good_records : (bytes : List ℕ) (xs : List Record) → capture_records bytes ≡ Ok xs → (capture_of bytes).records ≡ xs
unfolding capture_records
good_records bytes xs e = let c : Capture = capture_of bytes in good_whole c.records c.places c.fault xs e

-- where a record comes next behind some, these are the first records of the file
found_records : (bytes : List ℕ) (xs : List Record) (x : Record) (f : CaptureFile) → HasRead bytes xs f → next_of f ≡ Some x
    → (rest : List Record) × ((capture_of bytes).records ≡ xs ++ (x ∷ rest))
found_records bytes xs x f h e =
    let later : Capture = to_come capture_front f.reader (drop f.got bytes) in
    (later.records, ap (λ (c : Capture). c.records) (rest_of bytes xs f h) ∙ ap (λ o. xs ++ (with_next o f.reader.begun later).records) e)

-- the first record begins where the reader says
pub first_begins : (bytes : List ℕ) (x : Record) (f : CaptureFile) → HasRead bytes [] f → next_of f ≡ Some x → BeginsWith x f.reader.begun bytes
unfolding found_records
first_begins bytes x f h e =
    let later : Capture = to_come capture_front f.reader (drop f.got bytes) in
    record {
      others = later.records;
      records = (found_records bytes [] x f h e).1;
      further = later.places;
      places =
          ap (λ (c : Capture). c.places) (rest_of bytes [] f h) ∙ ap (λ ps. ps ++ (coming f (drop f.got bytes)).places) (nil_of h.places h.paired)
          ∙ ap (λ o. (with_next o f.reader.begun later).places) e;
    }

-- ---- a file that was checked never disagrees
pub never_disagrees : (bytes : List ℕ) (xs : List Record) (told : Scanned) (at : ℕ) → capture_records bytes ≡ Ok xs → told ≡ scanned_of bytes xs → Disagrees told bytes at → ⊥
never_disagrees bytes xs told at good is (Breaks fault bad place) = let no : Ok xs ≡ Err fault = sym good ∙ bad in absurd (cc)
never_disagrees bytes xs told at good is (Ends short e) = let size : told.bytes ≡ length bytes = ap (λ (s : Scanned). s.bytes) is in omega (arith, size, short)
never_disagrees bytes xs told at good is (GoesOn long e) = let size : told.bytes ≡ length bytes = ap (λ (s : Scanned). s.bytes) is in omega (arith, size, long)
never_disagrees bytes xs told at good is (ComesEarly x begins early) =
    let all : xs ≡ x ∷ begins.others = sym (good_records bytes xs good) ∙ begins.records in
    let first : told.first ≡ Some x.time = ap (λ (s : Scanned). s.first) is ∙ ap first_time all in
    let before : nat_lt x.time x.time ≡ true = subst (λ (o : Option ℕ). comes_early o x.time ≡ true) first early in
    omega (arith, ltb-true x.time x.time before)

-- ---- where it disagrees
pub halted_disagrees : (told : Scanned) (bytes : List ℕ) (limit : ℕ) (h : Halt) (at : ℕ) → limit ≡ told.bytes + 1 → HaltsBy bytes limit h → unread told.bytes h ≡ Changed at → Disagrees told bytes at
halted_disagrees told bytes limit halt.Memory at most halts e = absurd (cc)
halted_disagrees told bytes limit halt.Failed at most halts e = absurd (cc)
halted_disagrees told bytes limit (halt.Broken fault) at most halts e = let place : fault.at ≡ at = cc in Breaks fault halts.0 place
halted_disagrees told bytes limit halt.Large at most halts e = let place : told.bytes ≡ at = cc in GoesOn (omega (arith, most, halts.0)) (sym place)

pub ended_disagrees : (told : Scanned) (bytes : List ℕ) (xs : List Record) (f : CaptureFile) (got at : ℕ) → IsWhole bytes xs f → got ≡ f.got → got ≢ told.bytes → at ≡ min got told.bytes
    → Disagrees told bytes at
ended_disagrees told bytes xs f got at w is other e = by_size (cases_lt got told.bytes) (cases_lt told.bytes got)
  where
    by_size : (got < told.bytes) ⊎ (told.bytes ≤ got) → (told.bytes < got) ⊎ (got ≤ told.bytes) → Disagrees told bytes at
    by_size (inl t) u = Ends (omega (arith, t, is, w.size)) (omega (arith, e, t, is, w.size))
    by_size (inr t) (inl u) = GoesOn (omega (arith, u, is, w.size)) (omega (arith, e, u))
    by_size (inr t) (inr u) = absurd (other (omega (arith, t, u)))

-- what is answered at the end
pub played_when : (result : Result (Option ℕ) ReplayFault) (got told : ℕ) (P : Type 0) → IfOk result (λ next. (next ≡ None) × (got ≡ told)) → (got ≡ told → P) → IfOk result (λ next. IfNone next P)
played_when (Ok None) got told P h k = k h.1
played_when (Ok (Some m)) got told P h k = tt
played_when (Err fault) got told P h k = tt

pub played_whole : (told : Scanned) (bytes : List ℕ) (xs : List Record) (f : CaptureFile) (got : ℕ) → IsWhole bytes xs f → got ≡ f.got → got ≡ told.bytes → IsPlayed told bytes xs
played_whole told bytes xs f got w is same = record { records = w.records; size = omega (arith, w.size, is, same) }

-- ---- the first record comes early
pub begins : (bytes : List ℕ) (xs : List Record) (x : Record) (r : Replay) → r.fresh ≡ true → HasGiven bytes xs r → next_of r.file ≡ Some x → BeginsWith x r.file.reader.begun bytes
begins bytes xs x r fresh h e = first_begins bytes x r.file (subst (λ ys. HasRead bytes ys r.file) (h.fresh fresh) h.read) e

held_whole : (o : Option RecordSpan) (x : Record) (owing : ℕ) (held : List ℕ) → seen_in o held ≡ Some x → IfSome o (IsHeldIn owing held) → owing ≤ length held
held_whole None x owing held e h = absurd (cc)
held_whole (Some s) x owing held e h = h.whole

pub early_goes_on : (told : Scanned) (bytes : List ℕ) (xs : List Record) (x : Record) (f : CaptureFile) (place at : ℕ) → IsSound f → HasRead bytes xs f → next_of f ≡ Some x → place ≡ f.reader.place → told.bytes < place
    → Changed told.bytes ≡ Changed at → Disagrees told bytes at
early_goes_on told bytes xs x f place at s h next is long e =
    let same : told.bytes ≡ at = cc in
    let whole = held_whole f.next x f.reader.owing f.reader.held next s.seen in
    GoesOn (omega (arith, s.fits, whole, h.within, is, long)) (sym same)

pub early_ends : (told : Scanned) (bytes there : List ℕ) (xs : List Record) (f : CaptureFile) (got at : ℕ) → there ≡ bytes → IsWhole there xs f → got ≡ f.got → got < told.bytes
    → Changed got ≡ Changed at → Disagrees told bytes at
early_ends told bytes there xs f got at same w is short e =
    let place : got ≡ at = cc in
    let size = ap length same in
    Ends (omega (arith, size, w.size, is, short)) (omega (arith, place, size, w.size, is))

pub early_comes : (told : Scanned) (bytes : List ℕ) (x : Record) (time place begun at : ℕ) → BeginsWith x place bytes → x.time ≡ time → comes_early told.first time ≡ true → begun ≡ place → Changed begun ≡ Changed at
    → Disagrees told bytes at
early_comes told bytes x time place begun at first is early same e =
    let there : begun ≡ at = cc in
    ComesEarly x (subst (λ n. BeginsWith x n bytes) (sym same ∙ there) first) (subst (λ n. comes_early told.first n ≡ true) (sym is) early)

-- ---- where it has changed
pub place_of : (n at most : ℕ) → Changed n ≡ Changed at → n ≤ most → at ≤ most
place_of n at most e h = let same : n ≡ at = cc in omega (arith, same, h)

pub halted_place : (bytes got : ℕ) (h : Halt) (at : ℕ) → ((fault : FormatFault) → h ≡ halt.Broken fault → fault.at ≤ got) → got ≤ bytes + 1 → unread bytes h ≡ Changed at → at ≤ bytes + 1
halted_place bytes got halt.Memory at place fits e = absurd (cc)
halted_place bytes got halt.Failed at place fits e = absurd (cc)
halted_place bytes got (halt.Broken fault) at place fits e = let there = place fault refl in place_of fault.at at (bytes + 1) e (omega (arith, there, fits))
halted_place bytes got halt.Large at place fits e = place_of bytes at (bytes + 1) e (omega arith)

pub fault_is : {X : Type 0} (fault : ReplayFault) (at : ℕ) → IsErrOf {T = X} {E = ReplayFault} (Err fault) (Changed at) → fault ≡ Changed at
fault_is fault at e = cc

-- ---- what comes next of a file that was checked
given_left : (xs left rest : List Record) (x : Record) (bytes : List ℕ) → capture_records bytes ≡ Ok (xs ++ left) → (capture_of bytes).records ≡ xs ++ (x ∷ rest) → left ≡ x ∷ rest
given_left xs left rest x bytes good e = append_cancel_left xs left (x ∷ rest) (sym (good_records bytes (xs ++ left) good) ∙ e)

pub next_replayed : (bytes : List ℕ) (left : List Record) (r seen next : Replay) (moment : ℕ) (given : List ℕ) (k : IsReplaying bytes left r) (c : ComesAt moment seen)
    → HasGiven bytes k.given seen → HasGiven bytes (k.given ++ c.next ∷ []) next → given ≡ c.next.bytes → seen.least ≡ r.least → next.told ≡ r.told
    → (x : Record) × (rest : List Record) × (left ≡ x ∷ rest) × (moment ≡ max r.least x.time) × (given ≡ x.bytes) × IsReplaying bytes rest next
next_replayed bytes left r seen next moment given k c has then_has is least told =
    let x = c.next in
    let found = found_records bytes k.given x seen.file has.read c.found in
    let rest = found.0 in
    let first = given_left k.given left rest x bytes k.whole found.1 in
    let all : k.given ++ left ≡ (k.given ++ x ∷ []) ++ rest = ap (λ ys. k.given ++ ys) first ∙ sym (append_assoc k.given (x ∷ []) rest) in (
      x,
      rest,
      first,
      c.is ∙ ap (λ n. max n x.time) least,
      is,
      record {
        given = k.given ++ x ∷ [];
        has = then_has;
        whole = k.whole ∙ ap Ok all;
        told = told ∙ k.told ∙ ap (scanned_of bytes) all;
      },
    )

pub end_replayed : (bytes : List ℕ) (left : List Record) (r : Replay) (k : IsReplaying bytes left r) → IsPlayed r.told bytes k.given → left ≡ []
end_replayed bytes left r k p =
    let both : Ok k.given ≡ Ok (k.given ++ left) = sym p.records ∙ k.whole in
    let same : k.given ≡ k.given ++ left = cc in
    nil_of left (omega (arith, ap length same, length-append k.given left))

pub never_replayed : (bytes : List ℕ) (left : List Record) (r : Replay) (at : ℕ) → IsReplaying bytes left r → Disagrees r.told bytes at → ⊥
never_replayed bytes left r at k d = never_disagrees bytes (k.given ++ left) r.told at k.whole k.told d
