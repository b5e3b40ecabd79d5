-- What a look ahead says of a file that is read.
use Rattle.std.proofs.Common.{◌≡◌, ◌≤◌, ◌<◌, ◌+◌, ◌-◌, ℕ, Bool, true, false, List, length, take, drop, None, Result, Ok, Err, cond, refl, ap, sym, subst, inl, inr, ◌∙◌, arith}
use Rattle.std.specs.Prelude.{◌≢◌, ◌⊎◌, IsErrOf}
use Rattle.std.proofs.lemmas.Bool.{cases_lt}
use Rattle.exb_model.specs.Input.{Record}
use Rattle.exb_capture.specs.declared.fault.FormatFault.{FormatFault}
use Rattle.exb_capture.specs.declared.format.AnyFormat.{AnyFormat as State}
use Rattle.exb_capture.specs.declared.reader.Ahead.{Ahead}
use Rattle.exb_capture.specs.declared.reader.Ahead.TheVariants as ahead
use Rattle.exb_capture.specs.ReaderAnswers.{seen, IsAheadIn}
use Rattle.exb_capture.specs.ReaderMachine.{Reading, Found}
use Rattle.exb_capture.specs.declared.capture_file.CaptureFile.{CaptureFile}
use Rattle.exb_capture.specs.declared.format.RecordSpan.{RecordSpan}
use Rattle.exb_capture.specs.declared.capture_file.Halt.{Halt}
use Rattle.exb_capture.specs.declared.capture_file.Halt.TheVariants.{Memory, Failed, Broken, Large}
use Rattle.exb_shelf.specs.Files.{Files, SameFiles, bytes_of}
use Rattle.exb_shelf.specs.Shelf.{Id, Faults, IsReadingOf, NoFewer, moved}
use Rattle.exb_capture.specs.CaptureFiles.{IsAt, MovesOn, IsSound, HasRead, IsWhole, HaltsBy, ComesNext, left_to_read}
use Rattle.exb_capture.specs.Blocks.{most_held}
use Rattle.exb_capture.specs.Captures.{capture_front}
use Rattle.exb_capture.proofs.CaptureLemmas.{captures_are_a_format}
use Rattle.exb_capture.proofs.PieceLaws.{asked_roomy}
use Rattle.exb_capture.proofs.CaptureFileLemmas.{asked_of, with_seen, found_in, asked_sound, asked_less, more_read, end_read, seen_sound, seen_less, seen_read, end_told, fault_place, fault_told, large_told}

-- a file that was asked what comes next, and answered this
module _ (f : CaptureFile) (reader : Reading State) (answer : Result Ahead FormatFault) (none : f.next ≡ None) (told : seen answer reader.held ≡ (asked_of f).answer) (is : reader ≡ (asked_of f).left) where
  abbrev pub looked : CaptureFile
  looked = record f { reader = reader }

  pub looked_sound : IsSound f → IsSound looked
  looked_sound s = subst (λ (r : Reading State). IsSound (record f { reader = r })) (sym is) (asked_sound f none s)

  pub looked_left : left_to_read looked ≤ left_to_read f
  looked_left = subst (λ (r : Reading State). left_to_read (record f { reader = r }) ≤ left_to_read f) (sym is) (asked_less f)

  answered : (x : Result Ahead FormatFault) → answer ≡ x → seen x reader.held ≡ (asked_of f).answer
  answered x e = ap (λ y. seen y reader.held) (sym e) ∙ told

  pub looked_more : (bytes : List ℕ) (xs : List Record) → answer ≡ Ok ahead.More → HasRead bytes xs f → HasRead bytes xs looked
  looked_more bytes xs e h = subst (λ (r : Reading State). HasRead bytes xs (record f { reader = r })) (sym is) (more_read bytes xs f none (sym (answered (Ok ahead.More) e)) h)

  pub looked_end : (bytes : List ℕ) (xs : List Record) → answer ≡ Ok ahead.End → HasRead bytes xs f → HasRead bytes xs looked
  looked_end bytes xs e h = subst (λ (r : Reading State). HasRead bytes xs (record f { reader = r })) (sym is) (end_read bytes xs f none (sym (answered (Ok ahead.End) e)) h)

  pub ended_whole : (bytes : List ℕ) (xs : List Record) → answer ≡ Ok ahead.End → IsSound f → HasRead bytes xs f → IsWhole bytes xs looked
  ended_whole bytes xs e s h =
      let whole = end_told bytes xs f none s h (sym (answered (Ok ahead.End) e)) in
      record { records = whole.records; size = whole.size; small = whole.small }

  -- ---- a record
  module _ (x : RecordSpan) (e : answer ≡ Ok (ahead.Record x)) where
    abbrev pub found : CaptureFile
    found = with_seen f reader x

    found_is : (asked_of f).answer ≡ Found (found_in x (asked_of f).left.held)
    found_is = sym (answered (Ok (ahead.Record x)) e) ∙ ap (λ (r : Reading State). Found (found_in x r.held)) is

    pub found_sound : IsSound f → IsAheadIn reader.held x.moment x.from x.bytes → IsSound found
    found_sound s ahead =
        subst (λ (r : Reading State). IsSound (with_seen f r x)) (sym is)
        (seen_sound f x s found_is (subst (λ (r : Reading State). IsAheadIn r.held x.moment x.from x.bytes) is ahead))

    pub found_left : left_to_read found ≤ left_to_read f
    found_left = subst (λ (r : Reading State). left_to_read (with_seen f r x) ≤ left_to_read f) (sym is) (seen_less f x none found_is)

    pub found_read : (bytes : List ℕ) (xs : List Record) → HasRead bytes xs f → HasRead bytes xs found
    found_read bytes xs h = subst (λ (r : Reading State). HasRead bytes xs (with_seen f r x)) (sym is) (seen_read bytes xs f x none found_is h)

    pub found_next : ComesNext x.moment found
    found_next = (record { time = x.moment; bytes = take x.bytes (drop x.from reader.held) }, refl, refl)

  -- ---- where more is needed, the end wasn't told and there is room
  roomy : answer ≡ Ok ahead.More → (f.ended ≡ false) × (0 < (asked_of f).left.room)
  roomy e = asked_roomy most_held capture_front captures_are_a_format f.ended f.reader (omega arith) (sym (answered (Ok ahead.More) e))

  pub more_open : answer ≡ Ok ahead.More → f.ended ≡ false
  more_open e = (roomy e).0

  pub more_room : answer ≡ Ok ahead.More → 0 < reader.room
  more_room e = let some = (roomy e).1 in let same = ap (λ (r : Reading State). r.room) is in omega (arith, some, same)

  -- ---- why it isn't read on
  pub looked_place : (fault : FormatFault) → answer ≡ Err fault → IsSound f → fault.at ≤ f.got
  looked_place fault e s = fault_place f fault s (sym (answered (Err fault) e))

  pub looked_fault : (bytes : List ℕ) (xs : List Record) (fault : FormatFault) → answer ≡ Err fault → IsSound f → HasRead bytes xs f → HaltsBy bytes f.limit (Broken fault)
  looked_fault bytes xs fault e s h = fault_told bytes xs f fault none s h (sym (answered (Err fault) e))

  pub looked_large : (bytes : List ℕ) (xs : List Record) → answer ≡ Ok ahead.More → IsSound f → HasRead bytes xs f → f.got ≡ f.limit → f.limit < length bytes → HaltsBy bytes f.limit Large
  looked_large bytes xs e s h full long = large_told bytes xs f none s h (sym (answered (Ok ahead.More) e)) full long

  -- why reading on stops
  pub halts_on : (bytes : List ℕ) (xs : List Record) (halt : Halt) → answer ≡ Ok ahead.More → IsSound f → HasRead bytes xs f
      → ((fault : FormatFault) → halt ≡ Broken fault → ⊥) → (halt ≡ Large → (f.got ≡ f.limit) × (f.limit < length bytes)) → HaltsBy bytes f.limit halt
  halts_on bytes xs Memory e s h unbroken large = tt
  halts_on bytes xs Failed e s h unbroken large = tt
  halts_on bytes xs (Broken fault) e s h unbroken large = absurd (unbroken fault refl)
  halts_on bytes xs Large e s h unbroken large = let full = large refl in looked_large bytes xs e s h full.0 full.1

pub halt_is : {X : Type 0} (why other : Halt) → IsErrOf {T = X} {E = Halt} (Err why) other → why ≡ other
halt_is why other e = cc

-- reading on brings it nearer to its end
pub smaller : (limit got most next : ℕ) (ended told : Bool) → ended ≡ false → most ≡ limit → got ≤ next → next ≤ most → (told ≡ true) ⊎ (got < next)
    → (most - next) + cond told 0 1 < (limit - got) + cond ended 0 1
smaller limit got most next true told e same rises within on = absurd (cc)
smaller limit got most next false true e same rises within on = omega (arith, same, rises, within)
smaller limit got most next false false e same rises within (inl t) = absurd (cc)
smaller limit got most next false false e same rises within (inr t) = omega (arith, same, within, t)

-- ---- the shelf, call by call
pub kept_bytes : (file now : Files) (given ids : ℕ → Id) (id j got : ℕ) → IsAt (given id) got → MovesOn id given ids → SameFiles file now → j ≡ id
    → bytes_of (now (ids j).name) ≡ bytes_of (file (given id).name)
kept_bytes file now given ids id j got at moves same e =
    let named = (moves.same (given id).name (record { given = at.given; reads = at.reads; named = refl })).named in
    ap (λ k. bytes_of (now (ids k).name)) e ∙ ap (λ n. bytes_of (now n)) named ∙ ap bytes_of (same (given id).name)

-- nothing of this one was read, or so many bytes were
pub moves_not : (id : ℕ) (a b : ℕ → Id) → b id ≡ a id → ((j : ℕ) → j ≢ id → b j ≡ a j) → MovesOn id a b
moves_not id a b is others = record { others = others; same = λ name reads. subst (IsReadingOf name) (sym is) reads }

pub moves_by : (id n : ℕ) (a b : ℕ → Id) → b id ≡ moved (a id) n → ((j : ℕ) → j ≢ id → b j ≡ a j) → MovesOn id a b
moves_by id n a b is others = record { others = others; same = λ name r. subst (IsReadingOf name) (sym is) (record { given = r.given; reads = r.reads; named = r.named }) }

pub moves_then : (id j : ℕ) (a b c : ℕ → Id) → MovesOn id a b → MovesOn j b c → j ≡ id → MovesOn id a c
moves_then id j a b c p q e =
    let on : MovesOn id b c = subst (λ k. MovesOn k b c) e q in
    record { others = λ k other. on.others k other ∙ p.others k other; same = λ name reads. on.same name (p.same name reads) }

pub fewer_then : (a b c : Faults) → NoFewer a b → NoFewer b c → NoFewer a c
fewer_then a b c p q = record { missing = omega (arith, p.missing, q.missing); reads = omega (arith, p.reads, q.reads); writes = omega (arith, p.writes, q.writes) }

-- what isn't the most is below it
pub below_by : (got limit : ℕ) → got ≤ limit → (got ≡ limit → ⊥) → 0 < limit - got
below_by got limit most other = by_size (cases_lt got limit)
  where
    by_size : (got < limit) ⊎ (limit ≤ got) → 0 < limit - got
    by_size (inl t) = omega (arith, t)
    by_size (inr t) = absurd (other (omega (arith, most, t)))
