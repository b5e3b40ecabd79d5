-- What a reader answers, without where its bytes lie in memory.
use Rattle.std.specs.Prelude.{◌≡◌, ℕ, ◌+◌, ◌*◌, ◌^◌, ◌<◌, ◌≤◌, List, length, take, drop, Option, Some, None, Result, Ok, Err}
use Rattle.exb_capture.specs.declared.fault.FormatFault.{FormatFault}
use Rattle.exb_capture.specs.declared.reader.Ahead.{Ahead}
use Rattle.exb_capture.specs.declared.reader.Ahead.TheVariants as ahead
use Rattle.exb_capture.specs.declared.format.Front.{Front}
use Rattle.exb_capture.specs.Formats.{Front as Stood}
use Rattle.exb_capture.specs.FieldRanges.{Shows}
use Rattle.exb_capture.specs.ReaderMachine.{Stage, At, Failed, Reading, Answer, Found, More, End, Faulty, Turn, Answers, GoesOn}

-- it goes on, or has failed
abbrev pub stage_of : {S : Type 0} → Option FormatFault → S → Stage S
stage_of None s = At s
stage_of (Some f) s = Failed f

-- an answer, of what is held
abbrev pub seen : Result Ahead FormatFault → List ℕ → Answer
seen (Ok (ahead.Record x)) held = Found (record { time = x.moment; bytes = take x.bytes (drop x.from held) })
seen (Ok ahead.More) held = More
seen (Ok ahead.End) held = End
seen (Err f) held = Faulty f

-- a look at the front: an answer, or it goes on
abbrev pub turned : {S : Type 0} → Option (Result Ahead FormatFault) → Reading S → Turn S
turned None r = GoesOn r
turned (Some x) r = Answers (seen x r.held) r

-- a record in time, all of whose bytes are held
pub record IsAheadIn (held : List ℕ) (moment from bytes : ℕ) : Type 0 where
  pub there : from + bytes ≤ length held
  pub in_time : moment < 2 ^ 32 * 1_000_000_000
  pub short : bytes ≤ 262_144

abbrev pub IsAhead : List ℕ → Ahead → Type 0
IsAhead held (ahead.Record x) = IsAheadIn held x.moment x.from x.bytes
IsAhead held ahead.More = Unit {0}
IsAhead held ahead.End = Unit {0}

-- this stands at the front, and what was read is known from then on
pub record Looks {S : Type 0} (stands : S → List ℕ → Stood S) (x : Front) (s : S) (old new : Reading S) : Type 0 where
  pub state : S
  pub is : new ≡ record old { stage = At state }
  pub shows : Shows (stands s old.held) old.held x s state

-- a record that is answered is held
abbrev pub IsSeen : List ℕ → Option (Result Ahead FormatFault) → Type 0
IsSeen held None = Unit {0}
IsSeen held (Some (Err f)) = Unit {0}
IsSeen held (Some (Ok x)) = IsAhead held x
