-- What is still to be played where captures are read again: the commands of a topology among the records.
use Rattle.std.specs.Prelude.{◌≡◌, ◌+◌, ◌-◌, ◌<◌, ◌≤◌, ◌^◌, if◌then◌else◌, ℕ, List, [], ◌∷◌, length, AllPairs, Option, Some, None, IfSome}
use Rattle.exb_model.specs.Input.{Coming, Captured, Ordered, moment_of, second_of}
use Rattle.exb_shelf.specs.Files.{Files}
use Rattle.exb_shelf.specs.Shelf.{Id}
use Rattle.exb_timeline.specs.declared.bridge_timeline.Next.{Next}
use Rattle.exb_timeline.specs.declared.bridge_timeline.Next.TheVariants as next
use Rattle.exb_timeline.specs.declared.bridge_timeline.Timeline.{Timeline}
use Rattle.exb_timeline.specs.MergeOrder.{ToPlay, comes_first, commands_left, first_moment, still_to_come}
use Rattle.exb_timeline.specs.CaptureMerges.{AreOpened, AreReplays, AreToldSince, HasCome, IsEarliest, NoneIsBefore, ids_in, left_in, standings}
use Rattle.exb_timeline.specs.Streams.{Stream, to_come}

-- what is still to be played where this is still to come of the captures
abbrev pub played_with : List Stream → Timeline → ToPlay
played_with streams p = record {
  start = p.start;
  commands = p.commands.now;
  taken = p.taken;
  records = to_come streams;
}

-- what comes, without where it lies in memory
abbrev pub what : Next → Coming
what (next.Command number moment) = Ordered moment number
what (next.Record c) = Captured c

-- Its captures were opened, its commands come in the order of their seconds, and nothing that was told of them is
-- before its start.
pub record IsProgramme (ids : ℕ → Id) (p : Timeline) : Type 0 where
  pub opened : AreOpened ids p.captures
  pub start : p.start < 2 ^ 32
  pub since : AreToldSince p.start p.captures
  pub taken : p.taken ≤ length p.commands.now
  pub few : length p.commands.now ≤ 65536
  pub rising : AllPairs (λ c d. c.at ≤ d.at) p.commands.now

-- nothing of it comes before this moment
pub record IsFrom (moment : ℕ) (p : Timeline) : Type 0 where
  pub commands : IfSome (first_moment (commands_left (played_with [] p))) (λ k. moment ≤ k)
  pub captures : NoneIsBefore moment p.captures

-- the moment of a command or of a record: of the record where it comes first
abbrev pub sooner : Option ℕ → Option ℕ → Option ℕ
sooner command captured = if comes_first command captured then command else captured

-- the moment of what comes next, if anything does, whatever the files hold
abbrev pub IsSoonest : Option ℕ → Timeline → Type 0
IsSoonest moment p = (captured : Option ℕ) × IsEarliest captured p.captures
    × (moment ≡ sooner (first_moment (commands_left (played_with [] p))) captured)

-- its moment, if anything came
abbrev pub moment_in : Option Next → Option ℕ
moment_in None = None
moment_in (Some d) = Some (moment_of (what d))

-- how much is left: a bound on how often more can come
abbrev pub left_of : Timeline → ℕ
left_of p = (length p.commands.now - p.taken) + left_in p.captures

-- the command of its number, or the next record of a port
abbrev pub IsOf : Timeline → Next → Timeline → Type 0
IsOf old (next.Command number moment) new =
    (number ≡ old.taken + 1) × (old.taken < length old.commands.now) × (new.taken ≡ old.taken + 1)
    × (standings new.captures ≡ standings old.captures)
IsOf old (next.Record c) new = HasCome (standings old.captures) c (standings new.captures) × (new.taken ≡ old.taken)

-- how many bytes of a capture it takes at least
abbrev pub size_of : Next → ℕ
size_of (next.Command number moment) = 0
size_of (next.Record c) = 16

-- Whatever the files hold: this came, less than 2^32 seconds after the start, and nothing that is left comes before it.
pub record IsComing (old : Timeline) (d : Next) (new : Timeline) : Type 0 where
  pub is : IsOf old d new
  pub from : old.start ≤ second_of (moment_of (what d))
  pub before : second_of (moment_of (what d)) < old.start + 2 ^ 32
  pub fell : (moment : ℕ) → IsFrom moment old → moment ≤ moment_of (what d)
  pub rises : IsFrom (moment_of (what d)) new
  pub start : new.start ≡ old.start
  pub commands : new.commands.now ≡ old.commands.now
  pub ids : ids_in new.captures ≡ ids_in old.captures
  pub size : size_of d + left_in new.captures ≤ left_in old.captures
  pub left : left_of new < left_of old

-- Where the files are told and are those that were checked: it is the first of what was still to come of them, and the
-- rest is left.
abbrev pub IsTakenOf : Files → Files → (ℕ → Id) → (ℕ → Id) → Timeline → Next → Timeline → Type 0
IsTakenOf file files given ids old d new =
    (streams : List Stream) → AreReplays file given old.captures.sources.items streams
    → (rest : List Stream) × (still_to_come (played_with streams old) ≡ what d ∷ still_to_come (played_with rest new))
    × AreReplays files ids new.captures.sources.items rest
