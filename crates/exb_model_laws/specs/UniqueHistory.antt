-- A journal and an input tell one history.
use Rattle.std.specs.Prelude.{◌≡◌, ◌<◌, ℕ, ◌^◌, List, [], ◌∷◌, Some, All, length}
use Rattle.exb_model.specs.declared.event.Event.{Event}
use Rattle.exb_model.specs.declared.event.Event.TheVariants as event
use Rattle.exb_model.specs.declared.event.Cause.{Cause}
use Rattle.exb_model.specs.declared.event.Cause.TheVariants as cause
use Rattle.exb_model.specs.declared.command.Command.{Command}
use Rattle.exb_model.specs.declared.setup.Setup.{Setup}
use Rattle.exb_model.specs.Lists.{numbered}
use Rattle.exb_model.specs.History.{History}
use Rattle.exb_model.specs.declared.arrival.Arrival.{Arrival}
use Rattle.exb_model.specs.Input.{Input, Mode, arrivals_at}
use Rattle.exb_model.specs.LegalHistory.{Legal}
use Rattle.exb_model.specs.Texts.{journal_text}
use Rattle.exb_model_laws.specs.PlayedHistories.{IsTimely}

-- ---- histories of an input
abbrev pub IsWord : ℕ → Type 0
IsWord n = n < 2 ^ 64

abbrev pub HasWords : Cause → Type 0
HasWords (cause.Channels needed limit) = IsWord needed × IsWord limit
HasWords (cause.Groups needed limit) = IsWord needed × IsWord limit

-- the port is one of the 4,160
abbrev pub IsPort : ℕ → Type 0
IsPort p = p < 4160

-- the record of port p with number n has these moment and bytes
abbrev pub IsRecordOf : Input → Arrival → Type 0
IsRecordOf i a = numbered (arrivals_at i a.port) a.index ≡ Some a

-- Ports are ports, other numbers have 64 bits, and a Relay is of a record of the input.
abbrev pub IsTold : Input → Event → Type 0
IsTold i (event.Relay p n t f) = IsPort p × IsWord n
    × IsRecordOf i (record { port = p; index = n; moment = t; bytes = f })
IsTold i (event.Ignored p n) = IsPort p × IsWord n
IsTold i (event.Tick seconds) = IsWord seconds
IsTold i (event.Commit n) = IsWord n
IsTold i (event.Refuse n x) = IsWord n × HasWords x
IsTold i (event.Up p) = IsPort p
IsTold i (event.NoUp p x) = IsPort p × HasWords x
IsTold i event.Settled = Unit {0}

-- Two such histories with one journal are the same.
abbrev pub JournalTellsHistory : Type 0
JournalTellsHistory = (i : Input) (h g : History) → All (IsTold i) h → All (IsTold i) g
    → journal_text h ≡ journal_text g → h ≡ g

-- ---- legal histories
-- The input's numbers are those of files: times in nanoseconds of 64 bits, seconds of 32, and fewer than 2^64 records
-- at each port and commands.
pub record IsWritten (i : Input) : Type 0 where
  pub times : (p : ℕ) → All (λ r. IsWord r.time) (i.records p)
  pub records : (p : ℕ) → IsWord (length (i.records p))
  pub seconds : All (λ c. c.at < 2 ^ 32) i.commands
  pub commands : IsWord (length i.commands)

-- Two histories that such an input allows, in whichever modes, are the same where their journals are.
abbrev pub JournalTellsLegal : Type 0
JournalTellsLegal = (i : Input) (m n : Mode) (h g : History) → IsWritten i → Legal m i h → Legal n i g
    → journal_text h ≡ journal_text g → h ≡ g

-- ---- an input that is written
-- two commands, of seconds 5 and 6, and one record at each port
abbrev pub small_input : Setup → Command → List ℕ → Input
small_input s c f = record {
  setup = s;
  commands = record { at = 5; command = c } ∷ record { at = 6; command = c } ∷ [];
  records = λ p. record { time = 7; bytes = f } ∷ [];
}

abbrev pub SmallIsWritten : Type 0
SmallIsWritten = (s : Setup) (c : Command) (f : List ℕ) → IsWritten (small_input s c f) × IsTimely (small_input s c f)
