-- The laws of this crate.
use Rattle.std.specs.Prelude.{◌≡◌, ◌≢◌, ◌↔◌, ℕ, ◌<◌, ◌≤◌, ◌==◌, ◌^◌, ◌+◌, not, Bool, true, false, Ok, List, [], ◌∷◌, length, map}
use Rattle.exb_csp.specs.declared.group_rows.GroupRow.{GroupRow}
use Rattle.exb_csp.specs.declared.message.Message.{Message}
use Rattle.exb_csp.specs.declared.message.Request.{Request}
use Rattle.exb_csp.specs.declared.message.Request.TheVariants.{Register, Unregister, RegisterMany, UnregisterMany}
use Rattle.exb_csp.specs.Decoding.{read_message}
use Rattle.exb_model.specs.Frames.{IsBytes}
use Rattle.exb_csp.specs.Encoding.{body_bytes, message_bytes, HasSpelling, Fits}
use Rattle.exb_csp.specs.Execution.{ExtenderTables, in_mask, some_port, has_pair, execute}

-- What is written is read again as the same message.
abbrev pub WrittenIsRead : Type 0
WrittenIsRead = (m : Message) → HasSpelling m → Fits m → read_message (message_bytes m) ≡ Ok m

-- What is read is spelled by the bytes that were read, so a message has one spelling.
abbrev pub ReadIsSpelled : Type 0
ReadIsSpelled = (bytes : List ℕ) (m : Message) → IsBytes bytes → read_message bytes ≡ Ok m
    → HasSpelling m × (bytes ≡ message_bytes m)

-- A message has 11 bytes before its body, and at most 651 bytes.
abbrev pub MessagesAreShort : Type 0
MessagesAreShort = (m : Message) → HasSpelling m → (length (message_bytes m) ≡ 11 + length (body_bytes m.body))
    × (length (message_bytes m) ≤ 651)

-- A code other than 0 leaves the tables.
abbrev pub RefusedChangesNothing : Type 0
RefusedChangesNothing = (t : ExtenderTables) (asked : Request) → (execute t asked).1.code ≢ 0 → (execute t asked).0 ≡ t

-- the ports, channels and kinds stay
pub record KeepsPorts (old new : ExtenderTables) : Type 0 where
  pub ports : new.ports ≡ old.ports
  pub own : new.own ≡ old.own
  pub cascade : new.cascade ≡ old.cascade

-- the E-CID has these pairs, every other E-CID has those that it had, and the ports stay
pub record ChangesRow (old new : ExtenderTables) (ecid : ℕ) (has : ℕ → Bool) : Type 0 where
  pub row : (port : ℕ) → 0 < port → port ≤ 64 → new.pair ecid port ≡ has port
  pub others : (other port : ℕ) → other ≢ ecid → new.pair other port ≡ old.pair other port
  pub kept : KeepsPorts old new

-- Register that is done gives the E-CID exactly the pairs of the mask.
abbrev pub RegisterSetsTheMask : Type 0
RegisterSetsTheMask =
    (t : ExtenderTables) (ecid mask : ℕ) → (execute t (Register ecid mask)).1.code ≡ 0
    → ChangesRow t (execute t (Register ecid mask)).0 ecid (in_mask mask)

-- Unregister that is done removes exactly the pairs of the E-CID.
abbrev pub UnregisterClearsTheRow : Type 0
UnregisterClearsTheRow =
    (t : ExtenderTables) (ecid : ℕ) → (execute t (Unregister ecid)).1.code ≡ 0
    → ChangesRow t (execute t (Unregister ecid)).0 ecid (λ _. false)

-- executing the requests one after another gives code 0 each time, and these tables at the end
abbrev pub Runs : ExtenderTables → List Request → ExtenderTables → Type 0
Runs t [] end = t ≡ end
Runs t (asked ∷ more) end = ((execute t asked).1.code ≡ 0) × Runs (execute t asked).0 more end

abbrev pub row_by_row : List GroupRow → List Request
row_by_row rows = map (λ row. Register row.ecid row.mask) rows

abbrev pub one_by_one : List ℕ → List Request
one_by_one ecids = map Unregister ecids

-- RegisterMany that is done is its rows one after another.
abbrev pub RegisterManyIsItsRows : Type 0
RegisterManyIsItsRows =
    (t : ExtenderTables) (rows : List GroupRow) → (execute t (RegisterMany rows)).1.code ≡ 0
    → Runs t (row_by_row rows) (execute t (RegisterMany rows)).0

-- UnregisterMany that is done is its E-CIDs one after another.
abbrev pub UnregisterManyIsItsEcids : Type 0
UnregisterManyIsItsEcids =
    (t : ExtenderTables) (ecids : List ℕ) → (execute t (UnregisterMany ecids)).1.code ≡ 0
    → Runs t (one_by_one ecids) (execute t (UnregisterMany ecids)).0

-- An E-CID has a pair exactly where it has one with a port of 1 to 64.
abbrev pub HasPairExactly : Type 0
HasPairExactly =
    (t : ExtenderTables) (ecid : ℕ)
    → (has_pair t ecid ≡ true) ↔ ((port : ℕ) × (0 < port) × (port ≤ 64) × (t.pair ecid port ≡ true))

-- A word of 64 bits has the bit of some port exactly where it isn't 0.
abbrev pub SomeBitExactly : Type 0
SomeBitExactly = (mask : ℕ) → mask < 2 ^ 64 → some_port (in_mask mask) ≡ not (mask == 0)
