-- What the plain program keeps of an extender.
use Rattle.std.specs.Prelude.{◌≡◌, ℕ, ◌-◌, ◌≤◌, ◌<◌, ◌==◌, ◌&&◌, ◌||◌, nat_lt, nat_le, not, if◌then◌else◌, Bool, false, List, length, slice_index, slice_index_or, slice_set}
use Rattle.std.specs.Int.{bit_at}
use Rattle.exb_csp.specs.declared.message.Request.{Request}
use Rattle.exb_csp.specs.Execution.{ExtenderTables, in_mask, code_of, executed}

-- what a list has for a port, counted from 1
abbrev pub at_port : {A : Type 0} → List A → A → ℕ → A
at_port xs none port = if port == 0 then none else slice_index_or xs (port - 1) none

-- the tables that lists of channels and kinds by port and of words by E-CID are
abbrev pub tables_in : List ℕ → List Bool → List ℕ → ExtenderTables
tables_in own cascade words =
    record {
      ports = length own;
      own = at_port own 0;
      cascade = at_port cascade false;
      pair = λ ecid port. in_mask (slice_index words ecid) port;
    }

-- each port's own channel and kind, and a word of ports for each E-CID
pub record PlainState : Type 0 where
  pub own : List ℕ
  pub cascade : List Bool
  pub words : List ℕ

-- the lists have a place for each port and each E-CID, and the channels are E-CIDs
pub record IsPlain (own : List ℕ) (cascade : List Bool) (words : List ℕ) : Type 0 where
  pub few : length own ≤ 64
  pub cascade_each : length cascade ≡ length own
  pub words_each : length words ≡ 0x4000
  pub channels : (k : ℕ) → slice_index own k < 0x4000

-- the tables that are kept
unfoldable pub tables_of : PlainState → ExtenderTables
tables_of t = tables_in t.own t.cascade t.words

-- port k + 1 is above the count or has no channel
abbrev pub is_shut : List ℕ → ℕ → Bool
is_shut own k = nat_le (length own) k || (slice_index own k == 0)

-- the mask has such a port's bit
abbrev pub stray_at : List ℕ → ℕ → ℕ → Bool
stray_at own mask k = (bit_at mask k == 1) && is_shut own k

-- the lists after a port got its channel and kind
pub record Created (own : List ℕ) (cascade : List Bool) (words : List ℕ) (port : ℕ) (kind : Bool) (channel : ℕ)
    (own' : List ℕ) (cascade' : List Bool) (words' : List ℕ) : Type 0 where
  pub port_there : (0 < port) × (port ≤ length own)
  pub channel_small : channel < 0x4000
  pub own_set : own' ≡ slice_set own (port - 1) channel
  pub cascade_set : cascade' ≡ slice_set cascade (port - 1) kind
  pub words_long : length words' ≡ length words
  pub pairs : (ecid other : ℕ) → in_mask (slice_index words' ecid) other
      ≡ (in_mask (slice_index words ecid) other || ((ecid == channel) && (other == port)))

-- the lists after a port's channel was taken back
pub record Deleted (own words : List ℕ) (port : ℕ) (own' words' : List ℕ) : Type 0 where
  pub port_there : (0 < port) × (port ≤ length own)
  pub own_set : own' ≡ slice_set own (port - 1) 0
  pub words_long : length words' ≡ length words
  pub pairs : (ecid other : ℕ) → in_mask (slice_index words' ecid) other
      ≡ (in_mask (slice_index words ecid) other && not (nat_lt 0 (slice_index own (port - 1))
      && ((ecid == slice_index own (port - 1)) && (other == port))))

-- what a request leaves: its code, the tables afterwards, and lists that are plain
pub record IsChange (own : List ℕ) (cascade : List Bool) (words : List ℕ) (asked : Request) (code : ℕ) (own' : List ℕ)
    (cascade' : List Bool) (words' : List ℕ) : Type 0 where
  pub coded : code ≡ code_of (tables_in own cascade words) asked
  pub tables : tables_in own' cascade' words' ≡ executed (tables_in own cascade words) asked
  pub plain : IsPlain own' cascade' words'
