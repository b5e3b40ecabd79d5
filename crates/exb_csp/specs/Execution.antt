-- What an extender does that executes a request. Ports are counted from 1.
use Rattle.std.specs.Prelude.{ℕ, ◌+◌, ◌-◌, ◌==◌, ◌&&◌, ◌||◌, not, Bool, nat_lt, nat_le, if◌then◌else◌, List, [], ◌∷◌, ◌++◌}
use Rattle.std.specs.List.{list_any}
use Rattle.std.specs.Int.{bit_at}
use Rattle.exb_model.specs.Ports.{below}
use Rattle.exb_csp.specs.declared.group_rows.GroupRow.{GroupRow}
use Rattle.exb_csp.specs.declared.message.Request.{Request}
use Rattle.exb_csp.specs.declared.message.Request.TheVariants.{Open, PortCreate, PortDelete, Register, Unregister, RegisterMany, UnregisterMany}
use Rattle.exb_csp.specs.declared.message.Response.{Response}
use Rattle.exb_csp.specs.RequestKinds.{kind_of}

-- The tables of an extender: its port count, each port's own channel (0: none) and whether it is a
-- cascade port, and whether it has the pair of an E-CID and a port.
pub record ExtenderTables : Type 0 where
  pub ports : ℕ
  pub own : ℕ → ℕ
  pub cascade : ℕ → Bool
  pub pair : ℕ → ℕ → Bool

-- the bit of a port of 1 to 64 in a mask
unfoldable pub in_mask : ℕ → ℕ → Bool
in_mask mask port = nat_lt 0 port && nat_le port 64 && (bit_at mask (port - 1) == 1)

-- one of the ports 1 to 64 passes
unfoldable pub some_port : (ℕ → Bool) → Bool
some_port p = list_any (λ k. p (k + 1)) (below 64)

abbrev pub is_port : ExtenderTables → ℕ → Bool
is_port t port = nat_lt 0 port && nat_le port t.ports

abbrev pub is_channel : ℕ → Bool
is_channel ecid = nat_lt 0 ecid && nat_lt ecid 4095

-- a channel or the number of a group
abbrev pub is_ecid : ℕ → Bool
is_ecid ecid = is_channel ecid || (nat_le 0x1000 ecid && nat_lt ecid 0x4000)

-- the E-CID has a pair
abbrev pub has_pair : ExtenderTables → ℕ → Bool
has_pair t ecid = some_port (t.pair ecid)

-- a port of the mask is above the count or has no channel
abbrev pub has_stray : ExtenderTables → ℕ → Bool
has_stray t mask = some_port (λ port. in_mask mask port && (nat_lt t.ports port || (t.own port == 0)))

abbrev pub create_code : ExtenderTables → ℕ → ℕ → ℕ
create_code t port channel =
    if not (is_port t port) then 1 else
    (if not (is_channel channel) then 2 else
    (if nat_lt 0 (t.own port) || has_pair t channel then 3 else 0))

-- one of the rows is of the E-CID
abbrev pub is_named : List GroupRow → ℕ → Bool
is_named rows ecid = list_any (λ row. row.ecid == ecid) rows

-- the code of registering a row; an E-CID of an earlier row counts as one that has a pair
abbrev pub row_code : ExtenderTables → List GroupRow → ℕ → ℕ → ℕ
row_code t earlier ecid mask =
    if not (is_ecid ecid) then 2 else
    (if has_stray t mask then 1 else
    (if has_pair t ecid || is_named earlier ecid then 3 else 0))

-- the code of the first row that has another than 0
unfoldable pub rows_code : ExtenderTables → List GroupRow → List GroupRow → ℕ
rows_code t earlier [] = 0
rows_code t earlier (row ∷ rows) =
    if row_code t earlier row.ecid row.mask == 0 then rows_code t (earlier ++ row ∷ []) rows else row_code t earlier
    row.ecid row.mask

abbrev pub clear_code : ℕ → ℕ
clear_code ecid = if is_ecid ecid then 0 else 2

-- the code of the first E-CID that has another than 0
unfoldable pub clears_code : List ℕ → ℕ
clears_code [] = 0
clears_code (ecid ∷ ecids) = if clear_code ecid == 0 then clears_code ecids else clear_code ecid

unfoldable pub code_of : ExtenderTables → Request → ℕ
code_of t Open = 0
code_of t (PortCreate port cascade channel) = create_code t port channel
code_of t (PortDelete port) = if is_port t port then 0 else 1
code_of t (Register ecid mask) = row_code t [] ecid mask
code_of t (Unregister ecid) = clear_code ecid
code_of t (RegisterMany rows) = rows_code t [] rows
code_of t (UnregisterMany ecids) = clears_code ecids

-- a row of the list has the pair
abbrev pub in_rows : List GroupRow → ℕ → ℕ → Bool
in_rows rows ecid port = list_any (λ row. (row.ecid == ecid) && in_mask row.mask port) rows

-- the E-CID stands in the list
abbrev pub is_listed : List ℕ → ℕ → Bool
is_listed ecids e = list_any (λ ecid. ecid == e) ecids

-- the tables once the request is done
unfoldable pub done : ExtenderTables → Request → ExtenderTables
done t Open = t
done t (PortCreate port cascade channel) =
    record {
      ports = t.ports;
      own = λ q. if q == port then channel else t.own q;
      cascade = λ q. if q == port then cascade else t.cascade q;
      pair = λ e q. t.pair e q || ((e == channel) && (q == port));
    }
done t (PortDelete port) =
    record t {
      own = λ q. if q == port then 0 else t.own q;
      pair = λ e q. t.pair e q && not (nat_lt 0 (t.own port) && ((e == t.own port) && (q == port)));
    }
done t (Register ecid mask) = record t { pair = λ e q. t.pair e q || ((ecid == e) && in_mask mask q) }
done t (Unregister ecid) = record t { pair = λ e q. t.pair e q && not (ecid == e) }
done t (RegisterMany rows) = record t { pair = λ e q. t.pair e q || in_rows rows e q }
done t (UnregisterMany ecids) = record t { pair = λ e q. t.pair e q && not (is_listed ecids e) }

-- the port count that is answered
abbrev pub answered_ports : ℕ → Request → ℕ
answered_ports ports Open = ports
answered_ports ports _ = 0

-- what is answered
unfoldable pub response_to : ExtenderTables → Request → Response
response_to t asked = record { to = kind_of asked; code = code_of t asked; ports = answered_ports t.ports asked }

-- the tables afterwards: with a code other than 0 nothing changes
unfoldable pub executed : ExtenderTables → Request → ExtenderTables
executed t asked = if code_of t asked == 0 then done t asked else t

-- the tables and the response
abbrev pub execute : ExtenderTables → Request → ExtenderTables × Response
execute t asked = (executed t asked, response_to t asked)
