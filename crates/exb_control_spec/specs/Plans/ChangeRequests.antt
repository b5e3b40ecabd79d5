-- What is asked of the extenders for a change, in order.
use Rattle.std.specs.Prelude.{ℕ, zero, suc, ◌+◌, ◌==◌, not, Bool, List, [], ◌∷◌, ◌++◌, Option, Some, None, if◌then◌else◌, filter, filter_map, flat_map, map, length, take, drop}
use Rattle.exb_model.specs.Lists.{is_listed}
use Rattle.exb_model.specs.Tree.{Shape, device, by_depth, port_number}
use Rattle.exb_model.specs.TreeSets.{mask_of}
use Rattle.exb_csp.specs.declared.group_rows.GroupRow.{GroupRow}
use Rattle.exb_csp.specs.declared.message.Request.{Request}
use Rattle.exb_csp.specs.declared.message.Request.TheVariants.{PortCreate, PortDelete, Register, Unregister, RegisterMany, UnregisterMany}
use Rattle.exb_control_spec.specs.declared.plan.row.Row.{Row}
use Rattle.exb_control_spec.specs.Plans.Rows.{rows_of}
use Rattle.exb_csp.specs.declared.ask_at.AskAt.{AskAt}
use Rattle.exb_control_spec.specs.declared.plan.row_action.RowAction.{RowAction}
use Rattle.exb_control_spec.specs.declared.plan.row_action.RowAction.TheVariants.{Lay, Clear}
use Rattle.exb_control_spec.specs.Plans.HeldNumbers.{Group}

abbrev pub ask : ℕ → Request → AskAt
ask n request = record { extender = n; request = request }

-- ---- messages
-- in pieces of 64 and a last one of 1 to 64, at most n of them
unfoldable pub pieces : {X : Type 0} → ℕ → List X → List (List X)
pieces zero xs = []
pieces (suc n) [] = []
pieces (suc n) (x ∷ xs) = take 64 (x ∷ xs) ∷ pieces n (drop 64 (x ∷ xs))

unfoldable pub in_messages : {X : Type 0} → List X → List (List X)
in_messages xs = pieces (length xs) xs

-- one row goes in a Register, more in a RegisterMany
abbrev pub register : List GroupRow → Request
register (row ∷ []) = Register row.ecid row.mask
register rows = RegisterMany rows

abbrev pub unregister : List ℕ → Request
unregister (number ∷ []) = Unregister number
unregister numbers = UnregisterMany numbers

abbrev pub numbers_of : List GroupRow → List ℕ
numbers_of rows = map (λ row. row.ecid) rows

-- a message lays rows, or clears their numbers
abbrev pub message : RowAction → List GroupRow → Request
message Lay rows = register rows
message Clear rows = unregister (numbers_of rows)

-- ---- groups
abbrev pub row_by : ℕ → ℕ → Option GroupRow
row_by number mask = if mask == 0 then None else Some (record { ecid = number; mask = mask })

-- the row of a group at extender n: there is one where a port of its set lies below
abbrev pub row_at : Shape → ℕ → Group → Option GroupRow
row_at t n x = row_by x.number (mask_of t (is_listed x.ports) n)

-- the rows there of all groups, in their order
abbrev pub rows_at : Shape → List Group → ℕ → List GroupRow
rows_at t groups n = filter_map (row_at t n) groups

abbrev pub asks_with : RowAction → List GroupRow → ℕ → List AskAt
asks_with step rows n = map (λ piece. ask n (message step piece)) (in_messages rows)

-- for each extender by depth and number, the rows there of all groups are laid, or their numbers cleared
unfoldable pub group_asks : RowAction → Shape → List Group → List AskAt
group_asks step t groups = flat_map (λ n. asks_with step (rows_at t groups n) n) (by_depth t)

-- ---- channels
-- A channel's rows are those of its port alone, but at the port's own extender. So there is one at each
-- ancestor, from the bridge down.
unfoldable pub channel_rows : Shape → ℕ → List Row
channel_rows t p = filter (λ row. not (row.extender == device p)) (rows_of t (λ q. q == p))

abbrev pub channel_ask : RowAction → ℕ → Row → AskAt
channel_ask step c row = ask row.extender (message step (record { ecid = c; mask = row.mask } ∷ []))

-- none at the extender of its port
abbrev pub put_above : RowAction → ℕ → ℕ → Row → List AskAt
put_above step own c row = if row.extender == own then [] else channel_ask step c row ∷ []

abbrev pub channel_asks : RowAction → Shape → ℕ → ℕ → List AskAt
channel_asks step t p c = map (channel_ask step c) (channel_rows t p)

-- port p gets a channel: Registers at each ancestor, then the port is created
unfoldable pub create_asks : Shape → ℕ → Bool → ℕ → List AskAt
create_asks t p cascade c = channel_asks Lay t p c ++ ask (device p) (PortCreate (port_number p) cascade c) ∷ []

-- it loses it: Unregisters at each ancestor, then the port is deleted
unfoldable pub delete_asks : Shape → ℕ → ℕ → List AskAt
delete_asks t p c = channel_asks Clear t p c ++ ask (device p) (PortDelete (port_number p)) ∷ []
