-- The prepare of a plan only adds, its cleanup only clears, and an opening only adds.
use Rattle.std.proofs.Common.{ℕ, Bool, true, false, List, [], ◌∷◌, ◌++◌, map, Option, Some, None}
use Rattle.std.specs.Prelude.{flat_map}
use Rattle.exb_model.specs.Tree.{Shape, by_depth, device, port_number}
use Rattle.exb_model.specs.Setup.{Limits}
use Rattle.exb_model.specs.Configuration.{Bridge}
use Rattle.exb_csp.specs.declared.group_rows.GroupRow.{GroupRow}
use Rattle.exb_csp.specs.declared.message.Request.{Request}
use Rattle.exb_csp.specs.declared.message.Request.TheVariants.{PortCreate, PortDelete}
use Rattle.exb_csp.specs.declared.ask_at.AskAt.{AskAt}
use Rattle.exb_control_spec.specs.declared.plan.row_action.RowAction.TheVariants.{Lay, Clear}
use Rattle.exb_control_spec.specs.Plans.ChangeRequests.{ask, register, unregister, numbers_of, message, rows_at, asks_with, in_messages, group_asks, channel_rows, channel_ask, channel_asks, create_asks, delete_asks}
use Rattle.exb_control_spec.specs.Plans.HeldNumbers.{Held, Group}
use Rattle.exb_control_spec.specs.Plans.Differences.{goes_up, goes_down, gone_groups}
use Rattle.exb_control_spec.specs.Plans.Sets.{sets_of}
use Rattle.exb_control_spec.specs.Plans.Plans.{new_channel, own_channel, up_asks, down_asks, fresh_groups, prepare_of, cleanup_of}
use Rattle.exb_control_spec.specs.Decisions.{cascades_of, channel_of, opening_asks}
use Rattle.exb_control_spec.specs.Runs.MonotoneRequests.{IsAdding, IsClearing, AllAsk, AllAdd, AllClear}

-- ---- lists of requests
module _ (P : Request → Type 0) where
  ask_append : (xs ys : List AskAt) → AllAsk P xs → AllAsk P ys → AllAsk P (xs ++ ys)
  ask_append [] ys a b = b
  ask_append (x ∷ xs) ys a b = (a.0, ask_append xs ys a.1 b)

  ask_map : {X : Type 0} (f : X → AskAt) (xs : List X) → ((x : X) → P (f x).request) → AllAsk P (map f xs)
  ask_map f [] each = tt
  ask_map f (x ∷ xs) each = (each x, ask_map f xs each)

  ask_flat : {X : Type 0} (f : X → List AskAt) (xs : List X) → ((x : X) → AllAsk P (f x)) → AllAsk P (flat_map f xs)
  ask_flat f [] each = tt
  ask_flat f (x ∷ xs) each = ask_append (f x) (flat_map f xs) (each x) (ask_flat f xs each)

-- ---- messages
register_adds : (rows : List GroupRow) → IsAdding (register rows)
register_adds [] = tt
register_adds (row ∷ []) = tt
register_adds (row ∷ other ∷ rows) = tt

unregister_clears : (numbers : List ℕ) → IsClearing (unregister numbers)
unregister_clears [] = tt
unregister_clears (n ∷ []) = tt
unregister_clears (n ∷ m ∷ numbers) = tt

lays_add : (t : Shape) (groups : List Group) → AllAdd (group_asks Lay t groups)
unfolding group_asks
lays_add t groups = ask_flat IsAdding (λ n. asks_with Lay (rows_at t groups n) n) (by_depth t) (λ n. ask_map IsAdding (λ piece. ask n (message Lay piece)) (in_messages (rows_at t groups n)) register_adds)

clears_clear : (t : Shape) (groups : List Group) → AllClear (group_asks Clear t groups)
unfolding group_asks
clears_clear t groups =
    ask_flat IsClearing (λ n. asks_with Clear (rows_at t groups n) n) (by_depth t) (λ n.
    ask_map IsClearing (λ piece. ask n (message Clear piece)) (in_messages (rows_at t groups n)) (λ piece. unregister_clears (numbers_of piece)))

creates_add : (t : Shape) (p : ℕ) (cascade : Bool) (c : ℕ) → AllAdd (create_asks t p cascade c)
unfolding create_asks
creates_add t p cascade c =
    ask_append IsAdding (channel_asks Lay t p c) (ask (device p) (PortCreate (port_number p) cascade c) ∷ []) (ask_map IsAdding (channel_ask Lay c) (channel_rows t p) (λ row. tt)) (tt, tt)

deletes_clear : (t : Shape) (p c : ℕ) → AllClear (delete_asks t p c)
unfolding delete_asks
deletes_clear t p c =
    ask_append IsClearing (channel_asks Clear t p c) (ask (device p) (PortDelete (port_number p)) ∷ []) (ask_map IsClearing (channel_ask Clear c) (channel_rows t p) (λ row. tt)) (tt, tt)

-- ---- plans
pub prepares_add : (t : Shape) (l : Limits) (old new : Bridge) (h : Held) → AllAdd (prepare_of t l old new h)
unfolding prepare_of
prepares_add t l old new h =
    ask_append IsAdding (up_asks t (new_channel t l h (goes_up t old new)) (goes_up t old new)) (group_asks Lay t (fresh_groups t l old new h))
    (by_up (goes_up t old new)) (lays_add t (fresh_groups t l old new h))
  where
    by_up : (o : Option ℕ) → AllAdd (up_asks t (new_channel t l h o) o)
    by_up None = tt
    by_up (Some p) = creates_add t p false (new_channel t l h (Some p))

pub cleanups_clear : (t : Shape) (old new : Bridge) (h : Held) → AllClear (cleanup_of t old new h)
unfolding cleanup_of
cleanups_clear t old new h =
    ask_append IsClearing (group_asks Clear t (gone_groups t (sets_of t new) h)) (down_asks t (own_channel t h (goes_down t old new)) (goes_down t old new))
    (clears_clear t (gone_groups t (sets_of t new) h)) (by_down (goes_down t old new))
  where
    by_down : (o : Option ℕ) → AllClear (down_asks t (own_channel t h o) o)
    by_down None = tt
    by_down (Some p) = deletes_clear t p (own_channel t h (Some p))

pub openings_add : (t : Shape) (n : ℕ) (h : Held) → AllAdd (opening_asks t n h)
unfolding opening_asks
openings_add t n h = (tt, ask_flat IsAdding (λ q. create_asks t q true (channel_of t h q)) (cascades_of t n) (λ q. creates_add t q true (channel_of t h q)))
