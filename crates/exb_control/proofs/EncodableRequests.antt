-- The requests of each change that is decided can be spelled.
use Rattle.std.proofs.Common.{◌≡◌, ℕ, zero, suc, ◌≤◌, ◌++◌, Bool, true, false, List, [], ◌∷◌, length, map, take, drop, Option, Some, None, subst, arith, length-take}
use Rattle.std.specs.List.{flat_map}
use Rattle.std.proofs.lemmas.List.{length-map}
use Rattle.exb_model.specs.declared.command.Command.TheVariants as command
use Rattle.exb_model.specs.declared.event.Cause.{Cause}
use Rattle.exb_model.specs.Tree.{Shape, by_depth}
use Rattle.exb_model.specs.Setup.{Limits}
use Rattle.exb_model.specs.Configuration.{Bridge, after}
use Rattle.exb_csp.specs.declared.ask_at.AskAt.{AskAt}
use Rattle.exb_csp.specs.declared.group_rows.GroupRow.{GroupRow}
use Rattle.exb_csp.specs.Encoding.{IsSpelledRequest}
use Rattle.exb_control_spec.specs.declared.plan.row.Row.{Row}
use Rattle.exb_control_spec.specs.declared.plan.row_action.RowAction.{RowAction}
use Rattle.exb_control_spec.specs.declared.plan.row_action.RowAction.TheVariants.{Lay, Clear}
use Rattle.exb_control_spec.specs.declared.plan.change.Change.{Change}
use Rattle.exb_control_spec.specs.Plans.HeldNumbers.{Held, Group}
use Rattle.exb_control_spec.specs.Plans.ChangeRequests.{ask, pieces, in_messages, message, rows_at, asks_with, group_asks, channel_rows, channel_ask, channel_asks, create_asks, delete_asks}
use Rattle.exb_control_spec.specs.Plans.Differences.{goes_up, refusal_between}
use Rattle.exb_control_spec.specs.Plans.Plans.{claimed, change_of, prepare_of, cleanup_of, up_asks, down_asks}
use Rattle.exb_control_spec.specs.declared.job.Job.{Job}
use Rattle.exb_control_spec.specs.declared.job.Job.TheVariants as job
use Rattle.exb_control_spec.specs.Decisions.{Ready, decide, channel_of, cascades_of, opening_asks, opening_change, outcome_by}
use Rattle.exb_control.specs.EncodableRequests.{AreSpelled}

-- ---- lists
spelled_append : (xs ys : List AskAt) → AreSpelled xs → AreSpelled ys → AreSpelled (xs ++ ys)
spelled_append [] ys a b = b
spelled_append (x ∷ xs) ys a b = (a.0, spelled_append xs ys a.1 b)

spelled_flat : {X : Type 0} (f : X → List AskAt) (xs : List X) → ((x : X) → AreSpelled (f x)) → AreSpelled (flat_map f xs)
spelled_flat f [] each = tt
spelled_flat f (x ∷ xs) each = spelled_append (f x) (flat_map f xs) (each x) (spelled_flat f xs each)

-- ---- messages
-- one row or number stands alone, and more go together
message_spelled : (step : RowAction) (rows : List GroupRow) → 1 ≤ length rows → length rows ≤ 64 → IsSpelledRequest (message step rows)
message_spelled step [] some few = absurd (omega (arith, some))
message_spelled Lay (r ∷ []) some few = tt
message_spelled Lay (r ∷ s ∷ rows) some few = (omega arith, few)
message_spelled Clear (r ∷ []) some few = tt
message_spelled Clear (r ∷ s ∷ rows) some few = (let same = length-map rows (λ (x : GroupRow). x.ecid) in (omega arith, omega (arith, same, few)))

pieces_spelled : (step : RowAction) (n k : ℕ) (rows : List GroupRow) → AreSpelled (map (λ piece. ask k (message step piece)) (pieces n rows))
unfolding pieces
pieces_spelled step zero k rows = tt
pieces_spelled step (suc n) k [] = tt
pieces_spelled step (suc n) k (r ∷ rows) =
    let long = length-take 64 (r ∷ rows) in
    (message_spelled step (take 64 (r ∷ rows)) (omega (arith, long)) (omega (arith, long)), pieces_spelled step n k (drop 64 (r ∷ rows)))

rows_spelled : (step : RowAction) (rows : List GroupRow) (k : ℕ) → AreSpelled (asks_with step rows k)
unfolding in_messages
rows_spelled step rows k = pieces_spelled step (length rows) k rows

groups_spelled : (step : RowAction) (t : Shape) (groups : List Group) → AreSpelled (group_asks step t groups)
unfolding group_asks
groups_spelled step t groups = spelled_flat (λ n. asks_with step (rows_at t groups n) n) (by_depth t) (λ n. rows_spelled step (rows_at t groups n) n)

channel_spelled : (step : RowAction) (c : ℕ) (rs : List Row) → AreSpelled (map (channel_ask step c) rs)
channel_spelled step c [] = tt
channel_spelled step c (r ∷ rs) = (message_spelled step (record { ecid = c; mask = r.mask } ∷ []) (omega arith) (omega arith), channel_spelled step c rs)

create_spelled : (t : Shape) (p : ℕ) (cascade : Bool) (c : ℕ) → AreSpelled (create_asks t p cascade c)
unfolding create_asks
create_spelled t p cascade c = spelled_append (channel_asks Lay t p c) _ (channel_spelled Lay c (channel_rows t p)) (tt, tt)

delete_spelled : (t : Shape) (p c : ℕ) → AreSpelled (delete_asks t p c)
unfolding delete_asks
delete_spelled t p c = spelled_append (channel_asks Clear t p c) _ (channel_spelled Clear c (channel_rows t p)) (tt, tt)

-- ---- changes
pub record IsSpelledChange (x : Change) : Type 0 where
  pub prepare : AreSpelled x.prepare
  pub cleanup : AreSpelled x.cleanup

up_spelled : (t : Shape) (c : ℕ) (o : Option ℕ) → AreSpelled (up_asks t c o)
up_spelled t c None = tt
up_spelled t c (Some p) = create_spelled t p false c

down_spelled : (t : Shape) (c : ℕ) (o : Option ℕ) → AreSpelled (down_asks t c o)
down_spelled t c None = tt
down_spelled t c (Some p) = delete_spelled t p c

between_spelled : (t : Shape) (l : Limits) (old new : Bridge) (h : Held) → IsSpelledChange (change_of t l old new h)
unfolding change_of prepare_of cleanup_of
between_spelled t l old new h =
    record {
      prepare = spelled_append _ _ (up_spelled t _ (goes_up t old new)) (groups_spelled Lay t _);
      cleanup = spelled_append _ _ (groups_spelled Clear t _) (down_spelled t _ (goes_up t new old));
    }

opening_spelled : (t : Shape) (n : ℕ) (h : Held) → AreSpelled (opening_asks t n h)
unfolding opening_asks
opening_spelled t n h = (tt, spelled_flat (λ q. create_asks t q true (channel_of t h q)) (cascades_of t n) (λ q. create_spelled t q true (channel_of t h q)))

ready_is : (o : Option Cause) (x y : Change) (h g : Held) → outcome_by o x h ≡ Ready y g → x ≡ y
ready_is None x y h g e = cc
ready_is (Some cause) x y h g e = absurd (cc)

pub decided_spelled : (t : Shape) (l : Limits) (b : Bridge) (h : Held) (j : Job) (x : Change) (g : Held) → decide t l b h j ≡ Ready x g → IsSpelledChange x
unfolding decide
decided_spelled t l b h (job.Opening n) x g e =
    let same : opening_change t n h ≡ x = cc in
    subst IsSpelledChange same (record { prepare = opening_spelled t n h; cleanup = tt })
decided_spelled t l b h (job.AutomaticUp p) x g e =
    subst IsSpelledChange (ready_is (refusal_between t l b (after (command.Up p) b)) _ x (claimed t l b (after (command.Up p) b) h) g e) (between_spelled t l b (after (command.Up p) b) h)
decided_spelled t l b h (job.Ordered n c) x g e =
    subst IsSpelledChange (ready_is (refusal_between t l b (after c b)) _ x (claimed t l b (after c b) h) g e) (between_spelled t l b (after c b) h)
