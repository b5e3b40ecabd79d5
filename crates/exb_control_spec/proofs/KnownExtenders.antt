-- All that is asked goes to extenders of the tree.
use Rattle.std.proofs.Common.{◌≡◌, ℕ, zero, suc, ◌+◌, ◌*◌, ◌<◌, ◌≤◌, ◌==◌, ◌&&◌, Bool, true, false, not, nat_lt, List, [], ◌∷◌, ◌++◌, Option, Some, None, length, map, filter, slice_index, refl, subst, arith, inl, inr}
use Rattle.std.specs.List.{flat_map, filter_map, range_with_len}
use Rattle.std.proofs.lemmas.Bool.{cases_Bool, lt-ltb, ltb-true, and_parts, and_from}
use Rattle.std.proofs.lemmas.List.Concat.{flat_map-cons}
use Rattle.exb_model.specs.declared.command.Command.TheVariants as command
use Rattle.exb_model.specs.declared.event.Cause.{Cause}
use Rattle.exb_model.specs.Tree.{Shape, device, is_port, is_cascade, is_extender, by_depth}
use Rattle.exb_model.specs.TreeSets.{mask_of}
use Rattle.exb_model.specs.Setup.{Limits}
use Rattle.exb_model.specs.Configuration.{Bridge, after}
use Rattle.exb_control_spec.specs.declared.plan.row.Row.{Row}
use Rattle.exb_control_spec.specs.Plans.Rows.{row_of, rows_of}
use Rattle.exb_csp.specs.declared.ask_at.AskAt.{AskAt}
use Rattle.exb_control_spec.specs.declared.plan.row_action.RowAction.{RowAction}
use Rattle.exb_control_spec.specs.declared.plan.row_action.RowAction.TheVariants.{Lay, Clear}
use Rattle.exb_control_spec.specs.declared.plan.change.Change.{Change}
use Rattle.exb_control_spec.specs.Plans.HeldNumbers.{Held, Group}
use Rattle.exb_control_spec.specs.Plans.ChangeRequests.{ask, message, asks_with, rows_at, in_messages, group_asks, channel_rows, channel_ask, channel_asks, create_asks, delete_asks}
use Rattle.exb_control_spec.specs.Plans.Differences.{goes_up, refusal_between}
use Rattle.exb_control_spec.specs.Plans.Plans.{change_of, prepare_of, cleanup_of, up_asks, down_asks}
use Rattle.exb_model.proofs.TreeOrder.{by_depth-hangs}
use Rattle.exb_control_spec.proofs.Plans.Channels.{any_extended}
use Rattle.exb_control_spec.proofs.Plans.EachElement.{Each, each_map, each_filter}
use Rattle.exb_control_spec.proofs.Plans.Trunks.{extended_extender, port_extender}
use Rattle.exb_control_spec.specs.declared.job.Job.TheVariants as job
use Rattle.exb_control_spec.specs.Decisions.{Ready, decide, outcome_by, opening_asks, opening_change, cascades_of, channel_of}
use Rattle.exb_control_spec.specs.RequestLaws.{AreKnown, IsKnown, PlansAreKnown}

abbrev IsHere : Shape → ℕ → Type 0
IsHere t n = is_extender t n ≡ true

-- ---- extenders in order
each_index : (P : ℕ → Type 0) (xs : List ℕ) → ((i : ℕ) → i < length xs → P (slice_index xs i)) → Each P xs
each_index P [] f = tt
each_index P (x ∷ xs) f = (f 0 (omega arith), each_index P xs (λ i l. f (suc i) (omega (arith, l))))

order_here : (t : Shape) → Each (IsHere t) (by_depth t)
order_here t = each_index (IsHere t) (by_depth t) (λ i l. let h = by_depth-hangs t i l in and_from (nat_lt 0 (slice_index (by_depth t) i)) _ (lt-ltb 0 _ h.extender) (lt-ltb 0 _ h.there))

-- ---- lists of requests
known_append : (t : Shape) (xs ys : List AskAt) → AreKnown t xs → AreKnown t ys → AreKnown t (xs ++ ys)
known_append t [] ys a b = b
known_append t (x ∷ xs) ys a b = (a.0, known_append t xs ys a.1 b)

known_map : {X : Type 0} (t : Shape) (f : X → AskAt) (n : ℕ) → IsHere t n → ((x : X) → (f x).extender ≡ n) → (xs : List X) → AreKnown t (map f xs)
known_map t f n here same [] = tt
known_map t f n here same (x ∷ xs) = (rw (same x) here, known_map t f n here same xs)

known_flat : (t : Shape) (g : ℕ → List AskAt) (ns : List ℕ) → ((n : ℕ) → IsHere t n → AreKnown t (g n)) → Each (IsHere t) ns → AreKnown t (flat_map g ns)
known_flat t g [] each all = tt
known_flat t g (n ∷ ns) each all = rw (flat_map-cons g n ns) (known_append t (g n) (flat_map g ns) (each n all.0) (known_flat t g ns each all.1))

-- ---- groups
known_groups : (step : RowAction) (t : Shape) (groups : List Group) → AreKnown t (group_asks step t groups)
unfolding group_asks
known_groups step t groups =
    known_flat t (λ n. asks_with step (rows_at t groups n) n) (by_depth t)
    (λ n here. known_map t (λ piece. ask n (message step piece)) n here (λ piece. refl) (in_messages (rows_at t groups n))) (order_here t)

-- ---- channels
-- the row is that of an extender
abbrev IsRow : Shape → Row → Type 0
IsRow t r = IsHere t r.extender

rows_here : (t : Shape) (set : ℕ → Bool) (ns : List ℕ) → Each (IsHere t) ns → Each (IsRow t) (filter_map (row_of t set) ns)
rows_here t set [] all = tt
rows_here t set (n ∷ ns) all =
    let rest = rows_here t set ns all.1 in
    elim (cases_Bool (mask_of t set n == 0)) [ inl e ↦ rw e rest | inr e ↦ rw e (all.0, rest) ]

filter_here : (t : Shape) (test : Row → Bool) (rs : List Row) → Each (IsRow t) rs → Each (IsRow t) (filter test rs)
filter_here t test rs all = each_map (λ r. IsRow t r × (test r ≡ true)) (IsRow t) (filter test rs) (λ r p. p.0) (each_filter (IsRow t) test rs all)

known_rows : (t : Shape) (step : RowAction) (c : ℕ) (rs : List Row) → Each (IsRow t) rs → AreKnown t (map (channel_ask step c) rs)
known_rows t step c [] all = tt
known_rows t step c (r ∷ rs) all = (all.0, known_rows t step c rs all.1)

known_channel : (step : RowAction) (t : Shape) (p c : ℕ) → AreKnown t (channel_asks step t p c)
unfolding channel_rows rows_of
known_channel step t p c =
    known_rows t step c (channel_rows t p) (filter_here t (λ row. not (row.extender == device p)) (rows_of t (λ q. q == p)) (rows_here t (λ q. q == p) (by_depth t) (order_here t)))

known_create : (t : Shape) (p : ℕ) (cascade : Bool) (c : ℕ) → IsHere t (device p) → AreKnown t (create_asks t p cascade c)
unfolding create_asks
known_create t p cascade c here = known_append t (channel_asks Lay t p c) _ (known_channel Lay t p c) (here, tt)

known_delete : (t : Shape) (p c : ℕ) → IsHere t (device p) → AreKnown t (delete_asks t p c)
unfolding delete_asks
known_delete t p c here = known_append t (channel_asks Clear t p c) _ (known_channel Clear t p c) (here, tt)

-- ---- ports
up_here : (t : Shape) (old new : Bridge) (p : ℕ) → goes_up t old new ≡ Some p → IsHere t (device p)
up_here t old new p e = extended_extender t p (any_extended t old new (Some p) e)

-- ---- changes
known_up : (t : Shape) (c : ℕ) (o : Option ℕ) → ((p : ℕ) → o ≡ Some p → IsHere t (device p)) → AreKnown t (up_asks t c o)
known_up t c None here = tt
known_up t c (Some p) here = known_create t p false c (here p refl)

known_down : (t : Shape) (c : ℕ) (o : Option ℕ) → ((p : ℕ) → o ≡ Some p → IsHere t (device p)) → AreKnown t (down_asks t c o)
known_down t c None here = tt
known_down t c (Some p) here = known_delete t p c (here p refl)

known_between : (t : Shape) (l : Limits) (old new : Bridge) (h : Held) → IsKnown t (change_of t l old new h)
unfolding change_of prepare_of cleanup_of
known_between t l old new h =
    record {
      prepare = known_append t _ _ (known_up t _ (goes_up t old new) (up_here t old new)) (known_groups Lay t _);
      cleanup = known_append t _ _ (known_groups Clear t _) (known_down t _ (goes_up t new old) (up_here t new old));
    }

ready_is : (o : Option Cause) (x y : Change) (h claimed : Held) → outcome_by o x h ≡ Ready y claimed → x ≡ y
ready_is None x y h claimed e = cc
ready_is (Some cause) x y h claimed e = absurd (cc)

range_high : (a n : ℕ) → 64 ≤ a → Each (λ q. 64 ≤ q) (range_with_len a n)
range_high a zero high = tt
range_high a (suc n) high = (high, range_high (a + 1) n (omega (arith, high)))

known_cascades : (t : Shape) (c : ℕ → ℕ) (qs : List ℕ) → Each (λ q. 64 ≤ q) qs → AreKnown t (flat_map (λ q. create_asks t q true (c q)) (filter (λ q. is_port t q && is_cascade t q) qs))
known_cascades t c [] high = tt
known_cascades t c (q ∷ qs) high = elim (cases_Bool (is_port t q && is_cascade t q)) [
  | inl e ↦ rw (e, flat_map-cons) (known_append t _ _ (known_create t q true (c q) (port_extender t q high.0 (and_parts (is_port t q) (is_cascade t q) e).0)) (known_cascades t c qs high.1))
  | inr e ↦ rw e (known_cascades t c qs high.1)
]

pub plans_are_known : PlansAreKnown
unfolding decide opening_asks cascades_of
plans_are_known t l b h (job.Opening n) x claimed fits is =
    let same : opening_change t n h ≡ x = cc in
    let some = ltb-true 0 n (and_parts (nat_lt 0 n) _ fits).0 in
    subst (IsKnown t) same (record { prepare = (fits, known_cascades t (channel_of t h) (range_with_len (64 * n) 64) (range_high (64 * n) 64 (omega (arith, some)))); cleanup = tt })
plans_are_known t l b h (job.AutomaticUp p) x claimed fits is =
    subst (IsKnown t) (ready_is (refusal_between t l b (after (command.Up p) b)) _ x _ claimed is) (known_between t l b (after (command.Up p) b) h)
plans_are_known t l b h (job.Ordered n c) x claimed fits is =
    subst (IsKnown t) (ready_is (refusal_between t l b (after c b)) _ x _ claimed is) (known_between t l b (after c b) h)
