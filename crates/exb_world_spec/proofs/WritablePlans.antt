-- Whatever a plan asks can be written in one control message.
use Rattle.std.proofs.Common.{◌≡◌, ℕ, zero, suc, ◌+◌, ◌-◌, ◌%◌, ◌<◌, ◌≤◌, ◌==◌, ◌++◌, ◌^◌, not, Bool, true, false, List, [], ◌∷◌, length, map, take, drop, filter, Option, Some, None, refl, ap, subst, arith, inl, inr, length-append, length-take}
use Rattle.std.specs.List.{flat_map, range_with_len, AllByRecursion}
use Rattle.std.specs.Prelude.{filter_map}
use Rattle.std.specs.Int.{w16, w64, to_be_bytes}
use Rattle.std.proofs.lemmas.Bool.{cases_Bool}
use Rattle.exb_model.specs.declared.command.Command.TheVariants as command
use Rattle.exb_model.specs.declared.event.Cause.{Cause}
use Rattle.exb_model.specs.Tree.{Shape, device, trunk, is_cascade, by_depth, port_number}
use Rattle.exb_model.specs.TreeSets.{mask_of}
use Rattle.exb_model.specs.Setup.{Limits}
use Rattle.exb_model.specs.Configuration.{Bridge, after}
use Rattle.exb_model.proofs.MaskLemmas.{bits_of-lt}
use Rattle.exb_csp.specs.declared.group_rows.GroupRow.{GroupRow}
use Rattle.exb_csp.specs.declared.message.Request.TheVariants.{PortCreate, PortDelete}
use Rattle.exb_csp.specs.Encoding.{IsRow, request_bytes}
use Rattle.exb_csp.proofs.ListLengths.{length_rows, length_ecids}
use Rattle.exb_control_spec.specs.declared.plan.row.Row.{Row}
use Rattle.exb_control_spec.specs.Plans.Rows.{row_of, rows_of}
use Rattle.exb_control_spec.specs.Plans.Sets.{PortsAt}
use Rattle.exb_model.specs.LowestFree.{lowest_free}
use Rattle.exb_csp.specs.declared.ask_at.AskAt.{AskAt}
use Rattle.exb_control_spec.specs.declared.plan.row_action.RowAction.{RowAction}
use Rattle.exb_control_spec.specs.declared.plan.row_action.RowAction.TheVariants.{Lay, Clear}
use Rattle.exb_control_spec.specs.declared.plan.change.Change.{Change}
use Rattle.exb_control_spec.specs.Plans.HeldNumbers.{Held, Group, channel_in, or_zero, group_used, channel_used, free_group, free_channel, give, group_for, numbered}
use Rattle.exb_model.specs.Lists.{is_listed}
use Rattle.exb_control_spec.specs.Plans.ChangeRequests.{ask, pieces, in_messages, register, unregister, numbers_of, message, rows_at, asks_with, group_asks, channel_rows, channel_ask, channel_asks, create_asks, delete_asks}
use Rattle.exb_control_spec.specs.Plans.Differences.{refusal_between, goes_up, goes_down, group_at, is_gone, gone_at, gone_groups, fresh_sets}
use Rattle.exb_model.specs.Refusals.{bridge_ports}
use Rattle.exb_control_spec.specs.Plans.Sets.{sets_of}
use Rattle.exb_control_spec.specs.Plans.Plans.{claimed, change_of, prepare_of, cleanup_of, fresh_groups, with_up, new_channel, own_channel, up_asks, down_asks}
use Rattle.exb_control_spec.proofs.Plans.Ranges.{IsFound, found}
use Rattle.exb_control_spec.proofs.Plans.ChannelOwners.{IsChannelOf, channel_found}
use Rattle.exb_control_spec.specs.declared.job.Job.{Job}
use Rattle.exb_control_spec.specs.declared.job.Job.TheVariants as job
use Rattle.exb_control_spec.specs.Decisions.{Ready, decide, channel_of, cascades_of, opening_asks, outcome_by}
use Rattle.exb_control_spec.specs.Runs.PlannedChanges.{IsSetting}
use Rattle.exb_world_spec.specs.Runs.Sessions.{Each, CanAsk, AllCan}
use Rattle.exb_world_spec.proofs.LinkFrames.{each_append}

-- ---- lists
can_append : (xs ys : List AskAt) → AllCan xs → AllCan ys → AllCan (xs ++ ys)
can_append [] ys a b = b
can_append (x ∷ xs) ys a b = (a.0, can_append xs ys a.1 b)

can_map : {X : Type 0} (Q : X → Type 0) (f : X → AskAt) (xs : List X) → Each Q xs → ((x : X) → Q x → CanAsk (f x).request) → AllCan (map f xs)
can_map Q f [] all each = tt
can_map Q f (x ∷ xs) all each = (each x all.0, can_map Q f xs all.1 each)

can_flat : {X : Type 0} (f : X → List AskAt) (xs : List X) → ((x : X) → AllCan (f x)) → AllCan (flat_map f xs)
can_flat f [] each = tt
can_flat f (x ∷ xs) each = can_append (f x) (flat_map f xs) (each x) (can_flat f xs each)

each_filter : {X : Type 0} (Q : X → Type 0) (test : X → Bool) (xs : List X) → Each Q xs → Each Q (filter test xs)
each_filter Q test [] all = tt
each_filter Q test (x ∷ xs) all = elim (cases_Bool (test x)) [ inl e ↦ rw e (all.0, each_filter Q test xs all.1) | inr e ↦ rw e (each_filter Q test xs all.1) ]

each_flat : {X Y : Type 0} (Q : Y → Type 0) (f : X → List Y) (xs : List X) → ((x : X) → Each Q (f x)) → Each Q (flat_map f xs)
each_flat Q f [] each = tt
each_flat Q f (x ∷ xs) each = each_append Q (f x) (flat_map f xs) (each x) (each_flat Q f xs each)

each_take : {X : Type 0} (Q : X → Type 0) (n : ℕ) (xs : List X) → Each Q xs → Each Q (take n xs)
each_take Q zero xs all = tt
each_take Q (suc n) [] all = tt
each_take Q (suc n) (x ∷ xs) all = (all.0, each_take Q n xs all.1)

each_drop : {X : Type 0} (Q : X → Type 0) (n : ℕ) (xs : List X) → Each Q xs → Each Q (drop n xs)
each_drop Q zero xs all = all
each_drop Q (suc n) [] all = tt
each_drop Q (suc n) (x ∷ xs) all = each_drop Q n xs all.1

-- ---- messages
rows_each : (rows : List GroupRow) → Each IsRow rows → AllByRecursion IsRow rows
rows_each [] all = tt
rows_each (r ∷ rows) all = (all.0, rows_each rows all.1)

numbers_each : (ns : List ℕ) → Each (λ n. n < 2 ^ 16) ns → AllByRecursion (λ n. n < 2 ^ 16) ns
numbers_each [] all = tt
numbers_each (n ∷ ns) all = (all.0, numbers_each ns all.1)

register_can : (rows : List GroupRow) → 1 ≤ length rows → length rows ≤ 64 → Each IsRow rows → CanAsk (register rows)
unfolding request_bytes
register_can [] some few all = absurd (omega arith)
register_can (r ∷ []) some few all = record { spelled = tt; fits = (all.0.ecid, all.0.mask); short = omega (arith, length-append (to_be_bytes w16 r.ecid) (to_be_bytes w64 r.mask)) }
register_can (r ∷ s ∷ rows) some few all =
    record { spelled = (omega arith, few); fits = rows_each (r ∷ s ∷ rows) all; short = omega (arith, length_rows (r ∷ s ∷ rows)) }

unregister_can : (ns : List ℕ) → 1 ≤ length ns → length ns ≤ 64 → Each (λ n. n < 2 ^ 16) ns → CanAsk (unregister ns)
unfolding request_bytes
unregister_can [] some few all = absurd (omega arith)
unregister_can (n ∷ []) some few all = record { spelled = tt; fits = all.0; short = omega arith }
unregister_can (n ∷ m ∷ ns) some few all =
    record { spelled = (omega arith, few); fits = numbers_each (n ∷ m ∷ ns) all; short = omega (arith, length_ecids (n ∷ m ∷ ns)) }

numbers_of_each : (rows : List GroupRow) → Each IsRow rows → Each (λ n. n < 2 ^ 16) (numbers_of rows)
numbers_of_each [] all = tt
numbers_of_each (r ∷ rows) all = (all.0.ecid, numbers_of_each rows all.1)

numbers_length : (rows : List GroupRow) → length (numbers_of rows) ≡ length rows
numbers_length [] = refl
numbers_length (r ∷ rows) = ap suc (numbers_length rows)

message_can : (step : RowAction) (rows : List GroupRow) → 1 ≤ length rows → length rows ≤ 64 → Each IsRow rows → CanAsk (message step rows)
message_can Lay rows some few all = register_can rows some few all
message_can Clear rows some few all =
    let same : length (numbers_of rows) ≡ length rows = numbers_length rows in
    unregister_can (numbers_of rows) (omega arith) (omega arith) (numbers_of_each rows all)

-- in pieces
record IsPiece (rows : List GroupRow) : Type 0 where
  some : 1 ≤ length rows
  few : length rows ≤ 64
  each : Each IsRow rows

all_pieces : (n : ℕ) (rows : List GroupRow) → Each IsRow rows → Each IsPiece (pieces n rows)
unfolding pieces
all_pieces zero rows all = tt
all_pieces (suc n) [] all = tt
all_pieces (suc n) (r ∷ rows) all = (
  record { some = omega (arith, length-take 64 (r ∷ rows)); few = omega (arith, length-take 64 (r ∷ rows)); each = each_take IsRow 64 (r ∷ rows) all },
  all_pieces n (drop 64 (r ∷ rows)) (each_drop IsRow 64 (r ∷ rows) all),
)

asks_can : (step : RowAction) (rows : List GroupRow) (n : ℕ) → Each IsRow rows → AllCan (asks_with step rows n)
unfolding in_messages
asks_can step rows n all = can_map IsPiece (λ piece. ask n (message step piece)) (in_messages rows) (all_pieces (length rows) rows all) (λ piece k. message_can step piece k.some k.few k.each)

-- ---- groups
mask_few : (t : Shape) (set : ℕ → Bool) (n : ℕ) → mask_of t set n < 2 ^ 64
mask_few t set n = bits_of-lt _ 64

all_rows : (t : Shape) (groups : List Group) (n : ℕ) → Each (λ (x : Group). x.number < 2 ^ 16) groups → Each IsRow (rows_at t groups n)
all_rows t [] n all = tt
all_rows t (x ∷ groups) n all =
    elim (cases_Bool (mask_of t (is_listed x.ports) n == 0)) [
      | inl e ↦ rw e (all_rows t groups n all.1)
      | inr e ↦ rw e (record { ecid = all.0; mask = mask_few t (is_listed x.ports) n }, all_rows t groups n all.1)
    ]

group_asks_can : (step : RowAction) (t : Shape) (groups : List Group) → Each (λ (x : Group). x.number < 2 ^ 16) groups → AllCan (group_asks step t groups)
unfolding group_asks
group_asks_can step t groups all = can_flat (λ n. asks_with step (rows_at t groups n) n) (by_depth t) (λ n. asks_can step (rows_at t groups n) n (all_rows t groups n all))

-- ---- channels
each_row : (t : Shape) (set : ℕ → Bool) (ns : List ℕ) → Each (λ (r : Row). r.mask < 2 ^ 64) (filter_map (row_of t set) ns)
each_row t set [] = tt
each_row t set (n ∷ ns) =
    elim (cases_Bool (mask_of t set n == 0)) [
      | inl e ↦ rw e (each_row t set ns)
      | inr e ↦ rw e (mask_few t set n, each_row t set ns)
    ]

channel_can : (step : RowAction) (t : Shape) (p c : ℕ) → c < 2 ^ 16 → AllCan (channel_asks step t p c)
unfolding channel_rows rows_of
channel_can step t p c few =
    can_map (λ (r : Row). r.mask < 2 ^ 64) (channel_ask step c) (channel_rows t p)
    (each_filter (λ (r : Row). r.mask < 2 ^ 64) (λ (r : Row). not (r.extender == device p)) (rows_of t (λ q. q == p)) (each_row t (λ q. q == p) (by_depth t)))
    (λ r k. message_can step (record { ecid = c; mask = r.mask } ∷ []) (omega arith) (omega arith) (record { ecid = few; mask = k }, tt))

create_can : (t : Shape) (p : ℕ) (cascade : Bool) (c : ℕ) → c < 2 ^ 16 → AllCan (create_asks t p cascade c)
unfolding create_asks request_bytes
create_can t p cascade c few =
    can_append (channel_asks Lay t p c) (ask (device p) (PortCreate (port_number p) cascade c) ∷ []) (channel_can Lay t p c few)
    (record { spelled = tt; fits = (let r : p % 64 < 64 = omega arith in omega arith, few); short = omega arith }, tt)

delete_can : (t : Shape) (p c : ℕ) → c < 2 ^ 16 → AllCan (delete_asks t p c)
unfolding delete_asks request_bytes
delete_can t p c few =
    can_append (channel_asks Clear t p c) (ask (device p) (PortDelete (port_number p)) ∷ []) (channel_can Clear t p c few)
    (record { spelled = tt; fits = (let r : p % 64 < 64 = omega arith in omega arith); short = omega arith }, tt)

-- ---- numbers
lowest_few : (used : ℕ → Bool) (a n m : ℕ) → a + n ≤ m → or_zero (lowest_free used a n) ≤ m
unfolding lowest_free
lowest_few used a n m few = by_option (lowest_free used a n) refl
  where
    by_option : (o : Option ℕ) → lowest_free used a n ≡ o → or_zero o ≤ m
    by_option None e = omega arith
    by_option (Some k) e = let is : IsFound (λ i. not (used i)) a n k = found (λ i. not (used i)) a n k e in omega (arith, is.high)

held_few : (h : Held) (k p : ℕ) → or_zero (channel_in h k p) < 2 ^ 16
held_few h k p = by_option (channel_in h k p) refl
  where
    by_option : (o : Option ℕ) → channel_in h k p ≡ o → or_zero o < 2 ^ 16
    by_option None e = omega arith
    by_option (Some c) e = let is : IsChannelOf h k p c = channel_found h k p c e in omega (arith, is.high)

numbered_few : (groups : ℕ) (h : Held) (sets : List PortsAt) → groups ≤ 12288 → Each (λ (x : Group). x.number < 2 ^ 16) (numbered groups h sets)
unfolding numbered
numbered_few groups h [] few = tt
numbered_few groups h (s ∷ sets) few = (
  let k : free_group groups h (s.bridge_port - 1) ≤ 16384 = lowest_few (group_used h (s.bridge_port - 1)) 4096 groups 16384 (omega arith) in omega (arith, k),
  numbered_few groups (give (group_for groups h s) h) sets few,
)

range_few : (a n m : ℕ) → a + n ≤ m → Each (λ i. i < m) (range_with_len a n)
range_few a zero m few = tt
range_few a (suc n) m few = (omega arith, range_few (a + 1) n m (omega arith))

gone_few : (t : Shape) (kept : List PortsAt) (h : Held) → Each (λ (x : Group). x.number < 2 ^ 16) (gone_groups t kept h)
unfolding gone_groups gone_at
gone_few t kept h = each_flat (λ (x : Group). x.number < 2 ^ 16) (gone_at kept h) (filter (is_cascade t) bridge_ports) (λ k. at_port k)
  where
    placed : (k : ℕ) (gs : List ℕ) → Each (λ g. g < 2 ^ 16) gs → Each (λ (x : Group). x.number < 2 ^ 16) (map (group_at h k) gs)
    placed k [] all = tt
    placed k (g ∷ gs) all = (all.0, placed k gs all.1)

    at_port : (k : ℕ) → Each (λ (x : Group). x.number < 2 ^ 16) (gone_at kept h k)
    at_port k = placed k (filter (is_gone kept h k) (range_with_len 4096 12288)) (each_filter (λ g. g < 2 ^ 16) (is_gone kept h k) (range_with_len 4096 12288) (range_few 4096 12288 (2 ^ 16) (omega arith)))

-- ---- plans
module _ (t : Shape) (l : Limits) (setting : IsSetting t l) where
  prepare_can : (old new : Bridge) (h : Held) → AllCan (prepare_of t l old new h)
  unfolding prepare_of fresh_groups
  prepare_can old new h =
      can_append (up_asks t (new_channel t l h (goes_up t old new)) (goes_up t old new)) (group_asks Lay t (fresh_groups t l old new h)) (by_up (goes_up t old new))
      (group_asks_can Lay t (fresh_groups t l old new h) (numbered_few l.groups (with_up t l old new h) (fresh_sets t old new) setting.groups))
    where
      by_up : (o : Option ℕ) → AllCan (up_asks t (new_channel t l h o) o)
      by_up None = tt
      by_up (Some p) =
          let c : ℕ = free_channel l.channels h (trunk t (device p)) in
          let k : c ≤ 4095 = lowest_few (channel_used h (trunk t (device p))) 1 l.channels 4095 (omega (arith, setting.channels)) in
          create_can t p false c (omega (arith, k))

  cleanup_can : (old new : Bridge) (h : Held) → AllCan (cleanup_of t old new h)
  unfolding cleanup_of
  cleanup_can old new h =
      can_append (group_asks Clear t (gone_groups t (sets_of t new) h)) (down_asks t (own_channel t h (goes_down t old new)) (goes_down t old new))
      (group_asks_can Clear t (gone_groups t (sets_of t new) h) (gone_few t (sets_of t new) h)) (by_down (goes_down t old new))
    where
      by_down : (o : Option ℕ) → AllCan (down_asks t (own_channel t h o) o)
      by_down None = tt
      by_down (Some p) = delete_can t p (own_channel t h (Some p)) (held_few h (trunk t (device p)) p)

  opening_can : (n : ℕ) (h : Held) → AllCan (opening_asks t n h)
  unfolding opening_asks request_bytes
  opening_can n h = (
    record { spelled = tt; fits = tt; short = omega arith },
    can_flat (λ q. create_asks t q true (channel_of t h q)) (cascades_of t n) (λ q. create_can t q true (channel_of t h q) (held_few h (trunk t (device q)) q)),
  )

  pub record CanChange (x : Change) : Type 0 where
    pub prepare : AllCan x.prepare
    pub cleanup : AllCan x.cleanup

  change_can : (b : Bridge) (new : Bridge) (h : Held) → CanChange (change_of t l b new h)
  unfolding change_of
  change_can b new h = record { prepare = prepare_can b new h; cleanup = cleanup_can b new h }

  -- all requests of a change that is decided
  pub decided_can : (b : Bridge) (h : Held) (j : Job) (x : Change) (g : Held) → decide t l b h j ≡ Ready x g → CanChange x
  unfolding decide
  decided_can b h (job.Opening n) x g e =
      let same : Rattle.exb_control_spec.specs.Decisions.opening_change t n h ≡ x = cc in
      subst CanChange same (record { prepare = opening_can n h; cleanup = tt })
  decided_can b h (job.AutomaticUp p) x g e = between (after (command.Up p) b) (refusal_between t l b (after (command.Up p) b)) e
    where
      between : (new : Bridge) (o : Option Cause) → outcome_by o (change_of t l b new h) (claimed t l b new h) ≡ Ready x g → CanChange x
      between new None e = let same : change_of t l b new h ≡ x = cc in subst CanChange same (change_can b new h)
      between new (Some cause) e = absurd (cc)
  decided_can b h (job.Ordered n c) x g e = between (after c b) (refusal_between t l b (after c b)) e
    where
      between : (new : Bridge) (o : Option Cause) → outcome_by o (change_of t l b new h) (claimed t l b new h) ≡ Ready x g → CanChange x
      between new None e = let same : change_of t l b new h ≡ x = cc in subst CanChange same (change_can b new h)
      between new (Some cause) e = absurd (cc)
