-- What is still to come of several bridges, sorted by turns: all commands of a moment have theirs before its records.
use Rattle.std.proofs.Common.{◌≡◌, ℕ, suc, ◌+◌, ◌*◌, ◌<◌, ◌≤◌, Bool, true, false, cond, List, [], ◌∷◌, ◌++◌, length, map, refl, sym, ap, subst, ◌∙◌, arith, inl, inr}
use Rattle.std.specs.Prelude.{⊤, ◌≢◌, nat_lt, nat_le, min, Option, Some, None, IfSome}
use Rattle.std.specs.List.{AllByRecursion}
use Rattle.std.proofs.lemmas.Bool.{cases_lt, lt-ltb, le-ltb, leb-true}
use Rattle.std.proofs.lemmas.List.{append_assoc}
use Rattle.exb_model.specs.declared.setup.Timed.{Timed}
use Rattle.exb_model.specs.declared.arrival.Arrival.{Arrival}
use Rattle.exb_model.specs.Input.{Coming, Ordered, Captured, Given, by_moment, commands_from, given_by, moment_of, put_in_order}
use Rattle.exb_net_spec.specs.NetHistory.{Due, due_at, due_moment, dues_by_moment, put_due}
use Rattle.exb_timeline.specs.MergeOrder.{ToPlay, commands_left, first_moment, still_to_come, turn_by, with_commands}
use Rattle.exb_timeline.specs.NetMergeOrder.{dues_left, orders_from, records_from}
use Rattle.exb_timeline.proofs.CommandsAmongRecords.{Rising, command-first, not-first, record-first, rising-commands}
use Rattle.exb_timeline.proofs.SortedByMoment.{NoneBefore}
use Rattle.exb_timeline.proofs.StableSort.{put, puts, sort, AreFrom, HaveOther, IsSorted, puts_append, puts_others, puts_put, sort_first, sort_sorts}

-- the turn of what comes, in halves of a nanosecond
abbrev pub coming_turn : Coming → ℕ
coming_turn (Ordered moment n) = 2 * moment
coming_turn (Captured a) = 2 * a.moment + 1

abbrev pub due_turn : Due → ℕ
due_turn d = coming_turn d.coming

abbrev pub due : ℕ → Coming → Due
due b x = record { bridge = b; coming = x }

-- ---- sorting by moment, by the key
put_is : (x : Due) (ys : List Due) → put_due x ys ≡ put due_moment x ys
put_is x [] = refl
put_is x (y ∷ ys) = ap (λ (us : List Due). cond (nat_lt (due_moment y) (due_moment x)) (y ∷ us) (x ∷ y ∷ ys)) (put_is x ys)

pub by_key : (xs : List Due) → dues_by_moment xs ≡ sort due_moment xs
by_key [] = refl
by_key (x ∷ xs) = put_is x (dues_by_moment xs) ∙ ap (put due_moment x) (by_key xs)

put_at : (b : ℕ) (x : Coming) (ys : List Coming) → due_at b (put_in_order x ys) ≡ put due_moment (due b x) (due_at b ys)
put_at b x [] = refl
put_at b x (y ∷ ys) = by_test (put_at b x ys) (nat_lt (moment_of y) (moment_of x))
  where
    by_test : due_at b (put_in_order x ys) ≡ put due_moment (due b x) (due_at b ys) → (t : Bool) →
        due_at b (cond t (y ∷ put_in_order x ys) (x ∷ y ∷ ys)) ≡ cond t (due b y ∷ put due_moment (due b x) (due_at b ys)) (due b x ∷ due b y ∷ due_at b ys)
    by_test rest true = ap (λ (us : List Due). due b y ∷ us) rest
    by_test rest false = refl

with_at : (b : ℕ) (cs ys : List Coming) → due_at b (with_commands cs ys) ≡ puts due_moment (due_at b cs) (due_at b ys)
with_at b [] ys = refl
with_at b (c ∷ cs) ys = put_at b c (with_commands cs ys) ∙ ap (put due_moment (due b c)) (with_at b cs ys)

pub sort_at : (b : ℕ) (xs : List Coming) → due_at b (by_moment xs) ≡ sort due_moment (due_at b xs)
sort_at b [] = refl
sort_at b (x ∷ xs) = put_at b x (by_moment xs) ∙ ap (put due_moment (due b x)) (sort_at b xs)

-- ---- commands and records
abbrev pub IsOrder : Coming → Type 0
IsOrder (Ordered moment n) = ⊤
IsOrder (Captured a) = ⊥

abbrev pub IsRecord : Coming → Type 0
IsRecord (Ordered moment n) = ⊥
IsRecord (Captured a) = ⊤

abbrev pub AreOrders : List Due → Type 0
AreOrders = AllByRecursion (λ d. IsOrder d.coming)

abbrev pub AreRecords : List Due → Type 0
AreRecords = AllByRecursion (λ d. IsRecord d.coming)

order_test : (x y : Coming) → IsOrder x → nat_lt (moment_of y) (moment_of x) ≡ nat_lt (coming_turn y) (coming_turn x)
order_test (Captured a) y order = absurd order
order_test (Ordered m n) (Ordered k j) order =
    elim (cases_lt k m) [
      | inl less ↦ lt-ltb k m less ∙ sym (lt-ltb (2 * k) (2 * m) (omega (arith, less)))
      | inr low ↦ le-ltb k m low ∙ sym (le-ltb (2 * k) (2 * m) (omega (arith, low)))
    ]
order_test (Ordered m n) (Captured a) order =
    elim (cases_lt a.moment m) [
      | inl less ↦ lt-ltb a.moment m less ∙ sym (lt-ltb (2 * a.moment + 1) (2 * m) (omega (arith, less)))
      | inr low ↦ le-ltb a.moment m low ∙ sym (le-ltb (2 * a.moment + 1) (2 * m) (omega (arith, low)))
    ]

record_test : (x y : Coming) → IsRecord x → IsRecord y → nat_lt (moment_of y) (moment_of x) ≡ nat_lt (coming_turn y) (coming_turn x)
record_test (Ordered m n) y here there = absurd here
record_test (Captured a) (Ordered m n) here there = absurd there
record_test (Captured a) (Captured c) here there =
    elim (cases_lt c.moment a.moment) [
      | inl less ↦ lt-ltb c.moment a.moment less ∙ sym (lt-ltb (2 * c.moment + 1) (2 * a.moment + 1) (omega (arith, less)))
      | inr low ↦ le-ltb c.moment a.moment low ∙ sym (le-ltb (2 * c.moment + 1) (2 * a.moment + 1) (omega (arith, low)))
    ]

put_order : (x : Due) (ys : List Due) → IsOrder x.coming → put due_moment x ys ≡ put due_turn x ys
put_order x [] order = refl
put_order x (y ∷ ys) order =
    ap (λ (t : Bool). cond t (y ∷ put due_moment x ys) (x ∷ y ∷ ys)) (order_test x.coming y.coming order)
    ∙ ap (λ (us : List Due). cond (nat_lt (due_turn y) (due_turn x)) (y ∷ us) (x ∷ y ∷ ys)) (put_order x ys order)

put_record : (x : Due) (ys : List Due) → IsRecord x.coming → AreRecords ys → put due_moment x ys ≡ put due_turn x ys
put_record x [] here all = refl
put_record x (y ∷ ys) here all =
    ap (λ (t : Bool). cond t (y ∷ put due_moment x ys) (x ∷ y ∷ ys)) (record_test x.coming y.coming here all.0)
    ∙ ap (λ (us : List Due). cond (nat_lt (due_turn y) (due_turn x)) (y ∷ us) (x ∷ y ∷ ys)) (put_record x ys here all.1)

puts_orders : (xs ys : List Due) → AreOrders xs → puts due_moment xs ys ≡ puts due_turn xs ys
puts_orders [] ys all = refl
puts_orders (x ∷ xs) ys all = put_order x (puts due_moment xs ys) all.0 ∙ ap (put due_turn x) (puts_orders xs ys all.1)

records_put : (x : Due) (ys : List Due) → IsRecord x.coming → AreRecords ys → AreRecords (put due_moment x ys)
records_put x [] here all = (here, tt)
records_put x (y ∷ ys) here all = by_test (records_put x ys here all.1) (nat_lt (due_moment y) (due_moment x))
  where
    by_test : AreRecords (put due_moment x ys) → (t : Bool) → AreRecords (cond t (y ∷ put due_moment x ys) (x ∷ y ∷ ys))
    by_test rest true = (all.0, rest)
    by_test rest false = (here, all)

records_puts : (xs ys : List Due) → AreRecords xs → AreRecords ys → AreRecords (puts due_moment xs ys)
records_puts [] ys all also = also
records_puts (x ∷ xs) ys all also = records_put x (puts due_moment xs ys) all.0 (records_puts xs ys all.1 also)

puts_records : (xs ys : List Due) → AreRecords xs → AreRecords ys → puts due_moment xs ys ≡ puts due_turn xs ys
puts_records [] ys all also = refl
puts_records (x ∷ xs) ys all also =
    put_record x (puts due_moment xs ys) all.0 (records_puts xs ys all.1 also) ∙ ap (put due_turn x) (puts_records xs ys all.1 also)

-- a command never has the turn of a record
other_turn : (x y : Coming) → IsRecord x → IsOrder y → coming_turn x ≢ coming_turn y
other_turn (Ordered m n) y here there e = absurd here
other_turn (Captured a) (Captured c) here there e = absurd there
other_turn (Captured a) (Ordered m n) here there e = omega (arith, e)

other_turns : (xs ys : List Due) → AreRecords xs → AreOrders ys → HaveOther due_turn xs ys
other_turns [] ys all also = tt
other_turns (x ∷ xs) ys all also = (each ys also, other_turns xs ys all.1 also)
  where
    each : (zs : List Due) → AreOrders zs → AllByRecursion (λ z. due_turn x ≢ due_turn z) zs
    each [] orders = tt
    each (z ∷ zs) orders = (other_turn x.coming z.coming all.0 orders.0, each zs orders.1)

-- ---- all bridges
orders_at : (b start n : ℕ) (cs : List Given) → AreOrders (due_at b (commands_from start n cs))
orders_at b start n [] = tt
orders_at b start n (c ∷ cs) = (tt, orders_at b start (suc n) cs)

pub captured_at : (b : ℕ) (as_ : List Arrival) → AreRecords (due_at b (map Captured as_))
captured_at b [] = tt
captured_at b (a ∷ as_) = (tt, captured_at b as_)

both_orders : (xs ys : List Due) → AreOrders xs → AreOrders ys → AreOrders (xs ++ ys)
both_orders [] ys all also = also
both_orders (x ∷ xs) ys all also = (all.0, both_orders xs ys all.1 also)

both_records : (xs ys : List Due) → AreRecords xs → AreRecords ys → AreRecords (xs ++ ys)
both_records [] ys all also = also
both_records (x ∷ xs) ys all also = (all.0, both_records xs ys all.1 also)

all_orders : (b : ℕ) (ts : List ToPlay) → AreOrders (orders_from b ts)
all_orders b [] = tt
all_orders b (t ∷ ts) = both_orders (due_at b (commands_left t)) (orders_from (suc b) ts) (orders_at b t.start (t.taken + 1) _) (all_orders (suc b) ts)

-- what is still to come of its captures are records, sorted by moment
abbrev pub HasRecords : ToPlay → Type 0
HasRecords t = (as_ : List Arrival) × (t.records ≡ by_moment (map Captured as_))

own_records : (b : ℕ) (t : ToPlay) → HasRecords t → AreRecords (due_at b t.records)
own_records b t has =
    subst (λ (xs : List Coming). AreRecords (due_at b xs)) (sym has.1)
    (subst AreRecords (sym (sort_at b (map Captured has.0))) (records_puts (due_at b (map Captured has.0)) [] (captured_at b has.0) tt))

all_records : (b : ℕ) (ts : List ToPlay) → AllByRecursion HasRecords ts → AreRecords (records_from b ts)
all_records b [] all = tt
all_records b (t ∷ ts) all = both_records (due_at b t.records) (records_from (suc b) ts) (own_records b t all.0) (all_records (suc b) ts all.1)

-- what is still to come, bridge by bridge
abbrev pub comings_from : ℕ → List ToPlay → List Due
comings_from b [] = []
comings_from b (t ∷ ts) = due_at b (still_to_come t) ++ comings_from (suc b) ts

puts_puts : (xs ys zs : List Due) → puts due_turn (puts due_turn xs ys) zs ≡ puts due_turn xs (puts due_turn ys zs)
puts_puts [] ys zs = refl
puts_puts (x ∷ xs) ys zs = puts_put due_turn x (puts due_turn xs ys) zs ∙ ap (put due_turn x) (puts_puts xs ys zs)

one_bridge : (b : ℕ) (t : ToPlay) → due_at b (still_to_come t) ≡ puts due_turn (due_at b (commands_left t)) (due_at b t.records)
unfolding still_to_come
one_bridge b t = with_at b (commands_left t) t.records ∙ puts_orders (due_at b (commands_left t)) (due_at b t.records) (orders_at b t.start (t.taken + 1) _)

all_by_turn : (b : ℕ) (ts : List ToPlay) → AllByRecursion HasRecords ts → sort due_turn (comings_from b ts) ≡ puts due_moment (orders_from b ts) (sort due_moment (records_from b ts))
all_by_turn b [] all = refl
all_by_turn b (t ∷ ts) all =
    let O : List Due = due_at b (commands_left t) in
    let D : List Due = due_at b t.records in
    let O' : List Due = orders_from (suc b) ts in
    let R' : List Due = records_from (suc b) ts in
    let own = own_records b t all.0 in
    let more = all_records (suc b) ts all.1 in
    puts_append due_turn (due_at b (still_to_come t)) (comings_from (suc b) ts) []
    ∙ ap (λ (us : List Due). puts due_turn us (sort due_turn (comings_from (suc b) ts))) (one_bridge b t)
    ∙ puts_puts O D (sort due_turn (comings_from (suc b) ts))
    ∙ ap (λ (us : List Due). puts due_turn O (puts due_turn D us)) (all_by_turn (suc b) ts all.1 ∙ puts_orders O' (sort due_moment R') (all_orders (suc b) ts))
    ∙ ap (puts due_turn O) (puts_others due_turn D O' (sort due_moment R') (other_turns D O' own (all_orders (suc b) ts)))
    ∙ ap (λ (us : List Due). puts due_turn O (puts due_turn O' us)) (sym (puts_records D (sort due_moment R') own (records_puts R' [] more tt)) ∙ sym (puts_append due_moment D R' []))
    ∙ sym (puts_append due_turn O O' (sort due_moment (D ++ R')))
    ∙ sym (puts_orders (O ++ O') (sort due_moment (D ++ R')) (both_orders O O' (orders_at b t.start (t.taken + 1) _) (all_orders (suc b) ts)))

-- so all that is left is sorted by turns
pub left_by_turn : (ts : List ToPlay) → AllByRecursion HasRecords ts → dues_left ts ≡ sort due_turn (comings_from 0 ts)
unfolding dues_left
left_by_turn ts all =
    by_key (orders_from 0 ts ++ records_from 0 ts) ∙ puts_append due_moment (orders_from 0 ts) (records_from 0 ts) [] ∙ sym (all_by_turn 0 ts all)

-- ---- the first turn of a bridge
abbrev pub first_turn : List Coming → Option ℕ
first_turn [] = None
first_turn (x ∷ xs) = Some (coming_turn x)

sorted_left : (b : ℕ) (t : ToPlay) → HasRecords t → IsSorted due_turn (due_at b (still_to_come t))
sorted_left b t has =
    let O : List Due = due_at b (commands_left t) in
    let R : List Due = due_at b (map Captured has.0) in
    let by : due_at b (still_to_come t) ≡ sort due_turn (O ++ R) =
    one_bridge b t
    ∙ ap (λ (xs : List Coming). puts due_turn O (due_at b xs)) has.1
    ∙ ap (puts due_turn O) (sort_at b (map Captured has.0) ∙ puts_records R [] (captured_at b has.0) tt)
    ∙ sym (puts_append due_turn O R []) in
    subst (IsSorted due_turn) (sym by) (sort_sorts due_turn (O ++ R))

-- where it isn't before a turn, nothing is
left_from : (b m : ℕ) (xs : List Coming) → IsSorted due_turn (due_at b xs) → IfSome (first_turn xs) (λ k. m ≤ k) → AreFrom due_turn m (due_at b xs)
left_from b m [] sorted low = tt
left_from b m (x ∷ xs) sorted low = (low, weaker (due_at b xs) sorted.0)
  where
    weaker : (ds : List Due) → AreFrom due_turn (coming_turn x) ds → AreFrom due_turn m ds
    weaker [] all = tt
    weaker (d ∷ ds) all = (omega (arith, low, all.0), weaker ds all.1)

-- it has records alone, and nothing of it comes before this turn
pub record IsAfter (m : ℕ) (t : ToPlay) : Type 0 where
  pub has : HasRecords t
  pub first : IfSome (first_turn (still_to_come t)) (λ k. m ≤ k)

both_from : (m : ℕ) (xs ys : List Due) → AreFrom due_turn m xs → AreFrom due_turn m ys → AreFrom due_turn m (xs ++ ys)
both_from m [] ys all also = also
both_from m (x ∷ xs) ys all also = (all.0, both_from m xs ys all.1 also)

comings_after : (m b : ℕ) (ts : List ToPlay) → AllByRecursion (IsAfter m) ts → AreFrom due_turn m (comings_from b ts)
comings_after m b [] all = tt
comings_after m b (t ∷ ts) all =
    both_from m (due_at b (still_to_come t)) (comings_from (suc b) ts) (left_from b m (still_to_come t) (sorted_left b t all.0.has) all.0.first) (comings_after m (suc b) ts all.1)

comings_append : (b : ℕ) (ts us : List ToPlay) → comings_from b (ts ++ us) ≡ comings_from b ts ++ comings_from (b + length ts) us
comings_append b [] us = ap (λ (k : ℕ). comings_from k us) (let e : b ≡ b + 0 = omega arith in e)
comings_append b (t ∷ ts) us =
    let e : suc b + length ts ≡ b + suc (length ts) = omega arith in
    ap (λ (ds : List Due). due_at b (still_to_come t) ++ ds) (comings_append (suc b) ts us ∙ ap (λ (k : ℕ). comings_from (suc b) ts ++ comings_from k us) e)
    ∙ sym (append_assoc (due_at b (still_to_come t)) (comings_from (suc b) ts) (comings_from (b + suc (length ts)) us))

comings_at : (ts us : List ToPlay) → comings_from 0 (ts ++ us) ≡ comings_from 0 ts ++ comings_from (length ts) us
comings_at ts us =
    let e : 0 + length ts ≡ length ts = omega arith in
    comings_append 0 ts us ∙ ap (λ (k : ℕ). comings_from 0 ts ++ comings_from k us) e

records_all : (ts : List ToPlay) (m : ℕ) → AllByRecursion (IsAfter m) ts → AllByRecursion HasRecords ts
records_all [] m all = tt
records_all (t ∷ ts) m all = (all.0.has, records_all ts m all.1)

joined_records : (ts us : List ToPlay) → AllByRecursion HasRecords ts → AllByRecursion HasRecords us → AllByRecursion HasRecords (ts ++ us)
joined_records [] us all also = also
joined_records (t ∷ ts) us all also = (all.0, joined_records ts us all.1 also)

-- What comes first of a bridge, before which none before it has its turn up to then and none behind it an earlier one, comes first of all.
pub first_of_all : (before after : List ToPlay) (t t' : ToPlay) (x : Coming) → still_to_come t ≡ x ∷ still_to_come t' → HasRecords t → HasRecords t' →
    AllByRecursion (IsAfter (suc (coming_turn x))) before → AllByRecursion (IsAfter (coming_turn x)) after →
    dues_left (before ++ t ∷ after) ≡ due (length before) x ∷ dues_left (before ++ t' ∷ after)
first_of_all before after t t' x is has has' ahead behind =
    let b : ℕ = length before in
    let C : List Due = comings_from 0 before in
    let E : List Due = comings_from (suc b) after in
    let rest : List Due = due_at b (still_to_come t') ++ E in
    let old : comings_from 0 (before ++ t ∷ after) ≡ C ++ due b x ∷ rest =
    comings_at before (t ∷ after) ∙ ap (λ (xs : List Coming). C ++ (due_at b xs ++ E)) is in
    let new : comings_from 0 (before ++ t' ∷ after) ≡ C ++ rest = comings_at before (t' ∷ after) in
    let own : IsSorted due_turn (due b x ∷ due_at b (still_to_come t')) = subst (λ (xs : List Coming). IsSorted due_turn (due_at b xs)) is (sorted_left b t has) in
    let front = records_all before (suc (coming_turn x)) ahead in
    let back = records_all after (coming_turn x) behind in
    left_by_turn (before ++ t ∷ after) (joined_records before (t ∷ after) front (has, back))
    ∙ ap (sort due_turn) old
    ∙ sort_first due_turn C (due b x) rest (comings_after (suc (coming_turn x)) 0 before ahead)
    (both_from (coming_turn x) (due_at b (still_to_come t')) E own.0 (comings_after (coming_turn x) (suc b) after behind))
    ∙ ap (λ (ds : List Due). due b x ∷ sort due_turn ds) (sym new)
    ∙ ap (λ (ds : List Due). due b x ∷ ds) (sym (left_by_turn (before ++ t' ∷ after) (joined_records before (t' ∷ after) front (has', back))))

-- nothing is left of any
none_comes : (b : ℕ) (ts : List ToPlay) → AllByRecursion (λ t. still_to_come t ≡ []) ts → comings_from b ts ≡ []
none_comes b [] all = refl
none_comes b (t ∷ ts) all = ap (λ (xs : List Coming). due_at b xs ++ comings_from (suc b) ts) all.0 ∙ none_comes (suc b) ts all.1

pub none_of_all : (ts : List ToPlay) → AllByRecursion HasRecords ts → AllByRecursion (λ t. still_to_come t ≡ []) ts → dues_left ts ≡ []
none_of_all ts has all = left_by_turn ts has ∙ ap (sort due_turn) (none_comes 0 ts all)

-- ---- the first turn, by what is left of commands and records
pub first_with : (cs : List Timed) (start n : ℕ) (rs : List Coming) → Rising cs → AllByRecursion IsRecord rs →
    turn_by (first_moment (commands_from start n (map given_by cs))) (first_moment rs) ≡ first_turn (with_commands (commands_from start n (map given_by cs)) rs)
first_with [] start n [] rising all = refl
first_with [] start n (Ordered m k ∷ rs) rising all = absurd all.0
first_with [] start n (Captured a ∷ rs) rising all = refl
first_with (c ∷ cs) start n [] rising all =
    sym (ap first_turn (command-first (Ordered ((start + c.at) * 1000000000) n) (commands_from start (suc n) (map given_by cs)) [] (rising-commands start n c cs rising) refl))
first_with (c ∷ cs) start n (Ordered m k ∷ rs) rising all = absurd all.0
first_with (c ∷ cs) start n (Captured a ∷ rs) rising all = by_test (nat_le ((start + c.at) * 1000000000) a.moment) refl
  where
    by_test : (t : Bool) → nat_le ((start + c.at) * 1000000000) a.moment ≡ t →
        Some (min (2 * ((start + c.at) * 1000000000)) (2 * a.moment + 1)) ≡ first_turn (with_commands (commands_from start n (map given_by (c ∷ cs))) (Captured a ∷ rs))
    by_test true e =
        let low : (start + c.at) * 1000000000 ≤ a.moment = leb-true ((start + c.at) * 1000000000) a.moment e in
        let least : min (2 * ((start + c.at) * 1000000000)) (2 * a.moment + 1) ≡ 2 * ((start + c.at) * 1000000000) = omega (arith, low) in
        ap Some least
        ∙ sym (ap first_turn (command-first (Ordered ((start + c.at) * 1000000000) n) (commands_from start (suc n) (map given_by cs)) (Captured a ∷ rs) (rising-commands start n c cs rising) e))
    by_test false e =
        let less : a.moment < (start + c.at) * 1000000000 = not-first ((start + c.at) * 1000000000) a.moment e in
        let least : min (2 * ((start + c.at) * 1000000000)) (2 * a.moment + 1) ≡ 2 * a.moment + 1 = omega (arith, less) in
        ap Some least
        ∙ sym (ap first_turn (record-first (commands_from start n (map given_by (c ∷ cs))) (Captured a) rs (less, later less (commands_from start (suc n) (map given_by cs)) (rising-commands start n c cs rising))))
      where
        later : a.moment < (start + c.at) * 1000000000 → (xs : List Coming) → NoneBefore ((start + c.at) * 1000000000) xs → NoneBefore (suc a.moment) xs
        later less [] none = tt
        later less (x ∷ xs) none = (omega (arith, less, none.0), later less xs none.1)
