-- What is still to come of a net before anything is taken, and its start.
use Rattle.std.proofs.Common.{◌≡◌, ℕ, zero, suc, ◌+◌, filter, List, [], ◌∷◌, ◌++◌, length, map, refl, sym, ap, subst, ◌∙◌, arith}
use Rattle.std.specs.Prelude.{⊤, Some, flat_map, slice_get}
use Rattle.std.specs.List.{range_with_len}
use Rattle.std.specs.Option.{option_map}
use Rattle.std.proofs.lemmas.Grind.{flat_map-append}
use Rattle.std.proofs.lemmas.List.Elements.{filter_map-append}
use Rattle.std.proofs.lemmas.List.Folds.{flat_map-map}
use Rattle.exb_model.specs.declared.arrival.Arrival.{Arrival}
use Rattle.exb_model.specs.Input.{Input, Captured, all_arrivals, arrivals_at, by_moment, commands_from, least_or, second_of}
use Rattle.exb_model.specs.Ports.{all_ports, below}
use Rattle.exb_net_spec.specs.Nets.{Net}
use Rattle.exb_net_spec.specs.NetHistory.{Due, due_at, due_moment, dues, start_of_all}
use Rattle.exb_timeline.specs.declared.bridge_timeline.Timeline.{Timeline}
use Rattle.exb_timeline.specs.MergeOrder.{ToPlay, commands_left}
use Rattle.exb_timeline.specs.NetMergeOrder.{AreAllOf, AreBegunOf, AreOfNet, IsBegunOf, all_to_play, dues_left, first_seconds, orders_from, records_from}
use Rattle.exb_timeline.specs.Timelines.{played_with}
use Rattle.exb_timeline.specs.Streams.{Stream, arrivals_of, next_moment, stream_at, to_come}
use Rattle.exb_timeline.proofs.InputMerge.{arrivals_at-none, flat_map-filter, records-of}
use Rattle.exb_timeline.proofs.NetOrder.{by_key, sort_at}
use Rattle.exb_timeline.proofs.StableSort.{puts, sort, puts_append, puts_sort}
use Rattle.exb_timeline.proofs.StartSecond.{least-firsts}

-- ---- the captures of a bridge
ports_all : (i : Input) (xs : List Stream) (a : AreAllOf i xs) → flat_map (arrivals_at i) (filter a.chosen all_ports) ≡ flat_map (arrivals_at i) all_ports
ports_all i xs a = flat_map-filter (arrivals_at i) a.chosen (λ q e. arrivals_at-none i q (a.none q e)) all_ports

come_all : (i : Input) (xs : List Stream) → AreAllOf i xs → to_come xs ≡ by_moment (map Captured (all_arrivals i))
come_all i xs a = ap to_come a.are ∙ records-of i (filter a.chosen all_ports) (ports_all i xs a)

arrive_all : (i : Input) (xs : List Stream) → AreAllOf i xs → all_arrivals i ≡ flat_map arrivals_of xs
unfolding all_arrivals arrivals_at
arrive_all i xs a =
    sym (ports_all i xs a) ∙ sym (flat_map-map arrivals_of (stream_at i) (filter a.chosen all_ports)) ∙ ap (flat_map arrivals_of) (sym a.are)

-- ---- bridge by bridge
-- so it is of each, of which the first is bridge k
abbrev Each : {X : Type 0} → (ℕ → X → Type 0) → ℕ → List X → Type 0
Each P k [] = ⊤
Each P k (x ∷ xs) = P k x × Each P (k + 1) xs

each_of : {X : Type 0} (P : ℕ → X → Type 0) (k : ℕ) (xs : List X) → ((b : ℕ) (x : X) → slice_get xs b ≡ Some x → P (k + b) x) → Each P k xs
each_of P k [] all = tt
each_of P k (x ∷ xs) all = (
  subst (λ j. P j x) (let e : k + 0 ≡ k = omega arith in e) (all 0 x refl),
  each_of P (k + 1) xs (λ b y at. subst (λ j. P j y) (let e : k + suc b ≡ k + 1 + b = omega arith in e) (all (suc b) y at)),
)

each_from : {X : Type 0} (P : ℕ → X → Type 0) (xs : List X) → ((b : ℕ) (x : X) → slice_get xs b ≡ Some x → P b x) → Each P 0 xs
each_from P xs all = each_of P 0 xs (λ b x at. subst (λ j. P j x) (let e : b ≡ 0 + b = omega arith in e) (all b x at))

module _ (n : Net) where
  abbrev orders : ℕ → List Due
  orders b = due_at b (commands_from (start_of_all n) 1 (n.input b).commands)

  abbrev records : ℕ → List Due
  records b = due_at b (map Captured (all_arrivals (n.input b)))

  own_orders : (b : ℕ) (xs : List Stream) (p : Timeline) → IsBegunOf n b p → due_at b (commands_left (played_with xs p)) ≡ orders b
  own_orders b xs p begun = rw (begun.start, begun.taken, begun.commands) refl

  orders_are : (k m : ℕ) (streams : List (List Stream)) (ps : List Timeline) → length streams ≡ m → length ps ≡ m → Each (IsBegunOf n) k ps →
      orders_from k (all_to_play streams ps) ≡ flat_map orders (range_with_len k m)
  orders_are k zero [] [] some long all = refl
  orders_are k zero [] (p ∷ ps) some long all = absurd (cc)
  orders_are k zero (xs ∷ streams) ps some long all = absurd (cc)
  orders_are k (suc m) [] ps some long all = absurd (cc)
  orders_are k (suc m) (xs ∷ streams) [] some long all = absurd (cc)
  orders_are k (suc m) (xs ∷ streams) (p ∷ ps) some long all =
      let next : suc k ≡ k + 1 = omega arith in
      ap (λ (ds : List Due). ds ++ orders_from (suc k) (all_to_play streams ps)) (own_orders k xs p all.0)
      ∙ ap (λ (j : ℕ). orders k ++ orders_from j (all_to_play streams ps)) next
      ∙ ap (λ (ds : List Due). orders k ++ ds) (orders_are (k + 1) m streams ps (omega (arith, some)) (omega (arith, long)) all.1)

  own_records : (b : ℕ) (xs : List Stream) → AreAllOf (n.input b) xs → due_at b (to_come xs) ≡ sort due_moment (records b)
  own_records b xs all = ap (due_at b) (come_all (n.input b) xs all) ∙ sort_at b (map Captured (all_arrivals (n.input b)))

  records_are : (k m : ℕ) (streams : List (List Stream)) (ps : List Timeline) → length streams ≡ m → length ps ≡ m → Each (λ b. AreAllOf (n.input b)) k streams →
      sort due_moment (records_from k (all_to_play streams ps)) ≡ sort due_moment (flat_map records (range_with_len k m))
  records_are k zero [] [] some long all = refl
  records_are k zero [] (p ∷ ps) some long all = absurd (cc)
  records_are k zero (xs ∷ streams) ps some long all = absurd (cc)
  records_are k (suc m) [] ps some long all = absurd (cc)
  records_are k (suc m) (xs ∷ streams) [] some long all = absurd (cc)
  records_are k (suc m) (xs ∷ streams) (p ∷ ps) some long all =
      let next : suc k ≡ k + 1 = omega arith in
      puts_append due_moment (due_at k (to_come xs)) (records_from (suc k) (all_to_play streams ps)) []
      ∙ ap (λ (ds : List Due). puts due_moment ds (sort due_moment (records_from (suc k) (all_to_play streams ps)))) (own_records k xs all.0)
      ∙ puts_sort due_moment (records k) (sort due_moment (records_from (suc k) (all_to_play streams ps)))
      ∙ ap (λ (j : ℕ). puts due_moment (records k) (sort due_moment (records_from j (all_to_play streams ps)))) next
      ∙ ap (puts due_moment (records k)) (records_are (k + 1) m streams ps (omega (arith, some)) (omega (arith, long)) all.1)
      ∙ sym (puts_append due_moment (records k) (flat_map records (range_with_len (k + 1) m)) [])

  pub dues_are : (streams : List (List Stream)) (ps : List Timeline) → AreOfNet n streams → AreBegunOf n ps → dues_left (all_to_play streams ps) ≡ dues n
  unfolding dues_left dues below
  dues_are streams ps all begun =
      let ts : List ToPlay = all_to_play streams ps in
      let O : List Due = flat_map orders (range_with_len 0 n.count) in
      let R : List Due = flat_map records (range_with_len 0 n.count) in
      by_key (orders_from 0 ts ++ records_from 0 ts)
      ∙ puts_append due_moment (orders_from 0 ts) (records_from 0 ts) []
      ∙ ap (λ (ds : List Due). puts due_moment ds (sort due_moment (records_from 0 ts))) (orders_are 0 n.count streams ps all.count begun.count (each_from (IsBegunOf n) ps begun.each))
      ∙ ap (puts due_moment O) (records_are 0 n.count streams ps all.count begun.count (each_from (λ b. AreAllOf (n.input b)) streams all.each))
      ∙ sym (puts_append due_moment O R [])
      ∙ sym (by_key (O ++ R))

  -- ---- the start
  abbrev joined : List (List Stream) → List Stream
  joined = flat_map (λ (xs : List Stream). xs)

  arrivals_are : (k m : ℕ) (streams : List (List Stream)) → length streams ≡ m → Each (λ b. AreAllOf (n.input b)) k streams →
      flat_map (λ b. all_arrivals (n.input b)) (range_with_len k m) ≡ flat_map arrivals_of (joined streams)
  arrivals_are k zero [] some all = refl
  arrivals_are k zero (xs ∷ streams) some all = absurd (cc)
  arrivals_are k (suc m) [] some all = absurd (cc)
  arrivals_are k (suc m) (xs ∷ streams) some all =
      ap (λ (as_ : List Arrival). as_ ++ flat_map (λ b. all_arrivals (n.input b)) (range_with_len (k + 1) m)) (arrive_all (n.input k) xs all.0)
      ∙ ap (λ (as_ : List Arrival). flat_map arrivals_of xs ++ as_) (arrivals_are (k + 1) m streams (omega (arith, some)) all.1)
      ∙ sym (flat_map-append arrivals_of xs (joined streams))

  seconds_joined : (streams : List (List Stream)) → first_seconds (joined streams) ≡ flat_map first_seconds streams
  seconds_joined [] = refl
  seconds_joined (xs ∷ streams) =
      filter_map-append (λ (s : Stream). option_map second_of (next_moment (arrivals_of s))) xs (joined streams) ∙ ap (λ (ks : List ℕ). first_seconds xs ++ ks) (seconds_joined streams)

  pub start_is : (streams : List (List Stream)) → AreOfNet n streams → start_of_all n ≡ least_or 0 (flat_map first_seconds streams)
  unfolding start_of_all below
  start_is streams all =
      ap (λ (as_ : List Arrival). least_or 0 (map (λ a. second_of a.moment) as_)) (arrivals_are 0 n.count streams all.count (each_from (λ b. AreAllOf (n.input b)) streams all.each))
      ∙ least-firsts 0 (joined streams) ∙ ap (least_or 0) (seconds_joined streams)
