-- Of all that comes to a net, in its order: the commands of one bridge, and the records of one port.
use Rattle.std.proofs.Common.{◌≡◌, ◌≢◌, ℕ, suc, ◌+◌, ◌*◌, ◌<◌, ◌≤◌, ◌==◌, ◌&&◌, ◌++◌, Bool, true, false, List, [], ◌∷◌, filter, get_or, length, map, refl, ap, sym, ◌∙◌, subst, arith, inl, inr}
use Rattle.std.specs.Prelude.{flat_map, max, AllPairs}
use Rattle.std.proofs.lemmas.Bool.{cases_Bool, eq-eqb, ne_eqb}
use Rattle.std.proofs.lemmas.List.{append-nil}
use Rattle.std.proofs.lemmas.List.Elements.{filter-append}
use Rattle.exb_model.specs.declared.arrival.Arrival.{Arrival}
use Rattle.exb_model.specs.Input.{Input, Coming, Given, Record, Ordered, Captured, all_arrivals, arrivals_at, arrivals_from, commands_from}
use Rattle.exb_model.specs.Ports.{below}
use Rattle.exb_net_spec.specs.Nets.{Net}
use Rattle.exb_net_spec.specs.NetHistory.{Due, all_due, due_at, due_moment, dues, start_of_all}
use Rattle.exb_net_spec.specs.InputOrder.{AreTimely}
use Rattle.exb_net_spec.proofs.SortedInput.{IsLow, Rising, one_below, sorted_as}

-- ---- commands and records
abbrev pub is_order : Coming → Bool
is_order (Ordered moment k) = true
is_order (Captured a) = false

abbrev pub is_of : ℕ → Coming → Bool
is_of q (Ordered moment k) = false
is_of q (Captured a) = a.port == q

abbrev pub order_of : ℕ → Due → Bool
order_of b d = is_order d.coming && d.bridge == b

abbrev pub record_of : ℕ → ℕ → Due → Bool
record_of b q d = is_of q d.coming && d.bridge == b

-- of one bridge's
orders_of : (b start k : ℕ) (cs : List Given) → filter (order_of b) (due_at b (commands_from start k cs)) ≡ due_at b (commands_from start k cs)
orders_of b start k [] = refl
orders_of b start k (c ∷ cs) = rw (eq-eqb b b refl) (ap (λ (ds : List Due). record { bridge = b; coming = Ordered ((start + c.at) * 1000000000) k } ∷ ds) (orders_of b start (suc k) cs))

no_orders : (b c start k : ℕ) (cs : List Given) → c ≢ b → filter (order_of b) (due_at c (commands_from start k cs)) ≡ []
no_orders b c start k [] other = refl
no_orders b c start k (x ∷ cs) other = rw (ne_eqb c b other) (no_orders b c start (suc k) cs other)

records_no_orders : (b c : ℕ) (as_ : List Arrival) → filter (order_of b) (due_at c (map Captured as_)) ≡ []
records_no_orders b c [] = refl
records_no_orders b c (a ∷ as_) = records_no_orders b c as_

orders_no_records : (b q c start k : ℕ) (cs : List Given) → filter (record_of b q) (due_at c (commands_from start k cs)) ≡ []
orders_no_records b q c start k [] = refl
orders_no_records b q c start k (x ∷ cs) = orders_no_records b q c start (suc k) cs

abbrev at_port : ℕ → Arrival → Bool
at_port q a = a.port == q

records_of : (b q : ℕ) (as_ : List Arrival) → filter (record_of b q) (due_at b (map Captured as_)) ≡ due_at b (map Captured (filter (at_port q) as_))
records_of b q [] = refl
records_of b q (a ∷ as_) = elim (cases_Bool (a.port == q)) [
  | inl e ↦ rw (e, eq-eqb b b refl) (ap (λ (ds : List Due). record { bridge = b; coming = Captured a } ∷ ds) (records_of b q as_))
  | inr e ↦ rw e (records_of b q as_)
]

no_records : (b q c : ℕ) (as_ : List Arrival) → c ≢ b → filter (record_of b q) (due_at c (map Captured as_)) ≡ []
no_records b q c [] other = refl
no_records b q c (a ∷ as_) other = elim (cases_Bool (a.port == q)) [
  | inl e ↦ rw (e, ne_eqb c b other) (no_records b q c as_ other)
  | inr e ↦ rw e (no_records b q c as_ other)
]

-- ---- of one port's
all_of_port : (p n least : ℕ) (rs : List Record) → filter (at_port p) (arrivals_from p n least rs) ≡ arrivals_from p n least rs
all_of_port p n least [] = refl
all_of_port p n least (r ∷ rs) = rw (eq-eqb p p refl) (ap (λ (as_ : List Arrival). record { port = p; index = n; moment = max least r.time; bytes = r.bytes } ∷ as_) (all_of_port p (suc n) (max least r.time) rs))

none_of_port : (q p n least : ℕ) (rs : List Record) → p ≢ q → filter (at_port q) (arrivals_from p n least rs) ≡ []
none_of_port q p n least [] other = refl
none_of_port q p n least (r ∷ rs) other = rw (ne_eqb p q other) (none_of_port q p (suc n) (max least r.time) rs other)

port_alone : (i : Input) (q p : ℕ) → p ≢ q → filter (at_port q) (arrivals_at i p) ≡ []
unfolding arrivals_at
port_alone i q p other = none_of_port q p 1 0 (i.records p) other

port_whole : (i : Input) (q : ℕ) → filter (at_port q) (arrivals_at i q) ≡ arrivals_at i q
unfolding arrivals_at
port_whole i q = all_of_port q 1 0 (i.records q)

one_port : (i : Input) (q n : ℕ) → q < n → filter (at_port q) (flat_map (arrivals_at i) (below n)) ≡ arrivals_at i q
one_port i q n low = one_below (at_port q) (arrivals_at i) q (port_alone i q) n low ∙ port_whole i q

arrivals_alone : (i : Input) (q : ℕ) → q < 4160 → filter (at_port q) (all_arrivals i) ≡ arrivals_at i q
unfolding all_arrivals
arrivals_alone i q low = one_port i q 4160 low

-- ---- in their order
low_records : (b p n least : ℕ) (rs : List Record) (x : Due) → due_moment x ≤ least → IsLow x (due_at b (map Captured (arrivals_from p n least rs)))
low_records b p n least [] x low = tt
low_records b p n least (r ∷ rs) x low = (omega (arith, low), low_records b p (suc n) (max least r.time) rs x (omega (arith, low)))

rising_records : (b p n least : ℕ) (rs : List Record) → Rising (due_at b (map Captured (arrivals_from p n least rs)))
rising_records b p n least [] = tt
rising_records b p n least (r ∷ rs) = (low_records b p (suc n) (max least r.time) rs (record { bridge = b; coming = Captured (record { port = p; index = n; moment = max least r.time; bytes = r.bytes }) }) (omega arith), rising_records b p (suc n) (max least r.time) rs)

low_orders : (b start k m : ℕ) (g : Given) (cs : List Given) → ((j : ℕ) (d : Given) → j < length cs → g.at ≤ (get_or cs j d).at) → IsLow (record { bridge = b; coming = Ordered ((start + g.at) * 1000000000) m }) (due_at b (commands_from start k cs))
low_orders b start k m g [] all = tt
low_orders b start k m g (c ∷ cs) all =
    let low : g.at ≤ c.at = all 0 c (omega arith) in
    (omega (arith, low), low_orders b start (suc k) m g cs (λ j d h. all (suc j) d (omega (arith, h))))

rising_orders : (b start k : ℕ) (cs : List Given) → AllPairs (λ (c d : Given). c.at ≤ d.at) cs → Rising (due_at b (commands_from start k cs))
rising_orders b start k [] timely = tt
rising_orders b start k (g ∷ cs) timely = (
  low_orders b start (suc k) k g cs (λ j d h. timely 0 (suc j) d (omega arith) (omega (arith, h))),
  rising_orders b start (suc k) cs (λ i j d low h. timely (suc i) (suc j) d (omega (arith, low)) (omega (arith, h))),
)

-- ---- of a net
module _ (n : Net) (b : ℕ) (here : b < n.count) where
  abbrev orders : ℕ → List Due
  orders c = due_at c (commands_from (start_of_all n) 1 (n.input c).commands)

  abbrev records : ℕ → List Due
  records c = due_at c (map Captured (all_arrivals (n.input c)))

  none_below : (test : Due → Bool) (f : ℕ → List Due) → ((c : ℕ) → filter test (f c) ≡ []) → (ks : List ℕ) → filter test (flat_map f ks) ≡ []
  none_below test f none [] = refl
  none_below test f none (k ∷ ks) = filter-append test (f k) (flat_map f ks) ∙ (ap (λ (xs : List Due). xs ++ filter test (flat_map f ks)) (none k) ∙ none_below test f none ks)

  orders_alone : filter (order_of b) (all_due n) ≡ orders b
  orders_alone =
      filter-append (order_of b) (flat_map orders (below n.count)) (flat_map records (below n.count))
      ∙ (ap (λ (xs : List Due). filter (order_of b) (flat_map orders (below n.count)) ++ xs) (none_below (order_of b) records (λ c. records_no_orders b c (all_arrivals (n.input c))) (below n.count))
      ∙ (append-nil (filter (order_of b) (flat_map orders (below n.count)))
      ∙ (one_below (order_of b) orders b (λ c other. no_orders b c (start_of_all n) 1 (n.input c).commands other) n.count here ∙ orders_of b (start_of_all n) 1 (n.input b).commands)))

  pub orders_due : AreTimely n → filter (order_of b) (dues n) ≡ due_at b (commands_from (start_of_all n) 1 (n.input b).commands)
  unfolding dues
  orders_due timely = sorted_as (order_of b) (all_due n) (subst Rising (sym orders_alone) (rising_orders b (start_of_all n) 1 (n.input b).commands (timely b here))) ∙ orders_alone

  records_alone : (q : ℕ) → q < 4160 → filter (record_of b q) (all_due n) ≡ due_at b (map Captured (arrivals_at (n.input b) q))
  records_alone q low =
      filter-append (record_of b q) (flat_map orders (below n.count)) (flat_map records (below n.count))
      ∙ (ap (λ (xs : List Due). xs ++ filter (record_of b q) (flat_map records (below n.count))) (none_below (record_of b q) orders (λ c. orders_no_records b q c (start_of_all n) 1 (n.input c).commands) (below n.count))
      ∙ (one_below (record_of b q) records b (λ c other. no_records b q c (all_arrivals (n.input c)) other) n.count here
      ∙ (records_of b q (all_arrivals (n.input b)) ∙ ap (λ (as_ : List Arrival). due_at b (map Captured as_)) (arrivals_alone (n.input b) q low))))

  rising_at : (q : ℕ) → Rising (due_at b (map Captured (arrivals_at (n.input b) q)))
  unfolding arrivals_at
  rising_at q = rising_records b q 1 0 ((n.input b).records q)

  pub records_due : (q : ℕ) → q < 4160 → filter (record_of b q) (dues n) ≡ due_at b (map Captured (arrivals_at (n.input b) q))
  unfolding dues
  records_due q low = sorted_as (record_of b q) (all_due n) (subst Rising (sym (records_alone q low)) (rising_at q)) ∙ records_alone q low
