-- What comes stays in its order as it is sorted by moments: what a bridge's commands are in order before, they are after.
use Rattle.std.proofs.Common.{◌≡◌, ◌≢◌, ℕ, zero, suc, ◌+◌, ◌*◌, ◌<◌, ◌≤◌, ◌==◌, ◌&&◌, ◌++◌, nat_lt, Bool, true, false, cond, List, [], ◌∷◌, filter, map, refl, ap, sym, ◌∙◌, subst, arith, inl, inr}
use Rattle.std.specs.Prelude.{flat_map, AllPairs, All}
use Rattle.std.specs.List.{range_with_len}
use Rattle.std.proofs.lemmas.Bool.{cases_Bool, cases_eq, cases_lt, eq-eqb, ne_eqb, lt-ltb, le-ltb}
use Rattle.std.proofs.lemmas.List.{append_assoc}
use Rattle.exb_model.specs.declared.arrival.Arrival.{Arrival}
use Rattle.exb_model.specs.Input.{Given, Coming, Ordered, Captured, all_arrivals, commands_from}
use Rattle.exb_model.specs.Ports.{below}
use Rattle.exb_net_spec.specs.Nets.{Net}
use Rattle.exb_net_spec.specs.NetHistory.{Due, all_due, due_at, due_moment, dues, dues_by_moment, put_due, start_of_all}
use Rattle.exb_net_spec.specs.InputOrder.{AreHere, IsNext, AreInOrder, AreTimely, taken_after}

-- ---- a bridge's own commands
abbrev is_order : Coming → Bool
is_order (Ordered moment k) = true
is_order (Captured a) = false

abbrev is_own : ℕ → Due → Bool
is_own b d = is_order d.coming && d.bridge == b

abbrev own : ℕ → List Due → List Due
own b ds = filter (is_own b) ds

-- they are numbered on from k
abbrev Rises : ℕ → List Due → Type 0
Rises k [] = Unit {0}
Rises k (d ∷ ds) = IsNext k d.coming × Rises (suc k) ds

either_same : (c : Bool) (x : ℕ) → cond c x x ≡ x
either_same true x = refl
either_same false x = refl

abbrev due : ℕ → Coming → Due
due c x = record { bridge = c; coming = x }

rises_one : (c : ℕ) (x : Coming) (ds : List Due) (taken : ℕ → ℕ) (b : ℕ) → AreInOrder taken (due c x ∷ ds) → ((t : ℕ → ℕ) → AreInOrder t ds → Rises (t b) (own b ds)) → Rises (taken b) (own b (due c x ∷ ds))
rises_one c (Captured a) ds taken b order rest = subst (λ (k : ℕ). Rises k (own b ds)) (either_same (b == c) (taken b)) (rest (taken_after (due c (Captured a)) taken) order.1)
rises_one c (Ordered moment j) ds taken b order rest =
    let later = rest (taken_after (due c (Ordered moment j)) taken) order.1 in
    elim (cases_eq c b) [
      | inl same ↦ rw (eq-eqb c b same)
          (subst (λ (x : ℕ). IsNext (taken x) (Ordered moment j)) same order.0, subst (λ (k : ℕ). Rises k (own b ds)) (ap (λ (z : Bool). cond z (suc (taken b)) (taken b)) (eq-eqb b c (sym same))) later)
      | inr other ↦ rw (ne_eqb c b other) (subst (λ (k : ℕ). Rises k (own b ds)) (ap (λ (z : Bool). cond z (suc (taken b)) (taken b)) (ne_eqb b c (λ e. other (sym e)))) later)
    ]

rises_of : (ds : List Due) (taken : ℕ → ℕ) (b : ℕ) → AreInOrder taken ds → Rises (taken b) (own b ds)
rises_of [] taken b order = tt
rises_of (d ∷ ds) taken b order = rises_one d.bridge d.coming ds taken b order (λ t o. rises_of ds t b o)

order_one : (c : ℕ) (x : Coming) (ds : List Due) (taken : ℕ → ℕ) → ((b : ℕ) → Rises (taken b) (own b (due c x ∷ ds))) → ((t : ℕ → ℕ) → ((b : ℕ) → Rises (t b) (own b ds)) → AreInOrder t ds) → AreInOrder taken (due c x ∷ ds)
order_one c (Captured a) ds taken rises rest = (tt, rest (taken_after (due c (Captured a)) taken) (λ b. subst (λ (k : ℕ). Rises k (own b ds)) (sym (either_same (b == c) (taken b))) (rises b)))
order_one c (Ordered moment j) ds taken rises rest =
    let d : Due = due c (Ordered moment j) in
    let mine : IsNext (taken c) (Ordered moment j) × Rises (suc (taken c)) (own c ds) = subst (λ (z : Bool). Rises (taken c) (cond z (d ∷ own c ds) (own c ds))) (eq-eqb c c refl) (rises c) in (
      mine.0,
      rest (taken_after d taken) (λ b.
          elim (cases_eq c b) [
            | inl same ↦ subst (λ (k : ℕ). Rises k (own b ds)) (sym (ap (λ (z : Bool). cond z (suc (taken b)) (taken b)) (eq-eqb b c (sym same)))) (subst (λ (x : ℕ). Rises (suc (taken x)) (own x ds)) same mine.1)
            | inr other ↦
                let here : Rises (taken b) (own b ds) = subst (λ (z : Bool). Rises (taken b) (cond z (d ∷ own b ds) (own b ds))) (ne_eqb c b other) (rises b) in
                subst (λ (k : ℕ). Rises k (own b ds)) (sym (ap (λ (z : Bool). cond z (suc (taken b)) (taken b)) (ne_eqb b c (λ e. other (sym e))))) here
          ]),
    )

order_of : (ds : List Due) (taken : ℕ → ℕ) → ((b : ℕ) → Rises (taken b) (own b ds)) → AreInOrder taken ds
order_of [] taken rises = tt
order_of (d ∷ ds) taken rises = order_one d.bridge d.coming ds taken rises (λ t r. order_of ds t r)

-- ---- sorting
abbrev IsLow : Due → List Due → Type 0
IsLow x [] = Unit {0}
IsLow x (y ∷ ys) = (due_moment x ≤ due_moment y) × IsLow x ys

put_own : (b : ℕ) (x : Due) (ys : List Due) → is_own b x ≡ true → IsLow x (own b ys) → own b (put_due x ys) ≡ x ∷ own b ys
put_own b x [] e low = rw e refl
put_own b x (y ∷ ys) e low =
    elim (cases_lt (due_moment y) (due_moment x)) [
      | inr not ↦ rw (le-ltb (due_moment y) (due_moment x) not, e) refl
      | inl less ↦ rw (lt-ltb (due_moment y) (due_moment x) less)
          (elim (cases_Bool (is_own b y)) [
            | inl mine ↦ absurd (let z = (subst (λ (c : Bool). IsLow x (cond c (y ∷ own b ys) (own b ys))) mine low).0 in omega (arith, less, z))
            | inr other ↦ rw other (put_own b x ys e (subst (λ (c : Bool). IsLow x (cond c (y ∷ own b ys) (own b ys))) other low))
          ])
    ]

put_other : (b : ℕ) (x : Due) (ys : List Due) → is_own b x ≡ false → own b (put_due x ys) ≡ own b ys
put_other b x [] e = rw e refl
put_other b x (y ∷ ys) e =
    elim (cases_Bool (nat_lt (due_moment y) (due_moment x))) [
      | inr not ↦ rw (not, e) refl
      | inl less ↦ rw less
          (elim (cases_Bool (is_own b y)) [
            | inl mine ↦ rw mine (ap (λ (zs : List Due). y ∷ zs) (put_other b x ys e))
            | inr other ↦ rw other (put_other b x ys e)
          ])
    ]

-- none of its own, and each own one is no later than those after it
abbrev HasNoOwn : ℕ → List Due → Type 0
HasNoOwn b [] = Unit {0}
HasNoOwn b (d ∷ ds) = (is_own b d ≡ false) × HasNoOwn b ds

abbrev Ascends : ℕ → List Due → Type 0
Ascends b [] = Unit {0}
Ascends b (d ∷ ds) = (is_own b d ≡ true → IsLow d (own b ds)) × Ascends b ds

sort_own : (b : ℕ) (xs : List Due) → Ascends b xs → own b (dues_by_moment xs) ≡ own b xs
sort_own b [] asc = refl
sort_own b (x ∷ xs) asc =
    let ih = sort_own b xs asc.1 in
    elim (cases_Bool (is_own b x)) [
      | inl e ↦ put_own b x (dues_by_moment xs) e (subst (IsLow x) (sym ih) (asc.0 e)) ∙ (ap (λ (zs : List Due). x ∷ zs) ih ∙ sym (ap (λ (c : Bool). cond c (x ∷ own b xs) (own b xs)) e))
      | inr e ↦ put_other b x (dues_by_moment xs) e ∙ (ih ∙ sym (ap (λ (c : Bool). cond c (x ∷ own b xs) (own b xs)) e))
    ]

-- ---- what comes, before it is sorted
false_true : {c : Bool} → c ≡ false → c ≡ true → ⊥
false_true e f = cc

none_own : (b : ℕ) (ds : List Due) → HasNoOwn b ds → own b ds ≡ []
none_own b [] none = refl
none_own b (d ∷ ds) none = ap (λ (c : Bool). cond c (d ∷ own b ds) (own b ds)) none.0 ∙ none_own b ds none.1

none_both : (b : ℕ) (xs ys : List Due) → HasNoOwn b xs → HasNoOwn b ys → HasNoOwn b (xs ++ ys)
none_both b [] ys x y = y
none_both b (d ∷ xs) ys x y = (x.0, none_both b xs ys x.1 y)

none_ascends : (b : ℕ) (xs ys : List Due) → HasNoOwn b xs → Ascends b ys → Ascends b (xs ++ ys)
none_ascends b [] ys none asc = asc
none_ascends b (d ∷ xs) ys none asc = ((λ e. absurd (false_true none.0 e)), none_ascends b xs ys none.1 asc)

captured_none : (b c : ℕ) (as_ : List Arrival) → HasNoOwn b (due_at c (map Captured as_))
captured_none b c [] = tt
captured_none b c (a ∷ as_) = (refl, captured_none b c as_)

others_none : (b c start k : ℕ) (cs : List Given) → c ≢ b → HasNoOwn b (due_at c (commands_from start k cs))
others_none b c start k [] other = tt
others_none b c start k (x ∷ cs) other = (ne_eqb c b other, others_none b c start (suc k) cs other)

captured_in_order : (c : ℕ) (as_ : List Arrival) (rest : List Due) (taken : ℕ → ℕ) → ((t : ℕ → ℕ) → AreInOrder t rest) → AreInOrder taken (due_at c (map Captured as_) ++ rest)
captured_in_order c [] rest taken all = all taken
captured_in_order c (a ∷ as_) rest taken all = (tt, captured_in_order c as_ rest (taken_after (record { bridge = c; coming = Captured a }) taken) all)

-- a bridge's commands
commands_in_order : (c start j : ℕ) (cs : List Given) (rest : List Due) (taken : ℕ → ℕ) → taken c ≡ j → ((t : ℕ → ℕ) → ((x : ℕ) → x ≢ c → t x ≡ taken x) → AreInOrder t rest) → AreInOrder taken (due_at c (commands_from start (suc j) cs) ++ rest)
commands_in_order c start j [] rest taken same all = all taken (λ x other. refl)
commands_in_order c start j (g ∷ cs) rest taken same all =
    let d : Due = record { bridge = c; coming = Ordered ((start + g.at) * 1000000000) (suc j) } in (
      ap suc (sym same),
      commands_in_order c start (suc j) cs rest (taken_after d taken) (ap (λ (z : Bool). cond z (suc (taken c)) (taken c)) (eq-eqb c c refl) ∙ ap suc same)
          (λ t others. all t (λ x other. others x other ∙ ap (λ (z : Bool). cond z (suc (taken x)) (taken x)) (ne_eqb x c other))),
    )

low_commands : (b start k : ℕ) (g : Given) (n : ℕ) (cs : List Given) (rest : List Due) → All (λ (c : Given). g.at ≤ c.at) cs → HasNoOwn b rest →
    IsLow (record { bridge = b; coming = Ordered ((start + g.at) * 1000000000) n }) (own b (due_at b (commands_from start k cs) ++ rest))
low_commands b start k g n [] rest all none = subst (IsLow (record { bridge = b; coming = Ordered ((start + g.at) * 1000000000) n })) (sym (none_own b rest none)) tt
low_commands b start k g n (c ∷ cs) rest all none =
    let low : g.at ≤ c.at = all 0 c (omega arith) in
    rw (eq-eqb b b refl) (omega (arith, low), low_commands b start (suc k) g n cs rest (λ i d h. all (suc i) d (omega (arith, h))) none)

commands_ascend : (b start k : ℕ) (cs : List Given) (rest : List Due) → AllPairs (λ (c d : Given). c.at ≤ d.at) cs → HasNoOwn b rest → Ascends b rest → Ascends b (due_at b (commands_from start k cs) ++ rest)
commands_ascend b start k [] rest timely none asc = asc
commands_ascend b start k (g ∷ cs) rest timely none asc = (
  (λ e. low_commands b start (suc k) g k cs rest (λ i d h. timely 0 (suc i) d (omega arith) (omega (arith, h))) none),
  commands_ascend b start (suc k) cs rest (λ i j d low h. timely (suc i) (suc j) d (omega (arith, low)) (omega (arith, h))) none asc,
)

module _ (n : Net) where
  abbrev orders : ℕ → List Due
  orders b = due_at b (commands_from (start_of_all n) 1 (n.input b).commands)

  abbrev records : ℕ → List Due
  records b = due_at b (map Captured (all_arrivals (n.input b)))

  records_none : (b m k : ℕ) → HasNoOwn b (flat_map records (range_with_len k m))
  records_none b zero k = tt
  records_none b (suc m) k = none_both b (records k) (flat_map records (range_with_len (k + 1) m)) (captured_none b k (all_arrivals (n.input k))) (records_none b m (k + 1))

  records_ascend : (b m k : ℕ) → Ascends b (flat_map records (range_with_len k m))
  records_ascend b zero k = tt
  records_ascend b (suc m) k = none_ascends b (records k) (flat_map records (range_with_len (k + 1) m)) (captured_none b k (all_arrivals (n.input k))) (records_ascend b m (k + 1))

  records_in_order : (m k : ℕ) (taken : ℕ → ℕ) → AreInOrder taken (flat_map records (range_with_len k m))
  records_in_order zero k taken = tt
  records_in_order (suc m) k taken = captured_in_order k (all_arrivals (n.input k)) (flat_map records (range_with_len (k + 1) m)) taken (records_in_order m (k + 1))

  orders_none : (b m k : ℕ) → b < k → HasNoOwn b (flat_map orders (range_with_len k m))
  orders_none b zero k low = tt
  orders_none b (suc m) k low =
      none_both b (orders k) (flat_map orders (range_with_len (k + 1) m)) (others_none b k (start_of_all n) 1 (n.input k).commands (λ e. omega (arith, e, low))) (orders_none b m (k + 1) (omega (arith, low)))

  orders_ascend : AreTimely n → (b m k : ℕ) (rest : List Due) → k + m ≤ n.count → HasNoOwn b rest → Ascends b rest → Ascends b (flat_map orders (range_with_len k m) ++ rest)
  orders_ascend timely b zero k rest fits none asc = asc
  orders_ascend timely b (suc m) k rest fits none asc =
      let F : List Due = flat_map orders (range_with_len (k + 1) m) in
      let next = orders_ascend timely b m (k + 1) rest (omega (arith, fits)) none asc in
      subst (Ascends b) (sym (append_assoc (orders k) F rest))
      (elim (cases_eq k b) [
        | inl same ↦
            let clear : HasNoOwn b (F ++ rest) = none_both b F rest (orders_none b m (k + 1) (omega (arith, same))) none in
            subst (λ (x : ℕ). Ascends b (orders x ++ (F ++ rest))) (sym same) (commands_ascend b (start_of_all n) 1 (n.input b).commands (F ++ rest) (timely b (omega (arith, same, fits))) clear next)
        | inr other ↦ none_ascends b (orders k) (F ++ rest) (others_none b k (start_of_all n) 1 (n.input k).commands other) next
      ])

  orders_in_order : (m k : ℕ) (rest : List Due) (taken : ℕ → ℕ) → ((c : ℕ) → k ≤ c → taken c ≡ 0) → ((t : ℕ → ℕ) → AreInOrder t rest) → AreInOrder taken (flat_map orders (range_with_len k m) ++ rest)
  orders_in_order zero k rest taken none all = all taken
  orders_in_order (suc m) k rest taken none all =
      let F : List Due = flat_map orders (range_with_len (k + 1) m) in
      subst (AreInOrder taken) (sym (append_assoc (orders k) F rest))
      (commands_in_order k (start_of_all n) 0 (n.input k).commands (F ++ rest) taken (none k (omega arith))
      (λ t others. orders_in_order m (k + 1) rest t (λ c low. others c (λ e. omega (arith, e, low)) ∙ none c (omega (arith, low))) all))

  all_ascend : AreTimely n → (b : ℕ) → Ascends b (all_due n)
  unfolding below
  all_ascend timely b = orders_ascend timely b n.count 0 (flat_map records (range_with_len 0 n.count)) (omega arith) (records_none b n.count 0) (records_ascend b n.count 0)

  all_in_order : AreInOrder (λ b. 0) (all_due n)
  unfolding below
  all_in_order = orders_in_order n.count 0 (flat_map records (range_with_len 0 n.count)) (λ b. 0) (λ c low. refl) (records_in_order n.count 0)

  pub dues_in_order : AreTimely n → AreInOrder (λ b. 0) (dues n)
  unfolding dues
  dues_in_order timely = order_of (dues n) (λ b. 0) (λ b. subst (Rises 0) (sym (sort_own b (all_due n) (all_ascend timely b))) (rises_of (all_due n) (λ c. 0) b all_in_order))

  -- ---- bridges of the net
  here_both : (xs ys : List Due) → AreHere n xs → AreHere n ys → AreHere n (xs ++ ys)
  here_both [] ys x y = y
  here_both (d ∷ xs) ys x y = (x.0, here_both xs ys x.1 y)

  here_at : (b : ℕ) (xs : List Coming) → b < n.count → AreHere n (due_at b xs)
  here_at b [] low = tt
  here_at b (x ∷ xs) low = (low, here_at b xs low)

  here_all : (f : ℕ → List Coming) (m k : ℕ) → k + m ≤ n.count → AreHere n (flat_map (λ b. due_at b (f b)) (range_with_len k m))
  here_all f zero k fits = tt
  here_all f (suc m) k fits = here_both (due_at k (f k)) (flat_map (λ b. due_at b (f b)) (range_with_len (k + 1) m)) (here_at k (f k) (omega (arith, fits))) (here_all f m (k + 1) (omega (arith, fits)))

  put_here : (x : Due) (ys : List Due) → x.bridge < n.count → AreHere n ys → AreHere n (put_due x ys)
  put_here x [] low all = (low, tt)
  put_here x (y ∷ ys) low all =
      elim (cases_Bool (nat_lt (due_moment y) (due_moment x))) [
        | inl e ↦ rw e (all.0, put_here x ys low all.1)
        | inr e ↦ rw e (low, all)
      ]

  sorted_here : (xs : List Due) → AreHere n xs → AreHere n (dues_by_moment xs)
  sorted_here [] all = tt
  sorted_here (x ∷ xs) all = put_here x (dues_by_moment xs) all.0 (sorted_here xs all.1)

  pub dues_are_here : AreHere n (dues n)
  unfolding dues below
  dues_are_here =
      sorted_here (all_due n)
      (here_both (flat_map orders (range_with_len 0 n.count)) (flat_map records (range_with_len 0 n.count))
      (here_all (λ b. commands_from (start_of_all n) 1 (n.input b).commands) n.count 0 (omega arith)) (here_all (λ b. map Captured (all_arrivals (n.input b))) n.count 0 (omega arith)))
