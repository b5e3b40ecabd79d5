-- Lists with the same members, each as often, are the same but for their order; and what is named between two moments.
use Rattle.std.proofs.Common.{◌≡◌, ℕ, zero, suc, ◌+◌, ◌≤◌, ◌==◌, ◌&&◌, ◌++◌, cond, Bool, true, false, List, [], ◌∷◌, length, Some, None, refl, sym, ◌∙◌, ap, subst, arith, inl, inr}
use Rattle.std.specs.Prelude.{filter_map, map, slice_get, All, Contains, IsPermutation}
use Rattle.std.specs.List.{range_with_len}
use Rattle.std.proofs.lemmas.Bool.{cases_Bool, and_parts, and_from, eq-eqb, eqb-true}
use Rattle.std.proofs.lemmas.List.{append_assoc}
use Rattle.std.proofs.lemmas.List.Elements.{All-cons, All-nil}
use Rattle.std.proofs.lemmas.List.Sorted.{IsPermutation-refl, IsPermutation-sym, IsPermutation-trans, IsPermutation-cons, IsPermutation-middle}
use Rattle.exb_model.specs.declared.event.Event.{Event}
use Rattle.exb_model.specs.declared.event.Event.TheVariants as event
use Rattle.exb_model.specs.History.{History, ◌then◌}
use Rattle.exb_model.specs.declared.arrival.Arrival.{Arrival}
use Rattle.exb_model.specs.LegalHistory.{place_of, of_port, IsRelayOf}
use Rattle.exb_model.specs.Lists.{numbered}
use Rattle.exb_model.specs.Tree.{Shape, is_external}
use Rattle.exb_flight.specs.Items.{Each}
use Rattle.exb_flight.specs.NamedArrivals.{times, firsts}
use Rattle.exb_flight.proofs.ArrivalEvents.{of_append}
use Rattle.exb_flight.proofs.IndexLists.{times_append, firsts_append}
use Rattle.exb_world_laws.specs.WorldInput.{Given, Came, Told, arrivals_of, arrivals_at, indices_of, records_at}
use Rattle.exb_world_laws.specs.OneBridge.{IsOfArrival}
use Rattle.exb_world_laws.proofs.NamedArrivals.{arrivals_append}

-- ---- how often a pair stands in a list
many : ℕ → ℕ → List (ℕ × ℕ) → ℕ
many p n [] = 0
many p n ((a, b) ∷ xs) = cond (a == p && b == n) 1 0 + many p n xs

many_append : (p n : ℕ) (xs ys : List (ℕ × ℕ)) → many p n (xs ++ ys) ≡ many p n xs + many p n ys
unfolding many
many_append p n [] ys = omega arith
many_append p n ((a, b) ∷ xs) ys = let e = many_append p n xs ys in omega (arith, e)

many_here : (a b : ℕ) (xs : List (ℕ × ℕ)) → many a b ((a, b) ∷ xs) ≡ 1 + many a b xs
unfolding many
many_here a b xs = ap (λ (c : Bool). cond c 1 0 + many a b xs) (and_from (a == a) (b == b) (eq-eqb a a refl) (eq-eqb b b refl))

record Split (p n : ℕ) (xs : List (ℕ × ℕ)) : Type 0 where
  front : List (ℕ × ℕ)
  back : List (ℕ × ℕ)
  is : xs ≡ front ++ (p, n) ∷ back

split : (p n : ℕ) (xs : List (ℕ × ℕ)) → 1 ≤ many p n xs → Split p n xs
unfolding many
split p n [] some = absurd (omega (arith, some))
split p n ((a, b) ∷ xs) some =
    elim (cases_Bool (a == p && b == n)) [
      | inl e ↦
          let q = and_parts (a == p) (b == n) e in
          record { front = []; back = xs; is = ap (λ (z : ℕ). (z, b) ∷ xs) (eqb-true a p q.0) ∙ ap (λ (z : ℕ). (p, z) ∷ xs) (eqb-true b n q.1) }
      | inr e ↦
          let rest : 1 ≤ many p n xs = less (many p n xs) (subst (λ (c : Bool). 1 ≤ cond c 1 0 + many p n xs) e some) in
          let k = split p n xs rest in
          record { front = (a, b) ∷ k.front; back = k.back; is = ap (λ (zs : List (ℕ × ℕ)). (a, b) ∷ zs) k.is }
    ]
  where
    less : (m : ℕ) → 1 ≤ 0 + m → 1 ≤ m
    less m l = omega (arith, l)

permuted : (xs ys : List (ℕ × ℕ)) → ((p n : ℕ) → many p n xs ≡ many p n ys) → IsPermutation xs ys
unfolding many
permuted [] [] same = IsPermutation-refl []
permuted [] ((a, b) ∷ ys) same = absurd (no (many a b ys) (same a b ∙ many_here a b ys))
  where
    no : (m : ℕ) → 0 ≡ 1 + m → ⊥
    no m e = omega (arith, e)
permuted ((a, b) ∷ xs) ys same =
    let some : 1 ≤ many a b ys = least (many a b xs) (many a b ys) (sym (many_here a b xs) ∙ same a b) in
    let k = split a b ys some in
    let rest : (p n : ℕ) → many p n xs ≡ many p n (k.front ++ k.back) = λ p n.
    let whole = ap (many p n) k.is ∙ many_append p n k.front ((a, b) ∷ k.back) in
    let parts = many_append p n k.front k.back in
    cancels (cond (a == p && b == n) 1 0) (many p n xs) (many p n ys) (many p n k.front) (many p n k.back) (many p n (k.front ++ k.back)) (same p n) whole parts in
    IsPermutation-trans ((a, b) ∷ xs) ((a, b) ∷ (k.front ++ k.back)) ys (IsPermutation-cons (a, b) xs (k.front ++ k.back) (permuted xs (k.front ++ k.back) rest))
    (subst (IsPermutation ((a, b) ∷ (k.front ++ k.back))) (sym k.is)
    (IsPermutation-sym (k.front ++ (a, b) ∷ k.back) ((a, b) ∷ (k.front ++ k.back)) (IsPermutation-middle k.front (a, b) k.back)))
  where
    least : (m k : ℕ) → 1 + m ≡ k → 1 ≤ k
    least m k e = omega (arith, e)

    cancels : (c x y f b w : ℕ) → c + x ≡ y → y ≡ f + (c + b) → w ≡ f + b → x ≡ w
    cancels c x y f b w d e g = omega (arith, d, e, g)

-- ---- places
abbrev place : Arrival → ℕ × ℕ
place a = (a.port, a.index)

places_by : (p n q m : ℕ) (rest : ℕ) (b : Bool) (told : List (ℕ × Bool)) → rest ≡ times n (firsts told) → cond (q == p && m == n) 1 0 + rest ≡ times n (firsts (cond (q == p) ((m, b) ∷ told) told))
places_by p n q m rest b told e =
    elim (cases_Bool (q == p)) [
      | inl z ↦ rw z (ap (λ (x : ℕ). cond (m == n) 1 0 + x) e)
      | inr z ↦ rw z (nothing rest ∙ e)
    ]
  where
    nothing : (m : ℕ) → 0 + m ≡ m
    nothing m = omega arith

places_events : (p n : ℕ) (es : List Event) → many p n (filter_map place_of es) ≡ times n (firsts (of_port p es))
unfolding many
places_events p n [] = refl
places_events p n (event.Relay q m t f ∷ es) = places_by p n q m (many p n (filter_map place_of es)) true (of_port p es) (places_events p n es)
places_events p n (event.Ignored q m ∷ es) = places_by p n q m (many p n (filter_map place_of es)) false (of_port p es) (places_events p n es)
places_events p n (event.Tick seconds ∷ es) = places_events p n es
places_events p n (event.Commit m ∷ es) = places_events p n es
places_events p n (event.Refuse m x ∷ es) = places_events p n es
places_events p n (event.Up q ∷ es) = places_events p n es
places_events p n (event.NoUp q x ∷ es) = places_events p n es
places_events p n (event.Settled ∷ es) = places_events p n es

places_given : (p n : ℕ) (g : List Given) → many p n (map (λ (a : Arrival). (a.port, a.index)) (arrivals_of g)) ≡ times n (indices_of (arrivals_at p g))
unfolding many
places_given p n [] = refl
places_given p n (Told c ∷ g) = places_given p n g
places_given p n (Came a ∷ g) =
    elim (cases_Bool (a.port == p)) [
      | inl z ↦ rw z (ap (λ (x : ℕ). cond (a.index == n) 1 0 + x) (places_given p n g))
      | inr z ↦ rw z (nothing (many p n (map (λ (a : Arrival). (a.port, a.index)) (arrivals_of g))) ∙ places_given p n g)
    ]
  where
    nothing : (m : ℕ) → 0 + m ≡ m
    nothing m = omega arith

-- ---- ports that aren't external have none
other : (t : Shape) (p q : ℕ) → is_external t p ≡ false → is_external t q ≡ true → (q == p) ≡ false
other t p q outer ext =
    elim (cases_Bool (q == p)) [
      | inr z ↦ z
      | inl z ↦ absurd (both (is_external t p) (subst (λ (x : ℕ). is_external t x ≡ true) (eqb-true q p z) ext) outer)
    ]
  where
    both : (b : Bool) → b ≡ true → b ≡ false → ⊥
    both b x y = cc

pub none_told : (t : Shape) (g : List Given) (p : ℕ) (es : List Event) → is_external t p ≡ false → Each (IsOfArrival t g) es → of_port p es ≡ []
none_told t g p [] outer k = refl
none_told t g p (event.Relay q m s f ∷ es) outer k = rw (other t p q outer k.0.0) (none_told t g p es outer k.1)
none_told t g p (event.Ignored q m ∷ es) outer k = rw (other t p q outer k.0) (none_told t g p es outer k.1)
none_told t g p (event.Tick seconds ∷ es) outer k = none_told t g p es outer k.1
none_told t g p (event.Commit m ∷ es) outer k = none_told t g p es outer k.1
none_told t g p (event.Refuse m x ∷ es) outer k = none_told t g p es outer k.1
none_told t g p (event.Up q ∷ es) outer k = none_told t g p es outer k.1
none_told t g p (event.NoUp q x ∷ es) outer k = none_told t g p es outer k.1
none_told t g p (event.Settled ∷ es) outer k = none_told t g p es outer k.1

none_came : (t : Shape) (g : List Given) (p : ℕ) → is_external t p ≡ false → Each (λ (a : Arrival). is_external t a.port ≡ true) (arrivals_of g) → arrivals_at p g ≡ []
none_came t [] p outer k = refl
none_came t (Told c ∷ g) p outer k = none_came t g p outer k
none_came t (Came a ∷ g) p outer k = rw (other t p a.port outer k.0) (none_came t g p outer k.1)

-- the events of a history's later part
each_old : (P : Event → Type 0) (h : History) (es : List Event) → Each P (h then es) → Each P h
each_old P h [] k = k
each_old P h (e ∷ es) k = (each_old P (e ∷ h) es k).1

pub each_new : (P : Event → Type 0) (h : History) (es : List Event) → Each P (h then es) → Each P es
each_new P h [] k = tt
each_new P h (e ∷ es) k = ((each_old P (e ∷ h) es k).0, each_new P (e ∷ h) es k)

-- Where each port's events name its arrivals, the events name the arrivals.
pub named_once : (t : Shape) (all more : List Given) (es : List Event) → Each (IsOfArrival t all) es → Each (λ (a : Arrival). is_external t a.port ≡ true) (arrivals_of more) →
    ((p : ℕ) → is_external t p ≡ true → (n : ℕ) → times n (firsts (of_port p es)) ≡ times n (indices_of (arrivals_at p more))) →
    IsPermutation (filter_map place_of es) (map (λ (a : Arrival). (a.port, a.index)) (arrivals_of more))
named_once t all more es events came named =
    permuted (filter_map place_of es) (map (λ (a : Arrival). (a.port, a.index)) (arrivals_of more)) (λ p n.
    places_events p n es ∙ (by_port p n ∙ sym (places_given p n more)))
  where
    by_port : (p n : ℕ) → times n (firsts (of_port p es)) ≡ times n (indices_of (arrivals_at p more))
    by_port p n =
        elim (cases_Bool (is_external t p)) [
          | inl ext ↦ named p ext n
          | inr outer ↦
              ap (λ (xs : List (ℕ × Bool)). times n (firsts xs)) (none_told t all p es outer events)
              ∙ sym (ap (λ (xs : List Arrival). times n (indices_of xs)) (none_came t more p outer came))
        ]

-- ---- a Relay is of an arrival given in between
contains_first : (xs : List Arrival) (x : Arrival) → Contains (x ∷ xs) x
contains_first xs x = (0, omega arith, refl)

contains_later : (y : Arrival) (xs : List Arrival) (x : Arrival) → Contains xs x → Contains (y ∷ xs) x
contains_later y xs x (k, within, is) = (suc k, omega (arith, within), is)

-- an arrival of a port with an index that stands there
record Found (p n : ℕ) (g : List Given) : Type 0 where
  arrival : Arrival
  port : arrival.port ≡ p
  index : arrival.index ≡ n
  there : Contains (arrivals_of g) arrival
  at_port : (first : ℕ) → indices_of (arrivals_at p g) ≡ range_with_len first (length (arrivals_at p g)) → (k : ℕ) × (n ≡ first + k) × (slice_get (arrivals_at p g) k ≡ Some arrival)

found : (p n : ℕ) (g : List Given) → 1 ≤ times n (indices_of (arrivals_at p g)) → Found p n g
found p n [] some = absurd (omega (arith, some))
found p n (Told c ∷ g) some = (let k = found p n g some in record { arrival = k.arrival; port = k.port; index = k.index; there = k.there; at_port = k.at_port })
found p n (Came a ∷ g) some =
    elim (cases_Bool (a.port == p)) [
      | inr e ↦
          let k = found p n g (rw e at some) in
          record { arrival = k.arrival; port = k.port; index = k.index; there = contains_later a (arrivals_of g) k.arrival k.there; at_port = rw e k.at_port }
      | inl e ↦ elim (cases_Bool (a.index == n)) [
        | inl z ↦ record {
          arrival = a;
          port = eqb-true a.port p e;
          index = eqb-true a.index n z;
          there = contains_first (arrivals_of g) a;
          at_port = λ first is. (0, sym (eqb-true a.index n z) ∙ (first_same (rw e at is) ∙ plus_none first), rw e refl);
        }
        | inr z ↦
            let k = found p n g (less (times n (indices_of (arrivals_at p g))) (rw z at (rw e at some))) in
            record {
              arrival = k.arrival;
              port = k.port;
              index = k.index;
              there = contains_later a (arrivals_of g) k.arrival k.there;
              at_port = λ first is. (let r = k.at_port (first + 1) (rest_same (rw e at is)) in (suc r.0, one_more first r.0 r.1, rw e r.2));
            }
      ]
    ]
  where
    plus_none : (m : ℕ) → m ≡ m + 0
    plus_none m = omega arith

    less : (m : ℕ) → 1 ≤ 0 + m → 1 ≤ m
    less m l = omega (arith, l)

    one_more : (first k : ℕ) → n ≡ (first + 1) + k → n ≡ first + suc k
    one_more first k e = omega (arith, e)

    first_same : {x y : ℕ} {xs ys : List ℕ} → x ∷ xs ≡ y ∷ ys → x ≡ y
    first_same q = cc

    rest_same : {x y : ℕ} {xs ys : List ℕ} → x ∷ xs ≡ y ∷ ys → xs ≡ ys
    rest_same q = cc

-- the member behind a front of so many
get_behind : {X : Type 0} (xs ys : List X) (k : ℕ) → slice_get (xs ++ ys) (length xs + k) ≡ slice_get ys k
get_behind [] ys k = ap (slice_get ys) (plus_none k)
  where
    plus_none : (k : ℕ) → 0 + k ≡ k
    plus_none k = omega arith
get_behind (x ∷ xs) ys k = ap (slice_get (x ∷ (xs ++ ys))) (one_more (length xs) k) ∙ get_behind xs ys k
  where
    one_more : (m k : ℕ) → suc m + k ≡ suc (m + k)
    one_more m k = omega arith

get_mapped : (xs : List Arrival) (k : ℕ) (a : Arrival) → slice_get xs k ≡ Some a → slice_get {X = ℕ × List ℕ} (map (λ (x : Arrival). (x.moment, x.bytes)) xs) k ≡ Some (a.moment, a.bytes)
get_mapped [] k a e = absurd (none_some e)
  where
    none_some : None ≡ Some a → ⊥
    none_some z = cc
get_mapped (x ∷ xs) zero a e = ap (λ (y : Arrival). Some (y.moment, y.bytes)) (some_same e)
  where
    some_same : Some x ≡ Some a → x ≡ a
    some_same z = cc
get_mapped (x ∷ xs) (suc k) a e = get_mapped xs k a e

module _ (t : Shape) (g more : List Given) (es : List Event)
    (first : (p : ℕ) → indices_of (arrivals_at p more) ≡ range_with_len (length (arrivals_at p g) + 1) (length (arrivals_at p more)))
    (named : (p : ℕ) → is_external t p ≡ true → (n : ℕ) → times n (firsts (of_port p es)) ≡ times n (indices_of (arrivals_at p more))) where
  relay_there : (p n moment : ℕ) (f : List ℕ) (before after : List Event) → 1 ≤ times n (firsts (of_port p (before ++ event.Relay p n moment f ∷ after)))
  relay_there p n moment f before after =
      let parts = of_append p before (event.Relay p n moment f ∷ after) in
      let here : of_port p (event.Relay p n moment f ∷ after) ≡ (n, true) ∷ of_port p after = ap (λ (b : Bool). cond b ((n, true) ∷ of_port p after) (of_port p after)) (eq-eqb p p refl) in
      let one : times n (firsts ((n, true) ∷ of_port p after)) ≡ 1 + times n (firsts (of_port p after)) = ap (λ (b : Bool). cond b 1 0 + times n (firsts (of_port p after))) (eq-eqb n n refl) in
      let all = ap (λ (xs : List (ℕ × Bool)). times n (firsts xs)) (parts ∙ ap (λ (xs : List (ℕ × Bool)). of_port p before ++ xs) here)
      ∙ (ap (times n) (firsts_append (of_port p before) ((n, true) ∷ of_port p after)) ∙ times_append n (firsts (of_port p before)) (firsts ((n, true) ∷ of_port p after))) in
      least _ _ _ _ all one
    where
      least : (a b c d : ℕ) → a ≡ b + c → c ≡ 1 + d → 1 ≤ a
      least a b c d x y = omega (arith, x, y)

  relay_of : (p n moment : ℕ) (f : List ℕ) → 1 ≤ times n (firsts (of_port p es)) → is_external t p ≡ true → numbered (records_at (g ++ more) p) n ≡ Some (moment, f) →
      Contains (arrivals_of more) (record { port = p; index = n; moment = moment; bytes = f })
  relay_of p n moment f some ext there =
      let k = found p n more (subst (λ (m : ℕ). 1 ≤ m) (named p ext n) some) in
      let spot = k.at_port (length (arrivals_at p g) + 1) (first p) in
      let place : numbered (records_at (g ++ more) p) n ≡ Some (k.arrival.moment, k.arrival.bytes) =
      ap (λ (xs : List Arrival). numbered (map (λ (x : Arrival). (x.moment, x.bytes)) xs) n) (arrivals_append p g more)
      ∙ (ap (numbered (map (λ (x : Arrival). (x.moment, x.bytes)) (arrivals_at p g ++ arrivals_at p more))) (spot.1 ∙ as_suc (length (arrivals_at p g)) spot.0)
      ∙ get_mapped (arrivals_at p g ++ arrivals_at p more) (length (arrivals_at p g) + spot.0) k.arrival (get_behind (arrivals_at p g) (arrivals_at p more) spot.0 ∙ spot.2)) in
      let same = some_same (sym place ∙ there) in
      let a : Arrival = k.arrival in
      let is : a ≡ record { port = p; index = n; moment = moment; bytes = f } =
      ap (λ (x : ℕ). record { port = x; index = a.index; moment = a.moment; bytes = a.bytes }) k.port
      ∙ (ap (λ (x : ℕ). record { port = p; index = x; moment = a.moment; bytes = a.bytes }) k.index
      ∙ ap (λ (x : ℕ × List ℕ). record { port = p; index = n; moment = x.0; bytes = x.1 }) same) in
      subst (Contains (arrivals_of more)) is k.there
    where
      as_suc : (m k : ℕ) → (m + 1) + k ≡ suc (m + k)
      as_suc m k = omega arith

      some_same : {x y : ℕ × List ℕ} → Some x ≡ Some y → x ≡ y
      some_same q = cc

  event_of : (before after : List Event) (e : Event) → es ≡ before ++ e ∷ after → IsOfArrival t (g ++ more) e → IsRelayOf (arrivals_of more) e
  event_of before after (event.Relay p n moment f) is k =
      relay_of p n moment f (subst (λ (xs : List Event). 1 ≤ times n (firsts (of_port p xs))) (sym is) (relay_there p n moment f before after)) k.0 k.1
  event_of before after (event.Ignored p n) is k = tt
  event_of before after (event.Tick seconds) is k = tt
  event_of before after (event.Commit n) is k = tt
  event_of before after (event.Refuse n x) is k = tt
  event_of before after (event.Up p) is k = tt
  event_of before after (event.NoUp p x) is k = tt
  event_of before after event.Settled is k = tt

  relays_from : (before after : List Event) → es ≡ before ++ after → Each (IsOfArrival t (g ++ more)) after → All (IsRelayOf (arrivals_of more)) after
  relays_from before [] is k = All-nil (IsRelayOf (arrivals_of more))
  relays_from before (e ∷ after) is k =
      All-cons (IsRelayOf (arrivals_of more)) e after (event_of before after e is k.0) (relays_from (before ++ e ∷ []) after (is ∙ sym (append_assoc before (e ∷ []) after)) k.1)

  -- each Relay in between is of an arrival given in between
  pub relays_given : Each (IsOfArrival t (g ++ more)) es → All (IsRelayOf (arrivals_of more)) es
  relays_given k = relays_from [] es refl k
