-- The events and the words on their way name each arrival once, in order, after each kind of step.
use Rattle.std.proofs.Common.{◌≡◌, ◌≢◌, ℕ, suc, ◌+◌, ◌<◌, ◌≤◌, ◌==◌, ◌++◌, cond, nat_le, Bool, true, false, List, [], ◌∷◌, length, Some, refl, sym, ◌∙◌, ap, subst, arith, inl, inr, length-append}
use Rattle.std.specs.Prelude.{map}
use Rattle.std.proofs.lemmas.Bool.{cases_Bool, cases_eq, cases_lt, lt-ltb, le-ltb, le-leb, and_parts, and_from, eq-eqb, ne_eqb}
use Rattle.std.proofs.lemmas.List.{append-nil}
use Rattle.exb_model.specs.declared.event.Event.{Event}
use Rattle.exb_model.specs.declared.event.Event.TheVariants as event
use Rattle.exb_model.specs.ETags.{stripped}
use Rattle.exb_model.specs.EagerHistory.{is_relayed, arrival_event}
use Rattle.exb_model.specs.LegalHistory.{Rise, relays_and_late}
use Rattle.exb_model.specs.Lists.{numbered}
use Rattle.exb_model.specs.Configuration.{Bridge}
use Rattle.exb_model.specs.declared.arrival.Arrival.{Arrival}
use Rattle.exb_model.specs.Tree.{Shape, IsTree, device, on, is_external, is_extended}
use Rattle.exb_model.specs.History.{History, ◌then◌}
use Rattle.exb_control_spec.proofs.Plans.TreeWays.{from_extended}
use Rattle.exb_link.specs.declared.link_frame.Stamp.{Stamp}
use Rattle.exb_link.specs.declared.link_frame.LinkFrame.{LinkFrame}
use Rattle.exb_world_spec.specs.Worlds.{World}
use Rattle.exb_world_spec.specs.DataFrames.{arrival_by}
use Rattle.exb_world_spec.specs.Steps.{first_data}
use Rattle.exb_link.specs.LinkFrames.{without_data}
use Rattle.exb_flight.specs.Items.{Word as Datum, Item, Data, Each, words_of}
use Rattle.exb_flight.specs.Items as items
use Rattle.exb_flight.specs.Tree.{Over, itself, IsLink, IsDeep}
use Rattle.exb_flight.specs.Flight.{add, change}
use Rattle.exb_flight.specs.UpwardOrder.{of_port, waiting}
use Rattle.exb_flight.specs.NamedArrivals.{told_by, told_at, times, once_to, firsts, indices}
use Rattle.exb_flight.proofs.ItemLists.{each_first}
use Rattle.exb_flight.proofs.ExtendersAbove.{over_child}
use Rattle.exb_flight.proofs.LinkItems.{each_more, each_less}
use Rattle.exb_flight.proofs.IndexLists.{times_append, once_more, each_change, all_low, rise_end, firsts_append, numbered_more, numbered_last}
use Rattle.exb_flight.proofs.NamedArrivals.{Named, named_waits, named_ignored, named_taken}
use Rattle.exb_flight.proofs.UpwardOrder.{carry_up_keeps, carry_in_takes, arrive_adds, waiting_same}
use Rattle.exb_flight.specs.Tokens.{datum_by, datum, data_words}
use Rattle.exb_world_laws.specs.WorldInput.{Given, Came, Told, arrivals_at, records_at}
use Rattle.exb_world_laws.specs.OneBridge.{upward, waiting_at, rising_at, IsNamed, IsOfArrival, IsWordOf, NamesGiven}
use Rattle.exb_world_laws.proofs.UpwardFrames.{upward_words, first_upward}

-- ---- what was given
pub arrivals_append : (p : ℕ) (g more : List Given) → arrivals_at p (g ++ more) ≡ arrivals_at p g ++ arrivals_at p more
arrivals_append p [] more = refl
arrivals_append p (Came a ∷ g) more =
    elim (cases_Bool (a.port == p)) [
      | inl e ↦ rw e (ap (λ (xs : List Arrival). a ∷ xs) (arrivals_append p g more))
      | inr e ↦ rw e (arrivals_append p g more)
    ]
arrivals_append p (Told c ∷ g) more = arrivals_append p g more

pub arrivals_here : (g : List Given) (a : Arrival) (p : ℕ) → a.port ≡ p → arrivals_at p (g ++ Came a ∷ []) ≡ arrivals_at p g ++ a ∷ []
arrivals_here g a p e = arrivals_append p g (Came a ∷ []) ∙ ap (λ (b : Bool). arrivals_at p g ++ cond b (a ∷ []) []) (eq-eqb a.port p e)

pub arrivals_other : (g : List Given) (a : Arrival) (p : ℕ) → a.port ≢ p → arrivals_at p (g ++ Came a ∷ []) ≡ arrivals_at p g
arrivals_other g a p e = arrivals_append p g (Came a ∷ []) ∙ (ap (λ (b : Bool). arrivals_at p g ++ cond b (a ∷ []) []) (ne_eqb a.port p e) ∙ append-nil (arrivals_at p g))

pub length_here : (g : List Given) (a : Arrival) (p : ℕ) → a.port ≡ p → length (arrivals_at p (g ++ Came a ∷ [])) ≡ length (arrivals_at p g) + 1
length_here g a p e = ap (λ (xs : List Arrival). length xs) (arrivals_here g a p e) ∙ length-append (arrivals_at p g) (a ∷ [])

abbrev pair : Arrival → ℕ × List ℕ
pair a = (a.moment, a.bytes)

map_pairs : (xs ys : List Arrival) → map pair (xs ++ ys) ≡ map pair xs ++ map pair ys
map_pairs [] ys = refl
map_pairs (x ∷ xs) ys = ap (λ (zs : List (ℕ × List ℕ)). pair x ∷ zs) (map_pairs xs ys)

length_pairs : (xs : List Arrival) → length (map pair xs) ≡ length xs
length_pairs [] = refl
length_pairs (x ∷ xs) = ap suc (length_pairs xs)

pub record_more : (g more : List Given) (p n : ℕ) (x : ℕ × List ℕ) → numbered (records_at g p) n ≡ Some x → numbered (records_at (g ++ more) p) n ≡ Some x
record_more g more p n x e =
    ap (λ (xs : List Arrival). numbered (map pair xs) n) (arrivals_append p g more)
    ∙ (ap (λ (xs : List (ℕ × List ℕ)). numbered xs n) (map_pairs (arrivals_at p g) (arrivals_at p more)) ∙ numbered_more (records_at g p) (map pair (arrivals_at p more)) n x e)

pub record_last : (g : List Given) (a : Arrival) → a.index ≡ length (arrivals_at a.port g) + 1 → numbered (records_at (g ++ Came a ∷ []) a.port) a.index ≡ Some (a.moment, a.bytes)
record_last g a e =
    ap (λ (xs : List Arrival). numbered (map pair xs) a.index) (arrivals_here g a a.port refl)
    ∙ (ap (λ (xs : List (ℕ × List ℕ)). numbered xs a.index) (map_pairs (arrivals_at a.port g) (a ∷ []))
    ∙ (ap (numbered (records_at g a.port ++ pair a ∷ [])) (e ∙ ap (λ (n : ℕ). n + 1) (sym (length_pairs (arrivals_at a.port g)))) ∙ numbered_last (records_at g a.port) (pair a)))

-- ---- facts of events and words stay
of_more : (t : Shape) (g more : List Given) (e : Event) → IsOfArrival t g e → IsOfArrival t (g ++ more) e
of_more t g more (event.Relay p n moment f) k = (k.0, record_more g more p n (moment, f) k.1)
of_more t g more (event.Ignored p n) k = k
of_more t g more (event.Tick seconds) k = tt
of_more t g more (event.Commit n) k = tt
of_more t g more (event.Refuse n x) k = tt
of_more t g more (event.Up p) k = tt
of_more t g more (event.NoUp p x) k = tt
of_more t g more event.Settled k = tt

pub all_of_more : (t : Shape) (g more : List Given) (h : History) → Each (IsOfArrival t g) h → Each (IsOfArrival t (g ++ more)) h
all_of_more t g more h k = each_change (IsOfArrival t g) (IsOfArrival t (g ++ more)) h (of_more t g more) k

pub words_more : (t : Shape) (g more : List Given) (n : ℕ) (fs : List Datum) → Each (IsWordOf t g n) fs → Each (IsWordOf t (g ++ more) n) fs
words_more t g more n fs k = each_change (IsWordOf t g n) (IsWordOf t (g ++ more) n) fs (λ f its. record { outer = its.outer; below = its.below; record_of = record_more g more f.port f.index (f.moment, stripped f.bytes) its.record_of }) k

-- an event of no arrival
abbrev pub NamesNone : Event → Type 0
NamesNone (event.Relay p n t f) = ⊥
NamesNone (event.Ignored p n) = ⊥
NamesNone _ = Unit {0}

told_none : (r : ℕ) (e : Event) → NamesNone e → told_by r e ≡ []
told_none r (event.Relay p n t f) k = absurd k
told_none r (event.Ignored p n) k = absurd k
told_none r (event.Tick seconds) k = refl
told_none r (event.Commit n) k = refl
told_none r (event.Refuse n x) k = refl
told_none r (event.Up p) k = refl
told_none r (event.NoUp p x) k = refl
told_none r event.Settled k = refl

of_none : (t : Shape) (g : List Given) (e : Event) → NamesNone e → IsOfArrival t g e
of_none t g (event.Relay p n moment f) k = absurd k
of_none t g (event.Ignored p n) k = absurd k
of_none t g (event.Tick seconds) k = tt
of_none t g (event.Commit n) k = tt
of_none t g (event.Refuse n x) k = tt
of_none t g (event.Up p) k = tt
of_none t g (event.NoUp p x) k = tt
of_none t g event.Settled k = tt

pub told_step : (r : ℕ) (h : History) (e : Event) → told_at r (e ∷ h) ≡ told_at r h ++ told_by r e
unfolding told_at
told_step r h e = refl

told_all_none : (r : ℕ) (es : List Event) (h : History) → Each NamesNone es → told_at r (h then es) ≡ told_at r h
told_all_none r [] h k = refl
told_all_none r (e ∷ es) h k =
    told_all_none r es (e ∷ h) k.1 ∙ (told_step r h e ∙ (ap (λ (xs : List (ℕ × Bool)). told_at r h ++ xs) (told_none r e k.0) ∙ append-nil (told_at r h)))

of_all_none : (t : Shape) (g : List Given) (es : List Event) (h : History) → Each NamesNone es → Each (IsOfArrival t g) h → Each (IsOfArrival t g) (h then es)
of_all_none t g [] h k old = old
of_all_none t g (e ∷ es) h k old = of_all_none t g es (e ∷ h) k.1 (of_none t g e k.0, old)

-- ---- a port of the bridge, and one of an extender
pub record LocalNamed (told : List (ℕ × Bool)) (most : ℕ) : Type 0 where
  pub once : (n : ℕ) → times n (firsts told) ≡ once_to most n
  pub rising : Rise 0 (firsts told)

-- the next one is told
local_more : (told : List (ℕ × Bool)) (most : ℕ) (b : Bool) → LocalNamed told most → LocalNamed (told ++ (most + 1, b) ∷ []) (most + 1)
local_more told most b k =
    record {
      once = λ n. ap (times n) (firsts_append told ((most + 1, b) ∷ [])) ∙ (times_append n (firsts told) ((most + 1) ∷ []) ∙ (ap (λ (x : ℕ). x + times n ((most + 1) ∷ [])) (k.once n) ∙ sym (once_more most n)));
      rising = subst (Rise 0) (sym (firsts_append told ((most + 1, b) ∷ [])))
          (rise_end 0 (most + 1) (firsts told) k.rising (omega arith) (each_change (λ x. x ≤ most) (λ x. x < most + 1) (firsts told) (λ x l. omega (arith, l)) (all_low most (firsts told) k.once)));
    }

module _ (t : Shape) where
  pub low_named : (w : World) (g : List Given) (h : History) (r : ℕ) → r < 64 → IsNamed t w g h r → LocalNamed (told_at r h) (length (arrivals_at r g))
  low_named w g h r low k =
      let none : waiting_at t w r ≡ [] = rw (lt-ltb r 64 low) refl in
      let rises : rising_at t w h r ≡ firsts (told_at r h) = rw (lt-ltb r 64 low) refl in
      record {
        once = λ n. ap (times n) (sym (append-nil (firsts (told_at r h)))) ∙ (ap (λ (xs : List Datum). times n (firsts (told_at r h) ++ indices xs)) (sym none) ∙ k.once n);
        rising = subst (Rise 0) rises k.rising;
      }

  pub named_low : (w : World) (g : List Given) (h : History) (r : ℕ) (told : List (ℕ × Bool)) (most : ℕ) → r < 64 → told_at r h ≡ told → length (arrivals_at r g) ≡ most → LocalNamed told most → IsNamed t w g h r
  named_low w g h r told most low a b k =
      let none : waiting_at t w r ≡ [] = rw (lt-ltb r 64 low) refl in
      let rises : rising_at t w h r ≡ firsts (told_at r h) = rw (lt-ltb r 64 low) refl in
      record {
        once = λ n.
            ap (λ (xs : List Datum). times n (firsts (told_at r h) ++ indices xs)) none
            ∙ (ap (times n) (append-nil (firsts (told_at r h))) ∙ (ap (λ (xs : List (ℕ × Bool)). times n (firsts xs)) a ∙ (k.once n ∙ ap (λ (m : ℕ). once_to m n) (sym b))));
        rising = subst (Rise 0) (sym (rises ∙ ap firsts a)) k.rising;
      }

  pub deep_named : (w : World) (g : List Given) (h : History) (r : ℕ) → 64 ≤ r → IsNamed t w g h r → Named (told_at r h) (indices (waiting t (upward w) r)) (length (arrivals_at r g))
  deep_named w g h r deep k =
      let waits : waiting_at t w r ≡ waiting t (upward w) r = rw (le-ltb r 64 deep) refl in
      let rises : rising_at t w h r ≡ relays_and_late 0 (told_at r h) ++ indices (waiting t (upward w) r) = rw (le-ltb r 64 deep) refl in
      record {
        once = λ n. ap (λ (xs : List Datum). times n (firsts (told_at r h) ++ indices xs)) (sym waits) ∙ k.once n;
        rising = subst (Rise 0) rises k.rising;
      }

  pub named_deep : (w : World) (g : List Given) (h : History) (r : ℕ) (told : List (ℕ × Bool)) (wait : List Datum) (most : ℕ) → 64 ≤ r → told_at r h ≡ told → waiting t (upward w) r ≡ wait → length (arrivals_at r g) ≡ most →
      Named told (indices wait) most → IsNamed t w g h r
  named_deep w g h r told wait most deep a b c k =
      let waits : waiting_at t w r ≡ waiting t (upward w) r = rw (le-ltb r 64 deep) refl in
      let rises : rising_at t w h r ≡ relays_and_late 0 (told_at r h) ++ indices (waiting t (upward w) r) = rw (le-ltb r 64 deep) refl in
      record {
        once = λ n.
            ap (λ (xs : List Datum). times n (firsts (told_at r h) ++ indices xs)) (waits ∙ b)
            ∙ (ap (λ (xs : List (ℕ × Bool)). times n (firsts xs ++ indices wait)) a ∙ (k.once n ∙ ap (λ (m : ℕ). once_to m n) (sym c)));
        rising =
            subst (Rise 0) (sym (rises ∙ (ap (λ (xs : List (ℕ × Bool)). relays_and_late 0 xs ++ indices (waiting t (upward w) r)) a ∙ ap (λ (xs : List Datum). relays_and_late 0 told ++ indices xs) b))) k.rising;
      }

  -- ---- nothing is named or taken
  -- the arrivals are the same, and so are the events of arrivals and the words
  pub named_same : (w v : World) (g j : List Given) (h i : History) (r : ℕ) → (64 ≤ r → waiting t (upward v) r ≡ waiting t (upward w) r) → told_at r i ≡ told_at r h → length (arrivals_at r j) ≡ length (arrivals_at r g) →
      IsNamed t w g h r → IsNamed t v j i r
  named_same w v g j h i r waits told size k =
      elim (cases_lt r 64) [
        | inl low ↦ named_low v j i r (told_at r h) (length (arrivals_at r g)) low told size (low_named w g h r low k)
        | inr deep ↦ named_deep v j i r (told_at r h) (waiting t (upward w) r) (length (arrivals_at r g)) deep told (waits deep) size (deep_named w g h r deep k)
      ]

  -- on links with the same words
  pub waits_as : (v : World) (up : ℕ → List Item) (r : ℕ) → ((n : ℕ) → data_words (v.up n) ≡ words_of (up n)) → waiting t (upward v) r ≡ waiting t up r
  waits_as v up r same = waiting_same t up (upward v) r (λ n. upward_words v n ∙ same n)

  pub names_quiet : (w v : World) (g j : List Given) (h : History) (es : List Event) → ((n : ℕ) → data_words (v.up n) ≡ data_words (w.up n)) → ((r : ℕ) → arrivals_at r (g ++ j) ≡ arrivals_at r g) → Each NamesNone es →
      NamesGiven t w g h → NamesGiven t v (g ++ j) (h then es)
  names_quiet w v g j h es ups same none k =
      record {
        ports = λ r ext. named_same w v g (g ++ j) h (h then es) r (λ deep. waits_as v (upward w) r (λ n. ups n ∙ sym (upward_words w n))) (told_all_none r es h none) (ap (λ (xs : List Arrival). length xs) (same r)) (k.ports r ext);
        events = of_all_none t (g ++ j) es h none (all_of_more t g j h k.events);
        words = λ n link. subst (Each (IsWordOf t (g ++ j) n)) (sym (ups n)) (words_more t g j n (data_words (w.up n)) (k.words n link));
      }

  -- ---- arrivals
  of_other : (r : ℕ) (f : Datum) → f.port ≢ r → of_port r (f ∷ []) ≡ []
  of_other r f e = rw (ne_eqb f.port r e) refl

  of_here : (r : ℕ) (f : Datum) → f.port ≡ r → of_port r (f ∷ []) ≡ f ∷ []
  of_here r f e = rw (eq-eqb f.port r e) refl

  indices_append : (xs ys : List Datum) → indices (xs ++ ys) ≡ indices xs ++ indices ys
  indices_append [] ys = refl
  indices_append (x ∷ xs) ys = ap (λ (zs : List ℕ). x.index ∷ zs) (indices_append xs ys)

  outer_of : (r : ℕ) → 64 ≤ r → is_external t r ≡ true → is_extended t r ≡ true
  outer_of r deep ext = and_from (nat_le 64 r) (is_external t r) (le-leb 64 r deep) ext

  deep_of : (r : ℕ) → 64 ≤ r → is_external t r ≡ true → IsDeep t r
  deep_of r deep ext = (let d = from_extended t r (outer_of r deep ext) in record { deep = d.0; known = d.1 })

  -- it goes up
  pub names_raised : IsTree t → (w v : World) (g : List Given) (h : History) (a : Arrival) (bytes : List ℕ) → is_external t a.port ≡ true → 64 ≤ a.port → a.index ≡ length (arrivals_at a.port g) + 1 → stripped bytes ≡ a.bytes →
      ((n : ℕ) → data_words (v.up n) ≡ words_of (add (upward w) (device a.port) (Data (record { bytes = bytes; port = a.port; index = a.index; moment = a.moment })) n)) →
      NamesGiven t w g h → NamesGiven t v (g ++ Came a ∷ []) h
  names_raised tree w v g h a bytes ext high index clean ups k =
      let d : Datum = record { bytes = bytes; port = a.port; index = a.index; moment = a.moment } in
      let j : List Given = g ++ Came a ∷ [] in
      record {
        ports = λ r r_ext.
            elim (cases_eq a.port r) [
              | inr other ↦ named_same w v g j h h r
                  (λ deep. waits_as v (add (upward w) (device a.port) (Data d)) r ups ∙ (arrive_adds t tree (upward w) d r (deep_of r deep r_ext) ∙ (ap (λ (xs : List Datum). waiting t (upward w) r ++ xs) (of_other r d other) ∙ append-nil (waiting t (upward w) r))))
                  refl (ap (λ (xs : List Arrival). length xs) (arrivals_other g a r other)) (k.ports r r_ext)
              | inl same ↦
                  let deep : 64 ≤ r = subst (λ (x : ℕ). 64 ≤ x) same high in
                  let most : ℕ = length (arrivals_at r g) in
                  let next : a.index ≡ most + 1 = index ∙ ap (λ (x : ℕ). length (arrivals_at x g) + 1) same in
                  named_deep v j h r (told_at r h) (waiting t (upward w) r ++ d ∷ []) (most + 1) deep refl
                  (waits_as v (add (upward w) (device a.port) (Data d)) r ups ∙ (arrive_adds t tree (upward w) d r (deep_of r deep r_ext) ∙ ap (λ (xs : List Datum). waiting t (upward w) r ++ xs) (of_here r d same)))
                  (length_here g a r same)
                  (subst (λ (xs : List ℕ). Named (told_at r h) xs (most + 1)) (sym (indices_append (waiting t (upward w) r) (d ∷ []) ∙ ap (λ (x : ℕ). indices (waiting t (upward w) r) ++ x ∷ []) next))
                  (named_waits (told_at r h) (indices (waiting t (upward w) r)) most (deep_named w g h r deep (k.ports r r_ext))))
            ];
        events = all_of_more t g (Came a ∷ []) h k.events;
        words = λ n link.
            subst (Each (IsWordOf t j n)) (sym (ups n))
            (each_more (upward w) (device a.port) d (IsWordOf t j n) n
            (subst (Each (IsWordOf t j n)) (sym (upward_words w n)) (words_more t g (Came a ∷ []) n (data_words (w.up n)) (k.words n link)))
            (λ e. record { outer = outer_of a.port high ext; below = itself (sym e); record_of = record_last g a index ∙ ap (λ (f : List ℕ). Some (a.moment, f)) (sym clean) }));
      }

  -- its extender ignores it
  pub names_ignored : (w v : World) (g : List Given) (h : History) (a : Arrival) → is_external t a.port ≡ true → 64 ≤ a.port → a.index ≡ length (arrivals_at a.port g) + 1 →
      ((n : ℕ) → data_words (v.up n) ≡ data_words (w.up n)) → NamesGiven t w g h → NamesGiven t v (g ++ Came a ∷ []) (event.Ignored a.port a.index ∷ h)
  names_ignored w v g h a ext high index ups k =
      let j : List Given = g ++ Came a ∷ [] in
      let i : History = event.Ignored a.port a.index ∷ h in
      let waits : (r : ℕ) → waiting t (upward v) r ≡ waiting t (upward w) r = λ r. waits_as v (upward w) r (λ n. ups n ∙ sym (upward_words w n)) in
      record {
        ports = λ r r_ext.
            elim (cases_eq a.port r) [
              | inr other ↦ named_same w v g j h i r (λ deep. waits r)
                  (told_step r h (event.Ignored a.port a.index) ∙ (ap (λ (b : Bool). told_at r h ++ cond b ((a.index, false) ∷ []) []) (ne_eqb a.port r other) ∙ append-nil (told_at r h)))
                  (ap (λ (xs : List Arrival). length xs) (arrivals_other g a r other)) (k.ports r r_ext)
              | inl same ↦
                  let deep : 64 ≤ r = subst (λ (x : ℕ). 64 ≤ x) same high in
                  let most : ℕ = length (arrivals_at r g) in
                  let next : a.index ≡ most + 1 = index ∙ ap (λ (x : ℕ). length (arrivals_at x g) + 1) same in
                  named_deep v j i r (told_at r h ++ (most + 1, false) ∷ []) (waiting t (upward w) r) (most + 1) deep
                  (told_step r h (event.Ignored a.port a.index) ∙ (ap (λ (b : Bool). told_at r h ++ cond b ((a.index, false) ∷ []) []) (eq-eqb a.port r same) ∙ ap (λ (x : ℕ). told_at r h ++ (x, false) ∷ []) next))
                  (waits r) (length_here g a r same)
                  (named_ignored (told_at r h) (indices (waiting t (upward w) r)) most (deep_named w g h r deep (k.ports r r_ext)))
            ];
        events = (ext, all_of_more t g (Came a ∷ []) h k.events);
        words = λ n link. subst (Each (IsWordOf t j n)) (sym (ups n)) (words_more t g (Came a ∷ []) n (data_words (w.up n)) (k.words n link));
      }

  -- what is told of a frame that comes to the bridge
  told_arrival : (r : ℕ) (b : Bridge) (a : Arrival) → told_by r (arrival_event b a) ≡ cond (a.port == r) ((a.index, is_relayed b a.port a.bytes) ∷ []) []
  told_arrival r b a = elim (cases_Bool (is_relayed b a.port a.bytes)) [ inl e ↦ rw e refl | inr e ↦ rw e refl ]

  of_arrival : (g : List Given) (b : Bridge) (a : Arrival) → is_external t a.port ≡ true → numbered (records_at g a.port) a.index ≡ Some (a.moment, a.bytes) → IsOfArrival t g (arrival_event b a)
  of_arrival g b a ext there = elim (cases_Bool (is_relayed b a.port a.bytes)) [ inl e ↦ rw e (ext, there) | inr e ↦ rw e ext ]

  told_other : (r : ℕ) (h : History) (b : Bridge) (a : Arrival) → a.port ≢ r → told_at r (arrival_event b a ∷ h) ≡ told_at r h
  told_other r h b a other =
      told_step r h (arrival_event b a)
      ∙ (ap (λ (xs : List (ℕ × Bool)). told_at r h ++ xs) (told_arrival r b a ∙ ap (λ (c : Bool). cond c ((a.index, is_relayed b a.port a.bytes) ∷ []) []) (ne_eqb a.port r other)) ∙ append-nil (told_at r h))

  told_here : (r : ℕ) (h : History) (b : Bridge) (a : Arrival) → a.port ≡ r → told_at r (arrival_event b a ∷ h) ≡ told_at r h ++ (a.index, is_relayed b a.port a.bytes) ∷ []
  told_here r h b a same =
      told_step r h (arrival_event b a)
      ∙ ap (λ (xs : List (ℕ × Bool)). told_at r h ++ xs) (told_arrival r b a ∙ ap (λ (c : Bool). cond c ((a.index, is_relayed b a.port a.bytes) ∷ []) []) (eq-eqb a.port r same))

  -- it comes to the bridge itself
  pub names_local : (w v : World) (g : List Given) (h : History) (b : Bridge) (a : Arrival) → is_external t a.port ≡ true → a.port < 64 → a.index ≡ length (arrivals_at a.port g) + 1 →
      ((n : ℕ) → data_words (v.up n) ≡ data_words (w.up n)) → NamesGiven t w g h → NamesGiven t v (g ++ Came a ∷ []) (arrival_event b a ∷ h)
  names_local w v g h b a ext small index ups k =
      let j : List Given = g ++ Came a ∷ [] in
      let i : History = arrival_event b a ∷ h in
      record {
        ports = λ r r_ext.
            elim (cases_eq a.port r) [
              | inr other ↦ named_same w v g j h i r (λ deep. waits_as v (upward w) r (λ n. ups n ∙ sym (upward_words w n))) (told_other r h b a other) (ap (λ (xs : List Arrival). length xs) (arrivals_other g a r other)) (k.ports r r_ext)
              | inl same ↦
                  let low : r < 64 = subst (λ (x : ℕ). x < 64) same small in
                  let most : ℕ = length (arrivals_at r g) in
                  let next : a.index ≡ most + 1 = index ∙ ap (λ (x : ℕ). length (arrivals_at x g) + 1) same in
                  named_low v j i r (told_at r h ++ (most + 1, is_relayed b a.port a.bytes) ∷ []) (most + 1) low
                  (told_here r h b a same ∙ ap (λ (x : ℕ). told_at r h ++ (x, is_relayed b a.port a.bytes) ∷ []) next) (length_here g a r same)
                  (local_more (told_at r h) most (is_relayed b a.port a.bytes) (low_named w g h r low (k.ports r r_ext)))
            ];
        events = (of_arrival j b a ext (record_last g a index), all_of_more t g (Came a ∷ []) h k.events);
        words = λ n link. subst (Each (IsWordOf t j n)) (sym (ups n)) (words_more t g (Came a ∷ []) n (data_words (w.up n)) (k.words n link));
      }

  -- ---- words that go on
  pub names_gone_on : IsTree t → (w v : World) (g : List Given) (h : History) (n : ℕ) (x : LinkFrame) → IsLink t n → 64 ≤ on t n → first_data (w.up n) ≡ Some x → Over t n (device (datum x).port) →
      ((m : ℕ) → data_words (v.up m) ≡ words_of (add (change (upward w) n (items.without_data (upward w n))) (device (on t n)) (Data (datum x)) m)) →
      NamesGiven t w g h → NamesGiven t v g h
  names_gone_on tree w v g h n x link high found over ups k =
      let rest : List Datum = data_words (without_data (w.up n)) in
      let first = first_upward w n x found in
      let links : ℕ → List Item = add (change (upward w) n (items.without_data (upward w n))) (device (on t n)) (Data (datum x)) in
      let as_up : (m : ℕ) → IsLink t m → Each (IsWordOf t g m) (words_of (upward w m)) = λ m there. subst (Each (IsWordOf t g m)) (sym (upward_words w m)) (k.words m there) in
      record {
        ports = λ r ext.
            named_same w v g g h h r (λ deep. waits_as v links r ups ∙ carry_up_keeps t tree (upward w) n link high (datum x) rest first r (deep_of r deep ext) over) refl refl (k.ports r ext);
        events = k.events;
        words = λ m there.
            subst (Each (IsWordOf t g m)) (sym (ups m))
            (each_more (change (upward w) n (items.without_data (upward w n))) (device (on t n)) (datum x) (IsWordOf t g m) m (each_less (upward w) n (IsWordOf t g m) m (as_up m there))
            (λ e.
            let its : IsWordOf t g n (datum x) = each_first (IsWordOf t g n) (upward w n) (datum x) rest first (as_up n link) in
            record { outer = its.outer; below = over_child t m n (device (datum x).port) high (sym e) over; record_of = its.record_of }));
      }

  -- ---- words that come to the bridge
  pub names_taken : IsTree t → (w v : World) (g : List Given) (h : History) (b : Bridge) (n : ℕ) (x : LinkFrame) (s : Stamp) → IsLink t n → on t n < 64 → first_data (w.up n) ≡ Some x → x.stamp ≡ Some s → Over t n (device (datum x).port) →
      ((m : ℕ) → data_words (v.up m) ≡ words_of (change (upward w) n (items.without_data (upward w n)) m)) →
      NamesGiven t w g h → NamesGiven t v g (arrival_event b (arrival_by s.port s (stripped x.bytes)) ∷ h)
  names_taken tree w v g h b n x s link low found stamped over ups k =
      let rest : List Datum = data_words (without_data (w.up n)) in
      let first = first_upward w n x found in
      let d : Datum = datum_by x.bytes (Some s) in
      let is : datum x ≡ d = ap (datum_by x.bytes) stamped in
      let a : Arrival = arrival_by s.port s (stripped x.bytes) in
      let i : History = arrival_event b a ∷ h in
      let links : ℕ → List Item = change (upward w) n (items.without_data (upward w n)) in
      let as_up : (m : ℕ) → IsLink t m → Each (IsWordOf t g m) (words_of (upward w m)) = λ m there. subst (Each (IsWordOf t g m)) (sym (upward_words w m)) (k.words m there) in
      let its : IsWordOf t g n d = subst (IsWordOf t g n) is (each_first (IsWordOf t g n) (upward w n) (datum x) rest first (as_up n link)) in
      let takes : (r : ℕ) → IsDeep t r → of_port r (d ∷ []) ++ waiting t (upward v) r ≡ waiting t (upward w) r = λ r deep.
      ap (λ (xs : List Datum). of_port r (d ∷ []) ++ xs) (waits_as v links r ups)
      ∙ (ap (λ (f : Datum). of_port r (f ∷ []) ++ waiting t links r) (sym is) ∙ carry_in_takes t tree (upward w) n link low (datum x) rest first r deep over) in
      record {
        ports = λ r r_ext.
            elim (cases_eq s.port r) [
              | inr other ↦ named_same w v g g h i r
                  (λ deep. ap (λ (xs : List Datum). xs ++ waiting t (upward v) r) (sym (of_other r d other)) ∙ takes r (deep_of r deep r_ext))
                  (told_other r h b a other) refl (k.ports r r_ext)
              | inl same ↦
                  let deep : 64 ≤ r = subst (λ (y : ℕ). 64 ≤ y) same (from_extended t s.port its.outer).0 in
                  let was : waiting t (upward w) r ≡ d ∷ waiting t (upward v) r = sym (takes r (deep_of r deep r_ext)) ∙ ap (λ (xs : List Datum). xs ++ waiting t (upward v) r) (of_here r d same) in
                  named_deep v g i r (told_at r h ++ (s.index, is_relayed b a.port a.bytes) ∷ []) (waiting t (upward v) r) (length (arrivals_at r g)) deep (told_here r h b a same) refl refl
                  (named_taken (told_at r h) s.index (indices (waiting t (upward v) r)) (length (arrivals_at r g)) (is_relayed b a.port a.bytes)
                  (subst (λ (xs : List Datum). Named (told_at r h) (indices xs) (length (arrivals_at r g))) was (deep_named w g h r deep (k.ports r r_ext))))
            ];
        events = (of_arrival g b a (and_parts (nat_le 64 s.port) (is_external t s.port) its.outer).1 its.record_of, k.events);
        words = λ m there. subst (Each (IsWordOf t g m)) (sym (ups m)) (each_less (upward w) n (IsWordOf t g m) m (as_up m there));
      }
