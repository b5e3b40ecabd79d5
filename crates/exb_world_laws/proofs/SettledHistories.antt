-- The history of a settled world, and what lies between two settled moments.
use Rattle.std.proofs.Common.{◌≡◌, ℕ, zero, suc, ◌+◌, ◌≤◌, ◌&&◌, ◌++◌, cond, nat_lt, nat_le, Bool, true, false, List, [], ◌∷◌, length, reverse, Option, slice_index, refl, sym, ◌∙◌, ap, subst, arith, inl, inr, length-append}
use Rattle.std.specs.Prelude.{filter_map}
use Rattle.std.specs.List.{range_with_len}
use Rattle.std.proofs.lemmas.Bool.{cases_lt, lt-ltb, le-ltb, le-leb, lt-leb, and_parts, and_from}
use Rattle.std.proofs.lemmas.List.{append-nil}
use Rattle.std.proofs.lemmas.List.Elements.{filter_map-append}
use Rattle.exb_model.specs.declared.event.Event.{Event}
use Rattle.exb_model.specs.History.{Basis, History, ◌then◌}
use Rattle.exb_model.specs.declared.arrival.Arrival.{Arrival}
use Rattle.exb_model.specs.LegalHistory.{EachEvent, number_of, of_port, Rise, relays_and_late, IsInOrder, IsDecided, IsEntered}
use Rattle.exb_model.specs.Tree.{Shape, IsTree, device, on, is_port, is_external, is_extended}
use Rattle.exb_frame.specs.TagValues.{TagRoundTrip}
use Rattle.exb_relay.specs.Laws.{SendsAreWords, SendsLeaveAsFlat}
use Rattle.exb_control_spec.specs.Machine.{Work}
use Rattle.exb_control_spec.specs.Runs.Journal.{StepsTell, undecided_of, pending}
use Rattle.exb_world_spec.specs.AllowedSteps.{IsSettled}
use Rattle.exb_world_spec.specs.Settling.{run}
use Rattle.exb_world_spec.specs.Steps.{stepped}
use Rattle.exb_world_spec.specs.Worlds.{World, Step, Arrive, Carry, Control, Lose, Beat, Tick, Order, Mark}
use Rattle.exb_flight.specs.Items.{Word as Datum, Item, Each, words_of, data_of}
use Rattle.exb_flight.specs.Tree.{IsLink}
use Rattle.exb_flight.specs.UpwardOrder.{waiting_up, waiting}
use Rattle.exb_flight.specs.UpwardOrder as order
use Rattle.exb_flight.specs.NamedArrivals.{told_at, times, once_to, firsts, indices}
use Rattle.exb_flight.proofs.ArrivalEvents.{of_append, told_is_of_port}
use Rattle.exb_flight.proofs.IndexLists.{times_append, once_more, firsts_append}
use Rattle.exb_flight.proofs.ExtendersAbove.{home_link, link_above}
use Rattle.exb_flight.specs.Tokens.{data_words}
use Rattle.exb_world_laws.specs.WorldInput.{Given, Came, Told, given_by, arrivals_of, arrivals_at, commands_of, indices_of, basis_with}
use Rattle.exb_world_laws.specs.OneBridge.{command_number, automatic_port, up_port, upward, waiting_at, IsNamed, IsOfArrival, IsRightly, Stands}
use Rattle.exb_world_laws.specs.WorldInvariant.{MayDo, MayDoAll, given_in}
use Rattle.exb_world_laws.specs.SettledHistories.{IsOrderly, SettledIsOrderly, SegmentsArePlayed}
use Rattle.exb_world_laws.proofs.JobOrder.{reverse_then}
use Rattle.exb_world_laws.proofs.InvariantSteps.{range_more, commands_append}
use Rattle.exb_world_laws.proofs.NamedArrivals.{arrivals_append, low_named, deep_named}
use Rattle.exb_world_laws.proofs.Permutations.{each_new, named_once, relays_given}
use Rattle.exb_world_laws.proofs.OneBridge.{kept_stands, runs_kept}

-- ---- nothing is on its way
none_waits : (t : Shape) → IsTree t → (up : ℕ → List Item) → ((n : ℕ) → IsLink t n → up n ≡ []) → (r d p : ℕ) → IsLink t (device p) → waiting_up t up r d p ≡ []
unfolding waiting_up
none_waits t tree up empty r zero p link = ap (λ (xs : List Item). order.of_port r (words_of xs)) (empty (device p) link)
none_waits t tree up empty r (suc d) p link =
    elim (cases_lt (on t (device p)) 64) [
      | inl low ↦ rw (lt-ltb (on t (device p)) 64 low, empty (device p) link) refl
      | inr high ↦ rw (le-ltb (on t (device p)) 64 high, empty (device p) link, none_waits t tree up empty r d (on t (device p)) (link_above t tree (device p) link high)) refl
    ]

none_waiting : (t : Shape) → IsTree t → (w : World) → IsSettled t w → (p : ℕ) → is_external t p ≡ true → waiting_at t w p ≡ []
unfolding waiting
none_waiting t tree w settled p ext =
    elim (cases_lt p 64) [
      | inl low ↦ rw (lt-ltb p 64 low) refl
      | inr high ↦ rw (le-ltb p 64 high)
          (none_waits t tree (upward w) (λ n link. ap (λ (ws : _). data_of (data_words ws)) (settled.up n (and_from (nat_lt 0 n) _ (lt-ltb 0 n link.extender) (lt-ltb 0 (slice_index t.ports n) link.there)))) p 64 p
          (home_link t p (record { deep = high; known = known_port p ext })))
    ]
  where
    known_port : (p : ℕ) → is_external t p ≡ true → is_port t p ≡ true
    known_port p e = (and_parts (is_port t p) _ e).0

-- nothing is left to decide
none_left : (t : Shape) (w : World) → IsSettled t w → pending w.control ≡ []
none_left t w settled = ap (λ (o : Option Work). undecided_of o ++ w.control.queue) settled.work ∙ settled.queue

-- ---- numbers
times_range : (n m : ℕ) → times n (range_with_len 1 m) ≡ once_to m n
times_range n zero = none n
  where
    none : (n : ℕ) → 0 ≡ once_to 0 n
    none zero = refl
    none (suc n) = sym (ap (λ (b : Bool). cond {A = ℕ} (nat_lt 0 (suc n) && b) 1 0) (lt-leb (suc n) 0 (omega arith)) ∙ no_one (nat_lt 0 (suc n)))
      where
        no_one : (b : Bool) → cond {A = ℕ} (b && false) 1 0 ≡ 0
        no_one true = refl
        no_one false = refl
times_range n (suc m) =
    ap (λ (k : ℕ). times n (range_with_len 1 k)) (next m)
    ∙ (ap (times n) (range_more m)
    ∙ (times_append n (range_with_len 1 m) ((m + 1) ∷ [])
    ∙ (ap (λ (k : ℕ). k + times n ((m + 1) ∷ [])) (times_range n m) ∙ (sym (once_more m n) ∙ ap (λ (k : ℕ). once_to k n) (sym (next m))))))
  where
    next : (m : ℕ) → suc m ≡ m + 1
    next m = omega arith

range_append : (a m n : ℕ) → range_with_len a (m + n) ≡ range_with_len a m ++ range_with_len (a + m) n
range_append a zero n = ap (range_with_len a) (plus_none n) ∙ ap (λ (k : ℕ). range_with_len k n) (after_none a)
  where
    plus_none : (n : ℕ) → 0 + n ≡ n
    plus_none n = omega arith

    after_none : (a : ℕ) → a ≡ a + 0
    after_none a = omega arith
range_append a (suc m) n =
    ap (range_with_len a) (plus_more m n) ∙ ap (λ (xs : List ℕ). a ∷ xs) (range_append (a + 1) m n ∙ ap (λ (k : ℕ). range_with_len (a + 1) m ++ range_with_len k n) (after_more a m))
  where
    plus_more : (m n : ℕ) → suc m + n ≡ suc (m + n)
    plus_more m n = omega arith

    after_more : (a m : ℕ) → (a + 1) + m ≡ a + suc m
    after_more a m = omega arith

front_same : (xs ys zs : List ℕ) → xs ++ ys ≡ xs ++ zs → ys ≡ zs
front_same [] ys zs e = e
front_same (x ∷ xs) ys zs e = front_same xs ys zs (tail_same e)
  where
    tail_same : {us vs : List ℕ} → x ∷ us ≡ x ∷ vs → us ≡ vs
    tail_same q = cc

of_port-append : (r : ℕ) (h : History) (es : List Event) → told_at r (h then es) ≡ told_at r h ++ of_port r es
of_port-append r h es = told_is_of_port r (h then es) ∙ (ap (of_port r) (reverse_then h es) ∙ (split (reverse h) es ∙ ap (λ (xs : List (ℕ × Bool)). xs ++ of_port r es) (sym (told_is_of_port r h))))
  where
    split : (xs ys : List Event) → of_port r (xs ++ ys) ≡ of_port r xs ++ of_port r ys
    split xs ys = of_append r xs ys

-- ---- a settled world
settled_orderly : SettledIsOrderly
settled_orderly t l i start w g h left k settled =
    let s : Stands t l i w g h left = kept_stands t l i start w g h left k in
    let rest = none_left t w settled in
    record {
      opened = sym (append-nil (filter_map up_port (reverse h))) ∙ (ap (λ (xs : List _). filter_map up_port (reverse h) ++ filter_map automatic_port xs) (sym rest) ∙ s.decided.automatic);
      commands = sym (append-nil (filter_map number_of (reverse h))) ∙ (ap (λ (xs : List _). filter_map number_of (reverse h) ++ filter_map command_number xs) (sym rest) ∙ s.decided.commands);
      named = λ p ext n.
          let its : IsNamed t w g h p = s.names.ports p ext in
          let none = none_waiting t start.setting.tree w settled p ext in
          ap (λ (xs : List (ℕ × Bool)). times n (firsts xs)) (sym (told_is_of_port p h))
          ∙ (ap (times n) (sym (append-nil (firsts (told_at p h))))
          ∙ (ap (λ (xs : List Datum). times n (firsts (told_at p h) ++ indices xs)) (sym none)
          ∙ (its.once n ∙ (sym (times_range n (length (arrivals_at p g))) ∙ ap (times n) (sym (s.follows.indexed p))))));
      ordered = λ p ext. in_order p ext (s.names.ports p ext);
      refused = each_refused h s.rightly;
      entered = each_entered h s.rightly;
    }
  where
    j : Basis
    j = basis_with i g

    arrivals : ℕ → List Arrival
    arrivals p = arrivals_at p g

    each_refused : (z : History) → EachEvent (IsRightly t l (basis_with i g) (λ p. arrivals_at p g)) z → EachEvent (IsDecided t l (basis_with i g)) z
    each_refused [] a = tt
    each_refused (e ∷ z) a = (each_refused z a.0, a.1.decided)

    each_entered : (z : History) → EachEvent (IsRightly t l (basis_with i g) (λ p. arrivals_at p g)) z → EachEvent (IsEntered (basis_with i g) (λ p. arrivals_at p g)) z
    each_entered [] a = tt
    each_entered (e ∷ z) a = (each_entered z a.0, a.1.entered)

    in_order : (p : ℕ) → is_external t p ≡ true → IsNamed t w g h p → IsInOrder t (reverse h) p
    in_order p ext its =
        let told : told_at p h ≡ of_port p (reverse h) = told_is_of_port p h in
        elim (cases_lt p 64) [
          | inl low ↦
              let local : is_extended t p ≡ false = ap (λ (b : Bool). b && is_external t p) (lt-leb 64 p low) in
              let rises : Rise 0 (firsts (of_port p (reverse h))) = subst (λ (xs : List (ℕ × Bool)). Rise 0 (firsts xs)) told (low_named t w g h p low its).rising in
              rw local rises
          | inr deep ↦
              let outer : is_extended t p ≡ true = and_from (nat_le 64 p) (is_external t p) (le-leb 64 p deep) ext in
              let none : waiting t (upward w) p ≡ [] = deep_none p deep ext in
              let named : Rise 0 (relays_and_late 0 (told_at p h) ++ indices (waiting t (upward w) p)) = (deep_named t w g h p deep its).rising in
              let rises : Rise 0 (relays_and_late 0 (told_at p h)) = subst (Rise 0) (ap (λ (xs : List Datum). relays_and_late 0 (told_at p h) ++ indices xs) none ∙ append-nil (relays_and_late 0 (told_at p h))) named in
              rw outer (subst (λ (xs : List (ℕ × Bool)). Rise 0 (relays_and_late 0 xs)) told rises)
        ]
      where
        deep_none : (p : ℕ) → 64 ≤ p → is_external t p ≡ true → waiting t (upward w) p ≡ []
        deep_none p deep ext =
            let all : waiting_at t w p ≡ [] = none_waiting t start.setting.tree w settled p ext in
            let same : waiting_at t w p ≡ waiting t (upward w) p = ap (λ (b : Bool). cond b [] (waiting t (upward w) p)) (le-ltb p 64 deep) in
            sym same ∙ all

pub settled_is_orderly : SettledIsOrderly
settled_is_orderly = settled_orderly

-- ---- between two settled moments
pub segments_are_played : TagRoundTrip → SendsAreWords → SendsLeaveAsFlat → StepsTell → SegmentsArePlayed
segments_are_played round words leave law t l i start w g h left k settled steps may after =
    let v : World = (run t l steps w).world in
    let es : List Event = (run t l steps w).events in
    let more : List Given = given_in steps in
    let next = runs_kept round words leave law t l i start steps w g h left k may in
    let a : IsOrderly t l i g h = settled_orderly t l i start w g h left k settled in
    let b : IsOrderly t l i (g ++ more) (h then es) = settled_orderly t l i start v (g ++ more) (h then es) (left ++ (run t l steps w).left) next after in
    let ups : filter_map up_port (reverse h) ++ filter_map up_port es ≡ filter_map up_port (reverse h) ++ [] =
    sym (filter_map-append up_port (reverse h) es) ∙ (ap (filter_map up_port) (sym (reverse_then h es)) ∙ (b.opened ∙ (sym a.opened ∙ sym (append-nil (filter_map up_port (reverse h)))))) in
    let size : length (commands_of (g ++ more)) ≡ length (commands_of g) + length (commands_of more) = ap (λ (cs : List _). length cs) (commands_append g more) ∙ length-append (commands_of g) (commands_of more) in
    let numbers : filter_map number_of (reverse h) ++ filter_map number_of es ≡ filter_map number_of (reverse h) ++ range_with_len (1 + length (commands_of g)) (length (commands_of more)) =
    sym (filter_map-append number_of (reverse h) es)
    ∙ (ap (filter_map number_of) (sym (reverse_then h es))
    ∙ (b.commands
    ∙ (ap (range_with_len 1) size
    ∙ (range_append 1 (length (commands_of g)) (length (commands_of more)) ∙ ap (λ (xs : List ℕ). xs ++ range_with_len (1 + length (commands_of g)) (length (commands_of more))) (sym a.commands))))) in
    let named : (p : ℕ) → is_external t p ≡ true → (n : ℕ) → times n (firsts (of_port p es)) ≡ times n (indices_of (arrivals_at p more)) = λ p ext n.
    let was = a.named p ext n in
    let is = b.named p ext n in
    let told = ap (λ (xs : List (ℕ × Bool)). times n (firsts xs)) (sym (told_is_of_port p (h then es)) ∙ of_port-append p h es) in
    let parts = ap (times n) (firsts_append (told_at p h) (of_port p es)) ∙ times_append n (firsts (told_at p h)) (firsts (of_port p es)) in
    let first = ap (λ (xs : List (ℕ × Bool)). times n (firsts xs)) (told_is_of_port p h) in
    let given = ap (λ (xs : List Arrival). times n (indices_of xs)) (arrivals_append p g more) ∙ (ap (times n) (indices_append (arrivals_at p g) (arrivals_at p more)) ∙ times_append n (indices_of (arrivals_at p g)) (indices_of (arrivals_at p more))) in
    cancels _ _ _ _ _ _ _ was is told parts first _ given in
    let events : Each (IsOfArrival t (g ++ more)) es = each_new (IsOfArrival t (g ++ more)) h es next.names.events in
    let first : (p : ℕ) → indices_of (arrivals_at p more) ≡ range_with_len (length (arrivals_at p g) + 1) (length (arrivals_at p more)) = λ p.
    let whole = arrivals_append p g more in
    front_same (indices_of (arrivals_at p g)) (indices_of (arrivals_at p more)) (range_with_len (length (arrivals_at p g) + 1) (length (arrivals_at p more)))
    (sym (indices_append (arrivals_at p g) (arrivals_at p more))
    ∙ (ap indices_of (sym whole)
    ∙ (next.follows.indexed p
    ∙ (ap (range_with_len 1) (ap (λ (xs : List Arrival). length xs) whole ∙ length-append (arrivals_at p g) (arrivals_at p more))
    ∙ (range_append 1 (length (arrivals_at p g)) (length (arrivals_at p more))
    ∙ (ap (λ (xs : List ℕ). xs ++ range_with_len (1 + length (arrivals_at p g)) (length (arrivals_at p more))) (sym (k.follows.indexed p))
    ∙ ap (λ (x : ℕ). indices_of (arrivals_at p g) ++ range_with_len x (length (arrivals_at p more))) (swapped (length (arrivals_at p g))))))))) in
    record {
      none_opened = front_same (filter_map up_port (reverse h)) (filter_map up_port es) [] ups;
      commands =
          front_same (filter_map number_of (reverse h)) (filter_map number_of es) (range_with_len (1 + length (commands_of g)) (length (commands_of more))) numbers
          ∙ ap (λ (n : ℕ). range_with_len n (length (commands_of more))) (omega arith);
      once = named_once t (g ++ more) more es events (all_external steps w may) named;
      relays = relays_given t g more es (λ p. first p) named events;
    }
  where
    cancels : (a b c d e f x : ℕ) → a ≡ b → c ≡ d → c ≡ e → e ≡ f + x → f ≡ a → (y : ℕ) → d ≡ b + y → x ≡ y
    cancels a b c d e f x p q r s u y v = omega (arith, p, q, r, s, u, v)

    swapped : (m : ℕ) → 1 + m ≡ m + 1
    swapped m = omega arith

    -- what steps give comes at external ports
    step_external : (step : Step) (u : World) → MayDo t l u step → Each (λ (x : Arrival). is_external t x.port ≡ true) (arrivals_of (given_by step))
    step_external (Arrive x) u may = (may.may.can.external, tt)
    step_external (Carry n way) u may = tt
    step_external (Control n way j keep) u may = tt
    step_external (Lose n way j) u may = tt
    step_external Beat u may = tt
    step_external (Tick seconds) u may = tt
    step_external (Order c) u may = tt
    step_external Mark u may = tt

    joined : (xs ys : List Given) → Each (λ (x : Arrival). is_external t x.port ≡ true) (arrivals_of xs) → Each (λ (x : Arrival). is_external t x.port ≡ true) (arrivals_of ys) → Each (λ (x : Arrival). is_external t x.port ≡ true) (arrivals_of (xs ++ ys))
    joined [] ys a b = b
    joined (Came x ∷ xs) ys a b = (a.0, joined xs ys a.1 b)
    joined (Told c ∷ xs) ys a b = joined xs ys a b

    all_external : (steps : List Step) (u : World) → MayDoAll t l u steps → Each (λ (x : Arrival). is_external t x.port ≡ true) (arrivals_of (given_in steps))
    all_external [] u may = tt
    all_external (step ∷ steps) u may = joined (given_by step) (given_in steps) (step_external step u may.0) (all_external steps (stepped t l step u).world may.1)

    indices_append : (xs ys : List Arrival) → indices_of (xs ++ ys) ≡ indices_of xs ++ indices_of ys
    indices_append [] ys = refl
    indices_append (x ∷ xs) ys = ap (λ (zs : List ℕ). x.index ∷ zs) (indices_append xs ys)
