-- The history of each bridge holds all that comes to it.
use Rattle.std.proofs.Common.{◌≡◌, ◌≢◌, ℕ, zero, suc, ◌+◌, ◌-◌, ◌<◌, ◌==◌, ◌++◌, Bool, true, false, cond, List, [], ◌∷◌, filter, length, map, Option, Some, None, refl, ap, sym, ◌∙◌, subst, arith, inl, inr}
use Rattle.std.specs.Prelude.{filter_map, flat_map, reverse}
use Rattle.std.specs.List.{range_with_len}
use Rattle.std.specs.Option.{IsSomeAnd}
use Rattle.std.proofs.lemmas.Bool.{cases_Bool, cases_eq, eq-eqb, ne_eqb}
use Rattle.std.proofs.lemmas.List.{append_assoc, append-nil, length-append, reverse-append}
use Rattle.std.proofs.lemmas.List.Elements.{filter-append, filter_map-append}
use Rattle.exb_model.specs.declared.command.Command.{Command}
use Rattle.exb_model.specs.declared.event.Cause.{Cause}
use Rattle.exb_model.specs.declared.event.Event.{Event}
use Rattle.exb_model.specs.declared.event.Event.TheVariants as event
use Rattle.exb_model.specs.Configuration.{Bridge}
use Rattle.exb_model.specs.EagerHistory.{arrival_event, decided, is_relayed, refusal_of, risen, up_event, with_tick, with_ups}
use Rattle.exb_model.specs.FlatBridge.{Sent}
use Rattle.exb_model.specs.History.{Basis, History, bridge_after, command_of}
use Rattle.exb_model.specs.declared.arrival.Arrival.{Arrival}
use Rattle.exb_model.specs.Input.{Coming, Given, Ordered, Captured, arrivals_at, bounds_of, commands_from, number_in, tree_of}
use Rattle.exb_model.specs.LegalHistory.{EachEvent, IsDecided, IsEntered, number_of}
use Rattle.exb_model.specs.Lists.{Pairwise, numbered}
use Rattle.exb_model.specs.Refusals.{refusal}
use Rattle.exb_model.specs.Setup.{Limits}
use Rattle.exb_model.specs.Tree.{Shape, external_ports, opening_ports}
use Rattle.exb_model.specs.declared.command.Command.TheVariants as command
use Rattle.exb_net_spec.specs.declared.wires.End.{End}
use Rattle.exb_net_spec.specs.Nets.{Net, IsNet, ends_of, far_end}
use Rattle.exb_net_spec.specs.NetHistory.{Crossing, Due, Histories, State, NetEager, Goes, GoesSince, arrival_of, basis_in, comes, crosses, delivered, delivered_times, due_at, due_second, dues, event_of, grown_by, happens, openings, start_of_all, ticked}
use Rattle.exb_net_spec.specs.InputOrder.{AreTimely}
use Rattle.exb_net_spec.specs.BridgeHistories.{HistoriesHoldAll, HoldsAll, IsEventOf, arrivals_as, arrivals_in, arrivals_over, events_at, is_at_port, leaves_at}
use Rattle.exb_net_spec.proofs.WireArrivals.{IsEntry, at_port, command_no_port, entries_at, entries_more, entries_other, crossings_arrive, crossings_enter, pairs_more, told_events}
use Rattle.exb_net_spec.proofs.InputByBridge.{order_of, orders_due, record_of, records_due}
use Rattle.exb_net_spec.proofs.Forest.{none_some}
use Rattle.exb_net_spec.proofs.PortRecords.{Each, IsOfRecord, IsRecorded, at_seam, dues_each, dues_recorded, each_both}
use Rattle.exb_net_spec.proofs.QueueBound.{end_at, ends_apart, far_back, with_here, with_there}

-- ---- commands that a history tells
abbrev told : History → List ℕ
told h = filter_map number_of (reverse h)

told_more : (e : Event) (h : History) → told (e ∷ h) ≡ told h ++ filter_map number_of (e ∷ [])
told_more e h = ap (filter_map number_of) (reverse-append (e ∷ []) h) ∙ filter_map-append number_of (reverse h) (e ∷ [])

told_same : (e : Event) (h : History) → filter_map number_of (e ∷ []) ≡ [] → told (e ∷ h) ≡ told h
told_same e h none = told_more e h ∙ (ap (λ (xs : List ℕ). told h ++ xs) none ∙ append-nil (told h))

arrival_no_number : (b : Bridge) (a : Arrival) → filter_map number_of (arrival_event b a ∷ []) ≡ []
arrival_no_number b a = elim (cases_Bool (is_relayed b a.port a.bytes)) [ inl e ↦ rw e refl | inr e ↦ rw e refl ]

abbrev number_due : Due → Option ℕ
number_due d = number_in d.coming

filter_last : {A : Type 0} (test : A → Bool) (xs : List A) (x : A) → test x ≡ true → filter test (xs ++ x ∷ []) ≡ filter test xs ++ x ∷ []
filter_last test xs x is = filter-append test xs (x ∷ []) ∙ ap (λ (c : Bool). filter test xs ++ cond c (x ∷ []) []) is

filter_not : {A : Type 0} (test : A → Bool) (xs : List A) (x : A) → test x ≡ false → filter test (xs ++ x ∷ []) ≡ filter test xs
filter_not test xs x not = filter-append test xs (x ∷ []) ∙ (ap (λ (c : Bool). filter test xs ++ cond c (x ∷ []) []) not ∙ append-nil (filter test xs))

-- ---- what may be asked of a command
module _ (n : Net) where
  abbrev IsOfCommand : ℕ → Coming → Type 0
  IsOfCommand b (Ordered moment k) = (c : Command) × (command_of (basis_in n b) k ≡ Some c)
  IsOfCommand b (Captured a) = Unit {0}

-- ---- one bridge
module _ (n : Net) (net : IsNet n) (b : ℕ) where
  abbrev i : Basis
  i = basis_in n b

  abbrev t : Shape
  t = tree_of (n.input b)

  abbrev l : Limits
  l = bounds_of (n.input b)

  abbrev IsDueEntry : Due → Event × Bridge → Type 0
  IsDueEntry d x = (a : Arrival) × (d.coming ≡ Captured a) × IsEntry a x

  -- an arrival of the record with its index
  abbrev HasRecord : ℕ → Event × Bridge → Type 0
  HasRecord q x = (a : Arrival) × (numbered (arrivals_at (n.input b) q) a.index ≡ Some a) × IsEntry a x

  -- When all of this had come, the history tells its commands and records.
  record Tells (done : List Due) (h : History) : Type 0 where
    commands : told h ≡ filter_map number_due (filter (order_of b) done)
    rightly : EachEvent (IsDecided (tree_of (n.input b)) (bounds_of (n.input b)) (basis_in n b)) h
    records : (q : ℕ) → far_end n.wires b q ≡ None → Pairwise IsDueEntry (filter (record_of b q) done) (entries_at (basis_in n b) h q)
    found : (q : ℕ) → far_end n.wires b q ≡ None → Each (HasRecord q) (entries_at (basis_in n b) h q)

  -- nothing of it
  quiet : (done : List Due) (h : History) (e : Event) → filter_map number_of (e ∷ []) ≡ [] → IsDecided t l i h e → ((q : ℕ) → far_end n.wires b q ≡ None → is_at_port q e ≡ false) → Tells done h → Tells done (e ∷ h)
  quiet done h e none right away k =
      record {
        commands = told_same e h none ∙ k.commands;
        rightly = (k.rightly, right);
        records = λ q free. subst (Pairwise IsDueEntry (filter (record_of b q) done)) (sym (entries_other i e h q (away q free))) (k.records q free);
        found = λ q free. subst (Each (HasRecord q)) (sym (entries_other i e h q (away q free))) (k.found q free);
      }

  settles : (done : List Due) (h : History) → Tells done h → Tells done (event.Settled ∷ h)
  settles done h k = quiet done h event.Settled refl tt (λ q free. refl) k

  ticks : (done : List Due) (seconds : ℕ) (h : History) → Tells done h → Tells done (with_tick seconds h)
  ticks done seconds h k = elim (cases_Bool (seconds == 0)) [
    | inl e ↦ rw e k
    | inr e ↦ rw e (quiet done h (event.Tick seconds) refl tt (λ q free. refl) k)
  ]

  arrival_decided : (h : History) (c : Bridge) (a : Arrival) → IsDecided t l i h (arrival_event c a)
  arrival_decided h c a = elim (cases_Bool (is_relayed c a.port a.bytes)) [ inl e ↦ rw e tt | inr e ↦ rw e tt ]

  -- a frame over a wire
  crosses_in : (done : List Due) (h : History) (a : Arrival) (f : End) → far_end n.wires b a.port ≡ Some f → Tells done h → Tells done (arrival_event (bridge_after i h) a ∷ h)
  crosses_in done h a f wired k =
      quiet done h (arrival_event (bridge_after i h) a) (arrival_no_number (bridge_after i h) a) (arrival_decided h (bridge_after i h) a)
      (λ q free. at_port (bridge_after i h) a q ∙ ne_eqb a.port q (λ same. none_some (sym free ∙ (ap (far_end n.wires b) (sym same) ∙ wired)))) k

  -- ---- something comes to it
  by_cause : (h : History) (k : ℕ) (c : Command) → command_of i k ≡ Some c → (o : Option Cause) → refusal t l (bridge_after i h) c ≡ o → IsDecided t l i h (decided k o)
  by_cause h k c is None same = subst (λ (x : Option Command). IsSomeAnd x (λ (z : Command). refusal t l (bridge_after i h) z ≡ None)) (sym is) same
  by_cause h k c is (Some x) same = subst (λ (y : Option Command). IsSomeAnd y (λ (z : Command). refusal t l (bridge_after i h) z ≡ Some x)) (sym is) same

  order_decided : (h : History) (k : ℕ) (c : Command) → command_of i k ≡ Some c → IsDecided t l i h (decided k (refusal_of t l (bridge_after i h) (command_of i k)))
  order_decided h k c is =
      subst (λ (o : Option Command). IsDecided t l i h (decided k (refusal_of t l (bridge_after i h) o))) (sym is) (by_cause h k c is (refusal t l (bridge_after i h) c) refl)

  decided_number : (k : ℕ) (o : Option Cause) → filter_map number_of (decided k o ∷ []) ≡ k ∷ []
  decided_number k None = refl
  decided_number k (Some x) = refl

  comes_here : (done : List Due) (h : History) (x : Coming) → IsOfRecord (n.input b) x → IsOfCommand n b x → Tells done h → Tells (done ++ record { bridge = b; coming = x } ∷ []) (event_of n b h x ∷ h)
  comes_here done h (Ordered moment j) recorded is k =
      let d : Due = record { bridge = b; coming = Ordered moment j } in
      let e : Event = event_of n b h (Ordered moment j) in
      let away : (q : ℕ) → is_at_port q e ≡ false = λ q. command_no_port t l i (bridge_after i h) q j in
      record {
        commands =
            told_more e h
            ∙ (ap (λ (xs : List ℕ). xs ++ filter_map number_of (e ∷ [])) k.commands
            ∙ (ap (λ (xs : List ℕ). filter_map number_due (filter (order_of b) done) ++ xs) (decided_number j (refusal_of t l (bridge_after i h) (command_of i j)))
            ∙ (sym (filter_map-append number_due (filter (order_of b) done) (d ∷ [])) ∙ ap (filter_map number_due) (sym (filter_last (order_of b) done d (eq-eqb b b refl))))));
        rightly = (k.rightly, order_decided h j is.0 is.1);
        records = λ q free. subst (λ (ds : List Due). Pairwise IsDueEntry ds (entries_at i (e ∷ h) q)) (sym (filter_not (record_of b q) done d refl))
            (subst (Pairwise IsDueEntry (filter (record_of b q) done)) (sym (entries_other i e h q (away q))) (k.records q free));
        found = λ q free. subst (Each (HasRecord q)) (sym (entries_other i e h q (away q))) (k.found q free);
      }
  comes_here done h (Captured a) recorded is k =
      let d : Due = record { bridge = b; coming = Captured a } in
      let e : Event = arrival_event (bridge_after i h) a in
      record {
        commands = told_same e h (arrival_no_number (bridge_after i h) a) ∙ (k.commands ∙ ap (filter_map number_due) (sym (filter_not (order_of b) done d refl)));
        rightly = (k.rightly, arrival_decided h (bridge_after i h) a);
        records = λ q free. elim (cases_eq a.port q) [
          | inl same ↦
              subst (λ (ds : List Due). Pairwise IsDueEntry ds (entries_at i (e ∷ h) q)) (sym (filter_last (record_of b q) done d (rw (eq-eqb a.port q same, eq-eqb b b refl) refl)))
              (subst (Pairwise IsDueEntry (filter (record_of b q) done ++ d ∷ [])) (sym (entries_more i e h q (at_port (bridge_after i h) a q ∙ eq-eqb a.port q same)))
              (pairs_more IsDueEntry (filter (record_of b q) done) (entries_at i h q) d (e, bridge_after i h) (k.records q free) (a, refl, refl)))
          | inr other ↦
              subst (λ (ds : List Due). Pairwise IsDueEntry ds (entries_at i (e ∷ h) q)) (sym (filter_not (record_of b q) done d (rw (ne_eqb a.port q other) refl)))
              (subst (Pairwise IsDueEntry (filter (record_of b q) done)) (sym (entries_other i e h q (at_port (bridge_after i h) a q ∙ ne_eqb a.port q other))) (k.records q free))
        ];
        found = λ q free. elim (cases_eq a.port q) [
          | inl same ↦
              subst (Each (HasRecord q)) (sym (entries_more i e h q (at_port (bridge_after i h) a q ∙ eq-eqb a.port q same)))
              (each_both (HasRecord q) (entries_at i h q) ((e, bridge_after i h) ∷ []) (k.found q free) ((a, subst (λ (p : ℕ). numbered (arrivals_at (n.input b) p) a.index ≡ Some a) same recorded, refl), tt))
          | inr other ↦ subst (Each (HasRecord q)) (sym (entries_other i e h q (at_port (bridge_after i h) a q ∙ ne_eqb a.port q other))) (k.found q free)
        ];
      }

  other_order : (c : ℕ) (x : Coming) → c ≢ b → order_of b (record { bridge = c; coming = x }) ≡ false
  other_order c (Ordered moment k) other = ne_eqb c b other
  other_order c (Captured a) other = refl

  other_record : (c q : ℕ) (x : Coming) → c ≢ b → record_of b q (record { bridge = c; coming = x }) ≡ false
  other_record c q (Ordered moment k) other = refl
  other_record c q (Captured a) other = elim (cases_Bool (a.port == q)) [ inl e ↦ rw (e, ne_eqb c b other) refl | inr e ↦ rw e refl ]

  comes_away : (done : List Due) (h : History) (c : ℕ) (x : Coming) → c ≢ b → Tells done h → Tells (done ++ record { bridge = c; coming = x } ∷ []) h
  comes_away done h c x other k =
      let d : Due = record { bridge = c; coming = x } in
      record {
        commands = k.commands ∙ ap (filter_map number_due) (sym (filter_not (order_of b) done d (other_order c x other)));
        rightly = k.rightly;
        records = λ q free. subst (λ (ds : List Due). Pairwise IsDueEntry ds (entries_at i h q)) (sym (filter_not (record_of b q) done d (other_record c q x other))) (k.records q free);
        found = k.found;
      }

  -- ---- the queue: each frame is at a wired port
  abbrev IsOver : Crossing → Type 0
  IsOver x = (f : End) × (far_end n.wires x.bridge x.port ≡ Some f)

  over_wire : (c q : ℕ) (o : Option End) → far_end n.wires c q ≡ o → (xs : List Sent) → Each IsOver (crosses o xs)
  over_wire c q None is xs = tt
  over_wire c q (Some e) is [] = tt
  over_wire c q (Some e) is (x ∷ xs) = ((end_at c q, far_back n.wires (ends_apart (ends_of n.wires) net.apart) c q e is), over_wire c q (Some e) is xs)

  over_all : (c : ℕ) (f : ℕ → List Sent) (qs : List ℕ) → Each IsOver (flat_map (λ (q : ℕ). crosses (far_end n.wires c q) (f q)) qs)
  over_all c f [] = tt
  over_all c f (q ∷ qs) = each_both IsOver (crosses (far_end n.wires c q) (f q)) (flat_map (λ (p : ℕ). crosses (far_end n.wires c p) (f p)) qs) (over_wire c q (far_end n.wires c q) refl (f q)) (over_all c f qs)

  grown_over : (c : ℕ) (h : History) (e : Event) → Each IsOver (grown_by n c h e)
  unfolding grown_by
  grown_over c h e = over_all c _ (external_ports (tree_of (n.input c)))

  record Holds (done : List Due) (s : State) : Type 0 where
    tells : Tells done (s.histories b)
    queue : Each IsOver s.queue

  abbrev HoldsAt : List Due → Histories → Type 0
  HoldsAt done hs = Holds done (record { histories = hs; queue = [] })

  occurs : (done more : List Due) (c : ℕ) (e : Event) (s : State) → (c ≡ b → Tells done (s.histories b) → Tells more (event.Settled ∷ e ∷ s.histories c)) → (c ≢ b → Tells done (s.histories b) → Tells more (s.histories b)) →
      Holds done s → Holds more (happens n c e s)
  occurs done more c e s here away k =
      let new : History = event.Settled ∷ e ∷ s.histories c in
      record {
        tells = elim (cases_eq b c) [
          | inl same ↦ subst (Tells more) (sym (with_here c b new s.histories same)) (here (sym same) k.tells)
          | inr other ↦ subst (Tells more) (sym (with_there c b new s.histories other)) (away (λ z. other (sym z)) k.tells)
        ];
        queue = each_both IsOver s.queue (grown_by n c (s.histories c) e) k.queue (grown_over c (s.histories c) e);
      }

  delivers : (done : List Due) (hs : Histories) (queue : List Crossing) → Holds done (record { histories = hs; queue = queue }) → Holds done (delivered n hs queue)
  delivers done hs [] k = k
  delivers done hs (x ∷ xs) k =
      let h : History = hs x.bridge in
      occurs done done x.bridge (arrival_event (bridge_after (basis_in n x.bridge) h) (arrival_of x h)) (record { histories = hs; queue = xs })
      (λ same tells. subst (λ (c : ℕ). Tells done (event.Settled ∷ arrival_event (bridge_after (basis_in n c) (hs c)) (arrival_of x (hs c)) ∷ hs c)) (sym same)
      (settles done (arrival_event (bridge_after i (hs b)) (arrival_of x (hs b)) ∷ hs b)
      (crosses_in done (hs b) (arrival_of x (hs b)) k.queue.0.0 (ap (λ (c : ℕ). far_end n.wires c x.port) (sym same) ∙ k.queue.0.1) tells)))
      (λ other tells. tells) (record { tells = k.tells; queue = k.queue.1 })

  times_on : (done : List Due) (m : ℕ) (s : State) → Holds done s → Holds done (delivered_times n m s)
  unfolding delivered_times
  times_on done zero s k = k
  times_on done (suc m) s k = times_on done m (delivered n s.histories s.queue) (delivers done s.histories s.queue k)

  -- ---- what comes
  abbrev IsKnown : Due → Type 0
  IsKnown d = IsRecorded n d × IsOfCommand n d.bridge d.coming

  comes_on : (done : List Due) (c : ℕ) (x : Coming) (hs : Histories) → IsKnown (record { bridge = c; coming = x }) → HoldsAt done hs → Holds (done ++ record { bridge = c; coming = x } ∷ []) (comes n (record { bridge = c; coming = x }) hs)
  comes_on done c x hs known k =
      occurs done (done ++ record { bridge = c; coming = x } ∷ []) c (event_of n c (hs c) x) (record { histories = hs; queue = [] })
      (λ same tells. subst (λ (z : ℕ). Tells (done ++ record { bridge = z; coming = x } ∷ []) (event.Settled ∷ event_of n z (hs z) x ∷ hs z)) (sym same)
      (settles (done ++ record { bridge = b; coming = x } ∷ []) (event_of n b (hs b) x ∷ hs b)
      (comes_here done (hs b) x (subst (λ (z : ℕ). IsOfRecord (n.input z) x) same known.0) (subst (λ (z : ℕ). IsOfCommand n z x) same known.1) tells)))
      (λ other tells. comes_away done (hs b) c x other tells) k

  since_on : (second : ℕ) (done ds : List Due) (hs end : Histories) → Each IsKnown ds → HoldsAt done hs → GoesSince n second ds hs end → HoldsAt (done ++ ds) end
  since_on second done [] hs end known k same = subst (λ (xs : List Due). HoldsAt xs end) (sym (append-nil done)) (subst (HoldsAt done) same k)
  since_on second done (d ∷ ds) hs end known k goes =
      let now : Histories = ticked (due_second d - second) hs in
      let first = comes_on done d.bridge d.coming now known.0 (record { tells = ticks done (due_second d - second) (hs b) k.tells; queue = tt }) in
      subst (λ (xs : List Due). HoldsAt xs end) (append_assoc done (d ∷ []) ds)
      (since_on (due_second d) (done ++ d ∷ []) ds goes.0 end known.1 (subst (Holds (done ++ d ∷ [])) goes.1.is (times_on (done ++ d ∷ []) goes.1.times (comes n d now) first)) goes.2)

  goes_on : (ds : List Due) (hs end : Histories) → Each IsKnown ds → HoldsAt [] hs → Goes n ds hs end → HoldsAt ds end
  goes_on [] hs end known k same = subst (HoldsAt []) same k
  goes_on (d ∷ ds) hs end known k goes = since_on (due_second d) [] (d ∷ ds) hs end known k goes

  -- ---- the opening
  up_quiet : (h : History) (p : ℕ) (o : Option Cause) → Tells [] h → Tells [] (risen p o ∷ h)
  up_quiet h p None k = quiet [] h (event.Up p) refl tt (λ q free. refl) k
  up_quiet h p (Some x) k = quiet [] h (event.NoUp p x) refl tt (λ q free. refl) k

  ups : (ps : List ℕ) (h : History) → Tells [] h → Tells [] (with_ups t l i h ps)
  ups [] h k = k
  ups (p ∷ ps) h k = ups ps (up_event t l (bridge_after i h) p ∷ h) (up_quiet h p (refusal t l (bridge_after i h) (command.Up p)) k)

  nothing : Tells [] []
  unfolding entries_at
  nothing = record { commands = refl; rightly = tt; records = λ q free. tt; found = λ q free. tt }

  opened : HoldsAt [] (openings n)
  opened = record { tells = settles [] (with_ups t l i [] (opening_ports t)) (ups (opening_ports t) [] nothing); queue = tt }

-- ---- commands by their numbers
seam : {A : Type 0} (front : List A) (x : A) (rest : List A) → numbered (front ++ x ∷ rest) (suc (length front)) ≡ Some x
seam front x rest = at_seam front x rest

module _ (n : Net) where
  known_from : (b start k : ℕ) (cs front : List Given) → (n.input b).commands ≡ front ++ cs → k ≡ suc (length front) → Each (λ (d : Due). IsOfCommand n d.bridge d.coming) (due_at b (commands_from start k cs))
  known_from b start k [] front is at = tt
  known_from b start k (c ∷ cs) front is at =
      let there : command_of (basis_in n b) k ≡ Some c.command =
      ap (λ (j : ℕ). numbered (map (λ (g : Given). g.command) (n.input b).commands) j) at
      ∙ (ap (λ (gs : List Given). numbered (map (λ (g : Given). g.command) gs) (suc (length front))) is ∙ in_map front) in (
        (c.command, there),
        known_from b start (suc k) cs (front ++ c ∷ []) (is ∙ sym (append_assoc front (c ∷ []) cs)) (let more = length-append front (c ∷ []) in omega (arith, at, more)),
      )
    where
      in_map : (xs : List Given) → numbered (map (λ (g : Given). g.command) (xs ++ c ∷ cs)) (suc (length xs)) ≡ Some c.command
      in_map [] = refl
      in_map (x ∷ xs) = in_map xs

numbers_from : (b start k : ℕ) (cs : List Given) → filter_map number_due (due_at b (commands_from start k cs)) ≡ range_with_len k (length cs)
numbers_from b start k [] = refl
numbers_from b start k (c ∷ cs) =
    let next : suc k ≡ k + 1 = omega arith in
    ap (λ (xs : List ℕ). k ∷ xs) (numbers_from b start (suc k) cs ∙ ap (λ (j : ℕ). range_with_len j (length cs)) next)

-- ---- arrivals by their indices
as_numbered : (p n : ℕ) (xs : List Sent) (front : List Arrival) → n ≡ suc (length front) → Each (λ (a : Arrival). numbered (front ++ arrivals_as p n xs) a.index ≡ Some a) (arrivals_as p n xs)
as_numbered p n [] front same = tt
as_numbered p n (x ∷ xs) front same =
    let a : Arrival = record { port = p; index = n; moment = x.0; bytes = x.1 } in
    let rest : List Arrival = arrivals_as p (suc n) xs in
    let longer : suc n ≡ suc (length (front ++ a ∷ [])) = (let more = length-append front (a ∷ []) in omega (arith, more, same)) in (
      ap (numbered (front ++ a ∷ rest)) same ∙ seam front a rest,
      subst (λ (all : List Arrival). Each (λ (z : Arrival). numbered all z.index ≡ Some z) rest) (append_assoc front (a ∷ []) rest) (as_numbered p (suc n) xs (front ++ a ∷ []) longer),
    )

same_captured : {x y : Arrival} → Captured x ≡ Captured y → x ≡ y
same_captured e = cc

captured_pairs : (b : ℕ) (as_ : List Arrival) (xs : List (Event × Bridge)) → Pairwise (λ (d : Due) (x : Event × Bridge). (a : Arrival) × (d.coming ≡ Captured a) × IsEntry a x) (due_at b (map Captured as_)) xs → Pairwise IsEntry as_ xs
captured_pairs b [] [] all = tt
captured_pairs b [] (x ∷ xs) all = absurd all
captured_pairs b (a ∷ as_) [] all = absurd all
captured_pairs b (a ∷ as_) (x ∷ xs) all = (subst (λ (z : Arrival). IsEntry z x) (sym (same_captured all.0.1)) all.0.2, captured_pairs b as_ xs all.1)

each_of_pairs : (P : Arrival → Type 0) (as_ : List Arrival) (xs : List (Event × Bridge)) → Pairwise IsEntry as_ xs → Each P as_ → Each (λ (x : Event × Bridge). (a : Arrival) × P a × IsEntry a x) xs
each_of_pairs P [] [] all each = tt
each_of_pairs P [] (x ∷ xs) all each = absurd all
each_of_pairs P (a ∷ as_) [] all each = absurd all
each_of_pairs P (a ∷ as_) (x ∷ xs) all each = ((a, each.0, all.0), each_of_pairs P as_ xs all.1 each.1)

each_left : {A : Type 0} (P : A → Type 0) (xs ys : List A) → Each P (xs ++ ys) → Each P xs
each_left P [] ys all = tt
each_left P (x ∷ xs) ys all = (all.0, each_left P xs ys all.1)

each_last : {A : Type 0} (P : A → Type 0) (xs : List A) (y : A) → Each P (xs ++ y ∷ []) → P y
each_last P [] y all = all.0
each_last P (x ∷ xs) y all = each_last P xs y all.1

each_and : {A : Type 0} (P R : A → Type 0) (xs : List A) → Each P xs → Each R xs → Each (λ (x : A). P x × R x) xs
each_and P R [] p r = tt
each_and P R (x ∷ xs) p r = ((p.0, r.0), each_and P R xs p.1 r.1)

-- ---- rule 5, of all events whose arrivals are known
module _ (i : Basis) (arrivals : ℕ → List Arrival) where
  abbrev IsKnownAs : ℕ → Event × Bridge → Type 0
  IsKnownAs q x = (a : Arrival) × (numbered (arrivals q) a.index ≡ Some a) × IsEntry a x

  relay_is : (c : Bridge) (p k m : ℕ) (f : List ℕ) (a : Arrival) → event.Relay p k m f ≡ arrival_event c a → is_relayed c p f ≡ true
  relay_is c p k m f a same = elim (cases_Bool (is_relayed c a.port a.bytes)) [
    | inl e ↦
        let is : event.Relay p k m f ≡ event.Relay a.port a.index a.moment a.bytes = same ∙ rw e refl in
        (let port : p ≡ a.port = port_of is in let bytes : f ≡ a.bytes = bytes_of is in ap (λ (z : ℕ). is_relayed c z f) port ∙ (ap (is_relayed c a.port) bytes ∙ e))
    | inr e ↦ absurd (let is : event.Relay p k m f ≡ event.Ignored a.port a.index = same ∙ rw e refl in no_relay is)
  ]
    where
      port_of : {p k m q j o : ℕ} {f g : List ℕ} → event.Relay p k m f ≡ event.Relay q j o g → p ≡ q
      port_of z = cc

      bytes_of : {p k m q j o : ℕ} {f g : List ℕ} → event.Relay p k m f ≡ event.Relay q j o g → f ≡ g
      bytes_of z = cc

      no_relay : {p k m q j : ℕ} {f : List ℕ} → event.Relay p k m f ≡ event.Ignored q j → ⊥
      no_relay z = cc

  ignored_is : (c : Bridge) (p k : ℕ) (a : Arrival) → event.Ignored p k ≡ arrival_event c a → (a.port ≡ p) × (a.index ≡ k) × (is_relayed c p a.bytes ≡ false)
  ignored_is c p k a same = elim (cases_Bool (is_relayed c a.port a.bytes)) [
    | inl e ↦ absurd (let is : event.Ignored p k ≡ event.Relay a.port a.index a.moment a.bytes = same ∙ rw e refl in no_ignored is)
    | inr e ↦
        let is : event.Ignored p k ≡ event.Ignored a.port a.index = same ∙ rw e refl in
        let port : a.port ≡ p = sym (port_of is) in
        (port, sym (index_of is), ap (λ (z : ℕ). is_relayed c z a.bytes) (sym port) ∙ e)
  ]
    where
      port_of : {p k q j : ℕ} → event.Ignored p k ≡ event.Ignored q j → p ≡ q
      port_of z = cc

      index_of : {p k q j : ℕ} → event.Ignored p k ≡ event.Ignored q j → k ≡ j
      index_of z = cc

      no_ignored : {p k q j o : ℕ} {f : List ℕ} → event.Ignored p k ≡ event.Relay q j o f → ⊥
      no_ignored z = cc

  entered_one : (e : Event) (h : History) → ((q : ℕ) → is_at_port q e ≡ true → IsKnownAs q (e, bridge_after i h)) → IsEntered i arrivals h e
  entered_one (event.Relay p k m f) h known = (let r = known p (eq-eqb p p refl) in relay_is (bridge_after i h) p k m f r.0 r.2)
  entered_one (event.Ignored p k) h known =
      let r = known p (eq-eqb p p refl) in
      let is = ignored_is (bridge_after i h) p k r.0 r.2 in
      subst (λ (o : Option Arrival). IsSomeAnd o (λ (a : Arrival). is_relayed (bridge_after i h) p a.bytes ≡ false)) (sym (ap (numbered (arrivals p)) (sym is.1) ∙ r.1)) is.2
  entered_one (event.Tick seconds) h known = tt
  entered_one (event.Commit k) h known = tt
  entered_one (event.Refuse k x) h known = tt
  entered_one (event.Up p) h known = tt
  entered_one (event.NoUp p x) h known = tt
  entered_one event.Settled h known = tt

  entered_all : (h : History) → ((q : ℕ) → Each (IsKnownAs q) (entries_at i h q)) → EachEvent (IsEntered i arrivals) h
  unfolding entries_at
  entered_all [] known = tt
  entered_all (e ∷ h) known = (
    entered_all h (λ q. each_left (IsKnownAs q) (entries_at i h q) (cond (is_at_port q e) ((e, bridge_after i h) ∷ []) []) (known q)),
    entered_one e h (λ q is. each_last (IsKnownAs q) (entries_at i h q) (e, bridge_after i h) (subst (λ (c : Bool). Each (IsKnownAs q) (entries_at i h q ++ cond c ((e, bridge_after i h) ∷ []) [])) is (known q))),
  )

-- ---- the whole
module _ (n : Net) (net : IsNet n) (b : ℕ) (here : b < n.count) (timely : AreTimely n) (hs : Histories) (k : NetEager n hs) where
  all_commands : Each (λ (d : Due). IsOfCommand n d.bridge d.coming) (dues n)
  all_commands = dues_each n (λ d. IsOfCommand n d.bridge d.coming) (λ c. known_from n c (start_of_all n) 1 (n.input c).commands [] refl refl) (λ c a. tt)

  held : HoldsAt n net b (dues n) hs
  held = goes_on n net b (dues n) (openings n) hs (each_and (IsRecorded n) (λ (d : Due). IsOfCommand n d.bridge d.coming) (dues n) (dues_recorded n) all_commands) (opened n net b) k.goes

  commands_told : told (hs b) ≡ range_with_len 1 (length (n.input b).commands)
  commands_told = held.tells.commands ∙ (ap (filter_map number_due) (orders_due n b here timely) ∙ numbers_from b (start_of_all n) 1 (n.input b).commands)

  arrivals_told : (q : ℕ) → q < 4160 → (o : Option End) → far_end n.wires b q ≡ o → Pairwise IsEventOf (arrivals_over n hs o b q) (events_at (hs b) q)
  arrivals_told q low None is =
      told_events (basis_in n b) (hs b) q (arrivals_at (n.input b) q)
      (captured_pairs b (arrivals_at (n.input b) q) (entries_at (basis_in n b) (hs b) q) (subst (λ (ds : List Due). Pairwise (λ (d : Due) (x : Event × Bridge). (a : Arrival) × (d.coming ≡ Captured a) × IsEntry a x) ds (entries_at (basis_in n b) (hs b) q)) (records_due n b here q low) (held.tells.records q is)))
  arrivals_told q low (Some e) is = crossings_arrive n hs b q e net k is

  known_at : (q : ℕ) (o : Option End) → far_end n.wires b q ≡ o → Each (λ (x : Event × Bridge). (a : Arrival) × (numbered (arrivals_over n hs o b q) a.index ≡ Some a) × IsEntry a x) (entries_at (basis_in n b) (hs b) q)
  known_at q None is = held.tells.found q is
  known_at q (Some e) is =
      let xs : List Sent = leaves_at n hs e in
      each_of_pairs (λ (a : Arrival). numbered (arrivals_as q 1 xs) a.index ≡ Some a) (arrivals_as q 1 xs) (entries_at (basis_in n b) (hs b) q) (crossings_enter n hs b q e net k is) (as_numbered q 1 xs [] refl)

  holds_all : HoldsAll n hs b
  holds_all =
      record {
        commands = commands_told;
        refused_exactly = held.tells.rightly;
        arrivals = λ q low. arrivals_told q low (far_end n.wires b q) refl;
        relayed_exactly = entered_all (basis_in n b) (arrivals_in n hs b) (hs b) (λ q. known_at q (far_end n.wires b q) refl);
      }

pub histories_hold_all : HistoriesHoldAll
histories_hold_all n hs b net timely k here = holds_all n net b here timely hs k
