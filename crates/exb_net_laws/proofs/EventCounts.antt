-- One event of a net, told by numbers.
use Rattle.std.proofs.Common.{◌≡◌, ◌≢◌, ℕ, zero, suc, ◌+◌, ◌<◌, ◌≤◌, ◌==◌, ◌++◌, Bool, true, false, cond, List, [], ◌∷◌, length, Option, Some, None, refl, ap, sym, ◌∙◌, subst, arith, inl, inr}
use Rattle.std.specs.Prelude.{fold}
use Rattle.std.proofs.lemmas.Bool.{cases_Bool, cases_eq, eq-eqb, ne_eqb, eqb-true}
use Rattle.std.proofs.lemmas.List.{append-nil, append_assoc, length-append}
use Rattle.exb_model.specs.declared.command.Command.{Command}
use Rattle.exb_model.specs.declared.event.Cause.{Cause}
use Rattle.exb_model.specs.declared.event.Event.{Event}
use Rattle.exb_model.specs.declared.event.Event.TheVariants as event
use Rattle.exb_model.specs.Configuration.{Bridge}
use Rattle.exb_model.specs.EagerHistory.{arrival_event, decided, is_relayed}
use Rattle.exb_model.specs.FlatBridge.{Sent}
use Rattle.exb_model.specs.History.{History, ◌then◌}
use Rattle.exb_model.specs.declared.arrival.Arrival.{Arrival}
use Rattle.exb_model.specs.Input.{Coming, Ordered, Captured}
use Rattle.exb_model.specs.Texts.{Counts, counted}
use Rattle.exb_model.specs.Tree.{external_ports}
use Rattle.exb_frame.specs.TagValues.{TagRoundTrip}
use Rattle.exb_relay.specs.Laws.{SendsAreWords, SendsLeaveAsFlat}
use Rattle.exb_control_spec.specs.Runs.Journal.{StepsTell}
use Rattle.exb_world_spec.specs.Settling.{run}
use Rattle.exb_world_spec.specs.Steps.{Stepped, stepped}
use Rattle.exb_world_spec.specs.Worlds.{Step, Arrive, Order, Left, left_at}
use Rattle.exb_world_spec.specs.Runs.Sessions.{Each}
use Rattle.exb_world_spec.specs.Runs.FrameBytes.{StepsStayWritten}
use Rattle.exb_world_laws.specs.Runs.SegmentRuns.{none_counted}
use Rattle.exb_flight.proofs.KeptPromises.{then_append}
use Rattle.exb_world_spec.specs.Runs.ReachedWorlds.{beginning}
use Rattle.exb_net_spec.specs.declared.wires.End.{End}
use Rattle.exb_net_spec.specs.QueueTermination.{QueuesEndSoon, named_in}
use Rattle.exb_net_spec.specs.Nets.{Net, IsNet, far_end, is_wired}
use Rattle.exb_net_spec.specs.NetHistory.{Crossing, Due, crosses, due_moment}
use Rattle.exb_net_laws.specs.NetRuns.{Between, Delivers, Dones, Empties, Handles, MayPass, PlaysOne, coming_at, crossed, limits_in, pass, tree_in}
use Rattle.exb_net_laws.specs.Deliveries.{AreRun, DeliversTimes, HaveVids, MayCome}
use Rattle.exb_net_laws.specs.EventCounts.{AreOneMore, EventsAddOne, IsOneMore, LeftAt, decided_in, entered_in, orders_at, records_at, records_in}
use Rattle.exb_net_laws.proofs.Deliveries.{handled_arrival_on, handled_order_on, once_soon, passed_on, told_arrival, told_order}
use Rattle.exb_net_laws.proofs.NetRunLaws.{each_flat, each_join}

-- ---- what events count
decided_over : History → ℕ
decided_over [] = 0
decided_over (event.Commit n ∷ h) = suc (decided_over h)
decided_over (event.Refuse n x ∷ h) = suc (decided_over h)
decided_over (e ∷ h) = decided_over h

abbrev count : List Event → Counts → Counts
count es c = fold (λ (k : Counts) (e : Event). counted e k) c es

entered_from : (es : List Event) (c : Counts) (h : History) → (count es c).relayed + (count es c).ignored + named_in h ≡ named_in (h then es) + (c.relayed + c.ignored)
unfolding named_in
entered_from [] c h = omega arith
entered_from (event.Relay p n t f ∷ es) c h = (let r = entered_from es (counted (event.Relay p n t f) c) (event.Relay p n t f ∷ h) in omega (arith, r))
entered_from (event.Ignored p n ∷ es) c h = (let r = entered_from es (counted (event.Ignored p n) c) (event.Ignored p n ∷ h) in omega (arith, r))
entered_from (event.Tick seconds ∷ es) c h = (let r = entered_from es c (event.Tick seconds ∷ h) in omega (arith, r))
entered_from (event.Commit n ∷ es) c h = (let r = entered_from es (counted (event.Commit n) c) (event.Commit n ∷ h) in omega (arith, r))
entered_from (event.Refuse n x ∷ es) c h = (let r = entered_from es (counted (event.Refuse n x) c) (event.Refuse n x ∷ h) in omega (arith, r))
entered_from (event.Up p ∷ es) c h = (let r = entered_from es c (event.Up p ∷ h) in omega (arith, r))
entered_from (event.NoUp p x ∷ es) c h = (let r = entered_from es c (event.NoUp p x ∷ h) in omega (arith, r))
entered_from (event.Settled ∷ es) c h = (let r = entered_from es c (event.Settled ∷ h) in omega (arith, r))

decided_from : (es : List Event) (c : Counts) (h : History) → (count es c).commits + (count es c).refusals + decided_over h ≡ decided_over (h then es) + (c.commits + c.refusals)
unfolding decided_over
decided_from [] c h = omega arith
decided_from (event.Relay p n t f ∷ es) c h = (let r = decided_from es (counted (event.Relay p n t f) c) (event.Relay p n t f ∷ h) in omega (arith, r))
decided_from (event.Ignored p n ∷ es) c h = (let r = decided_from es (counted (event.Ignored p n) c) (event.Ignored p n ∷ h) in omega (arith, r))
decided_from (event.Tick seconds ∷ es) c h = (let r = decided_from es c (event.Tick seconds ∷ h) in omega (arith, r))
decided_from (event.Commit n ∷ es) c h = (let r = decided_from es (counted (event.Commit n) c) (event.Commit n ∷ h) in omega (arith, r))
decided_from (event.Refuse n x ∷ es) c h = (let r = decided_from es (counted (event.Refuse n x) c) (event.Refuse n x ∷ h) in omega (arith, r))
decided_from (event.Up p ∷ es) c h = (let r = decided_from es c (event.Up p ∷ h) in omega (arith, r))
decided_from (event.NoUp p x ∷ es) c h = (let r = decided_from es c (event.NoUp p x ∷ h) in omega (arith, r))
decided_from (event.Settled ∷ es) c h = (let r = decided_from es c (event.Settled ∷ h) in omega (arith, r))

entered_told : (es : List Event) → entered_in es ≡ named_in ([] then es)
unfolding named_in
entered_told es = let r = entered_from es none_counted [] in omega (arith, r)

decided_told : (es : List Event) → decided_in es ≡ decided_over ([] then es)
unfolding decided_over
decided_told es = let r = decided_from es none_counted [] in omega (arith, r)

-- of an arrival, of a command, and of seconds
named_arrival : (b : Bridge) (a : Arrival) (h : History) → named_in (event.Settled ∷ arrival_event b a ∷ h) ≡ suc (named_in h)
unfolding named_in
named_arrival b a h = by_test (is_relayed b a.port a.bytes)
  where
    by_test : (c : Bool) → named_in (event.Settled ∷ cond c (event.Relay a.port a.index a.moment a.bytes) (event.Ignored a.port a.index) ∷ h) ≡ suc (named_in h)
    by_test true = refl
    by_test false = refl

none_decided : (b : Bridge) (a : Arrival) (h : History) → decided_over (event.Settled ∷ arrival_event b a ∷ h) ≡ decided_over h
unfolding decided_over
none_decided b a h = by_test (is_relayed b a.port a.bytes)
  where
    by_test : (c : Bool) → decided_over (event.Settled ∷ cond c (event.Relay a.port a.index a.moment a.bytes) (event.Ignored a.port a.index) ∷ h) ≡ decided_over h
    by_test true = refl
    by_test false = refl

none_named : (n : ℕ) (o : Option Cause) (h : History) → named_in (event.Settled ∷ decided n o ∷ h) ≡ named_in h
unfolding named_in
none_named n None h = refl
none_named n (Some x) h = refl

one_decided : (n : ℕ) (o : Option Cause) (h : History) → decided_over (event.Settled ∷ decided n o ∷ h) ≡ suc (decided_over h)
unfolding decided_over
one_decided n None h = refl
one_decided n (Some x) h = refl

-- ---- frames that left
left_both : (q : ℕ) (xs ys : List Left) → left_at q (xs ++ ys) ≡ left_at q xs ++ left_at q ys
left_both q [] ys = refl
left_both q (x ∷ xs) ys = elim (cases_Bool (x.port == q)) [
  | inl e ↦ rw e (ap (λ (zs : List Sent). (x.moment, x.bytes) ∷ zs) (left_both q xs ys))
  | inr e ↦ rw e (left_both q xs ys)
]

module _ (n : Net) where
  abbrev IsOf : ℕ → Crossing → Type 0
  IsOf moment x = x.moment ≡ moment

  moments_at : (b moment q : ℕ) (xs : List Left) → Each (LeftAt n b moment) xs → Each (λ (x : Sent). x.0 ≡ moment) (left_at q xs)
  moments_at b moment q [] all = tt
  moments_at b moment q (x ∷ xs) all = elim (cases_Bool (x.port == q)) [
    | inl e ↦ rw e (all.0.moment, moments_at b moment q xs all.1)
    | inr e ↦ rw e (moments_at b moment q xs all.1)
  ]

  over_wire : (moment : ℕ) (o : Option End) (xs : List Sent) → Each (λ (x : Sent). x.0 ≡ moment) xs → Each (IsOf moment) (crosses o xs)
  over_wire moment None xs all = tt
  over_wire moment (Some e) [] all = tt
  over_wire moment (Some e) (x ∷ xs) all = (all.0, over_wire moment (Some e) xs all.1)

  moments_cross : (b moment : ℕ) (xs : List Left) → Each (LeftAt n b moment) xs → Each (IsOf moment) (crossed n b xs)
  moments_cross b moment xs all = each_flat (IsOf moment) (λ q. crosses (far_end n.wires b q) (left_at q xs)) (λ q. over_wire moment (far_end n.wires b q) (left_at q xs) (moments_at b moment q xs all)) (external_ports (tree_in n b))

  -- ---- one bridge
  -- So many commands were given, and so many records came to its ports without a wire. Each frame that left since did so at this moment, and of
  -- each port there are no more than arrivals.
  record IsGrown (c moment orders : ℕ) (came : ℕ → ℕ) (s u : Stepped) : Type 0 where
    clock : u.world.table.clock ≡ s.world.table.clock
    given : u.world.control.given ≡ orders + s.world.control.given
    next : (p : ℕ) → is_wired n.wires c p ≡ false → u.world.next p ≡ came p + s.world.next p
    decides : decided_over ([] then u.events) ≡ orders + decided_over ([] then s.events)
    more : List Left
    left : u.left ≡ s.left ++ more
    each : Each (LeftAt n c moment) more
    few : (q : ℕ) → length (left_at q more) + named_in ([] then s.events) ≤ named_in ([] then u.events)

  stays : (c moment : ℕ) (s : Stepped) → IsGrown c moment 0 (λ p. 0) s s
  stays c moment s = record { clock = refl; given = omega arith; next = λ p free. omega arith; decides = omega arith; more = []; left = sym (append-nil s.left); each = tt; few = λ q. omega arith }

  then_on : (c moment orders : ℕ) (came : ℕ → ℕ) (s t u : Stepped) → IsGrown c moment orders came s t → IsGrown c moment 0 (λ p. 0) t u → IsGrown c moment orders came s u
  then_on c moment orders came s t u a b =
      record {
        clock = b.clock ∙ a.clock;
        given = (let now = b.given in let was = a.given in omega (arith, now, was));
        next = λ p free. (let now = b.next p free in let was = a.next p free in omega (arith, now, was));
        decides = (let now = b.decides in let was = a.decides in omega (arith, now, was));
        more = a.more ++ b.more;
        left = b.left ∙ (ap (λ (xs : List Left). xs ++ b.more) a.left ∙ append_assoc s.left a.more b.more);
        each = each_join (LeftAt n c moment) a.more b.more a.each b.each;
        few = λ q.
            (let first = a.few q in
            let rest = b.few q in
            let both : length (left_at q (a.more ++ b.more)) ≡ length (left_at q a.more) + length (left_at q b.more) = ap (λ (xs : List Sent). length xs) (left_both q a.more b.more) ∙ length-append (left_at q a.more) (left_at q b.more) in
            omega (arith, first, rest, both));
      }

  plus_one : (c : Bool) (k : ℕ) → cond {A = ℕ} c (suc k) k ≡ cond {A = ℕ} c 1 0 + k
  plus_one true k = omega arith
  plus_one false k = omega arith

  module _ (round : TagRoundTrip) (words : SendsAreWords) (leave : SendsLeaveAsFlat) (law : StepsTell) (stay : StepsStayWritten) (net : IsNet n) (vids : HaveVids n) where
    -- ---- a frame arrives at a bridge
    record Comes (b : ℕ) (a : Arrival) (s v : Between) : Type 0 where
      run : AreRun n v.dones
      here : IsGrown b a.moment 0 (λ p. cond (a.port == p) 1 0) (s.dones b) (v.dones b)
      others : (c : ℕ) → c ≢ b → v.dones c ≡ s.dones c
      may : Each (MayCome n) s.queue → Each (MayCome n) v.queue
      moments : Each (IsOf a.moment) s.queue → Each (IsOf a.moment) v.queue

    comes : (b : ℕ) → b < n.count → (a : Arrival) (s v : Between) → AreRun n s.dones → Handles n b (Arrive a) s v → Comes b a s v
    comes b here a s v runs h =
        let r = runs b here in
        let on = handled_arrival_on round words leave law stay n net vids b here s v r runs a h in
        let k = told_arrival round words leave law stay n net vids b here s v r a h in
        record {
          run = on.run;
          here = record {
            clock = k.clock;
            given = k.given;
            next = λ p free. on.next p ∙ plus_one (a.port == p) ((s.dones b).world.next p);
            decides = (let now = ap decided_over k.told ∙ none_decided (run (tree_in n b) (limits_in n b) r.steps (beginning (n.input b).setup)).world.control.bridge a ([] then (s.dones b).events) in omega (arith, now));
            more = k.more;
            left = k.left;
            each = k.each;
            few = λ q. (let few = k.few q in let named = ap named_in k.told ∙ named_arrival (run (tree_in n b) (limits_in n b) r.steps (beginning (n.input b).setup)).world.control.bridge a ([] then (s.dones b).events) in omega (arith, few, named));
          };
          others = on.others;
          may = on.queue;
          moments = λ before. subst (Each (IsOf a.moment)) (sym k.queue) (each_join (IsOf a.moment) s.queue (crossed n b k.more) before (moments_cross b a.moment k.more k.each));
        }

    -- ---- deliveries
    record AreDelivered (moment : ℕ) (s u : Between) : Type 0 where
      run : AreRun n u.dones
      each : (c : ℕ) → c < n.count → IsGrown c moment 0 (λ p. 0) (s.dones c) (u.dones c)

    -- at a wired port
    wired_next : (c p q : ℕ) → is_wired n.wires c p ≡ true → is_wired n.wires c q ≡ false → ◌≡◌ {A = ℕ} (cond (p == q) 1 0) 0
    wired_next c p q wired free = elim (cases_eq p q) [
      | inl same ↦ absurd (let z : is_wired n.wires c p ≡ false = ap (is_wired n.wires c) same ∙ free in cc)
      | inr other ↦ rw (ne_eqb p q other) refl
    ]

    delivers : (moment k : ℕ) (s u : Between) → AreRun n s.dones → Each (MayCome n) s.queue → Each (IsOf moment) s.queue → DeliversTimes n k s u → AreDelivered moment s u
    delivers moment zero s u runs may moments same = record { run = subst (λ (z : Between). AreRun n z.dones) same runs; each = λ c here. subst (λ (z : Between). IsGrown c moment 0 (λ p. 0) (s.dones c) (z.dones c)) same (stays c moment (s.dones c)) }
    delivers moment (suc k) s u runs may moments d =
        let v : Between = d.0 in
        let del : Delivers n s v = d.1 in
        let x : Crossing = del.first in
        let a : Arrival = coming_at x (s.dones x.bridge).world in
        let first : Each (MayCome n) (x ∷ del.rest) = subst (Each (MayCome n)) del.is may in
        let all : Each (IsOf moment) (x ∷ del.rest) = subst (Each (IsOf moment)) del.is moments in
        let from : Between = record { dones = s.dones; queue = del.rest } in
        let one = comes x.bridge first.0.here a from v runs del.handles in
        let rest = delivers moment k v u one.run (one.may first.1) (subst (λ (m : ℕ). Each (IsOf m) v.queue) all.0 (one.moments (subst (λ (m : ℕ). Each (IsOf m) del.rest) (sym all.0) all.1))) d.2 in
        record {
          run = rest.run;
          each = λ c here.
              elim (cases_eq c x.bridge) [
                | inr other ↦ subst (λ (z : Stepped). IsGrown c moment 0 (λ p. 0) z (u.dones c)) (one.others c other) (rest.each c here)
                | inl same ↦ then_on c moment 0 (λ p. 0) (s.dones c) (v.dones c) (u.dones c) (subst (λ (b : ℕ). IsGrown b moment 0 (λ p. 0) (s.dones b) (v.dones b)) (sym same) (at_wire x first.0.wired all.0 v one.here)) (rest.each c here)
              ];
        }
      where
        at_wire : (x : Crossing) → is_wired n.wires x.bridge x.port ≡ true → x.moment ≡ moment → (v : Between) → IsGrown x.bridge x.moment 0 (λ p. cond (x.port == p) 1 0) (s.dones x.bridge) (v.dones x.bridge) → IsGrown x.bridge moment 0 (λ p. 0) (s.dones x.bridge) (v.dones x.bridge)
        at_wire x wired is v g =
            record {
              clock = g.clock;
              given = g.given;
              next = λ p free. g.next p free ∙ ap (λ (k : ℕ). k + (s.dones x.bridge).world.next p) (wired_next x.bridge x.port p wired free);
              decides = g.decides;
              more = g.more;
              left = g.left;
              each = subst (λ (m : ℕ). Each (LeftAt n x.bridge m) g.more) is g.each;
              few = g.few;
            }

    made : (k : ℕ) (u v : Between) → Empties n k u v → DeliversTimes n k u v × (v.queue ≡ [])
    made zero u v e = e
    made (suc k) u v e = (let r = made k e.0 v e.2 in ((e.0, e.1, r.0), r.1))

    -- ---- seconds
    record IsPassed (seconds : ℕ) (s u : Stepped) : Type 0 where
      clock : u.world.table.clock ≡ s.world.table.clock + seconds
      given : u.world.control.given ≡ s.world.control.given
      names : named_in ([] then u.events) ≡ named_in ([] then s.events)
      decides : decided_over ([] then u.events) ≡ decided_over ([] then s.events)
      left : u.left ≡ s.left

    passes : (seconds b : ℕ) (s : Dones) → IsPassed seconds (s b) (pass n seconds s b)
    unfolding run stepped named_in decided_over
    passes seconds b s = elim (cases_Bool (seconds == 0)) [
      | inl e ↦ rw e (record { clock = (let none = eqb-true seconds 0 e in omega (arith, none)); given = refl; names = refl; decides = refl; left = refl })
      | inr e ↦ rw e (record {
        clock = refl;
        given = refl;
        names = ap named_in (then_append [] (s b).events (event.Tick seconds ∷ []));
        decides = ap decided_over (then_append [] (s b).events (event.Tick seconds ∷ []));
        left = append-nil (s b).left;
      })
    ]

    -- ---- the whole
    -- Where at most so many records arrived at the bridge, it is as is said of one event.
    added : (seconds : ℕ) (d : Due) (c : ℕ) (s t u : Stepped) → IsPassed seconds s t → ((p : ℕ) → t.world.next p ≡ s.world.next p) → IsGrown c (due_moment d) (orders_at d c) (records_at d c) t u →
        named_in ([] then u.events) ≤ named_in ([] then t.events) + records_in d.coming → IsOneMore n seconds d c s u
    added seconds d c s t u p next g few =
        let told_before = entered_told s.events in
        let told_after = entered_told u.events in
        let decided_before = decided_told s.events in
        let decided_after = decided_told u.events in
        let names = p.names in
        record {
          clock = g.clock ∙ p.clock;
          given = (let now = g.given in let was = p.given in omega (arith, now, was));
          next = λ q free. (let now = g.next q free in let was = next q in omega (arith, now, was));
          entered = omega (arith, told_before, told_after, names, few);
          decided = (let now = g.decides in let was = p.decides in omega (arith, decided_before, decided_after, now, was));
          more = g.more;
          left = g.left ∙ ap (λ (xs : List Left). xs ++ g.more) p.left;
          each = g.each;
          few = λ q. (let left = g.few q in omega (arith, left, few));
        }

    record_at : (b c : ℕ) (a : Arrival) (p : ℕ) → b ≡ c → records_at (record { bridge = b; coming = Captured a }) c p ≡ cond (a.port == p) 1 0
    record_at b c a p same = rw (eq-eqb b c same) refl

    no_record : (b c : ℕ) (x : Coming) (p : ℕ) → b ≢ c → records_at (record { bridge = b; coming = x }) c p ≡ 0
    no_record b c x p other = rw (ne_eqb b c other) refl

    order_at : (b c moment j : ℕ) → b ≡ c → orders_at (record { bridge = b; coming = Ordered moment j }) c ≡ 1
    order_at b c moment j same = rw (eq-eqb b c same) refl

    none_given : (b c : ℕ) (a : Arrival) → orders_at (record { bridge = b; coming = Captured a }) c ≡ 0
    none_given b c a = by_test (b == c)
      where
        by_test : (z : Bool) → cond {A = ℕ} z 0 0 ≡ 0
        by_test true = refl
        by_test false = refl

    no_order : (b c : ℕ) (x : Coming) → b ≢ c → orders_at (record { bridge = b; coming = x }) c ≡ 0
    no_order b c x other = rw (ne_eqb b c other) refl

    no_record_of : (b c moment j p : ℕ) → records_at (record { bridge = b; coming = Ordered moment j }) c p ≡ 0
    no_record_of b c moment j p = by_test (b == c)
      where
        by_test : (z : Bool) → cond {A = ℕ} z 0 0 ≡ 0
        by_test true = refl
        by_test false = refl

    -- with other words for how many
    as_many : (c moment orders more : ℕ) (came comes : ℕ → ℕ) (s u : Stepped) → orders ≡ more → ((p : ℕ) → came p ≡ comes p) → IsGrown c moment orders came s u → IsGrown c moment more comes s u
    as_many c moment orders more came comes s u same each g =
        record {
          clock = g.clock;
          given = g.given ∙ ap (λ (k : ℕ). k + s.world.control.given) same;
          next = λ p free. g.next p free ∙ ap (λ (k : ℕ). k + s.world.next p) (each p);
          decides = g.decides ∙ ap (λ (k : ℕ). k + decided_over ([] then s.events)) same;
          more = g.more;
          left = g.left;
          each = g.each;
          few = g.few;
        }

    module _ (ends : QueuesEndSoon) (seconds b : ℕ) (here : b < n.count) (s : Dones) (runs : AreRun n s) (may : MayPass n seconds s) where
      abbrev now : Dones
      now = pass n seconds s

      abbrev from : Between
      from = record { dones = pass n seconds s; queue = [] }

      runs_now : AreRun n now
      runs_now = (passed_on round words leave law stay n net vids seconds s runs may).run

      next_now : (c : ℕ) → c < n.count → (p : ℕ) → (now c).world.next p ≡ (s c).world.next p
      next_now c c_here p = (passed_on round words leave law stay n net vids seconds s runs may).next c p c_here

      -- a record
      of_record : (a : Arrival) (given end : Between) (times : ℕ) → Handles n b (Arrive a) from given → Empties n times given end → AreOneMore n seconds (record { bridge = b; coming = Captured a }) s end.dones
      of_record a given end times h empties =
          let d : Due = record { bridge = b; coming = Captured a } in
          let one = comes b here a from given runs_now h in
          let k = made times given end empties in
          let rest = delivers a.moment times given end one.run (one.may tt) (one.moments tt) k.0 in
          record {
            run = rest.run;
            each = λ c c_here.
                (let first : IsGrown c a.moment (orders_at d c) (records_at d c) (now c) (given.dones c) =
                elim (cases_eq c b) [
                  | inl same ↦ subst (λ (z : ℕ). IsGrown z a.moment (orders_at d z) (records_at d z) (now z) (given.dones z)) (sym same)
                      (as_many b a.moment 0 (orders_at d b) (λ p. cond (a.port == p) 1 0) (records_at d b) (now b) (given.dones b) (sym (none_given b b a)) (λ p. sym (record_at b b a p refl)) one.here)
                  | inr other ↦ subst (λ (z : Stepped). IsGrown c a.moment (orders_at d c) (records_at d c) (now c) z) (sym (one.others c other))
                      (as_many c a.moment 0 (orders_at d c) (λ p. 0) (records_at d c) (now c) (now c) (sym (none_given b c a)) (λ p. sym (no_record b c (Captured a) p (λ z. other (sym z)))) (stays c a.moment (now c)))
                ] in
                added seconds d c (s c) (now c) (end.dones c) (passes seconds c s) (next_now c c_here)
                (then_on c a.moment (orders_at d c) (records_at d c) (now c) (given.dones c) (end.dones c) first (rest.each c c_here))
                (once_soon round words leave law stay n net vids ends now runs_now b times a given end here h k.0 k.1 c c_here));
          }

      -- a command, for which nothing crosses
      stays_empty : (times : ℕ) (u v : Between) → u.queue ≡ [] → Empties n times u v → u.dones ≡ v.dones
      stays_empty zero u v none e = ap (λ (z : Between). z.dones) e.0
      stays_empty (suc k) u v none e = absurd (let z : [] ≡ e.1.first ∷ e.1.rest = sym none ∙ e.1.is in cc)

      of_order : (moment j : ℕ) (c : Command) (given end : Between) (times : ℕ) → Handles n b (Order c) from given → Empties n times given end → AreOneMore n seconds (record { bridge = b; coming = Ordered moment j }) s end.dones
      of_order moment j c given end times h empties =
          let d : Due = record { bridge = b; coming = Ordered moment j } in
          let r = runs_now b here in
          let on = handled_order_on round words leave law stay n net vids b here from given r runs_now c h in
          let k = told_order round words leave law stay n net vids b here from given r moment c h in
          let same : given.dones ≡ end.dones = stays_empty times given end (on.quiet c refl) empties in
          let named : named_in ([] then (given.dones b).events) ≡ named_in ([] then (now b).events) = ap named_in k.told ∙ none_named _ _ ([] then (now b).events) in
          let it : IsGrown b moment 1 (λ p. 0) (now b) (given.dones b) =
          record {
            clock = k.clock;
            given = k.given;
            next = λ p free. (let more : (given.dones b).world.next p ≡ (pass n seconds s b).world.next p = on.next p in omega (arith, more));
            decides = (let more = ap decided_over k.told ∙ one_decided _ _ ([] then (now b).events) in omega (arith, more));
            more = k.more;
            left = k.left;
            each = k.each;
            few = λ q. (let few = k.few q in omega (arith, few, named));
          } in
          subst (AreOneMore n seconds d s) same
          (record {
            run = on.run;
            each = λ x x_here. elim (cases_eq x b) [
              | inl is ↦ subst (λ (z : ℕ). IsOneMore n seconds d z (s z) (given.dones z)) (sym is)
                  (added seconds d b (s b) (now b) (given.dones b) (passes seconds b s) (next_now b here)
                  (as_many b moment 1 (orders_at d b) (λ p. 0) (records_at d b) (now b) (given.dones b) (sym (order_at b b moment j refl)) (λ p. sym (no_record_of b b moment j p)) it)
                  (omega (arith, named)))
              | inr other ↦
                  added seconds d x (s x) (now x) (given.dones x) (passes seconds x s) (next_now x x_here)
                  (subst (λ (z : Stepped). IsGrown x moment (orders_at d x) (records_at d x) (now x) z) (sym (on.others x other))
                  (as_many x moment 0 (orders_at d x) (λ p. 0) (records_at d x) (now x) (now x) (sym (no_order b x (Ordered moment j) (λ z. other (sym z)))) (λ p. sym (no_record_of b x moment j p)) (stays x moment (now x))))
                  (let none : named_in ([] then (given.dones x).events) ≡ named_in ([] then (now x).events) = ap (λ (z : Stepped). named_in ([] then z.events)) (on.others x other) in omega (arith, none))
            ];
          })

    one_event : QueuesEndSoon → (seconds b : ℕ) (x : Coming) (s e : Dones) → AreRun n s → b < n.count → PlaysOne n seconds (record { bridge = b; coming = x }) s e → AreOneMore n seconds (record { bridge = b; coming = x }) s e
    one_event ends seconds b (Captured a) s e runs here p =
        subst (AreOneMore n seconds (record { bridge = b; coming = Captured a }) s) (sym p.done)
        (of_record ends seconds b here s runs p.may a p.given p.end p.times (subst (λ (z : Step). Handles n b z (record { dones = pass n seconds s; queue = [] }) p.given) p.is p.handles) p.empties)
    one_event ends seconds b (Ordered moment j) s e runs here p =
        subst (AreOneMore n seconds (record { bridge = b; coming = Ordered moment j }) s) (sym p.done)
        (of_order ends seconds b here s runs p.may moment j p.is.0 p.given p.end p.times (subst (λ (z : Step). Handles n b z (record { dones = pass n seconds s; queue = [] }) p.given) p.is.2 p.handles) p.empties)

pub events_add_one : QueuesEndSoon → TagRoundTrip → SendsAreWords → SendsLeaveAsFlat → StepsTell → StepsStayWritten → EventsAddOne
events_add_one ends round words leave law stay n seconds d s e net vids runs here p = one_event n round words leave law stay net vids ends seconds d.bridge d.coming s e runs here p
