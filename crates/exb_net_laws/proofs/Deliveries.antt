-- Worlds that run stay so, one event after another; frames between them may arrive, and soon none is left.
use Rattle.std.proofs.Common.{◌≡◌, ◌≢◌, ℕ, zero, suc, ◌+◌, ◌-◌, ◌<◌, ◌≤◌, ◌==◌, ◌++◌, Bool, true, false, cond, List, [], ◌∷◌, length, map, Option, Some, None, is_some, refl, ap, sym, ◌∙◌, subst, arith, inl, inr}
use Rattle.std.specs.Prelude.{flat_map, All}
use Rattle.std.proofs.lemmas.Bool.{cases_Bool, cases_eq, eq-eqb, ne_eqb}
use Rattle.std.proofs.lemmas.List.{append-nil}
use Rattle.exb_model.specs.declared.command.Command.{Command}
use Rattle.exb_model.specs.declared.event.Cause.{Cause}
use Rattle.exb_model.specs.declared.event.Event.{Event}
use Rattle.exb_model.specs.declared.event.Event.TheVariants as event
use Rattle.exb_model.specs.declared.setup.Setup.{Setup}
use Rattle.exb_model.specs.EagerHistory.{arrival_event, decided, is_relayed}
use Rattle.exb_model.specs.FlatBridge.{Sent}
use Rattle.exb_model.specs.History.{Basis, History, ◌then◌, bridge_after, now_after, seconds_of}
use Rattle.exb_model.specs.declared.arrival.Arrival.{Arrival}
use Rattle.exb_model.specs.Input.{Captured}
use Rattle.exb_model.specs.Input.{Given as Commanded}
use Rattle.exb_model.specs.Refusals.{refusal}
use Rattle.exb_model.specs.Setup.{Limits}
use Rattle.exb_model.specs.Tree.{Shape, external_ports, is_external}
use Rattle.exb_frame.specs.TagValues.{TagRoundTrip}
use Rattle.exb_relay.specs.Laws.{SendsAreWords, SendsLeaveAsFlat}
use Rattle.exb_control_spec.specs.Runs.Journal.{StepsTell}
use Rattle.exb_world_spec.specs.AllowedSteps.{Can, IsSettled}
use Rattle.exb_world_spec.specs.Settling.{run, followed_by}
use Rattle.exb_world_spec.specs.Steps.{Stepped, stepped}
use Rattle.exb_world_spec.specs.Worlds.{World, Step, Arrive, Carry, Control, Lose, Beat, Tick, Order, Mark, Left, left_at}
use Rattle.exb_world_spec.specs.Runs.Sessions.{Each}
use Rattle.exb_world_spec.specs.Runs.FrameBytes.{StepsStayWritten}
use Rattle.exb_world_spec.proofs.Rounds.{run_then}
use Rattle.exb_world_laws.specs.WorldInput.{commands_of, basis_with}
use Rattle.exb_world_laws.specs.WorldInvariant.{basis_of, given_in}
use Rattle.exb_world_laws.specs.OneBridgeSteps.{IsGiving, told_of}
use Rattle.exb_world_laws.specs.Runs.Crossings.{IsAlone, MayCross}
use Rattle.exb_world_spec.specs.Runs.ReachedWorlds.{MayTakeAll, beginning}
use Rattle.exb_world_laws.proofs.LongerHistories.{longer}
use Rattle.exb_world_laws.proofs.Runs.Crossings.{commands_send_nothing, leaves_may_cross}
use Rattle.exb_net_spec.specs.declared.wires.End.{End}
use Rattle.exb_net_spec.specs.declared.wires.Wire.{Wire}
use Rattle.exb_net_spec.specs.Nets.{Net, IsEnd, IsNet, across, ends_of, far_end, first_or, is_at, is_wired}
use Rattle.exb_net_spec.specs.NetHistory.{Crossing, Due, Histories, State, arrival_of, basis_in, comes, crosses, delivered, delivered_times, named_at, openings, with_history}
use Rattle.exb_net_spec.proofs.EmptyQueues.{one_end, twice}
use Rattle.exb_net_spec.specs.QueueTermination.{QueuesEndSoon, named_in}
use Rattle.exb_net_laws.specs.NetRuns.{Dones, Between, Handles, MayPass, AreOpened, tree_in, limits_in, does, goes_on, crossed, pass}
use Rattle.exb_net_laws.specs.EventCounts.{LeftAt}
use Rattle.exb_net_laws.specs.Deliveries.{IsRun, AreRun, HaveVids, HaveBegun, OpenedNetsRun, HavePassed, SecondsPass, MayCome, IsHandledOn, BridgesHandle, DeliversTimes, IsSoon, DeliveriesEndSoon}
use Rattle.exb_net_laws.proofs.BridgeRuns.{Facts, arrived, clock_is, count_is, named_arrival, named_decided, named_settled, opening_names, ordered, told_is}
use Rattle.exb_net_laws.proofs.BridgeRuns as bridge
use Rattle.exb_net_laws.proofs.NetRunLaws.{AllAt, InRange, IsAt, delivered_on, each_flat, each_join, grown_here, handled_arrival, opened_at}

-- ---- one for each number
module _ {A : Type 0} (P : ℕ → A → Type 0) (other : A) where
  choose : (m : ℕ) → ((b : ℕ) → b < m → (x : A) × P b x) → (f : ℕ → A) × ((b : ℕ) → b < m → P b (f b))
  choose zero all = ((λ b. other), (λ b h. absurd (omega (arith, h))))
  choose (suc m) all =
      let before = choose m (λ b h. all b (omega (arith, h))) in
      let last = all m (omega arith) in (
        (λ b. cond (b == m) last.0 (before.0 b)),
        (λ b h. elim (cases_eq b m) [
          | inl e ↦ rw (eq-eqb b m e) (subst (λ (z : ℕ). P z last.0) (sym e) last.1)
          | inr ne ↦ rw (ne_eqb b m ne) (before.1 b (omega (arith, h, ne)))
        ]),
      )

-- ---- far ends
some_same : {A : Type 0} {x y : A} → Some x ≡ Some y → x ≡ y
some_same e = cc

none_some : {A : Type 0} {x : A} → None ≡ Some x → ⊥
none_some e = cc

far_among : (P : End → Type 0) (ws : List Wire) → All P (ends_of ws) → (b q : ℕ) (e : End) → far_end ws b q ≡ Some e → P e
unfolding far_end
far_among P [] all b q e same = absurd (none_some same)
far_among P (x ∷ ws) all b q e same = by_first (across x b q) refl same (λ k. far_among P ws tail b q e k)
  where
    tail : All P (ends_of ws)
    tail k d h = all (suc (suc k)) d (omega (arith, h))

    by_flags : (c d : Bool) → cond c (Some x.b) (cond d (Some x.a) None) ≡ Some e → P e
    by_flags true d k = subst P (some_same k) (all 1 x.a (omega arith))
    by_flags false true k = subst P (some_same k) (all 0 x.a (omega arith))
    by_flags false false k = absurd (none_some k)

    by_first : (o : Option End) → across x b q ≡ o → first_or o (far_end ws b q) ≡ Some e → (far_end ws b q ≡ Some e → P e) → P e
    by_first (Some y) is k rest = by_flags (is_at x.a b q) (is_at x.b b q) (is ∙ k)
    by_first None is k rest = rest k

at_itself : (e : End) → is_at e e.bridge e.port ≡ true
at_itself e = rw (eq-eqb e.bridge e.bridge refl, eq-eqb e.port e.port refl) refl

first_some : (o r : Option End) → is_some o ≡ true → is_some (first_or o r) ≡ true
first_some (Some x) r h = refl
first_some None r h = absurd (let z : false ≡ true = h in cc)

rest_some : (o r : Option End) → is_some r ≡ true → is_some (first_or o r) ≡ true
rest_some (Some x) r h = refl
rest_some None r h = h

-- what a wire leads to is wired
far_wired : (ws : List Wire) (b q : ℕ) (e : End) → far_end ws b q ≡ Some e → is_wired ws e.bridge e.port ≡ true
unfolding far_end
far_wired [] b q e same = absurd (none_some same)
far_wired (x ∷ ws) b q e same = by_first (across x b q) refl same (λ k. far_wired ws b q e k)
  where
    from_a : is_some (across x x.a.bridge x.a.port) ≡ true
    from_a = rw (at_itself x.a) refl

    from_b : is_some (across x x.b.bridge x.b.port) ≡ true
    from_b = elim (cases_Bool (is_at x.a x.b.bridge x.b.port)) [
      | inl k ↦ rw k refl
      | inr k ↦ rw (k, at_itself x.b) refl
    ]

    by_flags : (c d : Bool) → cond c (Some x.b) (cond d (Some x.a) None) ≡ Some e → is_some (across x e.bridge e.port) ≡ true
    by_flags true d k = subst (λ (z : End). is_some (across x z.bridge z.port) ≡ true) (some_same k) from_b
    by_flags false true k = subst (λ (z : End). is_some (across x z.bridge z.port) ≡ true) (some_same k) from_a
    by_flags false false k = absurd (none_some k)

    by_first : (o : Option End) → across x b q ≡ o → first_or o (far_end ws b q) ≡ Some e → (far_end ws b q ≡ Some e → is_wired ws e.bridge e.port ≡ true) → is_some (first_or (across x e.bridge e.port) (far_end ws e.bridge e.port)) ≡ true
    by_first (Some y) is k rest = first_some (across x e.bridge e.port) (far_end ws e.bridge e.port) (by_flags (is_at x.a b q) (is_at x.b b q) (is ∙ k))
    by_first None is k rest = rest_some (across x e.bridge e.port) (far_end ws e.bridge e.port) (rest k)

-- ---- what crosses
nothing_crosses : (o : Option End) → crosses o [] ≡ []
nothing_crosses None = refl
nothing_crosses (Some e) = refl

flat_nothing : (f : ℕ → List Crossing) → ((q : ℕ) → f q ≡ []) → (qs : List ℕ) → flat_map f qs ≡ []
flat_nothing f none [] = refl
flat_nothing f none (q ∷ qs) = rw (none q) (flat_nothing f none qs)

abbrev IsShort : Sent → Type 0
IsShort x = length x.1 ≤ 9220

short_at : (t : Shape) (a : Arrival) (q : ℕ) (xs : List Left) → Each (MayCross t a) xs → Each IsShort (left_at q xs)
short_at t a q [] all = tt
short_at t a q (x ∷ xs) all = elim (cases_Bool (x.port == q)) [
  | inl e ↦ rw e (all.0.short, short_at t a q xs all.1)
  | inr e ↦ rw e (short_at t a q xs all.1)
]

module _ (n : Net) (net : IsNet n) where
  come_over : (e : End) → IsEnd n e → is_wired n.wires e.bridge e.port ≡ true → (xs : List Sent) → Each IsShort xs → Each (MayCome n) (crosses (Some e) xs)
  come_over e end wired [] all = tt
  come_over e end wired (x ∷ xs) all = (record { here = end.bridge; external = end.port; wired = wired; short = all.0 }, come_over e end wired xs all.1)

  come_at : (b q : ℕ) (o : Option End) → far_end n.wires b q ≡ o → (xs : List Sent) → Each IsShort xs → Each (MayCome n) (crosses o xs)
  come_at b q None is xs all = tt
  come_at b q (Some e) is xs all = come_over e (far_among (IsEnd n) n.wires net.ends b q e is) (far_wired n.wires b q e is) xs all

  may_come : (b : ℕ) (a : Arrival) (xs : List Left) → Each (MayCross (tree_in n b) a) xs → Each (MayCome n) (crossed n b xs)
  may_come b a xs all =
      each_flat (MayCome n) (λ q. crosses (far_end n.wires b q) (left_at q xs)) (λ q. come_at b q (far_end n.wires b q) refl (left_at q xs) (short_at (tree_in n b) a q xs all)) (external_ports (tree_in n b))

-- ---- names
named_more : (h : History) (e : Event) (p : ℕ) → named_at h p ≤ named_at (event.Settled ∷ e ∷ h) p
unfolding named_at
named_more h (event.Relay q n t f) p = elim (cases_Bool (q == p)) [ inl e ↦ rw e (omega arith) | inr e ↦ rw e (omega arith) ]
named_more h (event.Ignored q n) p = elim (cases_Bool (q == p)) [ inl e ↦ rw e (omega arith) | inr e ↦ rw e (omega arith) ]
named_more h (event.Tick seconds) p = omega arith
named_more h (event.Commit n) p = omega arith
named_more h (event.Refuse n x) p = omega arith
named_more h (event.Up q) p = omega arith
named_more h (event.NoUp q x) p = omega arith
named_more h event.Settled p = omega arith

module _ (n : Net) (c p : ℕ) where
  named_after_one : (hs : Histories) (xs : List Crossing) → named_at (hs c) p ≤ named_at ((delivered n hs xs).histories c) p
  named_after_one hs [] = omega arith
  named_after_one hs (x ∷ xs) =
      let b : ℕ = x.bridge in
      let e : Event = arrival_event (bridge_after (basis_in n b) (hs b)) (arrival_of x (hs b)) in
      elim (cases_eq c b) [
        | inl same ↦ rw (eq-eqb c b same) (subst (λ (z : ℕ). named_at (hs z) p ≤ named_at (event.Settled ∷ e ∷ hs b) p) (sym same) (named_more (hs b) e p))
        | inr other ↦ rw (ne_eqb c b other) (omega arith)
      ]

  named_after : (k : ℕ) (s : State) → named_at (s.histories c) p ≤ named_at ((delivered_times n k s).histories c) p
  unfolding delivered_times
  named_after zero s = omega arith
  named_after (suc k) s =
      let first = named_after_one s.histories s.queue in
      let rest = named_after k (delivered n s.histories s.queue) in
      omega (arith, first, rest)

-- ---- the same net, with these commands
abbrev commanded : Command → Commanded
commanded c = record { at = 0; command = c }

with_commands : Net → (ℕ → List Command) → Net
with_commands n f = record { count = n.count; input = λ b. record { setup = (n.input b).setup; commands = map commanded (f b); records = (n.input b).records }; wires = n.wires }

just_commands : (cs : List Command) → map (λ (c : Commanded). c.command) (map commanded cs) ≡ cs
just_commands [] = refl
just_commands (c ∷ cs) = ap (λ (ds : List Command). c ∷ ds) (just_commands cs)

module _ (n : Net) (f : ℕ → List Command) where
  m : Net
  m = with_commands n f

  net_stays : IsNet n → IsNet (with_commands n f)
  unfolding with_commands
  net_stays net = record { setups = net.setups; ends = λ i d h. (let e = net.ends i d h in record { bridge = e.bridge; port = e.port; free = e.free }); apart = net.apart; loops = net.loops }

  handles_stay : (b : ℕ) (step : Step) (s e : Between) → Handles n b step s e → Handles (with_commands n f) b step s e
  unfolding with_commands
  handles_stay b step s e h = record { moves = h.moves; gives = h.gives; may = h.may; moves_alone = h.moves_alone; settled = h.settled; done = h.done; queue = h.queue }

  delivers_stay : (k : ℕ) (s e : Between) → DeliversTimes n k s e → DeliversTimes (with_commands n f) k s e
  delivers_stay zero s e d = d
  delivers_stay (suc k) s e d =
      (d.0, record { first = d.1.first; rest = d.1.rest; is = d.1.is; handles = handles_stay d.1.first.bridge _ _ _ d.1.handles }, delivers_stay k d.0 e d.2)

-- ---- worlds that run
module _ (round : TagRoundTrip) (words : SendsAreWords) (leave : SendsLeaveAsFlat) (law : StepsTell) (stay : StepsStayWritten) where
  -- what is known of a bridge, with these commands still to come
  known : (n : Net) (b : ℕ) (d : Stepped) (r : IsRun n b d) (rest : List Command) →
      Facts (n.input b).setup (longer (basis_with (basis_of (n.input b).setup) (given_in r.steps)) rest) (length (commands_of (given_in r.steps))) r.steps
  known n b d r rest =
      record {
        may = r.may;
        settled = subst (λ (z : Stepped). IsSettled (tree_in n b) z.world) r.is r.settled;
        rest = rest;
        commands = refl;
        counts = refl;
        named = λ p. subst (λ (z : Stepped). z.world.next p ≡ suc (named_at ([] then z.events) p)) r.is (r.named p);
      }

  runs_by : (n : Net) (b : ℕ) (full : Basis) (taken : ℕ) (steps : List Step) → Facts (n.input b).setup full taken steps → IsRun n b (run (tree_in n b) (limits_in n b) steps (beginning (n.input b).setup))
  runs_by n b full taken steps f = record { steps = steps; is = refl; may = f.may; settled = f.settled; named = f.named }

  module _ (n : Net) (net : IsNet n) (vids : HaveVids n) where
    -- ---- a bridge is given something
    module _ (b : ℕ) (here : b < n.count) (s e : Between) (r : IsRun n b (s.dones b)) where
      abbrev t : Shape
      t = tree_in n b

      abbrev l : Limits
      l = limits_in n b

      abbrev setup : Setup
      setup = (n.input b).setup

      abbrev w : World
      w = (run (tree_in n b) (limits_in n b) r.steps (beginning (n.input b).setup)).world

      abbrev told : History
      told = [] then (run (tree_in n b) (limits_in n b) r.steps (beginning (n.input b).setup)).events

      module _ (step : Step) (h : Handles n b step s e) where
        abbrev all : List Step
        all = r.steps ++ ((step ∷ h.moves) ++ Mark ∷ [])

        may_here : MayTakeAll t l w (step ∷ h.moves)
        may_here = subst (λ (z : Stepped). MayTakeAll (tree_in n b) (limits_in n b) z.world (step ∷ h.moves)) r.is h.may

        settled_here : IsSettled t (run t l (step ∷ h.moves) w).world
        settled_here = subst (λ (z : Stepped). IsSettled (tree_in n b) (run (tree_in n b) (limits_in n b) (step ∷ h.moves) z.world).world) r.is h.settled

        dones_here : e.dones b ≡ run t l all (beginning setup)
        dones_here =
            ap (λ (z : Dones). z b) h.done
            ∙ (at_it
            ∙ (ap (λ (z : Stepped). followed_by z (run t l ((step ∷ h.moves) ++ Mark ∷ []) z.world)) r.is ∙ sym (run_then t l r.steps ((step ∷ h.moves) ++ Mark ∷ []) (beginning setup))))
          where
            at_it : goes_on n b ((step ∷ h.moves) ++ Mark ∷ []) s.dones b ≡ followed_by (s.dones b) (does n b ((step ∷ h.moves) ++ Mark ∷ []) s.dones)
            at_it = rw (eq-eqb b b refl) refl

        dones_there : (c : ℕ) → c ≢ b → e.dones c ≡ s.dones c
        dones_there c other = ap (λ (z : Dones). z c) h.done ∙ rw (ne_eqb c b other) refl

        alone : IsAlone setup r.steps step h.moves
        alone = record { valid = net.setups b here; vids = vids b here; reached = r.may; settled = subst (λ (z : Stepped). IsSettled (tree_in n b) z.world) r.is r.settled; may = may_here; moves_alone = h.moves_alone; after = settled_here }

        left_is : (does n b (step ∷ h.moves) s.dones).left ≡ (run t l (step ∷ h.moves) w).left
        left_is = ap (λ (z : Stepped). (run t l (step ∷ h.moves) z.world).left) r.is

        -- by what is known of it after that
        record After : Type 0 where
          full : Basis
          taken : ℕ
          facts : Facts setup full taken all

        told_then : (rest : List Command) → ([] then (run t l all (beginning setup)).events) ≡ event.Settled ∷ told_of t l w step ∷ told
        told_then rest = told_is round words leave law stay setup (net.setups b here) (vids b here) _ _ r.steps (known n b (s.dones b) r rest) step h.moves h.gives may_here h.moves_alone settled_here

        next_then : (f : After) (p : ℕ) → (e.dones b).world.next p ≡ suc (named_at (told_of t l w step ∷ told) p)
        next_then f p =
            ap (λ (z : Stepped). z.world.next p) dones_here
            ∙ (f.facts.named p ∙ ap suc (ap (λ (z : History). named_at z p) (told_then []) ∙ named_settled (told_of t l w step ∷ told) p))

        next_before : (p : ℕ) → (s.dones b).world.next p ≡ suc (named_at told p)
        next_before p = r.named p ∙ ap (λ (z : Stepped). suc (named_at ([] then z.events) p)) r.is

        runs_here : After → IsRun n b (e.dones b)
        runs_here f = subst (IsRun n b) (sym dones_here) (runs_by n b f.full f.taken all f.facts)

        all_run : AreRun n s.dones → After → AreRun n e.dones
        all_run others f c c_here = elim (cases_eq c b) [
          | inl same ↦ subst (λ (z : ℕ). IsRun n z (e.dones z)) (sym same) (runs_here f)
          | inr other ↦ subst (IsRun n c) (sym (dones_there c other)) (others c c_here)
        ]

      -- an arrival
      after_arrival : (a : Arrival) (h : Handles n b (Arrive a) s e) → After (Arrive a) h
      after_arrival a h =
          record {
            full = _;
            taken = _;
            facts = arrived round words leave law stay setup (net.setups b here) (vids b here) _ _ r.steps (known n b (s.dones b) r []) a h.moves (may_here (Arrive a) h) h.moves_alone (settled_here (Arrive a) h);
          }

      pub handled_arrival_on : AreRun n s.dones → (a : Arrival) → Handles n b (Arrive a) s e → IsHandledOn n b (Arrive a) s e
      handled_arrival_on runs a h =
          let f = after_arrival a h in
          record {
            run = all_run (Arrive a) h runs f;
            next = λ p.
                next_then (Arrive a) h f p
                ∙ (ap suc (named_arrival w.control.bridge a told p)
                ∙ (by_port (a.port == p) (named_at told p) ∙ ap (λ (k : ℕ). cond (a.port == p) (suc k) k) (sym (next_before (Arrive a) h p))));
            others = dones_there (Arrive a) h;
            queue = λ before. subst (Each (MayCome n)) (sym h.queue) (each_join (MayCome n) s.queue (crossed n b (does n b (Arrive a ∷ h.moves) s.dones).left) before
                (subst (λ (xs : List Left). Each (MayCome n) (crossed n b xs)) (sym (left_is (Arrive a) h)) (may_come n net b a (run t l (Arrive a ∷ h.moves) w).left (leaves_may_cross round words leave law stay setup r.steps a h.moves (alone (Arrive a) h)).each)));
            quiet = λ c e. absurd (no_order e);
          }
        where
          by_port : (c : Bool) (k : ℕ) → suc (cond c (suc k) k) ≡ cond c (suc (suc k)) (suc k)
          by_port true k = refl
          by_port false k = refl

          no_order : {c : Command} → Arrive a ≡ Order c → ⊥
          no_order z = cc

      -- a command
      after_order : (c : Command) (h : Handles n b (Order c) s e) → After (Order c) h
      unfolding known
      after_order c h =
          record {
            full = _;
            taken = _;
            facts = ordered round words leave law stay setup (net.setups b here) (vids b here) _ _ r.steps (known n b (s.dones b) r (c ∷ [])) c h.moves [] refl (may_here (Order c) h) h.moves_alone (settled_here (Order c) h);
          }

      pub handled_order_on : AreRun n s.dones → (c : Command) → Handles n b (Order c) s e → IsHandledOn n b (Order c) s e
      handled_order_on runs c h =
          let f = after_order c h in
          let none : (does n b (Order c ∷ h.moves) s.dones).left ≡ [] = left_is (Order c) h ∙ commands_send_nothing round words leave law stay setup r.steps c h.moves (alone (Order c) h) in
          let same : e.queue ≡ s.queue = h.queue ∙ (ap (λ (xs : List Crossing). s.queue ++ xs) (ap (crossed n b) none ∙ flat_nothing (λ q. crosses (far_end n.wires b q) []) (λ q. nothing_crosses (far_end n.wires b q)) (external_ports t)) ∙ append-nil s.queue) in
          record {
            run = all_run (Order c) h runs f;
            next = λ p. next_then (Order c) h f p ∙ (ap suc (named_decided _ (refusal t l w.control.bridge c) told p) ∙ sym (next_before (Order c) h p));
            others = dones_there (Order c) h;
            queue = λ before. subst (Each (MayCome n)) (sym same) before;
            quiet = λ c2 e. same;
          }

      handled_on : AreRun n s.dones → (step : Step) → (h : Handles n b step s e) → IsGiving step → IsHandledOn n b step s e
      handled_on runs (Arrive a) h gives = handled_arrival_on runs a h
      handled_on runs (Order c) h gives = handled_order_on runs c h
      handled_on runs (Carry k way) h gives = absurd gives
      handled_on runs (Control k way at keep) h gives = absurd gives
      handled_on runs (Lose k way at) h gives = absurd gives
      handled_on runs Beat h gives = absurd gives
      handled_on runs (Tick seconds) h gives = absurd gives
      handled_on runs Mark h gives = absurd gives

      -- ---- told by numbers
      -- What was told and has left since, of what arrived at this moment: so many frames leave a port at most.
      pub record IsToldMore (moment most orders : ℕ) (step : Step) : Type 0 where
        pub clock : (e.dones b).world.table.clock ≡ (s.dones b).world.table.clock
        pub given : (e.dones b).world.control.given ≡ orders + (s.dones b).world.control.given
        pub told : ([] then (e.dones b).events) ≡ event.Settled ∷ told_of t l w step ∷ ([] then (s.dones b).events)
        pub more : List Left
        pub left : (e.dones b).left ≡ (s.dones b).left ++ more
        pub each : Each (LeftAt n b moment) more
        pub few : (q : ℕ) → length (left_at q more) ≤ most
        pub queue : e.queue ≡ s.queue ++ crossed n b more

      told_all : (step : Step) (h : Handles n b step s e) → ([] then (e.dones b).events) ≡ event.Settled ∷ told_of t l w step ∷ ([] then (s.dones b).events)
      told_all step h =
          ap (λ (z : Stepped). [] then z.events) (dones_here step h)
          ∙ (told_then step h [] ∙ ap (λ (z : Stepped). event.Settled ∷ told_of t l w step ∷ ([] then z.events)) (sym r.is))

      left_all : (step : Step) (h : Handles n b step s e) → (e.dones b).left ≡ (s.dones b).left ++ (run t l (step ∷ h.moves) w).left
      unfolding run stepped
      left_all step h =
          ap (λ (z : Dones). (z b).left) h.done
          ∙ (at_it ∙ ap (λ (xs : List Left). (s.dones b).left ++ xs) (ap (λ (z : Stepped). (run t l ((step ∷ h.moves) ++ Mark ∷ []) z.world).left) r.is ∙ unmarked))
        where
          at_it : (goes_on n b ((step ∷ h.moves) ++ Mark ∷ []) s.dones b).left ≡ (s.dones b).left ++ (does n b ((step ∷ h.moves) ++ Mark ∷ []) s.dones).left
          at_it = rw (eq-eqb b b refl) refl

          unmarked : (run t l ((step ∷ h.moves) ++ Mark ∷ []) w).left ≡ (run t l (step ∷ h.moves) w).left
          unmarked = ap (λ (z : Stepped). z.left) (run_then t l (step ∷ h.moves) (Mark ∷ []) w) ∙ append-nil (run t l (step ∷ h.moves) w).left

      still : (h : History) (x : Event) → seconds_of x ≡ 0 → now_after (event.Settled ∷ x ∷ h) ≡ now_after h
      unfolding now_after
      still h x none = omega (arith, none)

      clock_then : (step : Step) (h : Handles n b step s e) → After step h → seconds_of (told_of t l w step) ≡ 0 → (e.dones b).world.table.clock ≡ (s.dones b).world.table.clock
      clock_then step h f none =
          ap (λ (z : Stepped). z.world.table.clock) (dones_here step h)
          ∙ (clock_is round words leave law stay setup (net.setups b here) (vids b here) f.full f.taken (all step h) f.facts
          ∙ (ap now_after (told_then step h [])
          ∙ (still told (told_of t l w step) none
          ∙ (sym (clock_is round words leave law stay setup (net.setups b here) (vids b here) _ _ r.steps (known n b (s.dones b) r [])) ∙ ap (λ (z : Stepped). z.world.table.clock) (sym r.is)))))

      given_before : (s.dones b).world.control.given ≡ length (commands_of (given_in r.steps))
      given_before = ap (λ (z : Stepped). z.world.control.given) r.is ∙ count_is round words leave law stay setup (net.setups b here) (vids b here) _ _ r.steps (known n b (s.dones b) r [])

      given_arrival : (a : Arrival) → Handles n b (Arrive a) s e → (e.dones b).world.control.given ≡ length (commands_of (given_in r.steps))
      given_arrival a h =
          ap (λ (z : Stepped). z.world.control.given) (dones_here (Arrive a) h)
          ∙ count_is round words leave law stay setup (net.setups b here) (vids b here) _ _ (all (Arrive a) h)
          (arrived round words leave law stay setup (net.setups b here) (vids b here) _ _ r.steps (known n b (s.dones b) r []) a h.moves (may_here (Arrive a) h) h.moves_alone (settled_here (Arrive a) h))

      given_order : (c : Command) → Handles n b (Order c) s e → (e.dones b).world.control.given ≡ suc (length (commands_of (given_in r.steps)))
      unfolding known
      given_order c h =
          ap (λ (z : Stepped). z.world.control.given) (dones_here (Order c) h)
          ∙ count_is round words leave law stay setup (net.setups b here) (vids b here) _ _ (all (Order c) h)
          (ordered round words leave law stay setup (net.setups b here) (vids b here) _ _ r.steps (known n b (s.dones b) r (c ∷ [])) c h.moves [] refl (may_here (Order c) h) h.moves_alone (settled_here (Order c) h))

      -- what may cross leaves an external port, and at others nothing leaves
      left_of_crossing : (a : Arrival) (xs : List Left) → Each (MayCross t a) xs → Each (LeftAt n b a.moment) xs
      left_of_crossing a [] each = tt
      left_of_crossing a (x ∷ xs) each = (record { port = each.0.port; moment = each.0.moment; short = each.0.short }, left_of_crossing a xs each.1)

      none_elsewhere : (a : Arrival) (xs : List Left) (q : ℕ) → is_external t q ≡ false → Each (MayCross t a) xs → left_at q xs ≡ []
      none_elsewhere a [] q not each = refl
      none_elsewhere a (x ∷ xs) q not each =
          elim (cases_eq x.port q) [
            | inl same ↦ absurd (let port = each.0.port in let there : is_external t x.port ≡ false = ap (is_external t) same ∙ not in cc)
            | inr other ↦ rw (ne_eqb x.port q other) (none_elsewhere a xs q not each.1)
          ]

      pub told_arrival : (a : Arrival) → Handles n b (Arrive a) s e → IsToldMore a.moment 1 0 (Arrive a)
      told_arrival a h =
          let f = after_arrival a h in
          let cross = leaves_may_cross round words leave law stay setup r.steps a h.moves (alone (Arrive a) h) in
          record {
            clock = clock_then (Arrive a) h f (no_seconds (is_relayed w.control.bridge a.port a.bytes));
            given = (let now = given_arrival a h in let was = given_before in omega (arith, now, was));
            told = told_all (Arrive a) h;
            more = (run t l (Arrive a ∷ h.moves) w).left;
            left = left_all (Arrive a) h;
            each = left_of_crossing a (run t l (Arrive a ∷ h.moves) w).left cross.each;
            few = λ q. elim (cases_Bool (is_external t q)) [
              | inl ext ↦ cross.few q ext
              | inr not ↦ (let none = ap (λ (xs : List Sent). length xs) (none_elsewhere a (run t l (Arrive a ∷ h.moves) w).left q not cross.each) in omega (arith, none))
            ];
            queue = h.queue ∙ ap (λ (xs : List Left). s.queue ++ crossed n b xs) (left_is (Arrive a) h);
          }
        where
          no_seconds : (c : Bool) → seconds_of (cond c (event.Relay a.port a.index a.moment a.bytes) (event.Ignored a.port a.index)) ≡ 0
          no_seconds true = refl
          no_seconds false = refl

      pub told_order : (moment : ℕ) (c : Command) → Handles n b (Order c) s e → IsToldMore moment 0 1 (Order c)
      told_order moment c h =
          let f = after_order c h in
          let none = commands_send_nothing round words leave law stay setup r.steps c h.moves (alone (Order c) h) in
          record {
            clock = clock_then (Order c) h f (no_seconds (refusal t l w.control.bridge c));
            given = (let now = given_order c h in let was = given_before in omega (arith, now, was));
            told = told_all (Order c) h;
            more = [];
            left = left_all (Order c) h ∙ ap (λ (xs : List Left). (s.dones b).left ++ xs) none;
            each = tt;
            few = λ q. omega arith;
            queue = h.queue ∙ ap (λ (xs : List Left). s.queue ++ crossed n b xs) (left_is (Order c) h ∙ none);
          }
        where
          no_seconds : (o : Option Cause) → seconds_of (decided (w.control.given + 1) o) ≡ 0
          no_seconds None = refl
          no_seconds (Some x) = refl

    -- ---- seconds
    passed_at : (seconds : ℕ) (s : Dones) (b : ℕ) (here : b < n.count) (r : IsRun n b (s b)) → Can (tree_in n b) (s b).world (Tick seconds) →
        IsRun n b (followed_by (s b) (does n b (Tick seconds ∷ []) s)) × ((p : ℕ) → (followed_by (s b) (does n b (Tick seconds ∷ []) s)).world.next p ≡ (s b).world.next p)
    unfolding run stepped
    passed_at seconds s b here r can =
        let t : Shape = tree_in n b in
        let l : Limits = limits_in n b in
        let w0 : World = beginning (n.input b).setup in
        let there : Can t (run t l r.steps w0).world (Tick seconds) = subst (λ (z : Stepped). Can t z.world (Tick seconds)) r.is can in
        let f = bridge.ticked round words leave law stay (n.input b).setup (net.setups b here) (vids b here) _ _ r.steps (known n b (s b) r []) seconds there in
        let is : followed_by (s b) (does n b (Tick seconds ∷ []) s) ≡ run t l (r.steps ++ Tick seconds ∷ []) w0 =
        ap (λ (z : Stepped). followed_by z (run t l (Tick seconds ∷ []) z.world)) r.is ∙ sym (run_then t l r.steps (Tick seconds ∷ []) w0) in
        (subst (IsRun n b) (sym is) (runs_by n b _ _ (r.steps ++ Tick seconds ∷ []) f), (λ p. refl))

    pub passed_on : (seconds : ℕ) (s : Dones) → AreRun n s → MayPass n seconds s → HavePassed n s (pass n seconds s)
    passed_on seconds s runs may =
        record {
          run = λ b here. elim (cases_Bool (seconds == 0)) [
            | inl e ↦ rw e (runs b here)
            | inr e ↦ rw e (passed_at seconds s b here (runs b here) (may e b here)).0
          ];
          next = λ b p here. elim (cases_Bool (seconds == 0)) [
            | inl e ↦ rw e refl
            | inr e ↦ rw e ((passed_at seconds s b here (runs b here) (may e b here)).1 p)
          ];
        }

    -- ---- the opening
    begun : (s : Dones) → AreOpened n s → HaveBegun n s
    begun s opens =
        record {
          run = λ b here. (let k = at b here in subst (IsRun n b) (sym k.is) (runs_by n b (basis_in n b) 0 k.steps k.facts));
          next = λ b p here.
              (let k = at b here in
              ap (λ (z : Stepped). z.world.next p) k.is
              ∙ (k.facts.named p ∙ ap suc (ap (λ (h : History). named_at h p) (sym k.told) ∙ none b here p)));
        }
      where
        at : (b : ℕ) → b < n.count → IsAt n 0 b (s b) (openings n b)
        at b here = opened_at round words leave law stay n net vids b here (s b) (opens b here)

        none : (b : ℕ) → b < n.count → (p : ℕ) → named_at (openings n b) p ≡ 0
        none b here p =
            let o = opens b here in
            opening_names round words leave law stay (n.input b).setup (net.setups b here) (vids b here) (basis_in n b).commands o.moves o.may o.moves_alone o.settled p

    -- ---- deliveries
    module _ (ends : QueuesEndSoon) (s : Dones) (runs : AreRun n s) where
      abbrev HasGiven : ℕ → List Command → Type 0
      HasGiven b cs = (r : IsRun n b (s b)) × (commands_of (given_in r.steps) ≡ cs)

      chosen : (f : ℕ → List Command) × ((b : ℕ) → b < n.count → HasGiven b (f b))
      chosen = choose HasGiven [] n.count (λ b here. (let r = runs b here in (commands_of (given_in r.steps), (r, refl))))

      at_all : AllAt (with_commands n chosen.0) (λ b. length (chosen.0 b)) s (λ b. [] then (s b).events)
      unfolding with_commands
      at_all b here =
          let r = (chosen.1 b here).0 in
          let same : commands_of (given_in r.steps) ≡ chosen.0 b = (chosen.1 b here).1 in
          let setup : Setup = (n.input b).setup in
          let k = known n b (s b) r [] in
          record {
            steps = r.steps;
            is = r.is;
            told = ap (λ (z : Stepped). [] then z.events) r.is;
            facts = record {
              may = k.may;
              settled = k.settled;
              rest = [];
              commands = ap (λ (cs : List Command). record (basis_of setup) { commands = cs }) (just_commands (chosen.0 b) ∙ (sym same ∙ sym (append-nil (commands_of (given_in r.steps)))));
              counts = ap (λ (cs : List Command). length cs) (sym same);
              named = k.named;
            };
          }

      next_at : (hs : Histories) (u : Dones) (taken : ℕ → ℕ) → AllAt (with_commands n chosen.0) taken u hs → (c p : ℕ) → c < n.count → (u c).world.next p ≡ suc (named_at (hs c) p)
      unfolding with_commands
      next_at hs u taken all c p here =
          let k = all c here in
          ap (λ (z : Stepped). z.world.next p) k.is ∙ (k.facts.named p ∙ ap (λ (h : History). suc (named_at h p)) (sym k.told))

      soon : (b k : ℕ) (a : Arrival) (given u : Between) → b < n.count → Handles n b (Arrive a) (record { dones = s; queue = [] }) given → DeliversTimes n k given u → k ≤ length n.wires → IsSoon n k s u
      unfolding with_commands
      soon b k a given u here h delivers few =
          let m : Net = with_commands n chosen.0 in
          let taken : ℕ → ℕ = λ c. length (chosen.0 c) in
          let hs : Histories = λ c. [] then (s c).events in
          let net2 = net_stays n chosen.0 net in
          let d : Due = record { bridge = b; coming = Captured a } in
          let one = handled_arrival round words leave law stay m net2 vids taken taken b here refl (λ c other. refl) a (record { dones = s; queue = [] }) given hs at_all (handles_stay n chosen.0 b (Arrive a) (record { dones = s; queue = [] }) given h) in
          let ev : Event = arrival_event (bridge_after (basis_in m b) (hs b)) a in
          let hs1 : Histories = with_history b (event.Settled ∷ ev ∷ hs b) hs in
          let range : Each (InRange m) given.queue = subst (Each (InRange m)) (sym one.queue) (grown_here m net2 b (hs b) ev) in
          let z = delivered_on round words leave law stay m net2 vids k taken given u hs1 one.all range (delivers_stay n chosen.0 k given u delivers) in
          let start : comes m d hs ≡ record { histories = hs1; queue = given.queue } = ap (λ (q : List Crossing). record { histories = hs1; queue = q }) (sym one.queue) in
          let now : delivered_times m k (comes m d hs) ≡ record { histories = z.next; queue = u.queue } = ap (delivered_times m k) start ∙ z.is in
          let end = ends m net2 d hs here in
          record {
            few = λ c p c_here.
                (let j : ℕ = length n.wires - k in
                let whole : delivered_times m j (record { histories = z.next; queue = u.queue }) ≡ delivered_times m (length n.wires) (comes m d hs) =
                ap (delivered_times m j) (sym now) ∙ (twice m j k (comes m d hs) ∙ ap (λ (i : ℕ). delivered_times m i (comes m d hs)) (room k (length n.wires) few)) in
                let grows : named_at (z.next c) p ≤ named_at ((delivered_times m (length n.wires) (comes m d hs)).histories c) p =
                subst (λ (y : State). named_at (z.next c) p ≤ named_at (y.histories c) p) whole (named_after m c p j (record { histories = z.next; queue = u.queue })) in
                let most = end.few c p in
                let before : (s c).world.next p ≡ suc (named_at (hs c) p) = next_at hs s taken at_all c p c_here in
                let after : (u.dones c).world.next p ≡ suc (named_at (z.next c) p) = next_at z.next u.dones taken z.all c p c_here in
                omega (arith, grows, most, before, after));
            empty = λ e. ap (λ (y : State). y.queue) (sym now ∙ ap (λ (i : ℕ). delivered_times m i (comes m d hs)) e) ∙ end.empty;
          }
        where
          room : (k l : ℕ) → k ≤ l → k + (l - k) ≡ l
          room k l h = omega (arith, h)

      -- once none is left, at most one arrival was named at each bridge
      pub once_soon : (b k : ℕ) (a : Arrival) (given u : Between) → b < n.count → Handles n b (Arrive a) (record { dones = s; queue = [] }) given → DeliversTimes n k given u → u.queue ≡ [] →
          (c : ℕ) → c < n.count → named_in ([] then (u.dones c).events) ≤ named_in ([] then (s c).events) + 1
      unfolding with_commands
      once_soon b k a given u here h delivers empty c c_here =
          let m : Net = with_commands n chosen.0 in
          let taken : ℕ → ℕ = λ c. length (chosen.0 c) in
          let hs : Histories = λ c. [] then (s c).events in
          let net2 = net_stays n chosen.0 net in
          let d : Due = record { bridge = b; coming = Captured a } in
          let one = handled_arrival round words leave law stay m net2 vids taken taken b here refl (λ c other. refl) a (record { dones = s; queue = [] }) given hs at_all (handles_stay n chosen.0 b (Arrive a) (record { dones = s; queue = [] }) given h) in
          let ev : Event = arrival_event (bridge_after (basis_in m b) (hs b)) a in
          let hs1 : Histories = with_history b (event.Settled ∷ ev ∷ hs b) hs in
          let range : Each (InRange m) given.queue = subst (Each (InRange m)) (sym one.queue) (grown_here m net2 b (hs b) ev) in
          let z = delivered_on round words leave law stay m net2 vids k taken given u hs1 one.all range (delivers_stay n chosen.0 k given u delivers) in
          let start : comes m d hs ≡ record { histories = hs1; queue = given.queue } = ap (λ (q : List Crossing). record { histories = hs1; queue = q }) (sym one.queue) in
          let now : delivered_times m k (comes m d hs) ≡ record { histories = z.next; queue = [] } = ap (delivered_times m k) start ∙ (z.is ∙ ap (λ (q : List Crossing). record { histories = z.next; queue = q }) empty) in
          let end = ends m net2 d hs here in
          let last : State = delivered_times m (length n.wires) (comes m d hs) in
          let drained : last ≡ record { histories = last.histories; queue = [] } = ap (λ (q : List Crossing). record { histories = last.histories; queue = q }) end.empty in
          let same : z.next ≡ last.histories = one_end m (comes m d hs) z.next last.histories (record { times = k; is = now }) (record { times = length n.wires; is = drained }) in
          let most = end.once c in
          let at = z.all c c_here in
          let told : ([] then (u.dones c).events) ≡ last.histories c = ap (λ (y : Stepped). [] then y.events) at.is ∙ (sym at.told ∙ ap (λ (y : Histories). y c) same) in
          let count = ap named_in told in
          omega (arith, most, count)

pub opened_nets_run : TagRoundTrip → SendsAreWords → SendsLeaveAsFlat → StepsTell → StepsStayWritten → OpenedNetsRun
opened_nets_run round words leave law stay n s net vids opens = begun round words leave law stay n net vids s opens

pub seconds_pass : TagRoundTrip → SendsAreWords → SendsLeaveAsFlat → StepsTell → StepsStayWritten → SecondsPass
seconds_pass round words leave law stay n seconds s net vids runs may = passed_on round words leave law stay n net vids seconds s runs may

pub bridges_handle : TagRoundTrip → SendsAreWords → SendsLeaveAsFlat → StepsTell → StepsStayWritten → BridgesHandle
bridges_handle round words leave law stay n b step s e net vids runs here h = handled_on round words leave law stay n net vids b here s e (runs b here) runs step h h.gives

pub deliveries_end_soon : QueuesEndSoon → TagRoundTrip → SendsAreWords → SendsLeaveAsFlat → StepsTell → StepsStayWritten → DeliveriesEndSoon
deliveries_end_soon ends round words leave law stay n b k a s given u net vids runs here h delivers few = soon round words leave law stay n net vids ends s runs b k a given u here h delivers few
