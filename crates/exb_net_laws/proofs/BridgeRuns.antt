-- One of a net's worlds: what is known of it after steps that leave it settled, and what becomes of it as it is given something.
use Rattle.std.proofs.Common.{◌≡◌, ℕ, suc, ◌+◌, ◌==◌, ◌++◌, true, cond, List, [], ◌∷◌, length, slice_get, Option, Some, None, refl, ap, sym, ◌∙◌, subst, arith, inl, inr}
use Rattle.std.specs.Prelude.{All, IsPermutation}
use Rattle.std.proofs.lemmas.Bool.{cases_Bool, cases_eq, eq-eqb, ne_eqb}
use Rattle.std.proofs.lemmas.List.{append-nil, append_assoc}
use Rattle.std.proofs.lemmas.List.Sorted.{IsPermutation-refl}
use Rattle.exb_model.specs.declared.command.Command.{Command}
use Rattle.exb_model.specs.declared.event.Cause.{Cause}
use Rattle.exb_model.specs.declared.event.Event.{Event}
use Rattle.exb_model.specs.declared.event.Event.TheVariants as event
use Rattle.exb_model.specs.declared.setup.Setup.{Setup}
use Rattle.exb_model.specs.Configuration.{Bridge}
use Rattle.exb_model.specs.EagerHistory.{is_relayed, arrival_event, decided, up_event, risen, with_ups, opening}
use Rattle.exb_model.specs.FlatBridge.{sent_by, flat}
use Rattle.exb_model.specs.History.{Basis, History, ◌then◌, command_of, bridge_after, now_after}
use Rattle.exb_model.specs.declared.arrival.Arrival.{Arrival}
use Rattle.exb_model.specs.Learning.{Look, learned}
use Rattle.exb_model.specs.Lists.{numbered}
use Rattle.exb_model.specs.Refusals.{refusal}
use Rattle.exb_model.specs.Setup.{Limits, IsValid, shape_of, limits_of, start_of}
use Rattle.exb_model.specs.Tree.{Shape, is_external, opening_ports}
use Rattle.exb_frame.specs.TagValues.{TagRoundTrip}
use Rattle.exb_relay.specs.Laws.{SendsAreWords, SendsLeaveAsFlat}
use Rattle.exb_control_spec.specs.Runs.Journal.{StepsTell}
use Rattle.exb_world_spec.specs.AllowedSteps.{Can, IsSettled}
use Rattle.exb_world_spec.specs.Settling.{run, followed_by}
use Rattle.exb_world_spec.specs.Steps.{Stepped, stepped}
use Rattle.exb_world_spec.specs.Worlds.{World, Step, Arrive, Order, Tick, Mark, left_at}
use Rattle.exb_world_spec.specs.Runs.SessionLaws.{IsMove}
use Rattle.exb_world_spec.specs.Runs.PassedFrames.{passed_over}
use Rattle.exb_world_spec.specs.Runs.Sessions as machine
use Rattle.exb_world_spec.specs.Runs.FrameBytes.{StepsStayWritten}
use Rattle.exb_world_spec.proofs.Rounds.{run_then}
use Rattle.exb_flight.proofs.KeptPromises.{then_append}
use Rattle.exb_world_laws.specs.WorldInput.{Given, Came, Told, given_by, arrivals_of, arrivals_at, commands_of, basis_with}
use Rattle.exb_world_laws.specs.WorldInvariant.{MayStart, MayDoAll, given_in, Kept, basis_of}
use Rattle.exb_world_spec.specs.Runs.ReachedWorlds.{HasVid, MayTakeAll, beginning}
use Rattle.exb_world_laws.specs.OneBridgeSteps.{IsGiving, told_of, IsOneEvent}
use Rattle.exb_world_laws.specs.SegmentRuns.{Plays, nothing_given}
use Rattle.exb_world_laws.specs.OneBridge.{Stands}
use Rattle.exb_world_laws.proofs.FrameBytes.{setups_go_on}
use Rattle.exb_world_laws.proofs.LongerHistories.{HasCommands, longer, bridge_stays, learned_stays, flat_stays, opening_stays}
use Rattle.exb_world_laws.proofs.InvariantSteps.{commands_append}
use Rattle.exb_world_laws.proofs.OneBridgeKept.{its_commands}
use Rattle.exb_world_laws.proofs.NamedArrivals.{arrivals_append, arrivals_other, length_here}
use Rattle.exb_world_laws.proofs.OneEvent.{events_go_alone}
use Rattle.exb_world_laws.proofs.OneBridgeSteps.{kept_ageing, stands_owes_nothing}
use Rattle.exb_world_laws.proofs.PassedFrames.{passed_stays, runs_tell_passed}
use Rattle.exb_world_laws.proofs.SegmentHistories.{IsMarked, given_both, marked, may_split, each_moves, is_opening, each_risen}
use Rattle.exb_world_laws.proofs.Setups.{setups_may_start}
use Rattle.exb_world_laws.proofs.OneBridge.{begins_kept, kept_stands, runs_kept}
use Rattle.exb_world_laws.proofs.Runs.Settling.{runs_stay_low}
use Rattle.exb_net_spec.specs.NetHistory.{named_at}

-- ---- steps
module _ (t : Shape) (l : Limits) where
  pub may_append : (xs ys : List Step) (w : World) → MayTakeAll t l w xs → MayTakeAll t l (run t l xs w).world ys → MayTakeAll t l w (xs ++ ys)
  unfolding run
  may_append [] ys w a b = b
  may_append (x ∷ xs) ys w a b = (a.0, may_append xs ys (stepped t l x w).world a.1 b)

-- ---- names
pub named_settled : (h : History) (p : ℕ) → named_at (event.Settled ∷ h) p ≡ named_at h p
unfolding named_at
named_settled h p = refl

named_tick : (seconds : ℕ) (h : History) (p : ℕ) → named_at (event.Tick seconds ∷ h) p ≡ named_at h p
unfolding named_at
named_tick seconds h p = refl

pub named_decided : (n : ℕ) (o : Option Cause) (h : History) (p : ℕ) → named_at (decided n o ∷ h) p ≡ named_at h p
unfolding named_at
named_decided n None h p = refl
named_decided n (Some x) h p = refl

pub named_arrival : (b : Bridge) (a : Arrival) (h : History) (p : ℕ) → named_at (arrival_event b a ∷ h) p ≡ cond (a.port == p) (suc (named_at h p)) (named_at h p)
unfolding named_at
named_arrival b a h p =
    elim (cases_Bool (is_relayed b a.port a.bytes)) [
      | inl e ↦ rw e refl
      | inr e ↦ rw e refl
    ]

named_risen : (p : ℕ) (o : Option Cause) (h : History) (q : ℕ) → named_at (risen p o ∷ h) q ≡ named_at h q
unfolding named_at
named_risen p None h q = refl
named_risen p (Some x) h q = refl

named_ups : (t : Shape) (l : Limits) (i : Basis) (ps : List ℕ) (h : History) (q : ℕ) → named_at (with_ups t l i h ps) q ≡ named_at h q
named_ups t l i [] h q = refl
named_ups t l i (p ∷ ps) h q = named_ups t l i ps (up_event t l (bridge_after i h) p ∷ h) q ∙ named_risen p (refusal t l (bridge_after i h) _) h q

named_none : (q : ℕ) → named_at [] q ≡ 0
unfolding named_at
named_none q = refl

-- Steps of a setup's world that may be made and leave it settled, with these commands still to come of all.
pub record Facts (s : Setup) (full : Basis) (taken : ℕ) (steps : List Step) : Type 0 where
  pub may : MayTakeAll (shape_of s) (limits_of s) (beginning s) steps
  pub settled : IsSettled (shape_of s) (run (shape_of s) (limits_of s) steps (beginning s)).world
  pub rest : List Command
  pub commands : full ≡ longer (basis_with (basis_of s) (given_in steps)) rest
  pub counts : taken ≡ length (commands_of (given_in steps))
  pub named : (p : ℕ) → (run (shape_of s) (limits_of s) steps (beginning s)).world.next p ≡ suc (named_at ([] then (run (shape_of s) (limits_of s) steps (beginning s)).events) p)

-- ---- a world after steps
module _ (round : TagRoundTrip) (words : SendsAreWords) (leave : SendsLeaveAsFlat) (law : StepsTell) (stay : StepsStayWritten) (s : Setup) (valid : IsValid s) (vids : All HasVid s.start) where
  abbrev t : Shape
  t = shape_of s

  abbrev l : Limits
  l = limits_of s

  abbrev i : Basis
  i = basis_of s

  abbrev w0 : World
  w0 = beginning s

  abbrev after : List Step → Stepped
  after steps = run (shape_of s) (limits_of s) steps (beginning s)

  abbrev told : List Step → History
  told steps = [] then (run (shape_of s) (limits_of s) steps (beginning s)).events

  start : MayStart (shape_of s) (limits_of s) (basis_of s)
  start = setups_may_start s valid vids

  do_all : (steps : List Step) → MayTakeAll t l w0 steps → MayDoAll t l w0 steps
  do_all steps may = (setups_go_on round words leave law stay s steps valid vids (runs_stay_low round words leave law stay s steps valid vids may)).may

  kept_at : (steps : List Step) → MayTakeAll t l w0 steps → Kept t l i (after steps).world (given_in steps) (told steps) (after steps).left
  kept_at steps may = runs_kept round words leave law t l i start steps w0 [] [] [] (begins_kept t l i start) (do_all steps may)

  stands_at : (steps : List Step) → MayTakeAll t l w0 steps → Stands t l i (after steps).world (given_in steps) (told steps) (after steps).left
  stands_at steps may = kept_stands t l i start (after steps).world (given_in steps) (told steps) (after steps).left (kept_at steps may)

  -- ---- what holds there
  module _ (full : Basis) (taken : ℕ) (steps : List Step) (f : Facts s full taken steps) where
    has : HasCommands (basis_with (basis_of s) (given_in steps)) (told steps)
    has = its_commands t l (after steps).world i (given_in steps) (told steps) (after steps).left (stands_at steps f.may)

    pub bridge_is : bridge_after full (told steps) ≡ (after steps).world.control.bridge
    bridge_is =
        ap (λ (c : Basis). bridge_after c (told steps)) f.commands
        ∙ (bridge_stays (basis_with i (given_in steps)) f.rest (told steps) has ∙ sym (stands_at steps f.may).force.bridge)

    pub left_is : (q : ℕ) → is_external t q ≡ true → left_at q (after steps).left ≡ flat full (told steps) q
    left_is q ext =
        (stands_owes_nothing t l i start.setting.tree (after steps).world (given_in steps) (told steps) (after steps).left (stands_at steps f.may) f.settled q ext).1
        ∙ (sym (flat_stays (basis_with i (given_in steps)) f.rest (told steps) q has) ∙ ap (λ (c : Basis). flat c (told steps) q) (sym f.commands))

    pub passed_is : (after steps).passed ≡ passed_over full [] (after steps).events
    passed_is =
        runs_tell_passed round words leave law t l i start w0 [] [] [] (begins_kept t l i start) steps (do_all steps f.may) i refl [] [] [] (kept_stands t l i start w0 [] [] [] (begins_kept t l i start))
        ∙ (sym (passed_stays (basis_with i (given_in steps)) f.rest (after steps).events [] has) ∙ ap (λ (c : Basis). passed_over c [] (after steps).events) (sym f.commands))

    pub clock_is : (after steps).world.table.clock ≡ now_after (told steps)
    clock_is = (stands_at steps f.may).force.clock

    -- the number of commands that the world was given
    pub count_is : (after steps).world.control.given ≡ taken
    count_is = (stands_at steps f.may).follows.commands ∙ sym f.counts

    -- it is given something, and settles
    module _ (step : Step) (moves : List Step) (gives : IsGiving step) (may : MayTakeAll t l (after steps).world (step ∷ moves)) (alone : machine.Each IsMove moves)
        (settled : IsSettled t (run t l (step ∷ moves) (after steps).world).world) where
      abbrev w : World
      w = (run (shape_of s) (limits_of s) steps (beginning s)).world

      abbrev xs : List Step
      xs = step ∷ moves

      abbrev ys : List Step
      ys = (step ∷ moves) ++ Mark ∷ []

      one : IsOneEvent t l i w (given_in steps) (told steps) (after steps).left step moves
      one =
          let k = kept_at steps f.may in
          let all : MayTakeAll t l w0 (steps ++ xs) = may_append t l steps xs w0 f.may may in
          let do_xs : MayDoAll t l w xs = (may_split t l steps xs w0 (do_all (steps ++ xs) all)).1 in
          events_go_alone round words leave law t l i start w (given_in steps) (told steps) (after steps).left k f.settled step moves gives do_xs alone settled
          i (sym (kept_ageing t l i start w (given_in steps) (told steps) (after steps).left k)) (given_in steps) (told steps) (after steps).left (stands_at steps f.may)

      mark : IsMarked t l xs w
      mark = marked t l xs w

      pub joined : run t l (steps ++ ys) w0 ≡ followed_by (after steps) (run t l ys w)
      joined = run_then t l steps ys w0

      world_is : (run t l (steps ++ ys) w0).world ≡ (run t l xs w).world
      world_is = ap (λ (z : Stepped). z.world) joined ∙ mark.world

      pub told_is : ([] then (run t l (steps ++ ys) w0).events) ≡ event.Settled ∷ told_of t l w step ∷ told steps
      told_is =
          let es : List Event = (after steps).events in
          ap (λ (z : Stepped). [] then z.events) joined
          ∙ (then_append [] es (run t l ys w).events
          ∙ (ap (λ (zs : List Event). told steps then zs) mark.events ∙ ap (λ (zs : List Event). told steps then (zs ++ event.Settled ∷ [])) one.told))

      given_is : given_in (steps ++ ys) ≡ given_in steps ++ given_by step
      given_is =
          given_both steps ys
          ∙ ap (λ (z : List Given). given_in steps ++ z)
          (given_both xs (Mark ∷ []) ∙ (append-nil (given_in xs) ∙ (ap (λ (z : List Given). given_by step ++ z) (each_moves moves alone).1 ∙ append-nil (given_by step))))

      may_ys : MayTakeAll t l w0 (steps ++ ys)
      may_ys = may_append t l steps ys w0 f.may (may_append t l xs (Mark ∷ []) w may (record { can = settled; has = tt; vid = tt }, tt))

      settled_ys : IsSettled t (run t l (steps ++ ys) w0).world
      settled_ys = subst (IsSettled t) (sym world_is) settled

      next_is : (p : ℕ) → (run t l (steps ++ ys) w0).world.next p ≡ length (arrivals_at p (given_in steps ++ given_by step)) + 1
      next_is p = ap (λ (z : World). z.next p) world_is ∙ one.stands.follows.next p

      before_is : (p : ℕ) → length (arrivals_at p (given_in steps)) + 1 ≡ suc (named_at (told steps) p)
      before_is p = sym ((stands_at steps f.may).follows.next p) ∙ f.named p

      -- what leaves it is what the one bridge sends
      pub leaves_is : (q : ℕ) → is_external t q ≡ true → left_at q (run t l xs w).left ≡ sent_by (bridge_after full (told steps)) (learned full (told steps)) (told_of t l w step) q
      leaves_is q ext =
          let j : Basis = basis_with i (given_in steps) in
          let bridge_same : bridge_after full (told steps) ≡ bridge_after j (told steps) = ap (λ (c : Basis). bridge_after c (told steps)) f.commands ∙ bridge_stays j f.rest (told steps) has in
          let look_same : learned full (told steps) ≡ learned j (told steps) = ap (λ (c : Basis). learned c (told steps)) f.commands ∙ learned_stays j f.rest (told steps) has in
          one.leaves q ext
          ∙ (ap (λ (b : Bridge). sent_by b (learned j (told steps)) (told_of t l w step) q) (sym bridge_same)
          ∙ ap (λ (look : Look). sent_by (bridge_after full (told steps)) look (told_of t l w step) q) (sym look_same))

    -- an arrival
    pub arrived : (a : Arrival) (moves : List Step) → MayTakeAll t l (after steps).world (Arrive a ∷ moves) → machine.Each IsMove moves → IsSettled t (run t l (Arrive a ∷ moves) (after steps).world).world →
        Facts s full taken (steps ++ ((Arrive a ∷ moves) ++ Mark ∷ []))
    arrived a moves may alone settled =
        let given = given_is (Arrive a) moves tt may alone settled in
        let same : commands_of (given_in (steps ++ ((Arrive a ∷ moves) ++ Mark ∷ []))) ≡ commands_of (given_in steps) = ap commands_of given ∙ (commands_append (given_in steps) (Came a ∷ []) ∙ append-nil (commands_of (given_in steps))) in
        record {
          may = may_ys (Arrive a) moves tt may alone settled;
          settled = settled_ys (Arrive a) moves tt may alone settled;
          rest = f.rest;
          commands = f.commands ∙ ap (λ (cs : List Command). record { start = i.start; commands = cs ++ f.rest; ageing = i.ageing }) (sym same);
          counts = f.counts ∙ ap (λ (cs : List Command). length cs) (sym same);
          named = λ p.
              next_is (Arrive a) moves tt may alone settled p
              ∙ (by_port p
              ∙ ap suc (sym (ap (λ (h : History). named_at h p) (told_is (Arrive a) moves tt may alone settled) ∙ (named_settled (told_of t l (after steps).world (Arrive a) ∷ told steps) p ∙ named_arrival (after steps).world.control.bridge a (told steps) p))));
        }
      where
        by_port : (p : ℕ) → length (arrivals_at p (given_in steps ++ Came a ∷ [])) + 1 ≡ suc (cond (a.port == p) (suc (named_at (told steps) p)) (named_at (told steps) p))
        by_port p =
            elim (cases_eq a.port p) [
              | inl here ↦ rw (eq-eqb a.port p here) (ap (λ (n : ℕ). n + 1) (length_here (given_in steps) a p here) ∙ (plus (length (arrivals_at p (given_in steps)) + 1) ∙ ap suc (before_is (Arrive a) moves tt may alone settled p)))
              | inr other ↦ rw (ne_eqb a.port p other) (ap (λ (zs : List Arrival). length zs + 1) (arrivals_other (given_in steps) a p other) ∙ before_is (Arrive a) moves tt may alone settled p)
            ]
          where
            plus : (n : ℕ) → n + 1 ≡ suc n
            plus n = omega arith

    -- a command, the next of all
    pub ordered : (c : Command) (moves : List Step) (rest : List Command) → f.rest ≡ c ∷ rest → MayTakeAll t l (after steps).world (Order c ∷ moves) → machine.Each IsMove moves → IsSettled t (run t l (Order c ∷ moves) (after steps).world).world →
        Facts s full (suc taken) (steps ++ ((Order c ∷ moves) ++ Mark ∷ []))
    ordered c moves rest e may alone settled =
        let given = given_is (Order c) moves tt may alone settled in
        let cs : List Command = commands_of (given_in steps) in
        let more : commands_of (given_in (steps ++ ((Order c ∷ moves) ++ Mark ∷ []))) ≡ cs ++ c ∷ [] = ap commands_of given ∙ commands_append (given_in steps) (Told c ∷ []) in
        record {
          may = may_ys (Order c) moves tt may alone settled;
          settled = settled_ys (Order c) moves tt may alone settled;
          rest = rest;
          commands =
              f.commands
              ∙ (ap (λ (zs : List Command). record { start = i.start; commands = cs ++ zs; ageing = i.ageing }) e
              ∙ (ap (λ (zs : List Command). record { start = i.start; commands = zs; ageing = i.ageing }) (sym (append_assoc cs (c ∷ []) rest))
              ∙ ap (λ (zs : List Command). record { start = i.start; commands = zs ++ rest; ageing = i.ageing }) (sym more)));
          counts = ap suc f.counts ∙ (longer_by cs ∙ ap (λ (zs : List Command). length zs) (sym more));
          named = λ p.
              next_is (Order c) moves tt may alone settled p
              ∙ (ap (λ (zs : List Arrival). length zs + 1) (arrivals_append p (given_in steps) (Told c ∷ []) ∙ append-nil (arrivals_at p (given_in steps)))
              ∙ (before_is (Order c) moves tt may alone settled p
              ∙ ap suc (sym (ap (λ (h : History). named_at h p) (told_is (Order c) moves tt may alone settled) ∙ (named_settled (told_of t l (after steps).world (Order c) ∷ told steps) p ∙ named_decided _ (refusal t l (after steps).world.control.bridge c) (told steps) p)))));
        }
      where
        longer_by : (cs : List Command) → suc (length cs) ≡ length (cs ++ c ∷ [])
        longer_by [] = refl
        longer_by (x ∷ cs) = ap suc (longer_by cs)

    -- the command of the next number
    pub next_command : (c : Command) → command_of full (suc taken) ≡ Some c → (rest : List Command) × (f.rest ≡ c ∷ rest)
    next_command c e =
        let cs : List Command = commands_of (given_in steps) in
        next_in cs f.rest (sym (ap (λ (n : ℕ). numbered (cs ++ f.rest) (suc n)) f.counts) ∙ (sym (ap (λ (b : Basis). numbered b.commands (suc taken)) f.commands) ∙ e))
      where
        none_some : {x : Command} → None ≡ Some x → ⊥
        none_some z = cc

        some_same : {x y : Command} → Some x ≡ Some y → x ≡ y
        some_same z = cc

        next_in : (xs ys : List Command) → slice_get (xs ++ ys) (length xs) ≡ Some c → (rest : List Command) × (ys ≡ c ∷ rest)
        next_in [] [] z = absurd (none_some z)
        next_in [] (y ∷ ys) z = (ys, ap (λ (x : Command). x ∷ ys) (some_same z))
        next_in (x ∷ xs) ys z = next_in xs ys z

    -- the number that the world gives it
    pub number_is : (after steps).world.control.given + 1 ≡ suc taken
    number_is = let e = (stands_at steps f.may).follows.commands in let k = f.counts in omega (arith, e, k)

    -- seconds pass
    pub ticked : (seconds : ℕ) → Can t (after steps).world (Tick seconds) → Facts s full taken (steps ++ Tick seconds ∷ [])
    unfolding run stepped
    ticked seconds can =
        let w : World = (after steps).world in
        let e : run t l (steps ++ Tick seconds ∷ []) w0 ≡ followed_by (after steps) (run t l (Tick seconds ∷ []) w) = run_then t l steps (Tick seconds ∷ []) w0 in
        let given : given_in (steps ++ Tick seconds ∷ []) ≡ given_in steps = given_both steps (Tick seconds ∷ []) ∙ append-nil (given_in steps) in
        let settled : IsSettled t (run t l (Tick seconds ∷ []) w).world = record { queue = f.settled.queue; work = f.settled.work; near = f.settled.near; far = f.settled.far; down = f.settled.down; up = f.settled.up } in
        record {
          may = may_append t l steps (Tick seconds ∷ []) w0 f.may (record { can = can; has = tt; vid = tt }, tt);
          settled = subst (λ (z : Stepped). IsSettled t z.world) (sym e) settled;
          rest = f.rest;
          commands = f.commands ∙ ap (λ (g : List Given). longer (basis_with i g) f.rest) (sym given);
          counts = f.counts ∙ ap (λ (g : List Given). length (commands_of g)) (sym given);
          named = λ p.
              ap (λ (z : Stepped). z.world.next p) e
              ∙ (f.named p ∙ ap suc (sym (ap (λ (z : Stepped). named_at ([] then z.events) p) e ∙ (ap (λ (h : History). named_at h p) (then_append [] (after steps).events (event.Tick seconds ∷ [])) ∙ named_tick seconds (told steps) p))));
        }

    pub ticked_told : (seconds : ℕ) → told (steps ++ Tick seconds ∷ []) ≡ event.Tick seconds ∷ told steps
    unfolding run stepped
    ticked_told seconds = ap (λ (z : Stepped). [] then z.events) (run_then t l steps (Tick seconds ∷ []) w0) ∙ then_append [] (after steps).events (event.Tick seconds ∷ [])

  -- ---- the opening
  -- all commands
  abbrev with_all : List Command → Basis
  with_all cs = record { start = start_of s; commands = cs; ageing = s.ageing }

  module _ (cs : List Command) (moves : List Step) (may : MayTakeAll t l w0 moves) (alone : machine.Each IsMove moves) (settled : IsSettled t (after moves).world) where
    none_given : given_in moves ≡ []
    none_given = (each_moves moves alone).1

    plays : Plays t l i nothing_given w0 moves
    plays =
        record {
          gives = record {
            seconds = (each_moves moves alone).0;
            commands = ap commands_of none_given;
            arrivals = subst (λ (g : List Given). IsPermutation (arrivals_of g) []) (sym none_given) (IsPermutation-refl []);
            unmarked = (each_moves moves alone).2;
          };
          settled = settled;
        }

    rises : event.Settled ∷ told moves ≡ opening t l (with_all cs)
    rises =
        let r = is_opening round words leave law t l i start i (λ (a : Arrival). Unit {0}) moves w0 (begins_kept t l i start) (do_all moves may) plays in
        let j : Basis = basis_with i (given_in moves) in
        r.risen j (each_risen round words leave law t l i start i (λ (a : Arrival). Unit {0}) j (λ p. arrivals_at p (given_in moves)) (told moves) (stands_at moves may).rightly)
        ∙ (ap (λ (g : List Given). opening t l (basis_with i g)) none_given ∙ sym (opening_stays (basis_with i []) cs t l))

    pub opened_told : told (moves ++ Mark ∷ []) ≡ opening t l (with_all cs)
    opened_told = ap (λ (es : List Event). [] then es) (marked t l moves w0).events ∙ (then_append [] (after moves).events (event.Settled ∷ []) ∙ rises)

    pub opening_names : (p : ℕ) → named_at (opening t l (with_all cs)) p ≡ 0
    opening_names p = named_settled (with_ups t l (with_all cs) [] (opening_ports t)) p ∙ (named_ups t l (with_all cs) (opening_ports t) [] p ∙ named_none p)

    pub opened : Facts s (with_all cs) 0 (moves ++ Mark ∷ [])
    opened =
        let same : given_in (moves ++ Mark ∷ []) ≡ [] = given_both moves (Mark ∷ []) ∙ (append-nil (given_in moves) ∙ none_given) in
        let world : (after (moves ++ Mark ∷ [])).world ≡ (after moves).world = (marked t l moves w0).world in
        record {
          may = may_append t l moves (Mark ∷ []) w0 may (record { can = settled; has = tt; vid = tt }, tt);
          settled = subst (IsSettled t) (sym world) settled;
          rest = cs;
          commands = ap (λ (g : List Given). longer (basis_with i g) cs) (sym same);
          counts = ap (λ (g : List Given). length (commands_of g)) (sym same);
          named = λ p.
              ap (λ (z : World). z.next p) world
              ∙ ((stands_at moves may).follows.next p
              ∙ (ap (λ (g : List Given). length (arrivals_at p g) + 1) none_given ∙ ap suc (sym (ap (λ (h : History). named_at h p) opened_told ∙ opening_names p))));
        }
