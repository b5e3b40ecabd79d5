-- One event from a settled world: what is told of it, and what leaves.
use Rattle.std.proofs.Common.{◌≡◌, ℕ, ◌+◌, ◌++◌, List, [], ◌∷◌, length, Option, Some, refl, ap, sym, ◌∙◌, subst}
use Rattle.std.specs.Prelude.{filter_map, All}
use Rattle.std.proofs.lemmas.List.{append_cancel_left}
use Rattle.exb_model.specs.declared.command.Command.{Command}
use Rattle.exb_model.specs.declared.event.Event.{Event}
use Rattle.exb_model.specs.Configuration.{Bridge}
use Rattle.exb_model.specs.EagerHistory.{arrival_event, decided, refusal_of}
use Rattle.exb_model.specs.FlatBridge.{Sent, sent_by, flat}
use Rattle.exb_model.specs.History.{Basis, History, ◌then◌, command_of, bridge_after}
use Rattle.exb_model.specs.declared.arrival.Arrival.{Arrival}
use Rattle.exb_model.specs.Learning.{Look, learned}
use Rattle.exb_model.specs.LegalHistory.{EachEvent, IsOfSegment, place_of, tick_of, IsDecided, IsEntered}
use Rattle.exb_model.specs.Lists.{numbered}
use Rattle.exb_model.specs.Setup.{Limits}
use Rattle.exb_model.specs.Tree.{Shape}
use Rattle.exb_frame.specs.TagValues.{TagRoundTrip}
use Rattle.exb_relay.specs.Laws.{SendsAreWords, SendsLeaveAsFlat}
use Rattle.exb_control_spec.specs.Runs.Journal.{StepsTell}
use Rattle.exb_world_spec.specs.AllowedSteps.{IsSettled}
use Rattle.exb_world_spec.specs.Settling.{run}
use Rattle.exb_world_spec.specs.Worlds.{World, Step, Arrive, Carry, Control, Lose, Beat, Tick, Order, Mark, Left, left_at}
use Rattle.exb_world_spec.specs.Runs.SessionLaws.{IsMove}
use Rattle.exb_world_spec.specs.Runs.Sessions as machine
use Rattle.exb_flight.specs.Items.{Each}
use Rattle.exb_flight.proofs.IndexLists.{numbered_last}
use Rattle.exb_flight.proofs.SimulatedRelay.{left_append}
use Rattle.exb_world_laws.specs.WorldInput.{Given, Came, Told, given_by, arrivals_at, commands_of, basis_with}
use Rattle.exb_world_laws.specs.WorldInvariant.{MayStart, MayDoAll, given_in, Kept}
use Rattle.exb_world_laws.specs.SettledHistories.{IsPlayed}
use Rattle.exb_world_laws.specs.OneBridgeSteps.{IsLeftStanding, IsGiving, told_of, EventsAreTold, EventsGoAlone}
use Rattle.exb_world_laws.specs.SegmentRuns.{seconds_in, IsUnmarked}
use Rattle.exb_world_laws.specs.OneBridge.{IsRightly, Stands}
use Rattle.exb_world_laws.proofs.EagerHistories.{one_permuted, only_command, only_arrival}
use Rattle.exb_world_laws.proofs.LongerHistories.{flat_stays, learned_stays}
use Rattle.exb_world_laws.proofs.InvariantSteps.{basis_more, commands_append}
use Rattle.exb_world_laws.proofs.SettledHistories.{segments_are_played}
use Rattle.exb_world_laws.proofs.OneBridgeKept.{its_commands}
use Rattle.exb_world_laws.proofs.NamedArrivals.{arrivals_here}
use Rattle.exb_world_laws.proofs.CommandNumbers.{none_permuted}
use Rattle.exb_world_laws.proofs.OneBridgeSteps.{runs_leave_standing, stands_owes_nothing}
use Rattle.exb_world_laws.proofs.Opening.{of_segment}
use Rattle.exb_world_laws.proofs.PassedFrames.{bridge_now}
use Rattle.exb_world_laws.proofs.SegmentHistories.{all_of, each_moves}
use Rattle.exb_world_laws.proofs.OneBridge.{kept_stands, runs_kept}
use Rattle.exb_world_laws.proofs.Ticks.{TellsTime, run_time}

entered_in : (t : Shape) (l : Limits) (i : Basis) (arrivals : ℕ → List Arrival) (h : History) → EachEvent (IsRightly t l i arrivals) h → EachEvent (IsEntered i arrivals) h
entered_in t l i arrivals [] r = tt
entered_in t l i arrivals (e ∷ h) r = (entered_in t l i arrivals h r.0, r.1.entered)

decided_in : (t : Shape) (l : Limits) (i : Basis) (arrivals : ℕ → List Arrival) (h : History) → EachEvent (IsRightly t l i arrivals) h → EachEvent (IsDecided t l i) h
decided_in t l i arrivals [] r = tt
decided_in t l i arrivals (e ∷ h) r = (decided_in t l i arrivals h r.0, r.1.decided)

module _ (round : TagRoundTrip) (words : SendsAreWords) (leave : SendsLeaveAsFlat) (law : StepsTell) (t : Shape) (l : Limits) (i : Basis) (start : MayStart t l i) (w : World) (g : List Given) (h : History) (left : List Left)
    (k : Kept t l i w g h left) (settled : IsSettled t w) (moves : List Step) (all : machine.Each IsMove moves) where
  abbrev more : Step → List Given
  more step = given_in (step ∷ moves)

  its : Stands t l i w g h left
  its = kept_stands t l i start w g h left k

  -- all that is known of what is told
  record IsKnown (step : Step) : Type 0 where
    played : IsPlayed t g (given_by step) (run t l (step ∷ moves) w).events
    ticks : filter_map tick_of (run t l (step ∷ moves) w).events ≡ []
    of : All IsOfSegment (run t l (step ∷ moves) w).events
    stands : Stands t l i (run t l (step ∷ moves) w).world (g ++ given_by step) (h then (run t l (step ∷ moves) w).events) (left ++ (run t l (step ∷ moves) w).left)

  append_none : (xs : List Given) → xs ++ [] ≡ xs
  append_none [] = refl
  append_none (x ∷ xs) = ap (λ (z : List Given). x ∷ z) (append_none xs)

  same_given : (step : Step) → given_in (step ∷ moves) ≡ given_by step
  same_given step = ap (λ (z : List Given). given_by step ++ z) (each_moves moves all).1 ∙ append_none (given_by step)

  no_seconds : (step : Step) → IsGiving step → seconds_in (step ∷ moves) ≡ []
  no_seconds (Arrive a) gives = (each_moves moves all).0
  no_seconds (Order c) gives = (each_moves moves all).0
  no_seconds (Carry n way) gives = absurd gives
  no_seconds (Control n way j keep) gives = absurd gives
  no_seconds (Lose n way j) gives = absurd gives
  no_seconds Beat gives = absurd gives
  no_seconds (Tick seconds) gives = absurd gives
  no_seconds Mark gives = absurd gives

  known : (step : Step) → IsGiving step → MayDoAll t l w (step ∷ moves) → IsSettled t (run t l (step ∷ moves) w).world → IsKnown step
  known step gives may after =
      let es : List Event = (run t l (step ∷ moves) w).events in
      let played : IsPlayed t g (given_by step) es = subst (λ (z : List Given). IsPlayed t g z es) (same_given step) (segments_are_played round words leave law t l i start w g h left k settled (step ∷ moves) may after) in
      let time : TellsTime [] es = subst (λ (ns : List ℕ). TellsTime ns es) (no_seconds step gives) (run_time round words leave law t l i start (step ∷ moves) w g h left k may (unmarked step gives)) in
      let next = runs_kept round words leave law t l i start (step ∷ moves) w g h left k may in
      record {
        played = played;
        ticks = time.ticks;
        of = all_of IsOfSegment es (of_segment es [] played.none_opened time);
        stands = subst (λ (z : List Given). Stands t l i (run t l (step ∷ moves) w).world (g ++ z) (h then es) (left ++ (run t l (step ∷ moves) w).left)) (same_given step)
            (kept_stands t l i start (run t l (step ∷ moves) w).world (g ++ given_in (step ∷ moves)) (h then es) (left ++ (run t l (step ∷ moves) w).left) next);
      }
    where
      unmarked : (step : Step) → IsGiving step → Each IsUnmarked (step ∷ moves)
      unmarked (Arrive a) gives = (tt, (each_moves moves all).2)
      unmarked (Order c) gives = (tt, (each_moves moves all).2)
      unmarked (Carry n way) gives = absurd gives
      unmarked (Control n way j keep) gives = absurd gives
      unmarked (Lose n way j) gives = absurd gives
      unmarked Beat gives = absurd gives
      unmarked (Tick seconds) gives = absurd gives
      unmarked Mark gives = absurd gives

  told_arrival : (a : Arrival) → MayDoAll t l w (Arrive a ∷ moves) → IsKnown (Arrive a) → (run t l (Arrive a ∷ moves) w).events ≡ arrival_event w.control.bridge a ∷ []
  told_arrival a may z =
      let es : List Event = (run t l (Arrive a ∷ moves) w).events in
      let now : List Given = g ++ Came a ∷ [] in
      let as_given : a.index ≡ length (arrivals_at a.port g) + 1 = may.0.may.can.next ∙ its.follows.next a.port in
      let found : numbered (arrivals_at a.port now) a.index ≡ Some a =
      ap (λ (xs : List Arrival). numbered xs a.index) (arrivals_here g a a.port refl) ∙ (ap (numbered (arrivals_at a.port g ++ a ∷ [])) as_given ∙ numbered_last (arrivals_at a.port g) a) in
      let one : es ≡ arrival_event (bridge_after (basis_with i now) h) a ∷ [] =
      only_arrival t l (basis_with i now) (λ p. arrivals_at p now) es h a found z.played.commands (one_permuted (filter_map place_of es) (a.port, a.index) z.played.once) z.ticks z.of z.played.relays
      (entered_in t l (basis_with i now) (λ p. arrivals_at p now) (h then es) z.stands.rightly) in
      one ∙ ap (λ (b : Bridge). arrival_event b a ∷ []) (bridge_now t l i w g (Came a ∷ []) h left its)

  told_command : (c : Command) → IsKnown (Order c) → (run t l (Order c ∷ moves) w).events ≡ told_of t l w (Order c) ∷ []
  told_command c z =
      let es : List Event = (run t l (Order c ∷ moves) w).events in
      let now : List Given = g ++ Told c ∷ [] in
      let n : ℕ = length (commands_of g) + 1 in
      let found : command_of (basis_with i now) n ≡ Some c = ap (λ (cs : List Command). numbered cs n) (commands_append g (Told c ∷ [])) ∙ numbered_last (commands_of g) c in
      let one : es ≡ decided n (refusal_of t l (bridge_after (basis_with i now) h) (command_of (basis_with i now) n)) ∷ [] =
      only_command t l (basis_with i now) (λ p. arrivals_at p now) es h n z.played.commands (none_permuted (filter_map place_of es) z.played.once) z.ticks z.of
      (decided_in t l (basis_with i now) (λ p. arrivals_at p now) (h then es) z.stands.rightly) in
      one
      ∙ (ap (λ (o : Option Command). decided n (refusal_of t l (bridge_after (basis_with i now) h) o) ∷ []) found
      ∙ (ap (λ (b : Bridge). decided n (refusal_of t l b (Some c)) ∷ []) (bridge_now t l i w g (Told c ∷ []) h left its)
      ∙ ap (λ (m : ℕ). decided (m + 1) (refusal_of t l w.control.bridge (Some c)) ∷ []) (sym its.follows.commands)))

  told_one : (step : Step) → IsGiving step → MayDoAll t l w (step ∷ moves) → IsSettled t (run t l (step ∷ moves) w).world → (run t l (step ∷ moves) w).events ≡ told_of t l w step ∷ []
  told_one (Arrive a) gives may after = told_arrival a may (known (Arrive a) gives may after)
  told_one (Order c) gives may after = told_command c (known (Order c) gives may after)
  told_one (Carry n way) gives may after = absurd gives
  told_one (Control n way j keep) gives may after = absurd gives
  told_one (Lose n way j) gives may after = absurd gives
  told_one Beat gives may after = absurd gives
  told_one (Tick seconds) gives may after = absurd gives
  told_one Mark gives may after = absurd gives

module _ (round : TagRoundTrip) (words : SendsAreWords) (leave : SendsLeaveAsFlat) (law : StepsTell) where
  pub events_are_told : EventsAreTold
  events_are_told t l b start w given told gone k settled step moves gives may all after =
      told_one round words leave law t l b start w given told gone k settled moves all step gives may after

  flat_step : (b : Basis) (e : Event) (h : History) (q : ℕ) → flat b (e ∷ h) q ≡ flat b h q ++ sent_by (bridge_after b h) (learned b h) e q
  unfolding flat
  flat_step b e h q = refl

  pub events_go_alone : EventsGoAlone
  events_go_alone t l b start w given told gone k settled step moves gives may all after i aged g h left s =
      let e : Event = told_of t l w step in
      let v : World = (run t l (step ∷ moves) w).world in
      let new : List Left = (run t l (step ∷ moves) w).left in
      let more : List Given = given_by step in
      let j : Basis = basis_with i (g ++ more) in
      let is : (run t l (step ∷ moves) w).events ≡ e ∷ [] = events_are_told t l b start w given told gone k settled step moves gives may all after in
      let on : IsLeftStanding t l i w g h left (step ∷ moves) = runs_leave_standing round words leave law t l b start w given told gone k (step ∷ moves) may i aged g h left s in
      let same : given_in (step ∷ moves) ≡ more = same_given round words leave law t l b start w given told gone k settled moves all step in
      let stands : Stands t l i v (g ++ more) (e ∷ h) (left ++ new) =
      subst (λ (z : List Given). Stands t l i v (g ++ z) (e ∷ h) (left ++ new)) same
      (subst (λ (es : List Event). Stands t l i v (g ++ given_in (step ∷ moves)) (h then es) (left ++ new)) is on.stands) in
      record {
        told = is;
        stands = stands;
        clean = on.clean;
        ageing = on.ageing;
        leaves = λ q ext.
            let before = (stands_owes_nothing t l i start.setting.tree w g h left s settled q ext).1 in
            let now = (stands_owes_nothing t l i start.setting.tree v (g ++ more) (e ∷ h) (left ++ new) stands after q ext).1 in
            let has = its_commands t l w i g h left s in
            let flat_same : flat j h q ≡ flat (basis_with i g) h q = ap (λ (c : Basis). flat c h q) (basis_more i g more) ∙ flat_stays (basis_with i g) (commands_of more) h q has in
            let bridge_same : bridge_after j h ≡ bridge_after (basis_with i g) h = bridge_now t l i w g more h left s ∙ s.force.bridge in
            let look_same : learned j h ≡ learned (basis_with i g) h = ap (λ (c : Basis). learned c h) (basis_more i g more) ∙ learned_stays (basis_with i g) (commands_of more) h has in
            append_cancel_left (left_at q left) (left_at q new) (sent_by (bridge_after (basis_with i g) h) (learned (basis_with i g) h) e q)
            (sym (left_append q left new)
            ∙ (now
            ∙ (flat_step j e h q
            ∙ (ap (λ (xs : List Sent). xs ++ sent_by (bridge_after j h) (learned j h) e q) (flat_same ∙ sym before)
            ∙ (ap (λ (c : Bridge). left_at q left ++ sent_by c (learned j h) e q) bridge_same ∙ ap (λ (look : Look). left_at q left ++ sent_by (bridge_after (basis_with i g) h) look e q) look_same)))));
      }
