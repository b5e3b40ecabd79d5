-- What is known of a run that has played some segments of an input.
use Rattle.std.proofs.Common.{◌≡◌, ℕ, ◌+◌, ◌<◌, ◌==◌, true, List, [], ◌∷◌, length, filter, ap, sym, ◌∙◌, subst, arith}
use Rattle.std.specs.Prelude.{All, IsPermutation}
use Rattle.std.specs.List.{range_with_len}
use Rattle.std.proofs.lemmas.List.Elements.{All-cons, All-nil}
use Rattle.std.proofs.lemmas.List.Sorted.{Contains-permutation}
use Rattle.std.proofs.lemmas.List.Sums.{sum_by-append, sum_by-cons}
use Rattle.exb_model.specs.declared.command.Command.{Command}
use Rattle.exb_model.specs.FlatBridge.{Sent}
use Rattle.exb_model.specs.History.{Basis, History, ◌then◌}
use Rattle.exb_model.specs.declared.arrival.Arrival.{Arrival}
use Rattle.exb_model.specs.Input.{Input, Segment, Mode, tree_of, bounds_of, segments}
use Rattle.exb_model.specs.Input.{basis_of as basis_in, arrivals_at as arrivals_in_file}
use Rattle.exb_model.specs.Setup.{Limits}
use Rattle.exb_model.specs.Tree.{Shape, is_external}
use Rattle.exb_frame.specs.TagValues.{TagRoundTrip}
use Rattle.exb_relay.specs.Laws.{SendsAreWords, SendsLeaveAsFlat}
use Rattle.exb_control_spec.specs.Runs.Journal.{StepsTell}
use Rattle.exb_world_spec.specs.Settling.{run}
use Rattle.exb_world_spec.specs.Steps.{Stepped, stepped}
use Rattle.exb_world_spec.specs.Worlds.{World, Step, Left, left_at}
use Rattle.exb_world_spec.specs.Runs.Sessions.{Each}
use Rattle.exb_world_spec.specs.Runs.FrameBytes.{StepsStayWritten}
use Rattle.exb_world_spec.proofs.LinkFrames.{each_append}
use Rattle.exb_world_spec.proofs.FrameBytes.{written_are_short}
use Rattle.exb_flight.specs.Promises.{owed_at}
use Rattle.exb_world_laws.specs.WorldInput.{Given, arrivals_of, indices_of, basis_with}
use Rattle.exb_world_laws.specs.WorldInvariant.{MayStart, given_in, Kept, basis_of}
use Rattle.exb_world_laws.specs.SegmentRuns.{seconds_by, seconds_in, marked_each, nothing_given}
use Rattle.exb_world_laws.proofs.SegmentArrivals.{all_came}
use Rattle.exb_world_laws.proofs.InvariantSteps.{kept_pvids}
use Rattle.exb_world_laws.proofs.OneBridge.{kept_stands}
use Rattle.exb_world_laws.specs.Runs.SegmentRuns.{begin_of, PlaysIn, arrivals_in, IsCopyOfAny, IsUnderWay, RunsAreUnderWay}
use Rattle.exb_world_spec.specs.Runs.ReachedWorlds.{MayTakeAll}
use Rattle.exb_world_laws.proofs.Runs.Copies.{IsCopy, IsSentCopy, flat_copies, each_front, left_each}
use Rattle.exb_world_laws.proofs.Runs.ExternalPorts.{IsOutside, Passes, step_passes}
use Rattle.exb_world_laws.proofs.Runs.SegmentRuns.{start, kept, commands}
use Rattle.exb_world_laws.proofs.Runs.SegmentInput.{plays_arrivals, plays_seconds, port_arrivals, filtered_same}
use Rattle.exb_world_laws.proofs.Runs.Settling.{IsRun, step_run, begins}

module _ (round : TagRoundTrip) (words : SendsAreWords) (leave : SendsLeaveAsFlat) (law : StepsTell) (stay : StepsStayWritten) where
  -- ---- the clock, and where frames leave
  module _ (t : Shape) (l : Limits) (i : Basis) (start : MayStart t l i) where
    pub run_passes : (steps : List Step) (w : World) → MayTakeAll t l w steps → IsRun t l i w → Passes t w (run t l steps w).world (seconds_in steps) (run t l steps w).left
    unfolding run
    run_passes [] w may k = record { clock = omega arith; outside = tt }
    run_passes (step ∷ steps) w may k =
        let s : Stepped = stepped t l step w in
        let one = step_passes t l start.setting.tree words w k.going (written_are_short w k.written).0 (kept_pvids t l i w k.given k.history k.left k.kept start.pvids) step may.0.can may.0.has in
        let rest = run_passes steps s.world may.1 (step_run round words leave law stay t l i start step w may.0 k) in
        let sums = sum_by-append (λ (n : ℕ). n) (seconds_by step) (seconds_in steps) in
        let first = one.clock in
        let later = rest.clock in
        record { clock = omega (arith, sums, first, later); outside = each_append (IsOutside t) s.left (run t l steps s.world).left one.outside rest.outside }

  module _ (m : Mode) (i : Input) (so_far : List Segment) (done : Stepped) (k : PlaysIn m i so_far done) where
    perm : IsPermutation (arrivals_of (given_in (marked_each (k.first ∷ k.plays)))) (arrivals_in so_far)
    perm = plays_arrivals (tree_of i) (bounds_of i) (basis_in i) (nothing_given ∷ so_far) (k.first ∷ k.plays) (begin_of i) k.play

    pub passed : Passes (tree_of i) (begin_of i) done.world (seconds_in (marked_each (k.first ∷ k.plays))) done.left
    passed =
        let begun = start round words leave law stay m i so_far done k in
        subst (λ (z : Stepped). Passes (tree_of i) (begin_of i) z.world (seconds_in (marked_each (k.first ∷ k.plays))) z.left) (sym k.is)
        (run_passes (tree_of i) (bounds_of i) (basis_of i.setup) begun (marked_each (k.first ∷ k.plays)) (begin_of i) k.may (begins round words leave law stay i.setup k.valid begun))

    copies : All (IsCopyOfAny i (arrivals_in so_far)) done.left
    copies = all_copies done.left (left_each (IsCopy (arrivals_of g)) (λ (q : ℕ). is_external t q ≡ true) done.left each_port passed.outside)
      where
        t : Shape
        t = tree_of i

        g : List Given
        g = given_in (marked_each (k.first ∷ k.plays))

        h : History
        h = [] then done.events

        end : Kept (tree_of i) (bounds_of i) (basis_of i.setup) done.world (given_in (marked_each (k.first ∷ k.plays))) ([] then done.events) done.left
        end = kept round words leave law stay m i so_far done k

        each_port : (q : ℕ) → is_external (tree_of i) q ≡ true → Each (IsSentCopy (arrivals_of (given_in (marked_each (k.first ∷ k.plays))))) (left_at q done.left)
        each_port q ext =
            let even = (kept_stands t (bounds_of i) (basis_of i.setup) (start round words leave law stay m i so_far done k) done.world g h done.left end).even q ext in
            each_front (IsSentCopy (arrivals_of g)) (left_at q done.left) (owed_at t done.world q)
            (subst (λ (xs : List Sent). Each (IsSentCopy (arrivals_of g)) xs) (sym even) (flat_copies t (basis_with (basis_of i.setup) g) g h end.names.events end.entered q))

        all_copies : (xs : List Left) → Each (λ (x : Left). (is_external (tree_of i) x.port ≡ true) × IsCopy (arrivals_of (given_in (marked_each (k.first ∷ k.plays)))) x.moment x.bytes) xs → All (IsCopyOfAny i (arrivals_in so_far)) xs
        all_copies [] all = All-nil (IsCopyOfAny i (arrivals_in so_far))
        all_copies (x ∷ xs) all =
            let c = all.0.1 in
            All-cons (IsCopyOfAny i (arrivals_in so_far)) x xs
            (record { port = all.0.0; arrival = c.arrival; of_it = Contains-permutation (arrivals_of g) (arrivals_in so_far) c.arrival perm c.of_it; moment = c.moment_is; short = c.short })
            (all_copies xs all.1)

    under_way : IsUnderWay i so_far done
    under_way =
        let g : List Given = given_in (marked_each (k.first ∷ k.plays)) in
        let end = kept round words leave law stay m i so_far done k in
        let seconds = plays_seconds (tree_of i) (bounds_of i) (basis_in i) (nothing_given ∷ so_far) (k.first ∷ k.plays) (begin_of i) k.play in
        let sums = sum_by-cons (λ (s : Segment). s.seconds) nothing_given so_far in
        let now = passed.clock in
        record {
          next = λ p. end.follows.next p ∙ ap (λ (n : ℕ). n + 1) (ap (λ (xs : List Arrival). length xs) (port_arrivals p g) ∙ filtered_same (λ (a : Arrival). a.port == p) (arrivals_of g) (arrivals_in so_far) perm);
          commands = end.follows.commands ∙ ap (λ (cs : List Command). length cs) (commands round words leave law stay m i so_far done k);
          clock = omega (arith, seconds, sums, now);
          copies = copies;
        }

  pub runs_are_under_way : RunsAreUnderWay
  runs_are_under_way = under_way

  -- Where all segments were played, the arrivals that were given at a port are those of the input.
  pub all_given : (m : Mode) (i : Input) (done : Stepped) (k : PlaysIn m i (segments m i) done) (p : ℕ) → p < 4160 → filter (λ (a : Arrival). a.port == p) (arrivals_of (given_in (marked_each (k.first ∷ k.plays)))) ≡ arrivals_in_file i p
  all_given m i done k p low =
      let g : List Given = given_in (marked_each (k.first ∷ k.plays)) in
      let rises = (kept round words leave law stay m i (segments m i) done k).follows.indexed p in
      all_came m i p (arrivals_of g) low (perm m i (segments m i) done k) (subst (λ (xs : List Arrival). indices_of xs ≡ range_with_len 1 (length xs)) (port_arrivals p g) rises)
