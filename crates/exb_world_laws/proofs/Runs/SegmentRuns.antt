-- Runs that play the segments of an input.
use Rattle.std.proofs.Common.{◌≡◌, ℕ, ◌++◌, true, List, [], ◌∷◌, length, reverse, refl, ap, sym, ◌∙◌, subst}
use Rattle.std.specs.Prelude.{filter_map, flat_map}
use Rattle.std.specs.List.{range_with_len}
use Rattle.exb_model.specs.declared.command.Command.{Command}
use Rattle.exb_model.specs.EagerHistory.{opening, eager, eagerly}
use Rattle.exb_model.specs.FlatBridge.{flat}
use Rattle.exb_model.specs.History.{Basis, History, ◌then◌, command_of}
use Rattle.exb_model.specs.Input.{Input, Segment, Mode, Eager, tree_of, bounds_of, segments}
use Rattle.exb_model.specs.Input.{basis_of as basis_in}
use Rattle.exb_model.specs.LegalHistory.{Legal, number_of, settled_each}
use Rattle.exb_model.proofs.LegalPlays.{all_commands}
use Rattle.exb_model.specs.Setup.{Limits}
use Rattle.exb_model.specs.Tree.{Shape, is_external}
use Rattle.exb_frame.specs.TagValues.{TagRoundTrip}
use Rattle.exb_relay.specs.Laws.{SendsAreWords, SendsLeaveAsFlat}
use Rattle.exb_control_spec.specs.Runs.Journal.{StepsTell}
use Rattle.exb_world_spec.specs.AllowedSteps.{IsSettled}
use Rattle.exb_world_spec.specs.Settling.{run}
use Rattle.exb_world_spec.specs.Steps.{Stepped}
use Rattle.exb_world_spec.specs.Worlds.{Step, Mark, left_at}
use Rattle.exb_world_spec.specs.Runs.PassedFrames.{passed_over}
use Rattle.exb_world_spec.specs.Runs.FrameBytes.{StepsStayWritten}
use Rattle.exb_world_spec.proofs.Rounds.{run_then}
use Rattle.exb_world_laws.specs.WorldInput.{Given, commands_of, basis_with}
use Rattle.exb_world_laws.specs.FrameBytes.{MayGoAll}
use Rattle.exb_world_laws.specs.WorldInvariant.{MayStart, MayDoAll, given_in, Kept, basis_of}
use Rattle.exb_world_laws.specs.SettledHistories.{IsOrderly, SettledIsOrderly}
use Rattle.exb_world_laws.specs.SegmentRuns.{IsTimely, marked_each, nothing_given}
use Rattle.exb_world_laws.proofs.FrameBytes.{runs_go_on}
use Rattle.exb_world_laws.proofs.LongerHistories.{longer, flat_stays}
use Rattle.exb_world_laws.proofs.InvariantSteps.{kept_commands}
use Rattle.exb_world_laws.proofs.HistoryPrefixes.{eager_front, is_eager, numbered, runs_play_eagerly}
use Rattle.exb_world_laws.proofs.PassedFrames.{passed_stays, runs_tell_passed}
use Rattle.exb_world_laws.proofs.SegmentHistories.{runs_play_legally}
use Rattle.exb_world_laws.proofs.Setups.{setups_may_start}
use Rattle.exb_world_laws.proofs.OneBridge.{begins_kept, kept_stands, runs_kept, settled_owes_nothing}
use Rattle.exb_world_laws.specs.Runs.SegmentRuns.{begin_of, PlaysIn, RunsSayPassed, RunsWriteLegally, RunsWriteEagerly, RunsWriteFronts}
use Rattle.exb_world_laws.proofs.Runs.SegmentInput.{marked_world, plays_settled, plays_commands, commands_numbered}
use Rattle.exb_world_laws.proofs.Runs.Settling.{runs_stay_low}
use Rattle.exb_world_laws.proofs.Runs.CommandNumbers.{numbers_then, opening_none, numbers_played, first_commands}

module _ (round : TagRoundTrip) (words : SendsAreWords) (leave : SendsLeaveAsFlat) (law : StepsTell) (stay : StepsStayWritten) where
  module _ (m : Mode) (i : Input) (so_far : List Segment) (done : Stepped) (k : PlaysIn m i so_far done) where
    pub start : MayStart (tree_of i) (bounds_of i) (basis_of i.setup)
    start = setups_may_start i.setup k.valid k.vids

    low : MayGoAll (tree_of i) (bounds_of i) (begin_of i) (marked_each (k.first ∷ k.plays))
    low = runs_stay_low round words leave law stay i.setup (marked_each (k.first ∷ k.plays)) k.valid k.vids k.may

    may_all : MayDoAll (tree_of i) (bounds_of i) (begin_of i) (marked_each (k.first ∷ k.plays))
    may_all = (runs_go_on round words leave law stay (tree_of i) (bounds_of i) (basis_of i.setup) start (marked_each (k.first ∷ k.plays)) low).may

    -- what was given, told and has left so far
    pub kept : Kept (tree_of i) (bounds_of i) (basis_of i.setup) done.world (given_in (marked_each (k.first ∷ k.plays))) ([] then done.events) done.left
    kept =
        subst (λ (z : Stepped). Kept (tree_of i) (bounds_of i) (basis_of i.setup) z.world (given_in (marked_each (k.first ∷ k.plays))) ([] then z.events) z.left) (sym k.is)
        (runs_kept round words leave law (tree_of i) (bounds_of i) (basis_of i.setup) start (marked_each (k.first ∷ k.plays)) (begin_of i) [] [] [] (begins_kept (tree_of i) (bounds_of i) (basis_of i.setup) start) may_all)

    pub settled : IsSettled (tree_of i) done.world
    settled =
        let t : Shape = tree_of i in
        let l : Limits = bounds_of i in
        let ys : List Step = k.first ++ Mark ∷ [] in
        let opened : IsSettled t (run t l ys (begin_of i)).world = subst (IsSettled t) (sym (marked_world t l k.first (begin_of i))) k.play.0.settled in
        let rest = plays_settled t l (basis_in i) so_far k.plays (run t l ys (begin_of i)).world k.play.1 opened in
        subst (λ (z : Stepped). IsSettled t z.world) (sym k.is) (subst (IsSettled t) (sym (ap (λ (z : Stepped). z.world) (run_then t l ys (marked_each k.plays) (begin_of i)))) rest)

    pub commands : commands_of (given_in (marked_each (k.first ∷ k.plays))) ≡ flat_map (λ (s : Segment). filter_map (command_of (basis_in i)) s.commands) so_far
    commands = plays_commands (tree_of i) (bounds_of i) (basis_in i) (nothing_given ∷ so_far) (k.first ∷ k.plays) (begin_of i) k.play

  -- so the commands that were given are the first of the input
  first_given : (m : Mode) (i : Input) (so_far : List Segment) (done : Stepped) (k : PlaysIn m i so_far done) → let cs = commands_of (given_in (marked_each (k.first ∷ k.plays))) in
      flat_map (λ (s : Segment). s.commands) so_far ≡ range_with_len 1 (length cs) → (rest : List Command) × ((basis_in i).commands ≡ cs ++ rest)
  first_given m i so_far done k numbers =
      let b : Basis = basis_in i in
      let cs : List Command = commands_of (given_in (marked_each (k.first ∷ k.plays))) in
      first_commands b [] b.commands cs refl (sym (commands m i so_far done k ∙ (commands_numbered b so_far ∙ ap (filter_map (command_of b)) numbers)))

  -- and what has left is what the one bridge sends over what was told
  left_as_flat : (m : Mode) (i : Input) (so_far : List Segment) (done : Stepped) (k : PlaysIn m i so_far done) →
      flat_map (λ (s : Segment). s.commands) so_far ≡ range_with_len 1 (length (commands_of (given_in (marked_each (k.first ∷ k.plays))))) →
      (q : ℕ) → is_external (tree_of i) q ≡ true → left_at q done.left ≡ flat (basis_in i) ([] then done.events) q
  left_as_flat m i so_far done k numbers q ext =
      let t : Shape = tree_of i in
      let b : Basis = basis_in i in
      let g : List Given = given_in (marked_each (k.first ∷ k.plays)) in
      let h : History = [] then done.events in
      let end = kept m i so_far done k in
      let more = first_given m i so_far done k numbers in
      let longer_is : longer (basis_with (basis_of i.setup) g) more.0 ≡ b = ap (λ (cs : List Command). record b { commands = cs }) (sym more.1) in
      let same : flat (basis_with (basis_of i.setup) g) h q ≡ flat b h q =
      sym (flat_stays (basis_with (basis_of i.setup) g) more.0 h q (kept_commands t (bounds_of i) (basis_of i.setup) done.world g h done.left end)) ∙ ap (λ (a : Basis). flat a h q) longer_is in
      (settled_owes_nothing t (bounds_of i) (basis_of i.setup) (start m i so_far done k) done.world g h done.left end (settled m i so_far done k) q ext).1 ∙ same

  -- some segments of the eager mode, so far
  pub runs_write_fronts : RunsWriteFronts
  runs_write_fronts i so_far rest done timely front k =
      let h : History = [] then done.events in
      let told : h ≡ eagerly (tree_of i) (bounds_of i) (basis_in i) (opening (tree_of i) (bounds_of i) (basis_in i)) so_far =
      ap (λ (z : Stepped). [] then z.events) k.is ∙ is_eager round words leave law stay i so_far rest k.first k.plays k.valid k.vids timely front (low Eager i so_far done k) k.play k.eager in
      let more = eager_front i so_far rest timely front h told in
      let numbers = numbered i so_far rest timely front ∙ ap (λ (cs : List Command). range_with_len 1 (length cs)) (sym (commands Eager i so_far done k ∙ commands_numbered (basis_in i) so_far)) in
      record { more = more.0; journal = more.1; captures = left_as_flat Eager i so_far done k numbers }

  -- ---- the whole
  module _ (orderly : SettledIsOrderly) where
    -- a whole run tells a history that the input allows
    told_legally : (m : Mode) (i : Input) (done : Stepped) → IsTimely i → PlaysIn m i (segments m i) done → Legal m i ([] then done.events)
    told_legally m i done timely k =
        subst (λ (z : Stepped). Legal m i ([] then z.events)) (sym k.is) (runs_play_legally round words leave law stay m i (k.first ∷ k.plays) k.valid k.vids timely (low m i (segments m i) done k) k.play)

    -- the numbers of the segments' commands are those from 1 on
    numbers_told : (m : Mode) (i : Input) (done : Stepped) → IsTimely i → (k : PlaysIn m i (segments m i) done) →
        flat_map (λ (s : Segment). s.commands) (segments m i) ≡ range_with_len 1 (length (commands_of (given_in (marked_each (k.first ∷ k.plays)))))
    numbers_told m i done timely k =
        let t : Shape = tree_of i in
        let l : Limits = bounds_of i in
        let b : Basis = basis_in i in
        let ss : List Segment = segments m i in
        let g : List Given = given_in (marked_each (k.first ∷ k.plays)) in
        let h : History = [] then done.events in
        let legal : Legal m i h = told_legally m i done timely k in
        let o : IsOrderly t l (basis_of i.setup) g h = orderly t l (basis_of i.setup) (start m i ss done k) done.world g h done.left (kept m i ss done k) (settled m i ss done k) in
        let parts : filter_map number_of (reverse h) ≡ filter_map number_of (settled_each legal.plays) =
        ap (λ (z : History). filter_map number_of (reverse z)) legal.segments_in_order
        ∙ (numbers_then (opening t l b) (settled_each legal.plays) ∙ ap (λ (ns : List ℕ). ns ++ filter_map number_of (settled_each legal.plays)) (opening_none t l b)) in
        sym (numbers_played ss legal.plays (all_commands ss legal.plays legal.each_played)) ∙ (sym parts ∙ o.commands)

    pub runs_write_legally : RunsWriteLegally
    runs_write_legally m i done timely k = record { journal = told_legally m i done timely k; captures = left_as_flat m i (segments m i) done k (numbers_told m i done timely k) }

    -- of each Relay it was said whether its frame passed
    pub runs_say_passed : RunsSayPassed
    runs_say_passed m i done timely k =
        let t : Shape = tree_of i in
        let l : Limits = bounds_of i in
        let b : Basis = basis_in i in
        let a : Basis = basis_of i.setup in
        let steps : List Step = marked_each (k.first ∷ k.plays) in
        let g : List Given = given_in steps in
        let begun = start m i (segments m i) done k in
        let first = begins_kept t l a begun in
        let more = first_given m i (segments m i) done k (numbers_told m i done timely k) in
        let longer_is : longer (basis_with a g) more.0 ≡ b = ap (λ (cs : List Command). record b { commands = cs }) (sym more.1) in
        let said : done.passed ≡ passed_over (basis_with a g) [] done.events =
        subst (λ (z : Stepped). z.passed ≡ passed_over (basis_with a g) [] z.events) (sym k.is)
        (runs_tell_passed round words leave law t l a begun (begin_of i) [] [] [] first steps (may_all m i (segments m i) done k) a refl [] [] [] (kept_stands t l a begun (begin_of i) [] [] [] first)) in
        said
        ∙ (sym (passed_stays (basis_with a g) more.0 done.events [] (kept_commands t l a done.world g ([] then done.events) done.left (kept m i (segments m i) done k)))
        ∙ ap (λ (c : Basis). passed_over c [] done.events) longer_is)

    -- the eager history
    pub runs_write_eagerly : RunsWriteEagerly
    runs_write_eagerly i done timely k =
        let told : ([] then done.events) ≡ eager i = ap (λ (z : Stepped). [] then z.events) k.is ∙ runs_play_eagerly round words leave law stay i k.first k.plays k.valid k.vids timely (low Eager i (segments Eager i) done k) k.play k.eager in
        record { journal = told; captures = λ q ext. (runs_write_legally Eager i done timely k).captures q ext ∙ ap (λ (z : History). flat (basis_in i) z q) told }
