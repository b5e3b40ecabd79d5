-- What steps leave of a world that a run of a valid setup reaches, whatever it stood with before them.
use Rattle.std.proofs.Common.{◌≡◌, ℕ, ◌++◌, true, false, List, [], ◌∷◌, length, Option, Some, None, length-append, refl, ap, sym, subst, arith}
use Rattle.std.specs.Prelude.{IsSomeAnd}
use Rattle.exb_model.specs.declared.event.Event.TheVariants as event
use Rattle.exb_model.specs.declared.event.Event.{Event}
use Rattle.exb_model.specs.EagerHistory.{is_relayed}
use Rattle.exb_model.specs.FlatBridge.{Sent}
use Rattle.exb_model.specs.History.{Basis, History, ◌then◌, bridge_after}
use Rattle.exb_model.specs.declared.arrival.Arrival.{Arrival}
use Rattle.exb_model.specs.Input.{tree_of, bounds_of}
use Rattle.exb_model.specs.Input.{basis_of as basis_in}
use Rattle.exb_model.specs.LegalHistory.{EachEvent, IsEntered}
use Rattle.exb_model.specs.Lists.{numbered}
use Rattle.exb_model.specs.Setup.{Limits, shape_of, limits_of}
use Rattle.exb_model.specs.Tree.{Shape, is_external}
use Rattle.exb_frame.specs.TagValues.{TagRoundTrip}
use Rattle.exb_relay.specs.Laws.{SendsAreWords, SendsLeaveAsFlat}
use Rattle.exb_control_spec.specs.Runs.Journal.{StepsTell}
use Rattle.exb_world_spec.specs.Settling.{run}
use Rattle.exb_world_spec.specs.Worlds.{World, Left, left_at}
use Rattle.exb_world_spec.specs.Runs.Sessions.{Each}
use Rattle.exb_world_spec.specs.Runs.FrameBytes.{StepsStayWritten}
use Rattle.exb_flight.specs.Promises.{owed_at}
use Rattle.exb_flight.proofs.SimulatedRelay.{left_append}
use Rattle.exb_world_laws.specs.WorldInput.{Given, arrivals_at, arrivals_of, basis_with}
use Rattle.exb_world_laws.specs.WorldInvariant.{MayStart, MayDoAll, IsSurely, basis_of, given_in}
use Rattle.exb_world_laws.specs.OneBridgeSteps.{IsLeftStanding}
use Rattle.exb_world_laws.specs.OneBridge.{IsRightly, Stands}
use Rattle.exb_world_laws.proofs.FrameBytes.{going}
use Rattle.exb_world_laws.proofs.OneEvent.{events_go_alone}
use Rattle.exb_world_laws.proofs.OneBridgeSteps.{kept_ageing, runs_leave_standing}
use Rattle.exb_world_laws.proofs.PassedFrames.{runs_tell_passed}
use Rattle.exb_world_laws.proofs.Setups.{setups_may_start}
use Rattle.exb_world_laws.proofs.OneBridge.{kept_is_clean, kept_stands}
use Rattle.exb_world_laws.specs.SegmentRuns.{marked_each, nothing_given}
use Rattle.exb_world_laws.specs.Runs.SegmentRuns.{begin_of}
use Rattle.exb_world_spec.specs.Runs.ReachedWorlds.{beginning, reached_by}
use Rattle.exb_world_laws.specs.Runs.OneBridge.{IsCopyOut, RunsLast, EventsLast, PlaysStand}
use Rattle.exb_world_laws.proofs.Runs.Copies.{IsCopy, IsSentCopy, each_front, flat_copies, left_each}
use Rattle.exb_world_laws.proofs.Runs.EventCounts.{few_flat}
use Rattle.exb_world_laws.proofs.Runs.ExternalPorts.{IsOutside}
use Rattle.exb_world_laws.proofs.Runs.SegmentRuns.{start, kept, commands}
use Rattle.exb_world_laws.proofs.Runs.SegmentInput.{plays_arrivals}
use Rattle.exb_world_laws.proofs.Runs.Settling.{IsRun, begins, run_after, go_after}
use Rattle.exb_world_laws.proofs.Runs.PartialRuns.{run_passes}

-- ---- what has left a world that stands
-- an event that stands where it may is one of which copies are known
surely : (i : Basis) (arrivals : ℕ → List Arrival) (h : History) (e : Event) → IsEntered i arrivals h e → IsSurely i arrivals h e
surely i arrivals h (event.Relay p n m f) k = k
surely i arrivals h (event.Ignored p n) k = by_option (numbered (arrivals p) n) refl k
  where
    by_option : (o : Option Arrival) → numbered (arrivals p) n ≡ o → IsSomeAnd o (λ a. is_relayed (bridge_after i h) p a.bytes ≡ false) →
        (a : Arrival) × (numbered (arrivals p) n ≡ Some a) × (is_relayed (bridge_after i h) p a.bytes ≡ false)
    by_option (Some a) found m = (a, found, m)
    by_option None found m = absurd m
surely i arrivals h (event.Tick seconds) k = tt
surely i arrivals h (event.Commit n) k = tt
surely i arrivals h (event.Refuse n x) k = tt
surely i arrivals h (event.Up p) k = tt
surely i arrivals h (event.NoUp p x) k = tt
surely i arrivals h event.Settled k = tt

all_surely : (t : Shape) (l : Limits) (i : Basis) (arrivals : ℕ → List Arrival) (h : History) → EachEvent (IsRightly t l i arrivals) h → EachEvent (IsSurely i arrivals) h
all_surely t l i arrivals [] r = tt
all_surely t l i arrivals (e ∷ h) r = (all_surely t l i arrivals h r.0, surely i arrivals h e r.1.entered)

-- what has left each external port are copies of what was given
left_copies : (t : Shape) (l : Limits) (i : Basis) (w : World) (g : List Given) (h : History) (left : List Left) → Stands t l i w g h left → (q : ℕ) → is_external t q ≡ true → Each (IsSentCopy (arrivals_of g)) (left_at q left)
left_copies t l i w g h left s q ext =
    each_front (IsSentCopy (arrivals_of g)) (left_at q left) (owed_at t w q)
    (subst (λ (xs : List Sent). Each (IsSentCopy (arrivals_of g)) xs) (sym (s.even q ext))
    (flat_copies t (basis_with i g) g h s.names.events (all_surely t l (basis_with i g) (λ p. arrivals_at p g) h s.rightly) q))

each_back : {A : Type 0} (P : A → Type 0) (xs ys : List A) → Each P (xs ++ ys) → Each P ys
each_back P [] ys k = k
each_back P (x ∷ xs) ys k = each_back P xs ys k.1

copies_out : (t : Shape) (arrivals : List Arrival) (xs : List Left) → Each (λ (x : Left). (is_external t x.port ≡ true) × IsCopy arrivals x.moment x.bytes) xs → Each (IsCopyOut t arrivals) xs
copies_out t arrivals [] all = tt
copies_out t arrivals (x ∷ xs) all = (let c = all.0.1 in (record { port = all.0.0; arrival = c.arrival; of_it = c.of_it; moment = c.moment_is; short = c.short }, copies_out t arrivals xs all.1))

-- ---- any steps
module _ (round : TagRoundTrip) (words : SendsAreWords) (leave : SendsLeaveAsFlat) (law : StepsTell) (stay : StepsStayWritten) where
  pub runs_last : RunsLast
  runs_last s before steps valid vids may more =
      let t : Shape = shape_of s in
      let l : Limits = limits_of s in
      let w : World = reached_by s before in
      let b : Basis = basis_of s in
      let start : MayStart t l b = setups_may_start s valid vids in
      let r : IsRun t l b w = run_after round words leave law stay t l b start before (beginning s) may (begins round words leave law stay s valid start) in
      let does : MayDoAll t l w steps = (going round words leave law stay t l b start steps w r.given r.history r.left r.kept r.written (go_after round words leave law stay t l b start steps w more r)).0 in
      let gone : List Left = (run t l steps w).left in
      let outside : Each (IsOutside t) gone = (run_passes round words leave law stay t l b start steps w more r).outside in
      let aged : b.ageing ≡ w.table.ageing = sym (kept_ageing t l b start w r.given r.history r.left r.kept) in
      let own : IsLeftStanding t l b w r.given r.history r.left steps =
      runs_leave_standing round words leave law t l b start w r.given r.history r.left r.kept steps does b aged r.given r.history r.left (kept_stands t l b start w r.given r.history r.left r.kept) in
      record {
        with = λ i same g h left stood.
            let k : IsLeftStanding t l i w g h left steps = runs_leave_standing round words leave law t l b start w r.given r.history r.left r.kept steps does i same g h left stood in
            let now : List Given = g ++ given_in steps in
            let at : (q : ℕ) → is_external t q ≡ true → Each (IsSentCopy (arrivals_of now)) (left_at q gone) = λ q ext.
            each_back (IsSentCopy (arrivals_of now)) (left_at q left) (left_at q gone)
            (subst (λ (xs : List Sent). Each (IsSentCopy (arrivals_of now)) xs) (left_append q left gone) (left_copies t l i (run t l steps w).world now (h then (run t l steps w).events) (left ++ gone) k.stands q ext)) in
            record {
              stands = k.stands;
              passed = runs_tell_passed round words leave law t l b start w r.given r.history r.left r.kept steps does i same g h left stood;
              copies = copies_out t (arrivals_of now) gone (left_each (IsCopy (arrivals_of now)) (λ (q : ℕ). is_external t q ≡ true) gone at outside);
              few = λ q ext.
                  let even = ap (λ (xs : List Sent). length xs) (k.stands.even q ext) in
                  let parts = length-append (left_at q (left ++ gone)) (owed_at t (run t l steps w).world q) in
                  let most = few_flat (basis_with i now) (h then (run t l steps w).events) q in
                  omega (arith, even, parts, most);
            };
        clean = own.clean;
        ageing = own.ageing;
      }

  pub events_last : EventsLast
  events_last s before step moves gives k i same g h left stood =
      let t : Shape = shape_of s in
      let l : Limits = limits_of s in
      let w : World = reached_by s before in
      let b : Basis = basis_of s in
      let start : MayStart t l b = setups_may_start s k.valid k.vids in
      let r : IsRun t l b w = run_after round words leave law stay t l b start before (beginning s) k.reached (begins round words leave law stay s k.valid start) in
      let go = go_after round words leave law stay t l b start (step ∷ moves) w k.may r in
      let does : MayDoAll t l w (step ∷ moves) = (going round words leave law stay t l b start (step ∷ moves) w r.given r.history r.left r.kept r.written go).0 in
      events_go_alone round words leave law t l b start w r.given r.history r.left r.kept k.settled step moves gives does k.moves_alone k.after i same g h left stood

  pub plays_stand : PlaysStand
  plays_stand m i so_far done k =
      let begun = start round words leave law stay m i so_far done k in
      let end = kept round words leave law stay m i so_far done k in
      let given : List Given = given_in (marked_each (k.first ∷ k.plays)) in
      record {
        given = given_in (marked_each (k.first ∷ k.plays));
        commands = commands round words leave law stay m i so_far done k;
        arrivals = plays_arrivals (tree_of i) (bounds_of i) (basis_in i) (nothing_given ∷ so_far) (k.first ∷ k.plays) (begin_of i) k.play;
        stands = kept_stands (tree_of i) (bounds_of i) (basis_of i.setup) begun done.world given ([] then done.events) done.left end;
        clean = kept_is_clean (tree_of i) (bounds_of i) (basis_of i.setup) begun done.world given ([] then done.events) done.left end;
      }
