-- A net of one bridge has the history of the eager run.
use Rattle.std.proofs.Common.{◌≡◌, ℕ, ◌-◌, ◌++◌, nat_lt, List, [], ◌∷◌, map, refl, ap, sym, ◌∙◌, subst, inl, inr}
use Rattle.std.specs.Prelude.{flat_map, fold}
use Rattle.std.proofs.lemmas.Bool.{cases_Bool}
use Rattle.std.proofs.lemmas.List.{append-nil}
use Rattle.exb_model.specs.declared.event.Event.{Event}
use Rattle.exb_model.specs.declared.event.Event.TheVariants as event
use Rattle.exb_model.specs.EagerHistory.{with_tick, eager_segment, eager}
use Rattle.exb_model.specs.History.{History}
use Rattle.exb_model.specs.declared.arrival.Arrival.{Arrival}
use Rattle.exb_model.specs.Input.{Input, Coming, Ordered, Captured, all_arrivals, all_comings, alone, basis_of, bounds_of, by_moment, commands_from, least_or, merge, moment_of, put_in_order, second_of, segment_of, segments, segments_in, segments_since, start_second, tree_of}
use Rattle.exb_model.specs.Ports.{below}
use Rattle.exb_model.specs.Tree.{external_ports}
use Rattle.exb_net_spec.specs.Nets.{Net, far_end}
use Rattle.exb_net_spec.specs.NetHistory.{Crossing, Due, Histories, State, IsDrained, all_due, comes, delivered_times, due_at, dues, dues_by_moment, event_of, grown_by, openings, put_due, start_of_all, ticked, with_history, Goes, GoesSince}
use Rattle.exb_net_spec.specs.NetLaws.{alone_in, OneIsEager}
use Rattle.exb_net_spec.proofs.EmptyQueues.{one_end}

-- ---- what comes
due_both : (xs ys : List Coming) → due_at 0 (xs ++ ys) ≡ due_at 0 xs ++ due_at 0 ys
due_both [] ys = refl
due_both (x ∷ xs) ys = ap (λ (ds : List Due). record { bridge = 0; coming = x } ∷ ds) (due_both xs ys)

put_same : (x : Coming) (ys : List Coming) → put_due (record { bridge = 0; coming = x }) (due_at 0 ys) ≡ due_at 0 (put_in_order x ys)
put_same x [] = refl
put_same x (y ∷ ys) =
    elim (cases_Bool (nat_lt (moment_of y) (moment_of x))) [
      | inl e ↦ rw e (ap (λ (ds : List Due). record { bridge = 0; coming = y } ∷ ds) (put_same x ys))
      | inr e ↦ rw e refl
    ]

sorted_same : (xs : List Coming) → dues_by_moment (due_at 0 xs) ≡ due_at 0 (by_moment xs)
sorted_same [] = refl
sorted_same (x ∷ xs) = ap (put_due (record { bridge = 0; coming = x })) (sorted_same xs) ∙ put_same x (by_moment xs)

module _ (i : Input) where
  abbrev n : Net
  n = alone_in i

  start_same : start_of_all (alone_in i) ≡ start_second i
  unfolding start_of_all start_second below
  start_same = ap (λ (xs : List Arrival). least_or 0 (map (λ (a : Arrival). second_of a.moment) xs)) (append-nil (all_arrivals i))

  due_same : all_due (alone_in i) ≡ due_at 0 (all_comings i)
  unfolding below
  due_same =
      let cs : List Coming = commands_from (start_of_all n) 1 i.commands in
      let as_ : List Coming = map Captured (all_arrivals i) in
      ap (λ (xs : List Due). xs ++ (due_at 0 as_ ++ [])) (append-nil (due_at 0 cs))
      ∙ (ap (λ (xs : List Due). due_at 0 cs ++ xs) (append-nil (due_at 0 as_))
      ∙ (sym (due_both cs as_) ∙ ap (λ (start : ℕ). due_at 0 (commands_from start 1 i.commands ++ as_)) start_same))

  dues_same : dues (alone_in i) ≡ due_at 0 (merge i)
  unfolding dues merge
  dues_same = ap dues_by_moment due_same ∙ sorted_same (all_comings i)

  -- ---- nothing crosses
  none_flat : (qs : List ℕ) → flat_map {A = Crossing} (λ (q : ℕ). []) qs ≡ []
  none_flat [] = refl
  none_flat (q ∷ qs) = none_flat qs

  none_grown : (h : History) (e : Event) → grown_by (alone_in i) 0 h e ≡ []
  unfolding grown_by far_end
  none_grown h e = none_flat (external_ports (tree_of i))

  -- ---- events
  one_event : (x : Coming) (seconds : ℕ) (h : History) → event.Settled ∷ event_of (alone_in i) 0 (with_tick seconds h) x ∷ with_tick seconds h ≡ eager_segment (tree_of i) (bounds_of i) (basis_of i) h (segment_of seconds (x ∷ []))
  one_event (Ordered moment k) seconds h = refl
  one_event (Captured a) seconds h = refl

  one_come : (x : Coming) (seconds : ℕ) (hs next : Histories) → IsDrained n (comes n (record { bridge = 0; coming = x }) (ticked seconds hs)) next → next 0 ≡ eager_segment (tree_of i) (bounds_of i) (basis_of i) (hs 0) (segment_of seconds (x ∷ []))
  unfolding delivered_times
  one_come x seconds hs next k =
      let h : History = with_tick seconds (hs 0) in
      let ev : Event = event_of n 0 h x in
      let now : Histories = with_history 0 (event.Settled ∷ ev ∷ h) (ticked seconds hs) in
      let s : State = comes n (record { bridge = 0; coming = x }) (ticked seconds hs) in
      let empty : IsDrained n s now = record { times = 0; is = ap (λ (q : List Crossing). record { histories = now; queue = q }) (none_grown h ev) } in
      ap (λ (z : Histories). z 0) (one_end n s next now k empty) ∙ one_event x seconds (hs 0)

  all_come : (xs : List Coming) (second : ℕ) (hs end : Histories) → GoesSince n second (due_at 0 xs) hs end → end 0 ≡ fold (eager_segment (tree_of i) (bounds_of i) (basis_of i)) (hs 0) (segments_since second (map alone xs))
  all_come [] second hs end k = ap (λ (z : Histories). z 0) (sym k)
  all_come (x ∷ xs) second hs end k =
      all_come xs (second_of (moment_of x)) k.0 end k.2
      ∙ ap (λ (h : History). fold (eager_segment (tree_of i) (bounds_of i) (basis_of i)) h (segments_since (second_of (moment_of x)) (map alone xs))) (one_come x (second_of (moment_of x) - second) hs k.0 k.1)

  all_go : (xs : List Coming) (hs end : Histories) → Goes n (due_at 0 xs) hs end → end 0 ≡ fold (eager_segment (tree_of i) (bounds_of i) (basis_of i)) (hs 0) (segments_in (map alone xs))
  all_go [] hs end k = ap (λ (z : Histories). z 0) (sym k)
  all_go (x ∷ xs) hs end k = all_come (x ∷ xs) (second_of (moment_of x)) hs end k

pub one_is_eager : OneIsEager
unfolding eager segments
one_is_eager i hs k = all_go i (merge i) (openings (alone_in i)) hs (subst (λ (ds : List Due). Goes (alone_in i) ds (openings (alone_in i)) hs) (dues_same i) k.goes)
