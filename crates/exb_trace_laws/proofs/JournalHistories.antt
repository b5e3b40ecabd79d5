-- A journal's text and an input give one history.
use Rattle.std.proofs.Common.{◌≡◌, ℕ, List, [], ◌∷◌, ◌++◌, Option, Some, None, ap, sym, ◌∙◌, subst}
use Rattle.std.specs.Prelude.{All}
use Rattle.std.proofs.lemmas.List.Elements.{All-contains, All-cons, All-nil, All-head, All-tail}
use Rattle.exb_model.specs.declared.command.Command.TheVariants as command
use Rattle.exb_model.specs.declared.event.Cause.{Cause}
use Rattle.exb_model.specs.declared.event.Event.{Event}
use Rattle.exb_model.specs.declared.event.Event.TheVariants as event
use Rattle.exb_model.specs.EagerHistory.{risen, up_event, with_ups, opening}
use Rattle.exb_model.specs.History.{Basis, History, ◌then◌, bridge_after}
use Rattle.exb_model.specs.declared.arrival.Arrival.{Arrival}
use Rattle.exb_model.specs.Input.{Input, Segment, Mode, basis_of, tree_of, bounds_of, arrivals_at, segments}
use Rattle.exb_model.specs.LegalHistory.{Legal, PlaysArrivals, IsRelayOf, settled_each}
use Rattle.exb_model.specs.Lists.{Pairwise}
use Rattle.exb_model.specs.Refusals.{refusal}
use Rattle.exb_model.specs.Setup.{Limits}
use Rattle.exb_model.specs.Tree.{Shape, opening_ports}
use Rattle.exb_model.proofs.LegalPlays.{all_arrivals}
use Rattle.exb_trace_spec.specs.Traversals.{Each}
use Rattle.exb_flight.specs.Items as items
use Rattle.exb_world_laws.proofs.InputOrder.{IsNumberedIn, segments_numbered}
use Rattle.exb_trace_spec.specs.JournalLines.{history_in, IsFound, IsRecorded}
use Rattle.exb_trace_spec.specs.RoundTrips.{IsOfNumbers}
use Rattle.exb_trace_laws.specs.JournalHistories.{InputsReadBack, InputsHaveOneHistory}
use Rattle.exb_trace_spec.proofs.JournalLines.{journals_read_back}

each_append : {A : Type 0} (P : A → Type 0) (xs ys : List A) → Each P xs → Each P ys → Each P (xs ++ ys)
each_append P [] ys a b = b
each_append P (x ∷ xs) ys a b = (a.0, each_append P xs ys a.1 b)

-- ---- Relays are of arrivals of the input
each_then : (P : Event → Type 0) (h : History) (es : List Event) → Each P h → Each P es → Each P (h then es)
each_then P h [] k j = k
each_then P h (e ∷ es) k j = each_then P (e ∷ h) es (j.0, k) j.1

module _ (i : Input) where
  found_up : (p : ℕ) (o : Option Cause) → IsFound (arrivals_at i) (risen p o)
  found_up p None = tt
  found_up p (Some x) = tt

  found_ups : (t : Shape) (l : Limits) (b : Basis) (h : History) (ps : List ℕ) → Each (IsFound (arrivals_at i)) h → Each (IsFound (arrivals_at i)) (with_ups t l b h ps)
  found_ups t l b h [] k = k
  found_ups t l b h (p ∷ ps) k = found_ups t l b (up_event t l (bridge_after b h) p ∷ h) ps (found_up p (refusal t l (bridge_after b h) (command.Up p)), k)

  all_numbered : (xs : List Arrival) → items.Each (IsNumberedIn i) xs → All (IsNumberedIn i) xs
  all_numbered [] k = All-nil (IsNumberedIn i)
  all_numbered (x ∷ xs) k = All-cons (IsNumberedIn i) x xs k.0 (all_numbered xs k.1)

  found_one : (came : List Arrival) → All (IsNumberedIn i) came → (e : Event) → IsRelayOf came e → IsFound (arrivals_at i) e
  found_one came all (event.Relay p n moment f) k = All-contains (IsNumberedIn i) came (record { port = p; index = n; moment = moment; bytes = f }) all k
  found_one came all (event.Ignored p n) k = tt
  found_one came all (event.Tick seconds) k = tt
  found_one came all (event.Commit n) k = tt
  found_one came all (event.Refuse n x) k = tt
  found_one came all (event.Up p) k = tt
  found_one came all (event.NoUp p x) k = tt
  found_one came all event.Settled k = tt

  found_in : (came : List Arrival) → All (IsNumberedIn i) came → (es : List Event) → All (IsRelayOf came) es → Each (IsFound (arrivals_at i)) es
  found_in came all [] k = tt
  found_in came all (e ∷ es) k = (found_one came all e (All-head (IsRelayOf came) e es k), found_in came all es (All-tail (IsRelayOf came) e es k))

  found_plays : (ss : List Segment) (plays : List (List Event)) → Pairwise PlaysArrivals ss plays → items.Each (λ (s : Segment). items.Each (IsNumberedIn i) s.arrivals) ss → Each (IsFound (arrivals_at i)) (settled_each plays)
  found_plays [] [] k all = tt
  found_plays [] (es ∷ plays) k all = absurd k
  found_plays (s ∷ ss) [] k all = absurd k
  found_plays (s ∷ ss) (es ∷ plays) k all =
      each_append (IsFound (arrivals_at i)) (es ++ event.Settled ∷ []) (settled_each plays)
      (each_append (IsFound (arrivals_at i)) es (event.Settled ∷ []) (found_in s.arrivals (all_numbered s.arrivals all.0) es k.0.relays) (tt, tt)) (found_plays ss plays k.1 all.1)

  pub found : (m : Mode) (h : History) → Legal m i h → Each (IsFound (arrivals_at i)) h
  found m h legal =
      subst (Each (IsFound (arrivals_at i))) (sym legal.segments_in_order)
      (each_then (IsFound (arrivals_at i)) (opening (tree_of i) (bounds_of i) (basis_of i)) (settled_each legal.plays)
      (tt, found_ups (tree_of i) (bounds_of i) (basis_of i) [] (opening_ports (tree_of i)) tt) (found_plays (segments m i) legal.plays (all_arrivals (segments m i) legal.plays legal.each_played) (segments_numbered m i)))

  recorded : (h : History) → Each IsOfNumbers h → Each (IsFound (arrivals_at i)) h → Each (IsRecorded (arrivals_at i)) h
  recorded [] k j = tt
  recorded (e ∷ h) k j = (record { writable = k.0; found = j.0 }, recorded h k.1 j.1)

-- ---- the laws
pub inputs_read_back : InputsReadBack
inputs_read_back m i h legal numbers = journals_read_back (arrivals_at i) h (recorded i h numbers (found i m h legal))

pub inputs_have_one_history : InputsHaveOneHistory
inputs_have_one_history m i g h legal_g legal_h numbers_g numbers_h same =
    some_same (sym (inputs_read_back m i g legal_g numbers_g) ∙ (ap (history_in (arrivals_at i)) same ∙ inputs_read_back m i h legal_h numbers_h))
  where
    some_same : {x y : History} → Some x ≡ Some y → x ≡ y
    some_same z = cc
