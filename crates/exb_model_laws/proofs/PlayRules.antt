-- What the events of an eager segment are to the segment.
use Rattle.std.proofs.Common.{◌≡◌, ℕ, Bool, true, false, cond, ◌==◌, List, [], ◌∷◌, ◌++◌, map, refl, ap, subst, ◌∙◌}
use Rattle.std.specs.Prelude.{Option, Some, None, filter_map, All, Contains, IsPermutation}
use Rattle.std.specs.List.{AllByRecursion, cons_option}
use Rattle.std.proofs.lemmas.List.{append-nil}
use Rattle.std.proofs.lemmas.List.Elements.{filter_map-append, All-from_recursion, recursion_from_All, All-append, All-contains_itself}
use Rattle.std.proofs.lemmas.List.Sorted.{IsPermutation-refl}
use Rattle.exb_model.specs.declared.event.Event.{Event}
use Rattle.exb_model.specs.declared.event.Event.TheVariants as event
use Rattle.exb_model.specs.declared.event.Cause.{Cause}
use Rattle.exb_model.specs.Lists.{Pairwise}
use Rattle.exb_model.specs.Tree.{Shape}
use Rattle.exb_model.specs.Setup.{Limits}
use Rattle.exb_model.specs.History.{Basis, History, command_of, bridge_after}
use Rattle.exb_model.specs.declared.arrival.Arrival.{Arrival}
use Rattle.exb_model.specs.Input.{Segment}
use Rattle.exb_model.specs.EagerHistory.{is_relayed, arrival_event, command_event, decided, refusal_of, with_tick, eager_segment}
use Rattle.exb_model.specs.LegalHistory.{IsOfSegment, number_of, place_of, tick_of, IsRelayOf, PlaysCommands, PlaysArrivals, PlaysTick}
use Rattle.exb_model_laws.proofs.EagerSegments.{tick_play, arrivals_play, commands_play, before_arrivals, play, plays}

-- what comes of an arrival, by whether it is relayed
abbrev pub entered : Bool → Arrival → Event
entered b a = cond b (event.Relay a.port a.index a.moment a.bytes) (event.Ignored a.port a.index)

-- ---- what a function gives of the three parts
parts : {Y : Type 0} (g : Event → Option Y) (xs ys zs : List Event) → filter_map g (xs ++ (ys ++ zs)) ≡ filter_map g xs ++ (filter_map g ys ++ filter_map g zs)
parts g xs ys zs = filter_map-append g xs (ys ++ zs) ∙ ap (λ vs. filter_map g xs ++ vs) (filter_map-append g ys zs)

module _ {Y : Type 0} (g : Event → Option Y) where
  -- nothing of commands, of arrivals
  module _ (t : Shape) (l : Limits) (b : Basis) (none : (n : ℕ) (r : Option Cause) → g (decided n r) ≡ None) where
    none-commands : (h : History) (ns : List ℕ) → filter_map g (commands_play t l b h ns) ≡ []
    none-commands h [] = refl
    none-commands h (n ∷ ns) =
        ap (λ y. cons_option y (filter_map g (commands_play t l b (command_event t l b (bridge_after b h) n ∷ h) ns))) (none n (refusal_of t l (bridge_after b h) (command_of b n)))
        ∙ none-commands (command_event t l b (bridge_after b h) n ∷ h) ns

  module _ (b : Basis) (none : (r : Bool) (a : Arrival) → g (entered r a) ≡ None) where
    none-arrivals : (h : History) (arrived : List Arrival) → filter_map g (arrivals_play b h arrived) ≡ []
    none-arrivals h [] = refl
    none-arrivals h (a ∷ rest) =
        ap (λ y. cons_option y (filter_map g (arrivals_play b (arrival_event (bridge_after b h) a ∷ h) rest))) (none (is_relayed (bridge_after b h) a.port a.bytes) a)
        ∙ none-arrivals (arrival_event (bridge_after b h) a ∷ h) rest

  none-tick : ((seconds : ℕ) → g (event.Tick seconds) ≡ None) → (seconds : ℕ) → filter_map g (tick_play seconds) ≡ []
  none-tick none seconds = by_test (seconds == 0)
    where
      by_test : (b : Bool) → filter_map g (cond b [] (event.Tick seconds ∷ [])) ≡ []
      by_test true = refl
      by_test false = ap (λ y. cons_option y []) (none seconds)

-- ---- the numbers of the commands
numbers : (t : Shape) (l : Limits) (b : Basis) (h : History) (ns : List ℕ) → filter_map number_of (commands_play t l b h ns) ≡ ns
numbers t l b h [] = refl
numbers t l b h (n ∷ ns) =
    here (refusal_of t l (bridge_after b h) (command_of b n)) _ ∙ ap (λ ms. n ∷ ms) (numbers t l b (command_event t l b (bridge_after b h) n ∷ h) ns)
  where
    here : (r : Option Cause) (rest : List ℕ) → cons_option (number_of (decided n r)) rest ≡ n ∷ rest
    here None rest = refl
    here (Some x) rest = refl

no_place : (n : ℕ) (r : Option Cause) → place_of (decided n r) ≡ None
no_place n None = refl
no_place n (Some x) = refl

no_tick : (n : ℕ) (r : Option Cause) → tick_of (decided n r) ≡ None
no_tick n None = refl
no_tick n (Some x) = refl

-- ---- the places of the arrivals
places : (b : Basis) (h : History) (arrived : List Arrival) → filter_map place_of (arrivals_play b h arrived) ≡ map (λ a. (a.port, a.index)) arrived
places b h [] = refl
places b h (a ∷ rest) =
    here (is_relayed (bridge_after b h) a.port a.bytes) _ ∙ ap (λ ps. (a.port, a.index) ∷ ps) (places b (arrival_event (bridge_after b h) a ∷ h) rest)
  where
    here : (r : Bool) (others : List (ℕ × ℕ)) → cons_option (place_of (entered r a)) others ≡ (a.port, a.index) ∷ others
    here true others = refl
    here false others = refl

no_number : (r : Bool) (a : Arrival) → number_of (entered r a) ≡ None
no_number true a = refl
no_number false a = refl

no_tick_of_arrival : (r : Bool) (a : Arrival) → tick_of (entered r a) ≡ None
no_tick_of_arrival true a = refl
no_tick_of_arrival false a = refl

-- ---- what holds of each event
module _ (P : Event → Type 0) (t : Shape) (l : Limits) (b : Basis) where
  each-command : ((n : ℕ) (r : Option Cause) → P (decided n r)) → (h : History) (ns : List ℕ) → AllByRecursion P (commands_play t l b h ns)
  each-command one h [] = tt
  each-command one h (n ∷ ns) =
      (one n (refusal_of t l (bridge_after b h) (command_of b n)), each-command one (command_event t l b (bridge_after b h) n ∷ h) ns)

  each-arrival : (Q : Arrival → Type 0) → ((r : Bool) (a : Arrival) → Q a → P (entered r a)) → (h : History) (arrived : List Arrival) → AllByRecursion Q arrived →
      AllByRecursion P (arrivals_play b h arrived)
  each-arrival Q one h [] all = tt
  each-arrival Q one h (a ∷ rest) all =
      (one (is_relayed (bridge_after b h) a.port a.bytes) a all.0, each-arrival Q one (arrival_event (bridge_after b h) a ∷ h) rest all.1)

  each-tick : ((seconds : ℕ) → P (event.Tick seconds)) → (seconds : ℕ) → AllByRecursion P (tick_play seconds)
  each-tick one seconds = by_test (seconds == 0)
    where
      by_test : (r : Bool) → AllByRecursion P (cond r [] (event.Tick seconds ∷ []))
      by_test true = tt
      by_test false = (one seconds, tt)

  each-play : (Q : Arrival → Type 0) → ((seconds : ℕ) → P (event.Tick seconds)) → ((n : ℕ) (r : Option Cause) → P (decided n r)) →
      ((r : Bool) (a : Arrival) → Q a → P (entered r a)) → (h : History) (s : Segment) → AllByRecursion Q s.arrivals → All P (play t l b h s)
  each-play Q tick command arrival h s all =
      All-append P (tick_play s.seconds) (commands_play t l b (with_tick s.seconds h) s.commands ++ arrivals_play b (before_arrivals t l b h s) s.arrivals)
      (All-from_recursion P _ (each-tick tick s.seconds))
      (All-append P (commands_play t l b (with_tick s.seconds h) s.commands) (arrivals_play b (before_arrivals t l b h s) s.arrivals)
      (All-from_recursion P _ (each-command command (with_tick s.seconds h) s.commands))
      (All-from_recursion P _ (each-arrival Q arrival (before_arrivals t l b h s) s.arrivals all)))

of_segment_command : (n : ℕ) (r : Option Cause) → IsOfSegment (decided n r)
of_segment_command n None = tt
of_segment_command n (Some x) = tt

of_segment_arrival : (r : Bool) (a : Arrival) → Unit {0} → IsOfSegment (entered r a)
of_segment_arrival true a u = tt
of_segment_arrival false a u = tt

each_unit : {X : Type 0} (xs : List X) → AllByRecursion (λ x. Unit {0}) xs
each_unit [] = tt
each_unit (x ∷ xs) = (tt, each_unit xs)

relay_command : (arrivals : List Arrival) (n : ℕ) (r : Option Cause) → IsRelayOf arrivals (decided n r)
relay_command arrivals n None = tt
relay_command arrivals n (Some x) = tt

relay_arrival : (arrivals : List Arrival) (r : Bool) (a : Arrival) → Contains arrivals a → IsRelayOf arrivals (entered r a)
relay_arrival arrivals true a is = is
relay_arrival arrivals false a is = tt

-- ---- the rules on one segment
module _ (t : Shape) (l : Limits) (b : Basis) where
  pub play-of_segment : (h : History) (s : Segment) → All IsOfSegment (play t l b h s)
  play-of_segment h s = each-play IsOfSegment t l b (λ a. Unit {0}) (λ seconds. tt) of_segment_command of_segment_arrival h s (each_unit s.arrivals)

  pub play-commands : (h : History) (s : Segment) → PlaysCommands s (play t l b h s)
  play-commands h s =
      parts number_of (tick_play s.seconds) (commands_play t l b (with_tick s.seconds h) s.commands) (arrivals_play b (before_arrivals t l b h s) s.arrivals)
      ∙ ap (λ xs. xs ++ (filter_map number_of (commands_play t l b (with_tick s.seconds h) s.commands) ++ filter_map number_of (arrivals_play b (before_arrivals t l b h s) s.arrivals))) (none-tick number_of (λ seconds. refl) s.seconds)
      ∙ ap (λ zs. filter_map number_of (commands_play t l b (with_tick s.seconds h) s.commands) ++ zs) (none-arrivals number_of b no_number (before_arrivals t l b h s) s.arrivals)
      ∙ append-nil _ ∙ numbers t l b (with_tick s.seconds h) s.commands

  play-places : (h : History) (s : Segment) → filter_map place_of (play t l b h s) ≡ map (λ a. (a.port, a.index)) s.arrivals
  play-places h s =
      parts place_of (tick_play s.seconds) (commands_play t l b (with_tick s.seconds h) s.commands) (arrivals_play b (before_arrivals t l b h s) s.arrivals)
      ∙ ap (λ xs. xs ++ (filter_map place_of (commands_play t l b (with_tick s.seconds h) s.commands) ++ filter_map place_of (arrivals_play b (before_arrivals t l b h s) s.arrivals))) (none-tick place_of (λ seconds. refl) s.seconds)
      ∙ ap (λ xs. xs ++ filter_map place_of (arrivals_play b (before_arrivals t l b h s) s.arrivals)) (none-commands place_of t l b no_place (with_tick s.seconds h) s.commands)
      ∙ places b (before_arrivals t l b h s) s.arrivals

  pub play-arrivals : (h : History) (s : Segment) → PlaysArrivals s (play t l b h s)
  play-arrivals h s = record {
    once = let P : List (ℕ × ℕ) → Type 0 = λ ps. IsPermutation (filter_map place_of (play t l b h s)) ps in subst P (play-places h s) (IsPermutation-refl _);
    relays = each-play (IsRelayOf s.arrivals) t l b (Contains s.arrivals) (λ seconds. tt) (relay_command s.arrivals) (relay_arrival s.arrivals) h s
        (recursion_from_All (Contains s.arrivals) s.arrivals (All-contains_itself s.arrivals));
  }

  pub play-tick : (h : History) (s : Segment) → PlaysTick s (play t l b h s)
  play-tick h s =
      parts tick_of (tick_play s.seconds) (commands_play t l b (with_tick s.seconds h) s.commands) (arrivals_play b (before_arrivals t l b h s) s.arrivals)
      ∙ ap (λ ys. filter_map tick_of (tick_play s.seconds) ++ (ys ++ filter_map tick_of (arrivals_play b (before_arrivals t l b h s) s.arrivals))) (none-commands tick_of t l b no_tick (with_tick s.seconds h) s.commands)
      ∙ ap (λ zs. filter_map tick_of (tick_play s.seconds) ++ zs) (none-arrivals tick_of b no_tick_of_arrival (before_arrivals t l b h s) s.arrivals)
      ∙ append-nil _ ∙ ticks (s.seconds == 0)
    where
      ticks : (r : Bool) → filter_map tick_of (cond r [] (event.Tick s.seconds ∷ [])) ≡ cond r [] (s.seconds ∷ [])
      ticks true = refl
      ticks false = refl

  -- ---- of each segment
  pub plays-pairwise : (R : Segment → List Event → Type 0) → ((h : History) (s : Segment) → R s (play t l b h s)) → (h : History) (ss : List Segment) →
      Pairwise R ss (plays t l b h ss)
  plays-pairwise R one h [] = tt
  plays-pairwise R one h (s ∷ ss) = (one h s, plays-pairwise R one (eager_segment t l b h s) ss)

  each-of_segments : (h : History) (ss : List Segment) → AllByRecursion (All IsOfSegment) (plays t l b h ss)
  each-of_segments h [] = tt
  each-of_segments h (s ∷ ss) = (play-of_segment h s, each-of_segments (eager_segment t l b h s) ss)

  pub plays-of_segments : (h : History) (ss : List Segment) → All (All IsOfSegment) (plays t l b h ss)
  plays-of_segments h ss = All-from_recursion (All IsOfSegment) (plays t l b h ss) (each-of_segments h ss)

pub each-unit : (ss : List Segment) → AllByRecursion (λ s. AllByRecursion (λ a. Unit {0}) s.arrivals) ss
each-unit [] = tt
each-unit (s ∷ ss) = (each_unit s.arrivals, each-unit ss)

pub each-ordered : (ss : List Segment) → AllByRecursion (λ s. AllByRecursion (λ n. Unit {0}) s.commands) ss
each-ordered [] = tt
each-ordered (s ∷ ss) = (each_unit s.commands, each-ordered ss)
