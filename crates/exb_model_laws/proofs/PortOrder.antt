-- The order in which the arrivals of a port stand in an eager history.
use Rattle.std.proofs.Common.{◌≡◌, ℕ, ◌≤◌, Bool, true, false, cond, ◌==◌, List, [], ◌∷◌, ◌++◌, map, filter, reverse, refl, sym, ap, ◌∙◌, append_assoc, arith}
use Rattle.std.specs.Prelude.{Option, Some, None, nat_lt, ◌||◌, flat_map, max, MatchBool}
use Rattle.std.proofs.lemmas.List.{append-nil, map-append}
use Rattle.std.proofs.lemmas.List.Elements.{filter-append}
use Rattle.std.proofs.lemmas.Grind.{reverse_onto}
use Rattle.exb_model.specs.declared.event.Event.{Event}
use Rattle.exb_model.specs.declared.event.Event.TheVariants as event
use Rattle.exb_model.specs.declared.event.Cause.{Cause}
use Rattle.exb_model.specs.declared.command.Command.TheVariants as command
use Rattle.exb_model.specs.Tree.{Shape, opening_ports, is_extended}
use Rattle.exb_model.specs.Setup.{Limits}
use Rattle.exb_model.specs.History.{Basis, History, ◌then◌, command_of, bridge_after}
use Rattle.exb_model.specs.Refusals.{refusal}
use Rattle.exb_model.specs.declared.arrival.Arrival.{Arrival}
use Rattle.exb_model.specs.Input.{Segment}
use Rattle.exb_model.specs.EagerHistory.{is_relayed, arrival_event, command_event, up_event, decided, risen, refusal_of, with_ups, opening, with_tick, eager_segment}
use Rattle.exb_model.specs.LegalHistory.{of_port, Rise, relays_and_late, IsInOrder, settled_each}
use Rattle.exb_model_laws.proofs.EagerSegments.{tick_play, arrivals_play, commands_play, before_arrivals, play, plays}
use Rattle.exb_model_laws.proofs.PlayRules.{entered}

pub reverse-then : (h : History) (es : List Event) → reverse (h then es) ≡ reverse h ++ es
reverse-then h [] = sym (append-nil (reverse h))
reverse-then h (e ∷ es) = reverse-then (e ∷ h) es ∙ ap (λ xs. xs ++ es) (reverse_onto h e []) ∙ append_assoc (reverse h) (e ∷ []) es

-- the arrivals of a port
abbrev pub at_port : ℕ → List Arrival → List Arrival
at_port p arrived = filter (λ a. a.port == p) arrived

module _ (p : ℕ) where
  of_port-append : (xs ys : List Event) → of_port p (xs ++ ys) ≡ of_port p xs ++ of_port p ys
  of_port-append [] ys = refl
  of_port-append (event.Relay q n t f ∷ xs) ys = by_test (of_port-append xs ys) (q == p)
    where
      by_test : of_port p (xs ++ ys) ≡ of_port p xs ++ of_port p ys → (b : Bool) → cond b ((n, true) ∷ of_port p (xs ++ ys)) (of_port p (xs ++ ys)) ≡ cond b ((n, true) ∷ of_port p xs) (of_port p xs) ++ of_port p ys
      by_test rest true = ap (λ zs. (n, true) ∷ zs) rest
      by_test rest false = rest
  of_port-append (event.Ignored q n ∷ xs) ys = by_test (of_port-append xs ys) (q == p)
    where
      by_test : of_port p (xs ++ ys) ≡ of_port p xs ++ of_port p ys → (b : Bool) → cond b ((n, false) ∷ of_port p (xs ++ ys)) (of_port p (xs ++ ys)) ≡ cond b ((n, false) ∷ of_port p xs) (of_port p xs) ++ of_port p ys
      by_test rest true = ap (λ zs. (n, false) ∷ zs) rest
      by_test rest false = rest
  of_port-append (event.Tick s ∷ xs) ys = of_port-append xs ys
  of_port-append (event.Commit n ∷ xs) ys = of_port-append xs ys
  of_port-append (event.Refuse n x ∷ xs) ys = of_port-append xs ys
  of_port-append (event.Up q ∷ xs) ys = of_port-append xs ys
  of_port-append (event.NoUp q x ∷ xs) ys = of_port-append xs ys
  of_port-append (event.Settled ∷ xs) ys = of_port-append xs ys

  -- the indices of its arrivals
  abbrev pub indices : List Event → List ℕ
  indices es = map (λ x. x.0) (of_port p es)

  pub indices-append : (xs ys : List Event) → indices (xs ++ ys) ≡ indices xs ++ indices ys
  indices-append xs ys = ap (map (λ x. x.0)) (of_port-append xs ys) ∙ map-append (λ x. x.0) (of_port p xs) (of_port p ys)

  -- ---- the parts of a segment
  none-commands : (t : Shape) (l : Limits) (b : Basis) (h : History) (ns : List ℕ) → indices (commands_play t l b h ns) ≡ []
  none-commands t l b h [] = refl
  none-commands t l b h (n ∷ ns) =
      here (refusal_of t l (bridge_after b h) (command_of b n)) _ ∙ none-commands t l b (command_event t l b (bridge_after b h) n ∷ h) ns
    where
      here : (r : Option Cause) (es : List Event) → indices (decided n r ∷ es) ≡ indices es
      here None es = refl
      here (Some x) es = refl

  none-tick : (seconds : ℕ) → indices (tick_play seconds) ≡ []
  none-tick seconds = by_test (seconds == 0)
    where
      by_test : (b : Bool) → indices (cond b [] (event.Tick seconds ∷ [])) ≡ []
      by_test true = refl
      by_test false = refl

  of_arrivals : (b : Basis) (h : History) (arrived : List Arrival) → indices (arrivals_play b h arrived) ≡ map (λ a. a.index) (at_port p arrived)
  of_arrivals b h [] = refl
  of_arrivals b h (a ∷ rest) =
      here (is_relayed (bridge_after b h) a.port a.bytes) (arrivals_play b (arrival_event (bridge_after b h) a ∷ h) rest) (at_port p rest)
      (of_arrivals b (arrival_event (bridge_after b h) a ∷ h) rest)
    where
      by_port : (r : Bool) (es : List Event) (others : List Arrival) → indices es ≡ map (λ a. a.index) others → (same : Bool) →
          map (λ x. x.0) (cond same ((a.index, r) ∷ of_port p es) (of_port p es)) ≡ map (λ x. x.index) (cond same (a ∷ others) others)
      by_port r es others rest_same true = ap (λ ns. a.index ∷ ns) rest_same
      by_port r es others rest_same false = rest_same

      here : (r : Bool) (es : List Event) (others : List Arrival) → indices es ≡ map (λ a. a.index) others →
          indices (entered r a ∷ es) ≡ map (λ x. x.index) (cond (a.port == p) (a ∷ others) others)
      here true es others rest_same = by_port true es others rest_same (a.port == p)
      here false es others rest_same = by_port false es others rest_same (a.port == p)

  module _ (t : Shape) (l : Limits) (b : Basis) where
    of_play : (h : History) (s : Segment) → indices (play t l b h s) ≡ map (λ a. a.index) (at_port p s.arrivals)
    of_play h s =
        indices-append (tick_play s.seconds) (commands_play t l b (with_tick s.seconds h) s.commands ++ arrivals_play b (before_arrivals t l b h s) s.arrivals)
        ∙ ap (λ ns. ns ++ indices (commands_play t l b (with_tick s.seconds h) s.commands ++ arrivals_play b (before_arrivals t l b h s) s.arrivals)) (none-tick s.seconds)
        ∙ indices-append (commands_play t l b (with_tick s.seconds h) s.commands) (arrivals_play b (before_arrivals t l b h s) s.arrivals)
        ∙ ap (λ ns. ns ++ indices (arrivals_play b (before_arrivals t l b h s) s.arrivals)) (none-commands t l b (with_tick s.seconds h) s.commands)
        ∙ of_arrivals b (before_arrivals t l b h s) s.arrivals

    of_plays : (h : History) (ss : List Segment) → indices (settled_each (plays t l b h ss)) ≡ map (λ a. a.index) (at_port p (flat_map (λ s. s.arrivals) ss))
    of_plays h [] = refl
    of_plays h (s ∷ ss) =
        let more : List Event = settled_each (plays t l b (eager_segment t l b h s) ss) in
        let others : List Arrival = flat_map (λ s. s.arrivals) ss in
        indices-append (play t l b h s ++ event.Settled ∷ []) more
        ∙ ap (λ ns. ns ++ indices more) (indices-append (play t l b h s) (event.Settled ∷ []) ∙ append-nil _ ∙ of_play h s)
        ∙ ap (λ ns. map (λ a. a.index) (at_port p s.arrivals) ++ ns) (of_plays (eager_segment t l b h s) ss)
        ∙ sym (map-append (λ a. a.index) (at_port p s.arrivals) (at_port p others))
        ∙ ap (map (λ a. a.index)) (sym (filter-append (λ a. a.port == p) s.arrivals others))

    none-ups : (h : History) (ps : List ℕ) → indices (reverse h) ≡ [] → indices (reverse (with_ups t l b h ps)) ≡ []
    none-ups h [] none = none
    none-ups h (q ∷ ps) none =
        none-ups (up_event t l (bridge_after b h) q ∷ h) ps
        (ap indices (reverse_onto h (up_event t l (bridge_after b h) q) []) ∙ indices-append (reverse h) (up_event t l (bridge_after b h) q ∷ [])
        ∙ ap (λ ns. ns ++ indices (up_event t l (bridge_after b h) q ∷ [])) none ∙ here (refusal t l (bridge_after b h) (command.Up q)))
      where
        here : (r : Option Cause) → indices (risen q r ∷ []) ≡ []
        here None = refl
        here (Some x) = refl

    none-opening : indices (reverse (opening t l b)) ≡ []
    none-opening =
        ap indices (reverse_onto (with_ups t l b [] (opening_ports t)) event.Settled [])
        ∙ indices-append (reverse (with_ups t l b [] (opening_ports t))) (event.Settled ∷ [])
        ∙ append-nil _ ∙ none-ups [] (opening_ports t) refl

    -- those of an eager history are those of its segments' arrivals
    pub indices-eager : (ss : List Segment) → indices (reverse (opening t l b then settled_each (plays t l b (opening t l b) ss))) ≡ map (λ a. a.index) (at_port p (flat_map (λ s. s.arrivals) ss))
    indices-eager ss =
        let es : List Event = settled_each (plays t l b (opening t l b) ss) in
        ap indices (reverse-then (opening t l b) es) ∙ indices-append (reverse (opening t l b)) es
        ∙ ap (λ ns. ns ++ indices es) none-opening ∙ of_plays (opening t l b) ss

-- ---- where all rise, so do the Relays and the late ones
rise-lower : (low high : ℕ) (ns : List ℕ) → low ≤ high → Rise high ns → Rise low ns
rise-lower low high [] h rise = tt
rise-lower low high (n ∷ ns) h rise = (omega (arith, rise.0), rise.1)

some-rise : (low most : ℕ) (xs : List (ℕ × Bool)) → Rise low (map (λ x. x.0) xs) → Rise low (relays_and_late most xs)
some-rise low most [] rise = tt
some-rise low most ((n, relayed) ∷ rest) rise = by_test (some-rise n (max most n) rest rise.1) (relayed || nat_lt n most)
  where
    by_test : Rise n (relays_and_late (max most n) rest) → (b : Bool) → Rise low (cond b (n ∷ relays_and_late (max most n) rest) (relays_and_late (max most n) rest))
    by_test more true = (rise.0, more)
    by_test more false = rise-lower low n (relays_and_late (max most n) rest) (omega (arith, rise.0)) more

pub in_order : (t : Shape) (es : List Event) (p : ℕ) → Rise 0 (indices p es) → IsInOrder t es p
in_order t es p rise = both (is_extended t p)
  where
    both : (b : Bool) → MatchBool b (Rise 0 (relays_and_late 0 (of_port p es))) (Rise 0 (indices p es))
    both true = some-rise 0 0 (of_port p es) rise
    both false = rise
