-- What a history that an input allows plays: its records and its commands, each once.
use Rattle.std.proofs.Common.{◌≡◌, ℕ, suc, ◌+◌, Bool, true, false, cond, List, [], ◌∷◌, ◌++◌, length, map, reverse, refl, sym, ap, subst, ◌∙◌, arith}
use Rattle.std.specs.Prelude.{Option, Some, None, nat_lt, filter_map, flat_map, max, IsPermutation}
use Rattle.std.specs.List.{cons_option, range_with_len}
use Rattle.std.proofs.lemmas.Grind.{reverse_onto}
use Rattle.std.proofs.lemmas.List.{append-nil, map-append}
use Rattle.std.proofs.lemmas.List.Elements.{filter_map-append}
use Rattle.std.proofs.lemmas.List.Sorted.{IsPermutation-refl, IsPermutation-trans, IsPermutation-map, IsPermutation-append, IsPermutation-append_left, IsPermutation-append_comm, IsPermutation-cons}
use Rattle.exb_model.specs.Ports.{all_ports}
use Rattle.exb_model.specs.declared.command.Command.TheVariants as command
use Rattle.exb_model.specs.declared.event.Event.{Event}
use Rattle.exb_model.specs.declared.event.Event.TheVariants as event
use Rattle.exb_model.specs.declared.event.Cause.{Cause}
use Rattle.exb_model.specs.Lists.{Pairwise}
use Rattle.exb_model.specs.Tree.{Shape, opening_ports}
use Rattle.exb_model.specs.Setup.{Limits}
use Rattle.exb_model.specs.History.{Basis, History, ◌then◌, bridge_after}
use Rattle.exb_model.specs.Refusals.{refusal}
use Rattle.exb_model.specs.declared.arrival.Arrival.{Arrival}
use Rattle.exb_model.specs.Input.{Input, Given, Record, Coming, Captured, Segment, Mode, basis_of, tree_of, bounds_of, moment_of, arrivals_from, arrivals_at, all_arrivals, start_second, commands_from, all_comings, put_in_order, by_moment, merge, number_in, arrival_in, segments}
use Rattle.exb_model.specs.EagerHistory.{up_event, risen, with_ups, opening}
use Rattle.exb_model.specs.LegalHistory.{Legal, PlaysCommands, PlaysArrivals, number_of, place_of, settled_each}
use Rattle.exb_model.proofs.LegalPlays.{all_arrivals as all_arrivals_played, all_commands}
use Rattle.exb_model_laws.specs.PlayedHistories.{records_at, all_records, all_numbers, LegalPlaysInput}
use Rattle.exb_model_laws.proofs.PortOrder.{reverse-then}
use Rattle.exb_model_laws.proofs.ArrivalOrder.{segments-arrivals, segments-commands, arrivals-coming}

-- ---- what is played, segment by segment
module _ {Y : Type 0} (g : Event → Option Y) where
  played_then : (h : History) (es : List Event) → filter_map g (reverse (h then es)) ≡ filter_map g (reverse h) ++ filter_map g es
  played_then h es = ap (filter_map g) (reverse-then h es) ∙ filter_map-append g (reverse h) es

  -- nothing of the opening
  module _ (t : Shape) (l : Limits) (b : Basis) (settled : g event.Settled ≡ None) (rises : (p : ℕ) (r : Option Cause) → g (risen p r) ≡ None) where
    none_more : (h : History) (e : Event) → g e ≡ None → filter_map g (reverse h) ≡ [] → filter_map g (reverse (e ∷ h)) ≡ []
    none_more h e none rest =
        ap (filter_map g) (reverse_onto h e []) ∙ filter_map-append g (reverse h) (e ∷ [])
        ∙ ap (λ (ys : List Y). ys ++ filter_map g (e ∷ [])) rest ∙ ap (λ (y : Option Y). cons_option y []) none

    none_of_ups : (h : History) (ps : List ℕ) → filter_map g (reverse h) ≡ [] → filter_map g (reverse (with_ups t l b h ps)) ≡ []
    none_of_ups h [] none = none
    none_of_ups h (p ∷ ps) none =
        none_of_ups (up_event t l (bridge_after b h) p ∷ h) ps (none_more h (up_event t l (bridge_after b h) p) (rises p (refusal t l (bridge_after b h) (command.Up p))) none)

    none_of_opening : filter_map g (reverse (opening t l b)) ≡ []
    none_of_opening = none_more (with_ups t l b [] (opening_ports t)) event.Settled settled (none_of_ups [] (opening_ports t) refl)

  of_settled : g event.Settled ≡ None → (plays : List (List Event)) → filter_map g (settled_each plays) ≡ flat_map (filter_map g) plays
  of_settled none [] = refl
  of_settled none (es ∷ plays) =
      filter_map-append g (es ++ event.Settled ∷ []) (settled_each plays)
      ∙ ap (λ (ys : List Y). ys ++ filter_map g (settled_each plays))
      (filter_map-append g es (event.Settled ∷ []) ∙ ap (λ (y : Option Y). filter_map g es ++ cons_option y []) none ∙ append-nil (filter_map g es))
      ∙ ap (λ (ys : List Y). filter_map g es ++ ys) (of_settled none plays)

  -- of a legal history, what its segments play
  pub of_legal : (m : Mode) (i : Input) (h : History) (legal : Legal m i h) → g event.Settled ≡ None → ((p : ℕ) (r : Option Cause) → g (risen p r) ≡ None) →
      filter_map g (reverse h) ≡ flat_map (filter_map g) legal.plays
  of_legal m i h legal settled rises =
      ap (λ (k : History). filter_map g (reverse k)) legal.segments_in_order
      ∙ played_then (opening (tree_of i) (bounds_of i) (basis_of i)) (settled_each legal.plays)
      ∙ ap (λ (ys : List Y). ys ++ filter_map g (settled_each legal.plays)) (none_of_opening (tree_of i) (bounds_of i) (basis_of i) settled rises)
      ∙ of_settled settled legal.plays

pub no_number : (p : ℕ) (r : Option Cause) → number_of (risen p r) ≡ None
no_number p None = refl
no_number p (Some x) = refl

pub no_place : (p : ℕ) (r : Option Cause) → place_of (risen p r) ≡ None
no_place p None = refl
no_place p (Some x) = refl

pub commands_played : (ss : List Segment) (plays : List (List Event)) → Pairwise PlaysCommands ss plays → flat_map (filter_map number_of) plays ≡ flat_map (λ s. s.commands) ss
commands_played [] [] all = refl
commands_played (s ∷ ss) (es ∷ plays) all =
    ap (λ (ns : List ℕ). ns ++ flat_map (filter_map number_of) plays) all.0 ∙ ap (λ (ns : List ℕ). s.commands ++ ns) (commands_played ss plays all.1)
commands_played [] (es ∷ plays) all = absurd all
commands_played (s ∷ ss) [] all = absurd all

-- a record by its port and its number
abbrev place : Arrival → ℕ × ℕ
place a = (a.port, a.index)

arrivals_played : (ss : List Segment) (plays : List (List Event)) → Pairwise PlaysArrivals ss plays → IsPermutation (flat_map (filter_map place_of) plays) (map place (flat_map (λ s. s.arrivals) ss))
arrivals_played [] [] all = IsPermutation-refl []
arrivals_played (s ∷ ss) (es ∷ plays) all =
    subst (IsPermutation (filter_map place_of es ++ flat_map (filter_map place_of) plays)) (sym (map-append place s.arrivals (flat_map (λ s. s.arrivals) ss)))
    (IsPermutation-append (filter_map place_of es) (map place s.arrivals) (flat_map (filter_map place_of) plays) (map place (flat_map (λ s. s.arrivals) ss)) all.0.once (arrivals_played ss plays all.1))
arrivals_played [] (es ∷ plays) all = absurd all
arrivals_played (s ∷ ss) [] all = absurd all

-- ---- putting in order loses nothing
exchanged : {Y : Type 0} (a b : Y) (zs : List Y) → IsPermutation (a ∷ b ∷ zs) (b ∷ a ∷ zs)
exchanged a b zs = IsPermutation-append_left zs (a ∷ b ∷ []) (b ∷ a ∷ []) (IsPermutation-append_comm (a ∷ []) (b ∷ []))

module _ {Y : Type 0} (g : Coming → Option Y) where
  put_keeps : (x : Coming) (ys : List Coming) → IsPermutation (filter_map g (put_in_order x ys)) (filter_map g (x ∷ ys))
  put_keeps x [] = IsPermutation-refl _
  put_keeps x (y ∷ ys) = by_test (nat_lt (moment_of y) (moment_of x)) (put_keeps x ys)
    where
      by_values : (o r : Option Y) (us vs : List Y) → IsPermutation us (cons_option r vs) → IsPermutation (cons_option o us) (cons_option r (cons_option o vs))
      by_values None r us vs same = same
      by_values (Some v) None us vs same = IsPermutation-cons v us vs same
      by_values (Some v) (Some w) us vs same = IsPermutation-trans (v ∷ us) (v ∷ w ∷ vs) (w ∷ v ∷ vs) (IsPermutation-cons v us (w ∷ vs) same) (exchanged v w vs)

      by_test : (b : Bool) → IsPermutation (filter_map g (put_in_order x ys)) (filter_map g (x ∷ ys)) → IsPermutation (filter_map g (cond b (y ∷ put_in_order x ys) (x ∷ y ∷ ys))) (filter_map g (x ∷ y ∷ ys))
      by_test true rest = by_values (g y) (g x) (filter_map g (put_in_order x ys)) (filter_map g ys) rest
      by_test false rest = IsPermutation-refl _

  sorted_keeps : (xs : List Coming) → IsPermutation (filter_map g (by_moment xs)) (filter_map g xs)
  sorted_keeps [] = IsPermutation-refl []
  sorted_keeps (x ∷ xs) =
      IsPermutation-trans (filter_map g (put_in_order x (by_moment xs))) (filter_map g (x ∷ by_moment xs)) (filter_map g (x ∷ xs))
      (put_keeps x (by_moment xs)) (by_value (g x) (sorted_keeps xs))
    where
      by_value : (o : Option Y) → IsPermutation (filter_map g (by_moment xs)) (filter_map g xs) → IsPermutation (cons_option o (filter_map g (by_moment xs))) (cons_option o (filter_map g xs))
      by_value None rest = rest
      by_value (Some v) rest = IsPermutation-cons v (filter_map g (by_moment xs)) (filter_map g xs) rest

-- ---- the numbers of the commands
pub next : (n : ℕ) → suc n ≡ n + 1
next n = omega arith

numbers_from : (start n : ℕ) (cs : List Given) (arrived : List Arrival) → filter_map number_in (commands_from start n cs ++ map Captured arrived) ≡ range_with_len n (length cs)
numbers_from start n [] arrived = none arrived
  where
    none : (arrived : List Arrival) → filter_map number_in (map Captured arrived) ≡ []
    none [] = refl
    none (a ∷ arrived) = none arrived
numbers_from start n (c ∷ cs) arrived = ap (λ (ns : List ℕ). n ∷ ns) (numbers_from start (suc n) cs arrived ∙ ap (λ (m : ℕ). range_with_len m (length cs)) (next n))

numbers_coming : (i : Input) → filter_map number_in (all_comings i) ≡ all_numbers i
numbers_coming i = numbers_from (start_second i) 1 i.commands (all_arrivals i)

-- ---- the places of the records
places_from : (p n least : ℕ) (rs : List Record) → map place (arrivals_from p n least rs) ≡ map (λ k. (p, k)) (range_with_len n (length rs))
places_from p n least [] = refl
places_from p n least (r ∷ rs) = ap (λ (ps : List (ℕ × ℕ)). (p, n) ∷ ps) (places_from p (suc n) (max least r.time) rs ∙ ap (λ (m : ℕ). map (λ k. (p, k)) (range_with_len m (length rs))) (next n))

places_at : (i : Input) (p : ℕ) → map place (arrivals_at i p) ≡ records_at i p
unfolding arrivals_at
places_at i p = places_from p 1 0 (i.records p)

places_all : (i : Input) (ps : List ℕ) → map place (flat_map (arrivals_at i) ps) ≡ flat_map (records_at i) ps
places_all i [] = refl
places_all i (p ∷ ps) =
    map-append place (arrivals_at i p) (flat_map (arrivals_at i) ps)
    ∙ ap (λ (xs : List (ℕ × ℕ)). xs ++ map place (flat_map (arrivals_at i) ps)) (places_at i p)
    ∙ ap (λ (xs : List (ℕ × ℕ)). records_at i p ++ xs) (places_all i ps)

all_places : (i : Input) → map place (all_arrivals i) ≡ all_records i
unfolding all_arrivals all_records
all_places i = places_all i all_ports

-- ---- each record and each command once
pub legal_plays_input : LegalPlaysInput
unfolding merge
legal_plays_input m i h legal = record {
  records =
      let Q : List (ℕ × ℕ) → Type 0 = IsPermutation (filter_map place_of (reverse h)) in
      let P : List (ℕ × ℕ) → Type 0 = λ ps. IsPermutation ps (map place (flat_map (λ s. s.arrivals) (segments m i))) in
      let played : IsPermutation (filter_map place_of (reverse h)) (map place (flat_map (λ s. s.arrivals) (segments m i))) =
      subst P (sym (of_legal place_of m i h legal refl no_place)) (arrivals_played (segments m i) legal.plays (all_arrivals_played (segments m i) legal.plays legal.each_played)) in
      let merged : IsPermutation (filter_map place_of (reverse h)) (map place (filter_map arrival_in (merge i))) = subst Q (ap (map place) (segments-arrivals m i)) played in
      let coming : IsPermutation (filter_map place_of (reverse h)) (map place (filter_map arrival_in (all_comings i))) =
      IsPermutation-trans (filter_map place_of (reverse h)) (map place (filter_map arrival_in (merge i))) (map place (filter_map arrival_in (all_comings i))) merged
      (IsPermutation-map place (filter_map arrival_in (merge i)) (filter_map arrival_in (all_comings i)) (sorted_keeps arrival_in (all_comings i))) in
      subst Q (ap (map place) (arrivals-coming i) ∙ all_places i) coming;
  commands =
      let Q : List ℕ → Type 0 = λ ns. IsPermutation ns (all_numbers i) in
      let is : filter_map number_of (reverse h) ≡ filter_map number_in (merge i) =
      of_legal number_of m i h legal refl no_number ∙ commands_played (segments m i) legal.plays (all_commands (segments m i) legal.plays legal.each_played) ∙ segments-commands m i in
      subst Q (sym is) (subst (IsPermutation (filter_map number_in (merge i))) (numbers_coming i) (sorted_keeps number_in (all_comings i)));
}
