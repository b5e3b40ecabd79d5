-- A legal history of the eager mode in which the seconds of each segment pass first is the eager history.
use Rattle.std.proofs.Common.{◌≡◌, ◌⊎◌, ℕ, suc, ◌-◌, ◌==◌, ◌++◌, Bool, true, false, cond, List, [], ◌∷◌, map, Option, Some, None, refl, ap, sym, ◌∙◌, subst, arith, inl, inr}
use Rattle.std.specs.Prelude.{filter_map, IsSomeAnd, All, IsPermutation}
use Rattle.std.proofs.lemmas.List.Elements.{All-cons, All-nil, All-contains, filter_map-append}
use Rattle.std.proofs.lemmas.List.Sorted.{length_permutation, All-permutation}
use Rattle.exb_model.specs.declared.command.Command.{Command}
use Rattle.exb_model.specs.declared.event.Cause.{Cause}
use Rattle.exb_model.specs.declared.event.Event.{Event}
use Rattle.exb_model.specs.declared.event.Event.TheVariants as event
use Rattle.exb_model.specs.Configuration.{Bridge}
use Rattle.exb_model.specs.EagerHistory.{is_relayed, arrival_event, decided, refusal_of, command_event, with_tick, with_commands, with_arrivals, eager_segment, eagerly}
use Rattle.exb_model.specs.History.{Basis, History, ◌then◌, command_of, bridge_after}
use Rattle.exb_model.specs.declared.arrival.Arrival.{Arrival}
use Rattle.exb_model.specs.Input.{Input, Coming, Ordered, Captured, Segment, Eager, second_of, moment_of, groups_in, segment_of, segments_since, segments_in, segments, merge}
use Rattle.exb_model.specs.LegalHistory.{EachEvent, IsOfSegment, settled_each, number_of, place_of, tick_of, Plays, IsDecided, IsEntered, IsRelayOf}
use Rattle.exb_model.specs.Lists.{numbered, Pairwise}
use Rattle.exb_model.specs.Refusals.{refusal}
use Rattle.exb_model.specs.Setup.{Limits}
use Rattle.exb_model.specs.Tree.{Shape}
use Rattle.exb_flight.specs.Items.{Each}
use Rattle.exb_world_laws.proofs.CommandNumbers.{none_permuted}
use Rattle.exb_world_laws.proofs.Opening.{each_before}

cons_nil : {A : Type 0} {x : A} {xs : List A} → x ∷ xs ≡ [] → ⊥
cons_nil e = cc

heads : {A : Type 0} {x y : A} {xs ys : List A} → x ∷ xs ≡ y ∷ ys → x ≡ y
heads e = cc

tails : {A : Type 0} {x y : A} {xs ys : List A} → x ∷ xs ≡ y ∷ ys → xs ≡ ys
tails e = cc

pub one_permuted : {A : Type 0} (xs : List A) (y : A) → IsPermutation xs (y ∷ []) → xs ≡ y ∷ []
one_permuted {A} [] y k = absurd (let e = length_permutation [] (y ∷ []) k in omega (arith, e))
one_permuted {A} (x ∷ []) y k =
    let all = All-permutation (λ (z : A). z ≡ x) (x ∷ []) (y ∷ []) k (All-cons (λ (z : A). z ≡ x) x [] refl (All-nil (λ (z : A). z ≡ x))) in
    ap (λ (z : A). z ∷ []) (sym (all 0 y (omega arith)))
one_permuted {A} (x ∷ z ∷ xs) y k = absurd (let e = length_permutation (x ∷ z ∷ xs) (y ∷ []) k in omega (arith, e))

-- ---- segments of the eager mode
-- a segment of one command, or of one arrival
abbrev pub IsSingle : Segment → Type 0
IsSingle s = ((n : ℕ) × (s.commands ≡ n ∷ []) × (s.arrivals ≡ [])) ⊎ ((a : Arrival) × (s.commands ≡ []) × (s.arrivals ≡ a ∷ []))

single : (seconds : ℕ) (x : Coming) → IsSingle (segment_of seconds (x ∷ []))
single seconds (Ordered moment n) = inl (n, refl, refl)
single seconds (Captured a) = inr (a, refl, refl)

singles_since : (second : ℕ) (xs : List Coming) → Each IsSingle (segments_since second (groups_in Eager xs))
singles_since second [] = tt
singles_since second (x ∷ xs) = (single (second_of (moment_of x) - second) x, singles_since (second_of (moment_of x)) xs)

pub eager_singles : (i : Input) → Each IsSingle (segments Eager i)
unfolding segments
eager_singles i = in_all (merge i)
  where
    in_all : (xs : List Coming) → Each IsSingle (segments_in (groups_in Eager xs))
    in_all [] = tt
    in_all (x ∷ xs) = singles_since (second_of (moment_of x)) (x ∷ xs)

-- ---- one segment
-- its tick, where it has one
abbrev pub tick_in : ℕ → List Event
tick_in seconds = cond (seconds == 0) [] (event.Tick seconds ∷ [])

-- its seconds pass first
pub record TellsFirst (s : Segment) (es : List Event) : Type 0 where
  pub rest : List Event
  pub is : es ≡ tick_in s.seconds ++ rest

pub with_tick_is : (seconds : ℕ) (h : History) → (h then tick_in seconds) ≡ with_tick seconds h
with_tick_is seconds h = by_flag (seconds == 0)
  where
    by_flag : (c : Bool) → (h then (cond c [] (event.Tick seconds ∷ []))) ≡ cond c h (event.Tick seconds ∷ h)
    by_flag true = refl
    by_flag false = refl

then_both : (h : History) (xs ys : List Event) → (h then (xs ++ ys)) ≡ ((h then xs) then ys)
then_both h [] ys = refl
then_both h (x ∷ xs) ys = then_both (x ∷ h) xs ys

tick_told : (seconds : ℕ) → filter_map tick_of (tick_in seconds) ≡ cond (seconds == 0) [] (seconds ∷ [])
tick_told seconds = by_flag (seconds == 0)
  where
    by_flag : (c : Bool) → filter_map tick_of (cond c [] (event.Tick seconds ∷ [])) ≡ cond c [] (seconds ∷ [])
    by_flag true = refl
    by_flag false = refl

front_same : {A : Type 0} (xs ys : List A) → xs ++ ys ≡ xs → ys ≡ []
front_same {A} [] ys e = e
front_same {A} (x ∷ xs) ys e = front_same xs ys (tails e)

no_numbers : (seconds : ℕ) → filter_map number_of (tick_in seconds) ≡ []
no_numbers seconds = by_flag (seconds == 0)
  where
    by_flag : (c : Bool) → filter_map number_of (cond c [] (event.Tick seconds ∷ [])) ≡ []
    by_flag true = refl
    by_flag false = refl

no_places : (seconds : ℕ) → filter_map place_of (tick_in seconds) ≡ []
no_places seconds = by_flag (seconds == 0)
  where
    by_flag : (c : Bool) → filter_map place_of (cond c [] (event.Tick seconds ∷ [])) ≡ []
    by_flag true = refl
    by_flag false = refl

all_behind : {A : Type 0} (P : A → Type 0) (xs ys : List A) → All P (xs ++ ys) → All P ys
all_behind P [] ys all = all
all_behind P (x ∷ xs) ys all = all_behind P xs ys (λ k d h. all (suc k) d (omega (arith, h)))

-- no event of a command, of an arrival or of time
nothing_more : (es : List Event) → filter_map number_of es ≡ [] → filter_map place_of es ≡ [] → filter_map tick_of es ≡ [] → All IsOfSegment es → es ≡ []
nothing_more [] numbers places ticks of = refl
nothing_more (event.Relay p k m f ∷ es) numbers places ticks of = absurd (cons_nil places)
nothing_more (event.Ignored p k ∷ es) numbers places ticks of = absurd (cons_nil places)
nothing_more (event.Tick seconds ∷ es) numbers places ticks of = absurd (cons_nil ticks)
nothing_more (event.Commit k ∷ es) numbers places ticks of = absurd (cons_nil numbers)
nothing_more (event.Refuse k x ∷ es) numbers places ticks of = absurd (cons_nil numbers)
nothing_more (event.Up p ∷ es) numbers places ticks of = absurd (of 0 event.Settled (omega arith))
nothing_more (event.NoUp p x ∷ es) numbers places ticks of = absurd (of 0 event.Settled (omega arith))
nothing_more (event.Settled ∷ es) numbers places ticks of = absurd (of 0 event.Settled (omega arith))

later : (e : Event) (es : List Event) → All IsOfSegment (e ∷ es) → All IsOfSegment es
later e es of j d x = of (suc j) d (omega (arith, x))

module _ (t : Shape) (l : Limits) (b : Basis) (arrivals : ℕ → List Arrival) where
  by_refusal : (k : Bridge) (o : Option Command) (x : Option Cause) → IsSomeAnd o (λ c. refusal t l k c ≡ x) → refusal_of t l k o ≡ x
  by_refusal k None x z = absurd z
  by_refusal k (Some c) x z = z

  -- what happens of a command alone
  pub only_command : (es : List Event) (h : History) (n : ℕ) → filter_map number_of es ≡ n ∷ [] → filter_map place_of es ≡ [] → filter_map tick_of es ≡ [] → All IsOfSegment es → EachEvent (IsDecided t l b) (h then es) →
      es ≡ command_event t l b (bridge_after b h) n ∷ []
  only_command [] h n numbers places ticks of d = absurd (cons_nil (sym numbers))
  only_command (event.Relay p k m f ∷ es) h n numbers places ticks of d = absurd (cons_nil places)
  only_command (event.Ignored p k ∷ es) h n numbers places ticks of d = absurd (cons_nil places)
  only_command (event.Tick seconds ∷ es) h n numbers places ticks of d = absurd (cons_nil ticks)
  only_command (event.Up p ∷ es) h n numbers places ticks of d = absurd (of 0 event.Settled (omega arith))
  only_command (event.NoUp p x ∷ es) h n numbers places ticks of d = absurd (of 0 event.Settled (omega arith))
  only_command (event.Settled ∷ es) h n numbers places ticks of d = absurd (of 0 event.Settled (omega arith))
  only_command (event.Commit k ∷ es) h n numbers places ticks of d =
      let none = nothing_more es (tails numbers) places ticks (later (event.Commit k) es of) in
      let here : IsSomeAnd (command_of b k) (λ c. refusal t l (bridge_after b h) c ≡ None) = (each_before (IsDecided t l b) es (event.Commit k ∷ h) d).1 in
      ap (λ (zs : List Event). event.Commit k ∷ zs) none
      ∙ (ap (λ (o : Option Cause). decided k o ∷ []) (sym (by_refusal (bridge_after b h) (command_of b k) None here)) ∙ ap (λ (m : ℕ). command_event t l b (bridge_after b h) m ∷ []) (heads numbers))
  only_command (event.Refuse k x ∷ es) h n numbers places ticks of d =
      let none = nothing_more es (tails numbers) places ticks (later (event.Refuse k x) es of) in
      let here : IsSomeAnd (command_of b k) (λ c. refusal t l (bridge_after b h) c ≡ Some x) = (each_before (IsDecided t l b) es (event.Refuse k x ∷ h) d).1 in
      ap (λ (zs : List Event). event.Refuse k x ∷ zs) none
      ∙ (ap (λ (o : Option Cause). decided k o ∷ []) (sym (by_refusal (bridge_after b h) (command_of b k) (Some x) here)) ∙ ap (λ (m : ℕ). command_event t l b (bridge_after b h) m ∷ []) (heads numbers))

  -- what happens of an arrival alone
  relay_is : (h : History) (a y : Arrival) → y ≡ a → is_relayed (bridge_after b h) y.port y.bytes ≡ true → event.Relay y.port y.index y.moment y.bytes ≡ arrival_event (bridge_after b h) a
  relay_is h a y same relayed =
      sym (ap (λ (c : Bool). cond c (event.Relay y.port y.index y.moment y.bytes) (event.Ignored y.port y.index)) relayed) ∙ ap (arrival_event (bridge_after b h)) same

  ignored_is : (h : History) (a : Arrival) (p n : ℕ) → p ≡ a.port → n ≡ a.index → numbered (arrivals a.port) a.index ≡ Some a → IsSomeAnd (numbered (arrivals p) n) (λ x. is_relayed (bridge_after b h) p x.bytes ≡ false) →
      event.Ignored p n ≡ arrival_event (bridge_after b h) a
  ignored_is h a p n port index found not =
      let there : numbered (arrivals p) n ≡ Some a = ap (λ (q : ℕ). numbered (arrivals q) n) port ∙ (ap (numbered (arrivals a.port)) index ∙ found) in
      let no : is_relayed (bridge_after b h) p a.bytes ≡ false = subst (λ (o : Option Arrival). IsSomeAnd o (λ x. is_relayed (bridge_after b h) p x.bytes ≡ false)) there not in
      ap (λ (q : ℕ). event.Ignored q n) port
      ∙ (ap (λ (m : ℕ). event.Ignored a.port m) index
      ∙ sym (ap (λ (c : Bool). cond c (event.Relay a.port a.index a.moment a.bytes) (event.Ignored a.port a.index)) (ap (λ (q : ℕ). is_relayed (bridge_after b h) q a.bytes) (sym port) ∙ no)))

  pub only_arrival : (es : List Event) (h : History) (a : Arrival) → numbered (arrivals a.port) a.index ≡ Some a → filter_map number_of es ≡ [] → filter_map place_of es ≡ (a.port, a.index) ∷ [] → filter_map tick_of es ≡ [] → All IsOfSegment es →
      All (IsRelayOf (a ∷ [])) es → EachEvent (IsEntered b arrivals) (h then es) → es ≡ arrival_event (bridge_after b h) a ∷ []
  only_arrival [] h a found numbers places ticks of relays d = absurd (cons_nil (sym places))
  only_arrival (event.Commit k ∷ es) h a found numbers places ticks of relays d = absurd (cons_nil numbers)
  only_arrival (event.Refuse k x ∷ es) h a found numbers places ticks of relays d = absurd (cons_nil numbers)
  only_arrival (event.Tick seconds ∷ es) h a found numbers places ticks of relays d = absurd (cons_nil ticks)
  only_arrival (event.Up p ∷ es) h a found numbers places ticks of relays d = absurd (of 0 event.Settled (omega arith))
  only_arrival (event.NoUp p x ∷ es) h a found numbers places ticks of relays d = absurd (of 0 event.Settled (omega arith))
  only_arrival (event.Settled ∷ es) h a found numbers places ticks of relays d = absurd (of 0 event.Settled (omega arith))
  only_arrival (event.Relay p n m f ∷ es) h a found numbers places ticks of relays d =
      let none = nothing_more es numbers (tails places) ticks (later (event.Relay p n m f) es of) in
      let y : Arrival = record { port = p; index = n; moment = m; bytes = f } in
      let same : y ≡ a = All-contains (λ (z : Arrival). z ≡ a) (a ∷ []) y (All-cons (λ (z : Arrival). z ≡ a) a [] refl (All-nil (λ (z : Arrival). z ≡ a))) (relays 0 event.Settled (omega arith)) in
      let here : is_relayed (bridge_after b h) p f ≡ true = (each_before (IsEntered b arrivals) es (event.Relay p n m f ∷ h) d).1 in
      ap (λ (zs : List Event). event.Relay p n m f ∷ zs) none ∙ ap (λ (e : Event). e ∷ []) (relay_is h a y same here)
  only_arrival (event.Ignored p n ∷ es) h a found numbers places ticks of relays d =
      let none = nothing_more es numbers (tails places) ticks (later (event.Ignored p n) es of) in
      let here : IsSomeAnd (numbered (arrivals p) n) (λ x. is_relayed (bridge_after b h) p x.bytes ≡ false) = (each_before (IsEntered b arrivals) es (event.Ignored p n ∷ h) d).1 in
      let place : (p, n) ≡ (a.port, a.index) = heads places in
      ap (λ (zs : List Event). event.Ignored p n ∷ zs) none
      ∙ ap (λ (e : Event). e ∷ []) (ignored_is h a p n (ap (λ (z : ℕ × ℕ). z.0) place) (ap (λ (z : ℕ × ℕ). z.1) place) found here)

  -- ---- one segment
  -- what is legal of it
  record IsLegalPart (s : Segment) (es : List Event) : Type 0 where
    plays : Plays s es
    first : TellsFirst s es
    single : IsSingle s
    found : Each (λ (a : Arrival). numbered (arrivals a.port) a.index ≡ Some a) s.arrivals

  segment_is : (s : Segment) (es : List Event) (h : History) → IsLegalPart s es → EachEvent (IsDecided t l b) (h then es) → EachEvent (IsEntered b arrivals) (h then es) → (h then (es ++ event.Settled ∷ [])) ≡ eager_segment t l b h s
  segment_is s es h k d e =
      then_both h es (event.Settled ∷ []) ∙ ap (λ (z : History). event.Settled ∷ z) (ap (λ (zs : List Event). h then zs) k.first.is ∙ (then_both h (tick_in s.seconds) rest ∙ by_single k.single))
    where
      rest : List Event
      rest = k.first.rest

      h1 : History
      h1 = h then tick_in s.seconds

      ticks : filter_map tick_of k.first.rest ≡ []
      ticks =
          front_same (cond (s.seconds == 0) [] (s.seconds ∷ [])) (filter_map tick_of k.first.rest)
          (ap (λ (zs : List ℕ). zs ++ filter_map tick_of k.first.rest) (sym (tick_told s.seconds)) ∙ (sym (filter_map-append tick_of (tick_in s.seconds) k.first.rest) ∙ (ap (filter_map tick_of) (sym k.first.is) ∙ k.plays.tick)))

      numbers : filter_map number_of k.first.rest ≡ filter_map number_of es
      numbers = ap (λ (zs : List ℕ). zs ++ filter_map number_of k.first.rest) (sym (no_numbers s.seconds)) ∙ (sym (filter_map-append number_of (tick_in s.seconds) k.first.rest) ∙ ap (filter_map number_of) (sym k.first.is))

      places : filter_map place_of k.first.rest ≡ filter_map place_of es
      places = ap (λ (zs : List (ℕ × ℕ)). zs ++ filter_map place_of k.first.rest) (sym (no_places s.seconds)) ∙ (sym (filter_map-append place_of (tick_in s.seconds) k.first.rest) ∙ ap (filter_map place_of) (sym k.first.is))

      of : All IsOfSegment k.first.rest
      of = all_behind IsOfSegment (tick_in s.seconds) k.first.rest (subst (All IsOfSegment) k.first.is k.plays.of_segment)

      decides : EachEvent (IsDecided t l b) ((h then tick_in s.seconds) then k.first.rest)
      decides = subst (EachEvent (IsDecided t l b)) (ap (λ (zs : List Event). h then zs) k.first.is ∙ then_both h (tick_in s.seconds) k.first.rest) d

      enters : EachEvent (IsEntered b arrivals) ((h then tick_in s.seconds) then k.first.rest)
      enters = subst (EachEvent (IsEntered b arrivals)) (ap (λ (zs : List Event). h then zs) k.first.is ∙ then_both h (tick_in s.seconds) k.first.rest) e

      by_single : IsSingle s → ((h then tick_in s.seconds) then k.first.rest) ≡ with_arrivals b (with_commands t l b (with_tick s.seconds h) s.commands) s.arrivals
      by_single (inl (n, one, none)) =
          let nowhere : filter_map place_of es ≡ [] = none_permuted (filter_map place_of es) (subst (λ (zs : List Arrival). IsPermutation (filter_map place_of es) (map (λ a. (a.port, a.index)) zs)) none k.plays.arrivals.once) in
          let is = only_command k.first.rest (h then tick_in s.seconds) n (numbers ∙ (k.plays.commands ∙ one)) (places ∙ nowhere) ticks of decides in
          ap (λ (zs : List Event). (h then tick_in s.seconds) then zs) is
          ∙ (ap (λ (z : History). command_event t l b (bridge_after b z) n ∷ z) (with_tick_is s.seconds h)
          ∙ sym (ap (λ (ns : List ℕ). with_arrivals b (with_commands t l b (with_tick s.seconds h) ns) s.arrivals) one ∙ ap (with_arrivals b (command_event t l b (bridge_after b (with_tick s.seconds h)) n ∷ with_tick s.seconds h)) none))
      by_single (inr (a, none, one)) =
          let found : numbered (arrivals a.port) a.index ≡ Some a = (subst (Each (λ (x : Arrival). numbered (arrivals x.port) x.index ≡ Some x)) one k.found).0 in
          let there : filter_map place_of es ≡ (a.port, a.index) ∷ [] = one_permuted (filter_map place_of es) (a.port, a.index) (subst (λ (zs : List Arrival). IsPermutation (filter_map place_of es) (map (λ a. (a.port, a.index)) zs)) one k.plays.arrivals.once) in
          let relays : All (IsRelayOf (a ∷ [])) k.first.rest = all_behind (IsRelayOf (a ∷ [])) (tick_in s.seconds) k.first.rest (subst (All (IsRelayOf (a ∷ []))) k.first.is (subst (λ (zs : List Arrival). All (IsRelayOf zs) es) one k.plays.arrivals.relays)) in
          let is = only_arrival k.first.rest (h then tick_in s.seconds) a found (numbers ∙ (k.plays.commands ∙ none)) (places ∙ there) ticks of relays enters in
          ap (λ (zs : List Event). (h then tick_in s.seconds) then zs) is
          ∙ (ap (λ (z : History). arrival_event (bridge_after b z) a ∷ z) (with_tick_is s.seconds h)
          ∙ sym (ap (λ (ns : List ℕ). with_arrivals b (with_commands t l b (with_tick s.seconds h) ns) s.arrivals) none ∙ ap (with_arrivals b (with_tick s.seconds h)) one))

  -- ---- all segments
  pub record AreLegalParts (ss : List Segment) (plays : List (List Event)) : Type 0 where
    pub each_played : Pairwise Plays ss plays
    pub firsts : Pairwise TellsFirst ss plays
    pub singles : Each IsSingle ss
    pub found : Each (λ (s : Segment). Each (λ (a : Arrival). numbered (arrivals a.port) a.index ≡ Some a) s.arrivals) ss

  pub eager_is : (ss : List Segment) (plays : List (List Event)) (h : History) → AreLegalParts ss plays → EachEvent (IsDecided t l b) (h then settled_each plays) → EachEvent (IsEntered b arrivals) (h then settled_each plays) →
      (h then settled_each plays) ≡ eagerly t l b h ss
  eager_is [] [] h k d e = refl
  eager_is [] (es ∷ plays) h k d e = absurd k.each_played
  eager_is (s ∷ ss) [] h k d e = absurd k.each_played
  eager_is (s ∷ ss) (es ∷ plays) h k d e =
      let whole : (h then settled_each (es ∷ plays)) ≡ ((h then (es ++ event.Settled ∷ [])) then settled_each plays) = then_both h (es ++ event.Settled ∷ []) (settled_each plays) in
      let d1 = subst (EachEvent (IsDecided t l b)) whole d in
      let e1 = subst (EachEvent (IsEntered b arrivals)) whole e in
      let d2 : EachEvent (IsDecided t l b) (h then es) = (subst (EachEvent (IsDecided t l b)) (then_both h es (event.Settled ∷ [])) (each_before (IsDecided t l b) (settled_each plays) (h then (es ++ event.Settled ∷ [])) d1)).0 in
      let e2 : EachEvent (IsEntered b arrivals) (h then es) = (subst (EachEvent (IsEntered b arrivals)) (then_both h es (event.Settled ∷ [])) (each_before (IsEntered b arrivals) (settled_each plays) (h then (es ++ event.Settled ∷ [])) e1)).0 in
      let part : IsLegalPart s es = record {
        plays = k.each_played.0;
        first = k.firsts.0;
        single = k.singles.0;
        found = k.found.0;
      } in
      let one = segment_is s es h part d2 e2 in
      let rest : AreLegalParts ss plays = record {
        each_played = k.each_played.1;
        firsts = k.firsts.1;
        singles = k.singles.1;
        found = k.found.1;
      } in
      whole
      ∙ (ap (λ (z : History). z then settled_each plays) one
      ∙ eager_is ss plays (eager_segment t l b h s) rest (subst (λ (z : History). EachEvent (IsDecided t l b) (z then settled_each plays)) one d1) (subst (λ (z : History). EachEvent (IsEntered b arrivals) (z then settled_each plays)) one e1))
