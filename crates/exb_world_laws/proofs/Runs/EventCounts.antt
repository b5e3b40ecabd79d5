-- How much a run has told so far, and how much has left.
use Rattle.std.proofs.Common.{◌≡◌, ℕ, zero, suc, ◌+◌, ◌*◌, ◌≤◌, ◌<◌, ◌==◌, Bool, true, false, cond, List, [], ◌∷◌, Option, Some, None, length, length-append, reverse, map, refl, ap, sym, ◌∙◌, subst, arith, inl, inr}
use Rattle.std.specs.Prelude.{filter_map, flat_map, fold}
use Rattle.std.proofs.lemmas.Bool.{cases_Bool, cases_lt, eqb-false, eqb-true}
use Rattle.std.proofs.Math.Nat.{zero-mul, suc-mul}
use Rattle.std.proofs.lemmas.List.{length-map}
use Rattle.std.proofs.lemmas.List.Elements.{filter_map-append}
use Rattle.std.proofs.lemmas.List.FromFn.{length-range_with_len}
use Rattle.std.proofs.lemmas.List.Sorted.{length_permutation}
use Rattle.exb_model.specs.declared.command.Command.{Command}
use Rattle.exb_model.specs.declared.event.Event.{Event}
use Rattle.exb_model.specs.declared.event.Event.TheVariants as event
use Rattle.exb_model.specs.declared.vlan.Kind.{Kind}
use Rattle.exb_model.specs.FlatBridge.{Sent, sent_as, sent_by, flat}
use Rattle.exb_model.specs.History.{Basis, History, ◌then◌, bridge_after}
use Rattle.exb_model.specs.declared.arrival.Arrival.{Arrival}
use Rattle.exb_model.specs.Configuration.{Bridge}
use Rattle.exb_model.specs.Learning.{Look, passes, learned}
use Rattle.exb_model.specs.LegalHistory.{number_of, place_of}
use Rattle.exb_model.specs.Setup.{Limits}
use Rattle.exb_model.specs.Targets.{target}
use Rattle.exb_model.specs.Texts.{Counts, counted}
use Rattle.exb_model.specs.Tree.{Shape, is_external}
use Rattle.exb_world_spec.specs.Steps.{stepped}
use Rattle.exb_world_spec.specs.Worlds.{World, Step, Arrive, Carry, Control, Lose, Beat, Tick, Order, Mark, Left, left_at}
use Rattle.exb_world_spec.specs.Runs.Sessions.{Each}
use Rattle.exb_world_laws.specs.WorldInput.{arrivals_of}
use Rattle.exb_world_laws.specs.WorldInvariant.{given_in}
use Rattle.exb_model.specs.Input.{Input, Segment, Mode, tree_of, bounds_of}
use Rattle.exb_model.specs.Input.{basis_of as basis_in}
use Rattle.exb_model.specs.History.{command_of}
use Rattle.exb_model.specs.Tree.{IsTree}
use Rattle.exb_model.specs.LegalHistory.{of_port}
use Rattle.exb_model.proofs.Validity.{no_port_past}
use Rattle.exb_frame.specs.TagValues.{TagRoundTrip}
use Rattle.exb_relay.specs.Laws.{SendsAreWords, SendsLeaveAsFlat}
use Rattle.exb_control_spec.specs.Runs.Journal.{StepsTell}
use Rattle.exb_world_spec.specs.Steps.{Stepped}
use Rattle.exb_world_spec.specs.Runs.FrameBytes.{StepsStayWritten}
use Rattle.exb_flight.specs.NamedArrivals.{times, firsts}
use Rattle.exb_flight.specs.Promises.{owed_at}
use Rattle.exb_world_laws.specs.WorldInput.{Given, arrivals_at, commands_of, indices_of, basis_with}
use Rattle.exb_world_laws.specs.WorldInvariant.{basis_of}
use Rattle.exb_world_laws.specs.SettledHistories.{IsOrderly, SettledIsOrderly}
use Rattle.exb_world_laws.specs.SegmentRuns.{marked_each, nothing_given}
use Rattle.exb_world_laws.specs.OneBridge.{IsOfArrival}
use Rattle.exb_world_laws.proofs.JobOrder.{reverse_then}
use Rattle.exb_world_laws.proofs.Permutations.{each_new, named_once}
use Rattle.exb_world_laws.proofs.OneBridge.{kept_stands}
use Rattle.exb_world_laws.specs.Runs.SegmentRuns.{begin_of, PlaysIn, arrivals_in, none_counted, AreFew, RunsAreFew}
use Rattle.exb_world_laws.proofs.Runs.SegmentRuns.{start, kept, settled, commands}
use Rattle.exb_world_laws.proofs.Runs.SegmentInput.{plays_arrivals}
use Rattle.exb_world_laws.proofs.Runs.PartialRuns.{passed}
use Rattle.exb_world_spec.specs.Runs.ReachedWorlds.{MayTakeAll}

-- ---- events
-- of an arrival one is told, of a command one
record Counts_of (es : List Event) (b c : Counts) : Type 0 where
  pub entered : c.relayed + c.ignored ≡ b.relayed + b.ignored + length (filter_map place_of es)
  pub decided : c.commits + c.refusals ≡ b.commits + b.refusals + length (filter_map number_of es)

count_all : (es : List Event) (b : Counts) → Counts_of es b (fold (λ c e. counted e c) b es)
count_all [] b = record { entered = omega arith; decided = omega arith }
count_all (event.Relay p n t f ∷ es) b = (let r = count_all es (record b { relayed = b.relayed + 1 }) in let x = r.entered in let y = r.decided in record { entered = omega (arith, x); decided = omega (arith, y) })
count_all (event.Ignored p n ∷ es) b = (let r = count_all es (record b { ignored = b.ignored + 1 }) in let x = r.entered in let y = r.decided in record { entered = omega (arith, x); decided = omega (arith, y) })
count_all (event.Commit n ∷ es) b = (let r = count_all es (record b { commits = b.commits + 1 }) in let x = r.entered in let y = r.decided in record { entered = omega (arith, x); decided = omega (arith, y) })
count_all (event.Refuse n x ∷ es) b = (let r = count_all es (record b { refusals = b.refusals + 1 }) in let x = r.entered in let y = r.decided in record { entered = omega (arith, x); decided = omega (arith, y) })
count_all (event.Tick seconds ∷ es) b = (let r = count_all es b in record { entered = r.entered; decided = r.decided })
count_all (event.Up p ∷ es) b = (let r = count_all es b in record { entered = r.entered; decided = r.decided })
count_all (event.NoUp p x ∷ es) b = (let r = count_all es b in record { entered = r.entered; decided = r.decided })
count_all (event.Settled ∷ es) b = (let r = count_all es b in record { entered = r.entered; decided = r.decided })

-- ---- arrivals come at external ports
came : (t : Shape) (l : Limits) (steps : List Step) (w : World) → MayTakeAll t l w steps → Each (λ (a : Arrival). is_external t a.port ≡ true) (arrivals_of (given_in steps))
came t l [] w may = tt
came t l (Arrive a ∷ steps) w may = (may.0.can.external, came t l steps (stepped t l (Arrive a) w).world may.1)
came t l (Carry n way ∷ steps) w may = came t l steps (stepped t l (Carry n way) w).world may.1
came t l (Control n way k keep ∷ steps) w may = came t l steps (stepped t l (Control n way k keep) w).world may.1
came t l (Lose n way k ∷ steps) w may = came t l steps (stepped t l (Lose n way k) w).world may.1
came t l (Beat ∷ steps) w may = came t l steps (stepped t l Beat w).world may.1
came t l (Tick seconds ∷ steps) w may = came t l steps (stepped t l (Tick seconds) w).world may.1
came t l (Order c ∷ steps) w may = came t l steps (stepped t l (Order c) w).world may.1
came t l (Mark ∷ steps) w may = came t l steps (stepped t l Mark w).world may.1

-- ---- lists of events
both_parts : {B : Type 0} (f : Event → Option B) (e : Event) (es : List Event) → length (filter_map f (e ∷ es)) ≡ length (filter_map f (e ∷ [])) + length (filter_map f es)
both_parts f e es = ap (λ (xs : List _). length xs) (filter_map-append f (e ∷ []) es) ∙ length-append (filter_map f (e ∷ [])) (filter_map f es)

told_then : {B : Type 0} (f : Event → Option B) (es : List Event) (h : History) → length (filter_map f (h then es)) ≡ length (filter_map f h) + length (filter_map f es)
told_then f [] h = omega arith
told_then f (e ∷ es) h =
    let rest = told_then f es (e ∷ h) in
    let old = both_parts f e h in
    let new = both_parts f e es in
    omega (arith, rest, old, new)

-- ---- frames
-- the one bridge sends one at most at a port for each event of an arrival
few_sent_as : (moment : ℕ) (f : List ℕ) (v : Option ℕ) (k : Option Kind) → length (sent_as moment f v k) ≤ 1
few_sent_as moment f None k = omega arith
few_sent_as moment f (Some v) None = omega arith
few_sent_as moment f (Some v) (Some k) = omega arith

few_sent : (b : Bridge) (look : Look) (e : Event) (q : ℕ) → length (sent_by b look e q) ≤ length (filter_map place_of (e ∷ []))
few_sent b look (event.Relay p n moment f) q = few_sent_as moment f (passes b p f) (target b look p f q)
few_sent b look (event.Ignored p n) q = omega arith
few_sent b look (event.Tick seconds) q = omega arith
few_sent b look (event.Commit n) q = omega arith
few_sent b look (event.Refuse n x) q = omega arith
few_sent b look (event.Up p) q = omega arith
few_sent b look (event.NoUp p x) q = omega arith
few_sent b look event.Settled q = omega arith

pub few_flat : (i : Basis) (h : History) (q : ℕ) → length (flat i h q) ≤ length (filter_map place_of h)
unfolding flat
few_flat i [] q = omega arith
few_flat i (e ∷ h) q =
    let rest = few_flat i h q in
    let one = few_sent (bridge_after i h) (learned i h) e q in
    let sum = length-append (flat i h q) (sent_by (bridge_after i h) (learned i h) e q) in
    let parts = both_parts place_of e h in
    omega (arith, rest, one, sum, parts)

-- ---- what has left, by port
abbrev others : ℕ → List Left → List Left
others q [] = []
others q (x ∷ xs) = cond (x.port == q) (others q xs) (x ∷ others q xs)

split : (q : ℕ) (xs : List Left) → length xs ≡ length (left_at q xs) + length (others q xs)
split q [] = omega arith
split q (x ∷ xs) =
    let rest = split q xs in
    elim (cases_Bool (x.port == q)) [ inl e ↦ rw e (omega (arith, rest)) | inr e ↦ rw e (omega (arith, rest)) ]

fewer : (p q : ℕ) (xs : List Left) → length (left_at p (others q xs)) ≤ length (left_at p xs)
fewer p q [] = omega arith
fewer p q (x ∷ xs) =
    let rest = fewer p q xs in
    elim (cases_Bool (x.port == q)) [
      | inl e ↦ rw e (elim (cases_Bool (x.port == p)) [ inl f ↦ rw f (omega (arith, rest)) | inr f ↦ rw f (omega (arith, rest)) ])
      | inr e ↦ rw e (elim (cases_Bool (x.port == p)) [ inl f ↦ rw f (omega (arith, rest)) | inr f ↦ rw f (omega (arith, rest)) ])
    ]

lower : (n : ℕ) (xs : List Left) → Each (λ (x : Left). x.port < suc n) xs → Each (λ (x : Left). x.port < n) (others n xs)
lower n [] low = tt
lower n (x ∷ xs) low =
    elim (cases_Bool (x.port == n)) [
      | inl e ↦ rw e (lower n xs low.1)
      | inr e ↦ rw e (let first = low.0 in let other = eqb-false x.port n e in (elim (cases_lt x.port n) [ inl l ↦ l | inr g ↦ absurd (other (omega (arith, first, g))) ], lower n xs low.1))
    ]

-- so many for each of so many ports
abbrev times_of : ℕ → ℕ → ℕ
times_of zero k = 0
times_of (suc n) k = k + times_of n k

at_ports : (n k : ℕ) (xs : List Left) → Each (λ (x : Left). x.port < n) xs → ((q : ℕ) → length (left_at q xs) ≤ k) → length xs ≤ times_of n k
at_ports zero k [] low few = omega arith
at_ports zero k (x ∷ xs) low few = (let first = low.0 in omega (arith, first))
at_ports (suc n) k xs low few =
    let parts = split n xs in
    let here = few n in
    let rest = at_ports n k (others n xs) (lower n xs low) (λ q. let less = fewer q n xs in let all = few q in omega (arith, less, all)) in
    omega (arith, parts, here, rest)

times_is : (n k : ℕ) → times_of n k ≡ n * k
times_is zero k = sym (zero-mul k)
times_is (suc n) k = (let rest = times_is n k in let more = suc-mul n k in omega (arith, rest, more))

-- nothing leaves but at external ports, whose numbers are below 4,160
none_left : (t : Shape) (q : ℕ) → is_external t q ≡ false → (xs : List Left) → Each (λ (x : Left). is_external t x.port ≡ true) xs → left_at q xs ≡ []
none_left t q outer [] outside = refl
none_left t q outer (x ∷ xs) outside = rw other (none_left t q outer xs outside.1)
  where
    both : (b : Bool) → b ≡ true → b ≡ false → ⊥
    both b x y = cc

    other : (x.port == q) ≡ false
    other = elim (cases_Bool (x.port == q)) [
      | inl e ↦ absurd (both (is_external t q) (subst (λ (p : ℕ). is_external t p ≡ true) (eqb-true x.port q e) outside.0) outer)
      | inr e ↦ e
    ]

all_low : (t : Shape) → IsTree t → (xs : List Left) → Each (λ (x : Left). is_external t x.port ≡ true) xs → Each (λ (x : Left). x.port < 4160) xs
all_low t tree [] outside = tt
all_low t tree (x ∷ xs) outside = (
  elim (cases_lt x.port 4160) [
    | inl low ↦ low
    | inr past ↦ absurd (let none = no_port_past t x.port tree.sized past in let is = outside.0 in cc)
  ],
  all_low t tree xs outside.1,
)

-- ---- a run so far
module _ (round : TagRoundTrip) (words : SendsAreWords) (leave : SendsLeaveAsFlat) (law : StepsTell) (stay : StepsStayWritten) (orderly : SettledIsOrderly) where
  module _ (m : Mode) (i : Input) (so_far : List Segment) (done : Stepped) (k : PlaysIn m i so_far done) where
    given : List Given
    given = given_in (marked_each (k.first ∷ k.plays))

    is_orderly : IsOrderly (tree_of i) (bounds_of i) (basis_of i.setup) (given_in (marked_each (k.first ∷ k.plays))) ([] then done.events)
    is_orderly =
        orderly (tree_of i) (bounds_of i) (basis_of i.setup) (start round words leave law stay m i so_far done k) done.world (given_in (marked_each (k.first ∷ k.plays))) ([] then done.events) done.left
        (kept round words leave law stay m i so_far done k) (settled round words leave law stay m i so_far done k)

    reversed : reverse ([] then done.events) ≡ done.events
    reversed = reverse_then [] done.events

    entered : length (filter_map place_of done.events) ≡ length (arrivals_in so_far)
    entered =
        let t : Shape = tree_of i in
        let g : List Given = given_in (marked_each (k.first ∷ k.plays)) in
        let end = kept round words leave law stay m i so_far done k in
        let events = each_new (IsOfArrival t g) [] done.events end.names.events in
        let named : (p : ℕ) → is_external t p ≡ true → (n : ℕ) → times n (firsts (of_port p done.events)) ≡ times n (indices_of (arrivals_at p g)) = λ p ext n.
        ap (λ (es : List Event). times n (firsts (of_port p es))) (sym reversed) ∙ is_orderly.named p ext n in
        let once = named_once t g g done.events events (came t (bounds_of i) (marked_each (k.first ∷ k.plays)) (begin_of i) k.may) named in
        let first = length_permutation (filter_map place_of done.events) (map (λ (a : Arrival). (a.port, a.index)) (arrivals_of g)) once in
        let size = length-map (arrivals_of g) (λ (a : Arrival). (a.port, a.index)) in
        let all = length_permutation (arrivals_of g) (arrivals_in so_far) (plays_arrivals t (bounds_of i) (basis_in i) (nothing_given ∷ so_far) (k.first ∷ k.plays) (begin_of i) k.play) in
        sym first ∙ (size ∙ sym all)

    decided : length (filter_map number_of done.events) ≡ length (flat_map (λ (s : Segment). filter_map (command_of (basis_in i)) s.commands) so_far)
    decided =
        ap (λ (es : List Event). length (filter_map number_of es)) (sym reversed)
        ∙ (ap (λ (ns : List ℕ). length ns) is_orderly.commands
        ∙ (length-range_with_len 1 (length (commands_of (given_in (marked_each (k.first ∷ k.plays)))))
        ∙ ap (λ (cs : List Command). length cs) (commands round words leave law stay m i so_far done k)))

    left_each : (q : ℕ) → length (left_at q done.left) ≤ length (arrivals_in so_far)
    left_each q =
        let t : Shape = tree_of i in
        let g : List Given = given_in (marked_each (k.first ∷ k.plays)) in
        let h : History = [] then done.events in
        let b : Basis = basis_with (basis_of i.setup) g in
        let begun = start round words leave law stay m i so_far done k in
        let end = kept round words leave law stay m i so_far done k in
        let outside = (passed round words leave law stay m i so_far done k).outside in
        let stands = kept_stands t (bounds_of i) (basis_of i.setup) begun done.world g h done.left end in
        let told : length (filter_map place_of h) ≡ length (arrivals_in so_far) =
        (let sum = told_then place_of done.events [] in let its = entered in omega (arith, sum, its)) in
        elim (cases_Bool (is_external t q)) [
          | inl ext ↦
              let even = ap (λ (xs : List Sent). length xs) (stands.even q ext) in
              let parts = length-append (left_at q done.left) (owed_at t done.world q) in
              let few = few_flat b h q in
              omega (arith, even, parts, few, told)
          | inr outer ↦ let none = ap (λ (xs : List Sent). length xs) (none_left t q outer done.left outside) in omega (arith, none)
        ]

    left_few : length done.left ≤ 4160 * length (arrivals_in so_far)
    left_few =
        let t : Shape = tree_of i in
        let begun = start round words leave law stay m i so_far done k in
        let outside = (passed round words leave law stay m i so_far done k).outside in
        let low : Each (λ (x : Left). x.port < 4160) done.left = all_low t begun.setting.tree done.left outside in
        let most = at_ports 4160 (length (arrivals_in so_far)) done.left low left_each in
        let product = times_is 4160 (length (arrivals_in so_far)) in
        subst (λ (n : ℕ). length done.left ≤ n) product most

    few : AreFew i so_far done
    few =
        let c = count_all done.events none_counted in
        let es = c.entered in
        let ds = c.decided in
        let e = entered in
        let d = decided in
        record { entered = omega (arith, es, e); decided = omega (arith, ds, d); left = left_few; left_each = left_each }

  pub runs_are_few : RunsAreFew
  runs_are_few = few
