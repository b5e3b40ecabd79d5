-- What arrives over wires: at each wired port, in order, what leaves at the far end.
use Rattle.std.proofs.Common.{◌≡◌, ◌≢◌, ℕ, zero, suc, ◌+◌, ◌-◌, ◌<◌, ◌≤◌, ◌==◌, ◌&&◌, ◌++◌, Bool, true, false, cond, List, [], ◌∷◌, length, map, Option, Some, None, refl, ap, sym, ◌∙◌, subst, arith, inl, inr}
use Rattle.std.specs.Prelude.{flat_map, filter, All}
use Rattle.std.specs.List.{range_with_len}
use Rattle.std.proofs.lemmas.Bool.{cases_Bool, cases_eq, cases_lt, eq-eqb, ne_eqb, eqb-true, and_parts}
use Rattle.std.proofs.lemmas.List.{append_assoc, append-nil, length-append}
use Rattle.exb_model.specs.declared.event.Event.{Event}
use Rattle.exb_model.specs.declared.event.Event.TheVariants as event
use Rattle.exb_model.specs.declared.event.Cause.{Cause}
use Rattle.exb_model.specs.declared.command.Command.TheVariants as command
use Rattle.exb_model.specs.Configuration.{Bridge}
use Rattle.exb_model.specs.EagerHistory.{arrival_event, is_relayed, opening, with_ups, with_tick, up_event, decided, refusal_of, risen}
use Rattle.exb_model.specs.FlatBridge.{Sent, sent_by, flat}
use Rattle.exb_model.specs.History.{Basis, History, bridge_after, command_of}
use Rattle.exb_model.specs.declared.arrival.Arrival.{Arrival}
use Rattle.exb_model.specs.Input.{Input, Coming, Ordered, Captured, arrivals_at, arrivals_from, bounds_of, tree_of}
use Rattle.exb_model.specs.Learning.{Look, learned}
use Rattle.exb_model.specs.Lists.{Pairwise, numbered}
use Rattle.exb_model.specs.Ports.{below}
use Rattle.exb_model.specs.Refusals.{refusal}
use Rattle.exb_model.specs.Setup.{Limits}
use Rattle.exb_model.specs.Tree.{Shape, IsTree, external_ports, is_external, opening_ports}
use Rattle.exb_model.proofs.Validity.{no_port_past}
use Rattle.exb_net_spec.specs.declared.wires.End.{End}
use Rattle.exb_net_spec.specs.declared.wires.Wire.{Wire}
use Rattle.exb_net_spec.specs.Nets.{Net, IsEnd, IsNet, across, ends_of, far_end, first_or}
use Rattle.exb_net_spec.specs.NetHistory.{Crossing, Due, Histories, State, NetEager, Goes, GoesSince, arrival_of, arrives, basis_in, comes, crosses, delivered, delivered_times, due_second, dues, event_of, grown_by, happens, named_at, openings, ticked, with_history}
use Rattle.exb_net_spec.specs.BridgeHistories.{CrossingsArrive, IsEventOf, arrivals_as, events_at, is_at_port, leaves_at}
use Rattle.exb_net_spec.proofs.Forest.{across_on, none_some, some_same}
use Rattle.exb_net_spec.proofs.PortRecords.{Each, IsOfRecord, IsRecordOf, IsRecorded, dues_recorded}
use Rattle.exb_net_spec.proofs.QueueBound.{Apart, EndsApart, NotIn, end_at, ends_apart, far_back, ports_apart, with_here, with_there}

-- ---- arrivals of a port
-- its events, the oldest first, each with the bridge before it
unfoldable pub entries_at : Basis → History → ℕ → List (Event × Bridge)
entries_at i [] q = []
entries_at i (e ∷ h) q = entries_at i h q ++ cond (is_at_port q e) ((e, bridge_after i h) ∷ []) []

abbrev pub IsEntry : Arrival → Event × Bridge → Type 0
IsEntry a x = x.0 ≡ arrival_event x.1 a

pub entries_other : (i : Basis) (e : Event) (h : History) (q : ℕ) → is_at_port q e ≡ false → entries_at i (e ∷ h) q ≡ entries_at i h q
unfolding entries_at
entries_other i e h q not = ap (λ (c : Bool). entries_at i h q ++ cond c ((e, bridge_after i h) ∷ []) []) not ∙ append-nil (entries_at i h q)

pub entries_settled : (i : Basis) (h : History) (q : ℕ) → entries_at i (event.Settled ∷ h) q ≡ entries_at i h q
entries_settled i h q = entries_other i event.Settled h q refl

pub entries_more : (i : Basis) (e : Event) (h : History) (q : ℕ) → is_at_port q e ≡ true → entries_at i (e ∷ h) q ≡ entries_at i h q ++ (e, bridge_after i h) ∷ []
unfolding entries_at
entries_more i e h q is = ap (λ (c : Bool). entries_at i h q ++ cond c ((e, bridge_after i h) ∷ []) []) is

pub entries_tick : (i : Basis) (seconds : ℕ) (h : History) (q : ℕ) → entries_at i (with_tick seconds h) q ≡ entries_at i h q
entries_tick i seconds h q = elim (cases_Bool (seconds == 0)) [
  | inl e ↦ rw e refl
  | inr e ↦ rw e (entries_other i (event.Tick seconds) h q refl)
]

-- as many as a history names
pub named_entries : (i : Basis) (h : History) (q : ℕ) → named_at h q ≡ length (entries_at i h q)
unfolding named_at entries_at
named_entries i [] q = refl
named_entries i (e ∷ h) q = by_kind e (named_entries i h q)
  where
    plus : (c : Bool) (x : Event) → named_at h q ≡ length (entries_at i h q) → cond c (suc (named_at h q)) (named_at h q) ≡ length (entries_at i h q ++ cond c ((x, bridge_after i h) ∷ []) [])
    plus true x was = let more = length-append (entries_at i h q) ((x, bridge_after i h) ∷ []) in omega (arith, was, more)
    plus false x was = was ∙ ap (λ (xs : List (Event × Bridge)). length xs) (sym (append-nil (entries_at i h q)))

    by_kind : (e : Event) → named_at h q ≡ length (entries_at i h q) → named_at (e ∷ h) q ≡ length (entries_at i h q ++ cond (is_at_port q e) ((e, bridge_after i h) ∷ []) [])
    by_kind (event.Relay p n t f) was = plus (p == q) (event.Relay p n t f) was
    by_kind (event.Ignored p n) was = plus (p == q) (event.Ignored p n) was
    by_kind (event.Tick seconds) was = plus false (event.Tick seconds) was
    by_kind (event.Commit n) was = plus false (event.Commit n) was
    by_kind (event.Refuse n x) was = plus false (event.Refuse n x) was
    by_kind (event.Up p) was = plus false (event.Up p) was
    by_kind (event.NoUp p x) was = plus false (event.NoUp p x) was
    by_kind event.Settled was = plus false event.Settled was

-- the event of an arrival is at its port alone
pub at_port : (b : Bridge) (a : Arrival) (q : ℕ) → is_at_port q (arrival_event b a) ≡ (a.port == q)
at_port b a q = elim (cases_Bool (is_relayed b a.port a.bytes)) [ inl e ↦ rw e refl | inr e ↦ rw e refl ]

pub is_event_of : (b : Bridge) (a : Arrival) → IsEventOf a (arrival_event b a)
is_event_of b a = elim (cases_Bool (is_relayed b a.port a.bytes)) [ inl e ↦ rw e refl | inr e ↦ rw e (refl, refl) ]

-- so entries are events of arrivals
both_events : (xs ys : List (Event × Bridge)) → map (λ (x : Event × Bridge). x.0) (xs ++ ys) ≡ map (λ (x : Event × Bridge). x.0) xs ++ map (λ (x : Event × Bridge). x.0) ys
both_events [] ys = refl
both_events (x ∷ xs) ys = ap (λ (zs : List Event). x.0 ∷ zs) (both_events xs ys)

events_of : (i : Basis) (h : History) (q : ℕ) → map (λ (x : Event × Bridge). x.0) (entries_at i h q) ≡ events_at h q
unfolding entries_at events_at
events_of i [] q = refl
events_of i (e ∷ h) q =
    both_events (entries_at i h q) (cond (is_at_port q e) ((e, bridge_after i h) ∷ []) [])
    ∙ (ap (λ (xs : List Event). xs ++ map (λ (x : Event × Bridge). x.0) (cond (is_at_port q e) ((e, bridge_after i h) ∷ []) [])) (events_of i h q) ∙ ap (λ (xs : List Event). events_at h q ++ xs) (by_test (is_at_port q e)))
  where
    by_test : (c : Bool) → map (λ (x : Event × Bridge). x.0) (cond c ((e, bridge_after i h) ∷ []) []) ≡ cond c (e ∷ []) []
    by_test true = refl
    by_test false = refl

pairs_of : (as_ : List Arrival) (xs : List (Event × Bridge)) → Pairwise IsEntry as_ xs → Pairwise IsEventOf as_ (map (λ (x : Event × Bridge). x.0) xs)
pairs_of [] [] all = tt
pairs_of [] (x ∷ xs) all = absurd all
pairs_of (a ∷ as_) [] all = absurd all
pairs_of (a ∷ as_) (x ∷ xs) all = (subst (IsEventOf a) (sym all.0) (is_event_of x.1 a), pairs_of as_ xs all.1)

pub told_events : (i : Basis) (h : History) (q : ℕ) (as_ : List Arrival) → Pairwise IsEntry as_ (entries_at i h q) → Pairwise IsEventOf as_ (events_at h q)
told_events i h q as_ all = subst (Pairwise IsEventOf as_) (events_of i h q) (pairs_of as_ (entries_at i h q) all)

-- a command's is at none
pub command_no_port : (t : Shape) (l : Limits) (i : Basis) (b : Bridge) (q k : ℕ) → is_at_port q (decided k (refusal_of t l b (command_of i k))) ≡ false
command_no_port t l i b q k = by_cause (refusal_of t l b (command_of i k))
  where
    by_cause : (o : Option Cause) → is_at_port q (decided k o) ≡ false
    by_cause None = refl
    by_cause (Some x) = refl

-- ---- what events send
sent_none : (i : Basis) (h : History) (e : Event) (q : ℕ) → sent_by (bridge_after i h) (learned i h) e q ≡ [] → flat i (e ∷ h) q ≡ flat i h q
unfolding flat
sent_none i h e q none = ap (λ (xs : List Sent). flat i h q ++ xs) none ∙ append-nil (flat i h q)

pub flat_settled : (i : Basis) (h : History) (q : ℕ) → flat i (event.Settled ∷ h) q ≡ flat i h q
flat_settled i h q = sent_none i h event.Settled q refl

pub flat_tick : (i : Basis) (seconds : ℕ) (h : History) (q : ℕ) → flat i (with_tick seconds h) q ≡ flat i h q
flat_tick i seconds h q = elim (cases_Bool (seconds == 0)) [
  | inl e ↦ rw e refl
  | inr e ↦ rw e (sent_none i h (event.Tick seconds) q refl)
]

-- ---- the opening
up_no_port : (p q : ℕ) (o : Option Cause) → is_at_port q (risen p o) ≡ false
up_no_port p q None = refl
up_no_port p q (Some x) = refl

up_none : (b : Bridge) (look : Look) (p q : ℕ) (o : Option Cause) → sent_by b look (risen p o) q ≡ []
up_none b look p q None = refl
up_none b look p q (Some x) = refl

module _ (t : Shape) (l : Limits) (i : Basis) (q : ℕ) where
  entries_ups : (ps : List ℕ) (h : History) → entries_at i (with_ups t l i h ps) q ≡ entries_at i h q
  entries_ups [] h = refl
  entries_ups (p ∷ ps) h =
      let e : Event = up_event t l (bridge_after i h) p in
      entries_ups ps (e ∷ h) ∙ entries_other i e h q (up_no_port p q (refusal t l (bridge_after i h) (command.Up p)))

  flat_ups : (ps : List ℕ) (h : History) → flat i (with_ups t l i h ps) q ≡ flat i h q
  flat_ups [] h = refl
  flat_ups (p ∷ ps) h =
      let e : Event = up_event t l (bridge_after i h) p in
      flat_ups ps (e ∷ h) ∙ sent_none i h e q (up_none (bridge_after i h) (learned i h) p q (refusal t l (bridge_after i h) (command.Up p)))

  pub entries_opening : entries_at i (opening t l i) q ≡ []
  unfolding entries_at
  entries_opening = entries_settled i (with_ups t l i [] (opening_ports t)) q ∙ entries_ups (opening_ports t) []

  pub flat_opening : flat i (opening t l i) q ≡ []
  unfolding flat
  flat_opening = flat_settled i (with_ups t l i [] (opening_ports t)) q ∙ flat_ups (opening_ports t) []

-- ---- pairs
pub pairs_more : {X Y : Type 0} (R : X → Y → Type 0) (xs : List X) (ys : List Y) (x : X) (y : Y) → Pairwise R xs ys → R x y → Pairwise R (xs ++ x ∷ []) (ys ++ y ∷ [])
pairs_more R [] [] x y all r = (r, tt)
pairs_more R [] (z ∷ ys) x y all r = absurd all
pairs_more R (z ∷ xs) [] x y all r = absurd all
pairs_more R (z ∷ xs) (w ∷ ys) x y all r = (all.0, pairs_more R xs ys x y all.1 r)

pub pairs_long : {X Y : Type 0} (R : X → Y → Type 0) (xs : List X) (ys : List Y) → Pairwise R xs ys → length xs ≡ length ys
pairs_long R [] [] all = refl
pairs_long R [] (z ∷ ys) all = absurd all
pairs_long R (z ∷ xs) [] all = absurd all
pairs_long R (z ∷ xs) (w ∷ ys) all = ap suc (pairs_long R xs ys all.1)

pub arrivals_long : (p n : ℕ) (xs : List Sent) → length (arrivals_as p n xs) ≡ length xs
arrivals_long p n [] = refl
arrivals_long p n (x ∷ xs) = ap suc (arrivals_long p (suc n) xs)

pub arrivals_more : (p n : ℕ) (xs : List Sent) (x : Sent) → arrivals_as p n (xs ++ x ∷ []) ≡ arrivals_as p n xs ++ record { port = p; index = n + length xs; moment = x.0; bytes = x.1 } ∷ []
arrivals_more p n [] x = ap (λ (k : ℕ). record { port = p; index = k; moment = x.0; bytes = x.1 } ∷ []) (omega arith)
arrivals_more p n (y ∷ xs) x =
    let later : suc n + length xs ≡ n + suc (length xs) = omega arith in
    ap (λ (zs : List Arrival). record { port = p; index = n; moment = y.0; bytes = y.1 } ∷ zs)
    (arrivals_more p (suc n) xs x ∙ ap (λ (k : ℕ). arrivals_as p (suc n) xs ++ record { port = p; index = k; moment = x.0; bytes = x.1 } ∷ []) later)

-- ---- ends
-- what holds of all ends of wires holds of the far end of each
pub far_among : (P : End → Type 0) (ws : List Wire) → All P (ends_of ws) → (b q : ℕ) (e : End) → far_end ws b q ≡ Some e → P e
unfolding far_end
far_among P [] all b q e same = absurd (none_some same)
far_among P (x ∷ ws) all b q e same = by_first (across x b q) refl same (λ k. far_among P ws (λ k d h. all (suc (suc k)) d (omega (arith, h))) b q e k)
  where
    by_first : (o : Option End) → across x b q ≡ o → first_or o (far_end ws b q) ≡ Some e → (far_end ws b q ≡ Some e → P e) → P e
    by_first (Some y) is k rest = elim (across_on x b q e (is ∙ k)) [
      | inl i ↦ subst P (sym i.2) (all 1 x.b (omega arith))
      | inr i ↦ subst P (sym i.2) (all 0 x.a (omega arith))
    ]
    by_first None is k rest = rest k

external_low : (t : Shape) (q : ℕ) → IsTree t → is_external t q ≡ true → q < 4160
external_low t q tree is = elim (cases_lt q 4160) [
  | inl low ↦ low
  | inr past ↦ absurd (let none = no_port_past t q tree.sized past in cc)
]

not_missing : (test : ℕ → Bool) (p n a : ℕ) → test p ≡ true → a ≤ p → p < a + n → NotIn p (filter test (range_with_len a n)) → ⊥
not_missing test p zero a is low high none = omega (arith, low, high)
not_missing test p (suc n) a is low high none = elim (cases_eq p a) [
  | inl same ↦
      let here : test a ≡ true = ap test (sym same) ∙ is in
      (subst (λ (c : Bool). NotIn p (cond c (a ∷ filter test (range_with_len (a + 1) n)) (filter test (range_with_len (a + 1) n)))) here none).0 same
  | inr other ↦ not_missing test p n (a + 1) is (omega (arith, low, other)) (omega (arith, high)) (elim (cases_Bool (test a)) [
    | inl e ↦ (subst (λ (c : Bool). NotIn p (cond c (a ∷ filter test (range_with_len (a + 1) n)) (filter test (range_with_len (a + 1) n)))) e none).1
    | inr e ↦ subst (λ (c : Bool). NotIn p (cond c (a ∷ filter test (range_with_len (a + 1) n)) (filter test (range_with_len (a + 1) n)))) e none
  ])
]

below_missing : (test : ℕ → Bool) (p n : ℕ) → test p ≡ true → p < n → NotIn p (filter test (below n)) → ⊥
unfolding below
below_missing test p n is low none = not_missing test p n 0 is (omega arith) (omega (arith, low)) none

external_there : (t : Shape) (p : ℕ) → is_external t p ≡ true → p < 4160 → NotIn p (external_ports t) → ⊥
unfolding external_ports
external_there t p is low none = below_missing (is_external t) p 4160 is low none

-- ---- the queue
-- the frames that are on their way to a port
pub queued : ℕ → ℕ → List Crossing → List Sent
queued c q [] = []
queued c q (x ∷ xs) = cond (x.bridge == c && x.port == q) ((x.moment, x.bytes) ∷ queued c q xs) (queued c q xs)

pub queued_both : (c q : ℕ) (xs ys : List Crossing) → queued c q (xs ++ ys) ≡ queued c q xs ++ queued c q ys
unfolding queued
queued_both c q [] ys = refl
queued_both c q (x ∷ xs) ys = elim (cases_Bool (x.bridge == c && x.port == q)) [
  | inl e ↦ rw e (ap (λ (zs : List Sent). (x.moment, x.bytes) ∷ zs) (queued_both c q xs ys))
  | inr e ↦ rw e (queued_both c q xs ys)
]

all_queued : (c q : ℕ) (xs : List Sent) → queued c q (crosses (Some (end_at c q)) xs) ≡ xs
unfolding queued
all_queued c q [] = refl
all_queued c q (x ∷ xs) = rw (eq-eqb c c refl, eq-eqb q q refl) (ap (λ (zs : List Sent). (x.0, x.1) ∷ zs) (all_queued c q xs))

none_queued : (c q : ℕ) (e : End) (xs : List Sent) → (e.bridge == c && e.port == q) ≡ false → queued c q (crosses (Some e) xs) ≡ []
unfolding queued
none_queued c q e [] not = refl
none_queued c q e (x ∷ xs) not = rw not (none_queued c q e xs not)

none_chosen : (f : ℕ → List Sent) (p : ℕ) (qs : List ℕ) → NotIn p qs → flat_map (λ (q : ℕ). cond (q == p) (f q) []) qs ≡ []
none_chosen f p [] none = refl
none_chosen f p (q ∷ qs) none = rw (ne_eqb q p (λ e. none.0 (sym e))) (none_chosen f p qs none.1)

one_chosen : (f : ℕ → List Sent) (p : ℕ) (qs : List ℕ) → Apart qs → (NotIn p qs → ⊥) → flat_map (λ (q : ℕ). cond (q == p) (f q) []) qs ≡ f p
one_chosen f p [] apart there = absurd (there tt)
one_chosen f p (q ∷ qs) apart there = elim (cases_eq q p) [
  | inl same ↦
      rw (eq-eqb q p same) (ap (λ (xs : List Sent). f q ++ xs) (none_chosen f p qs (subst (λ (z : ℕ). NotIn z qs) same apart.0)) ∙ (append-nil (f q) ∙ ap f same))
  | inr other ↦ rw (ne_eqb q p other) (one_chosen f p qs apart.1 (λ none. there ((λ e. other (sym e)), none)))
]

no_ports : (qs : List ℕ) → flat_map {A = Sent} (λ (q : ℕ). []) qs ≡ []
no_ports [] = refl
no_ports (q ∷ qs) = no_ports qs

-- ---- one wired port
module _ (n : Net) (net : IsNet n) (c q : ℕ) (e : End) (wired : far_end n.wires c q ≡ Some e) where
  ends : EndsApart (ends_of n.wires)
  ends = ends_apart (ends_of n.wires) net.apart

  back : far_end n.wires e.bridge e.port ≡ Some (end_at c q)
  back = far_back n.wires ends c q e wired

  far : IsEnd n e
  far = far_among (IsEnd n) n.wires net.ends c q e wired

  near : IsEnd n (end_at c q)
  near = far_among (IsEnd n) n.wires net.ends e.bridge e.port (end_at c q) back

  -- no other port's wire leads here
  from_port : (b p : ℕ) (xs : List Sent) → queued c q (crosses (far_end n.wires b p) xs) ≡ cond (b == e.bridge) (cond (p == e.port) xs []) []
  unfolding queued
  from_port b p xs = elim (cases_eq b e.bridge) [
    | inl is ↦ elim (cases_eq p e.port) [
      | inl at ↦
          let here : far_end n.wires b p ≡ Some (end_at c q) = ap (λ (z : ℕ). far_end n.wires z p) is ∙ (ap (far_end n.wires e.bridge) at ∙ back) in
          ap (λ (o : Option End). queued c q (crosses o xs)) here ∙ (all_queued c q xs ∙ sym (rw (eq-eqb b e.bridge is, eq-eqb p e.port at) refl))
      | inr at ↦ other (far_end n.wires b p) refl (λ z. at (ap (λ (f : End). f.port) z)) ∙ sym (rw (eq-eqb b e.bridge is, ne_eqb p e.port at) refl)
    ]
    | inr is ↦ other (far_end n.wires b p) refl (λ z. is (ap (λ (f : End). f.bridge) z)) ∙ sym (rw (ne_eqb b e.bridge is) refl)
  ]
    where
      other : (o : Option End) → far_end n.wires b p ≡ o → (end_at b p ≡ e → ⊥) → queued c q (crosses o xs) ≡ []
      other None is not = refl
      other (Some f) is not = elim (cases_Bool (f.bridge == c && f.port == q)) [
        | inr away ↦ none_queued c q f xs away
        | inl here ↦
            let parts = and_parts (f.bridge == c) (f.port == q) here in
            let there : far_end n.wires f.bridge f.port ≡ Some (end_at b p) = far_back n.wires ends b p f is in
            let back_here : far_end n.wires c q ≡ Some (end_at b p) = ap (λ (z : ℕ). far_end n.wires z q) (sym (eqb-true f.bridge c parts.0)) ∙ (ap (far_end n.wires f.bridge) (sym (eqb-true f.port q parts.1)) ∙ there) in
            absurd (not (some_same (sym back_here ∙ wired)))
      ]

  from_ports : (b : ℕ) (f : ℕ → List Sent) (ps : List ℕ) → queued c q (flat_map (λ (p : ℕ). crosses (far_end n.wires b p) (f p)) ps) ≡ flat_map (λ (p : ℕ). cond (b == e.bridge) (cond (p == e.port) (f p) []) []) ps
  unfolding queued
  from_ports b f [] = refl
  from_ports b f (p ∷ ps) =
      queued_both c q (crosses (far_end n.wires b p) (f p)) (flat_map (λ (p : ℕ). crosses (far_end n.wires b p) (f p)) ps)
      ∙ (ap (λ (xs : List Sent). xs ++ queued c q (flat_map (λ (p : ℕ). crosses (far_end n.wires b p) (f p)) ps)) (from_port b p (f p))
      ∙ ap (λ (xs : List Sent). cond (b == e.bridge) (cond (p == e.port) (f p) []) [] ++ xs) (from_ports b f ps))

  sends : ℕ → History → Event → ℕ → List Sent
  sends b h ev p = sent_by (bridge_after (basis_in n b) h) (learned (basis_in n b) h) ev p

  -- of what an event sends, what leaves at the far end is on its way
  grown_here : (h : History) (ev : Event) → queued c q (grown_by n e.bridge h ev) ≡ sends e.bridge h ev e.port
  unfolding grown_by sends
  grown_here h ev =
      let t : Shape = tree_of (n.input e.bridge) in
      from_ports e.bridge (sends e.bridge h ev) (external_ports t)
      ∙ (ap (λ (z : Bool). flat_map (λ (p : ℕ). cond z (cond (p == e.port) (sends e.bridge h ev p) []) []) (external_ports t)) (eq-eqb e.bridge e.bridge refl)
      ∙ one_chosen (sends e.bridge h ev) e.port (external_ports t) (ports_apart t)
      (external_there t e.port far.port (external_low t e.port (net.setups e.bridge far.bridge).tree far.port)))

  grown_there : (b : ℕ) (h : History) (ev : Event) → b ≢ e.bridge → queued c q (grown_by n b h ev) ≡ []
  unfolding grown_by sends
  grown_there b h ev other =
      let t : Shape = tree_of (n.input b) in
      from_ports b (sends b h ev) (external_ports t)
      ∙ (ap (λ (z : Bool). flat_map (λ (p : ℕ). cond z (cond (p == e.port) (sends b h ev p) []) []) (external_ports t)) (ne_eqb b e.bridge other) ∙ no_ports (external_ports t))

  -- what leaves grows by what is on its way more
  leaves_more : (b : ℕ) (ev : Event) (hs : Histories) → leaves_at n (with_history b (event.Settled ∷ ev ∷ hs b) hs) e ≡ leaves_at n hs e ++ queued c q (grown_by n b (hs b) ev)
  unfolding flat sends
  leaves_more b ev hs =
      let new : History = event.Settled ∷ ev ∷ hs b in
      let i : Basis = basis_in n e.bridge in
      elim (cases_eq e.bridge b) [
        | inl same ↦
            ap (λ (h : History). flat i h e.port) (with_here b e.bridge new hs same)
            ∙ (ap (λ (z : ℕ). flat i (event.Settled ∷ ev ∷ hs z) e.port) (sym same)
            ∙ (flat_settled i (ev ∷ hs e.bridge) e.port
            ∙ (ap (λ (xs : List Sent). flat i (hs e.bridge) e.port ++ xs) (sym (grown_here (hs e.bridge) ev))
            ∙ ap (λ (z : ℕ). flat i (hs e.bridge) e.port ++ queued c q (grown_by n z (hs z) ev)) same)))
        | inr other ↦
            ap (λ (h : History). flat i h e.port) (with_there b e.bridge new hs other)
            ∙ (sym (append-nil (flat i (hs e.bridge) e.port)) ∙ ap (λ (xs : List Sent). flat i (hs e.bridge) e.port ++ xs) (sym (grown_there b (hs b) ev (λ z. other (sym z)))))
      ]

  -- ---- what has arrived, and what is on its way
  pub record HaveArrived (s : State) : Type 0 where
    pub come : List Sent
    pub told : Pairwise IsEntry (arrivals_as q 1 come) (entries_at (basis_in n c) (s.histories c) q)
    pub rest : leaves_at n s.histories e ≡ come ++ queued c q s.queue

  same_entries : (b : ℕ) (ev : Event) (hs : Histories) → (b ≡ c → is_at_port q ev ≡ false) → entries_at (basis_in n c) (with_history b (event.Settled ∷ ev ∷ hs b) hs c) q ≡ entries_at (basis_in n c) (hs c) q
  same_entries b ev hs not =
      let new : History = event.Settled ∷ ev ∷ hs b in
      let i : Basis = basis_in n c in
      elim (cases_eq c b) [
        | inl same ↦
            ap (λ (h : History). entries_at i h q) (with_here b c new hs same)
            ∙ (entries_settled i (ev ∷ hs b) q ∙ (entries_other i ev (hs b) q (not (sym same)) ∙ ap (λ (z : ℕ). entries_at i (hs z) q) (sym same)))
        | inr other ↦ ap (λ (h : History). entries_at i h q) (with_there b c new hs other)
      ]

  on_its_way : (come : List Sent) (before more : List Crossing) (left : List Sent) → left ≡ come ++ queued c q before → left ++ queued c q more ≡ come ++ queued c q (before ++ more)
  on_its_way come before more left is =
      ap (λ (xs : List Sent). xs ++ queued c q more) is
      ∙ (append_assoc come (queued c q before) (queued c q more) ∙ ap (λ (xs : List Sent). come ++ xs) (sym (queued_both c q before more)))

  -- an event of another bridge or port
  pub elsewhere : (b : ℕ) (ev : Event) (s : State) → (b ≡ c → is_at_port q ev ≡ false) → HaveArrived s → HaveArrived (happens n b ev s)
  elsewhere b ev s not a =
      record {
        come = a.come;
        told = subst (Pairwise IsEntry (arrivals_as q 1 a.come)) (sym (same_entries b ev s.histories not)) a.told;
        rest = leaves_more b ev s.histories ∙ on_its_way a.come s.queue (grown_by n b (s.histories b) ev) (leaves_at n s.histories e) a.rest;
      }

  -- the first of the queue, which is on its way there
  comes_here : (x : Crossing) (xs : List Crossing) (hs : Histories) → x.bridge ≡ c → x.port ≡ q → HaveArrived (record { histories = hs; queue = x ∷ xs }) → HaveArrived (arrives n x (record { histories = hs; queue = xs }))
  unfolding queued
  comes_here x xs hs bridge port a =
      let b : Bridge = bridge_after (basis_in n x.bridge) (hs x.bridge) in
      let arrival : Arrival = arrival_of x (hs x.bridge) in
      let ev : Event = arrival_event b arrival in
      let sent : Sent = (x.moment, x.bytes) in
      let new : History = event.Settled ∷ ev ∷ hs x.bridge in
      let more : List Crossing = grown_by n x.bridge (hs x.bridge) ev in
      let i : Basis = basis_in n c in
      let entry : Event × Bridge = (ev, bridge_after i (hs x.bridge)) in
      let entries : entries_at i (with_history x.bridge new hs c) q ≡ entries_at i (hs c) q ++ entry ∷ [] =
      ap (λ (h : History). entries_at i h q) (with_here x.bridge c new hs (sym bridge))
      ∙ (entries_settled i (ev ∷ hs x.bridge) q
      ∙ (entries_more i ev (hs x.bridge) q (at_port b arrival q ∙ eq-eqb x.port q port) ∙ ap (λ (z : ℕ). entries_at i (hs z) q ++ entry ∷ []) bridge)) in
      let counted : named_at (hs x.bridge) x.port ≡ length a.come =
      ap (λ (z : ℕ). named_at (hs z) x.port) bridge
      ∙ (ap (named_at (hs c)) port
      ∙ (named_entries i (hs c) q ∙ (sym (pairs_long IsEntry (arrivals_as q 1 a.come) (entries_at i (hs c) q) a.told) ∙ arrivals_long q 1 a.come))) in
      let index : suc (named_at (hs x.bridge) x.port) ≡ 1 + length a.come = omega (arith, counted) in
      let same_arrival : arrival ≡ record { port = q; index = 1 + length a.come; moment = x.moment; bytes = x.bytes } =
      ap (λ (z : ℕ). record { port = z; index = suc (named_at (hs x.bridge) x.port); moment = x.moment; bytes = x.bytes }) port
      ∙ ap (λ (z : ℕ). record { port = q; index = z; moment = x.moment; bytes = x.bytes }) index in
      let is : IsEntry (record { port = q; index = 1 + length a.come; moment = x.moment; bytes = x.bytes }) entry =
      ap (λ (z : ℕ). arrival_event (bridge_after (basis_in n z) (hs x.bridge)) arrival) bridge ∙ ap (arrival_event (bridge_after i (hs x.bridge))) same_arrival in
      let is_first : (x.bridge == c && x.port == q) ≡ true = rw (eq-eqb x.bridge c bridge, eq-eqb x.port q port) refl in
      let first : leaves_at n hs e ≡ (a.come ++ sent ∷ []) ++ queued c q xs =
      a.rest
      ∙ (ap (λ (z : Bool). a.come ++ cond z (sent ∷ queued c q xs) (queued c q xs)) is_first
      ∙ sym (append_assoc a.come (sent ∷ []) (queued c q xs))) in
      record {
        come = a.come ++ sent ∷ [];
        told = subst (λ (zs : List Arrival). Pairwise IsEntry zs (entries_at i (with_history x.bridge new hs c) q)) (sym (arrivals_more q 1 a.come sent))
            (subst (Pairwise IsEntry (arrivals_as q 1 a.come ++ record { port = q; index = 1 + length a.come; moment = x.moment; bytes = x.bytes } ∷ [])) (sym entries)
            (pairs_more IsEntry (arrivals_as q 1 a.come) (entries_at i (hs c) q) (record { port = q; index = 1 + length a.come; moment = x.moment; bytes = x.bytes }) entry a.told is));
        rest = leaves_more x.bridge ev hs ∙ on_its_way (a.come ++ sent ∷ []) xs more (leaves_at n hs e) first;
      }

  comes_there : (x : Crossing) (xs : List Crossing) (hs : Histories) → (x.bridge == c && x.port == q) ≡ false → HaveArrived (record { histories = hs; queue = x ∷ xs }) → HaveArrived (arrives n x (record { histories = hs; queue = xs }))
  unfolding queued
  comes_there x xs hs not a =
      let b : Bridge = bridge_after (basis_in n x.bridge) (hs x.bridge) in
      let arrival : Arrival = arrival_of x (hs x.bridge) in
      elsewhere x.bridge (arrival_event b arrival) (record { histories = hs; queue = xs })
      (λ same. at_port b arrival q ∙ (ap (λ (z : Bool). z && x.port == q) (sym (eq-eqb x.bridge c same)) ∙ not))
      (record { come = a.come; told = a.told; rest = a.rest ∙ ap (λ (z : Bool). a.come ++ cond z ((x.moment, x.bytes) ∷ queued c q xs) (queued c q xs)) not })

  pub delivered_on : (hs : Histories) (queue : List Crossing) → HaveArrived (record { histories = hs; queue = queue }) → HaveArrived (delivered n hs queue)
  delivered_on hs [] a = a
  delivered_on hs (x ∷ xs) a = elim (cases_Bool (x.bridge == c && x.port == q)) [
    | inl here ↦ (let parts = and_parts (x.bridge == c) (x.port == q) here in comes_here x xs hs (eqb-true x.bridge c parts.0) (eqb-true x.port q parts.1) a)
    | inr away ↦ comes_there x xs hs away a
  ]

  times_on : (k : ℕ) (s : State) → HaveArrived s → HaveArrived (delivered_times n k s)
  unfolding delivered_times
  times_on zero s a = a
  times_on (suc k) s a = times_on k (delivered n s.histories s.queue) (delivered_on s.histories s.queue a)

  abbrev pub HaveAll : Histories → Type 0
  HaveAll hs = HaveArrived (record { histories = hs; queue = [] })

  ticked_on : (seconds : ℕ) (hs : Histories) → HaveAll hs → HaveAll (ticked seconds hs)
  ticked_on seconds hs a =
      record {
        come = a.come;
        told = subst (Pairwise IsEntry (arrivals_as q 1 a.come)) (sym (entries_tick (basis_in n c) seconds (hs c) q)) a.told;
        rest = flat_tick (basis_in n e.bridge) seconds (hs e.bridge) e.port ∙ a.rest;
      }

  -- records come to ports without a wire alone
  abbrev IsApart : Due → Type 0
  IsApart d = (a : Arrival) → d.coming ≡ Captured a → d.bridge ≡ c → a.port ≢ q

  not_here : (d : Due) (h : History) → IsApart d → d.bridge ≡ c → is_at_port q (event_of n d.bridge h d.coming) ≡ false
  not_here d h apart same = by_coming d.coming refl
    where
      by_coming : (x : Coming) → d.coming ≡ x → is_at_port q (event_of n d.bridge h x) ≡ false
      by_coming (Ordered moment k) is = command_no_port (tree_of (n.input d.bridge)) (bounds_of (n.input d.bridge)) (basis_in n d.bridge) (bridge_after (basis_in n d.bridge) h) q k
      by_coming (Captured a) is = at_port (bridge_after (basis_in n d.bridge) h) a q ∙ ne_eqb a.port q (apart a is same)

  abbrev AllApart : List Due → Type 0
  AllApart [] = Unit {0}
  AllApart (d ∷ ds) = IsApart d × AllApart ds

  since_on : (second : ℕ) (ds : List Due) (hs end : Histories) → AllApart ds → HaveAll hs → GoesSince n second ds hs end → HaveAll end
  since_on second [] hs end apart a same = subst HaveAll same a
  since_on second (d ∷ ds) hs end apart a goes =
      let now : Histories = ticked (due_second d - second) hs in
      let begun = elsewhere d.bridge (event_of n d.bridge (now d.bridge) d.coming) (record { histories = now; queue = [] }) (not_here d (now d.bridge) apart.0) (ticked_on (due_second d - second) hs a) in
      since_on (due_second d) ds goes.0 end apart.1 (subst HaveArrived goes.1.is (times_on goes.1.times (comes n d now) begun)) goes.2

  goes_on : (ds : List Due) (hs end : Histories) → AllApart ds → HaveAll hs → Goes n ds hs end → HaveAll end
  goes_on [] hs end apart a same = subst HaveAll same a
  goes_on (d ∷ ds) hs end apart a goes = since_on (due_second d) (d ∷ ds) hs end apart a goes

  opened : HaveAll (openings n)
  unfolding queued
  opened =
      record {
        come = [];
        told = subst (Pairwise IsEntry []) (sym (entries_opening (tree_of (n.input c)) (bounds_of (n.input c)) (basis_in n c) q)) tt;
        rest = flat_opening (tree_of (n.input e.bridge)) (bounds_of (n.input e.bridge)) (basis_in n e.bridge) e.port;
      }

  -- ---- the whole
  no_record : (a : Arrival) (i : Input) → i ≡ n.input c → IsRecordOf i a → a.port ≢ q
  unfolding arrivals_at
  no_record a i is recorded same =
      let none : (n.input c).records q ≡ [] = near.free in
      let empty : arrivals_from a.port 1 0 (i.records a.port) ≡ [] = ap (λ (z : Input). arrivals_from a.port 1 0 (z.records a.port)) is ∙ (ap (λ (z : ℕ). arrivals_from a.port 1 0 ((n.input c).records z)) same ∙ ap (arrivals_from a.port 1 0) none) in
      none_some (sym (none_numbered a.index) ∙ (ap (λ (xs : List Arrival). numbered xs a.index) (sym empty) ∙ recorded))
    where
      none_numbered : (k : ℕ) → ◌≡◌ {A = Option Arrival} (numbered [] k) None
      none_numbered zero = refl
      none_numbered (suc k) = refl

  apart_of : (d : Due) → IsRecorded n d → IsApart d
  apart_of d recorded a is same = no_record a (n.input d.bridge) (ap n.input same) (subst (IsOfRecord (n.input d.bridge)) is recorded)

  all_apart : (ds : List Due) → Each (IsRecorded n) ds → AllApart ds
  all_apart [] all = tt
  all_apart (d ∷ ds) all = (apart_of d all.0, all_apart ds all.1)

  pub arrived_at_end : (hs : Histories) → NetEager n hs → HaveAll hs
  arrived_at_end hs k = goes_on (dues n) (openings n) hs (all_apart (dues n) (dues_recorded n)) opened k.goes

pub crossings_enter : (n : Net) (hs : Histories) (b q : ℕ) (e : End) → IsNet n → NetEager n hs → far_end n.wires b q ≡ Some e → Pairwise IsEntry (arrivals_as q 1 (leaves_at n hs e)) (entries_at (basis_in n b) (hs b) q)
unfolding queued
crossings_enter n hs b q e net k wired =
    let a = arrived_at_end n net b q e wired hs k in
    subst (λ (xs : List Sent). Pairwise IsEntry (arrivals_as q 1 xs) (entries_at (basis_in n b) (hs b) q)) (sym (a.rest ∙ append-nil a.come)) a.told

pub crossings_arrive : CrossingsArrive
crossings_arrive n hs b q e net k wired = told_events (basis_in n b) (hs b) q (arrivals_as q 1 (leaves_at n hs e)) (crossings_enter n hs b q e net k wired)
