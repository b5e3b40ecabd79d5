-- Queues end soon: each bridge has at most one arrival for an event, over the one wire that leads down to it.
use Rattle.std.proofs.Common.{◌≡◌, ◌≢◌, ◌⊎◌, ℕ, zero, suc, ◌+◌, ◌<◌, ◌≤◌, ◌==◌, ◌++◌, Bool, true, false, cond, List, [], ◌∷◌, length, map, get_or, Option, Some, None, refl, ap, sym, ◌∙◌, subst, arith, inl, inr}
use Rattle.std.specs.Prelude.{flat_map, filter, AllPairs}
use Rattle.std.specs.List.{range_with_len}
use Rattle.std.proofs.lemmas.Bool.{cases_Bool, cases_eq, eq-eqb, ne_eqb}
use Rattle.exb_model.specs.declared.event.Event.{Event}
use Rattle.exb_model.specs.declared.event.Event.TheVariants as event
use Rattle.exb_model.specs.declared.vlan.Kind.{Kind}
use Rattle.exb_model.specs.Configuration.{Bridge}
use Rattle.exb_model.specs.EagerHistory.{arrival_event}
use Rattle.exb_model.specs.FlatBridge.{Sent, sent_as, sent_by}
use Rattle.exb_model.specs.History.{History, bridge_after}
use Rattle.exb_model.specs.Input.{tree_of}
use Rattle.exb_model.specs.Learning.{Look, learned, passes}
use Rattle.exb_model.specs.Ports.{all_ports, below}
use Rattle.exb_model.specs.Targets.{target}
use Rattle.exb_model.specs.Tree.{Shape, external_ports, is_external}
use Rattle.exb_net_spec.specs.declared.wires.End.{End}
use Rattle.exb_net_spec.specs.declared.wires.Wire.{Wire}
use Rattle.exb_net_spec.specs.Nets.{Net, across, ends_of, far_end, first_or, is_at}
use Rattle.exb_net_spec.specs.NetHistory.{Crossing, Histories, State, arrival_of, basis_in, crosses, delivered_times, event_of, grown_by, named_at, with_history}
use Rattle.exb_net_spec.specs.QueueTermination.{QueuesEndSoon, named_in}
use Rattle.exb_net_spec.proofs.NothingSentBack.{nothing_goes_back}
use Rattle.exb_net_spec.proofs.Forest.{IsRooted, across_on, at_is, forest, none_some, some_same}
use Rattle.exb_net_spec.proofs.EmptyQueues.{stays}

-- ---- lists of numbers without repeats
abbrev pub NotIn : ℕ → List ℕ → Type 0
NotIn x [] = Unit {0}
NotIn x (y ∷ ys) = (x ≢ y) × NotIn x ys

abbrev pub Apart : List ℕ → Type 0
Apart [] = Unit {0}
Apart (x ∷ xs) = NotIn x xs × Apart xs

-- without the first of this number
less : ℕ → List ℕ → List ℕ
less b [] = []
less b (c ∷ cs) = cond (c == b) cs (c ∷ less b cs)

less_by_one : (b : ℕ) (cs : List ℕ) → length cs ≤ suc (length (less b cs))
unfolding less
less_by_one b [] = omega arith
less_by_one b (c ∷ cs) = elim (cases_Bool (c == b)) [
  | inl e ↦ rw e (omega arith)
  | inr e ↦ rw e (let k = less_by_one b cs in omega (arith, k))
]

not_in_less : (x b : ℕ) (cs : List ℕ) → NotIn x cs → NotIn x (less b cs)
unfolding less
not_in_less x b [] h = tt
not_in_less x b (c ∷ cs) h = elim (cases_Bool (c == b)) [
  | inl e ↦ rw e h.1
  | inr e ↦ rw e (h.0, not_in_less x b cs h.1)
]

apart_less : (b : ℕ) (cs : List ℕ) → Apart cs → Apart (less b cs)
unfolding less
apart_less b [] h = tt
apart_less b (c ∷ cs) h = elim (cases_Bool (c == b)) [
  | inl e ↦ rw e h.1
  | inr e ↦ rw e (not_in_less c b cs h.0, apart_less b cs h.1)
]

-- how often a number stands in a list
times : ℕ → List ℕ → ℕ
times b [] = 0
times b (c ∷ cs) = cond (c == b) 1 0 + times b cs

not_there : (b : ℕ) (cs : List ℕ) → NotIn b cs → times b cs ≡ 0
unfolding times
not_there b [] h = refl
not_there b (c ∷ cs) h = rw (ne_eqb c b (λ e. h.0 (sym e)), not_there b cs h.1) refl

once_at_most : (b : ℕ) (cs : List ℕ) → Apart cs → times b cs ≤ 1
unfolding times
once_at_most b [] h = omega arith
once_at_most b (c ∷ cs) h = elim (cases_eq c b) [
  | inl e ↦ (let z : times b cs ≡ 0 = not_there b cs (subst (λ (x : ℕ). NotIn x cs) e h.0) in rw (eq-eqb c b e, z) (omega arith))
  | inr e ↦ rw (ne_eqb c b e) (let k = once_at_most b cs h.1 in omega (arith, k))
]

-- ---- ports of a tree are apart
above : (n a m : ℕ) → m < a → NotIn m (range_with_len a n)
above zero a m h = tt
above (suc n) a m h = ((λ e. omega (arith, e, h)), above n (a + 1) m (omega (arith, h)))

range_apart : (n a : ℕ) → Apart (range_with_len a n)
range_apart zero a = tt
range_apart (suc n) a = (above n (a + 1) a (omega arith), range_apart n (a + 1))

not_in_filter : (p : ℕ → Bool) (x : ℕ) (ys : List ℕ) → NotIn x ys → NotIn x (filter p ys)
not_in_filter p x [] h = tt
not_in_filter p x (y ∷ ys) h = elim (cases_Bool (p y)) [
  | inl e ↦ rw e (h.0, not_in_filter p x ys h.1)
  | inr e ↦ rw e (not_in_filter p x ys h.1)
]

apart_filter : (p : ℕ → Bool) (ys : List ℕ) → Apart ys → Apart (filter p ys)
apart_filter p [] h = tt
apart_filter p (y ∷ ys) h = elim (cases_Bool (p y)) [
  | inl e ↦ rw e (not_in_filter p y ys h.0, apart_filter p ys h.1)
  | inr e ↦ rw e (apart_filter p ys h.1)
]

below_apart : (n : ℕ) → Apart (below n)
unfolding below
below_apart n = range_apart n 0

pub ports_apart : (t : Shape) → Apart (external_ports t)
unfolding external_ports
ports_apart t = apart_filter (is_external t) all_ports (below_apart 4160)

-- ---- far ends of far ends
abbrev NotAmong : End → List End → Type 0
NotAmong e [] = Unit {0}
NotAmong e (f ∷ fs) = (e ≢ f) × NotAmong e fs

abbrev pub EndsApart : List End → Type 0
EndsApart [] = Unit {0}
EndsApart (e ∷ es) = NotAmong e es × EndsApart es

not_among : (e : End) (fs : List End) → ((j : ℕ) → j < length fs → e ≢ get_or fs j e) → NotAmong e fs
not_among e [] h = tt
not_among e (f ∷ fs) h = (h 0 (omega arith), not_among e fs (λ j k. h (suc j) (omega (arith, k))))

pub ends_apart : (es : List End) → AllPairs (λ e f. e ≢ f) es → EndsApart es
ends_apart [] h = tt
ends_apart (e ∷ es) h = (
  not_among e es (λ j k. h 0 (suc j) e (omega arith) (omega (arith, k))),
  ends_apart es (λ i j d k l. h (suc i) (suc j) d (omega (arith, k)) (omega (arith, l))),
)

abbrev pub end_at : ℕ → ℕ → End
end_at b q = record { bridge = b; port = q }

pub same_end : (e f : End) → e.bridge ≡ f.bridge → e.port ≡ f.port → e ≡ f
same_end e f b p = ap (λ (x : ℕ). end_at x e.port) b ∙ ap (λ (x : ℕ). end_at f.bridge x) p

-- where it is no end of these, no wire of them leads from it
not_at : (e f : End) → e ≢ f → is_at e f.bridge f.port ≡ false
not_at e f h = elim (cases_Bool (is_at e f.bridge f.port)) [
  | inl k ↦ absurd (h (let i = at_is e f.bridge f.port k in same_end e f i.0 i.1))
  | inr k ↦ k
]

at_itself : (e : End) → is_at e e.bridge e.port ≡ true
at_itself e = rw (eq-eqb e.bridge e.bridge refl, eq-eqb e.port e.port refl) refl

-- what a wire leads to is among the ends
among_ends : (ws : List Wire) (b q : ℕ) (e f : End) → far_end ws b q ≡ Some e → NotAmong f (ends_of ws) → f ≢ e
unfolding far_end
among_ends [] b q e f k h = absurd (none_some k)
among_ends (w ∷ ws) b q e f k h = by_option (across w b q) refl k (λ z. among_ends ws b q e f z h.1.1)
  where
    by_option : (o : Option End) → across w b q ≡ o → first_or o (far_end ws b q) ≡ Some e → (far_end ws b q ≡ Some e → f ≢ e) → f ≢ e
    by_option (Some y) is z rest = elim (across_on w b q e (is ∙ z)) [
      | inl i ↦ (λ s. h.1.0 (s ∙ i.2))
      | inr i ↦ (λ s. h.0 (s ∙ i.2))
    ]
    by_option None is z rest = rest z

pub far_back : (ws : List Wire) → EndsApart (ends_of ws) → (b q : ℕ) (e : End) → far_end ws b q ≡ Some e → far_end ws e.bridge e.port ≡ Some (end_at b q)
unfolding far_end
far_back [] h b q e k = absurd (none_some k)
far_back (w ∷ ws) h b q e k = by_option (across w b q) refl k (λ z. far_back ws h.1.1 b q e z)
  where
    by_option : (o : Option End) → across w b q ≡ o → first_or o (far_end ws b q) ≡ Some e → (far_end ws b q ≡ Some e → far_end ws e.bridge e.port ≡ Some (end_at b q)) → first_or (across w e.bridge e.port) (far_end ws e.bridge e.port) ≡ Some (end_at b q)
    by_option (Some y) is z rest = elim (across_on w b q e (is ∙ z)) [
      | inl i ↦
          let from : w.a ≡ end_at b q = same_end w.a (end_at b q) (sym i.0) (sym i.1) in
          subst (λ (x : End). first_or (across w x.bridge x.port) (far_end ws x.bridge x.port) ≡ Some (end_at b q)) (sym i.2)
          (rw (not_at w.a w.b h.0.0, at_itself w.b) (ap Some from))
      | inr i ↦
          let from : w.b ≡ end_at b q = same_end w.b (end_at b q) (sym i.0) (sym i.1) in
          subst (λ (x : End). first_or (across w x.bridge x.port) (far_end ws x.bridge x.port) ≡ Some (end_at b q)) (sym i.2)
          (rw (at_itself w.a) (ap Some from))
    ]
    by_option None is z rest =
        let a : is_at w.a e.bridge e.port ≡ false = not_at w.a e (among_ends ws b q e w.a z h.0.1) in
        let c : is_at w.b e.bridge e.port ≡ false = not_at w.b e (among_ends ws b q e w.b z h.1.0) in
        rw (a, c) (rest z)

-- ---- events
named_one : (h : History) (e : Event) (p : ℕ) → named_at (event.Settled ∷ e ∷ h) p ≤ named_at h p + 1
unfolding named_at
named_one h (event.Relay q n t f) p = elim (cases_Bool (q == p)) [ inl e ↦ rw e (omega arith) | inr e ↦ rw e (omega arith) ]
named_one h (event.Ignored q n) p = elim (cases_Bool (q == p)) [ inl e ↦ rw e (omega arith) | inr e ↦ rw e (omega arith) ]
named_one h (event.Tick seconds) p = omega arith
named_one h (event.Commit n) p = omega arith
named_one h (event.Refuse n x) p = omega arith
named_one h (event.Up q) p = omega arith
named_one h (event.NoUp q x) p = omega arith
named_one h event.Settled p = omega arith

named_in_one : (h : History) (e : Event) → named_in (event.Settled ∷ e ∷ h) ≤ named_in h + 1
unfolding named_in
named_in_one h (event.Relay q n t f) = omega arith
named_in_one h (event.Ignored q n) = omega arith
named_in_one h (event.Tick seconds) = omega arith
named_in_one h (event.Commit n) = omega arith
named_in_one h (event.Refuse n x) = omega arith
named_in_one h (event.Up q) = omega arith
named_in_one h (event.NoUp q x) = omega arith
named_in_one h event.Settled = omega arith

few_as : (t : ℕ) (f : List ℕ) (v : Option ℕ) (k : Option Kind) → length (sent_as t f v k) ≤ 1
few_as t f (Some v) (Some k) = omega arith
few_as t f (Some v) None = omega arith
few_as t f None (Some k) = omega arith
few_as t f None None = omega arith

-- one event sends at most one frame at a port
sent_few : (b : Bridge) (look : Look) (e : Event) (q : ℕ) → length (sent_by b look e q) ≤ 1
sent_few b look (event.Relay p n t f) q = few_as t f (passes b p f) (target b look p f q)
sent_few b look (event.Ignored p n) q = omega arith
sent_few b look (event.Tick seconds) q = omega arith
sent_few b look (event.Commit n) q = omega arith
sent_few b look (event.Refuse n x) q = omega arith
sent_few b look (event.Up p) q = omega arith
sent_few b look (event.NoUp p x) q = omega arith
sent_few b look event.Settled q = omega arith

-- ---- one wire leads down to each bridge
module _ (n : Net) (r : ℕ) (R : IsRooted n.wires r) (ends : EndsApart (ends_of n.wires)) where
  -- a wire leads down from a port to an end
  abbrev IsDownFrom : ℕ → ℕ → End → Type 0
  IsDownFrom b q e = (far_end n.wires b q ≡ Some e) × (R.depth e.bridge ≡ suc (R.depth b))

  one_way : (b q : ℕ) (e : End) (c p : ℕ) (f : End) → IsDownFrom b q e → IsDownFrom c p f → e.bridge ≡ f.bridge → (b ≡ c) × (q ≡ p)
  one_way b q e c p f x y same =
      let back : far_end n.wires e.bridge f.port ≡ Some (end_at c p) = subst (λ (z : ℕ). far_end n.wires z f.port ≡ Some (end_at c p)) (sym same) (far_back n.wires ends c p f y.0) in
      let up : R.depth e.bridge ≡ suc (R.depth c) = ap R.depth same ∙ y.1 in
      let port : f.port ≡ e.port = R.back b q e x.0 x.1 f.port (end_at c p) back up in
      let here : far_end n.wires e.bridge e.port ≡ Some (end_at c p) = subst (λ (z : ℕ). far_end n.wires e.bridge z ≡ Some (end_at c p)) port back in
      let both : end_at b q ≡ end_at c p = some_same (sym (far_back n.wires ends b q e x.0) ∙ here) in
      (ap (λ (z : End). z.bridge) both, ap (λ (z : End). z.port) both)

  -- ---- no more bridges are led down to than there are wires
  record IsLow (ws : List Wire) (b : ℕ) : Type 0 where
    from : ℕ
    port : ℕ
    end : End
    over : far_end ws from port ≡ Some end
    at : end.bridge ≡ b
    down : R.depth end.bridge ≡ suc (R.depth from)

  abbrev AllLow : List Wire → List ℕ → Type 0
  AllLow ws [] = Unit {0}
  AllLow ws (b ∷ bs) = IsLow ws b × AllLow ws bs

  -- the deeper end of a wire
  low_of : Wire → ℕ
  low_of w = cond (R.depth w.b.bridge == suc (R.depth w.a.bridge)) w.b.bridge w.a.bridge

  low_b : (w : Wire) → R.depth w.b.bridge ≡ suc (R.depth w.a.bridge) → low_of w ≡ w.b.bridge
  unfolding low_of
  low_b w e = rw (eq-eqb (R.depth w.b.bridge) (suc (R.depth w.a.bridge)) e) refl

  low_a : (w : Wire) → R.depth w.a.bridge ≡ suc (R.depth w.b.bridge) → low_of w ≡ w.a.bridge
  unfolding low_of
  low_a w e = rw (ne_eqb (R.depth w.b.bridge) (suc (R.depth w.a.bridge)) (λ z. omega (arith, e, z))) refl

  lower : (w : Wire) (ws : List Wire) (c : ℕ) → c ≢ low_of w → IsLow (w ∷ ws) c → IsLow ws c
  unfolding far_end
  lower w ws c other x = by_option (across w x.from x.port) refl x.over
    where
      by_option : (o : Option End) → across w x.from x.port ≡ o → first_or o (far_end ws x.from x.port) ≡ Some x.end → IsLow ws c
      by_option None is z = record { from = x.from; port = x.port; end = x.end; over = z; at = x.at; down = x.down }
      by_option (Some y) is z = absurd (elim (across_on w x.from x.port x.end (is ∙ z)) [
        | inl i ↦
            let at : c ≡ w.b.bridge = sym x.at ∙ ap (λ (e : End). e.bridge) i.2 in
            let down : R.depth w.b.bridge ≡ suc (R.depth w.a.bridge) = ap (λ (e : End). R.depth e.bridge) (sym i.2) ∙ (x.down ∙ ap (λ (b : ℕ). suc (R.depth b)) i.0) in
            other (at ∙ sym (low_b w down))
        | inr i ↦
            let at : c ≡ w.a.bridge = sym x.at ∙ ap (λ (e : End). e.bridge) i.2 in
            let down : R.depth w.a.bridge ≡ suc (R.depth w.b.bridge) = ap (λ (e : End). R.depth e.bridge) (sym i.2) ∙ (x.down ∙ ap (λ (b : ℕ). suc (R.depth b)) i.0) in
            other (at ∙ sym (low_a w down))
      ])

  lower_all : (w : Wire) (ws : List Wire) (bs : List ℕ) → NotIn (low_of w) bs → AllLow (w ∷ ws) bs → AllLow ws bs
  lower_all w ws [] none all = tt
  lower_all w ws (b ∷ bs) none all = (lower w ws b (λ e. none.0 (sym e)) all.0, lower_all w ws bs none.1 all.1)

  lower_less : (w : Wire) (ws : List Wire) (bs : List ℕ) → Apart bs → AllLow (w ∷ ws) bs → AllLow ws (less (low_of w) bs)
  unfolding less
  lower_less w ws [] apart all = tt
  lower_less w ws (b ∷ bs) apart all = elim (cases_eq b (low_of w)) [
    | inl e ↦ rw (eq-eqb b (low_of w) e) (lower_all w ws bs (subst (λ (x : ℕ). NotIn x bs) e apart.0) all.1)
    | inr e ↦ rw (ne_eqb b (low_of w) e) (lower w ws b e all.0, lower_less w ws bs apart.1 all.1)
  ]

  few_low : (ws : List Wire) (bs : List ℕ) → Apart bs → AllLow ws bs → length bs ≤ length ws
  unfolding far_end
  few_low [] [] apart all = omega arith
  few_low [] (b ∷ bs) apart all = absurd (none_some all.0.over)
  few_low (w ∷ ws) bs apart all =
      let rest = few_low ws (less (low_of w) bs) (apart_less (low_of w) bs apart) (lower_less w ws bs apart all) in
      let one = less_by_one (low_of w) bs in
      omega (arith, rest, one)

  -- ---- what was sent, and by whom
  -- by the first bridge, or by one of these
  abbrev IsBy : List ℕ → ℕ → Type 0
  IsBy gone b = (b ≡ r) ⊎ (NotIn b gone → ⊥)

  -- a bridge to which such a bridge sent a frame
  record IsSent (gone : List ℕ) (b : ℕ) : Type 0 where
    from : ℕ
    port : ℕ
    end : End
    way : IsDownFrom from port end
    at : end.bridge ≡ b
    by : IsBy gone from

  abbrev AllSent : List ℕ → List ℕ → Type 0
  AllSent gone [] = Unit {0}
  AllSent gone (b ∷ bs) = IsSent gone b × AllSent gone bs

  by_later : (gone : List ℕ) (b c : ℕ) → IsBy gone c → IsBy (b ∷ gone) c
  by_later gone b c (inl e) = inl e
  by_later gone b c (inr k) = inr (λ none. k none.1)

  sent_later : (gone : List ℕ) (b c : ℕ) → IsSent gone c → IsSent (b ∷ gone) c
  sent_later gone b c x = record { from = x.from; port = x.port; end = x.end; way = x.way; at = x.at; by = by_later gone b x.from x.by }

  all_later : (gone : List ℕ) (b : ℕ) (cs : List ℕ) → AllSent gone cs → AllSent (b ∷ gone) cs
  all_later gone b [] all = tt
  all_later gone b (c ∷ cs) all = (sent_later gone b c all.0, all_later gone b cs all.1)

  all_low : (gone cs : List ℕ) → AllSent gone cs → AllLow n.wires cs
  all_low gone [] all = tt
  all_low gone (c ∷ cs) all = (record { from = all.0.from; port = all.0.port; end = all.0.end; over = all.0.way.0; at = all.0.at; down = all.0.way.1 }, all_low gone cs all.1)

  -- the first bridge is none of them
  not_root : (gone cs : List ℕ) → AllSent gone cs → NotIn r cs
  not_root gone [] all = tt
  not_root gone (c ∷ cs) all = ((λ e. let z = R.root in let d = all.0.way.1 in let a : R.depth all.0.end.bridge ≡ R.depth r = ap R.depth (all.0.at ∙ sym e) in omega (arith, z, d, a)), not_root gone cs all.1)

  -- a frame on its way, to a bridge that is none of these
  record IsComing (gone : List ℕ) (x : Crossing) : Type 0 where
    from : ℕ
    port : ℕ
    way : IsDownFrom from port (end_at x.bridge x.port)
    by : IsBy gone from
    new : NotIn x.bridge gone

  abbrev Each : (Crossing → Type 0) → List Crossing → Type 0
  Each P [] = Unit {0}
  Each P (x ∷ xs) = P x × Each P xs

  each_both : (P : Crossing → Type 0) (xs ys : List Crossing) → Each P xs → Each P ys → Each P (xs ++ ys)
  each_both P [] ys a b = b
  each_both P (x ∷ xs) ys a b = (a.0, each_both P xs ys a.1 b)

  abbrev bridges : List Crossing → List ℕ
  bridges xs = map (λ (x : Crossing). x.bridge) xs

  not_in_both : (c : ℕ) (xs ys : List Crossing) → NotIn c (bridges xs) → NotIn c (bridges ys) → NotIn c (bridges (xs ++ ys))
  not_in_both c [] ys a b = b
  not_in_both c (x ∷ xs) ys a b = (a.0, not_in_both c xs ys a.1 b)

  apart_both : (xs ys : List Crossing) → Apart (bridges xs) → Apart (bridges ys) → Each (λ (x : Crossing). NotIn x.bridge (bridges ys)) xs → Apart (bridges (xs ++ ys))
  apart_both [] ys a b each = b
  apart_both (x ∷ xs) ys a b each = (not_in_both x.bridge xs ys a.0 each.0, apart_both xs ys a.1 b each.1)

  sent_of : (gone : List ℕ) (x : Crossing) → IsComing gone x → IsSent gone x.bridge
  sent_of gone x d = record { from = d.from; port = d.port; end = end_at x.bridge x.port; way = d.way; at = refl; by = d.by }

  come_later : (gone : List ℕ) (b : ℕ) (xs : List Crossing) → Each (IsComing gone) xs → NotIn b (bridges xs) → Each (IsComing (b ∷ gone)) xs
  come_later gone b [] all none = tt
  come_later gone b (x ∷ xs) all none = (
    record { from = all.0.from; port = all.0.port; way = all.0.way; by = by_later gone b all.0.from all.0.by; new = ((λ e. none.0 (sym e)), all.0.new) },
    come_later gone b xs all.1 none.1,
  )

  -- ---- what one bridge sends
  abbrev AtMostOne : ℕ → ℕ → List Crossing → Type 0
  AtMostOne b q ys = (ys ≡ []) ⊎ ((y : Crossing) × (ys ≡ y ∷ []) × IsDownFrom b q (end_at y.bridge y.port))

  one_over : (b q : ℕ) (e : End) (xs : List Sent) → length xs ≤ 1 → IsDownFrom b q e → AtMostOne b q (crosses (Some e) xs)
  one_over b q e [] few way = inl refl
  one_over b q e (x ∷ []) few way = inr (record { bridge = e.bridge; port = e.port; moment = x.0; bytes = x.1 }, refl, way)
  one_over b q e (x ∷ y ∷ zs) few way = absurd (omega (arith, few))

  one_port : (b q : ℕ) (xs : List Sent) → length xs ≤ 1 → ((e : End) → far_end n.wires b q ≡ Some e → R.depth b ≡ suc (R.depth e.bridge) → xs ≡ []) → AtMostOne b q (crosses (far_end n.wires b q) xs)
  one_port b q xs few none = by_option (far_end n.wires b q) refl
    where
      by_option : (o : Option End) → far_end n.wires b q ≡ o → AtMostOne b q (crosses o xs)
      by_option None is = inl refl
      by_option (Some e) is =
          elim (R.step b q e is) [
            | inl down ↦ one_over b q e xs few (is, down)
            | inr up ↦ subst (λ (zs : List Sent). AtMostOne b q (crosses (Some e) zs)) (sym (none e is up)) (inl refl)
          ]

  module _ (b : ℕ) (f : ℕ → List Crossing) (one : (q : ℕ) → AtMostOne b q (f q)) where
    grown_each : (P : Crossing → Type 0) → ((q : ℕ) (y : Crossing) → IsDownFrom b q (end_at y.bridge y.port) → P y) → (qs : List ℕ) → Each P (flat_map f qs)
    grown_each P each [] = tt
    grown_each P each (q ∷ qs) = elim (one q) [
      | inl none ↦ rw none (grown_each P each qs)
      | inr y ↦ rw y.1 (each q y.0 y.2, grown_each P each qs)
    ]

    grown_other : (q : ℕ) (x : Crossing) → IsDownFrom b q (end_at x.bridge x.port) → (qs : List ℕ) → NotIn q qs → NotIn x.bridge (bridges (flat_map f qs))
    grown_other q x way [] h = tt
    grown_other q x way (p ∷ qs) h = elim (one p) [
      | inl none ↦ rw none (grown_other q x way qs h.1)
      | inr y ↦ rw y.1 ((λ e. h.0 (one_way b q (end_at x.bridge x.port) b p (end_at y.0.bridge y.0.port) way y.2 e).1), grown_other q x way qs h.1)
    ]

    grown_apart : (qs : List ℕ) → Apart qs → Apart (bridges (flat_map f qs))
    grown_apart [] h = tt
    grown_apart (q ∷ qs) h = elim (one q) [
      | inl none ↦ rw none (grown_apart qs h.1)
      | inr y ↦ rw y.1 (grown_other q y.0 y.2 qs h.0, grown_apart qs h.1)
    ]

    -- to no bridge to which one before it sent
    fresh : (gone : List ℕ) → ((from : ℕ) → IsBy gone from → from ≢ b) → (c : ℕ) → IsSent gone c → (q : ℕ) (e : End) → IsDownFrom b q e → e.bridge ≢ c
    fresh gone not_yet c x q e way = λ same. not_yet x.from x.by (one_way x.from x.port x.end b q e x.way way (x.at ∙ sym same)).0

    fresh_all : (gone : List ℕ) → ((from : ℕ) → IsBy gone from → from ≢ b) → (q : ℕ) (e : End) → IsDownFrom b q e → (cs : List ℕ) → AllSent gone cs → NotIn e.bridge cs
    fresh_all gone not_yet q e way [] all = tt
    fresh_all gone not_yet q e way (c ∷ cs) all = (fresh gone not_yet c all.0 q e way, fresh_all gone not_yet q e way cs all.1)

    not_grown : (gone : List ℕ) → ((from : ℕ) → IsBy gone from → from ≢ b) → (c : ℕ) → IsSent gone c → (qs : List ℕ) → NotIn c (bridges (flat_map f qs))
    not_grown gone not_yet c x [] = tt
    not_grown gone not_yet c x (q ∷ qs) = elim (one q) [
      | inl none ↦ rw none (not_grown gone not_yet c x qs)
      | inr y ↦ rw y.1 ((λ e. fresh gone not_yet c x q (end_at y.0.bridge y.0.port) y.2 (sym e)), not_grown gone not_yet c x qs)
    ]

    each_not_grown : (gone : List ℕ) → ((from : ℕ) → IsBy gone from → from ≢ b) → (qs : List ℕ) (xs : List Crossing) → Each (IsComing gone) xs → Each (λ (x : Crossing). NotIn x.bridge (bridges (flat_map f qs))) xs
    each_not_grown gone not_yet qs [] all = tt
    each_not_grown gone not_yet qs (x ∷ xs) all = (not_grown gone not_yet x.bridge (sent_of gone x all.0) qs, each_not_grown gone not_yet qs xs all.1)

  -- ---- one delivery after another
  -- where frames arrived, and what is on its way
  record Holds (gone : List ℕ) (queue : List Crossing) : Type 0 where
    apart : Apart gone
    sent : AllSent gone gone
    coming : Each (IsComing gone) queue
    ahead : Apart (bridges queue)

  abbrev Few : Histories → Histories → List ℕ → Type 0
  Few old new gone = (c p : ℕ) → named_at (new c) p ≤ named_at (old c) p + times c gone

  abbrev sends : ℕ → History → Event → ℕ → List Sent
  sends b h e q = sent_by (bridge_after (basis_in n b) h) (learned (basis_in n b) h) e q

  abbrev ports_in : ℕ → List ℕ
  ports_in b = external_ports (tree_of (n.input b))

  module _ (gone : List ℕ) (x : Crossing) (xs : List Crossing) (H : Holds gone (x ∷ xs)) (h : History) where
    coming : IsComing gone x
    coming = H.coming.0

    arrived : Event
    arrived = arrival_event (bridge_after (basis_in n x.bridge) h) (arrival_of x h)

    not_first : x.bridge ≡ r → ⊥
    not_first e = let z = R.root in let d = coming.way.1 in let a : R.depth x.bridge ≡ R.depth r = ap R.depth e in omega (arith, z, d, a)

    not_yet : (from : ℕ) → IsBy gone from → from ≢ x.bridge
    not_yet from (inl e) = λ k. not_first (sym k ∙ e)
    not_yet from (inr k) = λ e. k (subst (λ (z : ℕ). NotIn z gone) (sym e) coming.new)

    grown : ℕ → List Crossing
    grown q = crosses (far_end n.wires x.bridge q) (sends x.bridge h arrived q)

    one : (q : ℕ) → AtMostOne x.bridge q (grown q)
    unfolding grown arrived
    one q =
        one_port x.bridge q (sends x.bridge h arrived q) (sent_few (bridge_after (basis_in n x.bridge) h) (learned (basis_in n x.bridge) h) arrived q)
        (λ e is up.
        let back : q ≡ x.port = R.back coming.from coming.port (end_at x.bridge x.port) coming.way.0 coming.way.1 q e is up in
        ap (sends x.bridge h arrived) back ∙ nothing_goes_back (bridge_after (basis_in n x.bridge) h) (learned (basis_in n x.bridge) h) (arrival_of x h))

    -- the frames that it sends on
    out_coming : Each (IsComing (x.bridge ∷ gone)) (flat_map grown (ports_in x.bridge))
    out_coming =
        grown_each x.bridge grown one (IsComing (x.bridge ∷ gone))
        (λ q y way. record {
          from = x.bridge;
          port = q;
          way = way;
          by = inr (λ none. none.0 refl);
          new = ((λ e. let d = way.1 in let a : R.depth y.bridge ≡ R.depth x.bridge = ap R.depth e in omega (arith, d, a)), fresh_all x.bridge grown one gone not_yet q (end_at y.bridge y.port) way gone H.sent);
        })
        (ports_in x.bridge)

    next : Holds (x.bridge ∷ gone) (xs ++ flat_map grown (ports_in x.bridge))
    next =
        record {
          apart = (coming.new, H.apart);
          sent = (sent_later gone x.bridge x.bridge (sent_of gone x coming), all_later gone x.bridge gone H.sent);
          coming = each_both (IsComing (x.bridge ∷ gone)) xs (flat_map grown (ports_in x.bridge)) (come_later gone x.bridge xs H.coming.1 H.ahead.0) out_coming;
          ahead = apart_both xs (flat_map grown (ports_in x.bridge)) H.ahead.1 (grown_apart x.bridge grown one (ports_in x.bridge) (ports_apart (tree_of (n.input x.bridge))))
              (each_not_grown x.bridge grown one gone not_yet (ports_in x.bridge) xs H.coming.1);
        }

  few_more : (old hs : Histories) (gone : List ℕ) (b : ℕ) (e : Event) → Few old hs gone → Few old (with_history b (event.Settled ∷ e ∷ hs b) hs) (b ∷ gone)
  unfolding times
  few_more old hs gone b e few c p = elim (cases_eq c b) [
    | inl same ↦
        rw (eq-eqb c b same, eq-eqb b c (sym same)) (let one = named_one (hs b) e p in let was : named_at (hs b) p ≤ named_at (old c) p + times c gone = subst (λ (z : ℕ). named_at (hs z) p ≤ named_at (old c) p + times c gone) same (few c p) in omega (arith, one, was))
    | inr other ↦ rw (ne_eqb c b other, ne_eqb b c (λ z. other (sym z))) (let was = few c p in omega (arith, was))
  ]

  abbrev FewIn : Histories → Histories → List ℕ → Type 0
  FewIn old new gone = (c : ℕ) → named_in (new c) ≤ named_in (old c) + times c gone

  few_in_more : (old hs : Histories) (gone : List ℕ) (b : ℕ) (e : Event) → FewIn old hs gone → FewIn old (with_history b (event.Settled ∷ e ∷ hs b) hs) (b ∷ gone)
  unfolding times
  few_in_more old hs gone b e few c = elim (cases_eq c b) [
    | inl same ↦
        rw (eq-eqb c b same, eq-eqb b c (sym same)) (let one = named_in_one (hs b) e in let was : named_in (hs b) ≤ named_in (old c) + times c gone = subst (λ (z : ℕ). named_in (hs z) ≤ named_in (old c) + times c gone) same (few c) in omega (arith, one, was))
    | inr other ↦ rw (ne_eqb c b other, ne_eqb b c (λ z. other (sym z))) (let was = few c in omega (arith, was))
  ]

  record IsOver (old : Histories) (s : State) : Type 0 where
    empty : s.queue ≡ []
    gone : List ℕ
    apart : Apart gone
    sent : AllSent gone gone
    few : Few old s.histories gone
    few_in : FewIn old s.histories gone

  drains : (k : ℕ) (gone : List ℕ) (queue : List Crossing) (old hs : Histories) → Holds gone queue → Few old hs gone → FewIn old hs gone → length gone + k ≡ length n.wires → IsOver old (delivered_times n k (record { histories = hs; queue = queue }))
  unfolding delivered_times grown_by grown arrived
  drains zero gone [] old hs H few few_in room = record { empty = refl; gone = gone; apart = H.apart; sent = H.sent; few = few; few_in = few_in }
  drains zero gone (x ∷ xs) old hs H few few_in room =
      absurd (let k = few_low n.wires (x.bridge ∷ gone) (H.coming.0.new, H.apart) (all_low (x.bridge ∷ gone) (x.bridge ∷ gone) (sent_later gone x.bridge x.bridge (sent_of gone x H.coming.0), all_later gone x.bridge gone H.sent)) in omega (arith, k, room))
  drains (suc k) gone [] old hs H few few_in room =
      subst (IsOver old) (sym (stays n (suc k) hs)) (record { empty = refl; gone = gone; apart = H.apart; sent = H.sent; few = few; few_in = few_in })
  drains (suc k) gone (x ∷ xs) old hs H few few_in room =
      let h : History = hs x.bridge in
      let ev : Event = arrived gone x xs H h in
      drains k (x.bridge ∷ gone) (xs ++ flat_map (grown gone x xs H h) (ports_in x.bridge)) old (with_history x.bridge (event.Settled ∷ ev ∷ h) hs) (next gone x xs H h) (few_more old hs gone x.bridge ev few) (few_in_more old hs gone x.bridge ev few_in) (omega (arith, room))

  -- what the first bridge sends
  first : (h : History) (e : Event) → Holds [] (grown_by n r h e)
  unfolding grown_by
  first h e =
      let f : ℕ → List Crossing = λ q. crosses (far_end n.wires r q) (sends r h e q) in
      let one : (q : ℕ) → AtMostOne r q (f q) =
      λ q. one_port r q (sends r h e q) (sent_few (bridge_after (basis_in n r) h) (learned (basis_in n r) h) e q) (λ g is up. absurd (let z = R.root in omega (arith, z, up))) in
      record {
        apart = tt;
        sent = tt;
        coming = grown_each r f one (IsComing []) (λ q y way. record { from = r; port = q; way = way; by = inl refl; new = tt }) (ports_in r);
        ahead = grown_apart r f one (ports_in r) (ports_apart (tree_of (n.input r)));
      }

pub with_here : (r b : ℕ) (h : History) (hs : Histories) → b ≡ r → with_history r h hs b ≡ h
with_here r b h hs e = rw (eq-eqb b r e) refl

pub with_there : (r b : ℕ) (h : History) (hs : Histories) → b ≢ r → with_history r h hs b ≡ hs b
with_there r b h hs e = rw (ne_eqb b r e) refl

pub queues_end_soon : QueuesEndSoon
queues_end_soon n net d hs here =
    let r : ℕ = d.bridge in
    let R : IsRooted n.wires r = (forest n.wires net.loops).rooted r in
    let ends : EndsApart (ends_of n.wires) = ends_apart (ends_of n.wires) net.apart in
    let ev : Event = event_of n r (hs r) d.coming in
    let begun : Histories = with_history r (event.Settled ∷ ev ∷ hs r) hs in
    let over = drains n r R ends (length n.wires) [] (grown_by n r (hs r) ev) begun begun (first n r R ends (hs r) ev) (λ c p. omega arith) (λ c. omega arith) (omega arith) in
    record {
      empty = over.empty;
      few = λ b p. elim (cases_eq b r) [
        | inl same ↦
            let none : times b over.gone ≡ 0 = subst (λ (z : ℕ). times z over.gone ≡ 0) (sym same) (not_there r over.gone (not_root n r R ends over.gone over.gone over.sent)) in
            let few = over.few b p in
            let here : named_at (begun b) p ≡ named_at (event.Settled ∷ ev ∷ hs r) p = ap (λ (h : History). named_at h p) (with_here r b (event.Settled ∷ ev ∷ hs r) hs same) in
            let one : named_at (event.Settled ∷ ev ∷ hs r) p ≤ named_at (hs b) p + 1 = subst (λ (z : ℕ). named_at (event.Settled ∷ ev ∷ hs r) p ≤ named_at (hs z) p + 1) (sym same) (named_one (hs r) ev p) in
            omega (arith, none, few, here, one)
        | inr other ↦ (let one = once_at_most b over.gone over.apart in let few = over.few b p in let there : named_at (begun b) p ≡ named_at (hs b) p = ap (λ (h : History). named_at h p) (with_there r b (event.Settled ∷ ev ∷ hs r) hs other) in omega (arith, one, few, there))
      ];
      once = λ b. elim (cases_eq b r) [
        | inl same ↦
            let none : times b over.gone ≡ 0 = subst (λ (z : ℕ). times z over.gone ≡ 0) (sym same) (not_there r over.gone (not_root n r R ends over.gone over.gone over.sent)) in
            let few = over.few_in b in
            let here : named_in (begun b) ≡ named_in (event.Settled ∷ ev ∷ hs r) = ap named_in (with_here r b (event.Settled ∷ ev ∷ hs r) hs same) in
            let one : named_in (event.Settled ∷ ev ∷ hs r) ≤ named_in (hs b) + 1 = subst (λ (z : ℕ). named_in (event.Settled ∷ ev ∷ hs r) ≤ named_in (hs z) + 1) (sym same) (named_in_one (hs r) ev) in
            omega (arith, none, few, here, one)
        | inr other ↦ (let one = once_at_most b over.gone over.apart in let few = over.few_in b in let there : named_in (begun b) ≡ named_in (hs b) = ap named_in (with_there r b (event.Settled ∷ ev ∷ hs r) hs other) in omega (arith, one, few, there))
      ];
    }
