-- The wired ports of a bridge.
use Rattle.std.proofs.Common.{◌≡◌, ℕ, zero, suc, ◌+◌, ◌<◌, ◌≤◌, ◌==◌, ◌++◌, Bool, true, false, cond, List, [], ◌∷◌, length, map, filter, drop, get_or, Option, Some, None, is_some, refl, ap, sym, ◌∙◌, subst, arith, inl, inr}
use Rattle.std.specs.Prelude.{flat_map}
use Rattle.std.proofs.lemmas.Bool.{cases_Bool, cases_eq, eq-eqb, ne_eqb}
use Rattle.std.proofs.lemmas.Grind.{flat_map-append}
use Rattle.std.proofs.lemmas.List.{append-nil, drop_more, drop_all}
use Rattle.std.proofs.lemmas.List.Elements.{filter-append}
use Rattle.exb_model.specs.Ports.{all_ports, below}
use Rattle.exb_model.specs.Tree.{Shape, external_ports, is_external}
use Rattle.exb_model.proofs.PortLemmas.{below-more}
use Rattle.exb_world_spec.specs.Worlds.{Left, left_at}
use Rattle.exb_net_spec.specs.declared.wires.End.{End}
use Rattle.exb_net_spec.specs.declared.wires.Wire.{Wire}
use Rattle.exb_net_spec.specs.Nets.{across, far_end, first_or, is_wired}
use Rattle.exb_net_spec.specs.NetHistory.{Crossing, crosses}
use Rattle.exb_net.specs.declared.wired_ports.WiredPort.{WiredPort}
use Rattle.exb_net.specs.WiredPorts.{end_at, ends_over, next_in, sent_over, with_next}

-- ---- the first of what is left of a list
pub next_item : {A : Type 0} (xs : List A) (k : ℕ) (x : A) → k < length xs → x ≡ get_or xs k x → drop k xs ≡ x ∷ drop (k + 1) xs
next_item xs k x low is = drop_more xs k x low ∙ ap (λ (y : _). y ∷ drop (k + 1) xs) (sym is)

-- ---- which ports are in a list
pub is_among : ℕ → List ℕ → Bool
is_among p [] = false
is_among p (q ∷ qs) = cond (q == p) true (is_among p qs)

among_more : (p : ℕ) (qs rs : List ℕ) → is_among p qs ≡ true → is_among p (qs ++ rs) ≡ true
unfolding is_among
among_more p [] rs h = absurd (let z : false ≡ true = h in cc)
among_more p (q ∷ qs) rs h = elim (cases_Bool (q == p)) [
  | inl e ↦ rw e refl
  | inr e ↦ rw e (among_more p qs rs (rw e at h))
]

among_last : (p : ℕ) (qs : List ℕ) → is_among p (qs ++ p ∷ []) ≡ true
unfolding is_among
among_last p [] = rw (eq-eqb p p refl) refl
among_last p (q ∷ qs) = elim (cases_Bool (q == p)) [
  | inl e ↦ rw e refl
  | inr e ↦ rw e (among_last p qs)
]

among_filter : (test : ℕ → Bool) (p : ℕ) (qs : List ℕ) → test p ≡ true → is_among p qs ≡ true → is_among p (filter test qs) ≡ true
unfolding is_among
among_filter test p [] is h = h
among_filter test p (q ∷ qs) is h = elim (cases_eq q p) [
  | inl e ↦ (let t : test q ≡ true = ap test e ∙ is in rw t (rw (eq-eqb q p e) refl))
  | inr ne ↦
      let rest : is_among p (filter test qs) ≡ true = among_filter test p qs is (rw (ne_eqb q p ne) at h) in
      elim (cases_Bool (test q)) [
        | inl t ↦ rw t (rw (ne_eqb q p ne) rest)
        | inr t ↦ rw t rest
      ]
]

among_below : (n p : ℕ) → p < n → is_among p (below n) ≡ true
among_below zero p h = absurd (omega (arith, h))
among_below (suc n) p h =
    let more : below (suc n) ≡ below n ++ n ∷ [] = ap below (let e : suc n ≡ n + 1 = omega arith in e) ∙ below-more n in
    elim (cases_eq p n) [
      | inl e ↦ rw more (subst (λ (z : ℕ). is_among p (below n ++ z ∷ []) ≡ true) e (among_last p (below n)))
      | inr ne ↦ rw more (among_more p (below n) (n ∷ []) (among_below n p (omega (arith, h, ne))))
    ]

pub external_among : (t : Shape) (p : ℕ) → is_external t p ≡ true → p < 4160 → is_among p (external_ports t) ≡ true
unfolding external_ports
external_among t p is low = among_filter (is_external t) p all_ports is (among_below 4160 p low)

-- ---- indices
module _ (ws : List Wire) (b : ℕ) where
  passes_by : (next : ℕ → ℕ) (p q : ℕ) (o : Option End) (xs : List WiredPort) → (q == p) ≡ false → next_in (end_at (next q) q o ++ xs) p ≡ next_in xs p
  passes_by next p q None xs other = refl
  passes_by next p q (Some e) xs other = rw other refl

  stops_at : (next : ℕ → ℕ) (p q : ℕ) (o : Option End) (xs : List WiredPort) → is_some o ≡ true → (q == p) ≡ true → next_in (end_at (next q) q o ++ xs) p ≡ next q
  stops_at next p q None xs some same = absurd (let z : false ≡ true = some in cc)
  stops_at next p q (Some e) xs some same = rw same refl

  pub next_found : (next : ℕ → ℕ) (p : ℕ) → is_wired ws b p ≡ true → (qs : List ℕ) → is_among p qs ≡ true → next_in (ends_over ws b next qs) p ≡ next p
  unfolding ends_over is_among
  next_found next p wired [] h = absurd (let z : false ≡ true = h in cc)
  next_found next p wired (q ∷ qs) h = elim (cases_eq q p) [
    | inl e ↦ stops_at next p q (far_end ws b q) (ends_over ws b next qs) (subst (λ (z : ℕ). is_some (far_end ws b z) ≡ true) (sym e) wired) (eq-eqb q p e) ∙ ap next e
    | inr ne ↦ passes_by next p q (far_end ws b q) (ends_over ws b next qs) (ne_eqb q p ne) ∙ next_found next p wired qs (rw (ne_eqb q p ne) at h)
  ]

  one_set : (next after : ℕ → ℕ) (p k q : ℕ) (o : Option End) → after q ≡ cond (q == p) k (next q) → map (with_next p k) (end_at (next q) q o) ≡ end_at (after q) q o
  one_set next after p k q None e = refl
  one_set next after p k q (Some f) e = elim (cases_Bool (q == p)) [
    | inl h ↦ rw h (ap (λ (n : ℕ). record { port = q; far = f; next = n } ∷ []) (sym (e ∙ rw h refl)))
    | inr h ↦ rw h (ap (λ (n : ℕ). record { port = q; far = f; next = n } ∷ []) (sym (e ∙ rw h refl)))
  ]

  map_both : (f : WiredPort → WiredPort) (xs ys : List WiredPort) → map f (xs ++ ys) ≡ map f xs ++ map f ys
  map_both f [] ys = refl
  map_both f (x ∷ xs) ys = ap (λ (zs : List WiredPort). f x ∷ zs) (map_both f xs ys)

  -- another index at port p
  pub all_set : (next after : ℕ → ℕ) (p k : ℕ) → ((q : ℕ) → after q ≡ cond (q == p) k (next q)) → (qs : List ℕ) → map (with_next p k) (ends_over ws b next qs) ≡ ends_over ws b after qs
  unfolding ends_over
  all_set next after p k same [] = refl
  all_set next after p k same (q ∷ qs) =
      map_both (with_next p k) (end_at (next q) q (far_end ws b q)) (ends_over ws b next qs)
      ∙ (ap (λ (xs : List WiredPort). xs ++ map (with_next p k) (ends_over ws b next qs)) (one_set next after p k q (far_end ws b q) (same q))
      ∙ ap (λ (xs : List WiredPort). end_at (after q) q (far_end ws b q) ++ xs) (all_set next after p k same qs))

  -- the same indices at wired ports
  one_same : (next after : ℕ → ℕ) (q : ℕ) (o : Option End) → (is_some o ≡ true → after q ≡ next q) → end_at (next q) q o ≡ end_at (after q) q o
  one_same next after q None e = refl
  one_same next after q (Some f) e = ap (λ (n : ℕ). record { port = q; far = f; next = n } ∷ []) (sym (e refl))

  pub all_same : (next after : ℕ → ℕ) → ((q : ℕ) → is_wired ws b q ≡ true → after q ≡ next q) → (qs : List ℕ) → ends_over ws b next qs ≡ ends_over ws b after qs
  unfolding ends_over
  all_same next after same [] = refl
  all_same next after same (q ∷ qs) =
      ap (λ (xs : List WiredPort). xs ++ ends_over ws b next qs) (one_same next after q (far_end ws b q) (same q))
      ∙ ap (λ (xs : List WiredPort). end_at (after q) q (far_end ws b q) ++ xs) (all_same next after same qs)

  -- ---- what goes over them
  sent_both : (left : List Left) (xs ys : List WiredPort) → sent_over left (xs ++ ys) ≡ sent_over left xs ++ sent_over left ys
  sent_both left xs ys = flat_map-append (λ (x : WiredPort). crosses (Some x.far) (left_at x.port left)) xs ys

  sent_one : (left : List Left) (next q : ℕ) (o : Option End) → sent_over left (end_at next q o) ≡ crosses o (left_at q left)
  sent_one left next q None = refl
  sent_one left next q (Some e) = append-nil (crosses (Some e) (left_at q left))

  pub sent_all : (left : List Left) (next : ℕ → ℕ) (qs : List ℕ) → sent_over left (ends_over ws b next qs) ≡ flat_map (λ q. crosses (far_end ws b q) (left_at q left)) qs
  unfolding ends_over
  sent_all left next [] = refl
  sent_all left next (q ∷ qs) =
      sent_both left (end_at (next q) q (far_end ws b q)) (ends_over ws b next qs)
      ∙ (ap (λ (xs : List Crossing). xs ++ sent_over left (ends_over ws b next qs)) (sent_one left (next q) q (far_end ws b q))
      ∙ ap (λ (xs : List Crossing). crosses (far_end ws b q) (left_at q left) ++ xs) (sent_all left next qs))

  -- ---- port by port
  abbrev so_far : Shape → ℕ → List WiredPort
  so_far t k = ends_over ws b (λ q. 1) (filter (is_external t) (below k))

  pub no_ports : (t : Shape) → [] ≡ ends_over ws b (λ q. 1) (filter (is_external t) (below 0))
  unfolding ends_over below
  no_ports t = refl

  pub one_port : (t : Shape) (k : ℕ) → so_far t k ++ cond (is_external t k) (end_at 1 k (far_end ws b k)) [] ≡ ends_over ws b (λ q. 1) (filter (is_external t) (below (k + 1)))
  unfolding ends_over
  one_port t k =
      let f : ℕ → List WiredPort = λ q. end_at 1 q (far_end ws b q) in
      let front : List ℕ = filter (is_external t) (below k) in
      sym
      (ap (λ (qs : List ℕ). flat_map f (filter (is_external t) qs)) (below-more k)
      ∙ (ap (flat_map f) (filter-append (is_external t) (below k) (k ∷ []))
      ∙ (flat_map-append f front (filter (is_external t) (k ∷ []))
      ∙ ap (λ (xs : List WiredPort). flat_map f front ++ xs) (last (is_external t k) refl))))
    where
      last : (c : Bool) → is_external t k ≡ c → flat_map (λ q. end_at 1 q (far_end ws b q)) (filter (is_external t) (k ∷ [])) ≡ cond (is_external t k) (end_at 1 k (far_end ws b k)) []
      last true e = rw e (append-nil (end_at 1 k (far_end ws b k)))
      last false e = rw e refl

  pub every_port : (t : Shape) (n : ℕ) → n ≡ 4160 → ends_over ws b (λ q. 1) (filter (is_external t) (below n)) ≡ ends_over ws b (λ q. 1) (external_ports t)
  unfolding external_ports
  every_port t n e = ap (λ (k : ℕ). ends_over ws b (λ q. 1) (filter (is_external t) (below k))) e

-- ---- loops
module _ (b p : ℕ) where
  pub far_next : (ws : List Wire) (k : ℕ) (w : Wire) → k < length ws → w ≡ get_or ws k w → far_end (drop k ws) b p ≡ first_or (across w b p) (far_end (drop (k + 1) ws) b p)
  unfolding far_end
  far_next ws k w low is = ap (λ (xs : List Wire). far_end xs b p) (next_item ws k w low is)

  pub far_none : (ws : List Wire) (k : ℕ) → length ws ≤ k → far_end (drop k ws) b p ≡ None
  unfolding far_end
  far_none ws k end = ap (λ (xs : List Wire). far_end xs b p) (drop_all k ws end)

pub next_next : (p : ℕ) (xs : List WiredPort) (k : ℕ) (x : WiredPort) → k < length xs → x ≡ get_or xs k x → next_in (drop k xs) p ≡ cond (x.port == p) x.next (next_in (drop (k + 1) xs) p)
next_next p xs k x low is = ap (λ (ys : List WiredPort). next_in ys p) (next_item xs k x low is)

pub next_none : (p : ℕ) (xs : List WiredPort) (k : ℕ) → length xs ≤ k → next_in (drop k xs) p ≡ 1
next_none p xs k end = ap (λ (ys : List WiredPort). next_in ys p) (drop_all k xs end)
