-- Rings of the slots of entries, as entries are put, changed and taken out.
use Rattle.std.proofs.Common.{◌≡◌, ◌≢◌, ◌≤◌, ◌<◌, ℕ, zero, suc, ◌+◌, ◌-◌, Bool, true, false, cond, ◌==◌, eq-eqb, refl, sym, ap, subst, ◌∙◌, arith, inl, inr, List, [], ◌∷◌, ◌++◌, length, get_or, set, length-append, get_or-set_other, get_or-set_same, slice_get, Option, Some, None}
use Rattle.std.proofs.lemmas.Bool.{true≢false, eqb-true, lt-ltb, le-ltb}
use Rattle.std.proofs.lemmas.Bool.Decides.{eqb_tells, leb_tells}
use Rattle.std.proofs.lemmas.Option.{slice_get_within, slice_get-get_or}
use Rattle.std.specs.List.{swap_remove}
use Rattle.std.proofs.lemmas.List.{length-take-le, length-set, get_or-take}
use Rattle.std.specs.Option.{option_map_or}
use Rattle.indexmap.specs.IndexMap.{set_value_at}
use Rattle.indexmap.specs.Layout.{length-set_value_at}
use Rattle.exb_learn.specs.RingLinks.{Links, taken, placed, IsRinged, by_slot, IsLaid, removed, first_of, itself}
use Rattle.exb_learn.proofs.RingLinks.{ringed_alike, ringed_more, ringed_moved, ringed_less, ringed_swapped, has_first, first_is, nothing_ringed}

-- ---- lists
pub some_is : {X : Type 0} (p r : X) → Some p ≡ Some r → p ≡ r
some_is p r e = cc

pub entry_there : {X : Type 0} (xs : List X) (k : ℕ) → k < length xs → (e : X) × (slice_get xs k ≡ Some e)
entry_there [] k h = absurd (omega (arith, h))
entry_there (x ∷ xs) zero h = (x, refl)
entry_there (x ∷ xs) (suc k) h = entry_there xs k (omega (arith, h))

pub entry_before : {X : Type 0} (xs ys : List X) (k : ℕ) → k < length xs → slice_get (xs ++ ys) k ≡ slice_get xs k
entry_before [] ys k h = absurd (omega (arith, h))
entry_before (x ∷ xs) ys zero h = refl
entry_before (x ∷ xs) ys (suc k) h = entry_before xs ys k (omega (arith, h))

pub entry_last : {X : Type 0} (xs : List X) (y : X) → slice_get (xs ++ y ∷ []) (length xs) ≡ Some y
entry_last [] y = refl
entry_last (x ∷ xs) y = entry_last xs y

pub value_here : {K V : Type 0} (es : List (K × V)) (i : ℕ) (e : K × V) (w : V) → slice_get es i ≡ Some e → slice_get (set_value_at es i w) i ≡ Some (e.0, w)
value_here [] i e w h = cc
value_here (x ∷ es) zero e w h = let is : x ≡ e = some_is x e h in ap (λ y. Some (y.0, w)) is
value_here (x ∷ es) (suc i) e w h = value_here es i e w h

pub value_other : {K V : Type 0} (es : List (K × V)) (i k : ℕ) (w : V) → k ≢ i → slice_get (set_value_at es i w) k ≡ slice_get es k
value_other [] i k w n = refl
value_other (x ∷ es) zero zero w n = absurd (n refl)
value_other (x ∷ es) zero (suc k) w n = refl
value_other (x ∷ es) (suc i) zero w n = refl
value_other (x ∷ es) (suc i) (suc k) w n = value_other es i k w (λ (e : k ≡ i). n (ap suc e))

pub swapped_length : {X : Type 0} (xs : List X) (i : ℕ) (d : X) → suc (length (swap_remove xs i d)) ≡ suc (length xs - 1)
swapped_length xs i d = ap suc (length-take-le (length xs - 1) (set xs i (get_or xs (length xs - 1) d)) (let same = length-set xs i (get_or xs (length xs - 1) d) in omega (arith, same)))

module _ {X : Type 0} (xs : List X) (i : ℕ) (d : X) where
  read_swapped : (k : ℕ) → k < length xs - 1 → slice_get (swap_remove xs i d) k ≡ Some (get_or (set xs i (get_or xs (length xs - 1) d)) k d)
  read_swapped k less =
      let long : length (swap_remove xs i d) ≡ length xs - 1 =
      length-take-le (length xs - 1) (set xs i (get_or xs (length xs - 1) d)) (let same = length-set xs i (get_or xs (length xs - 1) d) in omega (arith, same)) in
      slice_get-get_or (swap_remove xs i d) k d (omega (arith, long, less))
      ∙ ap (λ x. Some x) (get_or-take (length xs - 1) (set xs i (get_or xs (length xs - 1) d)) k d less)

  pub swapped_other : (k : ℕ) → k < length xs - 1 → k ≢ i → slice_get (swap_remove xs i d) k ≡ slice_get xs k
  swapped_other k less other =
      read_swapped k less ∙ ap (λ x. Some x) (get_or-set_other xs i k (get_or xs (length xs - 1) d) d other) ∙ sym (slice_get-get_or xs k d (omega (arith, less)))

  pub swapped_here : i < length xs - 1 → slice_get (swap_remove xs i d) i ≡ slice_get xs (length xs - 1)
  swapped_here less =
      read_swapped i less ∙ ap (λ x. Some x) (get_or-set_same xs i (get_or xs (length xs - 1) d) d (omega (arith, less))) ∙ sym (slice_get-get_or xs (length xs - 1) d (omega (arith, less)))

-- ---- what a node has
module _ {K V : Type 0} (heads : ℕ) (f : V → ℕ) where
  pub of_head : (es : List (K × V)) (x : ℕ) → x < heads → by_slot heads f es x ≡ x
  of_head es x under = ap (λ b. cond b x (option_map_or (λ e. f e.1) (slice_get es (x - heads)) 0)) (lt-ltb x heads under)

  of_node : (es : List (K × V)) (x : ℕ) → heads ≤ x → by_slot heads f es x ≡ option_map_or (λ e. f e.1) (slice_get es (x - heads)) 0
  of_node es x over = ap (λ b. cond b x (option_map_or (λ e. f e.1) (slice_get es (x - heads)) 0)) (le-ltb x heads over)

  pub of_slot : (es : List (K × V)) (x : ℕ) (e : K × V) → heads ≤ x → slice_get es (x - heads) ≡ Some e → by_slot heads f es x ≡ f e.1
  of_slot es x e over is = of_node es x over ∙ ap (λ (o : Option (K × V)). option_map_or (λ e. f e.1) o 0) is

  pub of_index : (es : List (K × V)) (i : ℕ) (e : K × V) → slice_get es i ≡ Some e → by_slot heads f es (heads + i) ≡ f e.1
  of_index es i e is =
      let place : heads + i - heads ≡ i = omega arith in
      of_slot es (heads + i) e (omega arith) (ap (λ k. slice_get es k) place ∙ is)

  -- two lists that have the same at a slot have the same at its node
  pub of_same : (es fs : List (K × V)) (x : ℕ) → (heads ≤ x → slice_get fs (x - heads) ≡ slice_get es (x - heads)) → by_slot heads f fs x ≡ by_slot heads f es x
  of_same es fs x same = elim (leb_tells heads x) [
    | inl h ↦ of_node fs x h.1 ∙ ap (λ (o : Option (K × V)). option_map_or (λ e. f e.1) o 0) (same h.1) ∙ sym (of_node es x h.1)
    | inr h ↦ (let under : x < heads = omega (arith, h.1) in of_head fs x under ∙ sym (of_head es x under))
  ]

  -- where each entry has no more than this, so has each slot
  pub at_most : (es : List (K × V)) (n : ℕ) → ((i : ℕ) (e : K × V) → slice_get es i ≡ Some e → f e.1 ≤ n) → (x : ℕ) → x < heads + length es → heads ≤ x → by_slot heads f es x ≤ n
  at_most es n all x less over =
      let there = entry_there es (x - heads) (omega (arith, less, over)) in
      let is = of_slot es x there.0 over there.1 in
      let most = all (x - heads) there.0 there.1 in
      omega (arith, is, most)

-- ---- entries
module _ {K V : Type 0} (heads : ℕ) (home key : V → ℕ) where
  pub laid_first : (l : Links) (es : List (K × V)) → l ≡ itself → es ≡ [] → IsLaid heads l es home key
  laid_first l es is none = subst (λ (m : Links). IsLaid heads m es home key) (sym is)
      (subst (λ n. IsRinged heads n (itself) (by_slot heads home es) (by_slot heads key es)) (sym (ap length none))
      (nothing_ringed heads (by_slot heads home es) (by_slot heads key es) (λ x h. of_head heads home es x h)))

  -- a new entry
  pub laid_more : (l : Links) (es : List (K × V)) (e : K × V) → IsLaid heads l es home key → home e.1 < heads → ((i : ℕ) (d : K × V) → slice_get es i ≡ Some d → key d.1 ≤ key e.1) →
      IsLaid heads (placed l (home e.1) (heads + length es)) (es ++ e ∷ []) home key
  laid_more l es e r under most =
      let is = of_index heads home (es ++ e ∷ []) (length es) e (entry_last es e) in
      let its = of_index heads key (es ++ e ∷ []) (length es) e (entry_last es e) in
      subst (λ n. IsRinged heads n (placed l (home e.1) (heads + length es)) (by_slot heads home (es ++ e ∷ [])) (by_slot heads key (es ++ e ∷ []))) (sym longer)
      (ringed_more heads (length es) l (by_slot heads home es) (by_slot heads key es) (by_slot heads home (es ++ e ∷ [])) (by_slot heads key (es ++ e ∷ [])) (home e.1) r under
      (λ x less. of_same heads home es (es ++ e ∷ []) x (λ over. entry_before es (e ∷ []) (x - heads) (omega (arith, less, over))))
      (λ x less. of_same heads key es (es ++ e ∷ []) x (λ over. entry_before es (e ∷ []) (x - heads) (omega (arith, less, over))))
      is
      (λ x less over. let low = at_most heads key es (key e.1) most x less over in omega (arith, low, its)))
    where
      longer : length (es ++ e ∷ []) ≡ suc (length es)
      longer = length-append es (e ∷ []) ∙ (omega arith)

  -- the value of an entry is another one, and its slot goes to the end of that one's ring
  pub laid_moved : (l : Links) (es : List (K × V)) (i : ℕ) (w : V) → IsLaid heads l es home key → i < length es → home w < heads →
      ((k : ℕ) (d : K × V) → slice_get es k ≡ Some d → key d.1 ≤ key w) →
      IsLaid heads (placed (taken l (heads + i)) (home w) (heads + i)) (set_value_at es i w) home key
  laid_moved l es i w r less under most =
      let there = entry_there es i less in
      let here = value_here es i there.0 w there.1 in
      let is = of_index heads home (set_value_at es i w) i (there.0.0, w) here in
      let its = of_index heads key (set_value_at es i w) i (there.0.0, w) here in
      subst (λ n. IsRinged heads n (placed (taken l (heads + i)) (home w) (heads + i)) (by_slot heads home (set_value_at es i w)) (by_slot heads key (set_value_at es i w))) (sym (length-set_value_at es i w))
      (ringed_moved heads (length es) l (by_slot heads home es) (by_slot heads key es) (by_slot heads home (set_value_at es i w)) (by_slot heads key (set_value_at es i w)) (home w) (heads + i) r under
      (omega arith) (omega (arith, less))
      (λ x within other. of_same heads home es (set_value_at es i w) x (λ over. value_other es i (x - heads) w (λ (e : x - heads ≡ i). other (omega (arith, e, over)))))
      (λ x within other. of_same heads key es (set_value_at es i w) x (λ over. value_other es i (x - heads) w (λ (e : x - heads ≡ i). other (omega (arith, e, over)))))
      is
      (λ x within over. let low = at_most heads key es (key w) most x within over in omega (arith, low, its)))

  -- the value of an entry is another one with the same home and key
  pub laid_kept : (l : Links) (es : List (K × V)) (i : ℕ) (e : K × V) (w : V) → IsLaid heads l es home key → slice_get es i ≡ Some e → home w ≡ home e.1 → key w ≡ key e.1 →
      IsLaid heads l (set_value_at es i w) home key
  laid_kept l es i e w r there homes keys =
      subst (λ n. IsRinged heads n l (by_slot heads home (set_value_at es i w)) (by_slot heads key (set_value_at es i w))) (sym (length-set_value_at es i w))
      (ringed_alike heads (length es) l (by_slot heads home es) (by_slot heads key es) (by_slot heads home (set_value_at es i w)) (by_slot heads key (set_value_at es i w)) r
      (λ x less. same home homes x) (λ x less. same key keys x))
    where
      same : (f : V → ℕ) → f w ≡ f e.1 → (x : ℕ) → by_slot heads f (set_value_at es i w) x ≡ by_slot heads f es x
      same f equal x = elim (eqb_tells x (heads + i)) [
        | inl h ↦
            subst (λ y. by_slot heads f (set_value_at es i w) y ≡ by_slot heads f es y) (sym h.1)
            (of_index heads f (set_value_at es i w) i (e.0, w) (value_here es i e w there) ∙ equal ∙ sym (of_index heads f es i e there))
        | inr h ↦ of_same heads f es (set_value_at es i w) x (λ over. value_other es i (x - heads) w (λ (q : x - heads ≡ i). h.1 (omega (arith, q, over))))
      ]

  -- an entry is taken out, and the last one gets its slot
  pub laid_less : (l : Links) (es : List (K × V)) (i : ℕ) (e : K × V) → IsLaid heads l es home key → slice_get es i ≡ Some e →
      IsLaid heads (removed heads l i (length es - 1)) (swap_remove es i e) home key
  laid_less l es i e r there =
      subst (λ m. IsRinged heads m (removed heads l i n) (by_slot heads home fs) (by_slot heads key fs)) (sym short)
      (elim (eqb_tells i n) [
        | inl h ↦
            subst (λ (m : Links). IsRinged heads n m (by_slot heads home fs) (by_slot heads key fs)) (sym (ap (λ b. cond b (taken l (heads + i)) swapped) h.0))
            (subst (λ k. IsRinged heads n (taken l (heads + k)) (by_slot heads home fs) (by_slot heads key fs)) (sym h.1)
            (ringed_less heads n l (by_slot heads home es) (by_slot heads key es) (by_slot heads home fs) (by_slot heads key fs) whole
            (λ x less. stays home x less (λ (q : x ≡ heads + i). (let last = h.1 in omega (arith, q, last, less))))
            (λ x less. stays key x less (λ (q : x ≡ heads + i). (let last = h.1 in omega (arith, q, last, less))))))
        | inr h ↦
            (let less : i < n = (let other = h.1 in omega (arith, within, other)) in
            subst (λ (m : Links). IsRinged heads n m (by_slot heads home fs) (by_slot heads key fs)) (sym (ap (λ b. cond b (taken l (heads + i)) swapped) h.0))
            (ringed_swapped heads n l (by_slot heads home es) (by_slot heads key es) (by_slot heads home fs) (by_slot heads key fs) (heads + i) whole (omega arith) (omega (arith, less))
            (stays home) (stays key) (moves home less) (moves key less)))
      ])
    where
      n : ℕ
      n = length es - 1

      fs : List (K × V)
      fs = swap_remove es i e

      swapped : Links
      swapped = placed (taken (taken l (heads + i)) (heads + n)) ((taken l (heads + i)).next (heads + n)) (heads + i)

      within : i < length es
      within = slice_get_within es i e there

      short : length fs ≡ n
      short = (let same = swapped_length es i e in omega (arith, same))

      whole : IsRinged heads (suc n) l (by_slot heads home es) (by_slot heads key es)
      whole = subst (λ m. IsRinged heads m l (by_slot heads home es) (by_slot heads key es)) (omega (arith, within)) r

      stays : (f : V → ℕ) → (x : ℕ) → x < heads + n → x ≢ heads + i → by_slot heads f fs x ≡ by_slot heads f es x
      stays f x less other = of_same heads f es fs x (λ over. swapped_other es i e (x - heads) (omega (arith, less, over)) (λ (q : x - heads ≡ i). other (omega (arith, q, over))))

      moves : (f : V → ℕ) → i < n → by_slot heads f fs (heads + i) ≡ by_slot heads f es (heads + n)
      moves f less =
          let last = entry_there es n (omega (arith, within)) in
          of_index heads f fs i last.0 (swapped_here es i e less ∙ last.1) ∙ sym (of_index heads f es n last.0 last.1)

  -- where a ring has no first slot, no entry is of it
  pub laid_none : (l : Links) (es : List (K × V)) (h : ℕ) → IsLaid heads l es home key → first_of heads l h ≡ None → (i : ℕ) (e : K × V) → slice_get es i ≡ Some e → home e.1 ≢ h
  laid_none l es h r none i e there same =
      let within = slice_get_within es i e there in
      let first = has_first (λ x. x < heads + length es) heads l (by_slot heads home es) (by_slot heads key es) r.rank r.rings (heads + i) (omega (arith, within)) (omega arith) in
      let its : by_slot heads home es (heads + i) ≡ h = of_index heads home es i e there ∙ same in
      by_test (l.next h == h) refl none (subst (λ x. l.next x ≢ x) its first.not_head)
    where
      by_test : (b : Bool) → (l.next h == h) ≡ b → cond b None (Some (l.next h - heads)) ≡ None → l.next h ≢ h → ⊥
      by_test true e none other = other (eqb-true (l.next h) h e)
      by_test false e none other = cc

  -- the first slot of a ring is that of an entry of it, with the least key
  pub laid_some : (l : Links) (es : List (K × V)) (h s : ℕ) → IsLaid heads l es home key → h < heads → first_of heads l h ≡ Some s →
      (d : K × V) × ((slice_get es s ≡ Some d) × (home d.1 ≡ h) × ((i : ℕ) (e : K × V) → slice_get es i ≡ Some e → home e.1 ≡ h → key d.1 ≤ key e.1))
  laid_some l es h s r under some = by_test (l.next h == h) refl some
    where
      given : l.next h ≢ h → l.next h - heads ≡ s →
          (d : K × V) × ((slice_get es s ≡ Some d) × (home d.1 ≡ h) × ((i : ℕ) (e : K × V) → slice_get es i ≡ Some e → home e.1 ≡ h → key d.1 ≤ key e.1))
      given other is =
          let first = first_is (λ x. x < heads + length es) heads l (by_slot heads home es) (by_slot heads key es) r.rank r.rings h under other in
          let less = first.0 in
          let over = first.1 in
          let there = entry_there es s (omega (arith, less, over, is)) in
          let node : l.next h ≡ heads + s = omega (arith, over, is) in
          let homes : by_slot heads home es (heads + s) ≡ h = subst (λ x. by_slot heads home es x ≡ h) node first.2 in (
            there.0,
            (
              there.1,
              (sym (of_index heads home es s there.0 there.1) ∙ homes),
              (λ i e at same.
                  (let within = slice_get_within es i e at in
                  let least = (has_first (λ x. x < heads + length es) heads l (by_slot heads home es) (by_slot heads key es) r.rank r.rings (heads + i) (omega (arith, within)) (omega arith)).least in
                  let its : by_slot heads home es (heads + i) ≡ h = of_index heads home es i e at ∙ same in
                  let mine : by_slot heads key es (l.next h) ≡ key there.0.1 = ap (by_slot heads key es) node ∙ of_index heads key es s there.0 there.1 in
                  let other : by_slot heads key es (heads + i) ≡ key e.1 = of_index heads key es i e at in
                  let low : by_slot heads key es (l.next h) ≤ by_slot heads key es (heads + i) = subst (λ x. by_slot heads key es (l.next x) ≤ by_slot heads key es (heads + i)) its least in
                  omega (arith, low, mine, other))),
            ),
          )

      by_test : (b : Bool) → (l.next h == h) ≡ b → cond b None (Some (l.next h - heads)) ≡ Some s →
          (d : K × V) × ((slice_get es s ≡ Some d) × (home d.1 ≡ h) × ((i : ℕ) (e : K × V) → slice_get es i ≡ Some e → home e.1 ≡ h → key d.1 ≤ key e.1))
      by_test true e some = cc
      by_test false e some = given (λ (q : l.next h ≡ h). true≢false (sym (eq-eqb (l.next h) h q) ∙ e)) (some_is (l.next h - heads) s some)
