-- The upward words of a port stay in order.
use Rattle.std.proofs.Common.{◌≡◌, ◌≢◌, ℕ, zero, suc, ◌<◌, ◌≤◌, ◌==◌, ◌++◌, List, [], ◌∷◌, refl, sym, ◌∙◌, ap, subst, arith, inl, inr, eq-eqb}
use Rattle.std.proofs.lemmas.Bool.{cases_eq, cases_lt, cases_Bool, ne_eqb, lt-ltb, le-ltb}
use Rattle.std.proofs.lemmas.List.{append-nil, append_assoc}
use Rattle.exb_model.specs.Tree.{Shape, device, on, top, IsTree, depth}
use Rattle.exb_model.proofs.TreeWays.{extender_of, port_above, top_high, top_none, top_below}
use Rattle.exb_model.proofs.TreeOrder.{less_deep}
use Rattle.exb_flight.specs.Items.{Word, Item, Data, words_of, without_data}
use Rattle.exb_flight.specs.Tree.{Over, itself, further, IsLink, IsDeep}
use Rattle.exb_flight.specs.Flight.{add, change}
use Rattle.exb_flight.specs.UpwardOrder.{of_port, waiting_up, waiting}
use Rattle.exb_flight.proofs.ItemLists.{words_append, words_without_data}
use Rattle.exb_flight.proofs.ExtendersAbove.{no_circle}

of_port-append : (r : ℕ) (xs ys : List Word) → of_port r (xs ++ ys) ≡ of_port r xs ++ of_port r ys
of_port-append r [] ys = refl
of_port-append r (x ∷ xs) ys =
    elim (cases_Bool (x.port == r)) [
      | inl e ↦ rw e (ap (λ z. x ∷ z) (of_port-append r xs ys))
      | inr e ↦ rw e (of_port-append r xs ys)
    ]

last : (s : Shape) (up : ℕ → List Item) (r d p : ℕ) → on s (device p) < 64 → waiting_up s up r (suc d) p ≡ of_port r (words_of (up (device p)))
unfolding waiting_up
last s up r d p l = rw (lt-ltb _ 64 l) refl

more : (s : Shape) (up : ℕ → List Item) (r d p : ℕ) → 64 ≤ on s (device p) → waiting_up s up r (suc d) p ≡ waiting_up s up r d (on s (device p)) ++ of_port r (words_of (up (device p)))
unfolding waiting_up
more s up r d p h = rw (le-ltb _ 64 h) refl

-- ---- a word goes to the next link
module _ (s : Shape) (valid : IsTree s) (up : ℕ → List Item) (n : ℕ) (link : IsLink s n) (high : 64 ≤ on s n) (f : Word) (rest : List Word)
    (first : words_of (up n) ≡ f ∷ rest) (r : ℕ) where
  next : ℕ
  next = device (on s n)

  after : ℕ → List Item
  after = add (change up n (without_data (up n))) (device (on s n)) (Data f)

  apart : n ≢ device (on s n)
  apart e = no_circle s valid n link high (itself (sym e))

  at_n : words_of (after n) ≡ rest
  unfolding after
  at_n = rw (ne_eqb n (device (on s n)) apart, eq-eqb n n refl) (words_without_data (up n) f rest first)

  at_next : words_of (after (device (on s n))) ≡ words_of (up (device (on s n))) ++ f ∷ []
  unfolding after
  at_next = rw (eq-eqb (device (on s n)) (device (on s n)) refl, ne_eqb (device (on s n)) n (λ e. apart (sym e))) (words_append (up (device (on s n))) (Data f ∷ []))

  elsewhere : (k : ℕ) → k ≢ n → k ≢ device (on s n) → words_of (after k) ≡ words_of (up k)
  unfolding after
  elsewhere k a b = rw (ne_eqb k (device (on s n)) b, ne_eqb k n a) refl

  next_depth : depth s (device (on s n)) < depth s n
  next_depth = less_deep s valid n (on s n) link high

  -- above the next link
  above : (d p : ℕ) → IsDeep s p → depth s (device p) < depth s (device (on s n)) → top s.on d p < 64 → waiting_up s after r d p ≡ waiting_up s up r d p
  above zero p h less low = let z : top s.on zero p ≡ p = top_none s p in let g = h.deep in absurd (omega (arith, low, z, g))
  above (suc d) p h less low =
      let nd = next_depth in
      let same : words_of (after (device p)) ≡ words_of (up (device p)) =
      elsewhere (device p) (λ e. not_less (depth s n) (depth s (device (on s n))) (subst (λ (k : ℕ). depth s k < depth s (device (on s n))) e less) nd)
      (λ e. itself_less (depth s (device (on s n))) (subst (λ (k : ℕ). depth s k < depth s (device (on s n))) e less)) in
      elim (cases_lt (on s (device p)) 64) [
        | inl l ↦ rw (last s after r d p l, last s up r d p l, same) refl
        | inr g ↦
            let there = extender_of s p h.deep h.known in
            let up_there = less_deep s valid (device p) (on s (device p)) there g in
            let deep : IsDeep s (on s (device p)) = record { deep = g; known = port_above s valid p h.deep h.known } in
            rw (more s after r d p g, more s up r d p g, same, above d (on s (device p)) deep (omega (arith, up_there, less)) (rw (top_high s d p h.deep) at low)) refl
      ]
    where
      not_less : (a b : ℕ) → a < b → b < a → ⊥
      not_less a b x y = omega (arith, x, y)

      itself_less : (a : ℕ) → a < a → ⊥
      itself_less a x = omega (arith, x)

  -- from the next link on
  gained : (d p : ℕ) → IsDeep s p → device p ≡ device (on s n) → top s.on d p < 64 → waiting_up s after r d p ≡ waiting_up s up r d p ++ of_port r (f ∷ [])
  gained zero p h e low = let z : top s.on zero p ≡ p = top_none s p in let g = h.deep in absurd (omega (arith, low, z, g))
  gained (suc d) p h e low =
      let grown : of_port r (words_of (after (device p))) ≡ of_port r (words_of (up (device p))) ++ of_port r (f ∷ []) =
      rw (e, at_next) (of_port-append r (words_of (up (device (on s n)))) (f ∷ [])) in
      elim (cases_lt (on s (device p)) 64) [
        | inl l ↦ rw (last s after r d p l, last s up r d p l) grown
        | inr g ↦
            let there = extender_of s p h.deep h.known in
            let up_there = less_deep s valid (device p) (on s (device p)) there g in
            let deep : IsDeep s (on s (device p)) = record { deep = g; known = port_above s valid p h.deep h.known } in
            rw (more s after r d p g, more s up r d p g, above d (on s (device p)) deep (subst (λ (k : ℕ). depth s (device (on s (device p))) < depth s k) e up_there) (rw (top_high s d p h.deep) at low), grown)
            (sym (append_assoc (waiting_up s up r d (on s (device p))) (of_port r (words_of (up (device p)))) (of_port r (f ∷ []))))
      ]

  -- from the link itself on
  same_from_n : (d p : ℕ) → IsDeep s p → device p ≡ n → top s.on d p < 64 → waiting_up s after r d p ≡ waiting_up s up r d p
  same_from_n zero p h e low = let z : top s.on zero p ≡ p = top_none s p in let g = h.deep in absurd (omega (arith, low, z, g))
  same_from_n (suc d) p h e low =
      let g : 64 ≤ on s (device p) = rw e high in
      let deep : IsDeep s (on s (device p)) = record { deep = g; known = port_above s valid p h.deep h.known } in
      let up_there = gained d (on s (device p)) deep (ap (λ (k : ℕ). device (on s k)) e) (rw (top_high s d p h.deep) at low) in
      let mine : of_port r (words_of (after (device p))) ≡ of_port r rest = rw (e, at_n) refl in
      let was : of_port r (words_of (up (device p))) ≡ of_port r (f ∷ []) ++ of_port r rest = rw (e, first) (of_port-append r (f ∷ []) rest) in
      rw (more s after r d p g, more s up r d p g, up_there, mine, was)
      (append_assoc (waiting_up s up r d (on s (device p))) (of_port r (f ∷ [])) (of_port r rest))

  -- below it
  below : (d p : ℕ) → IsDeep s p → top s.on d p < 64 → (f.port ≡ r → Over s n (device p)) → waiting_up s after r d p ≡ waiting_up s up r d p
  below zero p h low o = let z : top s.on zero p ≡ p = top_none s p in let g = h.deep in absurd (omega (arith, low, z, g))
  below (suc d) p h low o =
      elim (cases_eq (device p) n) [
        | inl e ↦ same_from_n (suc d) p h e low
        | inr e ↦
            let same : of_port r (words_of (after (device p))) ≡ of_port r (words_of (up (device p))) = own (device p) e o in
            elim (cases_lt (on s (device p)) 64) [
              | inl l ↦ rw (last s after r d p l, last s up r d p l) same
              | inr g ↦
                  let deep : IsDeep s (on s (device p)) = record { deep = g; known = port_above s valid p h.deep h.known } in
                  rw (more s after r d p g, more s up r d p g, same, below d (on s (device p)) deep (rw (top_high s d p h.deep) at low) (λ z. next_over (device p) e (o z))) refl
            ]
      ]
    where
      next_over : (k : ℕ) → k ≢ n → Over s n k → Over s n (device (on s k))
      next_over k e (itself z) = absurd (e z)
      next_over k e (further g z) = z

      other_port : (f.port ≡ r → ⊥) → of_port r (f ∷ []) ≡ []
      other_port z = rw (ne_eqb f.port r z) refl

      own : (k : ℕ) → k ≢ n → (f.port ≡ r → Over s n k) → of_port r (words_of (after k)) ≡ of_port r (words_of (up k))
      own k e o =
          elim (cases_eq k (device (on s n))) [
            | inr z ↦ rw (elsewhere k e z) refl
            | inl z ↦
                let foreign : f.port ≡ r → ⊥ = λ y. no_circle s valid n link high (subst (λ (x : ℕ). Over s n x) z (o y)) in
                rw (z, at_next) (of_port-append r (words_of (up (device (on s n)))) (f ∷ []) ∙ (rw (other_port foreign) (append-nil (of_port r (words_of (up (device (on s n))))))))
          ]

  -- the words of each port are the same, in the same order
  pub carry_up_keeps : IsDeep s r → Over s n (device f.port) → waiting s (add (change up n (without_data (up n))) (device (on s n)) (Data f)) r ≡ waiting s up r
  unfolding waiting after
  carry_up_keeps ex o = below 64 r ex (top_below s valid r ex.deep ex.known) (λ e. subst (λ (x : ℕ). Over s n (device x)) e o)

-- ---- a word comes to the bridge: it was the first of its port
module _ (s : Shape) (valid : IsTree s) (up : ℕ → List Item) (n : ℕ) (link : IsLink s n) (low_link : on s n < 64) (f : Word) (rest : List Word)
    (first : words_of (up n) ≡ f ∷ rest) (r : ℕ) where
  gone : ℕ → List Item
  gone = change up n (without_data (up n))

  gone_n : words_of (gone n) ≡ rest
  unfolding gone
  gone_n = rw (eq-eqb n n refl) (words_without_data (up n) f rest first)

  gone_other : (k : ℕ) → k ≢ n → words_of (gone k) ≡ words_of (up k)
  unfolding gone
  gone_other k e = rw (ne_eqb k n e) refl

  from_below : (d p : ℕ) → IsDeep s p → top s.on d p < 64 → (f.port ≡ r → Over s n (device p)) → of_port r (f ∷ []) ++ waiting_up s gone r d p ≡ waiting_up s up r d p
  from_below zero p h low o = let z : top s.on zero p ≡ p = top_none s p in let g = h.deep in absurd (omega (arith, low, z, g))
  from_below (suc d) p h low o =
      elim (cases_eq (device p) n) [
        | inl e ↦
            let l : on s (device p) < 64 = rw e low_link in
            rw (last s gone r d p l, last s up r d p l, e, gone_n, first) (sym (of_port-append r (f ∷ []) rest))
        | inr e ↦
            let same : of_port r (words_of (gone (device p))) ≡ of_port r (words_of (up (device p))) = rw (gone_other (device p) e) refl in
            elim (cases_lt (on s (device p)) 64) [
              | inl l ↦ rw (last s gone r d p l, last s up r d p l, other_port (λ z. low_over (device p) e l (o z)), same) refl
              | inr g ↦
                  let deep : IsDeep s (on s (device p)) = record { deep = g; known = port_above s valid p h.deep h.known } in
                  let rest_same = from_below d (on s (device p)) deep (rw (top_high s d p h.deep) at low) (λ z. next_over (device p) e (o z)) in
                  rw (more s gone r d p g, more s up r d p g, same, ← rest_same)
                  (sym (append_assoc (of_port r (f ∷ [])) (waiting_up s gone r d (on s (device p))) (of_port r (words_of (up (device p))))))
            ]
      ]
    where
      next_over : (k : ℕ) → k ≢ n → Over s n k → Over s n (device (on s k))
      next_over k e (itself z) = absurd (e z)
      next_over k e (further g z) = z

      low_over : (k : ℕ) → k ≢ n → on s k < 64 → Over s n k → ⊥
      low_over k e l (itself z) = e z
      low_over k e l (further g z) = omega (arith, l, g)

      other_port : (f.port ≡ r → ⊥) → of_port r (f ∷ []) ≡ []
      other_port z = rw (ne_eqb f.port r z) refl

  pub carry_in_takes : IsDeep s r → Over s n (device f.port) → of_port r (f ∷ []) ++ waiting s (change up n (without_data (up n))) r ≡ waiting s up r
  unfolding waiting gone
  carry_in_takes ex o = from_below 64 r ex (top_below s valid r ex.deep ex.known) (λ e. subst (λ (x : ℕ). Over s n (device x)) e o)

-- ---- a frame arrives: it is the last of its port
module _ (s : Shape) (valid : IsTree s) (up : ℕ → List Item) (f : Word) (r : ℕ) where
  grown : ℕ → List Item
  grown = add up (device f.port) (Data f)

  grown_there : words_of (grown (device f.port)) ≡ words_of (up (device f.port)) ++ f ∷ []
  unfolding grown
  grown_there = rw (eq-eqb (device f.port) (device f.port) refl) (words_append (up (device f.port)) (Data f ∷ []))

  grown_other : (k : ℕ) → k ≢ device f.port → words_of (grown k) ≡ words_of (up k)
  unfolding grown
  grown_other k e = rw (ne_eqb k (device f.port) e) refl

  -- links that are not that of the port r, or another port's word
  of_link : (k : ℕ) → (f.port ≡ r → k ≢ device f.port) → of_port r (words_of (grown k)) ≡ of_port r (words_of (up k))
  of_link k o =
      elim (cases_eq k (device f.port)) [
        | inr z ↦ rw (grown_other k z) refl
        | inl z ↦
            let foreign : f.port ≡ r → ⊥ = λ y. o y z in
            let none : of_port r (f ∷ []) ≡ [] = rw (ne_eqb f.port r foreign) refl in
            rw (z, grown_there) (of_port-append r (words_of (up (device f.port))) (f ∷ []) ∙ (rw none (append-nil (of_port r (words_of (up (device f.port)))))))
      ]

  above_same : (d p : ℕ) → IsDeep s p → top s.on d p < 64 → (f.port ≡ r → depth s (device p) < depth s (device f.port)) → waiting_up s grown r d p ≡ waiting_up s up r d p
  above_same zero p h low o = let z : top s.on zero p ≡ p = top_none s p in let g = h.deep in absurd (omega (arith, low, z, g))
  above_same (suc d) p h low o =
      let same = of_link (device p) (λ y e. itself_less (depth s (device f.port)) (subst (λ (k : ℕ). depth s k < depth s (device f.port)) e (o y))) in
      elim (cases_lt (on s (device p)) 64) [
        | inl l ↦ rw (last s grown r d p l, last s up r d p l) same
        | inr g ↦
            let there = extender_of s p h.deep h.known in
            let up_there = less_deep s valid (device p) (on s (device p)) there g in
            let deep : IsDeep s (on s (device p)) = record { deep = g; known = port_above s valid p h.deep h.known } in
            rw (more s grown r d p g, more s up r d p g, same, above_same d (on s (device p)) deep (rw (top_high s d p h.deep) at low) (λ y. less (depth s (device (on s (device p)))) (depth s (device p)) (depth s (device f.port)) up_there (o y))) refl
      ]
    where
      itself_less : (a : ℕ) → a < a → ⊥
      itself_less a x = omega (arith, x)

      less : (a b c : ℕ) → a < b → b < c → a < c
      less a b c x y = omega (arith, x, y)

  at_r : (d : ℕ) → IsDeep s r → top s.on (suc d) r < 64 → waiting_up s grown r (suc d) r ≡ waiting_up s up r (suc d) r ++ of_port r (f ∷ [])
  at_r d h low =
      let mine : of_port r (words_of (grown (device r))) ≡ of_port r (words_of (up (device r))) ++ of_port r (f ∷ []) = own in
      elim (cases_lt (on s (device r)) 64) [
        | inl l ↦ rw (last s grown r d r l, last s up r d r l) mine
        | inr g ↦
            let there = extender_of s r h.deep h.known in
            let up_there = less_deep s valid (device r) (on s (device r)) there g in
            let deep : IsDeep s (on s (device r)) = record { deep = g; known = port_above s valid r h.deep h.known } in
            rw (
              more s grown r d r g,
              more s up r d r g,
              mine,
              above_same d (on s (device r)) deep (rw (top_high s d r h.deep) at low)
                  (λ y. subst (λ (k : ℕ). depth s (device (on s (device r))) < depth s (device k)) (sym y) up_there),
            )
            (sym (append_assoc (waiting_up s up r d (on s (device r))) (of_port r (words_of (up (device r)))) (of_port r (f ∷ []))))
      ]
    where
      own : of_port r (words_of (grown (device r))) ≡ of_port r (words_of (up (device r))) ++ of_port r (f ∷ [])
      own = elim (cases_eq f.port r) [
        | inl e ↦
            let there : words_of (grown (device r)) ≡ words_of (up (device r)) ++ f ∷ [] = subst (λ (x : ℕ). words_of (grown (device x)) ≡ words_of (up (device x)) ++ f ∷ []) e grown_there in
            rw there (of_port-append r (words_of (up (device r))) (f ∷ []))
        | inr e ↦
            let none : of_port r (f ∷ []) ≡ [] = rw (ne_eqb f.port r e) refl in
            of_link (device r) (λ y. absurd (e y)) ∙ (rw none (sym (append-nil (of_port r (words_of (up (device r)))))))
      ]

  pub arrive_adds : IsDeep s r → waiting s (add up (device f.port) (Data f)) r ≡ waiting s up r ++ of_port r (f ∷ [])
  unfolding waiting grown
  arrive_adds ex = at_r 63 ex (top_below s valid r ex.deep ex.known)

-- ---- the same words
waiting_up_same : (s : Shape) (up new : ℕ → List Item) (r : ℕ) → ((n : ℕ) → words_of (new n) ≡ words_of (up n)) → (d p : ℕ) → waiting_up s new r d p ≡ waiting_up s up r d p
unfolding waiting_up
waiting_up_same s up new r same zero p = ap (of_port r) (same (device p))
waiting_up_same s up new r same (suc d) p =
    elim (cases_lt (on s (device p)) 64) [
      | inl l ↦ rw (lt-ltb (on s (device p)) 64 l, same (device p)) refl
      | inr g ↦ rw (le-ltb (on s (device p)) 64 g, waiting_up_same s up new r same d (on s (device p)), same (device p)) refl
    ]

pub waiting_same : (s : Shape) (up new : ℕ → List Item) (r : ℕ) → ((n : ℕ) → words_of (new n) ≡ words_of (up n)) → waiting s new r ≡ waiting s up r
unfolding waiting
waiting_same s up new r same = waiting_up_same s up new r same 64 r
