-- What is owed stays the same when an extender takes a word.
use Rattle.std.proofs.Common.{◌≡◌, Bool, ◌≢◌, ℕ, zero, suc, ◌<◌, ◌≤◌, ◌==◌, ◌++◌, true, false, cond, List, [], ◌∷◌, refl, sym, ◌∙◌, ap, subst, arith, inl, inr, eq-eqb, nat_lt}
use Rattle.std.specs.List.{flat_map}
use Rattle.std.proofs.lemmas.Bool.{cases_eq, cases_lt, ne_eqb, lt-ltb, le-ltb, and_right}
use Rattle.std.proofs.lemmas.List.{append-nil, append_assoc}
use Rattle.std.proofs.lemmas.List.Concat.{flat_map-append}
use Rattle.exb_model.specs.Tree.{Shape, device, on, HangsOn, up, top, IsTree, depth}
use Rattle.exb_model.specs.ExtenderForwarding.{Tables, emits}
use Rattle.exb_model.specs.Carriage.{carried}
use Rattle.exb_flight.specs.Items.{Word, copy, copies, stamped}
use Rattle.exb_flight.specs.Tree.{IsDeep}
use Rattle.exb_flight.specs.DownwardFrames.{link_owes, owed_up, owed, taken, CarryKeepsOwed}
use Rattle.exb_model.proofs.TreeOrder.{less_deep}
use Rattle.exb_model.proofs.TreeWays.{up_high, top_high, top_low, top_none, extender_of, port_above, top_below}
use Rattle.exb_control_spec.proofs.Plans.PortOutput.{carried_here}
use Rattle.exb_control_spec.proofs.Plans.CarriedFromTop.{first_of_device, first_later, first_path, up_begins, carried_from_top}

stamped-append : (f : Word) (xs ys : List (List ℕ)) → stamped f (xs ++ ys) ≡ stamped f xs ++ stamped f ys
stamped-append f [] ys = refl
stamped-append f (x ∷ xs) ys = ap (λ z. (f.moment, x) ∷ z) (stamped-append f xs ys)

-- copies leave what their bytes do, with the one stamp
copies_leave : (F : List ℕ → List (List ℕ)) (f : Word) (gs : List (List ℕ)) → flat_map (λ x. stamped x (F x.bytes)) (copies f gs) ≡ stamped f (flat_map F gs)
copies_leave F f [] = refl
copies_leave F f (g ∷ gs) = rw (copies_leave F f gs, stamped-append f (F g) (flat_map F gs)) (ap (λ z. z ++ stamped f (flat_map F gs)) (same (F g)))
  where
    same : (hs : List (List ℕ)) → stamped (copy f g) hs ≡ stamped f hs
    same [] = refl
    same (h ∷ hs) = ap (λ z. (f.moment, h) ∷ z) (same hs)

stamped_if : (f : Word) (b : Bool) (xs : List (List ℕ)) → stamped f (cond b xs []) ≡ cond b (stamped f xs) []
stamped_if f true xs = refl
stamped_if f false xs = refl

-- ---- one link more
owed_here : (s : Shape) (t : Tables) (words : ℕ → List Word) (q p : ℕ) → owed_up s t words q zero p ≡ link_owes s t words q (device p)
unfolding owed_up
owed_here s t words q p = refl

owed_last : (s : Shape) (t : Tables) (words : ℕ → List Word) (q d p : ℕ) → on s (device p) < 64 →
    owed_up s t words q (suc d) p ≡ link_owes s t words q (device p)
unfolding owed_up
owed_last s t words q d p l = rw (lt-ltb _ 64 l) (append-nil _)

owed_more : (s : Shape) (t : Tables) (words : ℕ → List Word) (q d p : ℕ) → 64 ≤ on s (device p) →
    owed_up s t words q (suc d) p ≡ link_owes s t words q (device p) ++ owed_up s t words q d (on s (device p))
unfolding owed_up
owed_more s t words q d p h = rw (le-ltb _ 64 h) refl

carried_own : (s : Shape) (t : Tables) (n : ℕ) (f : List ℕ) (q : ℕ) → device q ≡ n → carried s t n f q ≡ emits t q f
unfolding carried
carried_own s t n f q e = carried_here s t 64 n f q e

module _ (s : Shape) (t : Tables) (words : ℕ → List Word) (n pn : ℕ) (f : Word) (rest : List Word) (q : ℕ)
    (valid : IsTree s) (hung : HangsOn s n pn) (first_word : words n ≡ f ∷ rest) (deep : IsDeep s q) where
  after : ℕ → List Word
  after = taken s t n f rest words

  own_words : after n ≡ rest
  unfolding after taken
  own_words = rw (eq-eqb n n refl) refl

  same_words : (k : ℕ) → k ≢ n → (64 ≤ on s k → device (on s k) ≢ n) → after k ≡ words k
  unfolding after taken
  same_words k e no_child =
      rw (ne_eqb k n e) (
      elim (cases_lt (on s k) 64) [
        | inl l ↦ rw (le-ltb 63 (on s k) (omega arith)) refl
        | inr h ↦ rw (ne_eqb (device (on s k)) n (no_child h)) (rw (and_right (nat_lt 63 (on s k)) false refl) refl)
      ])

  child_words : (k : ℕ) → k ≢ n → 64 ≤ on s k → device (on s k) ≡ n → after k ≡ words k ++ copies f (emits t (on s k) f.bytes)
  unfolding after taken
  child_words k e h c = rw (ne_eqb k n e, lt-ltb 63 (on s k) h, eq-eqb (device (on s k)) n c) refl

  -- links above that of n
  same_above : (p : ℕ) → IsDeep s p → depth s (device p) < depth s n → after (device p) ≡ words (device p)
  same_above p h less =
      same_words (device p) (λ e. absurd (not_less (subst (λ (k : ℕ). depth s k < depth s n) e less)))
      (λ g c. absurd (
      let up_there = less_deep s valid (device p) (on s (device p)) (extender_of s p h.deep h.known) g in
      not_both (subst (λ (k : ℕ). depth s k < depth s (device p)) c up_there) less))
    where
      not_less : {a : ℕ} → a < a → ⊥
      not_less h = omega arith

      not_both : {a b : ℕ} → a < b → b < a → ⊥
      not_both h g = omega arith

  above_same : (d p : ℕ) → IsDeep s p → depth s (device p) < depth s n → owed_up s t after q d p ≡ owed_up s t words q d p
  above_same zero p h less = rw (owed_here s t after q p, owed_here s t words q p) (rw (same_above p h less) refl)
  above_same (suc d) p h less =
      elim (cases_lt (on s (device p)) 64) [
        | inl l ↦ rw (owed_last s t after q d p l, owed_last s t words q d p l) (rw (same_above p h less) refl)
        | inr g ↦
            let up_there = less_deep s valid (device p) (on s (device p)) (extender_of s p h.deep h.known) g in
            let next : IsDeep s (on s (device p)) = record { deep = g; known = port_above s valid p h.deep h.known } in
            rw (owed_more s t after q d p g, owed_more s t words q d p g, above_same d (on s (device p)) next (omega (arith, up_there, less)))
            (rw (same_above p h less) refl)
      ]

  -- the link of n
  at_n : (d p : ℕ) → IsDeep s p → device p ≡ n → stamped f (carried s t n f.bytes q) ++ owed_up s t after q d p ≡ owed_up s t words q d p
  at_n zero p h e = rw (owed_here s t after q p, owed_here s t words q p, e, own_words, first_word) refl
  at_n (suc d) p h e =
      elim (cases_lt (on s (device p)) 64) [
        | inl l ↦ rw (owed_last s t after q d p l, owed_last s t words q d p l, e, own_words, first_word) refl
        | inr g ↦
            let up_there = less_deep s valid (device p) (on s (device p)) (extender_of s p h.deep h.known) g in
            let next : IsDeep s (on s (device p)) = record { deep = g; known = port_above s valid p h.deep h.known } in
            let less : depth s (device (on s (device p))) < depth s n = subst (λ (k : ℕ). depth s (device (on s (device p))) < depth s k) e up_there in
            rw (owed_more s t after q d p g, owed_more s t words q d p g, above_same d (on s (device p)) next less) (
            rw (e, own_words, first_word) (sym (append_assoc (stamped f (carried s t n f.bytes q)) (flat_map (λ x. stamped x (carried s t n x.bytes q)) rest) (owed_up s t words q d (on s n)))))
      ]

  -- links below that of n
  below : (d p : ℕ) → IsDeep s p → device p ≢ n → device q ≢ n → top s.on d p < 64 →
      first_of_device n (up s.on 64 q) ≡ first_of_device n (up s.on d p) → owed_up s t after q d p ≡ owed_up s t words q d p
  below zero p h e other low first = let z : top s.on zero p ≡ p = top_none s p in absurd (omega (arith, h.deep))
  below (suc d) p h e other low first =
      let k = device p in
      let next = on s k in
      elim (cases_lt next 64) [
        | inl l ↦ rw (owed_last s t after q d p l, owed_last s t words q d p l) (rw (same_words k e (λ g. absurd (omega arith))) refl)
        | inr g ↦
            let up_there = extender_of s p h.deep h.known in
            let on_deep : IsDeep s next = record { deep = g; known = port_above s valid p h.deep h.known } in
            let later : first_of_device n (up s.on 64 q) ≡ first_of_device n (up s.on d next) =
            first ∙ (rw (up_high s d p h.deep) (first_later n p (up s.on d next) e)) in
            rw (owed_more s t after q d p g, owed_more s t words q d p g) (
            elim (cases_eq (device next) n) [
              | inl c ↦
                  let found = first_path s n q ∙ (later ∙ up_begins s n d next c) in
                  let whole : carried s t n f.bytes q ≡ flat_map (λ x. carried s t k x q) (emits t next f.bytes) = carried_from_top s t n k next f.bytes q valid deep.deep deep.known other found up_there in
                  let both = at_n d next on_deep c in
                  rw (child_words k e g c) (
                  rw (flat_map-append (λ x. stamped x (carried s t k x.bytes q)) (words k) (copies f (emits t next f.bytes)), append_assoc, copies_leave (λ g. carried s t k g q) f (emits t next f.bytes), ← whole, both) refl)
              | inr not_child ↦
                  rw (same_words k e (λ x. not_child), below d next on_deep not_child other (rw (top_high s d p h.deep) at low) later) refl
            ])
      ]

  kept : cond (device q == n) (stamped f (emits t q f.bytes)) [] ++ owed s t after q ≡ owed s t words q
  unfolding owed
  kept =
      elim (cases_eq (device q) n) [
        | inl e ↦ rw (eq-eqb (device q) n e, ← carried_own s t n f.bytes q e) (at_n 64 q deep e)
        | inr e ↦ rw (ne_eqb (device q) n e) (below 64 q deep e e (top_below s valid q deep.deep deep.known) refl)
      ]

pub carry_keeps_owed : CarryKeepsOwed
unfolding after
carry_keeps_owed s t words n p f rest q valid hung first deep = kept s t words n p f rest q valid hung first deep

-- ---- what the bridge sends
-- Words that come into the links of extenders on the bridge, `more k` into that of extender k. They leave at a port what they
-- do below its own bridge port.
module _ (s : Shape) (t : Tables) (words more : ℕ → List Word) (q : ℕ) (valid : IsTree s) (low_only : (k : ℕ) → 64 ≤ on s k → more k ≡ []) (n : ℕ) where
  both : ℕ → List Word
  both k = words k ++ more k

  new : List (ℕ × List ℕ)
  new = flat_map (λ f. stamped f (carried s t n f.bytes q)) (more n)

  link_with : link_owes s t both q n ≡ link_owes s t words q n ++ new
  unfolding both new
  link_with = flat_map-append (λ x. stamped x (carried s t n x.bytes q)) (words n) (more n)

  link_without : (k : ℕ) → 64 ≤ on s k → link_owes s t both q k ≡ link_owes s t words q k
  unfolding both
  link_without k g = rw (low_only k g, append-nil) refl

  owed_with : (d p : ℕ) → IsDeep s p → top s.on d p < 64 → HangsOn s n (top s.on d p) →
      owed_up s t both q d p ≡ owed_up s t words q d p ++ new
  owed_with zero p h low at = let z : top s.on zero p ≡ p = top_none s p in absurd (omega (arith, h.deep))
  owed_with (suc d) p h low at =
      let there = extender_of s p h.deep h.known in
      elim (cases_lt (on s (device p)) 64) [
        | inl l ↦
            let same : device p ≡ n = valid.alone (device p) n _ there (rw (top_high s d p h.deep, top_low s d _ l) at at) in
            rw (owed_last s t both q d p l, owed_last s t words q d p l, same) link_with
        | inr g ↦
            let next : IsDeep s (on s (device p)) = record { deep = g; known = port_above s valid p h.deep h.known } in
            let rest = owed_with d (on s (device p)) next (rw (top_high s d p h.deep) at low) (rw (top_high s d p h.deep) at at) in
            rw (owed_more s t both q d p g, owed_more s t words q d p g, rest, link_without (device p) g)
            (sym (append_assoc (link_owes s t words q (device p)) (owed_up s t words q d (on s (device p))) new))
      ]

  pub push_owes : IsDeep s q → HangsOn s n (top s.on 64 q) →
      owed s t (λ k. words k ++ more k) q ≡ owed s t words q ++ flat_map (λ f. stamped f (carried s t n f.bytes q)) (more n)
  unfolding owed both new
  push_owes deep hung = owed_with 64 q deep (top_below s valid q deep.deep deep.known) hung
