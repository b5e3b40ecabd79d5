-- The hearers below a port of the bridge, word by word.
use Rattle.std.proofs.Common.{◌≡◌, ◌≢◌, ◌⊎◌, ℕ, zero, suc, ◌+◌, ◌*◌, ◌/◌, ◌%◌, ◌^◌, ◌<◌, ◌==◌, ◌&&◌, ◌||◌, ◌++◌, cond, Bool, true, false, List, [], ◌∷◌, length, take, set, slice_index, refl, sym, ◌∙◌, ap, subst, arith, inl, inr, eq-eqb, add-one}
use Rattle.std.specs.List.{list_any}
use Rattle.std.specs.Int.{bit_at}
use Rattle.std.proofs.lemmas.Bool.{cases_eq, cases_lt, cases_Bool, ne_eqb, eqb-true, ltb-true, lt-ltb, and_parts, and_from, or_right, false≢true, false_from_ne_true}
use Rattle.std.proofs.lemmas.List.{get_or-set_same, get_or-set_other, get_or-replicate, get_or_past, length-replicate}
use Rattle.std.proofs.lemmas.Nat.Bits.{bit_at-zero}
use Rattle.std.specs.Prelude.{replicate}
use Rattle.std.proofs.Math.Seq.{take-suc}
use Rattle.exb_model.specs.Masks.{bits_of}
use Rattle.exb_model.specs.PortBits.{has_port}
use Rattle.exb_model.specs.Ports.{all_ports}
use Rattle.exb_model.specs.Refusals.{is_empty_set}
use Rattle.exb_model.specs.Tree.{Shape, IsTree, HangsOn, device, on, trunk, is_extender, is_external, is_under, by_depth}
use Rattle.exb_model.proofs.MaskLemmas.{bits_of-lt, bit_at-bits_of, bit_is_one}
use Rattle.exb_model.proofs.PortLemmas.{any_below-true, filter_below-none}
use Rattle.exb_model.proofs.TreeOrder.{in_order, by_depth-hangs, place_of}
use Rattle.exb_model.proofs.TreeWays.{number_at_most}
use Rattle.exb_relay.specs.SendsBySource.{set_below}
use Rattle.exb_relay.proofs.Lists.{listed_filter, none_listed}
use Rattle.exb_relay.proofs.PortsBelow.{external_port, external_below, extended_from, none_low, under_home}

abbrev pub among : List ℕ → ℕ → Bool
among xs n = list_any (λ x. x == n) xs

-- the ports of extender n that pass a test, as bits, if it has this trunk
abbrev pub mask_below : Shape → ℕ → (ℕ → Bool) → ℕ → ℕ
mask_below t bridge_port test n = cond (trunk t n + 1 == bridge_port) (bits_of (λ j. test (64 * n + j)) 64) 0

-- word n when some extenders are done
abbrev pub word_below : Shape → ℕ → (ℕ → Bool) → List ℕ → ℕ → ℕ
word_below t bridge_port test xs n = cond (among xs n) (mask_below t bridge_port test n) 0

among_more : (xs : List ℕ) (x n : ℕ) → among (xs ++ x ∷ []) n ≡ (among xs n || x == n)
among_more [] x n = by_or (x == n)
  where
    by_or : (b : Bool) → (b || false) ≡ (false || b)
    by_or true = refl
    by_or false = refl
among_more (y ∷ xs) x n = rw (among_more xs x n) (assoc (y == n) (among xs n) (x == n))
  where
    assoc : (a b c : Bool) → (a || (b || c)) ≡ ((a || b) || c)
    assoc true b c = refl
    assoc false b c = refl

or_false : (b : Bool) → (b || false) ≡ b
or_false true = refl
or_false false = refl

module _ (items : List ℕ) (i x : ℕ) (inside : i < length items) (is : x ≡ slice_index items i) where
  among_next : (n : ℕ) → among (take (i + 1) items) n ≡ (among (take i items) n || x == n)
  among_next n = rw (add-one, take-suc items i 0 inside) (rw is (among_more (take i items) (slice_index items i) n))

  -- another extender was there before, if it is there now
  pub among_before : (n : ℕ) → n ≢ x → among (take (i + 1) items) n ≡ among (take i items) n
  among_before n other = among_next n ∙ (rw (ne_eqb x n (λ e. other (sym e))) (or_false (among (take i items) n)))

  -- the word of one extender more
  pub word_put : (t : Shape) (bridge_port : ℕ) (test : ℕ → Bool) (words : List ℕ) (mask : ℕ) → x < length words → mask ≡ mask_below t bridge_port test x →
      ((n : ℕ) → slice_index words n ≡ word_below t bridge_port test (take i items) n) → (n : ℕ) →
      slice_index (set words x mask) n ≡ word_below t bridge_port test (take (i + 1) items) n
  word_put t bridge_port test words mask room here before n =
      elim (cases_eq n x) [
        | inl e ↦ rw (among_next n) (rw (e, eq-eqb x x refl, or_right (among (take i items) x) true refl, get_or-set_same words x mask 0 room) here)
        | inr d ↦ rw (among_before n d, get_or-set_other words x n mask 0 d) (before n)
      ]

  -- what holds of all extenders so far, and of one more
  pub each_next : (P : ℕ → Type 0) → P x → ((n : ℕ) → among (take i items) n ≡ true → P n) → (n : ℕ) → among (take (i + 1) items) n ≡ true → P n
  each_next P here before n known =
      elim (cases_eq n x) [
        | inl e ↦ subst P (sym e) here
        | inr d ↦ before n (sym (among_before n d) ∙ known)
      ]

-- ---- at the start and at the end
pub no_words : (n : ℕ) → slice_index (replicate 65 0) n ≡ 0
no_words n =
    elim (cases_lt n 65) [
      | inl l ↦ get_or-replicate 65 n 0 0 l
      | inr g ↦ get_or_past (replicate 65 0) n 0 (omega (arith, g, length-replicate {A = ℕ} 65 0))
    ]

pub extender_at : (t : Shape) (items : List ℕ) (i : ℕ) → items ≡ by_depth t → i < length items → IsTree t →
    (is_extender t (slice_index items i) ≡ true) × (slice_index items i < 65)
extender_at t items i e l valid =
    let h : HangsOn t (slice_index items i) (on t (slice_index items i)) =
    subst (λ (xs : List ℕ). HangsOn t (slice_index xs i) (on t (slice_index xs i))) (sym e) (by_depth-hangs t i (subst (λ (xs : List ℕ). i < length xs) e l)) in
    let most = number_at_most t valid (slice_index items i) _ h in
    (and_from _ _ (lt-ltb 0 _ h.extender) (lt-ltb 0 _ h.there), omega (arith, most))

-- words keep to 64 bits
pub word_fits : (t : Shape) (bridge_port : ℕ) (test : ℕ → Bool) (xs : List ℕ) (n : ℕ) → word_below t bridge_port test xs n < 2 ^ 64
word_fits t bridge_port test xs n = by_tests (among xs n) (trunk t n + 1 == bridge_port)
  where
    by_tests : (a b : Bool) → cond a (cond b (bits_of (λ j. test (64 * n + j)) 64) 0) 0 < 2 ^ 64
    by_tests true true = bits_of-lt (λ j. test (64 * n + j)) 64
    by_tests true false = omega arith
    by_tests false b = omega arith

-- a word that isn't 0 has a bit
some_bit : (f : ℕ → Bool) (n : ℕ) → bits_of f n ≢ 0 → (j : ℕ) × (j < n) × (f j ≡ true)
unfolding bits_of
some_bit f zero some = absurd (some refl)
some_bit f (suc n) some =
    elim (cases_Bool (f n)) [
      | inl e ↦ (n, omega arith, e)
      | inr e ↦ let below = some_bit f n (λ z. some (rw (e, z) refl)) in (below.0, omega (arith, below.1), below.2)
    ]

and_true : (b : Bool) → (b && true) ≡ b
and_true true = refl
and_true false = refl

and_false : (b : Bool) → (b && false) ≡ false
and_false true = refl
and_false false = refl

module _ (t : Shape) (valid : IsTree t) (items : List ℕ) (bridge_port k : ℕ) (test : ℕ → Bool) (order : items ≡ by_depth t) (at : bridge_port ≡ k + 1) (external : (q : ℕ) → test q ≡ true → is_external t q ≡ true) where
  none_among : among items 0 ≡ false
  none_among = false_from_ne_true _ (λ h.
      let place = place_of 0 items h in
      let there : HangsOn t (slice_index items place.0) (on t (slice_index items place.0)) =
      subst (λ (xs : List ℕ). HangsOn t (slice_index xs place.0) (on t (slice_index xs place.0))) (sym order) (by_depth-hangs t place.0 (subst (λ (xs : List ℕ). place.0 < length xs) order place.1)) in
      let zero = place.2 in let some = there.extender in absurd (omega (arith, some, zero)))

  -- a port that passes is under bridge port k where its word is taken
  taken : (q : ℕ) → test q ≡ true → (among items (device q) && trunk t (device q) + 1 == bridge_port) ≡ is_under t k q
  taken q h =
      let ext = external q h in
      elim (cases_lt q 64) [
        | inl l ↦
            let zero : device q ≡ 0 = omega (arith, l) in
            rw (none_low t k q l, zero, none_among) refl
        | inr g ↦
            let known = external_port t q ext in
            let listed : among items (device q) ≡ true = rw order (in_order t q valid g known) in
            let deep = extended_from t q g ext in
            rw (listed, deep) (same_trunk (cases_eq (trunk t (device q)) k))
      ]
    where
      same_trunk : (trunk t (device q) ≡ k) ⊎ (trunk t (device q) ≢ k) → (trunk t (device q) + 1 == bridge_port) ≡ (trunk t (device q) == k)
      same_trunk (inl e) = rw (eq-eqb (trunk t (device q) + 1) bridge_port (omega (arith, e, at)), eq-eqb (trunk t (device q)) k e) refl
      same_trunk (inr n) = rw (ne_eqb (trunk t (device q) + 1) bridge_port (λ e. n (omega (arith, e, at))), ne_eqb (trunk t (device q)) k n) refl

  bit_is : (q : ℕ) → (bit_at (bits_of (λ j. test (64 * (q / 64) + j)) 64) (q % 64) == 1) ≡ test q
  bit_is q =
      let back : 64 * (q / 64) + q % 64 ≡ q = omega arith in
      ap (λ (b : ℕ). b == 1) (bit_at-bits_of (λ j. test (64 * (q / 64) + j)) 64 (q % 64) (omega arith)) ∙ bit_is_one (test (64 * (q / 64) + q % 64)) ∙ ap test back

  word_has : (q : ℕ) → (bit_at (word_below t bridge_port test items (q / 64)) (q % 64) == 1) ≡ (test q && is_under t k q)
  word_has q = by_parts (among items (q / 64)) (trunk t (q / 64) + 1 == bridge_port) ∙ by_test (cases_Bool (test q))
    where
      by_parts : (a b : Bool) → (bit_at (cond a (cond b (bits_of (λ j. test (64 * (q / 64) + j)) 64) 0) 0) (q % 64) == 1) ≡ ((a && b) && test q)
      by_parts true true = bit_is q
      by_parts true false = ap (λ (b : ℕ). b == 1) (bit_at-zero (q % 64))
      by_parts false b = ap (λ (b : ℕ). b == 1) (bit_at-zero (q % 64))

      by_test : (test q ≡ true) ⊎ (test q ≡ false) → ((among items (q / 64) && trunk t (q / 64) + 1 == bridge_port) && test q) ≡ (test q && is_under t k q)
      by_test (inl h) = rw h (and_true (among items (q / 64) && trunk t (q / 64) + 1 == bridge_port) ∙ taken q h)
      by_test (inr n) = rw n (and_false (among items (q / 64) && trunk t (q / 64) + 1 == bridge_port))

  pub below_has : (words : List ℕ) → ((n : ℕ) → slice_index words n ≡ word_below t bridge_port test items n) → (q : ℕ) → has_port words q ≡ (test q && is_under t k q)
  unfolding has_port
  below_has words is q = ap (λ (w : ℕ). bit_at w (q % 64) == 1) (is (q / 64)) ∙ word_has q

  -- ---- whether there is one
  pub none_below : ((n : ℕ) → among items n ≡ true → mask_below t bridge_port test n ≡ 0) → set_below t k test ≡ []
  none_below none = filter_below-none _ 4160 (λ q. sym (word_has q) ∙ (ap (λ (w : ℕ). bit_at w (q % 64) == 1) (no_word (q / 64)) ∙ ap (λ (b : ℕ). b == 1) (bit_at-zero (q % 64))))
    where
      no_word : (n : ℕ) → word_below t bridge_port test items n ≡ 0
      no_word n = elim (cases_Bool (among items n)) [ inl e ↦ rw e (none n e) | inr e ↦ rw e refl ]

  full : (q : ℕ) → (test q && is_under t k q) ≡ true → is_empty_set (set_below t k test) ≡ false
  full q has = false_from_ne_true _ (λ empty.
      let low = external_below t valid q (external q (and_parts (test q) (is_under t k q) has).0) in
      let e = listed_filter (λ q. test q && is_under t k q) q all_ports in
      let none = none_listed q (set_below t k test) empty in
      let there = any_below-true (λ x. x == q) 4160 q low (eq-eqb q q refl) in
      in_list e none there)
    where
      in_list : list_any (λ x. x == q) (set_below t k test) ≡ (list_any (λ x. x == q) all_ports && (test q && is_under t k q)) →
          list_any (λ x. x == q) (set_below t k test) ≡ false → list_any (λ x. x == q) all_ports ≡ true → ⊥
      in_list e none there = false≢true (sym none ∙ (e ∙ (rw (there, has) refl)))

  pub some_below : (x : ℕ) → is_extender t x ≡ true → mask_below t bridge_port test x ≢ 0 → is_empty_set (set_below t k test) ≡ false
  some_below x known some =
      elim (cases_Bool (trunk t x + 1 == bridge_port)) [
        | inl e ↦
            let hit = some_bit (λ j. test (64 * x + j)) 64 (λ z. some (rw e z)) in
            let q = 64 * x + hit.0 in
            let some = ltb-true 0 x (and_parts _ _ known).0 in
            let few = hit.1 in
            let of_it : q / 64 ≡ x = omega (arith, few) in
            let deep = extended_from t q (omega (arith, some)) (external q hit.2) in
            let here : trunk t x + 1 ≡ bridge_port = eqb-true (trunk t x + 1) bridge_port e in
            let same : trunk t (device q) ≡ k = ap (trunk t) of_it ∙ omega (arith, here, at) in
            full q (and_from _ _ hit.2 (subst (λ (n : ℕ). is_under t n q ≡ true) same (under_home t q deep)))
        | inr n ↦ absurd (some (rw n refl))
      ]
