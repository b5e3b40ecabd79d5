-- The order of extenders by depth: each is in it, and none stands before one that is less deep.
use Rattle.std.proofs.Common.{◌≡◌, ℕ, zero, suc, ◌+◌, ◌-◌, ◌<◌, ◌≤◌, ◌==◌, ◌||◌, ◌++◌, Bool, true, false, List, [], ◌∷◌, length, slice_index, All, refl, sym, ◌∙◌, subst, arith, inl, inr, eq-eqb, eqb-true, add-one, length-append}
use Rattle.std.specs.List.{list_any}
use Rattle.std.proofs.lemmas.Bool.{cases_eq, cases_lt, cases_Bool, lt-ltb, ltb-true, and_from, and_parts, or_left, or_right, or_cases, false≢true}
use Rattle.std.proofs.lemmas.List.{get_or_append_left, get_or-append_right}
use Rattle.std.proofs.lemmas.List.Elements.{All-nil, All-weaker, All-push, All-append}
use Rattle.exb_model.specs.Tree.{Shape, device, on, up, top, HangsOn, IsTree, is_port, depth, hangs_at_depth, level, levels, by_depth}
use Rattle.exb_model.proofs.TreeWays.{up_high, up_low, up_none, top_high, top_low, top_none, path_is, extender_of, number_at_most}
use Rattle.exb_model.proofs.TreeLoops.{level_none, level_in, level_out, levels_none, levels_more, by_depth_is, by_depth-range}

-- whether an extender is in a list
abbrev pub listed : ℕ → List ℕ → Bool
listed n xs = list_any (λ x. x == n) xs

-- ---- each extender is in the order
listed-append : (n : ℕ) (xs ys : List ℕ) → listed n (xs ++ ys) ≡ (listed n xs || listed n ys)
listed-append n [] ys = refl
listed-append n (x ∷ xs) ys = rw (listed-append n xs ys) (or_assoc (x == n) (listed n xs) (listed n ys))
  where
    or_assoc : (a b c : Bool) → (a || (b || c)) ≡ ((a || b) || c)
    or_assoc true b c = refl
    or_assoc false b c = refl

listed_left : (n : ℕ) (xs ys : List ℕ) → listed n xs ≡ true → listed n (xs ++ ys) ≡ true
listed_left n xs ys h = listed-append n xs ys ∙ or_left _ _ h

listed_right : (n : ℕ) (xs ys : List ℕ) → listed n ys ≡ true → listed n (xs ++ ys) ≡ true
listed_right n xs ys h = listed-append n xs ys ∙ or_right _ _ h

listed_one : (n m : ℕ) → n ≡ m → listed n (m ∷ []) ≡ true
listed_one n m e = rw (eq-eqb m n (sym e)) refl

listed_level : (t : Shape) (d k n : ℕ) → 0 < n → n ≤ k → hangs_at_depth t n d ≡ true → listed n (level t d k) ≡ true
listed_level t d zero n z l h = absurd (omega arith)
listed_level t d (suc k) n z l h =
    rw (← add-one k) (
    elim (cases_eq n (k + 1)) [
      | inl e ↦ rw (level_in t d k (subst (λ (m : ℕ). hangs_at_depth t m d ≡ true) e h)) (listed_right n (level t d k) ((k + 1) ∷ []) (listed_one n (k + 1) e))
      | inr e ↦
          let rest : listed n (level t d k) ≡ true = listed_level t d k n z (omega arith) h in
          elim (cases_Bool (hangs_at_depth t (k + 1) d)) [
            | inl f ↦ rw (level_in t d k f) (listed_left n (level t d k) ((k + 1) ∷ []) rest)
            | inr f ↦ rw (level_out t d k f) rest
          ]
    ])

pub listed_levels : (t : Shape) (d n : ℕ) → 0 < n → n ≤ 64 → 0 < depth t n → depth t n ≤ d → 0 < slice_index t.ports n → listed n (levels t d) ≡ true
listed_levels t zero n z l p h there = absurd (omega arith)
listed_levels t (suc d) n z l p h there =
    rw (← add-one d) (rw (levels_more t d) (
    elim (cases_eq (depth t n) (d + 1)) [
      | inl e ↦ listed_right n (levels t d) (level t (d + 1) 64) (listed_level t (d + 1) 64 n z l (and_from _ _ (lt-ltb 0 _ there) (eq-eqb _ _ e)))
      | inr e ↦ listed_left n (levels t d) (level t (d + 1) 64) (listed_levels t d n z l p (omega arith) there)
    ]))

-- ---- how deep an extender hangs
pub settled : (s : Shape) (d p : ℕ) → top s.on d p < 64 → up s.on (suc d) p ≡ up s.on d p
settled s zero p low =
    let z : top s.on zero p ≡ p = top_none s p in
    let l : p < 64 = omega arith in
    rw (up_low s (suc zero) p l, up_none s p) refl
settled s (suc d) p low =
    elim (cases_lt p 64) [
      | inl l ↦ rw (up_low s (suc (suc d)) p l, up_low s (suc d) p l) refl
      | inr h ↦ rw (up_high s (suc d) p h, up_high s d p h, settled s d (on s (device p)) (rw (top_high s d p h) at low)) refl
    ]

-- more steps lead to the same end
pub top_more : (s : Shape) (d p : ℕ) → top s.on d p < 64 → top s.on (suc d) p < 64
top_more s zero p low = let z : top s.on zero p ≡ p = top_none s p in let l : p < 64 = omega arith in rw (top_low s (suc zero) p l) l
top_more s (suc d) p low =
    elim (cases_lt p 64) [
      | inl l ↦ rw (top_low s (suc (suc d)) p l) l
      | inr h ↦ rw (top_high s (suc d) p h) (top_more s d (on s (device p)) (rw (top_high s d p h) at low))
    ]

at_most : (s : Shape) (d p : ℕ) → length (up s.on d p) ≤ d + 1
at_most s zero p = rw (up_none s p) (omega arith)
at_most s (suc d) p =
    elim (cases_lt p 64) [
      | inl l ↦ rw (up_low s (suc d) p l) (omega arith)
      | inr h ↦ let rest = at_most s d (on s (device p)) in rw (up_high s d p h) (omega (arith, rest))
    ]

pub at_least : (s : Shape) (d p : ℕ) → 0 < length (up s.on d p)
at_least s zero p = rw (up_none s p) (omega arith)
at_least s (suc d) p =
    elim (cases_lt p 64) [
      | inl l ↦ rw (up_low s (suc d) p l) (omega arith)
      | inr h ↦ rw (up_high s d p h) (omega arith)
    ]

-- the extender of a port of the tree is in the order
pub in_order : (s : Shape) (p : ℕ) → IsTree s → 64 ≤ p → is_port s p ≡ true → list_any (λ x. x == device p) (by_depth s) ≡ true
in_order s p valid deep known =
    let e = extender_of s p deep known in
    let n = device p in
    let low = valid.rooted n e.extender e.there in
    let same : depth s n ≡ length (up s.on 63 (on s n)) = rw (path_is s (on s n), settled s 63 (on s n) low) refl in
    let high = at_most s 63 (on s n) in
    let some = at_least s 63 (on s n) in
    rw (by_depth_is s) (listed_levels s 64 n e.extender (number_at_most s valid n _ e) (omega arith) (omega arith) e.there)

-- ---- none before one that is less deep
level-depth : (t : Shape) (d k : ℕ) → All (λ n. depth t n ≡ d) (level t d k)
level-depth t d zero = rw (level_none t d) (All-nil (λ n. depth t n ≡ d))
level-depth t d (suc k) =
    rw (← add-one k) (
    elim (cases_Bool (hangs_at_depth t (k + 1) d)) [
      | inl e ↦
          let here : depth t (k + 1) ≡ d = eqb-true (depth t (k + 1)) d (and_parts _ _ e).1 in
          rw (level_in t d k e) (All-push (λ n. depth t n ≡ d) (level t d k) (k + 1) (level-depth t d k) here)
      | inr e ↦ rw (level_out t d k e) (level-depth t d k)
    ])

levels-depth : (t : Shape) (d : ℕ) → All (λ n. depth t n ≤ d) (levels t d)
levels-depth t zero = rw (levels_none t) (All-nil (λ n. depth t n ≤ 0))
levels-depth t (suc d) =
    rw (← add-one d, levels_more t d) (
    All-append (λ n. depth t n ≤ d + 1) (levels t d) (level t (d + 1) 64)
    (All-weaker (λ n. depth t n ≤ d) (λ n. depth t n ≤ d + 1) (λ n h. omega arith) (levels t d) (levels-depth t d))
    (All-weaker (λ n. depth t n ≡ d + 1) (λ n. depth t n ≤ d + 1) (λ n h. omega arith) (level t (d + 1) 64) (level-depth t (d + 1) 64)))

sorted_append : (t : Shape) (d : ℕ) (xs ys : List ℕ) → All (λ n. depth t n ≤ d) xs → All (λ n. depth t n ≡ d + 1) ys →
    ((i j : ℕ) → i ≤ j → j < length xs → depth t (slice_index xs i) ≤ depth t (slice_index xs j)) →
    (i j : ℕ) → i ≤ j → j < length (xs ++ ys) → depth t (slice_index (xs ++ ys) i) ≤ depth t (slice_index (xs ++ ys) j)
sorted_append t d xs ys low exact sorted i j before within =
    let sizes : length (xs ++ ys) ≡ length xs + length ys = length-append xs ys in
    elim (cases_lt j (length xs)) [
      | inl l ↦ rw (get_or_append_left xs ys 0 i (omega arith), get_or_append_left xs ys 0 j l) (sorted i j before l)
      | inr g ↦
          let there : depth t (slice_index ys (j - length xs)) ≡ d + 1 = exact (j - length xs) 0 (omega arith) in
          rw (get_or-append_right xs ys (length xs) j 0 refl g) (
          elim (cases_lt i (length xs)) [
            | inl l ↦ let here = low i 0 l in rw (get_or_append_left xs ys 0 i l) (omega (arith, here, there))
            | inr h ↦
                let here : depth t (slice_index ys (i - length xs)) ≡ d + 1 = exact (i - length xs) 0 (omega arith) in
                rw (get_or-append_right xs ys (length xs) i 0 refl h) (omega (arith, here, there))
          ])
    ]

levels_sorted : (t : Shape) (d i j : ℕ) → i ≤ j → j < length (levels t d) → depth t (slice_index (levels t d) i) ≤ depth t (slice_index (levels t d) j)
levels_sorted t zero i j before within = absurd (none (rw (levels_none t) at within))
  where
    none : j < 0 → ⊥
    none h = omega arith
levels_sorted t (suc d) i j before within =
    let e : levels t (suc d) ≡ levels t d ++ level t (d + 1) 64 = rw (← add-one d) (levels_more t d) in
    rw e (
    sorted_append t d (levels t d) (level t (d + 1) 64) (levels-depth t d) (level-depth t (d + 1) 64)
    (λ a b h l. levels_sorted t d a b h l) i j before (rw e at within))

-- an extender isn't deeper than those behind it
pub by_depth-sorted : (t : Shape) (i j : ℕ) → i ≤ j → j < length (by_depth t) → depth t (slice_index (by_depth t) i) ≤ depth t (slice_index (by_depth t) j)
by_depth-sorted t i j before within = rw (by_depth_is t) (levels_sorted t 64 i j before (rw (by_depth_is t) at within))

-- ---- each one is there
level-there : (t : Shape) (d k : ℕ) → All (λ n. 0 < slice_index t.ports n) (level t d k)
level-there t d zero = rw (level_none t d) (All-nil (λ n. 0 < slice_index t.ports n))
level-there t d (suc k) =
    rw (← add-one k) (
    elim (cases_Bool (hangs_at_depth t (k + 1) d)) [
      | inl e ↦
          let here : 0 < slice_index t.ports (k + 1) = ltb-true 0 (slice_index t.ports (k + 1)) (and_parts _ _ e).0 in
          rw (level_in t d k e) (All-push (λ n. 0 < slice_index t.ports n) (level t d k) (k + 1) (level-there t d k) here)
      | inr e ↦ rw (level_out t d k e) (level-there t d k)
    ])

levels-there : (t : Shape) (d : ℕ) → All (λ n. 0 < slice_index t.ports n) (levels t d)
levels-there t zero = rw (levels_none t) (All-nil (λ n. 0 < slice_index t.ports n))
levels-there t (suc d) =
    rw (← add-one d, levels_more t d) (
    All-append (λ n. 0 < slice_index t.ports n) (levels t d) (level t (d + 1) 64) (levels-there t d) (level-there t (d + 1) 64))

pub by_depth-hangs : (t : Shape) (i : ℕ) → i < length (by_depth t) → HangsOn t (slice_index (by_depth t) i) (on t (slice_index (by_depth t) i))
by_depth-hangs t i within =
    let some : All (λ n. 0 < slice_index t.ports n) (by_depth t) = rw (by_depth_is t) (levels-there t 64) in
    record { extender = (by_depth-range t i 0 within).0; there = some i 0 within; at = refl }

-- ---- places in the order
pub place_of : (n : ℕ) (xs : List ℕ) → list_any (λ x. x == n) xs ≡ true → (j : ℕ) × (j < length xs) × (slice_index xs j ≡ n)
place_of n [] h = absurd (false≢true h)
place_of n (x ∷ xs) h =
    elim (or_cases (x == n) (listed n xs) h) [
      | inl e ↦ (0, omega arith, eqb-true x n e)
      | inr e ↦ let rest = place_of n xs e in (suc rest.0, omega (arith, rest.1), rest.2)
    ]

-- an extender on which another hangs is less deep
pub less_deep : (s : Shape) → IsTree s → (n p : ℕ) → HangsOn s n p → 64 ≤ p → depth s (device p) < depth s n
less_deep s valid n p h deep =
    let low : top s.on 63 (on s n) < 64 = valid.rooted n h.extender h.there in
    let lower : top s.on 63 p < 64 = subst (λ (x : ℕ). top s.on 63 x < 64) h.at low in
    let next = on s (device p) in
    let low_next : top s.on 62 next < 64 = rw (top_high s 62 p deep) at lower in
    let here : depth s n ≡ suc (length (up s.on 62 next)) = rw (h.at, path_is s p, settled s 63 p lower, up_high s 62 p deep) refl in
    let there : depth s (device p) ≡ length (up s.on 62 next) = rw (path_is s next, settled s 63 next (more low_next), settled s 62 next low_next) refl in
    omega arith
  where
    more : top s.on 62 (on s (device p)) < 64 → top s.on 63 (on s (device p)) < 64
    more l = top_more s 62 (on s (device p)) l
