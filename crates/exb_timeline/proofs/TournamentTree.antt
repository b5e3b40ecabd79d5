-- The tree by which the first turn is found.
use Rattle.std.proofs.Common.{◌≡◌, ℕ, zero, suc, ◌+◌, ◌*◌, ◌<◌, ◌≤◌, Bool, true, false, List, [], ◌∷◌, ◌++◌, length, get_or, set, refl, sym, ap, subst, ◌∙◌, arith, inl, inr, length-append, length-set}
use Rattle.std.specs.Prelude.{◌≢◌, ◌⊎◌, ◌/◌, nat_lt, if◌then◌else◌}
use Rattle.std.proofs.lemmas.List.{get_or-set_same, get_or-set_other, get_or_default}
use Rattle.std.proofs.lemmas.Bool.Decides.{eqb_tells, leb_tells, nat_tests}
use Rattle.exb_timeline.specs.Tournaments.{HasLeaves, HasPending, IsTree, IsWon, above, at, sooner, turn}

-- ---- of two turns one is first
sooner_is : (ms : List ℕ) (one other : ℕ) (P : ℕ → Type 0) → P one → P other → P (sooner ms one other)
sooner_is ms one other P first second = by_test (nat_lt (turn ms other) (turn ms one))
  where
    by_test : (b : Bool) → P (if b then other else one)
    by_test true = second
    by_test false = first

least : (f : ℕ → ℕ) (one other : ℕ) → (f (if nat_lt (f other) (f one) then other else one) ≤ f one) × (f (if nat_lt (f other) (f one) then other else one) ≤ f other)
least f one other = by_test (nat_lt (f other) (f one)) refl
  where
    by_test : (b : Bool) → nat_lt (f other) (f one) ≡ b → (f (if b then other else one) ≤ f one) × (f (if b then other else one) ≤ f other)
    by_test true e = let low : f other < f one = grind (arith, nat_tests) in (omega (arith, low), omega arith)
    by_test false e = let low : f one ≤ f other = grind (arith, nat_tests) in (omega arith, omega (arith, low))

pub sooner_same : (ms now : List ℕ) (one other : ℕ) → at now one ≡ at ms one → at now other ≡ at ms other → sooner ms one other ≡ sooner now one other
sooner_same ms now one other first second =
    ap (λ x. if nat_lt (at ms other * 18446744073709551616 + other) (x * 18446744073709551616 + one) then other else one) (sym first)
    ∙ ap (λ y. if nat_lt (y * 18446744073709551616 + other) (at now one * 18446744073709551616 + one) then other else one) (sym second)

-- ---- nodes above others
above_more : (k n : ℕ) → above (suc k) n ≡ above k n / 2
above_more zero n = refl
above_more (suc k) n = above_more k (n / 2)

above_root : (k : ℕ) → above k 0 ≡ 0
above_root zero = refl
above_root (suc k) = above_root k

half : (n : ℕ) → 2 * n / 2 ≡ n
half n = omega arith

half_more : (n : ℕ) → (2 * n + 1) / 2 ≡ n
half_more n = omega arith

between_less : (n m : ℕ) → n ≢ m → n < suc m → n < m
between_less n m other low =
    elim (leb_tells m n) [
      | inl here ↦ absurd (let same : n ≡ m = omega (arith, here.1, low) in other same)
      | inr less ↦ less.1
    ]

less_of : (m n : ℕ) → n ≢ m → m ≤ n → m < n
less_of m n other low =
    elim (leb_tells n m) [
      | inl here ↦ absurd (let same : n ≡ m = omega (arith, here.1, low) in other same)
      | inr less ↦ less.1
    ]

between : (n m : ℕ) → n ≢ m → m ≤ n → n < suc (suc m) → n ≡ m + 1
between n m other low high = let more : m < n = less_of m n other low in omega (arith, more, high)

beyond : (xs : List ℕ) (k : ℕ) → length xs ≤ k → at xs k ≡ 0
beyond [] k long = refl
beyond (x ∷ xs) zero long = absurd (omega (arith, long))
beyond (x ∷ xs) (suc k) long = beyond xs k (omega (arith, long))

front : (xs ys : List ℕ) (k : ℕ) → k < length xs → at (xs ++ ys) k ≡ at xs k
front [] ys k low = absurd (omega (arith, low))
front (x ∷ xs) ys zero low = refl
front (x ∷ xs) ys (suc k) low = front xs ys k (omega (arith, low))

parity : (n : ℕ) → (n ≡ 2 * (n / 2)) ⊎ (n ≡ 2 * (n / 2) + 1)
parity zero = inl refl
parity (suc zero) = inr refl
parity (suc (suc n)) =
    elim (parity n) [
      | inl e ↦ inl (omega (arith, e))
      | inr e ↦ inr (omega (arith, e))
    ]

pass : (a b c d e : ℕ) → a ≤ b → b ≡ c → c ≤ d → e ≡ d → a ≤ e
pass a b c d e up is low same = omega (arith, up, is, low, same)

module _ (ms leaves firsts : List ℕ) (t : IsTree ms leaves firsts) where
  -- none is before the root's
  root_first : (fuel n : ℕ) → n ≤ fuel → 1 ≤ n → n < length firsts → turn ms (at firsts 1) ≤ turn ms (at firsts n)
  root_first fuel zero low some high = absurd (omega (arith, some))
  root_first fuel (suc zero) low some high = omega arith
  root_first zero (suc (suc k)) low some high = absurd (omega (arith, low))
  root_first (suc fuel) (suc (suc k)) low some high =
      let j = suc (suc k) / 2 in
      let up = root_first fuel j (omega (arith, low)) (omega arith) (omega (arith, high)) in
      let won = ap (turn ms) (t.won j (omega arith) (omega (arith, high, t.nodes))) in
      let both = least (turn ms) (at firsts (2 * j)) (at firsts (2 * j + 1)) in
      elim (parity (suc (suc k))) [
        | inl e ↦ pass _ _ _ _ _ up won both.0 (ap (λ i. turn ms (at firsts i)) e)
        | inr e ↦ pass _ _ _ _ _ up won both.1 (ap (λ i. turn ms (at firsts i)) e)
      ]

  pub root_least : (q : ℕ) → q < length ms → turn ms (at firsts 1) ≤ turn ms q
  root_least q there =
      let some : 1 ≤ at leaves q = omega (arith, t.low q there, there) in
      subst (λ p. turn ms (at firsts 1) ≤ turn ms p) (t.of_place q there) (root_first (at leaves q) (at leaves q) (omega arith) some (t.high q there))

  -- a place is first only at its leaf and above it
  elsewhere : (p : ℕ) → p < length ms → (fuel n : ℕ) → length firsts ≤ n + fuel → 1 ≤ n → n < length firsts → ((k : ℕ) → above k (at leaves p) ≢ n) → at firsts n ≢ p
  elsewhere p there zero n low some high never is = absurd (omega (arith, low, high))
  elsewhere p there (suc fuel) n low some high never is =
      elim (leb_tells (length ms) n) [
        | inl leaf ↦ never 0 (sym (ap (at leaves) is) ∙ t.of_leaf n some leaf.1 high)
        | inr inner ↦
            sooner_is ms (at firsts (2 * n)) (at firsts (2 * n + 1)) (λ q. q ≢ p)
            (elsewhere p there fuel (2 * n) (omega (arith, low, some)) (omega (arith, some)) (omega (arith, inner.1, t.nodes)) (λ k e. never (suc k) (above_more k (at leaves p) ∙ ap (λ i. i / 2) e ∙ half n)))
            (elsewhere p there fuel (2 * n + 1) (omega (arith, low, some)) (omega (arith, some)) (omega (arith, inner.1, t.nodes))
            (λ k e. never (suc k) (above_more k (at leaves p) ∙ ap (λ i. i / 2) e ∙ half_more n)))
            (sym (t.won n some inner.1) ∙ is)
      ]

  -- another moment at a place
  module _ (p v : ℕ) (there : p < length ms) where
    same_count : length (set ms p v) ≡ length ms
    same_count = length-set ms p v

    child_same : (n c : ℕ) → 1 ≤ c → c < length firsts → ((k : ℕ) → above k (at leaves p / 2) ≢ n) → c / 2 ≡ n → at (set ms p v) (at firsts c) ≡ at ms (at firsts c)
    child_same n c some high never is = get_or-set_other ms p (at firsts c) v 0 (elsewhere p there (length firsts) c (omega arith) some high off)
      where
        off : (k : ℕ) → above k (at leaves p) ≢ c
        off zero e = never 0 (ap (λ i. i / 2) e ∙ is)
        off (suc k) e = never (suc k) (above_more k (at leaves p / 2) ∙ ap (λ i. i / 2) e ∙ is)

    pub pending_put : HasPending (set ms p v) firsts (at leaves p / 2)
    pending_put = record {
      nodes = omega (arith, t.nodes, same_count);
      low = omega (arith, t.nodes, same_count, t.high p there);
      places = λ n some high. let low = t.places n some high in omega (arith, low, same_count);
      won = λ n some high never.
          t.won n some (omega (arith, high, same_count))
          ∙ sooner_same ms (set ms p v) (at firsts (2 * n)) (at firsts (2 * n + 1)) (child_same n (2 * n) (omega (arith, some)) (omega (arith, high, same_count, t.nodes)) never (half n))
          (child_same n (2 * n + 1) (omega arith) (omega (arith, high, same_count, t.nodes)) never (half_more n));
    }

    pub tree_put : (now : List ℕ) → HasPending (set ms p v) now 0 → HasLeaves (length (set ms p v)) firsts now → IsTree (set ms p v) leaves now
    tree_put now done same = record {
      count = omega (arith, t.count, same_count);
      low = λ q low. let leaf = t.low q (omega (arith, low, same_count)) in omega (arith, leaf, same_count);
      high = λ q low. let leaf = t.high q (omega (arith, low, same_count)) in omega (arith, leaf, same.count);
      of_place = λ q low. let leaf = t.low q (omega (arith, low, same_count)) in same.same (at leaves q) (omega (arith, leaf, same_count)) ∙ t.of_place q (omega (arith, low, same_count));
      of_leaf = λ n some leaf high. ap (at leaves) (same.same n leaf) ∙ t.of_leaf n some (omega (arith, leaf, same_count)) (omega (arith, high, same.count));
      nodes = done.nodes;
      places = done.places;
      won = λ n some high. done.won n some high (λ k e. let no : 0 ≡ n = sym (above_root k) ∙ e in absurd (omega (arith, no, some)));
    }

-- ---- a node is settled
module _ (ms firsts : List ℕ) (node : ℕ) (h : HasPending ms firsts node) (some : 0 < node) where
  abbrev winner : ℕ
  winner = sooner ms (at firsts (2 * node)) (at firsts (2 * node + 1))

  other_node : (n : ℕ) → n ≢ node → at (set firsts node winner) n ≡ at firsts n
  other_node n other = get_or-set_other firsts node n winner 0 other

  own_node : at (set firsts node winner) node ≡ winner
  own_node = get_or-set_same firsts node winner 0 (let low = h.low in omega (arith, low, h.nodes))

  placed : winner < length ms
  placed =
      sooner_is ms (at firsts (2 * node)) (at firsts (2 * node + 1)) (λ q. q < length ms) (h.places (2 * node) (omega (arith, some)) (omega (arith, h.low, h.nodes)))
      (h.places (2 * node + 1) (omega arith) (omega (arith, h.low, h.nodes)))

  -- where none of the two below it is the node that is settled
  won_by : (n : ℕ) → 2 * n ≢ node → 2 * n + 1 ≢ node → at (set firsts node winner) n ≡ sooner ms (at firsts (2 * n)) (at firsts (2 * n + 1)) → IsWon ms (set firsts node winner) n
  won_by n left right is =
      is ∙ ap (λ q. sooner ms q (at firsts (2 * n + 1))) (sym (other_node (2 * n) left))
      ∙ ap (λ q. sooner ms (at (set firsts node winner) (2 * n)) q) (sym (other_node (2 * n + 1) right))

  place_of : (n : ℕ) → 1 ≤ n → n < length firsts → at (set firsts node winner) n < length ms
  place_of n low high =
      elim (eqb_tells n node) [
        | inl here ↦ subst (λ q. q < length ms) (sym (ap (at (set firsts node winner)) here.1 ∙ own_node)) placed
        | inr there ↦ subst (λ q. q < length ms) (sym (other_node n there.1)) (h.places n low high)
      ]

  winner_of : (n : ℕ) → 1 ≤ n → n < length ms → ((k : ℕ) → above k (node / 2) ≢ n) → IsWon ms (set firsts node winner) n
  winner_of n low high never =
      elim (eqb_tells n node) [
        | inl here ↦
            won_by n (λ e. no_child (2 * n) (omega (arith, low)) (e ∙ sym here.1)) (λ e. no_child (2 * n + 1) (omega (arith, low)) (e ∙ sym here.1))
            (ap (at (set firsts node winner)) here.1 ∙ own_node ∙ ap (λ i. sooner ms (at firsts (2 * i)) (at firsts (2 * i + 1))) (sym here.1))
        | inr there ↦
            won_by n (λ e. never 0 (ap (λ i. i / 2) (sym e) ∙ half n)) (λ e. never 0 (ap (λ i. i / 2) (sym e) ∙ half_more n))
            (other_node n there.1 ∙ h.won n low high (off there.1))
      ]
    where
      no_child : (c : ℕ) → n < c → c ≡ n → ⊥
      no_child c more e = absurd (omega (arith, more, e))

      off : n ≢ node → (k : ℕ) → above k node ≢ n
      off other zero e = other (sym e)
      off other (suc k) e = never k e

  pub pending_less : HasPending ms (set firsts node winner) (node / 2)
  pending_less = record {
    nodes = length-set firsts node winner ∙ h.nodes;
    low = omega (arith, h.low);
    places = λ n low high. place_of n low (omega (arith, high, length-set firsts node winner));
    won = winner_of;
  }

  pub leaves_less : (first : List ℕ) → HasLeaves (length ms) first firsts → HasLeaves (length ms) first (set firsts node winner)
  leaves_less first same = record {
    count = length-set firsts node winner ∙ same.count;
    same = λ n leaf. other_node n (λ e. absurd (omega (arith, leaf, e, h.low))) ∙ same.same n leaf;
  }

-- ---- one place more
module _ (ms leaves firsts now_ms now_leaves now_firsts : List ℕ) (v beside : ℕ) (t : IsTree ms leaves firsts) (more : now_ms ≡ ms ++ v ∷ []) (nodes : length now_firsts ≡ suc (suc (length firsts)))
    (old : (n : ℕ) → n < length firsts → at now_firsts n ≡ at firsts n) (left : at now_firsts (2 * length ms) ≡ beside) (right : at now_firsts (2 * length ms + 1) ≡ length ms)
    (shared : beside ≡ at firsts (length ms)) (count : length now_leaves ≡ suc (length leaves)) (own : at now_leaves (length ms) ≡ 2 * length ms + 1)
    (stay : (q : ℕ) → q < length ms → q ≢ beside → at now_leaves q ≡ at leaves q) (moved : beside < length ms → at now_leaves beside ≡ 2 * length ms) where
  one_more : length now_ms ≡ suc (length ms)
  one_more = let long = ap length more in omega (arith, long, length-append ms (v ∷ []))

  beside_low : 0 < length ms → beside < length ms
  beside_low some = subst (λ q. q < length ms) (sym shared) (t.places (length ms) (omega (arith, some)) (omega (arith, some, t.nodes)))

  beside_within : beside < suc (length ms)
  beside_within =
      elim (leb_tells 1 (length ms)) [
        | inl some ↦ let low = beside_low (omega (arith, some.1)) in omega (arith, low)
        | inr none ↦
            let end : at firsts (length ms) ≡ 0 = beyond firsts (length ms) (omega (arith, none.1, t.nodes)) in
            omega (arith, end, shared)
      ]

  same_moment : (q : ℕ) → q < length ms → at now_ms q ≡ at ms q
  same_moment q low = ap (λ xs. at xs q) more ∙ front ms (v ∷ []) q low

  place_now : (n : ℕ) → 1 ≤ n → n < length now_firsts → at now_firsts n < length now_ms
  place_now n low high =
      elim (leb_tells (length firsts) n) [
        | inr before ↦ let k = t.places n low before.1 in let e = old n before.1 in omega (arith, k, e, one_more)
        | inl behind ↦
            elim (eqb_tells n (2 * length ms)) [
              | inl first ↦ let e = ap (at now_firsts) first.1 ∙ left in omega (arith, e, beside_within, one_more)
              | inr second ↦
                  let last : n ≡ 2 * length ms + 1 = (let no = second.1 in between n (2 * length ms) no (omega (arith, behind.1, t.nodes)) (omega (arith, high, nodes, t.nodes))) in
                  let e = ap (at now_firsts) last ∙ right in omega (arith, e, one_more)
            ]
      ]

  pub pending_add : HasPending now_ms now_firsts (length ms)
  pending_add = record {
    nodes = omega (arith, nodes, t.nodes, one_more);
    low = omega (arith, one_more);
    places = place_now;
    won = λ n low high never.
        let inner : n < length ms = between_less n (length ms) (λ e. never 0 (sym e)) (omega (arith, high, one_more)) in
        old n (omega (arith, inner, t.nodes)) ∙ t.won n low inner
        ∙ sooner_same ms now_ms (at firsts (2 * n)) (at firsts (2 * n + 1)) (same_moment (at firsts (2 * n)) (t.places (2 * n) (omega (arith, low)) (omega (arith, inner, t.nodes))))
        (same_moment (at firsts (2 * n + 1)) (t.places (2 * n + 1) (omega arith) (omega (arith, inner, t.nodes))))
        ∙ ap (λ q. sooner now_ms q (at firsts (2 * n + 1))) (sym (old (2 * n) (omega (arith, inner, t.nodes))))
        ∙ ap (λ q. sooner now_ms (at now_firsts (2 * n)) q) (sym (old (2 * n + 1) (omega (arith, inner, t.nodes))));
  }

  -- where each place has its leaf
  record HasLeaf (q : ℕ) : Type 0 where
    low : suc (length ms) ≤ at now_leaves q
    high : at now_leaves q < suc (suc (length firsts))
    place : at now_firsts (at now_leaves q) ≡ q

  leaf_of : (q : ℕ) → q < suc (length ms) → HasLeaf q
  leaf_of q high =
      elim (eqb_tells q (length ms)) [
        | inl last ↦
            let is = ap (at now_leaves) last.1 ∙ own in
            record { low = omega (arith, is); high = omega (arith, is, t.nodes); place = ap (at now_firsts) is ∙ right ∙ sym last.1 }
        | inr before ↦ older q (between_less q (length ms) before.1 (omega (arith, high)))
      ]
    where
      older : (p : ℕ) → p < length ms → HasLeaf p
      older p low =
          elim (eqb_tells p beside) [
            | inl one ↦
                let is = ap (at now_leaves) one.1 ∙ moved (beside_low (omega (arith, low))) in
                record { low = omega (arith, is, low); high = omega (arith, is, t.nodes); place = ap (at now_firsts) is ∙ left ∙ sym one.1 }
            | inr other ↦
                let is = stay p low other.1 in
                let leaf = t.low p low in
                let within = t.high p low in
                let place = t.of_place p low in
                let apart : at leaves p ≢ length ms = (λ e. other.1 (sym place ∙ ap (at firsts) e ∙ sym shared)) in
                record {
                  low = (let more_than : length ms < at leaves p = less_of (length ms) (at leaves p) apart leaf in omega (arith, is, more_than));
                  high = omega (arith, is, within);
                  place = ap (at now_firsts) is ∙ old (at leaves p) within ∙ place;
                }
          ]

  place_of_leaf : (n : ℕ) → suc (length ms) ≤ n → n < suc (suc (length firsts)) → at now_leaves (at now_firsts n) ≡ n
  place_of_leaf n low high =
      elim (leb_tells (length firsts) n) [
        | inr before ↦
            let was = t.of_leaf n (omega (arith, low)) (omega (arith, low)) before.1 in
            let place = t.places n (omega (arith, low)) before.1 in
            let other : at firsts n ≢ beside = (λ e. let same : n ≡ at leaves (at firsts (length ms)) = sym was ∙ ap (at leaves) (e ∙ shared) in
            let node : at leaves (at firsts (length ms)) ≡ length ms = t.of_leaf (length ms) (omega (arith, place)) (omega arith) (omega (arith, place, t.nodes)) in
            absurd (omega (arith, same, node, low))) in
            ap (at now_leaves) (old n before.1) ∙ stay (at firsts n) place other ∙ was
        | inl behind ↦
            elim (eqb_tells n (2 * length ms)) [
              | inl first ↦ ap (at now_leaves) (ap (at now_firsts) first.1 ∙ left) ∙ moved (beside_low (omega (arith, low, first.1))) ∙ sym first.1
              | inr second ↦
                  let last : n ≡ 2 * length ms + 1 = between n (2 * length ms) second.1 (omega (arith, behind.1, t.nodes)) (omega (arith, high, t.nodes)) in
                  ap (at now_leaves) (ap (at now_firsts) last ∙ right) ∙ own ∙ sym last
            ]
      ]

  pub tree_add : (done : List ℕ) → HasPending now_ms done 0 → HasLeaves (length now_ms) now_firsts done → IsTree now_ms now_leaves done
  tree_add done settled same = record {
    count = omega (arith, count, t.count, one_more);
    low = λ q there. let leaf = (leaf_of q (omega (arith, there, one_more))).low in omega (arith, leaf, one_more);
    high = λ q there. let leaf = (leaf_of q (omega (arith, there, one_more))).high in omega (arith, leaf, same.count, nodes);
    of_place = λ q there. let leaf = leaf_of q (omega (arith, there, one_more)) in let low = leaf.low in same.same (at now_leaves q) (omega (arith, low, one_more)) ∙ leaf.place;
    of_leaf = λ n some leaf high. ap (at now_leaves) (same.same n leaf) ∙ place_of_leaf n (omega (arith, leaf, one_more)) (omega (arith, high, same.count, nodes));
    nodes = settled.nodes;
    places = settled.places;
    won = λ n some high. settled.won n some high (λ k e. let no : 0 ≡ n = sym (above_root k) ∙ e in absurd (omega (arith, no, some)));
  }

-- ---- as lists
pub at_is : (xs : List ℕ) (k x : ℕ) → k < length xs → x ≡ get_or xs k x → at xs k ≡ x
at_is xs k x low is = get_or_default xs k 0 x low ∙ sym is

last_at : (xs : List ℕ) (x : ℕ) → at (xs ++ x ∷ []) (length xs) ≡ x
last_at [] x = refl
last_at (y ∷ xs) x = last_at xs x

long_more : (xs : List ℕ) (x : ℕ) → length (xs ++ x ∷ []) ≡ suc (length xs)
long_more xs x = omega (arith, length-append xs (x ∷ []))

-- a place was put behind all, and the leaf that is shared with it
module _ (ms leaves firsts : List ℕ) (t : IsTree ms leaves firsts) (v place beside : ℕ) (here : place ≡ length ms) (now_ms grown_leaves grown_firsts : List ℕ) (ms_is : now_ms ≡ ms ++ v ∷ [])
    (leaves_is : grown_leaves ≡ leaves ++ place ∷ []) (firsts_is : grown_firsts ≡ (firsts ++ place ∷ []) ++ place ∷ []) (is : beside ≡ get_or grown_firsts place beside) where
  abbrev now_leaves : List ℕ
  now_leaves = set (set grown_leaves beside (2 * place)) place (2 * place + 1)

  abbrev now_firsts : List ℕ
  now_firsts = set grown_firsts (2 * place) beside

  long_firsts : length grown_firsts ≡ suc (suc (length firsts))
  long_firsts = ap length firsts_is ∙ long_more (firsts ++ place ∷ []) place ∙ ap suc (long_more firsts place)

  long_leaves : length grown_leaves ≡ suc (length leaves)
  long_leaves = ap length leaves_is ∙ long_more leaves place

  front_firsts : (n : ℕ) → n < length firsts → at grown_firsts n ≡ at firsts n
  front_firsts n low =
      ap (λ xs. at xs n) firsts_is ∙ front (firsts ++ place ∷ []) (place ∷ []) n (omega (arith, low, long_more firsts place)) ∙ front firsts (place ∷ []) n low

  first_new : at grown_firsts (length firsts) ≡ place
  first_new = ap (λ xs. at xs (length firsts)) firsts_is ∙ front (firsts ++ place ∷ []) (place ∷ []) (length firsts) (omega (arith, long_more firsts place)) ∙ last_at firsts place

  second_new : at grown_firsts (2 * place + 1) ≡ place
  second_new =
      let end : 2 * place + 1 ≡ length (firsts ++ place ∷ []) = omega (arith, here, t.nodes, long_more firsts place) in
      ap (at grown_firsts) end ∙ ap (λ xs. at xs (length (firsts ++ place ∷ []))) firsts_is ∙ last_at (firsts ++ place ∷ []) place

  beside_is : at grown_firsts place ≡ beside
  beside_is = at_is grown_firsts place beside (omega (arith, here, t.nodes, long_firsts)) is

  is_shared : beside ≡ at firsts place
  is_shared =
      elim (leb_tells (length firsts) place) [
        | inr inner ↦ sym beside_is ∙ front_firsts place inner.1
        | inl none ↦
            let start : place ≡ length firsts = omega (arith, none.1, here, t.nodes) in
            let zero_is : place ≡ 0 = omega (arith, none.1, here, t.nodes) in
            sym beside_is ∙ ap (at grown_firsts) start ∙ first_new ∙ zero_is ∙ sym (beyond firsts place none.1)
      ]

  other_first : (n : ℕ) → n ≢ 2 * place → at now_firsts n ≡ at grown_firsts n
  other_first n other = get_or-set_other grown_firsts (2 * place) n beside 0 other

  stay_leaf : (q : ℕ) → q < length ms → q ≢ beside → at now_leaves q ≡ at leaves q
  stay_leaf q low other =
      get_or-set_other (set grown_leaves beside (2 * place)) place q (2 * place + 1) 0 (λ e. absurd (omega (arith, low, e, here)))
      ∙ get_or-set_other grown_leaves beside q (2 * place) 0 other ∙ ap (λ xs. at xs q) leaves_is ∙ front leaves (place ∷ []) q (omega (arith, low, t.count))

  moved_leaf : beside < length ms → at now_leaves beside ≡ 2 * place
  moved_leaf low =
      get_or-set_other (set grown_leaves beside (2 * place)) place beside (2 * place + 1) 0 (λ e. absurd (omega (arith, low, e, here)))
      ∙ get_or-set_same grown_leaves beside (2 * place) 0 (omega (arith, low, t.count, long_leaves))

  own_leaf : at now_leaves place ≡ 2 * place + 1
  own_leaf =
      get_or-set_same (set grown_leaves beside (2 * place)) place (2 * place + 1) 0 (omega (arith, here, t.count, long_leaves, length-set grown_leaves beside (2 * place)))

  left_first : at now_firsts (2 * place) ≡ beside
  left_first = get_or-set_same grown_firsts (2 * place) beside 0 (omega (arith, here, t.nodes, long_firsts))

  right_first : at now_firsts (2 * place + 1) ≡ place
  right_first = other_first (2 * place + 1) (λ e. absurd (omega (arith, e))) ∙ second_new

  count_leaves : length now_leaves ≡ suc (length leaves)
  count_leaves = length-set (set grown_leaves beside (2 * place)) place (2 * place + 1) ∙ length-set grown_leaves beside (2 * place) ∙ long_leaves

  old_firsts : (n : ℕ) → n < length firsts → at now_firsts n ≡ at firsts n
  old_firsts n low = other_first n (λ e. absurd (omega (arith, low, e, here, t.nodes))) ∙ front_firsts n low

  count_firsts : length now_firsts ≡ suc (suc (length firsts))
  count_firsts = length-set grown_firsts (2 * place) beside ∙ long_firsts

  pub pending_grown : HasPending now_ms now_firsts place
  pending_grown =
      subst (λ n. HasPending now_ms now_firsts n) (sym here)
      (pending_add ms leaves firsts now_ms now_leaves now_firsts v beside t ms_is count_firsts old_firsts (ap (λ n. at now_firsts (2 * n)) (sym here) ∙ left_first)
      (ap (λ n. at now_firsts (2 * n + 1)) (sym here) ∙ right_first ∙ here) (is_shared ∙ ap (at firsts) here) count_leaves
      (ap (at now_leaves) (sym here) ∙ own_leaf ∙ ap (λ n. 2 * n + 1) here) stay_leaf (λ low. moved_leaf low ∙ ap (λ n. 2 * n) here))

  pub tree_grown : (was done : List ℕ) → was ≡ now_firsts → HasPending now_ms done 0 → HasLeaves (length now_ms) was done → IsTree now_ms now_leaves done
  tree_grown was done same settled stays =
      tree_add ms leaves firsts now_ms now_leaves now_firsts v beside t ms_is count_firsts old_firsts (ap (λ n. at now_firsts (2 * n)) (sym here) ∙ left_first)
      (ap (λ n. at now_firsts (2 * n + 1)) (sym here) ∙ right_first ∙ here) (is_shared ∙ ap (at firsts) here) count_leaves
      (ap (at now_leaves) (sym here) ∙ own_leaf ∙ ap (λ n. 2 * n + 1) here) stay_leaf (λ low. moved_leaf low ∙ ap (λ n. 2 * n) here) done settled
      (subst (λ xs. HasLeaves (length now_ms) xs done) same stays)
