-- When a setup's tables are a tree, and its start speaks of external ports.
use Rattle.std.proofs.Common.{◌≡◌, ◌≢◌, ℕ, zero, suc, ◌+◌, ◌-◌, ◌*◌, ◌/◌, ◌%◌, ◌^◌, min, bit_and, ◌<◌, ◌≤◌, Bool, true, false, ◌&&◌, ◌||◌, ◌==◌, cond, IsTrue, List, [], ◌∷◌, length, slice_index, get_or, take, replicate, set, count_by, AllPairs, refl, sym, ap, ◌∙◌, add-one, add-zero, arith, inl, inr, nat_lt}
use Rattle.std.proofs.lemmas.Bool.{cases_eq, cases_lt, eq-eqb, eqb-true, lt-ltb, le-ltb, ltb-true, and_parts, and_from, false≢true}
use Rattle.std.proofs.lemmas.Bool.Decides.{nat_tests}
use Rattle.std.proofs.lemmas.List.{get_or_past}
use Rattle.exb_model.proofs.PortBits.{get_or-same}
use Rattle.std.proofs.lemmas.Nat.Bits.{bit_at_and, bit_at-lt, bit_at_above, bit_at-zero, same_from_bits}
use Rattle.std.specs.Int.{bit_at}
use Rattle.exb_model.specs.PortBits.{has_port}
use Rattle.exb_model.specs.Ports.{below}
use Rattle.std.specs.List.{list_any}
use Rattle.std.proofs.lemmas.List.{length-take, get_or-take, get_or_read}
use Rattle.std.proofs.lemmas.List.Folds.{Any-from_list_any, list_any_at}
use Rattle.exb_model.specs.declared.setup.ExtenderSetup.{ExtenderSetup}
use Rattle.std.proofs.lemmas.List.Sums.{fold-append}
use Rattle.exb_model.proofs.PortLemmas.{below-more}
use Rattle.exb_model.specs.Tree.{Shape, IsTree, is_port, is_extender, is_cascade, is_external, any_below, top, on}

-- there is an extender n
pub extender_from : (t : Shape) (n : ℕ) → 0 < n → 0 < slice_index t.ports n → IsTrue (is_extender t n)
extender_from t n some there = and_from (nat_lt 0 n) (nat_lt 0 (slice_index t.ports n)) (lt-ltb 0 n some) (lt-ltb 0 (slice_index t.ports n) there)

pub some_extender : (t : Shape) (n : ℕ) → IsTrue (is_extender t n) → 0 < n
some_extender t n is = ltb-true 0 n (and_parts (nat_lt 0 n) (nat_lt 0 (slice_index t.ports n)) is).0

pub there_extender : (t : Shape) (n : ℕ) → IsTrue (is_extender t n) → 0 < slice_index t.ports n
there_extender t n is = ltb-true 0 (slice_index t.ports n) (and_parts (nat_lt 0 n) (nat_lt 0 (slice_index t.ports n)) is).1

-- no extender has a higher number than there are places in the table
pub below_devices : (t : Shape) (n : ℕ) → length t.ports ≡ 65 → IsTrue (is_extender t n) → n < 65
below_devices t n sized is =
    elim (cases_lt n 65) [
      | inl l ↦ l
      | inr g ↦ let none = get_or_past t.ports n 0 (omega (arith, sized)) in absurd (omega (arith, none, there_extender t n is))
    ]

-- what makes the tables a tree
pub tree_from : (t : Shape) → length t.ports ≡ 65
    → ((n : ℕ) → IsTrue (is_extender t n) → IsTrue (is_port t (slice_index t.on n)))
    → ((n m : ℕ) → n < m → IsTrue (is_extender t n) → IsTrue (is_extender t m) → slice_index t.on n ≢ slice_index t.on m)
    → ((n : ℕ) → IsTrue (is_extender t n) → top t.on 63 (slice_index t.on n) < 64)
    → IsTree t
tree_from t sized ports alone rooted = record {
  sized = sized;
  on_port = λ n some there. ports n (extender_from t n some there);
  alone = λ n m p a b. elim (cases_lt n m) [
    | inl l ↦ absurd (alone n m l (extender_from t n a.extender a.there) (extender_from t m b.extender b.there) (a.at ∙ sym b.at))
    | inr g ↦ elim (cases_eq n m) [
      | inl e ↦ e
      | inr other ↦ absurd (alone m n (omega arith) (extender_from t m b.extender b.there) (extender_from t n a.extender a.there) (b.at ∙ sym a.at))
    ]
  ];
  rooted = λ n some there. rooted n (extender_from t n some there);
}

pub on_ports_of : (t : Shape) → IsTree t → (n : ℕ) → IsTrue (is_extender t n) → IsTrue (is_port t (slice_index t.on n))
on_ports_of t tree n is = tree.on_port n (some_extender t n is) (there_extender t n is)

pub alone_of : (t : Shape) → IsTree t → (n m : ℕ) → n < m → IsTrue (is_extender t n) → IsTrue (is_extender t m) → slice_index t.on n ≢ slice_index t.on m
alone_of t tree n m lt a b same =
    let one : n ≡ m = tree.alone n m (slice_index t.on m) (record { extender = some_extender t n a; there = there_extender t n a; at = same }) (record { extender = some_extender t m b; there = there_extender t m b; at = refl }) in
    omega (arith, one)

pub rooted_of : (t : Shape) → IsTree t → (n : ℕ) → IsTrue (is_extender t n) → top t.on 63 (slice_index t.on n) < 64
rooted_of t tree n is = tree.rooted n (some_extender t n is) (there_extender t n is)

-- the way up, one step further
left : (k : ℕ) → k < 63 → 63 - k ≡ suc (63 - (k + 1))
left k l = omega arith

none_left : (k : ℕ) → 63 ≤ k → 63 - k ≡ 0
none_left k l = omega arith

pub top_more : (up : List ℕ) (k p total : ℕ) → k < 63 → 64 ≤ p → top up (63 - k) p ≡ total → top up (63 - (k + 1)) (slice_index up (p / 64)) ≡ total
unfolding top
top_more up k p total l h so_far =
    let one : top up (63 - k) p ≡ top up (63 - (k + 1)) (slice_index up (p / 64)) = rw (left k l, le-ltb p 64 h) refl in
    sym one ∙ so_far

pub top_here : (up : List ℕ) (k p total : ℕ) → k < 63 → p < 64 → top up (63 - k) p ≡ total → p ≡ total
unfolding top
top_here up k p total l h so_far =
    let one : top up (63 - k) p ≡ p = rw (left k l, lt-ltb p 64 h) refl in
    sym one ∙ so_far

pub top_end : (up : List ℕ) (k p total : ℕ) → 63 ≤ k → top up (63 - k) p ≡ total → p ≡ total
unfolding top
top_end up k p total l so_far =
    let one : top up (63 - k) p ≡ p = rw (none_left k l) refl in
    sym one ∙ so_far

-- an extender of a number below n hangs on port q
abbrev pub hung_below : Shape → ℕ → ℕ → Bool
hung_below t n q = any_below (λ m. is_extender t m && on t m == q) n

pub none_hung : (t : Shape) (q : ℕ) → hung_below t 0 q ≡ false
unfolding any_below
none_hung t q = refl

pub hung_more : (t : Shape) (n p q : ℕ) → is_extender t n ≡ true → p ≡ slice_index t.on n → hung_below t (n + 1) q ≡ (q == p || hung_below t n q)
unfolding any_below
hung_more t n p q is at = rw (add-one, is, at) (turned (hung_below t n q) (slice_index t.on n) q)
  where
    turned : (b : Bool) (x y : ℕ) → (b || x == y) ≡ (y == x || b)
    turned b x y = grind (arith, nat_tests)

pub hung_same : (t : Shape) (n q : ℕ) → is_extender t n ≡ false → hung_below t (n + 1) q ≡ hung_below t n q
unfolding any_below
hung_same t n q isnt = rw (add-one, isnt) (or_false (hung_below t n q))
  where
    or_false : (b : Bool) → (b || false) ≡ b
    or_false true = refl
    or_false false = refl

pub hung_all : (t : Shape) (q : ℕ) → hung_below t 65 q ≡ is_cascade t q
unfolding is_cascade
hung_all t q = refl

-- a port of no device
pub no_port_past : (t : Shape) (q : ℕ) → length t.ports ≡ 65 → 4160 ≤ q → is_external t q ≡ false
no_port_past t q sized past =
    let none = get_or_past t.ports (q / 64) 0 (omega (arith, sized)) in
    let no_port : is_port t q ≡ false = le-ltb (q % 64) (slice_index t.ports (q / 64)) (omega (arith, none)) in
    rw no_port refl

pub external_below : (t : Shape) (n q : ℕ) → length t.ports ≡ 65 → n ≡ 4160 → (nat_lt q n && is_external t q) ≡ is_external t q
external_below t n q sized all =
    elim (cases_lt q n) [
      | inl l ↦ rw (lt-ltb q n l) refl
      | inr g ↦ rw (le-ltb q n g) (sym (no_port_past t q sized (omega (arith, all))))
    ]

-- the count over one more number
pub count_more_yes : (p : ℕ → Bool) (n : ℕ) → p n ≡ true → count_by p (below (n + 1)) ≡ count_by p (below n) + 1
count_more_yes p n is = rw (below-more n, fold-append (λ (a : ℕ) (x : ℕ). a + cond (p x) 1 0) 0 (below n) (n ∷ []), is) refl

pub count_more_no : (p : ℕ → Bool) (n : ℕ) → p n ≡ false → count_by p (below (n + 1)) ≡ count_by p (below n)
count_more_no p n isnt = rw (below-more n, fold-append (λ (a : ℕ) (x : ℕ). a + cond (p x) 1 0) 0 (below n) (n ∷ []), isnt) (add-zero (count_by p (below n)))

pub count_none : (p : ℕ → Bool) → 0 ≡ count_by p (below 0)
unfolding below
count_none p = refl

-- ports of a set that are in another one, word by word
has_bit : (b : ℕ) → b ≡ 1 → (b == 1) ≡ true
has_bit b is = eq-eqb b 1 is

pub bit_within : (a b i : ℕ) → bit_and a b ≡ a → bit_at a i ≡ 1 → bit_at b i ≡ 1
bit_within a b i same is =
    let both : bit_at a i ≡ min (bit_at a i) (bit_at b i) = sym (ap (λ x. bit_at x i) same) ∙ bit_at_and a b i in
    omega (arith, both, bit_at-lt b i)

pub word_within : (a b : ℕ) → a < 2 ^ 64 → ((i : ℕ) → i < 64 → bit_at a i ≡ 1 → bit_at b i ≡ 1) → bit_and a b ≡ a
word_within a b fits all = same_from_bits (bit_and a b) a one
  where
    one : (i : ℕ) → bit_at (bit_and a b) i ≡ bit_at a i
    one i =
        elim (cases_lt i 64) [
          | inl l ↦ elim (cases_eq (bit_at a i) 1) [
            | inl is ↦ omega (arith, bit_at_and a b i, all i l is)
            | inr isnt ↦ omega (arith, bit_at_and a b i, bit_at-lt a i)
          ]
          | inr g ↦ omega (arith, bit_at_and a b i, bit_at_above a 64 i fits g)
        ]

pub set_within : (s w : List ℕ) → length s ≡ 65 → ((n : ℕ) → n < 65 → bit_and (slice_index s n) (slice_index w n) ≡ slice_index s n) → (q : ℕ) → IsTrue (has_port s q) → IsTrue (has_port w q)
unfolding has_port
set_within s w sized all q is =
    let bit : bit_at (slice_index s (q / 64)) (q % 64) ≡ 1 = eqb-true (bit_at (slice_index s (q / 64)) (q % 64)) 1 is in
    elim (cases_lt (q / 64) 65) [
      | inl l ↦ has_bit (bit_at (slice_index w (q / 64)) (q % 64)) (bit_within (slice_index s (q / 64)) (slice_index w (q / 64)) (q % 64) (all (q / 64) l) bit)
      | inr g ↦
          let none : slice_index s (q / 64) ≡ 0 = get_or_past s (q / 64) 0 (omega (arith, sized)) in
          let zero_bit : bit_at (slice_index s (q / 64)) (q % 64) ≡ 0 = ap (λ x. bit_at x (q % 64)) none ∙ bit_at-zero (q % 64) in
          absurd (omega (arith, bit, zero_bit))
    ]

pub word_of_set : (s w : List ℕ) (n : ℕ) → slice_index s n < 2 ^ 64 → ((q : ℕ) → IsTrue (has_port s q) → IsTrue (has_port w q)) → bit_and (slice_index s n) (slice_index w n) ≡ slice_index s n
unfolding has_port
word_of_set s w n fits all = word_within (slice_index s n) (slice_index w n) fits one
  where
    one : (i : ℕ) → i < 64 → bit_at (slice_index s n) i ≡ 1 → bit_at (slice_index w n) i ≡ 1
    one i lt is =
        let word : (64 * n + i) / 64 ≡ n = omega arith in
        let bit : (64 * n + i) % 64 ≡ i = omega arith in
        let there : (bit_at (slice_index w ((64 * n + i) / 64)) ((64 * n + i) % 64) == 1) ≡ true = all (64 * n + i) (rw (word, bit) (has_bit (bit_at (slice_index s n) i) is)) in
        eqb-true (bit_at (slice_index w n) i) 1 (rw (word, bit) at there)

-- an extender with the number of an earlier one
pub repeated : (es : List ExtenderSetup) (i n : ℕ) → i < length es → ((d : ExtenderSetup) → (get_or es i d).number ≡ n) → list_any (λ e. e.number == n) (take i es) ≡ true → AllPairs (λ a b. a.number ≢ b.number) es → ⊥
repeated es i n lt is found apart =
    let (k, d, below_i, same, there) = Any-from_list_any (λ e. e.number == n) (take i es) found in
    let k_lt : k < i = omega (arith, length-take i es) in
    let first : (get_or es k d).number ≡ n = eqb-true (get_or es k d).number n (ap (λ (e : ExtenderSetup). e.number == n) (sym (get_or-take i es k d k_lt) ∙ same) ∙ there) in
    apart k i d k_lt lt (first ∙ sym (is d))

pub distinct_more : (es : List ExtenderSetup) (i n : ℕ) → i < length es → ((d : ExtenderSetup) → (get_or es i d).number ≡ n) → list_any (λ e. e.number == n) (take i es) ≡ false
    → ((k j : ℕ) (d : ExtenderSetup) → k < j → j < i → (get_or es k d).number ≢ (get_or es j d).number) → (k j : ℕ) (d : ExtenderSetup) → k < j → j < i + 1 → (get_or es k d).number ≢ (get_or es j d).number
distinct_more es i n lt is none apart k j d below_j low same =
    elim (cases_lt j i) [
      | inl l ↦ apart k j d below_j l same
      | inr g ↦
          let last : j ≡ i = omega arith in
          let k_lt : k < i = omega arith in
          let number : (get_or es k d).number ≡ n = same ∙ ap (λ m. (get_or es m d).number) last ∙ is d in
          let found : list_any (λ e. e.number == n) (take i es) ≡ true =
          list_any_at (λ e. e.number == n) (take i es) k d (omega (arith, length-take i es)) (rw (get_or-take i es k d k_lt) (eq-eqb (get_or es k d).number n number)) in
          false≢true (sym none ∙ found)
    ]

-- one more element for which P holds
pub all_more : {X : Type 0} (P : X → Type 0) (xs : List X) (i : ℕ) (x : X) → i < length xs → x ≡ get_or xs i x → P x
    → ((k : ℕ) (d : X) → k < i → P (get_or xs k d)) → (k : ℕ) (d : X) → k < i + 1 → P (get_or xs k d)
all_more P xs i x lt is holds before k d low =
    elim (cases_lt k i) [
      | inl l ↦ before k d l
      | inr g ↦
          let last : k ≡ i = omega arith in
          rw (last, sym (get_or_read xs i x lt is d)) holds
    ]

-- how many ports each device has, before extenders are laid: the bridge's, of at most 64
pub few_first : (p n : ℕ) → p ≤ 64 → slice_index (set (replicate 65 0) 0 p) n ≤ 64
few_first p zero few = few
few_first p (suc n) few = omega (arith, get_or-same {X = ℕ} 64 n 0)
