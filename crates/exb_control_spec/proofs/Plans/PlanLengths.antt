-- How long the lists of a plan are.
use Rattle.std.proofs.Common.{◌≡◌, ℕ, zero, suc, ◌+◌, ◌-◌, ◌*◌, ◌<◌, ◌≤◌, ◌==◌, ◌&&◌, cond, nat_lt, Bool, true, false, not, List, [], ◌∷◌, Option, Some, None, length, map, filter, drop, refl, ap, arith, inl, inr, eq-eqb, length-append, length-drop}
use Rattle.std.specs.Prelude.{filter_map, slice_index}
use Rattle.std.specs.List.{cons_option, flat_map, range_with_len}
use Rattle.std.proofs.lemmas.Bool.{cases_Bool, cases_eq, cases_lt, and_parts, eqb-true, ne_eqb}
use Rattle.std.proofs.lemmas.List.{length-map}
use Rattle.exb_model.specs.Tree.{Shape, is_cascade, depth, level, levels, by_depth, hangs_at_depth}
use Rattle.exb_model.specs.Refusals.{bridge_ports}
use Rattle.exb_model.specs.Ports.{below}
use Rattle.exb_control_spec.specs.Plans.Sets.{PortsAt}
use Rattle.exb_control_spec.specs.declared.plan.row_action.RowAction.{RowAction}
use Rattle.exb_control_spec.specs.Plans.HeldNumbers.{Held, Group, numbered, group_for, give}
use Rattle.exb_control_spec.specs.Plans.Differences.{is_gone, group_at, gone_at, gone_groups}
use Rattle.exb_control_spec.specs.Plans.ChangeRequests.{pieces, in_messages, row_at, rows_at, asks_with, group_asks, ask, message}
use Rattle.exb_control_spec.specs.Plans.FreshSets.{how_many, is_at}
use Rattle.exb_control_spec.proofs.Plans.EachElement.{Each, each_map, each_filter, few-filter}

-- ---- lists
pub flat_at_most : {X Y : Type 0} (f : X → List Y) (b : ℕ) → ((x : X) → length (f x) ≤ b) → (xs : List X) → length (flat_map f xs) ≤ b * length xs
flat_at_most f b each [] = omega arith
flat_at_most f b each (x ∷ xs) =
    let rest = flat_at_most f b each xs in
    let here = each x in
    rw (length-append (f x) (flat_map f xs)) (omega (arith, rest, here))

pub few-filter_map : {X Y : Type 0} (f : X → Option Y) (xs : List X) → length (filter_map f xs) ≤ length xs
few-filter_map f [] = omega arith
few-filter_map {Y = Y} f (x ∷ xs) = by_option (f x) (few-filter_map f xs)
  where
    by_option : (o : Option Y) → length (filter_map f xs) ≤ length xs → length (cons_option o (filter_map f xs)) ≤ suc (length xs)
    by_option None rest = omega (arith, rest)
    by_option (Some y) rest = omega (arith, rest)

pub few_range : (a n : ℕ) → length (range_with_len a n) ≤ n
few_range a zero = omega arith
few_range a (suc n) = let r = few_range (a + 1) n in omega (arith, r)

-- ---- messages
none_left : {X : Type 0} (n : ℕ) (ys : List X) → length ys ≡ 0 → length (pieces n ys) ≡ 0
unfolding pieces
none_left zero [] e = refl
none_left (suc n) [] e = refl
none_left n (y ∷ ys) e = absurd (omega arith)

few_pieces : {X : Type 0} (n : ℕ) (xs : List X) → 64 * length (pieces n xs) ≤ length xs + 63
unfolding pieces
few_pieces zero xs = omega arith
few_pieces (suc n) [] = omega arith
few_pieces (suc n) (x ∷ xs) =
    let rest = few_pieces n (drop 64 (x ∷ xs)) in
    let left : length (drop 64 (x ∷ xs)) ≡ length (x ∷ xs) - 64 = length-drop 64 (x ∷ xs) in
    elim (cases_lt (length (x ∷ xs)) 64) [
      | inl few ↦ (let none = none_left n (drop 64 (x ∷ xs)) (omega (arith, left, few)) in omega (arith, none))
      | inr many ↦ omega (arith, rest, left, many)
    ]

pub few_messages : {X : Type 0} (xs : List X) → 64 * length (in_messages xs) ≤ length xs + 63
unfolding in_messages
few_messages xs = few_pieces (length xs) xs

-- ---- extenders
-- 1 where extender n hangs at depth d
one_at : Shape → ℕ → ℕ → ℕ
one_at t n d = cond (hangs_at_depth t n d) 1 0

-- at the depths up to d
ones_to : Shape → ℕ → ℕ → ℕ
ones_to t n zero = 0
ones_to t n (suc d) = ones_to t n d + one_at t n (suc d)

none_above : (t : Shape) (n d : ℕ) → d < depth t n → ones_to t n d ≡ 0
unfolding ones_to one_at
none_above t n zero deep = refl
none_above t n (suc d) deep =
    let rest = none_above t n d (omega (arith, deep)) in
    let other = ne_eqb (depth t n) (suc d) (λ e. omega (arith, deep, e)) in
    rw (rest, other) (by_test (nat_lt 0 (slice_index t.ports n)))
  where
    by_test : (b : Bool) → 0 + cond (b && false) 1 0 ≡ 0
    by_test true = refl
    by_test false = refl

-- an extender hangs at one depth alone
one_most : (t : Shape) (n d : ℕ) → ones_to t n d ≤ 1
unfolding ones_to one_at
one_most t n zero = omega arith
one_most t n (suc d) = elim (cases_Bool (hangs_at_depth t n (suc d))) [
  | inl e ↦
      let at = eqb-true (depth t n) (suc d) (and_parts (nat_lt 0 (slice_index t.ports n)) (depth t n == suc d) e).1 in
      let none = none_above t n d (omega (arith, at)) in
      rw e (omega (arith, none))
  | inr e ↦ let rest = one_most t n d in rw e (omega (arith, rest))
]

level_more : (t : Shape) (d k : ℕ) → length (level t d (suc k)) ≡ length (level t d k) + one_at t (suc k) d
unfolding level one_at
level_more t d k = elim (cases_Bool (hangs_at_depth t (suc k) d)) [
  | inl e ↦ rw (e, length-append (level t d k) (suc k ∷ [])) refl
  | inr e ↦ rw (e, length-append (level t d k) []) refl
]

-- the extenders up to number n at the depths up to d
many_to : Shape → ℕ → ℕ → ℕ
many_to t n zero = 0
many_to t n (suc d) = many_to t n d + length (level t (suc d) n)

many_more : (t : Shape) (k d : ℕ) → many_to t (suc k) d ≡ many_to t k d + ones_to t (suc k) d
unfolding many_to ones_to
many_more t k zero = refl
many_more t k (suc d) = let rest = many_more t k d in let here = level_more t (suc d) k in omega (arith, rest, here)

many_none : (t : Shape) (d : ℕ) → many_to t 0 d ≡ 0
unfolding many_to level
many_none t zero = refl
many_none t (suc d) = let rest = many_none t d in omega (arith, rest)

many_most : (t : Shape) (n d : ℕ) → many_to t n d ≤ n
many_most t zero d = let none = many_none t d in omega (arith, none)
many_most t (suc k) d = let rest = many_most t k d in let more = many_more t k d in let one = one_most t (suc k) d in omega (arith, rest, more, one)

levels_are : (t : Shape) (d : ℕ) → length (levels t d) ≡ many_to t 64 d
unfolding levels many_to
levels_are t zero = refl
levels_are t (suc d) = let rest = levels_are t d in rw (length-append (levels t d) (level t (suc d) 64)) (omega (arith, rest))

pub few_extenders : (t : Shape) → length (by_depth t) ≤ 64
unfolding by_depth
few_extenders t = let same = levels_are t 64 in let most = many_most t 64 64 in omega (arith, same, most)

-- ---- requests for groups
asks_few : (step : RowAction) (rows : List _) (n : ℕ) → 64 * length (asks_with step rows n) ≤ length rows + 63
asks_few step rows n =
    let few = few_messages rows in
    let same = length-map (in_messages rows) (λ piece. ask n (message step piece)) in
    omega (arith, few, same)

pub group_asks_few : (t : Shape) (step : RowAction) (groups : List Group) (b : ℕ) → length groups + 63 ≤ 64 * b → length (group_asks step t groups) ≤ b * 64
unfolding group_asks
group_asks_few t step groups b few =
    let each : length (flat_map (λ n. asks_with step (rows_at t groups n) n) (by_depth t)) ≤ b * length (by_depth t) =
    flat_at_most (λ n. asks_with step (rows_at t groups n) n) b (λ n. at_each n) (by_depth t) in
    let extenders = few_extenders t in
    omega (arith, each, mul_most b (length (by_depth t)) 64 extenders)
  where
    at_each : (n : ℕ) → length (asks_with step (rows_at t groups n) n) ≤ b
    at_each n =
        let asks = asks_few step (rows_at t groups n) n in
        let rows = few-filter_map (row_at t n) groups in
        omega (arith, asks, rows, few)

    mul_most : (a b c : ℕ) → b ≤ c → a * b ≤ a * c
    mul_most a b c h = grind arith

-- ---- groups
pub numbered_many : (groups : ℕ) (h : Held) (sets : List PortsAt) → length (numbered groups h sets) ≡ length sets
unfolding numbered
numbered_many groups h [] = refl
numbered_many groups h (s ∷ sets) = ap suc (numbered_many groups (give (group_for groups h s) h) sets)

gone_few_of : (n : ℕ) (kept : List PortsAt) (h : Held) (k : ℕ) → length (map (group_at h k) (filter (is_gone kept h k) (range_with_len 4096 n))) ≤ n
gone_few_of n kept h k =
    let same = length-map (filter (is_gone kept h k) (range_with_len 4096 n)) (group_at h k) in
    let few = few-filter (is_gone kept h k) (range_with_len 4096 n) in
    let range = few_range 4096 n in
    omega (arith, same, few, range)

gone_few : (kept : List PortsAt) (h : Held) (k : ℕ) → length (gone_at kept h k) ≤ 12288
unfolding gone_at
gone_few kept h k = gone_few_of 12288 kept h k

few_ports : (test : ℕ → Bool) (n : ℕ) → length (filter test (below n)) ≤ n
unfolding below
few_ports test n = let few = few-filter test (range_with_len 0 n) in let range = few_range 0 n in omega (arith, few, range)

pub all_gone_few : (t : Shape) (kept : List PortsAt) (h : Held) → length (gone_groups t kept h) ≤ 12288 * 64
unfolding gone_groups
all_gone_few t kept h =
    let each = flat_at_most (gone_at kept h) 12288 (λ k. gone_few kept h k) (filter (is_cascade t) bridge_ports) in
    let ports = few_ports (is_cascade t) 64 in
    omega (arith, each, ports)

-- ---- sets by their bridge port
abbrev pub IsUpTo : ℕ → PortsAt → Type 0
IsUpTo n s = (1 ≤ s.bridge_port) × (s.bridge_port ≤ n)

count_split : (test : PortsAt → Bool) (xs : List PortsAt) → length xs ≡ how_many test xs + how_many (λ s. not (test s)) xs
count_split test [] = refl
count_split test (x ∷ xs) =
    let rest = count_split test xs in
    elim (cases_Bool (test x)) [
      | inl e ↦ rw e (omega (arith, rest))
      | inr e ↦ rw e (omega (arith, rest))
    ]

count_within : (p q : PortsAt → Bool) (xs : List PortsAt) → how_many p (filter q xs) ≤ how_many p xs
count_within p q [] = omega arith
count_within p q (x ∷ xs) =
    let rest = count_within p q xs in
    elim (cases_Bool (q x)) [
      | inl e ↦ elim (cases_Bool (p x)) [
        | inl f ↦ rw (e, f) (omega (arith, rest))
        | inr f ↦ rw (e, f) (omega (arith, rest))
      ]
      | inr e ↦ elim (cases_Bool (p x)) [
        | inl f ↦ rw (e, f) (omega (arith, rest))
        | inr f ↦ rw (e, f) (omega (arith, rest))
      ]
    ]

pub sets_few : (n b : ℕ) (xs : List PortsAt) → Each (IsUpTo n) xs → ((k : ℕ) → k < n → how_many (is_at (k + 1)) xs ≤ b) → length xs ≤ b * n
sets_few zero b [] each few = omega arith
sets_few zero b (x ∷ xs) each few = absurd (let a = each.0.0 in let c = each.0.1 in omega (arith, a, c))
sets_few (suc n) b xs each few =
    let split = count_split (is_at (n + 1)) xs in
    let here = few n (omega arith) in
    let rest = sets_few n b (filter (λ s. not (is_at (n + 1) s)) xs)
    (each_map (λ s. IsUpTo (suc n) s × (not (is_at (n + 1) s) ≡ true)) (IsUpTo n) (filter (λ s. not (is_at (n + 1) s)) xs) (λ s a. (a.0.0, lower s a.0.1 a.1))
    (each_filter (IsUpTo (suc n)) (λ s. not (is_at (n + 1) s)) xs each))
    (λ k l. (let w = count_within (is_at (k + 1)) (λ s. not (is_at (n + 1) s)) xs in let f = few k (omega (arith, l)) in omega (arith, w, f))) in
    omega (arith, split, here, rest)
  where
    lower : (s : PortsAt) → s.bridge_port ≤ suc n → not (is_at (n + 1) s) ≡ true → s.bridge_port ≤ n
    lower s most other = elim (cases_eq s.bridge_port (n + 1)) [
      | inl e ↦ absurd (true_not (s.bridge_port == n + 1) (eq-eqb s.bridge_port (n + 1) e) other)
      | inr e ↦ omega (arith, most, e)
    ]
      where
        true_not : (b : Bool) → b ≡ true → not b ≡ true → ⊥
        true_not true e f = cc
        true_not false e f = cc
