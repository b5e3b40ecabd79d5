-- The cascade ports of extenders get channels in port order, and there are enough.
use Rattle.std.proofs.Common.{◌≡◌, ◌≢◌, ℕ, zero, suc, ◌+◌, ◌-◌, ◌<◌, ◌≤◌, ◌==◌, ◌&&◌, ◌||◌, cond, Bool, true, false, List, [], ◌∷◌, ◌++◌, Some, None, length, filter, fold, refl, sym, ◌∙◌, ap, subst, arith, inl, inr, eq-eqb, length-append, nat_lt, nat_le}
use Rattle.std.specs.Prelude.{is_some, count_by}
use Rattle.std.specs.List.{list_any, range_with_len}
use Rattle.std.proofs.lemmas.Bool.{cases_eq, cases_lt, and_parts, eqb-true, ne_eqb, leb-true, ltb-true, lt-ltb, le-ltb}
use Rattle.std.proofs.lemmas.List.Elements.{filter-append}
use Rattle.std.proofs.lemmas.List.Sums.{length-filter}
use Rattle.std.proofs.lemmas.List.{append-nil}
use Rattle.exb_model.specs.Ports.{below, all_ports}
use Rattle.exb_model.specs.Tree.{Shape, IsTree, device, trunk, is_port, is_cascade, is_cascade_under, cascades_under}
use Rattle.exb_model.specs.Setup.{Limits}
use Rattle.exb_model.proofs.PortLemmas.{below-more}
use Rattle.exb_model.proofs.TreeWays.{port_below}
use Rattle.exb_model.specs.LowestFree.{lowest_free}
use Rattle.exb_control_spec.specs.Plans.HeldNumbers.{Held, channel_used, free_channel, give_channel, or_zero, in_spaces}
use Rattle.exb_control_spec.specs.Plans.FreshSets.{how_many}
use Rattle.exb_control_spec.proofs.Plans.UsedNumbers.{IsLowest, lowest_there, few_used}
use Rattle.exb_control_spec.proofs.Plans.EachElement.{in_filter}
use Rattle.exb_control_spec.proofs.Plans.ChannelOwners.{Gives, gives_channels, gives_one, gives_same, gives_elsewhere, gives_more}
use Rattle.exb_control_spec.specs.InitialState.{nothing_held, with_channel_of, is_deep, deep_cascades, first_held, HasChannels}
use Rattle.exb_control_spec.specs.Plans.Laws.{HoldsFirst}
use Rattle.exb_control_spec.proofs.CascadePlaces.{place_true}
use Rattle.exb_control_spec.proofs.Claims.{trunk_low, trunk_cascade, given_placed}
use Rattle.exb_control_spec.proofs.Plans.OptionalNumbers.{is_none_at, none_some, of_some}
use Rattle.exb_control_spec.proofs.Plans.Bools.{and_false}

-- ---- how many pass below a number
more_pass : (p : ℕ → Bool) (n : ℕ) → length (filter p (below (n + 1))) ≡ length (filter p (below n)) + length (cond (p n) (n ∷ []) [])
more_pass p n = ap (λ (xs : List ℕ). length (filter p xs)) (below-more n) ∙ (ap length (filter-append p (below n) (n ∷ [])) ∙ length-append (filter p (below n)) (cond (p n) (n ∷ []) []))

pass_grows : (p : ℕ → Bool) (n d : ℕ) → length (filter p (below n)) ≤ length (filter p (below (d + n)))
pass_grows p n zero = let e : length (filter p (below (zero + n))) ≡ length (filter p (below n)) = ap (λ (m : ℕ). length (filter p (below m))) (let f : zero + n ≡ n = omega arith in f) in omega (arith, e)
pass_grows p n (suc d) =
    let rest = pass_grows p n d in
    let more = more_pass p (d + n) in
    let next : length (filter p (below (suc d + n))) ≡ length (filter p (below (d + n + 1))) = ap (λ (m : ℕ). length (filter p (below m))) (let e : suc d + n ≡ d + n + 1 = omega arith in e) in
    omega (arith, rest, more, next)

one_less : (p : ℕ → Bool) (n m : ℕ) → n < m → p n ≡ true → length (filter p (below n)) < length (filter p (below m))
one_less p n m low is =
    let more : length (filter p (below (n + 1))) ≡ length (filter p (below n)) + 1 = more_pass p n ∙ ap (λ b. length (filter p (below n)) + length (cond b (n ∷ []) [])) is in
    let rest = pass_grows p (n + 1) (m - (n + 1)) in
    let end : length (filter p (below (m - (n + 1) + (n + 1)))) ≡ length (filter p (below m)) = ap (λ (k : ℕ). length (filter p (below k))) (let e : m - (n + 1) + (n + 1) ≡ m = omega (arith, low) in e) in
    omega (arith, more, rest, end)

-- ---- what holds of the ports below one
-- no group is held, and just the cascade ports of extenders below port n have channels
pub record AreFirst (t : Shape) (h : Held) (n : ℕ) : Type 0 where
  pub gives : (k : ℕ) → k < 64 → is_cascade t k ≡ true → Gives h k (λ p. nat_lt p n && is_cascade_under t k p)
  pub groups : (k g : ℕ) → k < 64 → is_cascade t k ≡ true → h.set k g ≡ []

abbrev pub first_below : Shape → Limits → ℕ → Held
first_below t l n = fold (with_channel_of t l) nothing_held (filter (is_deep t) (below n))

pub none_first : (t : Shape) (h : Held) → in_spaces t h ≡ nothing_held → AreFirst t h 0
none_first t h none = record {
  gives = λ k low c. record {
    low = λ m p e. absurd (none_some p (sym (free k m low c) ∙ e));
    high = λ m p e. absurd (none_some p (sym (free k m low c) ∙ e));
    one = λ m d p e f. absurd (none_some p (sym (free k m low c) ∙ e));
    sound = λ m p e. absurd (none_some p (sym (free k m low c) ∙ e));
    full = λ p e. absurd (never (is_cascade_under t k p) p e);
  };
  groups = λ k g low c. sym (ap (λ b. cond b (h.set k g) []) (place_true t k low c)) ∙ ap (λ (i : Held). i.set k g) none;
}
  where
    free : (k m : ℕ) → k < 64 → is_cascade t k ≡ true → h.port k m ≡ None
    free k m low c = sym (ap (λ b. cond b (h.port k m) None) (place_true t k low c)) ∙ ap (λ (i : Held). i.port k m) none

    never : (b : Bool) (p : ℕ) → (nat_lt p 0 && b) ≡ true → ⊥
    never b p e = let l = ltb-true p 0 (and_parts (nat_lt p 0) b e).0 in absurd (omega (arith, l))

pub none_below : (t : Shape) (l : Limits) → first_below t l 0 ≡ nothing_held
unfolding below
none_below t l = refl

-- ---- a port that isn't one
module _ (t : Shape) (n : ℕ) where
  -- below the next port
  next_test : (k p : ℕ) → p ≢ n → (nat_lt p n && is_cascade_under t k p) ≡ (nat_lt p (n + 1) && is_cascade_under t k p)
  next_test k p other =
      elim (cases_lt p n) [
        | inl low ↦ rw (lt-ltb p n low, lt-ltb p (n + 1) (omega (arith, low))) refl
        | inr high ↦ rw (le-ltb p n high, le-ltb p (n + 1) (omega (arith, high, other))) refl
      ]

  pub itself : (k : ℕ) → (nat_lt n n && is_cascade_under t k n) ≡ false
  itself k = rw (le-ltb n n (omega arith)) refl

  then_itself : (k : ℕ) → (nat_lt n (n + 1) && is_cascade_under t k n) ≡ is_cascade_under t k n
  then_itself k = rw (lt-ltb n (n + 1) (omega arith)) refl

  same_needs : (k : ℕ) → is_cascade_under t k n ≡ false → (p : ℕ) → (nat_lt p n && is_cascade_under t k p) ≡ (nat_lt p (n + 1) && is_cascade_under t k p)
  same_needs k off p =
      elim (cases_eq p n) [
        | inl e ↦ subst (λ (m : ℕ). (nat_lt m n && is_cascade_under t k m) ≡ (nat_lt m (n + 1) && is_cascade_under t k m)) (sym e) (itself k ∙ sym (then_itself k ∙ off))
        | inr other ↦ next_test k p other
      ]

  more_needs : (k : ℕ) → is_cascade_under t k n ≡ true → (p : ℕ) → ((nat_lt p n && is_cascade_under t k p) || p == n) ≡ (nat_lt p (n + 1) && is_cascade_under t k p)
  more_needs k on p =
      elim (cases_eq p n) [
        | inl e ↦ subst (λ (m : ℕ). ((nat_lt m n && is_cascade_under t k m) || m == n) ≡ (nat_lt m (n + 1) && is_cascade_under t k m)) (sym e)
            (rw (eq-eqb n n refl) (or_true (nat_lt n n && is_cascade_under t k n)) ∙ sym (then_itself k ∙ on))
        | inr other ↦ rw (ne_eqb p n other) (or_false (nat_lt p n && is_cascade_under t k p) ∙ next_test k p other)
      ]
    where
      or_true : (b : Bool) → (b || true) ≡ true
      or_true true = refl
      or_true false = refl

      or_false : (b : Bool) → (b || false) ≡ b
      or_false true = refl
      or_false false = refl

  under_is : (k : ℕ) → is_cascade_under t k n ≡ (is_deep t n && trunk t (device n) == k)
  under_is k = by_tests (nat_le 64 n) (is_port t n) (is_cascade t n) (trunk t (device n) == k)
    where
      by_tests : (a b c d : Bool) → (a && b && c && d) ≡ ((a && (b && c)) && d)
      by_tests true true c d = refl
      by_tests true false c d = refl
      by_tests false b c d = refl

  pub not_first : (h : Held) → is_deep t n ≡ false → AreFirst t h n → AreFirst t h (n + 1)
  not_first h off are = record {
    gives = λ k low c. gives_same h k (λ p. nat_lt p n && is_cascade_under t k p) (λ p. nat_lt p (n + 1) && is_cascade_under t k p)
        (same_needs k (under_is k ∙ ap (λ b. b && trunk t (device n) == k) off)) (are.gives k low c);
    groups = are.groups;
  }

  pub none_more : (l : Limits) → is_deep t n ≡ false → first_below t l (n + 1) ≡ first_below t l n
  none_more l off =
      ap (fold (with_channel_of t l) nothing_held) (ap (filter (is_deep t)) (below-more n) ∙ (filter-append (is_deep t) (below n) (n ∷ [])
      ∙ (ap (λ b. filter (is_deep t) (below n) ++ cond b (n ∷ []) []) off ∙ append-nil (filter (is_deep t) (below n)))))

  pub one_more : (l : Limits) → is_deep t n ≡ true → first_below t l (n + 1) ≡ with_channel_of t l (first_below t l n) n
  one_more l on =
      ap (fold (with_channel_of t l) nothing_held) (ap (filter (is_deep t)) (below-more n) ∙ (filter-append (is_deep t) (below n) (n ∷ [])
      ∙ ap (λ b. filter (is_deep t) (below n) ++ cond b (n ∷ []) []) on))
      ∙ fold_last (with_channel_of t l) (filter (is_deep t) (below n)) nothing_held n
    where
      fold_last : {X Y : Type 0} (f : Y → X → Y) (xs : List X) (y : Y) (x : X) → fold f y (xs ++ x ∷ []) ≡ f (fold f y xs) x
      fold_last f [] y x = refl
      fold_last f (z ∷ zs) y x = fold_last f zs (f y z) x

  -- ---- a port that is one
  module _ (valid : IsTree t) (on : is_deep t n ≡ true) where
    pub high : 64 ≤ n
    high = leb-true 64 n (and_parts (nat_le 64 n) (is_port t n && is_cascade t n) on).0

    pub known : is_port t n ≡ true
    known = (and_parts (is_port t n) (is_cascade t n) (and_parts (nat_le 64 n) (is_port t n && is_cascade t n) on).1).0

    pub low_trunk : trunk t (device n) < 64
    low_trunk = trunk_low t valid n high known

    pub cascade_trunk : is_cascade t (trunk t (device n)) ≡ true
    cascade_trunk = trunk_cascade t valid n high known

    under_own : is_cascade_under t (trunk t (device n)) n ≡ true
    under_own = under_is (trunk t (device n)) ∙ rw (on, eq-eqb (trunk t (device n)) (trunk t (device n)) refl) refl

    -- a channel is used for one port below this one
    few_channels : (h : Held) (k m : ℕ) → Gives h k (λ p. nat_lt p n && is_cascade_under t k p) → how_many (channel_used h k) (range_with_len 1 m) ≤ length (filter (is_cascade_under t k) (below n))
    unfolding below
    few_channels h k m g =
        few_used (λ p q. p == q) (λ p q e. eqb-true p q e) (λ c. or_zero (h.port k c)) (channel_used h k) one 1 m (filter (is_cascade_under t k) (range_with_len 0 n)) sound
      where
        one : (c d : ℕ) → channel_used h k c ≡ true → channel_used h k d ≡ true → or_zero (h.port k c) ≡ or_zero (h.port k d) → c ≡ d
        one c d u w e =
            let p : (p : ℕ) × (h.port k c ≡ Some p) = of_some (h.port k c) u in
            let q : (q : ℕ) × (h.port k d ≡ Some q) = of_some (h.port k d) w in
            let same : p.0 ≡ q.0 = sym (ap or_zero p.1) ∙ (e ∙ ap or_zero q.1) in
            g.one c d p.0 p.1 (q.1 ∙ ap (λ (x : ℕ). Some x) (sym same))

        sound : (c : ℕ) → 1 ≤ c → channel_used h k c ≡ true → list_any (λ q. or_zero (h.port k c) == q) (filter (is_cascade_under t k) (range_with_len 0 n)) ≡ true
        sound c a u =
            let p : (p : ℕ) × (h.port k c ≡ Some p) = of_some (h.port k c) u in
            let both = and_parts (nat_lt p.0 n) (is_cascade_under t k p.0) (g.sound c p.0 p.1) in
            subst (λ (x : ℕ). list_any (λ q. x == q) (filter (is_cascade_under t k) (range_with_len 0 n)) ≡ true) (sym (ap or_zero p.1))
            (in_filter (is_cascade_under t k) 0 n p.0 (omega arith) (let b = ltb-true p.0 n both.0 in omega (arith, b)) both.1)

    -- fewer channels are used than there are
    pub lowest : (l : Limits) (h : Held) → HasChannels t l → AreFirst t h n → (m : ℕ) × IsLowest (channel_used h (trunk t (device n))) 1 l.channels m
    unfolding cascades_under
    lowest l h enough are =
        let k = trunk t (device n) in
        let g = are.gives k low_trunk cascade_trunk in
        let cu = is_cascade_under t k in
        let few : how_many (channel_used h k) (range_with_len 1 l.channels) ≤ length (filter cu (below n)) = few_channels h k l.channels g in
        let less : length (filter cu (below n)) < length (filter cu all_ports) = one_less cu n 4160 (port_below t valid n high known) under_own in
        let count : length (filter cu all_ports) ≡ count_by cu all_ports = length-filter cu all_ports in
        let most : count_by cu all_ports ≤ l.channels = enough.1 k low_trunk in
        lowest_there (channel_used h k) 1 l.channels (fewer _ _ _ _ _ few less count most)
      where
        fewer : (a b c d e : ℕ) → a ≤ b → b < c → c ≡ d → d ≤ e → a < e
        fewer a b c d e f g i j = omega arith

    -- the port has a channel then
    pub still_first : (l : Limits) (h : Held) → HasChannels t l → AreFirst t h n → AreFirst t (give_channel t n (free_channel l.channels h (trunk t (device n))) h) (n + 1)
    still_first l h enough are =
        let k = trunk t (device n) in
        let there : (m : ℕ) × IsLowest (channel_used h k) 1 l.channels m = lowest l h enough are in
        let c = free_channel l.channels h k in
        let number : c ≡ there.0 = ap or_zero there.1.is in
        let g : Held = give_channel t n c h in
        record {
          gives = λ j low cas. elim (cases_eq j k) [
            | inr other ↦ gives_same g j (λ p. nat_lt p n && is_cascade_under t j p) (λ p. nat_lt p (n + 1) && is_cascade_under t j p)
                (same_needs j (under_is j ∙ (ap (λ b. is_deep t n && b) (ne_eqb k j (λ e. other (sym e))) ∙ and_false (is_deep t n))))
                (gives_elsewhere t h j n c (λ p. nat_lt p n && is_cascade_under t j p) (are.gives j low cas) other)
            | inl here ↦ gives_same g j (λ p. (nat_lt p n && is_cascade_under t j p) || p == n) (λ p. nat_lt p (n + 1) && is_cascade_under t j p)
                (more_needs j (ap (λ (m : ℕ). is_cascade_under t m n) here ∙ under_own))
                (gives_more t h j n c (λ p. nat_lt p n && is_cascade_under t j p) (are.gives j low cas) here
                (let a = there.1.low in omega (arith, a, number)) (let b = there.1.high in let most = enough.0 in omega (arith, b, number, most))
                (itself j) (ap (λ (m : ℕ). h.port m c) here ∙ (ap (h.port k) number ∙ is_none_at (h.port k there.0) there.1.free)))
          ];
          groups = are.groups;
        }

    -- what is held is as it is defined
    pub held_next : (l : Limits) (h : Held) → in_spaces t h ≡ first_below t l n →
        in_spaces t (give_channel t n (free_channel l.channels h (trunk t (device n))) h) ≡ first_below t l (n + 1)
    held_next l h is =
        let k = trunk t (device n) in
        let c = free_channel l.channels h k in
        let place = place_true t k low_trunk cascade_trunk in
        let same : free_channel l.channels (in_spaces t h) k ≡ c = ap (λ b. or_zero (lowest_free (λ m. is_some (cond b (h.port k m) None)) 1 l.channels)) place in
        sym (given_placed t n c h place)
        ∙ (ap (λ (m : ℕ). give_channel t n m (in_spaces t h)) (sym same)
        ∙ (ap (λ (g : Held). with_channel_of t l g n) is ∙ sym (one_more l on)))

-- ---- the end
pub first_end : (t : Shape) → IsTree t → (h : Held) (n : ℕ) → n ≡ 4160 → AreFirst t h n → HoldsFirst t h
first_end t valid h n end are = record {
  groups = are.groups;
  channels = λ k p low c. gives_channels h k (λ q. nat_lt q n && is_cascade_under t k q) (are.gives k low c) p ∙ below_all k p;
  one_channel = λ k p m low c e. gives_one h k (λ q. nat_lt q n && is_cascade_under t k q) (are.gives k low c) p m e;
}
  where
    below_all : (k p : ℕ) → (nat_lt p n && is_cascade_under t k p) ≡ is_cascade_under t k p
    below_all k p = by_under (is_cascade_under t k p) refl
      where
        by_under : (b : Bool) → is_cascade_under t k p ≡ b → (nat_lt p n && b) ≡ b
        by_under false e = and_false (nat_lt p n)
        by_under true e =
            let one = and_parts (nat_le 64 p && is_port t p && is_cascade t p) (trunk t (device p) == k) e in
            let two = and_parts (nat_le 64 p && is_port t p) (is_cascade t p) one.0 in
            let three = and_parts (nat_le 64 p) (is_port t p) two.0 in
            let low = port_below t valid p (leb-true 64 p three.0) three.1 in
            ap (λ b. b && true) (lt-ltb p n (omega (arith, low, end)))

pub held_end : (t : Shape) (l : Limits) (n : ℕ) → n ≡ 4160 → first_below t l n ≡ first_held t l
unfolding first_held deep_cascades
held_end t l n end = ap (first_below t l) end
