-- The groups after a claim and a release.
use Rattle.std.proofs.Common.{◌≡◌, ℕ, zero, suc, ◌+◌, ◌-◌, ◌<◌, ◌≤◌, ◌==◌, Bool, true, false, cond, not, List, [], ◌∷◌, ◌++◌, length, get_or, set, insert, refl, sym, ap, subst, ◌∙◌, inl, inr, ◌⊎◌, arith, eq-eqb}
use Rattle.std.specs.Prelude.{Some, None, slice_get, sum_by}
use Rattle.std.proofs.lemmas.Bool.{cases_eq, cases_lt, ne_eqb, false≢true, lt-leb, le-leb}
use Rattle.std.proofs.lemmas.List.{length-set, length-append}
use Rattle.std.proofs.lemmas.List.Sums.{sum_by-set, sum_by_push, sum_by-append}
use Rattle.std.proofs.lemmas.List.Edits.{length-insert, length-remove}
use Rattle.exb_model.specs.declared.port_set.PortSet.{PortSet}
use Rattle.exb_model.specs.Ports.{ports_of}
use Rattle.exb_model.specs.Refusals.{is_empty_set}
use Rattle.exb_numbers.specs.Groups.{Groups, set_of, sets_of, is_used, lowest_group}
use Rattle.exb_numbers.specs.GroupOrder.{rank_of, ranks_of, ranks_at, is_held, weight, put_at, StandsAt, IsEntered, IsLeft, AreOrdered}
use Rattle.exb_numbers.proofs.LowestInRange.{lowest_is, lowest_none}
use Rattle.exb_numbers.proofs.RisingPlaces.{one_index, insert_rising, remove_rising, stands_in_insert, stands_new, stands_in_remove, insert_holds, remove_holds}
use Rattle.exb_numbers.proofs.GroupPlaces.{ports_opt, ports_at, get_put, get_put_other, get_set, get_set_other, put_within, put_past, held_set, held_by, same_held, ranks_is, place_in, get_at, distinct, value}

-- ---- the lowest free one
used_place : (v : Groups) (g : ℕ) → 4096 ≤ g → is_used v g ≡ is_held v.sets (g - 4096)
used_place v g low = ap (λ b. not (is_empty_set (cond b (get_or v.sets (g - 4096) []) []))) (le-leb 4096 g low)

-- a group in use is in the range, and held at its place
pub used_means : (v : Groups) (g : ℕ) → is_used v g ≡ true → (4096 ≤ g) × (is_held v.sets (g - 4096) ≡ true)
used_means v g h =
    elim (cases_lt g 4096) [
      | inl low ↦ absurd (false≢true (sym (ap (λ b. not (is_empty_set (cond b (get_or v.sets (g - 4096) []) []))) (lt-leb 4096 g low)) ∙ h))
      | inr high ↦ (high, sym (used_place v g high) ∙ h)
    ]

pub read_set : (sets : List PortSet) (n : ℕ) (s : PortSet) → is_held (sets_of sets) n ≡ true → s ≡ get_or sets n s → slice_get sets n ≡ Some s
read_set sets n s held e = let h = held_set sets n held in get_at sets n s (place_in sets n h.set h.at) e

pub lowest_at : (limit : ℕ) (sets : List PortSet) (order : List ℕ) (free : ℕ) → AreOrdered limit sets order free → free < limit → lowest_group (value limit sets) ≡ Some (4096 + free)
lowest_at limit sets order free k h =
    lowest_is (is_used (value limit sets)) 4096 limit (4096 + free) (omega arith) (omega arith)
    (used_place (value limit sets) (4096 + free) (omega arith) ∙ ap (λ (n : ℕ). is_held (sets_of sets) n) (omega arith) ∙ k.at)
    (λ g low high. used_place (value limit sets) g low ∙ k.below (g - 4096) (omega arith))

pub lowest_full : (limit : ℕ) (sets : List PortSet) (order : List ℕ) (free : ℕ) → AreOrdered limit sets order free → limit ≤ free → lowest_group (value limit sets) ≡ None
lowest_full limit sets order free k h =
    lowest_none (is_used (value limit sets)) 4096 limit (λ g low high. used_place (value limit sets) g low ∙ k.below (g - 4096) (omega arith))

-- ---- what the sets are after one is changed
pub set_changed : (limit : ℕ) (old new : List PortSet) (n : ℕ) (x : List ℕ) → get_or (sets_of new) n [] ≡ x → ((k : ℕ) → (k ≡ n → ⊥) → slice_get new k ≡ slice_get old k) →
    (g : ℕ) → set_of (value limit new) g ≡ cond (g == 4096 + n) x (set_of (value limit old) g)
set_changed limit old new n x at others g =
    elim (cases_lt g 4096) [
      | inl low ↦ ap (λ b. cond b (get_or (sets_of new) (g - 4096) []) []) (lt-leb 4096 g low)
          ∙ sym (rw (ne_eqb g (4096 + n) (λ e. omega arith)) (ap (λ b. cond b (get_or (sets_of old) (g - 4096) []) []) (lt-leb 4096 g low)))
      | inr high ↦ elim (cases_eq (g - 4096) n) [
        | inl e ↦
            ap (λ b. cond b (get_or (sets_of new) (g - 4096) []) []) (le-leb 4096 g high) ∙ ap (λ (k : ℕ). get_or (sets_of new) k []) e ∙ at
            ∙ sym (rw (eq-eqb g (4096 + n) (omega arith)) refl)
        | inr e ↦
            ap (λ b. cond b (get_or (sets_of new) (g - 4096) []) []) (le-leb 4096 g high)
            ∙ ports_at new (g - 4096) ∙ ap ports_opt (others (g - 4096) e) ∙ sym (ports_at old (g - 4096))
            ∙ sym (rw (ne_eqb g (4096 + n) (λ is. e (omega arith))) (ap (λ b. cond b (get_or (sets_of old) (g - 4096) []) []) (le-leb 4096 g high)))
      ]
    ]

-- ---- how many are held
map_set : (sets : List PortSet) (n : ℕ) (s : PortSet) → sets_of (set sets n s) ≡ set (sets_of sets) n (ports_of s)
map_set [] n s = refl
map_set (x ∷ xs) zero s = refl
map_set (x ∷ xs) (suc n) s = ap (λ ys. ports_of x ∷ ys) (map_set xs n s)

map_push : (sets : List PortSet) (s : PortSet) → sets_of (sets ++ s ∷ []) ≡ sets_of sets ++ ports_of s ∷ []
map_push [] s = refl
map_push (x ∷ xs) s = ap (λ ys. ports_of x ∷ ys) (map_push xs s)

map_length : (sets : List PortSet) → length (sets_of sets) ≡ length sets
map_length [] = refl
map_length (x ∷ xs) = let e = map_length xs in omega (arith, e)

few_held : (xs : List (List ℕ)) → sum_by weight xs ≤ length xs
few_held [] = omega arith
few_held (x ∷ xs) =
    let rest = few_held xs in
    let split : sum_by weight (x ∷ xs) ≡ sum_by weight (x ∷ []) + sum_by weight xs = sum_by-append weight (x ∷ []) xs in
    let one : sum_by weight (x ∷ []) ≤ 1 = light (is_empty_set x) in
    omega (arith, rest, split, one)
  where
    light : (b : Bool) → 0 + cond b 0 1 ≤ 1
    light true = omega arith
    light false = omega arith

weight_free : (xs : List ℕ) → not (is_empty_set xs) ≡ false → weight xs ≡ 0
weight_free [] h = refl
weight_free (x ∷ xs) h = absurd (false≢true (sym h))

weight_held : (xs : List ℕ) → is_empty_set xs ≡ false → weight xs ≡ 1
weight_held xs h = rw h refl

sum_put : (sets : List PortSet) (n : ℕ) (s : PortSet) → n ≤ length sets → is_held (sets_of sets) n ≡ false → is_empty_set (ports_of s) ≡ false →
    sum_by weight (sets_of (put_at sets n s)) ≡ sum_by weight (sets_of sets) + 1
sum_put sets n s within free some =
    let one : weight (ports_of s) ≡ 1 = weight_held (ports_of s) some in
    elim (cases_lt n (length sets)) [
      | inl l ↦
          let e = sum_by-set weight (sets_of sets) n (ports_of s) [] (let m = map_length sets in omega (arith, l, m)) in
          let z : weight (get_or (sets_of sets) n []) ≡ 0 = weight_free (get_or (sets_of sets) n []) free in
          rw (put_within sets n s l, map_set sets n s) (omega (arith, e, z, one))
      | inr l ↦
          let e = sum_by_push weight (sets_of sets) (ports_of s) in
          rw (put_past sets n s l, map_push sets s) (omega (arith, e, one))
    ]

length_put : (sets : List PortSet) (n limit : ℕ) (s : PortSet) → n ≤ length sets → n < limit → length sets ≤ limit → length (put_at sets n s) ≤ limit
length_put sets n limit s within room few =
    elim (cases_lt n (length sets)) [
      | inl l ↦ rw (put_within sets n s l, length-set sets n s) few
      | inr l ↦ let e = length-append sets (s ∷ []) in rw (put_past sets n s l) (omega (arith, e))
    ]

pub has_room : (limit : ℕ) (sets : List PortSet) (order : List ℕ) (free : ℕ) (s : PortSet) → AreOrdered limit sets order free → free < limit → is_empty_set (ports_of s) ≡ false → length order < limit
has_room limit sets order free s k h some =
    let sum = sum_put sets free s k.high k.at some in
    let most = few_held (sets_of (put_at sets free s)) in
    let same = map_length (put_at sets free s) in
    let few = length_put sets free limit s k.high h k.few in
    let counted = k.counted in
    omega (arith, sum, most, same, few, counted)

pub record IsNext (sets : List PortSet) (from next : ℕ) : Type 0 where
  pub low : from ≤ next
  pub high : next ≤ length sets
  pub passed : (n : ℕ) → from ≤ n → n < next → is_held (sets_of sets) n ≡ true
  pub free : is_held (sets_of sets) next ≡ false

apart : (sets : List (List ℕ)) (n m : ℕ) → is_held sets n ≡ false → is_held sets m ≡ true → m ≡ n → ⊥
apart sets n m free held e = false≢true (sym free ∙ ap (is_held sets) (sym e) ∙ held)

-- ---- a claim
pub claimed : (limit : ℕ) (sets : List PortSet) (order : List ℕ) (free : ℕ) (s : PortSet) (new : List ℕ) (next : ℕ) → AreOrdered limit sets order free → free < limit →
    is_empty_set (ports_of s) ≡ false → IsEntered (ranks_at sets) order (rank_of s) free new → IsNext (put_at sets free s) free next → AreOrdered limit (put_at sets free s) new next
claimed limit sets order free s new next k h some e n =
    let after = put_at sets free s in
    let i = e.index in
    let within = e.splits.within in
    let here : slice_get after free ≡ Some s = get_put sets free s k.high in
    let others : (m : ℕ) → (m ≡ free → ⊥) → slice_get after m ≡ slice_get sets m = λ m other. get_put_other sets free m s k.high other in
    let kept : (j : ℕ) → j < length order → get_or order j 0 ≡ free → ⊥ = λ j l. apart (sets_of sets) free (get_or order j 0) k.at (k.held j l) in
    let P : List ℕ → Type 0 = λ o. AreOrdered limit after o next in
    subst P (sym e.is) (record {
      few = length_put sets free limit s k.high h k.few;
      short = k.short;
      rising = insert_rising (ranks_at sets) (ranks_at after) order (rank_of s) i free k.rising e.splits (ranks_is after free s here) (λ j l. ap ranks_of (others (get_or order j 0) (kept j l)));
      there = λ m held. elim (cases_eq m free) [
        | inl is ↦ subst (λ (x : ℕ). StandsAt (insert order i free) x) (sym is) (stands_new order i free within)
        | inr other ↦ stands_in_insert order i free m within (k.there m (sym (same_held sets after m (others m other)) ∙ held))
      ];
      held = insert_holds (λ m. is_held (sets_of after) m ≡ true) order i free within (held_by after free s here some)
          (λ j l. same_held sets after (get_or order j 0) (others (get_or order j 0) (kept j l)) ∙ k.held j l);
      counted = length-insert order i free within ∙ ap (λ (x : ℕ). x + 1) k.counted ∙ sym (sum_put sets free s k.high k.at some);
      high = n.high;
      below = λ m l. elim (cases_lt m free) [
        | inl before ↦ same_held sets after m (others m (λ is. omega arith)) ∙ k.below m before
        | inr from ↦ n.passed m from l
      ];
      at = n.free;
    })

-- ---- a release
pub released : (limit : ℕ) (sets : List PortSet) (order : List ℕ) (free n : ℕ) (s none : PortSet) (new : List ℕ) (next : ℕ) → AreOrdered limit sets order free →
    is_held (sets_of sets) n ≡ true → slice_get sets n ≡ Some s → ports_of none ≡ [] → IsLeft (ranks_at sets) order (rank_of s) new →
    ((n < free) × (next ≡ n)) ⊎ ((free ≤ n) × (next ≡ free)) → AreOrdered limit (set sets n none) new next
released limit sets order free n s none new next k held at empty e x =
    let after = set sets n none in
    let i = e.index in
    let within = e.at.within in
    let n_in : n < length sets = place_in sets n s at in
    let is_n : get_or order i 0 ≡ n = distinct limit sets order free k (get_or order i 0) n (k.held i within) held (e.at.same ∙ sym (ranks_is sets n s at)) in
    let here : slice_get after n ≡ Some none = get_set sets n none n_in in
    let gone : is_held (sets_of after) n ≡ false = rw (ports_at after n, here, empty) refl in
    let others : (m : ℕ) → (m ≡ n → ⊥) → slice_get after m ≡ slice_get sets m = λ m other. get_set_other sets n m none other in
    let kept : (j : ℕ) → j < length order → (j ≡ i → ⊥) → get_or order j 0 ≡ n → ⊥ =
    λ j l other is. other (one_index (ranks_at sets) order k.rising j i l within (ap (ranks_at sets) (is ∙ sym is_n))) in
    let P : List ℕ → Type 0 = λ o. AreOrdered limit after o next in
    subst P (sym e.is) (record {
      few = rw (length-set sets n none) (k.few);
      short = k.short;
      rising = remove_rising (ranks_at sets) (ranks_at after) order i k.rising within (λ j l other. ap ranks_of (others (get_or order j 0) (kept j l other)));
      there = λ m held_m.
          let other : m ≡ n → ⊥ = apart (sets_of after) n m gone held_m in
          stands_in_remove order i m within (λ is. other (sym is ∙ is_n)) (k.there m (sym (same_held sets after m (others m other)) ∙ held_m));
      held = remove_holds (λ m. is_held (sets_of after) m ≡ true) order i within
          (λ j l other. same_held sets after (get_or order j 0) (others (get_or order j 0) (kept j l other)) ∙ k.held j l);
      counted =
          let size = length-remove order i within in
          let sum = sum_by-set weight (sets_of sets) n (ports_of none) [] (let m = map_length sets in omega (arith, n_in, m)) in
          let none_weight : weight (ports_of none) ≡ 0 = ap weight empty in
          let one : weight (get_or (sets_of sets) n []) ≡ 1 = held_one (get_or (sets_of sets) n []) held in
          let counted = k.counted in
          rw (map_set sets n none) (omega (arith, size, sum, none_weight, one, counted));
      high = rw (length-set sets n none) (elim x [ inl y ↦ omega (arith, y.1, n_in) | inr y ↦ let m = k.high in omega (arith, y.1, m) ]);
      below = λ m l.
          elim x [
            | inl y ↦ same_held sets after m (others m (λ is. omega (arith, y.1, l, is))) ∙ k.below m (omega (arith, y.0, y.1, l))
            | inr y ↦ same_held sets after m (others m (λ is. omega (arith, y.0, y.1, l, is))) ∙ k.below m (omega (arith, y.1, l))
          ];
      at =
          elim x [
            | inl y ↦ ap (is_held (sets_of after)) y.1 ∙ gone
            | inr y ↦
                let other : next ≡ n → ⊥ = λ is. apart (sets_of sets) free n k.at held (sym is ∙ y.1) in
                same_held sets after next (others next other) ∙ ap (is_held (sets_of sets)) y.1 ∙ k.at
          ];
    })
  where
    held_one : (xs : List ℕ) → not (is_empty_set xs) ≡ true → weight xs ≡ 1
    held_one [] h = absurd (false≢true h)
    held_one (y ∷ ys) h = refl
