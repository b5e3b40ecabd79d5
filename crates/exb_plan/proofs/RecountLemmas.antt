-- Uses that follow parts, one part after another.
use Rattle.std.proofs.Common.{◌≡◌, ℕ, zero, suc, ◌+◌, ◌-◌, ◌<◌, ◌≤◌, ◌==◌, ◌&&◌, cond, Bool, true, false, not, List, [], ◌∷◌, ◌++◌, Option, Some, None, length, get_or, map, take, drop, refl, sym, ◌∙◌, ap, subst, arith, eq-eqb}
use Rattle.std.specs.Prelude.{bytes_eq}
use Rattle.std.proofs.lemmas.List.{take-append-drop, map-append}
use Rattle.std.proofs.lemmas.Bool.{and_parts, and_from, eqb-true, false≢true, false_from_ne_true}
use Rattle.exb_model.specs.Refusals.{is_empty_set}
use Rattle.exb_numbers.specs.Groups.{Groups, group_of}
use Rattle.exb_numbers.specs.Spaces.{Spaces, has_space, groups_at}
use Rattle.exb_control_spec.specs.declared.plan.set_at.SetAt.{SetAt}
use Rattle.exb_control_spec.specs.Plans.Sets.{PortsAt, is_same_set}
use Rattle.exb_control_spec.specs.Plans.HeldNumbers.{Held, group_in}
use Rattle.exb_plan.specs.SpaceContents.{held_by}
use Rattle.exb_plan.specs.PlanValues.{IsPlaced}
use Rattle.exb_control_spec.proofs.Plans.SetFacts.{bytes_is, bytes_itself}
use Rattle.exb_control_spec.proofs.Plans.GroupOwners.{IsGroupOf, group_found}
use Rattle.exb_plan.proofs.SpaceContents.{group_in_is}
use Rattle.exb_plan.proofs.Lists.{image_rest}
use Rattle.exb_control_spec.proofs.Plans.ListTests.{count-cons, count-append}
use Rattle.exb_control_spec.specs.Plans.TouchedParts.{uses_in}
use Rattle.exb_plan.specs.UseCounts.{count_at}
use Rattle.exb_plan.specs.Recount.{parts_at, AreOwn, AreRaised, AreLowered, AreEnough, AreUnused}

pub both_ways : (a b : Bool) → (a ≡ true → b ≡ true) → (b ≡ true → a ≡ true) → a ≡ b
both_ways true b f g = sym (f refl)
both_ways false b f g = sym (false_from_ne_true b (λ e. false≢true (g e)))

some_is : (a b : ℕ) → Some a ≡ Some b → a ≡ b
some_is a b e = cc

none_some : (a : ℕ) → None ≡ Some a → ⊥
none_some a e = cc

-- ---- of one part
module _ (v : Spaces) (own : AreOwn v) (s : PortsAt) (placed : IsPlaced v s) where
  at : ℕ → ℕ → PortsAt
  at k g = record { bridge_port = k + 1; ports = (held_by v).set k g }

  -- the group whose set the part is
  its_group : (k g : ℕ) → has_space v k ≡ true → is_empty_set ((held_by v).set k g) ≡ false → is_same_set (at k g) s ≡ true →
      (k ≡ s.bridge_port - 1) × (group_in (held_by v) (s.bridge_port - 1) s.ports ≡ Some g)
  unfolding at
  its_group k g there some same =
      let parts = and_parts (k + 1 == s.bridge_port) (bytes_eq ((held_by v).set k g) s.ports) same in
      let port : k + 1 ≡ s.bridge_port = eqb-true (k + 1) s.bridge_port parts.0 in
      let place : k ≡ s.bridge_port - 1 = omega (arith, port) in
      let set : (held_by v).set k g ≡ s.ports = bytes_is ((held_by v).set k g) s.ports parts.1 in
      let mine : group_in (held_by v) k ((held_by v).set k g) ≡ Some g = own k g there (ap not some) in
      (place, sym (ap (λ (j : ℕ). group_in (held_by v) j s.ports) place) ∙ (sym (ap (group_in (held_by v) k) set) ∙ mine))

  its_set : (m k g : ℕ) → group_in (held_by v) (s.bridge_port - 1) s.ports ≡ Some m → k ≡ s.bridge_port - 1 → g ≡ m → (held_by v).set k g ≡ s.ports
  its_set m k g is place same =
      let r : IsGroupOf (held_by v) (s.bridge_port - 1) s.ports m = group_found (held_by v) (s.bridge_port - 1) s.ports m is in
      ap ((held_by v).set k) same ∙ (ap (λ (j : ℕ). (held_by v).set j m) place ∙ r.is)

  same_test : (m k g : ℕ) → group_in (held_by v) (s.bridge_port - 1) s.ports ≡ Some m → has_space v k ≡ true → is_empty_set ((held_by v).set k g) ≡ false →
      is_same_set (at k g) s ≡ (k == s.bridge_port - 1 && g == m)
  unfolding at
  same_test m k g is there some = both_ways (is_same_set (at k g) s) (k == s.bridge_port - 1 && g == m)
      (λ same. let r = its_group k g there some same in
      and_from _ _ (eq-eqb k (s.bridge_port - 1) r.0) (eq-eqb g m (some_is g m (sym r.1 ∙ is))))
      (λ both.
      let parts = and_parts (k == s.bridge_port - 1) (g == m) both in
      let place : k ≡ s.bridge_port - 1 = eqb-true k (s.bridge_port - 1) parts.0 in
      let set : (held_by v).set k g ≡ s.ports = its_set m k g is place (eqb-true g m parts.1) in
      let from1 = placed.0 in
      and_from _ _ (eq-eqb (k + 1) s.bridge_port (omega (arith, place, from1))) (ap (bytes_eq ((held_by v).set k g)) (sym set) ∙ bytes_itself ((held_by v).set k g)))

  alone : (k g : ℕ) → uses_in (s ∷ []) (at k g) ≡ cond (is_same_set (at k g) s) 1 0
  alone k g = let one = count-cons (is_same_set (at k g)) s [] in omega (arith, one)

  one_by : (m k g : ℕ) → group_in (held_by v) (s.bridge_port - 1) s.ports ≡ Some m → has_space v k ≡ true → (e : Bool) → is_empty_set ((held_by v).set k g) ≡ e →
      cond e 0 (uses_in (s ∷ []) (at k g)) ≡ cond (k == s.bridge_port - 1 && g == m) 1 0
  one_by m k g is there true e = sym (ap (λ (b : Bool). cond b 1 0) (false_from_ne_true (k == s.bridge_port - 1 && g == m) (λ both.
      let parts = and_parts (k == s.bridge_port - 1) (g == m) both in
      let set = its_set m k g is (eqb-true k (s.bridge_port - 1) parts.0) (eqb-true g m parts.1) in
      let r : IsGroupOf (held_by v) (s.bridge_port - 1) s.ports m = group_found (held_by v) (s.bridge_port - 1) s.ports m is in
      false≢true (sym r.some ∙ (sym (ap is_empty_set set) ∙ e)))))
  one_by m k g is there false e = alone k g ∙ ap (λ (b : Bool). cond b 1 0) (same_test m k g is there e)

  pub one_at : (m k g : ℕ) → group_in (held_by v) (s.bridge_port - 1) s.ports ≡ Some m → has_space v k ≡ true → parts_at (held_by v) (s ∷ []) k g ≡ cond (k == s.bridge_port - 1 && g == m) 1 0
  unfolding at
  one_at m k g is there = one_by m k g is there (is_empty_set ((held_by v).set k g)) refl

  none_by : (k g : ℕ) → group_in (held_by v) (s.bridge_port - 1) s.ports ≡ None → has_space v k ≡ true → (e : Bool) → is_empty_set ((held_by v).set k g) ≡ e →
      cond e 0 (uses_in (s ∷ []) (at k g)) ≡ 0
  none_by k g is there true e = refl
  none_by k g is there false e = alone k g ∙ ap (λ (b : Bool). cond b 1 0) (false_from_ne_true (is_same_set (at k g) s) (λ same.
      let r = its_group k g there e same in none_some g (sym is ∙ r.1)))

  pub none_at : (k g : ℕ) → group_in (held_by v) (s.bridge_port - 1) s.ports ≡ None → has_space v k ≡ true → parts_at (held_by v) (s ∷ []) k g ≡ 0
  unfolding at
  none_at k g is there = none_by k g is there (is_empty_set ((held_by v).set k g)) refl

  -- ---- the uses
  pub raised_none : (uses : List (List ℕ)) → group_in (held_by v) (s.bridge_port - 1) s.ports ≡ None → AreRaised v (s ∷ []) uses uses
  raised_none uses is k g there low = let zero' = none_at k g is there in omega (arith, zero')

  pub raised_one : (old new : List (List ℕ)) (m : ℕ) → group_in (held_by v) (s.bridge_port - 1) s.ports ≡ Some m →
      ((k g : ℕ) → 4096 ≤ g → count_at new k g ≡ cond (k == s.bridge_port - 1 && g == m) (count_at old k g + 1) (count_at old k g)) → AreRaised v (s ∷ []) old new
  raised_one old new m is counts k g there low = counts k g low ∙ (by_test (k == s.bridge_port - 1 && g == m) (count_at old k g) ∙ ap (λ (n : ℕ). count_at old k g + n) (sym (one_at m k g is there)))
    where
      by_test : (b : Bool) (x : ℕ) → cond b (x + 1) x ≡ x + cond b 1 0
      by_test true x = refl
      by_test false x = omega arith

  pub lowered_none : (uses : List (List ℕ)) → group_in (held_by v) (s.bridge_port - 1) s.ports ≡ None → AreLowered v (s ∷ []) uses uses
  lowered_none uses is k g there low = let zero' = none_at k g is there in omega (arith, zero')

  pub lowered_one : (old new : List (List ℕ)) (m : ℕ) → group_in (held_by v) (s.bridge_port - 1) s.ports ≡ Some m → 0 < count_at old (s.bridge_port - 1) m →
      ((k g : ℕ) → 4096 ≤ g → count_at new k g ≡ cond (k == s.bridge_port - 1 && g == m) (count_at old k g - 1) (count_at old k g)) → AreLowered v (s ∷ []) old new
  lowered_one old new m is some counts k g there low =
      by_test (k == s.bridge_port - 1 && g == m) (count_at old k g) (λ both.
      let parts = and_parts (k == s.bridge_port - 1) (g == m) both in
      let place : k ≡ s.bridge_port - 1 = eqb-true k (s.bridge_port - 1) parts.0 in
      let same : g ≡ m = eqb-true g m parts.1 in
      subst (λ (n : ℕ). 0 < count_at old k n) (sym same) (subst (λ (n : ℕ). 0 < count_at old n m) (sym place) some))
      ∙ (ap (λ (n : ℕ). n + cond (k == s.bridge_port - 1 && g == m) 1 0) (sym (counts k g low)) ∙ ap (λ (n : ℕ). count_at new k g + n) (sym (one_at m k g is there)))
    where
      by_test : (b : Bool) (x : ℕ) → (b ≡ true → 0 < x) → x ≡ cond b (x - 1) x + cond b 1 0
      by_test true x some = let h = some refl in omega (arith, h)
      by_test false x some = omega arith

-- ---- of one part more
pub parts_more : (h : Held) (xs ys : List PortsAt) (k g : ℕ) → parts_at h (xs ++ ys) k g ≡ parts_at h xs k g + parts_at h ys k g
parts_more h xs ys k g = by_test (is_empty_set (h.set k g))
  where
    by_test : (b : Bool) → let s : PortsAt = record { bridge_port = k + 1; ports = h.set k g } in cond b 0 (uses_in (xs ++ ys) s) ≡ cond b 0 (uses_in xs s) + cond b 0 (uses_in ys s)
    by_test true = refl
    by_test false = let s : PortsAt = record { bridge_port = k + 1; ports = h.set k g } in count-append (is_same_set s) xs ys

pub parts_first : (h : Held) (s : PortsAt) (ys : List PortsAt) (k g : ℕ) → parts_at h (s ∷ ys) k g ≡ parts_at h (s ∷ []) k g + parts_at h ys k g
parts_first h s ys k g = by_test (is_empty_set (h.set k g))
  where
    by_test : (b : Bool) → let x : PortsAt = record { bridge_port = k + 1; ports = h.set k g } in cond b 0 (uses_in (s ∷ ys) x) ≡ cond b 0 (uses_in (s ∷ []) x) + cond b 0 (uses_in ys x)
    by_test true = refl
    by_test false =
        let x : PortsAt = record { bridge_port = k + 1; ports = h.set k g } in
        let whole = count-cons (is_same_set x) s ys in
        let alone = count-cons (is_same_set x) s [] in
        omega (arith, whole, alone)

pub parts_none : (h : Held) (k g : ℕ) → parts_at h [] k g ≡ 0
parts_none h k g = by_test (is_empty_set (h.set k g))
  where
    by_test : (b : Bool) → let z : ℕ = 0 in cond b z z ≡ z
    by_test true = refl
    by_test false = refl

module _ (v : Spaces) where
  pub raised_begins : (uses : List (List ℕ)) → AreRaised v [] uses uses
  raised_begins uses k g there low = let none = parts_none (held_by v) k g in omega (arith, none)

  pub raised_more : (xs ys : List PortsAt) (a b c : List (List ℕ)) → AreRaised v xs a b → AreRaised v ys b c → AreRaised v (xs ++ ys) a c
  raised_more xs ys a b c one two k g there low =
      let p = one k g there low in
      let q = two k g there low in
      let all = parts_more (held_by v) xs ys k g in
      omega (arith, p, q, all)

  pub lowered_begins : (uses : List (List ℕ)) → AreLowered v [] uses uses
  lowered_begins uses k g there low = let none = parts_none (held_by v) k g in omega (arith, none)

  pub lowered_more : (xs ys : List PortsAt) (a b c : List (List ℕ)) → AreLowered v xs a b → AreLowered v ys b c → AreLowered v (xs ++ ys) a c
  lowered_more xs ys a b c one two k g there low =
      let p = one k g there low in
      let q = two k g there low in
      let all = parts_more (held_by v) xs ys k g in
      omega (arith, p, q, all)

  -- the next part's group has a use left
  pub still_used : AreOwn v → (xs ys whole : List PortsAt) (s : PortsAt) (a b : List (List ℕ)) (m : ℕ) → IsPlaced v s → whole ≡ xs ++ s ∷ ys → AreEnough v whole a → AreLowered v xs a b →
      group_in (held_by v) (s.bridge_port - 1) s.ports ≡ Some m → 0 < count_at b (s.bridge_port - 1) m
  still_used own xs ys whole s a b m placed is enough lowered group =
      let h = held_by v in
      let k = s.bridge_port - 1 in
      let r : IsGroupOf h k s.ports m = group_found h k s.ports m group in
      let all : parts_at h (xs ++ s ∷ ys) k m ≤ count_at a k m = subst (λ (l : List PortsAt). parts_at h l k m ≤ count_at a k m) is (enough k m placed.1 r.low) in
      let done : count_at a k m ≡ count_at b k m + parts_at h xs k m = lowered k m placed.1 r.low in
      let one : parts_at h (s ∷ []) k m ≡ cond (k == k && m == m) 1 0 = one_at v own s placed m k m group placed.1 in
      let yes' : cond (k == k && m == m) 1 0 ≡ 1 = ap (λ (b : Bool). cond b 1 0) (and_from _ _ (eq-eqb k k refl) (eq-eqb m m refl)) in
      let first = parts_more h xs (s ∷ ys) k m in
      let rest = parts_first h s ys k m in
      let is_one : parts_at h (s ∷ []) k m ≡ 1 = one ∙ yes' in
      by_numbers (parts_at h (xs ++ s ∷ ys) k m) (parts_at h xs k m) (parts_at h (s ∷ ys) k m) (parts_at h (s ∷ []) k m) (parts_at h ys k m) (count_at a k m) (count_at b k m) all done is_one first rest
    where
      by_numbers : (w x r o y p q : ℕ) → w ≤ p → p ≡ q + x → o ≡ 1 → w ≡ x + r → r ≡ o + y → 0 < q
      by_numbers w x r o y p q a b c d e = omega (arith, a, b, c, d, e)

-- ---- groups that have no use at first
few_uses : (s : PortsAt) (xs : List PortsAt) → uses_in xs s ≤ length xs
few_uses s [] = omega arith
few_uses s (x ∷ xs) =
    let rest = few_uses s xs in
    let first = count-cons (is_same_set s) x xs in
    by_test (is_same_set s x) (uses_in (x ∷ xs) s) (uses_in xs s) (length xs) rest first
  where
    by_test : (b : Bool) (w u n : ℕ) → u ≤ n → w ≡ cond b 1 0 + u → w ≤ suc n
    by_test true w u n a b = omega (arith, a, b)
    by_test false w u n a b = omega (arith, a, b)

few_parts : (h : Held) (xs : List PortsAt) (k g : ℕ) → parts_at h xs k g ≤ length xs
few_parts h xs k g = by_test (is_empty_set (h.set k g))
  where
    by_test : (b : Bool) → let s : PortsAt = record { bridge_port = k + 1; ports = h.set k g } in cond b 0 (uses_in xs s) ≤ length xs
    by_test true = omega arith
    by_test false = let s : PortsAt = record { bridge_port = k + 1; ports = h.set k g } in few_uses s xs

few_taken : (f : SetAt → PortsAt) (i : ℕ) (xs : List SetAt) → length (map f (take i xs)) ≤ i
few_taken f zero [] = omega arith
few_taken f zero (x ∷ xs) = omega arith
few_taken f (suc i) [] = omega arith
few_taken f (suc i) (x ∷ xs) = let rest = few_taken f i xs in omega (arith, rest)

pub new_few : (v : Spaces) → AreOwn v → (f : SetAt → PortsAt) (parts : List SetAt) (i n : ℕ) (ys : List PortsAt) (s : PortsAt) (a b : List (List ℕ)) (m : ℕ) → IsPlaced v s →
    map f parts ≡ map f (take i parts) ++ s ∷ ys → AreUnused v (map f parts) a → AreRaised v (map f (take i parts)) a b → i < n →
    group_in (held_by v) (s.bridge_port - 1) s.ports ≡ Some m → count_at b (s.bridge_port - 1) m < n
new_few v own f parts i n ys s a b m placed is unused raised low group =
    let h = held_by v in
    let k = s.bridge_port - 1 in
    let xs = map f (take i parts) in
    let r : IsGroupOf h k s.ports m = group_found h k s.ports m group in
    let one : parts_at h (s ∷ []) k m ≡ cond (k == k && m == m) 1 0 = one_at v own s placed m k m group placed.1 in
    let yes' : cond (k == k && m == m) 1 0 ≡ 1 = ap (λ (b : Bool). cond b 1 0) (and_from _ _ (eq-eqb k k refl) (eq-eqb m m refl)) in
    let is_one : parts_at h (s ∷ []) k m ≡ 1 = one ∙ yes' in
    let first = parts_more h xs (s ∷ ys) k m in
    let rest = parts_first h s ys k m in
    let some : 0 < parts_at h (map f parts) k m = subst (λ (l : List PortsAt). 0 < parts_at h l k m) (sym is)
    (by_numbers (parts_at h (xs ++ s ∷ ys) k m) (parts_at h xs k m) (parts_at h (s ∷ ys) k m) (parts_at h (s ∷ []) k m) (parts_at h ys k m) is_one first rest) in
    let none : count_at a k m ≡ 0 = unused k m placed.1 r.low some in
    let done : count_at b k m ≡ count_at a k m + parts_at h xs k m = raised k m placed.1 r.low in
    let few = few_parts h xs k m in
    let taken = few_taken f i parts in
    by_few (count_at a k m) (count_at b k m) (parts_at h xs k m) (length xs) none done few taken
  where
    by_numbers : (w x r o y : ℕ) → o ≡ 1 → w ≡ x + r → r ≡ o + y → 0 < w
    by_numbers w x r o y c d e = omega (arith, c, d, e)

    by_few : (p q x z : ℕ) → p ≡ 0 → q ≡ p + x → x ≤ z → z ≤ i → q < n
    by_few p q x z a b c d = omega (arith, a, b, c, d, low)

-- ---- look-ups
-- the group that a look-up finds
pub looked_up : (v : Spaces) (k : ℕ) (set : List ℕ) (space : Groups) (o r : Option ℕ) → o ≡ group_of space set → space ≡ groups_at v k → o ≡ r → group_in (held_by v) k set ≡ r
looked_up v k set space o r found is same = group_in_is v k set ∙ (ap (λ (x : Groups). group_of x set) (sym is) ∙ (sym found ∙ same))

pub parts_next : (f : SetAt → PortsAt) (xs : List SetAt) (i : ℕ) (x : SetAt) → i < length xs → x ≡ get_or xs i x → map f xs ≡ map f (take i xs) ++ f x ∷ map f (drop (i + 1) xs)
parts_next f xs i x within is =
    ap (map f) (sym (take-append-drop i xs)) ∙ (map-append f (take i xs) (drop i xs) ∙ ap (λ (l : List PortsAt). map f (take i xs) ++ l) (image_rest f xs i x within is))

pub none_else : (o : Option ℕ) → ((g : ℕ) → o ≡ Some g → ⊥) → o ≡ None
none_else None other = refl
none_else (Some g) other = absurd (other g refl)
