-- Look-ups, slots and what is taken out.
use Rattle.std.proofs.Common.{◌≡◌, ◌≤◌, ℕ, zero, suc, ◌+◌, Bool, true, false, cond, ◌==◌, nat_lt, eq-eqb, refl, sym, ap, subst, ◌∙◌, arith, List, [], ◌∷◌, ◌++◌, length, slice_get, Some, None}
use Rattle.std.specs.Prelude.{bytes_eq}
use Rattle.std.specs.List.{IsDistinct, AllByRecursion, position, position_or_len}
use Rattle.std.specs.Map.{keys_of, lookup}
use Rattle.std.proofs.lemmas.Bool.{true≢false, false_from_ne_true, eqb-true, and_parts}
use Rattle.std.proofs.lemmas.Slice.Eq.{bytes_eq-Decides}
use Rattle.std.proofs.lemmas.List.Recursion.{is_position_or_len}
use Rattle.indexmap.specs.IndexMap.{insert_entry, set_value_at}
use Rattle.exb_learn.specs.declared.key.StationKey.{StationKey}
use Rattle.exb_learn.specs.declared.entries.DynamicEntry.{DynamicEntry}
use Rattle.exb_learn.specs.Stations.{same, Changes, IsUntil}
use Rattle.exb_learn.proofs.SlotRings.{some_is}

pub same_is : (a b : StationKey) → same a b ≡ true → a ≡ b
same_is a b h =
    let parts = and_parts (a.vid == b.vid) (bytes_eq a.address.0 b.address.0) h in
    let vid = eqb-true a.vid b.vid parts.0 in
    let address = (bytes_eq-Decides a.address.0 b.address.0).0 parts.1 in
    λ i. record { vid = vid i; address = record { 0 = address i } }

pub same_itself : (a : StationKey) → same a a ≡ true
same_itself a = rw (eq-eqb a.vid a.vid refl, (bytes_eq-Decides a.address.0 a.address.0).1 refl) refl

pub same_not : (a b : StationKey) → same a b ≡ false → same b a ≡ false
same_not a b h = false_from_ne_true (same b a) (λ (e : same b a ≡ true). true≢false (sym (ap (λ x. same x b) (sym (same_is b a e)) ∙ same_itself b) ∙ h))

-- ---- slots
apart_at : (s : StationKey) (es : List (StationKey × DynamicEntry)) (k : ℕ) (e : StationKey × DynamicEntry) → AllByRecursion (λ y. same s y ≡ false) (keys_of es) → slice_get es k ≡ Some e → same s e.0 ≡ false
apart_at s [] k e none there = cc
apart_at s (x ∷ es) zero e none there = subst (λ (y : StationKey × DynamicEntry). same s y.0 ≡ false) (some_is x e there) none.0
apart_at s (x ∷ es) (suc k) e none there = apart_at s es k e none.1 there

-- the entry at a slot is what a look-up for its station finds
pub found_at : (es : List (StationKey × DynamicEntry)) (k : ℕ) (e : StationKey × DynamicEntry) → IsDistinct same (keys_of es) → slice_get es k ≡ Some e → lookup (same e.0) es ≡ Some e.1
unfolding IsDistinct
found_at [] k e once there = cc
found_at (x ∷ es) zero e once there =
    subst (λ (y : StationKey × DynamicEntry). lookup (same y.0) (x ∷ es) ≡ Some y.1) (some_is x e there) (ap (λ b. cond b (Some x.1) (lookup (same x.0) es)) (same_itself x.0))
found_at (x ∷ es) (suc k) e once there =
    ap (λ b. cond b (Some x.1) (lookup (same e.0) es)) (same_not x.0 e.0 (apart_at x.0 es k e once.0 there)) ∙ found_at es k e once.1 there

-- what a look-up finds has a slot
pub slot_of : (q : StationKey) (p : DynamicEntry) (es : List (StationKey × DynamicEntry)) → lookup (same q) es ≡ Some p → (i : ℕ) × (slice_get es i ≡ Some (q, p))
slot_of q p [] found = cc
slot_of q p (x ∷ es) found = by_test (same q x.0) refl found (λ f. slot_of q p es f)
  where
    by_test : (b : Bool) → same q x.0 ≡ b → cond b (Some x.1) (lookup (same q) es) ≡ Some p → (lookup (same q) es ≡ Some p → (i : ℕ) × (slice_get es i ≡ Some (q, p))) →
        (i : ℕ) × (slice_get (x ∷ es) i ≡ Some (q, p))
    by_test true h found more =
        let key : x.0 ≡ q = sym (same_is q x.0 h) in
        let value : x.1 ≡ p = some_is x.1 p found in
        (0, (λ j. Some (key j, value j)))
    by_test false h found more = let rest = more found in (suc rest.0, rest.1)

-- ---- a place is put
abbrev first_place : {X : Type 0} → (X → Bool) → List X → ℕ
first_place t [] = 0
first_place t (x ∷ xs) = cond (t x) 0 (suc (first_place t xs))

first_is_position : {X : Type 0} (t : X → Bool) (xs : List X) → position_or_len t xs ≡ first_place t xs
first_is_position t xs = sym (is_position_or_len (λ ys. first_place t ys) t refl (λ y ys. ap (λ n. cond (t y) 0 n) (one_more (first_place t ys))) xs)
  where
    one_more : (n : ℕ) → suc n ≡ 1 + n
    one_more n = omega arith

pub position_within : (t : StationKey → Bool) (es : List (StationKey × DynamicEntry)) → position_or_len t (keys_of es) ≤ length es
position_within t es = (let is = first_is_position t (keys_of es) in let low = within es in omega (arith, is, low))
  where
    within : (es : List (StationKey × DynamicEntry)) → first_place t (keys_of es) ≤ length es
    within [] = omega arith
    within (e ∷ es) = by_test (t e.0) (within es)
      where
        by_test : (b : Bool) → first_place t (keys_of es) ≤ length es → cond b 0 (suc (first_place t (keys_of es))) ≤ suc (length es)
        by_test true low = omega arith
        by_test false low = omega (arith, low)

-- the place of what is found among all
pub position_some : (t : StationKey → Bool) (ks : List StationKey) (i : ℕ) → position t ks ≡ Some i → i ≡ position_or_len t ks
position_some t ks i found = by_test (nat_lt (position_or_len t ks) (length ks)) found
  where
    by_test : (b : Bool) → cond b (Some (position_or_len t ks)) None ≡ Some i → i ≡ position_or_len t ks
    by_test true e = sym (some_is (position_or_len t ks) i e)
    by_test false e = cc

pub record IsPutOver (s : StationKey) (p v : DynamicEntry) (es : List (StationKey × DynamicEntry)) (i : ℕ) : Type 0 where
  pub there : slice_get es i ≡ Some (s, p)
  pub entries : insert_entry same es s v ≡ set_value_at es i v

pub put_over : (s : StationKey) (p v : DynamicEntry) (es : List (StationKey × DynamicEntry)) → lookup (same s) es ≡ Some p → IsPutOver s p v es (position_or_len (same s) (keys_of es))
put_over s p v es found = subst (IsPutOver s p v es) (sym (first_is_position (same s) (keys_of es))) (walk es found)
  where
    walk : (es : List (StationKey × DynamicEntry)) → lookup (same s) es ≡ Some p → IsPutOver s p v es (first_place (same s) (keys_of es))
    walk [] found = cc
    walk (x ∷ es) found = record {
      there = there_is (same s x.0) refl found (λ f. (walk es f).there);
      entries = entries_is (same s x.0) found (λ f. (walk es f).entries);
    }
      where
        there_is : (b : Bool) → same s x.0 ≡ b → cond b (Some x.1) (lookup (same s) es) ≡ Some p →
            (lookup (same s) es ≡ Some p → slice_get es (first_place (same s) (keys_of es)) ≡ Some (s, p)) →
            slice_get (x ∷ es) (cond b 0 (suc (first_place (same s) (keys_of es)))) ≡ Some (s, p)
        there_is true h found rest =
            let key : x.0 ≡ s = sym (same_is s x.0 h) in
            let value : x.1 ≡ p = some_is x.1 p found in
            λ j. Some (key j, value j)
        there_is false h found rest = rest found

        entries_is : (b : Bool) → cond b (Some x.1) (lookup (same s) es) ≡ Some p →
            (lookup (same s) es ≡ Some p → insert_entry same es s v ≡ set_value_at es (first_place (same s) (keys_of es)) v) →
            cond b ((x.0, v) ∷ es) (x ∷ insert_entry same es s v) ≡ set_value_at (x ∷ es) (cond b 0 (suc (first_place (same s) (keys_of es)))) v
        entries_is true found rest = refl
        entries_is false found rest = ap (λ (ys : List (StationKey × DynamicEntry)). x ∷ ys) (rest found)

pub record IsPutBehind (s : StationKey) (v : DynamicEntry) (es : List (StationKey × DynamicEntry)) : Type 0 where
  pub last : position_or_len (same s) (keys_of es) ≡ length es
  pub entries : insert_entry same es s v ≡ es ++ (s, v) ∷ []

pub put_behind : (s : StationKey) (v : DynamicEntry) (es : List (StationKey × DynamicEntry)) → lookup (same s) es ≡ None → IsPutBehind s v es
put_behind s v es none = record { last = first_is_position (same s) (keys_of es) ∙ last es none; entries = behind es none }
  where
    last : (es : List (StationKey × DynamicEntry)) → lookup (same s) es ≡ None → first_place (same s) (keys_of es) ≡ length es
    last [] none = refl
    last (x ∷ es) none = by_test (same s x.0) none (λ n. last es n)
      where
        by_test : (b : Bool) → cond b (Some x.1) (lookup (same s) es) ≡ None → (lookup (same s) es ≡ None → first_place (same s) (keys_of es) ≡ length es) →
            cond b 0 (suc (first_place (same s) (keys_of es))) ≡ suc (length es)
        by_test true none rest = cc
        by_test false none rest = ap suc (rest none)

    behind : (es : List (StationKey × DynamicEntry)) → lookup (same s) es ≡ None → insert_entry same es s v ≡ es ++ (s, v) ∷ []
    behind [] none = refl
    behind (x ∷ es) none = by_test (same s x.0) none (λ n. behind es n)
      where
        by_test : (b : Bool) → cond b (Some x.1) (lookup (same s) es) ≡ None → (lookup (same s) es ≡ None → insert_entry same es s v ≡ es ++ (s, v) ∷ []) →
            cond b ((x.0, v) ∷ es) (x ∷ insert_entry same es s v) ≡ x ∷ (es ++ (s, v) ∷ [])
        by_test true none rest = cc
        by_test false none rest = ap (λ (ys : List (StationKey × DynamicEntry)). x ∷ ys) (rest none)

-- ---- until when
pub until_put : (x : ℕ) (s : StationKey) (p : DynamicEntry) (old new : List (StationKey × DynamicEntry)) → IsUntil x old → p.at ≤ x → Changes old new s (Some p) → IsUntil x new
until_put x s p old new until past changes q r is = by_test (same s q) (sym (changes q) ∙ is)
  where
    by_test : (b : Bool) → cond b (Some p) (lookup (same q) old) ≡ Some r → r.at ≤ x
    by_test true e = let f : p ≡ r = some_is p r e in subst (λ (y : DynamicEntry). y.at ≤ x) f past
    by_test false e = until q r e
