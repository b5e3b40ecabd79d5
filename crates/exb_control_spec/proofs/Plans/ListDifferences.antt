-- Two lists, and what is only in the one and only in the other.
use Rattle.std.proofs.Common.{◌≡◌, ◌+◌, Bool, true, false, cond, List, [], ◌∷◌, ◌++◌, filter, refl, ap, arith, inl, inr}
use Rattle.std.specs.Prelude.{count_by}
use Rattle.std.specs.List.{list_any, flat_map}
use Rattle.std.proofs.lemmas.Bool.{cases_Bool, or_parts}
use Rattle.exb_control_spec.proofs.Plans.ListTests.{count-cons}

-- the first list, the second, what is only in the first, and what is only in the second
pub data Differ {Y : Type 0} : List Y → List Y → List Y → List Y → Type 0 where
  none : Differ [] [] [] []
  kept : {x : Y} {xs ys gone come : List Y} → Differ xs ys gone come → Differ (x ∷ xs) (x ∷ ys) gone come
  goes : {x : Y} {xs ys gone come : List Y} → Differ xs ys gone come → Differ (x ∷ xs) ys (x ∷ gone) come
  comes : {x : Y} {xs ys gone come : List Y} → Differ xs ys gone come → Differ xs (x ∷ ys) gone (x ∷ come)

module _ {Y : Type 0} (p : Y → Bool) where
  -- how many pass changes by what goes and comes
  pub counts_change : {xs ys gone come : List Y} → Differ xs ys gone come → count_by p ys + count_by p gone ≡ count_by p xs + count_by p come
  counts_change none = refl
  counts_change (kept {x} {xs} {ys} {gone} {come} d) =
      let rest = counts_change d in
      let a = count-cons p x ys in
      let b = count-cons p x xs in
      omega (arith, rest, a, b)
  counts_change (goes {x} {xs} {ys} {gone} {come} d) =
      let rest = counts_change d in
      let a = count-cons p x xs in
      let b = count-cons p x gone in
      omega (arith, rest, a, b)
  counts_change (comes {x} {xs} {ys} {gone} {come} d) =
      let rest = counts_change d in
      let a = count-cons p x ys in
      let b = count-cons p x come in
      omega (arith, rest, a, b)

  -- where nothing of the first list passes, what passes of the second is of what comes
  pub filters_come : {xs ys gone come : List Y} → Differ xs ys gone come → list_any p xs ≡ false → filter p ys ≡ filter p come
  filters_come none e = refl
  filters_come (kept {x} {xs} {ys} {gone} {come} d) e =
      let parts = or_parts (p x) (list_any p xs) e in
      rw parts.0 (filters_come d parts.1)
  filters_come (goes {x} {xs} {ys} {gone} {come} d) e = filters_come d (or_parts (p x) (list_any p xs) e).1
  filters_come (comes {x} {xs} {ys} {gone} {come} d) e = ap (λ l. cond (p x) (x ∷ l) l) (filters_come d e)

-- ---- how lists differ
module _ {Y : Type 0} where
  pub differ-same : (xs : List Y) → Differ xs xs [] []
  differ-same [] = none
  differ-same (x ∷ xs) = kept (differ-same xs)

  pub all-go : (zs : List Y) {xs ys gone come : List Y} → Differ xs ys gone come → Differ (zs ++ xs) ys (zs ++ gone) come
  all-go [] d = d
  all-go (z ∷ zs) d = goes (all-go zs d)

  pub all-come : (zs : List Y) {xs ys gone come : List Y} → Differ xs ys gone come → Differ xs (zs ++ ys) gone (zs ++ come)
  all-come [] d = d
  all-come (z ∷ zs) d = comes (all-come zs d)

  pub all-differ : (xs ys : List Y) → Differ xs ys xs ys
  all-differ [] [] = none
  all-differ [] (y ∷ ys) = comes (all-differ [] ys)
  all-differ (x ∷ xs) ys = goes (all-differ xs ys)

  -- the same in front
  pub differ-after : (zs : List Y) {xs ys gone come : List Y} → Differ xs ys gone come → Differ (zs ++ xs) (zs ++ ys) gone come
  differ-after [] d = d
  differ-after (z ∷ zs) d = kept (differ-after zs d)

  -- one after the other
  pub differ-append : {zs ws went came xs ys gone come : List Y} → Differ zs ws went came → Differ xs ys gone come →
      Differ (zs ++ xs) (ws ++ ys) (went ++ gone) (came ++ come)
  differ-append none d = d
  differ-append (kept e) d = kept (differ-append e d)
  differ-append (goes e) d = goes (differ-append e d)
  differ-append (comes e) d = comes (differ-append e d)

-- ---- lists that elements stand for
module _ {X Y : Type 0} (f g u w : X → List Y) where
  -- those of elements that don't pass a test are the same
  pub differ-where : (touched : X → Bool) (xs : List X) → ((x : X) → touched x ≡ false → f x ≡ g x) → ((x : X) → touched x ≡ true → Differ (f x) (g x) (u x) (w x)) →
      Differ (flat_map f xs) (flat_map g xs) (flat_map u (filter touched xs)) (flat_map w (filter touched xs))
  differ-where touched [] same differ = none
  differ-where touched (x ∷ xs) same differ =
      elim (cases_Bool (touched x)) [
        | inl e ↦ rw e (differ-append (differ x e) (differ-where touched xs same differ))
        | inr e ↦ rw (e, same x e) (differ-after (g x) (differ-where touched xs same differ))
      ]
