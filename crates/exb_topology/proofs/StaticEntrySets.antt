-- The set of what static entries are for, when one more is noted.
use Rattle.std.proofs.Common.{◌≡◌, ℕ, ◌<◌, ◌==◌, ◌&&◌, ◌||◌, Bool, true, false, cond, not, List, [], ◌∷◌, ◌++◌, ◌+◌, length, get_or, take, refl, sym, ap, subst, ◌∙◌}
use Rattle.std.specs.List.{list_any}
use Rattle.std.specs.Str.{bytes_eq}
use Rattle.std.specs.Ordering.{nat_cmp, is_eq}
use Rattle.std.specs.Cmp.{both_tied, unsigned_ties}
use Rattle.std.specs.Cmp.Lexicographic.{slice_cmp, texts_ties}
use Rattle.std.specs.BTreeSet.{BTreeSet, IsEmpty, Updates, contains}
use Rattle.std.proofs.lemmas.List.{take_more}
use Rattle.std.proofs.lemmas.List.Folds.{list_any-append}
use Rattle.exb_topology_tables.specs.declared.elements.StaticElement.{StaticElement}
use Rattle.exb_topology.specs.Checks.{same_entry}
use Rattle.exb_topology.specs.StaticEntrySets.{order, Knows}

-- what is in the same place of the order is the same
same_place : (v w : ℕ) (m n : List ℕ) → is_eq (order (v, m) (w, n)) ≡ (v == w && bytes_eq m n)
same_place v w m n = sym (both_tied (v == w) (bytes_eq m n) (nat_cmp v w) (slice_cmp nat_cmp m n) (unsigned_ties v w) (texts_ties m n))

pub knows_none : (given : BTreeSet (ℕ × List ℕ)) → IsEmpty given → Knows given []
knows_none given none v m = ap (λ ks. list_any (λ k. is_eq (order (v, m) k)) ks) none

one_more : (a b : Bool) → cond b true a ≡ (a || (b || false))
one_more true true = refl
one_more true false = refl
one_more false true = refl
one_more false false = refl

pub knows_more : (old new : BTreeSet (ℕ × List ℕ)) (s : StaticElement) (n : ℕ) (before : List StaticElement) → n ≡ s.vid → Updates order old new (n, s.address.0) true → Knows old before → Knows new (before ++ s ∷ [])
knows_more old new s n before is updates known v m =
    let test : StaticElement → Bool = λ f. f.vid == v && bytes_eq f.address.0 m in
    updates.0 (v, m)
    ∙ ap (λ b. cond b true (contains order old (v, m))) (same_place n v s.address.0 m ∙ ap (λ k. k == v && bytes_eq s.address.0 m) is)
    ∙ ap (cond (test s) true) (known v m)
    ∙ one_more (list_any test before) (test s)
    ∙ sym (list_any-append test before (s ∷ []))

not_not : (b : Bool) → not (not b) ≡ b
not_not true = refl
not_not false = refl

-- what an insertion says of whether an entry was given before
pub given_before : (given : BTreeSet (ℕ × List ℕ)) (s : StaticElement) (n : ℕ) (before : List StaticElement) (added : Bool) → n ≡ s.vid → added ≡ not (contains order given (n, s.address.0)) → Knows given before → not added ≡ list_any (same_entry s) before
given_before given s n before added is said known =
    ap not said
    ∙ not_not (contains order given (n, s.address.0))
    ∙ known n s.address.0
    ∙ ap (λ v. list_any (λ f. f.vid == v && bytes_eq f.address.0 s.address.0) before) is

-- the entries up to the next index
pub knows_next : (given : BTreeSet (ℕ × List ℕ)) (xs : List StaticElement) (i : ℕ) (x : StaticElement) → i < length xs → get_or xs i x ≡ x → Knows given (take i xs ++ x ∷ []) → Knows given (take (i + 1) xs)
knows_next given xs i x lt is known = subst (Knows given) (sym (take_more xs i x lt ∙ ap (λ y. take i xs ++ y ∷ []) is)) known
