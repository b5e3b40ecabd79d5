-- The static entries as a list, by the map that they are kept in.
use Rattle.std.proofs.Common.{◌≡◌, ℕ, Bool, true, false, cond, not, ◌&&◌, ◌==◌, List, [], ◌∷◌, length, filter, remove, refl, sym, ap, subst, ◌∙◌}
use Rattle.std.specs.Prelude.{Option, Some, None, option_map, position, bytes_eq, is_some}
use Rattle.std.specs.Cmp.{nat_eq_equiv}
use Rattle.std.specs.List.{IsDistinct, AllByRecursion}
use Rattle.std.specs.Map.{keys_of, lookup, remove_entry}
use Rattle.std.proofs.lemmas.Bool.{eqb-true, and_parts, false≢true}
use Rattle.std.proofs.lemmas.List.{nil_from_length}
use Rattle.std.proofs.lemmas.Slice.Eq.{bytes_eq-Decides}
use Rattle.indexmap.specs.IndexMap.{insert_entry}
use Rattle.indexmap.proofs.MapLemmas.{Found-position, some_index, remove_entry-first}
use Rattle.exb_model.specs.declared.port_set.PortSet.{PortSet}
use Rattle.exb_model.specs.Configuration.{is_for, put_static}
use Rattle.exb_model.specs.Targets.{static_for}
use Rattle.exb_model.specs.declared.station.Station.{Station}
use Rattle.exb_config.specs.Rows.{static_of, statics_of}

-- what `==` of stations answers
abbrev pub same : Station → Station → Bool
same a b = a.vid == b.vid && bytes_eq a.address.0 b.address.0

same_is : (a b : Station) → same a b ≡ true → a ≡ b
same_is a b h =
    let parts = and_parts (a.vid == b.vid) (bytes_eq a.address.0 b.address.0) h in
    let vid = eqb-true a.vid b.vid parts.0 in
    let address = (bytes_eq-Decides a.address.0 b.address.0).0 parts.1 in
    λ i. record { vid = vid i; address = record { 0 = address i } }

bytes_eq-symm : (xs ys : List ℕ) → bytes_eq xs ys ≡ bytes_eq ys xs
bytes_eq-symm xs ys = by_test (bytes_eq xs ys) (bytes_eq ys xs) refl refl
  where
    by_test : (b c : Bool) → bytes_eq xs ys ≡ b → bytes_eq ys xs ≡ c → b ≡ c
    by_test true true h k = refl
    by_test false false h k = refl
    by_test true false h k = sym ((bytes_eq-Decides ys xs).1 (sym ((bytes_eq-Decides xs ys).0 h))) ∙ k
    by_test false true h k = sym h ∙ (bytes_eq-Decides xs ys).1 (sym ((bytes_eq-Decides ys xs).0 k))

-- it tells the entries that are for its VLAN and address
same_for : (d : Station) (e : Station × PortSet) → same d e.0 ≡ is_for d.vid d.address.0 (static_of e)
same_for d e =
    ap (λ b. b && bytes_eq d.address.0 e.0.address.0) (nat_eq_equiv.symm d.vid e.0.vid) ∙ ap (λ b. (e.0.vid == d.vid) && b) (bytes_eq-symm d.address.0 e.0.address.0)

pub find_of : (d : Station) (es : List (Station × PortSet)) → option_map (λ e. e.ports) (static_for (statics_of es) d.vid d.address.0) ≡ lookup (same d) es
find_of d [] = refl
find_of d (e ∷ es) = rw (← same_for d e) (at_head (find_of d es) (same d e.0))
  where
    at_head : option_map (λ e. e.ports) (static_for (statics_of es) d.vid d.address.0) ≡ lookup (same d) es → (b : Bool) →
        option_map (λ e. e.ports) (cond b (Some (static_of e)) (static_for (statics_of es) d.vid d.address.0)) ≡ cond b (Some e.1) (lookup (same d) es)
    at_head rest true = refl
    at_head rest false = rest

-- nothing is found among no entries
pub find_none : (d : Station) (es : List (Station × PortSet)) → length es ≡ 0 → option_map (λ e. e.ports) (static_for (statics_of es) d.vid d.address.0) ≡ None
find_none d es none = rw (nil_from_length es none) refl

pub put_of : (d : Station) (s : PortSet) (es : List (Station × PortSet)) → statics_of (insert_entry same es d s) ≡ put_static (static_of (d, s)) (statics_of es)
put_of d s [] = refl
put_of d s (e ∷ es) = rw (← same_for d e) (at_head (put_of d s es) (same d e.0) refl)
  where
    at_head : statics_of (insert_entry same es d s) ≡ put_static (static_of (d, s)) (statics_of es) → (b : Bool) → same d e.0 ≡ b →
        statics_of (cond b ((e.0, s) ∷ es) (e ∷ insert_entry same es d s)) ≡ cond b (static_of (d, s) ∷ statics_of es) (static_of e ∷ put_static (static_of (d, s)) (statics_of es))
    at_head rest true h = ap (λ x. static_of (x, s) ∷ statics_of es) (sym (same_is d e.0 h))
    at_head rest false h = ap (λ xs. static_of e ∷ xs) rest

-- where no key passes, nothing is taken out
none_for : (d : Station) (es : List (Station × PortSet)) → lookup (same d) es ≡ None → filter (λ e. not (is_for d.vid d.address.0 e)) (statics_of es) ≡ statics_of es
none_for d [] h = refl
none_for d (e ∷ es) h = rw (← same_for d e) (at_head (none_for d es) (same d e.0) h)
  where
    at_head : (lookup (same d) es ≡ None → filter (λ e. not (is_for d.vid d.address.0 e)) (statics_of es) ≡ statics_of es) → (b : Bool) →
        cond b (Some e.1) (lookup (same d) es) ≡ None →
        cond (not b) (static_of e ∷ filter (λ e. not (is_for d.vid d.address.0 e)) (statics_of es)) (filter (λ e. not (is_for d.vid d.address.0 e)) (statics_of es)) ≡ static_of e ∷ statics_of es
    at_head rest true none = absurd (let z : Some e.1 ≡ None = none in cc)
    at_head rest false none = ap (λ xs. static_of e ∷ xs) (rest none)

absent : {X : Type 0} → (o : Option X) → is_some o ≡ false → o ≡ None
absent None h = refl
absent (Some x) h = absurd (false≢true (sym h))

pub absent_of : (d : Station) (es : List (Station × PortSet)) → position (same d) (keys_of es) ≡ None → statics_of es ≡ filter (λ e. not (is_for d.vid d.address.0 e)) (statics_of es)
absent_of d es h = sym (none_for d es (absent (lookup (same d) es) (sym (some_index (same d) es) ∙ ap is_some h)))

none_apart : (d : Station) (es : List (Station × PortSet)) → AllByRecursion (λ y. same d y ≡ false) (keys_of es) → lookup (same d) es ≡ None
none_apart d [] h = refl
none_apart d (e ∷ es) h = rw (h.0) (none_apart d es h.1)

taken_out : (d : Station) (es : List (Station × PortSet)) → IsDistinct same (keys_of es) →
    statics_of (remove_entry (same d) es) ≡ filter (λ e. not (is_for d.vid d.address.0 e)) (statics_of es)
unfolding IsDistinct
taken_out d [] apart = refl
taken_out d (e ∷ es) apart = rw (← same_for d e) (at_head (taken_out d es apart.1) (same d e.0) refl)
  where
    at_head : statics_of (remove_entry (same d) es) ≡ filter (λ e. not (is_for d.vid d.address.0 e)) (statics_of es) → (b : Bool) → same d e.0 ≡ b →
        statics_of (cond b es (e ∷ remove_entry (same d) es)) ≡
        cond (not b) (static_of e ∷ filter (λ e. not (is_for d.vid d.address.0 e)) (statics_of es)) (filter (λ e. not (is_for d.vid d.address.0 e)) (statics_of es))
    at_head rest true h =
        let others : AllByRecursion (λ y. same d y ≡ false) (keys_of es) = subst (λ (x : Station). AllByRecursion (λ y. same x y ≡ false) (keys_of es)) (sym (same_is d e.0 h)) apart.0 in
        sym (none_for d es (none_apart d es others))
    at_head rest false h = ap (λ xs. static_of e ∷ xs) rest

pub removed_of : (d : Station) (es : List (Station × PortSet)) (i : ℕ) → IsDistinct same (keys_of es) → position (same d) (keys_of es) ≡ Some i →
    statics_of (remove es i) ≡ filter (λ e. not (is_for d.vid d.address.0 e)) (statics_of es)
removed_of d es i apart at =
    ap statics_of (sym (remove_entry-first (same d) es i (Found-position (same d) es i at).first)) ∙ taken_out d es apart
