-- A table has one number of entries.
use Rattle.std.proofs.Common.{◌≡◌, ℕ, suc, Bool, true, false, not, cond, ◌&&◌, ◌||◌, ◌==◌, List, [], ◌∷◌, length, eq-eqb, refl, sym, ap, ◌∙◌}
use Rattle.std.specs.Prelude.{bytes_eq}
use Rattle.std.specs.List.{list_any}
use Rattle.std.proofs.lemmas.Bool.{eqb-true, and_parts}
use Rattle.std.proofs.lemmas.Slice.Eq.{bytes_eq-Decides}
use Rattle.exb_learn.specs.Calls.{Table}
use Rattle.exb_learn.specs.Counts.{Key, is_key, EachOnce, HasLive}

itself : (k : Key) → is_key k.0 k.1 k ≡ true
itself k = rw (eq-eqb k.0 k.0 refl, (bytes_eq-Decides k.1 k.1).1 refl) refl

same_key : (k j : Key) → is_key k.0 k.1 j ≡ true → j ≡ k
same_key k j h =
    let parts = and_parts (k.0 == j.0) (bytes_eq k.1 j.1) h in
    let first = eqb-true k.0 j.0 parts.0 in
    let second = (bytes_eq-Decides k.1 j.1).0 parts.1 in
    sym (λ i. (first i, second i))

abbrev without : Key → List Key → List Key
without k [] = []
without k (j ∷ js) = cond (is_key k.0 k.1 j) js (j ∷ without k js)

length-without : (k : Key) (js : List Key) → list_any (is_key k.0 k.1) js ≡ true → length js ≡ suc (length (without k js))
length-without k [] there = cc
length-without k (j ∷ js) there = by_test (is_key k.0 k.1 j) there (length-without k js)
  where
    by_test : (b : Bool) → (b || list_any (is_key k.0 k.1) js) ≡ true → (list_any (is_key k.0 k.1) js ≡ true → length js ≡ suc (length (without k js))) →
        suc (length js) ≡ suc (length (cond b js (j ∷ without k js)))
    by_test true h rest = refl
    by_test false h rest = ap suc (rest h)

any-without : (k : Key) (v : ℕ) (m : List ℕ) (js : List Key) → EachOnce js → list_any (is_key v m) (without k js) ≡ (list_any (is_key v m) js && not (is_key v m k))
any-without k v m [] once = refl
any-without k v m (j ∷ js) once = by_tests (is_key k.0 k.1 j) (is_key v m j) refl refl (any-without k v m js once.1)
  where
    -- the key that is taken out stands in no other place
    alone : (b : Bool) → j ≡ k → is_key v m j ≡ b → list_any (is_key v m) js ≡ ((b || list_any (is_key v m) js) && not (is_key v m k))
    alone true is h =
        let here : is_key v m k ≡ true = ap (is_key v m) (sym is) ∙ h in
        let key : (v, m) ≡ j = sym (same_key (v, m) j h) in
        rw here (ap (λ (x : Key). list_any (is_key x.0 x.1) js) key ∙ once.0)
    alone false is h =
        let here : is_key v m k ≡ false = ap (is_key v m) (sym is) ∙ h in
        rw here (by_rest (list_any (is_key v m) js))
      where
        by_rest : (c : Bool) → c ≡ (c && true)
        by_rest true = refl
        by_rest false = refl

    by_tests : (b c : Bool) → is_key k.0 k.1 j ≡ b → is_key v m j ≡ c → list_any (is_key v m) (without k js) ≡ (list_any (is_key v m) js && not (is_key v m k)) →
        list_any (is_key v m) (cond b js (j ∷ without k js)) ≡ ((c || list_any (is_key v m) js) && not (is_key v m k))
    by_tests true c h g rest = alone c (same_key k j h) g
    by_tests false true h g rest =
        rw g (other (is_key v m k) refl)
      where
        other : (d : Bool) → is_key v m k ≡ d → true ≡ not d
        other true e = absurd (apart (ap (λ (x : Key). is_key x.0 x.1 j) (sym (same_key (v, m) k e))))
          where
            apart : is_key v m j ≡ is_key k.0 k.1 j → ⊥
            apart e = cc
        other false e = refl
    by_tests false false h g rest = rw g rest

once-without : (k : Key) (js : List Key) → EachOnce js → EachOnce (without k js)
once-without k [] once = tt
once-without k (j ∷ js) once = by_test (is_key k.0 k.1 j) (once-without k js once.1)
  where
    by_test : (b : Bool) → EachOnce (without k js) → EachOnce (cond b js (j ∷ without k js))
    by_test true rest = once.1
    by_test false rest = (any-without k j.0 j.1 js once.1 ∙ ap (λ c. c && not (is_key j.0 j.1 k)) once.0, rest)

pub one_length : (ks js : List Key) → EachOnce ks → EachOnce js → ((v : ℕ) (m : List ℕ) → list_any (is_key v m) ks ≡ list_any (is_key v m) js) → length ks ≡ length js
one_length [] [] o p same = refl
one_length [] (j ∷ js) o p same = absurd (none (list_any (is_key j.0 j.1) js) (same j.0 j.1))
  where
    none : (c : Bool) → false ≡ (is_key j.0 j.1 j || c) → ⊥
    none c e = let f : false ≡ true = e ∙ ap (λ b. b || c) (itself j) in cc
one_length (k ∷ ks) js o p same =
    let there : list_any (is_key k.0 k.1) js ≡ true = sym (same k.0 k.1) ∙ ap (λ b. b || list_any (is_key k.0 k.1) ks) (itself k) in
    ap suc (one_length ks (without k js) o.1 (once-without k js p)
    (λ v m. by_test v m (is_key v m k) refl (same v m) ∙ sym (any-without k v m js p))) ∙ sym (length-without k js there)
  where
    by_test : (v : ℕ) (m : List ℕ) (b : Bool) → is_key v m k ≡ b → (is_key v m k || list_any (is_key v m) ks) ≡ list_any (is_key v m) js →
        list_any (is_key v m) ks ≡ (list_any (is_key v m) js && not (is_key v m k))
    by_test v m true h e =
        let key : (v, m) ≡ k = sym (same_key (v, m) k h) in
        let gone : list_any (is_key v m) ks ≡ false = ap (λ (x : Key). list_any (is_key x.0 x.1) ks) key ∙ o.0 in
        rw (gone, h) (by_any (list_any (is_key v m) js))
      where
        by_any : (c : Bool) → false ≡ (c && false)
        by_any true = refl
        by_any false = refl
    by_test v m false h e = rw h (ap (λ b. b || list_any (is_key v m) ks) (sym h) ∙ e ∙ by_any (list_any (is_key v m) js))
      where
        by_any : (c : Bool) → c ≡ (c && true)
        by_any true = refl
        by_any false = refl

pub one_number : (t : Table) (a b : ℕ) → HasLive t a → HasLive t b → a ≡ b
one_number t a b h g = sym h.number ∙ one_length h.keys g.keys h.once g.once (λ v m. h.answers v m ∙ sym (g.answers v m)) ∙ g.number
