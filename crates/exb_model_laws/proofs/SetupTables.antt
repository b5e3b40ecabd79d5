-- The tables of a setup: what its list of extenders says stands in them, and nothing else does.
use Rattle.std.proofs.Common.{◌≡◌, ◌≢◌, ◌⊎◌, inl, inr, ℕ, zero, suc, ◌<◌, ◌≤◌, List, [], ◌∷◌, length, slice_index, get_or, AllPairs, refl, sym, ap, subst, ◌∙◌, arith}
use Rattle.std.specs.Prelude.{replicate, set, slice_index_or, All, Contains}
use Rattle.std.specs.List.{AllByRecursion}
use Rattle.std.proofs.lemmas.Bool.{cases_eq, cases_lt}
use Rattle.std.proofs.lemmas.List.{get_or-set_same, get_or-set_other, get_or-replicate, get_or_past, length-set}
use Rattle.exb_model.specs.declared.setup.Place.{Place}
use Rattle.exb_model.specs.declared.setup.Place.TheVariants as place
use Rattle.exb_model.specs.declared.setup.ExtenderSetup.{ExtenderSetup}
use Rattle.exb_model.specs.declared.setup.Setup.{Setup}
use Rattle.exb_model.specs.Tree.{on}
use Rattle.exb_model.specs.Setup.{port_at, lay, shape_of, IsPlace, InRange}

-- ---- lists
-- the element is one of them
abbrev pub IsAmong : {X : Type 0} → X → List X → Type 0
IsAmong x [] = ⊥
IsAmong x (y ∷ ys) = (y ≡ x) ⊎ IsAmong x ys

pub among_at : {X : Type 0} (xs : List X) (k : ℕ) (d : X) → k < length xs → IsAmong (slice_index_or xs k d) xs
among_at [] k d h = absurd (omega arith)
among_at (x ∷ xs) zero d h = inl refl
among_at (x ∷ xs) (suc k) d h = inr (among_at xs k d (omega arith))

pub among_from : {X : Type 0} (xs : List X) (x : X) → Contains xs x → IsAmong x xs
among_from xs x c = subst (λ y. IsAmong y xs) c.2 (among_at xs c.0 x c.1)

pub contains_from : {X : Type 0} (xs : List X) (x : X) → IsAmong x xs → Contains xs x
contains_from [] x h = absurd h
contains_from (y ∷ ys) x (inl same) = (0, omega arith, same)
contains_from (y ∷ ys) x (inr rest) = let c = contains_from ys x rest in (suc c.0, omega (arith, c.1), c.2)

pub all_among : {X : Type 0} (P : X → Type 0) (xs : List X) → ((x : X) → IsAmong x xs → P x) → All P xs
all_among P xs f k d h = f (slice_index_or xs k d) (among_at xs k d h)

pub of_all : {X : Type 0} (P : X → Type 0) (xs : List X) (x : X) → All P xs → IsAmong x xs → P x
of_all P xs x all h = let c = contains_from xs x h in subst P c.2 (all c.0 x c.1)

-- of two elements, one comes first, or they are the same one
module _ {X : Type 0} (R : X → X → Type 0) where
  pub pairs_tail : (x : X) (xs : List X) → AllPairs R (x ∷ xs) → AllPairs R xs
  pairs_tail x xs all a b d h k = all (suc a) (suc b) d (omega (arith, h)) (omega (arith, k))

  pub pairs_head : (x : X) (xs : List X) → AllPairs R (x ∷ xs) → (y : X) → IsAmong y xs → R x y
  pairs_head x xs all y h = of_all (R x) xs y (λ j d k. all 0 (suc j) d (omega arith) (omega (arith, k))) h

  pub one_of : (xs : List X) (x y : X) → AllPairs R xs → IsAmong x xs → IsAmong y xs → (x ≡ y) ⊎ (R x y ⊎ R y x)
  one_of [] x y all h k = absurd h
  one_of (z ∷ zs) x y all (inl a) (inl b) = inl (sym a ∙ b)
  one_of (z ∷ zs) x y all (inl a) (inr b) = inr (inl (subst (λ w. R w y) a (pairs_head z zs all y b)))
  one_of (z ∷ zs) x y all (inr a) (inl b) = inr (inr (subst (λ w. R w x) b (pairs_head z zs all x a)))
  one_of (z ∷ zs) x y all (inr a) (inr b) = one_of zs x y (pairs_tail z zs all) a b

-- ---- a table that is laid
-- none has that number
abbrev pub NoneHas : ℕ → List ExtenderSetup → Type 0
NoneHas n es = AllByRecursion (λ e. e.number ≢ n) es

abbrev pub Has : ℕ → List ExtenderSetup → Type 0
Has n es = (e : ExtenderSetup) × IsAmong e es × (e.number ≡ n)

pub found : (n : ℕ) (es : List ExtenderSetup) → Has n es ⊎ NoneHas n es
found n [] = inr tt
found n (e ∷ es) = by_number (cases_eq e.number n) (found n es)
  where
    by_number : (e.number ≡ n) ⊎ (e.number ≢ n) → Has n es ⊎ NoneHas n es → Has n (e ∷ es) ⊎ NoneHas n (e ∷ es)
    by_number (inl same) rest = inl (e, inl refl, same)
    by_number (inr other) (inl there) = inl (there.0, inr there.1, there.2)
    by_number (inr other) (inr none) = inr (other, none)

module _ (value : ExtenderSetup → ℕ) where
  pub length_lay : (table : List ℕ) (es : List ExtenderSetup) → length (lay value table es) ≡ length table
  length_lay table [] = refl
  length_lay table (e ∷ es) = length_lay (set table e.number (value e)) es ∙ length-set table e.number (value e)

  pub lay_other : (table : List ℕ) (es : List ExtenderSetup) (n : ℕ) → NoneHas n es → get_or (lay value table es) n 0 ≡ get_or table n 0
  lay_other table [] n none = refl
  lay_other table (e ∷ es) n none =
      lay_other (set table e.number (value e)) es n none.1 ∙ get_or-set_other table e.number n (value e) 0 (λ same. none.0 (sym same))

  none_later : (e : ExtenderSetup) (es : List ExtenderSetup) → ((f : ExtenderSetup) → IsAmong f es → e.number ≢ f.number) → NoneHas e.number es
  none_later e [] apart = tt
  none_later e (f ∷ es) apart = ((λ same. apart f (inl refl) (sym same)), none_later e es (λ g h. apart g (inr h)))

  pub lay_at : (table : List ℕ) (es : List ExtenderSetup) (e : ExtenderSetup) → AllPairs (λ a b. a.number ≢ b.number) es → IsAmong e es → e.number < length table →
      get_or (lay value table es) e.number 0 ≡ value e
  lay_at table [] e apart h low = absurd h
  lay_at table (f ∷ es) e apart (inl same) low =
      lay_other (set table f.number (value f)) es e.number (subst (λ (x : ExtenderSetup). NoneHas x.number es) same (none_later f es (pairs_head (λ (a b : ExtenderSetup). a.number ≢ b.number) f es apart)))
      ∙ ap (λ (x : ExtenderSetup). get_or (set table x.number (value x)) e.number 0) same
      ∙ get_or-set_same table e.number (value e) 0 low
  lay_at table (f ∷ es) e apart (inr there) low =
      lay_at (set table f.number (value f)) es e (pairs_tail (λ (a b : ExtenderSetup). a.number ≢ b.number) f es apart) there (let k = length-set table f.number (value f) in omega (arith, k))

-- ---- the tables of a setup
abbrev pub AreApart : Setup → Type 0
AreApart s = AllPairs (λ a b. a.number ≢ b.number) s.extenders

pub ports_sized : (s : Setup) → length (shape_of s).ports ≡ 65
unfolding shape_of
ports_sized s = length_lay (λ e. e.ports) (set (replicate 65 0) 0 s.ports) s.extenders ∙ length-set (replicate 65 0) 0 s.ports

on_sized : (s : Setup) → length (shape_of s).on ≡ 65
unfolding shape_of
on_sized s = length_lay (λ e. port_at e.on) (replicate 65 0) s.extenders

-- an extender of the list has its ports and its place in them
pub ports_are : (s : Setup) (e : ExtenderSetup) → AreApart s → IsAmong e s.extenders → e.number ≤ 64 → slice_index (shape_of s).ports e.number ≡ e.ports
unfolding shape_of
ports_are s e apart there low = lay_at (λ x. x.ports) (set (replicate 65 0) 0 s.ports) s.extenders e apart there (let k = length-set (replicate 65 0) 0 s.ports in omega (arith, k))

pub on_is : (s : Setup) (e : ExtenderSetup) → AreApart s → IsAmong e s.extenders → e.number ≤ 64 → on (shape_of s) e.number ≡ port_at e.on
unfolding shape_of
on_is s e apart there low = lay_at (λ x. port_at x.on) (replicate 65 0) s.extenders e apart there (omega arith)

-- the bridge has its ports
pub bridge_ports_are : (s : Setup) → All InRange s.extenders → slice_index (shape_of s).ports 0 ≡ s.ports
unfolding shape_of
bridge_ports_are s ranges =
    lay_other (λ x. x.ports) (set (replicate 65 0) 0 s.ports) s.extenders 0 (none_zero s.extenders (λ e h. of_all InRange s.extenders e ranges h))
    ∙ get_or-set_same (replicate 65 0) 0 s.ports 0 (omega arith)
  where
    none_zero : (es : List ExtenderSetup) → ((e : ExtenderSetup) → IsAmong e es → InRange e) → NoneHas 0 es
    none_zero [] all = tt
    none_zero (e ∷ es) all = ((λ same. let k : 1 ≤ e.number = (all e (inl refl)).numbered in omega (arith, k, same)), none_zero es (λ f h. all f (inr h)))

-- a device that has ports is an extender of the list
pub extender_there : (s : Setup) (n : ℕ) → 0 < n → 0 < slice_index (shape_of s).ports n → Has n s.extenders
unfolding shape_of
extender_there s n some there = by_found (found n s.extenders)
  where
    none : (b : (n < 65) ⊎ (65 ≤ n)) → get_or (set (replicate 65 0) 0 s.ports) n 0 ≡ 0
    none (inl low) = get_or-set_other (replicate 65 0) 0 n s.ports 0 (λ e. omega (arith, e)) ∙ get_or-replicate 65 n 0 0 low
    none (inr high) = get_or_past (set (replicate 65 0) 0 s.ports) n 0 (let k = length-set (replicate 65 0) 0 s.ports in omega (arith, k))

    by_found : Has n s.extenders ⊎ NoneHas n s.extenders → Has n s.extenders
    by_found (inl is) = is
    by_found (inr isnt) = absurd (let z = lay_other (λ x. x.ports) (set (replicate 65 0) 0 s.ports) s.extenders n isnt ∙ none (cases_lt n 65) in omega (arith, z, there))

-- a place is a port, and a port is one place
pub one_place : (a b : Place) → IsPlace a → IsPlace b → port_at a ≡ port_at b → a ≡ b
one_place (place.Bridge j) (place.Bridge k) h i e = ap (λ (x : ℕ). place.Bridge x) (omega (arith, h.0, i.0, e))
one_place (place.Bridge j) (place.Extender n k) h i e = absurd (omega (arith, h.1, i.0, e))
one_place (place.Extender n k) (place.Bridge j) h i e = absurd (omega (arith, h.0, i.1, e))
one_place (place.Extender n j) (place.Extender m k) h i e =
    let device : n ≡ m = omega (arith, h.2, h.3, i.2, i.3, e) in
    let port : j ≡ k = omega (arith, h.2, h.3, i.2, i.3, e) in
    cc
