-- Files that are made in the turn of their names: one manifest after another, and files that are opened to be read before and after.
use Rattle.std.proofs.Common.{◌≡◌, ℕ, zero, suc, ◌+◌, ◌-◌, ◌<◌, ◌≤◌, ◌++◌, nat_lt, Bool, true, false, cond, List, [], ◌∷◌, length, Some, refl, ap, sym, ◌∙◌, arith, inl, inr}
use Rattle.std.specs.Prelude.{option_map, slice_get}
use Rattle.std.specs.List.{range_with_len}
use Rattle.std.proofs.lemmas.Bool.{cases_Bool, cases_lt, false≢true, le-ltb, lt-ltb}
use Rattle.std.proofs.lemmas.List.{length-append, length-map}
use Rattle.std.proofs.lemmas.Option.{slice_get-map}
use Rattle.exb_model.specs.Ports.{below}
use Rattle.exb_shelf.specs.Shelf.{Id, Opens, writing}
use Rattle.exb_outputs.specs.CreationOrder.{MadeInOrder}
use Rattle.exb_outputs.specs.Manifests.{Listed, output_count, output_name}
use Rattle.exb_net.specs.OpenOrder.{MadeInTurn, names_of}

-- ---- ids
given_as : (i j : Id) → i ≡ j → j.given ≡ true → i.given ≡ true
given_as i j same is = ap (λ (x : Id). x.given) same ∙ is

written : (i : Id) (name : List ℕ) → i ≡ writing name → i.given ≡ true
written i name is = ap (λ (x : Id). x.given) is

still_free : (a b : ℕ → Id) (id : ℕ) → ((j : ℕ) → (a j).given ≡ true → b j ≡ a j) → (b id).given ≡ false → (a id).given ≡ false
still_free a b id kept free = elim (cases_Bool (a id).given) [
  | inl was ↦ absurd (false≢true (sym free ∙ given_as (b id) (a id) (kept id was) was))
  | inr not ↦ not
]

-- ---- names by their places
get_range : (n a j : ℕ) → j < n → slice_get (range_with_len a n) j ≡ Some (a + j)
get_range zero a j low = absurd (omega (arith, low))
get_range (suc n) a zero low = ap (λ (k : ℕ). Some k) (omega arith)
get_range (suc n) a (suc j) low = get_range n (a + 1) j (omega (arith, low)) ∙ ap (λ (k : ℕ). Some k) (omega arith)

long_range : (n a : ℕ) → length (range_with_len a n) ≡ n
long_range zero a = refl
long_range (suc n) a = ap suc (long_range n (a + 1))

get_below : (n j : ℕ) → j < n → slice_get (below n) j ≡ Some j
unfolding below
get_below n j low = get_range n 0 j low ∙ ap (λ (k : ℕ). Some k) (omega arith)

long_below : (n : ℕ) → length (below n) ≡ n
unfolding below
long_below n = long_range n 0

some_same : {A : Type 0} {x y : A} → Some x ≡ Some y → x ≡ y
some_same e = cc

-- those of a manifest
name_at : (manifest : Listed) (j : ℕ) (name : List ℕ) → j < output_count manifest → slice_get (names_of manifest) j ≡ Some name → name ≡ output_name manifest j
name_at manifest j name low is =
    some_same (sym is ∙ (slice_get-map (output_name manifest) (below (output_count manifest)) j ∙ ap (option_map (output_name manifest)) (get_below (output_count manifest) j low)))

pub long_names : (manifest : Listed) → length (names_of manifest) ≡ output_count manifest
long_names manifest = length-map (below (output_count manifest)) (output_name manifest) ∙ long_below (output_count manifest)

get_first : {A : Type 0} (xs ys : List A) (j : ℕ) → j < length xs → slice_get (xs ++ ys) j ≡ slice_get xs j
get_first [] ys j low = absurd (omega (arith, low))
get_first (x ∷ xs) ys zero low = refl
get_first (x ∷ xs) ys (suc j) low = get_first xs ys j (omega (arith, low))

get_behind : {A : Type 0} (xs ys : List A) (k : ℕ) → slice_get (xs ++ ys) (length xs + k) ≡ slice_get ys k
get_behind [] ys k = ap (slice_get ys) (omega arith)
get_behind (x ∷ xs) ys k = let same : suc (length xs) + k ≡ suc (length xs + k) = omega arith in ap (slice_get (x ∷ (xs ++ ys))) same ∙ get_behind xs ys k

-- ---- none, and those of one manifest
pub turn_none : (names : List (List ℕ)) (a : ℕ → Id) → MadeInTurn names 0 a a
turn_none names a = record {
  at = λ j. j;
  within = omega arith;
  fresh = λ j low. absurd (omega (arith, low));
  named = λ j name low is. absurd (omega (arith, low));
  rises = λ i j less low. absurd (omega (arith, low));
  only = λ id free given reads. absurd (false≢true (sym free ∙ given));
}

pub turn_of_manifest : (manifest : Listed) (k : ℕ) (a b : ℕ → Id) → MadeInOrder manifest k a b → MadeInTurn (names_of manifest) k a b
turn_of_manifest manifest k a b m = record {
  at = m.at;
  within = (let all = long_names manifest in let few = m.within in omega (arith, all, few));
  fresh = m.fresh;
  named = λ j name low is. m.named j low ∙ ap writing (sym (name_at manifest j name (let few = m.within in omega (arith, low, few)) is));
  rises = m.rises;
  only = m.only;
}

-- the names of more are behind them
pub turn_front : (names more : List (List ℕ)) (k : ℕ) (a b : ℕ → Id) → MadeInTurn names k a b → MadeInTurn (names ++ more) k a b
turn_front names more k a b m = record {
  at = m.at;
  within = (let all = length-append names more in let few = m.within in omega (arith, all, few));
  fresh = m.fresh;
  named = λ j name low is. m.named j name low (sym (get_first names more j (let few = m.within in omega (arith, low, few))) ∙ is);
  rises = m.rises;
  only = m.only;
}

-- ---- one after another
module _ (P Q : Id → Type 0) (names more : List (List ℕ)) (k : ℕ) (a b c : ℕ → Id) (m : MadeInTurn names (length names) a b) (n : MadeInTurn more k b c) (first : Opens P a b) (rest : Opens Q b c) where
  at_both : ℕ → ℕ
  at_both j = cond (nat_lt j (length names)) (m.at j) (n.at (j - length names))

  at_first : (j : ℕ) → j < length names → at_both j ≡ m.at j
  unfolding at_both
  at_first j low = ap (λ (z : Bool). cond z (m.at j) (n.at (j - length names))) (lt-ltb j (length names) low)

  at_rest : (j : ℕ) → length names ≤ j → at_both j ≡ n.at (j - length names)
  unfolding at_both
  at_rest j high = ap (λ (z : Bool). cond z (m.at j) (n.at (j - length names))) (le-ltb j (length names) high)

  there : (j : ℕ) → j < length names → (name : List ℕ) × (slice_get names j ≡ Some name)
  there j low = at names j low
    where
      at : (xs : List (List ℕ)) (i : ℕ) → i < length xs → (name : List ℕ) × (slice_get xs i ≡ Some name)
      at [] i few = absurd (omega (arith, few))
      at (x ∷ xs) zero few = (x, refl)
      at (x ∷ xs) (suc i) few = at xs i (omega (arith, few))

  old_given : (j : ℕ) → j < length names → (b (m.at j)).given ≡ true
  old_given j low = let name = there j low in written (b (m.at j)) name.0 (m.named j name.0 low name.1)

  there_more : (j : ℕ) → j < k → (name : List ℕ) × (slice_get more j ≡ Some name)
  there_more j low = at more j (let few = n.within in omega (arith, low, few))
    where
      at : (xs : List (List ℕ)) (i : ℕ) → i < length xs → (name : List ℕ) × (slice_get xs i ≡ Some name)
      at [] i few = absurd (omega (arith, few))
      at (x ∷ xs) zero few = (x, refl)
      at (x ∷ xs) (suc i) few = at xs i (omega (arith, few))

  new_given : (j : ℕ) → j < k → (c (n.at j)).given ≡ true
  new_given j low = let name = there_more j low in written (c (n.at j)) name.0 (n.named j name.0 low name.1)

  pub turn_then : MadeInTurn (names ++ more) (length names + k) a c
  turn_then = record {
    at = at_both;
    within = (let all = length-append names more in let few = n.within in omega (arith, all, few));
    fresh = λ j low. elim (cases_lt j (length names)) [
      | inl old ↦ ap (λ (i : ℕ). (a i).given) (at_first j old) ∙ m.fresh j old
      | inr new ↦ ap (λ (i : ℕ). (a i).given) (at_rest j new) ∙ still_free a b (n.at (j - length names)) first.kept (n.fresh (j - length names) (omega (arith, low, new)))
    ];
    named = λ j name low is. elim (cases_lt j (length names)) [
      | inl old ↦ ap c (at_first j old) ∙ (rest.kept (m.at j) (old_given j old) ∙ m.named j name old (sym (get_first names more j old) ∙ is))
      | inr new ↦
          let place : j ≡ length names + (j - length names) = omega (arith, new) in
          ap c (at_rest j new) ∙ n.named (j - length names) name (omega (arith, low, new)) (sym (get_behind names more (j - length names)) ∙ (ap (slice_get (names ++ more)) (sym place) ∙ is))
    ];
    rises = λ i j less low. elim (cases_lt j (length names)) [
      | inl old ↦
          let one = at_first i (omega (arith, less, old)) in
          let two = at_first j old in
          let up = m.rises i j less old in
          omega (arith, one, two, up)
      | inr new ↦ elim (cases_lt i (length names)) [
        | inl before ↦
            let one = at_first i before in
            let two = at_rest j new in
            let up = rest.rises (m.at i) (n.at (j - length names)) (old_given i before) (n.fresh (j - length names) (omega (arith, low, new))) (new_given (j - length names) (omega (arith, low, new))) in
            omega (arith, one, two, up)
        | inr behind ↦
            let one = at_rest i behind in
            let two = at_rest j new in
            let up = n.rises (i - length names) (j - length names) (omega (arith, less, behind)) (omega (arith, low, new)) in
            omega (arith, one, two, up)
      ]
    ];
    only = λ id free given reads. elim (cases_Bool (b id).given) [
      | inl was ↦
          let same : c id ≡ b id = rest.kept id was in
          let found = m.only id free was (ap (λ (x : Id). x.reads) (sym same) ∙ reads) in
          (found.0, (let low = found.1 in omega (arith, low)), found.2 ∙ sym (at_first found.0 found.1))
      | inr not ↦
          let found = n.only id not given reads in
          let place : length names + found.0 - length names ≡ found.0 = omega arith in
          (length names + found.0, (let low = found.1 in omega (arith, low)), found.2 ∙ sym (at_rest (length names + found.0) (omega arith) ∙ ap n.at place))
    ];
  }

-- ---- files that are opened to be read
pub turn_then_read : (P : Id → Type 0) (names : List (List ℕ)) (k : ℕ) (a b c : ℕ → Id) → ((i : Id) → P i → i.reads ≡ true) → MadeInTurn names k a b → Opens P b c → MadeInTurn names k a c
turn_then_read P names k a b c reading m opens = record {
  at = m.at;
  within = m.within;
  fresh = m.fresh;
  named = λ j name low is. opens.kept (m.at j) (written (b (m.at j)) name (m.named j name low is)) ∙ m.named j name low is;
  rises = m.rises;
  only = λ id free given reads. elim (cases_Bool (b id).given) [
    | inl was ↦ let same : c id ≡ b id = opens.kept id was in m.only id free was (ap (λ (x : Id). x.reads) (sym same) ∙ reads)
    | inr not ↦ absurd (false≢true (sym reads ∙ reading (c id) (opens.fresh id not given)))
  ];
}

pub read_then_turn : (P : Id → Type 0) (names : List (List ℕ)) (k : ℕ) (a b c : ℕ → Id) → ((i : Id) → P i → i.reads ≡ true) → Opens P a b → ((j : ℕ) → (b j).given ≡ true → c j ≡ b j) → MadeInTurn names k b c → MadeInTurn names k a c
read_then_turn P names k a b c reading opens kept m = record {
  at = m.at;
  within = m.within;
  fresh = λ j low. still_free a b (m.at j) opens.kept (m.fresh j low);
  named = m.named;
  rises = m.rises;
  only = λ id free given reads. elim (cases_Bool (b id).given) [
    | inl was ↦ absurd (false≢true (sym (ap (λ (x : Id). x.reads) (sym (kept id was)) ∙ reads) ∙ reading (b id) (opens.fresh id free was)))
    | inr not ↦ m.only id not given reads
  ];
}

pub turn_same : (names : List (List ℕ)) (k : ℕ) (a b c : ℕ → Id) → MadeInTurn names k a b → ((j : ℕ) → c j ≡ b j) → MadeInTurn names k a c
turn_same names k a b c m same = record {
  at = m.at;
  within = m.within;
  fresh = m.fresh;
  named = λ j name low is. same (m.at j) ∙ m.named j name low is;
  rises = m.rises;
  only = λ id free given reads. m.only id free (ap (λ (x : Id). x.given) (sym (same id)) ∙ given) (ap (λ (x : Id). x.reads) (sym (same id)) ∙ reads);
}
