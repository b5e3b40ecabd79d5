-- The numbers below n that pass a test, in order, and the place of each among them.
use Rattle.std.proofs.Common.{◌≡◌, ◌<◌, ◌≤◌, ◌+◌, ◌++◌, ℕ, zero, suc, Bool, true, false, ◌==◌, ◌&&◌, if◌then◌else◌, List, [], ◌∷◌, filter, length, get_or, refl, ap, sym, ◌∙◌, arith, subst, inl, inr, length-append, add-one, eq-eqb, slice_index}
use Rattle.std.proofs.lemmas.Bool.{cases_lt, lt-ltb}
use Rattle.std.proofs.lemmas.List.{get_or_append_left}
use Rattle.std.proofs.Math.Seq.{get_or-append_seam}
use Rattle.exb_model.specs.Ports.{below}
use Rattle.exb_model.specs.Tree.{Shape, HangsOn, IsTree, is_port, is_extender, is_cascade, on, is_external, external_ports}
use Rattle.exb_model.proofs.TreeTrunks.{extender-low}
use Rattle.exb_model.proofs.TreeWays.{any_below-from}
use Rattle.exb_model.proofs.Validity.{extender_from, no_port_past}
use Rattle.exb_inputs.proofs.FilteredNumbers.{last, passed_here, passed_more, passed_none, passed_not}
use Rattle.exb_outputs.specs.Manifests.{Listed, port_count, port_at, place_in, ArePlaced}

module _ (P : ℕ → Bool) where
  none_passed : length (filter P (below 0)) ≡ 0
  none_passed = ap (λ (xs : List ℕ). length xs) (passed_none P)

  -- q stands at place j: it passes, and as many pass before it
  pub record IsAt (n j q : ℕ) : Type 0 where
    pub low : q < n
    pub passes : P q ≡ true
    pub back : length (filter P (below q)) ≡ j

  later : (n j q : ℕ) → IsAt n j q → IsAt (suc n) j q
  later n j q is = record { low = let l = is.low in omega arith; passes = is.passes; back = is.back }

  at_more : (n j d : ℕ) → (j < length (filter P (below n)) → IsAt n j (get_or (filter P (below n)) j d)) →
      (b : Bool) → P n ≡ b → j < length (filter P (below (suc n))) → IsAt (suc n) j (get_or (filter P (below (suc n))) j d)
  at_more n j d before true is low =
      let all = passed_here P n is in
      subst (λ (xs : List ℕ). IsAt (suc n) j (get_or xs j d)) (sym all)
      (elim (cases_lt j (length (filter P (below n)))) [
        | inl inside ↦
            subst (IsAt (suc n) j) (sym (get_or_append_left (filter P (below n)) (n ∷ []) d j inside)) (later n j _ (before inside))
        | inr above ↦
            let size : length (filter P (below (suc n))) ≡ length (filter P (below n)) + 1 = ap (λ (xs : List ℕ). length xs) all ∙ length-append (filter P (below n)) (n ∷ []) in
            let end : j ≡ length (filter P (below n)) = omega arith in
            let own : IsAt (suc n) j n = record { low = omega arith; passes = is; back = sym end } in
            subst (IsAt (suc n) j) (sym (ap (λ (k : ℕ). get_or (filter P (below n) ++ n ∷ []) k d) end ∙ get_or-append_seam (filter P (below n)) n [] d)) own
      ])
  at_more n j d before false isnt low =
      let all = passed_not P n isnt in
      let inside : j < length (filter P (below n)) = subst (λ (xs : List ℕ). j < length xs) all low in
      subst (λ (xs : List ℕ). IsAt (suc n) j (get_or xs j d)) (sym all) (later n j _ (before inside))

  pub at_place : (n j d : ℕ) → j < length (filter P (below n)) → IsAt n j (get_or (filter P (below n)) j d)
  at_place zero j d low = absurd (let none = none_passed in omega arith)
  at_place (suc n) j d low = at_more n j d (at_place n j d) (P n) refl low

  -- the place of q has q
  pub record IsPlaced (n q d : ℕ) : Type 0 where
    pub inside : length (filter P (below q)) < length (filter P (below n))
    pub here : get_or (filter P (below n)) (length (filter P (below q))) d ≡ q

  pub placed : (n q d : ℕ) → q < n → P q ≡ true → IsPlaced n q d
  placed zero q d low is = absurd (omega arith)
  placed (suc n) q d low is = elim (cases_lt q n) [
    | inl before ↦
        let was = placed n q d before is in
        let all = passed_more P n in
        let size : length (filter P (below (suc n))) ≡ length (filter P (below n)) + length (last P n) = ap (λ (xs : List ℕ). length xs) all ∙ length-append (filter P (below n)) (last P n) in
        record {
          inside = let low' = was.inside in omega arith;
          here = ap (λ (xs : List ℕ). get_or xs (length (filter P (below q))) d) all ∙ get_or_append_left (filter P (below n)) (last P n) d (length (filter P (below q))) was.inside ∙ was.here;
        }
    | inr not_before ↦
        let same : q ≡ n = omega arith in
        let all = passed_here P n (ap P (sym same) ∙ is) in
        let size : length (filter P (below (suc n))) ≡ length (filter P (below n)) + 1 = ap (λ (xs : List ℕ). length xs) all ∙ length-append (filter P (below n)) (n ∷ []) in
        let place : length (filter P (below q)) ≡ length (filter P (below n)) = ap (λ (k : ℕ). length (filter P (below k))) same in
        record {
          inside = omega arith;
          here =
              ap (λ (xs : List ℕ). get_or xs (length (filter P (below q))) d) all
              ∙ ap (λ (k : ℕ). get_or (filter P (below n) ++ n ∷ []) k d) place
              ∙ get_or-append_seam (filter P (below n)) n [] d ∙ sym same;
        }
  ]

  last_small : (n : ℕ) → (b : Bool) → length (if b then n ∷ [] else []) ≤ 1
  last_small n true = omega arith
  last_small n false = omega arith

  pub few_pass : (n : ℕ) → length (filter P (below n)) ≤ n
  few_pass zero = let none = none_passed in omega arith
  few_pass (suc n) =
      let size : length (filter P (below (suc n))) ≡ length (filter P (below n)) + length (last P n) = ap (λ (xs : List ℕ). length xs) (passed_more P n) ∙ length-append (filter P (below n)) (last P n) in
      let was = few_pass n in
      let one = last_small n (P n) in
      omega arith

-- an external port of a tree is one of all ports
pub external_low : (t : Shape) (q : ℕ) → IsTree t → is_external t q ≡ true → q < 4160
external_low t q tree is = elim (cases_lt q 4160) [
  | inl low ↦ low
  | inr past ↦ absurd (let none = no_port_past t q tree.sized past in cc)
]

-- a port on which an extender hangs is none
pub hung_not_external : (t : Shape) (p n : ℕ) → IsTree t → HangsOn t n p → is_external t p ≡ false
unfolding is_cascade
hung_not_external t p n tree hangs =
    let test : (is_extender t n && on t n == p) ≡ true = rw (lt-ltb 0 n hangs.extender, lt-ltb 0 (slice_index t.ports n) hangs.there) (eq-eqb (on t n) p hangs.at) in
    let low : n < 65 = extender-low t tree n (extender_from t n hangs.extender hangs.there) in
    let cascade : is_cascade t p ≡ true = any_below-from (λ m. is_extender t m && on t m == p) 65 n low test in
    rw cascade (and_false (is_port t p))
  where
    and_false : (b : Bool) → (b && false) ≡ false
    and_false true = refl
    and_false false = refl

pub few_external : (t : Shape) → length (external_ports t) ≤ 4160
unfolding external_ports
few_external t = few_pass (is_external t) 4160

-- ---- the places while they are found
-- those below n
pub record ArePlacedBelow (t : Shape) (n : ℕ) (row table : List ℕ) : Type 0 where
  pub ports : row ≡ filter (is_external t) (below n)
  pub sized : length table ≡ n
  pub placed : (q : ℕ) → q < n → slice_index table q ≡ place_in t q

pub places_begin : (t : Shape) (row table : List ℕ) → row ≡ [] → table ≡ [] → ArePlacedBelow t 0 row table
places_begin t row table none empty = record {
  ports = none ∙ sym (passed_none (is_external t));
  sized = ap (λ (xs : List ℕ). length xs) empty;
  placed = λ q low. absurd (omega arith);
}

pub places_more : (t : Shape) (n p : ℕ) (external : Bool) (row row' table table' : List ℕ) → ArePlacedBelow t n row table → p ≡ n → external ≡ is_external t p →
    row' ≡ row ++ (if external then p ∷ [] else []) → table' ≡ table ++ length row ∷ [] → ArePlacedBelow t (n + 1) row' table'
places_more t n p external row row' table table' is same test put pushed = record {
  ports =
      put ∙ ap (λ (b : Bool). row ++ (if b then p ∷ [] else [])) test ∙ ap (λ (q : ℕ). row ++ (if is_external t q then q ∷ [] else [])) same
      ∙ ap (λ (xs : List ℕ). xs ++ last (is_external t) n) is.ports ∙ sym (passed_more (is_external t) n) ∙ ap (λ (k : ℕ). filter (is_external t) (below k)) (sym (add-one n));
  sized = ap (λ (xs : List ℕ). length xs) pushed ∙ length-append table (length row ∷ []) ∙ ap (λ (k : ℕ). k + 1) is.sized;
  placed = λ q low. ap (λ (xs : List ℕ). slice_index xs q) pushed ∙ elim (cases_lt q n) [
    | inl before ↦ get_or_append_left table (length row ∷ []) 0 q (let size = is.sized in omega arith) ∙ is.placed q before
    | inr after ↦
        let here : q ≡ n = omega arith in
        let end : q ≡ length table = here ∙ sym is.sized in
        ap (λ (k : ℕ). slice_index (table ++ length row ∷ []) k) end ∙ get_or-append_seam table (length row) [] 0
        ∙ ap (λ (xs : List ℕ). length xs) is.ports ∙ ap (place_in t) (sym here)
  ];
}

pub places_end : (t : Shape) (n : ℕ) (row table : List ℕ) → ArePlacedBelow t n row table → n ≡ 4160 → ArePlaced t row table
unfolding external_ports
places_end t n row table is all =
    let end = subst (λ (k : ℕ). ArePlacedBelow t k row table) all is in
    record { ports = end.ports; sized = end.sized; placed = end.placed }

pub places_low : (t : Shape) (n : ℕ) (row table : List ℕ) → ArePlacedBelow t n row table → length row ≤ n
places_low t n row table is = let size = ap (λ (xs : List ℕ). length xs) is.ports in let few = few_pass (is_external t) n in omega arith

-- ---- the captures of a manifest

pub port_is : (manifest : Listed) (j : ℕ) → j < port_count manifest → IsAt (is_external manifest.tree) 4160 j (port_at manifest j)
unfolding external_ports
port_is manifest j low = at_place (is_external manifest.tree) 4160 j 0 low

pub place_is : (manifest : Listed) (q : ℕ) → q < 4160 → is_external manifest.tree q ≡ true → IsPlaced (is_external manifest.tree) 4160 q 0
place_is manifest q low is = placed (is_external manifest.tree) 4160 q 0 low is

-- the place of an external port is that of its capture
pub place_low : (manifest : Listed) (q : ℕ) → q < 4160 → is_external manifest.tree q ≡ true → place_in manifest.tree q < port_count manifest
unfolding external_ports
place_low manifest q low is = (place_is manifest q low is).inside

pub port_of_place : (manifest : Listed) (q : ℕ) → q < 4160 → is_external manifest.tree q ≡ true → port_at manifest (place_in manifest.tree q) ≡ q
unfolding external_ports
port_of_place manifest q low is = (place_is manifest q low is).here

pub place_of_port : (manifest : Listed) (j : ℕ) → j < port_count manifest → place_in manifest.tree (port_at manifest j) ≡ j
place_of_port manifest j low = (port_is manifest j low).back
