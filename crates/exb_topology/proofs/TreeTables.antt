-- Tables that extenders are laid into, where their numbers are distinct.
use Rattle.std.proofs.Common.{◌≡◌, ◌≢◌, ℕ, suc, ◌<◌, ◌==◌, Bool, true, false, cond, List, [], ◌∷◌, length, slice_index, get_or, set, AllPairs, refl, sym, ap, ◌∙◌, length-set, arith}
use Rattle.std.specs.List.{list_any}
use Rattle.std.proofs.lemmas.Bool.{or_parts, eqb-true, eqb-false, ne_eqb, false≢true}
use Rattle.std.proofs.lemmas.List.{get_or-set_same, get_or-set_other}
use Rattle.std.proofs.lemmas.List.Folds.{list_any_none}
use Rattle.exb_model.specs.declared.setup.ExtenderSetup.{ExtenderSetup}
use Rattle.exb_model.specs.Setup.{lay}
use Rattle.exb_topology.specs.Trees.{ports_of}

abbrev pub Value : Type 0
Value = ExtenderSetup → ℕ

abbrev pub has_number : ℕ → List ExtenderSetup → Bool
has_number n es = list_any (λ e. e.number == n) es

-- no number stands twice
abbrev pub Apart : List ExtenderSetup → Type 0
Apart [] = Unit {0}
Apart (e ∷ es) = (has_number e.number es ≡ false) × Apart es

pub apart_from : (es : List ExtenderSetup) → AllPairs (λ a b. a.number ≢ b.number) es → Apart es
apart_from [] distinct = tt
apart_from (e ∷ es) distinct = (
  list_any_none (λ f. f.number == e.number) es (λ k d lt. ne_eqb (get_or es k d).number e.number (λ same. distinct 0 (suc k) d (omega arith) (omega arith) (sym same))),
  apart_from es (λ i j d lt within. distinct (suc i) (suc j) d (omega arith) (omega arith)),
)

-- what the first extender of a number has, or another value
abbrev pub first_or : ℕ → Value → List ExtenderSetup → ℕ → ℕ
first_or z v [] n = z
first_or z v (e ∷ es) n = cond (e.number == n) (v e) (first_or z v es n)

pub ports_of_first : (es : List ExtenderSetup) (n : ℕ) → ports_of es n ≡ first_or 0 (λ e. e.ports) es n
ports_of_first [] n = refl
ports_of_first (e ∷ es) n = ap (cond (e.number == n) e.ports) (ports_of_first es n)

lay_other : (v : Value) (table : List ℕ) (es : List ExtenderSetup) (n : ℕ) → has_number n es ≡ false → slice_index (lay v table es) n ≡ slice_index table n
lay_other v table [] n none = refl
lay_other v table (e ∷ es) n none =
    let (here, rest) = or_parts (e.number == n) (has_number n es) none in
    lay_other v (set table e.number (v e)) es n rest ∙ get_or-set_other table e.number n (v e) 0 (λ same. eqb-false e.number n here (sym same))

pub first_laid : (v : Value) (table : List ℕ) (es : List ExtenderSetup) (n : ℕ) → n < length table → Apart es → slice_index (lay v table es) n ≡ first_or (slice_index table n) v es n
first_laid v table [] n lt apart = refl
first_laid v table (e ∷ es) n lt apart = by_test (first_laid v (set table e.number (v e)) es n (omega (arith, length-set table e.number (v e))) apart.1) (e.number == n) refl
  where
    by_test : slice_index (lay v (set table e.number (v e)) es) n ≡ first_or (slice_index (set table e.number (v e)) n) v es n → (b : Bool) → (e.number == n) ≡ b → slice_index (lay v (set table e.number (v e)) es) n ≡ cond (e.number == n) (v e) (first_or (slice_index table n) v es n)
    by_test rest true is =
        let same : e.number ≡ n = eqb-true e.number n is in
        let none : has_number n es ≡ false = ap (λ m. has_number m es) (sym same) ∙ apart.0 in
        let laid : slice_index (set table e.number (v e)) n ≡ v e = ap (λ m. slice_index (set table m (v e)) n) same ∙ get_or-set_same table n (v e) 0 lt in
        rw is (lay_other v (set table e.number (v e)) es n none ∙ laid)
    by_test rest false isnt =
        let other : slice_index (set table e.number (v e)) n ≡ slice_index table n = get_or-set_other table e.number n (v e) 0 (λ same. eqb-false e.number n isnt (sym same)) in
        rw isnt (rest ∙ ap (λ z. first_or z v es n) other)

pub first_none : (z : ℕ) (v : Value) (es : List ExtenderSetup) (n : ℕ) → has_number n es ≡ false → first_or z v es n ≡ z
first_none z v [] n none = refl
first_none z v (e ∷ es) n none =
    let (here, rest) = or_parts (e.number == n) (has_number n es) none in
    rw here (first_none z v es n rest)

-- the first extender of a number
pub record Entry (es : List ExtenderSetup) (n : ℕ) : Type 0 where
  pub at : ℕ
  pub extender : ExtenderSetup
  pub within : at < length es
  pub is : (d : ExtenderSetup) → get_or es at d ≡ extender
  pub number : extender.number ≡ n
  pub first : (z : ℕ) (v : Value) → first_or z v es n ≡ v extender

pub entry : (es : List ExtenderSetup) (n : ℕ) → has_number n es ≡ true → Entry es n
entry [] n found = absurd (false≢true found)
entry (e ∷ es) n found = by_test (entry es n) (e.number == n) refl
  where
    by_test : (has_number n es ≡ true → Entry es n) → (b : Bool) → (e.number == n) ≡ b → Entry (e ∷ es) n
    by_test rest_of true is = record { at = 0; extender = e; within = omega arith; is = λ d. refl; number = eqb-true e.number n is; first = λ z v. rw is refl }
    by_test rest_of false isnt =
        let rest = rest_of (rw isnt at found) in
        record { at = suc rest.at; extender = rest.extender; within = omega (arith, rest.within); is = rest.is; number = rest.number; first = λ z v. rw isnt (rest.first z v) }

pub length-lay : (v : Value) (table : List ℕ) (es : List ExtenderSetup) → length (lay v table es) ≡ length table
length-lay v table [] = refl
length-lay v table (e ∷ es) = length-lay v (set table e.number (v e)) es ∙ length-set table e.number (v e)
