-- Kinds of files, their numbers, and their places behind the captures.
use Rattle.std.proofs.Common.{◌≡◌, ◌≢◌, ◌⊎◌, ◌<◌, ◌≤◌, ◌+◌, ◌==◌, ◌&&◌, ◌++◌, inl, inr, ℕ, zero, suc, Bool, true, false, if◌then◌else◌, List, [], ◌∷◌, length, get_or, set, drop, filter, Option, Some, None, refl, ap, sym, ◌∙◌, arith, eq-eqb, append_assoc}
use Rattle.std.specs.Prelude.{slice_index, unwrap_or}
use Rattle.std.proofs.lemmas.Bool.{cases_eq, eqb-true, false≢true, ne_eqb}
use Rattle.std.proofs.lemmas.List.{append-nil, get_or-set_same, get_or-set_other}
use Rattle.std.proofs.lemmas.List.Elements.{filter_passes}
use Rattle.exb_journal.specs.declared.file_names.OutputKind.{OutputKind}
use Rattle.exb_journal.specs.declared.file_names.OutputKind.TheVariants as output
use Rattle.exb_journal.specs.FileNames.{IsOfPort, file_name, other_outputs}
use Rattle.exb_journal.proofs.FileNameLemmas.{name_behind}
use Rattle.exb_cli.specs.declared.invocations.Options.{Options}
use Rattle.exb_cli.specs.Kinds.{is_asked, is_same, kinds_behind, number_of, place_among, place_behind, port_of}

-- ---- a clause for each kind
-- the kind of a number, and of a port
abbrev numbered : ℕ → ℕ → OutputKind
numbered zero q = output.Capture q
numbered (suc zero) q = output.Journal
numbered (suc (suc zero)) q = output.Trace
numbered (suc (suc (suc n))) q = output.Counters

numbered_is : (o : OutputKind) → numbered (number_of o) (unwrap_or (port_of o) 0) ≡ o
numbered_is (output.Capture q) = refl
numbered_is output.Journal = refl
numbered_is output.Trace = refl
numbered_is output.Counters = refl

pub capture_is : (o : OutputKind) (q : ℕ) → port_of o ≡ Some q → o ≡ output.Capture q
capture_is (output.Capture p) q is = cc
capture_is output.Journal q is = absurd (cc)
capture_is output.Trace q is = absurd (cc)
capture_is output.Counters q is = absurd (cc)

pub of_no_port : (o : OutputKind) → port_of o ≡ None → IsOfPort o
of_no_port (output.Capture q) is = absurd (cc)
of_no_port output.Journal is = tt
of_no_port output.Trace is = tt
of_no_port output.Counters is = tt

no_port : (o : OutputKind) → 0 < number_of o → port_of o ≡ None
no_port (output.Capture q) above = absurd (omega (arith, above))
no_port output.Journal above = refl
no_port output.Trace above = refl
no_port output.Counters above = refl

pub number_low : (o : OutputKind) → number_of o < 4
number_low (output.Capture q) = omega arith
number_low output.Journal = omega arith
number_low output.Trace = omega arith
number_low output.Counters = omega arith

-- its file has a name that begins as all do
pub name_begins : (prefix : List ℕ) (o : OutputKind) → (rest : List ℕ) × (file_name prefix o ≡ prefix ++ rest)
name_begins prefix o = (file_name [] o, name_behind prefix o)

-- a kind stands in a list
abbrev pub IsIn : OutputKind → List OutputKind → Type 0
IsIn o [] = ⊥
IsIn o (x ∷ xs) = (x ≡ o) ⊎ IsIn o xs

pub is_other : (o : OutputKind) → port_of o ≡ None → IsIn o other_outputs
is_other (output.Capture q) is = absurd (cc)
is_other output.Journal is = inl refl
is_other output.Trace is = inr (inl refl)
is_other output.Counters is = inr (inr (inl refl))

-- the numbers of a list rise, from above this one on
abbrev IsAbove : ℕ → List OutputKind → Type 0
IsAbove n [] = Unit {0}
IsAbove n (x ∷ xs) = (n < number_of x) × IsAbove (number_of x) xs

others_rise : IsAbove 0 other_outputs
others_rise = (omega arith, (omega arith, (omega arith, tt)))

-- ---- tests
and_both : (b c : Bool) → (b && c) ≡ true → (b ≡ true) × (c ≡ true)
and_both true c is = (refl, is)
and_both false c is = absurd (false≢true is)

pub same_is : (o k : OutputKind) → is_same o k ≡ true → o ≡ k
same_is o k is =
    let both = and_both (number_of o == number_of k) (unwrap_or (port_of o) 0 == unwrap_or (port_of k) 0) is in
    sym (numbered_is o) ∙ ap (λ (n : ℕ). numbered n (unwrap_or (port_of o) 0)) (eqb-true (number_of o) (number_of k) both.0)
    ∙ ap (numbered (number_of k)) (eqb-true (unwrap_or (port_of o) 0) (unwrap_or (port_of k) 0) both.1) ∙ numbered_is k

pub same_itself : (o : OutputKind) → is_same o o ≡ true
same_itself o = rw (eq-eqb (number_of o) (number_of o) refl) (eq-eqb (unwrap_or (port_of o) 0) (unwrap_or (port_of o) 0) refl)

pub other_kind : (o k : OutputKind) → o ≢ k → is_same o k ≡ false
other_kind o k not = by_test (is_same o k) refl
  where
    by_test : (b : Bool) → is_same o k ≡ b → is_same o k ≡ false
    by_test true is = absurd (not (same_is o k is))
    by_test false is = is

-- of two kinds behind the captures the numbers say it
number_is : (o k : OutputKind) → port_of o ≡ None → port_of k ≡ None → number_of o ≡ number_of k → o ≡ k
number_is o k none other same =
    let port : unwrap_or (port_of o) 0 ≡ unwrap_or (port_of k) 0 = ap (λ (p : Option ℕ). unwrap_or p 0) (none ∙ sym other) in
    sym (numbered_is o) ∙ ap (λ (n : ℕ). numbered n (unwrap_or (port_of o) 0)) same ∙ ap (numbered (number_of k)) port ∙ numbered_is k

-- ---- lists whose numbers rise
above_lower : (m n : ℕ) (xs : List OutputKind) → m ≤ n → IsAbove n xs → IsAbove m xs
above_lower m n [] low above = tt
above_lower m n (x ∷ xs) low above = ((let own = above.0 in omega (arith, low, own)), above.1)

above_some : (test : OutputKind → Bool) (n : ℕ) (xs : List OutputKind) → IsAbove n xs → IsAbove n (filter test xs)
above_some test n [] above = tt
above_some test n (x ∷ xs) above = by_test (test x) (above_some test (number_of x) xs above.1)
  where
    by_test : (b : Bool) → IsAbove (number_of x) (filter test xs) → IsAbove n (if b then x ∷ filter test xs else filter test xs)
    by_test true rest = (above.0, rest)
    by_test false rest = above_lower n (number_of x) (filter test xs) (let own = above.0 in omega (arith, own)) rest

above_at : (n : ℕ) (xs : List OutputKind) (k : ℕ) (d : OutputKind) → k < length xs → IsAbove n xs → n < number_of (get_or xs k d)
above_at n [] k d low above = absurd (omega (arith, low))
above_at n (x ∷ xs) zero d low above = above.0
above_at n (x ∷ xs) (suc k) d low above = (let own = above.0 in let later = above_at (number_of x) xs k d (omega (arith, low)) above.1 in omega (arith, own, later))

place_at : (n : ℕ) (xs : List OutputKind) (k : ℕ) (d : OutputKind) → k < length xs → IsAbove n xs → place_among (number_of (get_or xs k d)) xs ≡ k
place_at n [] k d low above = absurd (omega (arith, low))
place_at n (x ∷ xs) zero d low above = rw (eq-eqb (number_of x) (number_of x) refl) refl
place_at n (x ∷ xs) (suc k) d low above =
    let later = above_at (number_of x) xs k d (omega (arith, low)) above.1 in
    rw (ne_eqb (number_of x) (number_of (get_or xs k d)) (λ e. omega (arith, e, later))) (ap suc (place_at (number_of x) xs k d (omega (arith, low)) above.1))

-- ---- what stands in a list
in_some : (test : OutputKind → Bool) (o : OutputKind) (xs : List OutputKind) → test o ≡ true → IsIn o xs → IsIn o (filter test xs)
in_some test o [] passes is = absurd is
in_some test o (x ∷ xs) passes (inl same) = by_test (test x) (ap test same ∙ passes)
  where
    by_test : (b : Bool) → b ≡ true → IsIn o (if b then x ∷ filter test xs else filter test xs)
    by_test true e = inl same
    by_test false e = absurd (false≢true e)
in_some test o (x ∷ xs) passes (inr later) = by_test (test x) (in_some test o xs passes later)
  where
    by_test : (b : Bool) → IsIn o (filter test xs) → IsIn o (if b then x ∷ filter test xs else filter test xs)
    by_test true rest = inr rest
    by_test false rest = rest

-- it stands at its place
pub record StandsAt (xs : List OutputKind) (k : ℕ) (o : OutputKind) : Type 0 where
  pub low : k < length xs
  pub here : get_or xs k output.Journal ≡ o

stands : (n : ℕ) (xs : List OutputKind) (o : OutputKind) → port_of o ≡ None → IsAbove n xs → IsIn o xs → StandsAt xs (place_among (number_of o) xs) o
stands n [] o none above is = absurd is
stands n (x ∷ xs) o none above is = elim (cases_eq (number_of x) (number_of o)) [
  | inl same ↦
      rw (eq-eqb (number_of x) (number_of o) same)
      (record { low = omega arith; here = number_is x o (no_port x (let own = above.0 in omega (arith, own))) none same })
  | inr other ↦
      let rest = stands (number_of x) xs o none above.1 (later is other) in
      rw (ne_eqb (number_of x) (number_of o) other) (record { low = (let own = rest.low in omega (arith, own)); here = rest.here })
]
  where
    later : IsIn o (x ∷ xs) → number_of x ≢ number_of o → IsIn o xs
    later (inl same) differ = absurd (differ (ap number_of same))
    later (inr is') differ = is'

-- ---- behind the captures
pub asked_stands : (options : Options) (o : OutputKind) → port_of o ≡ None → is_asked options o ≡ true → StandsAt (kinds_behind options) (place_behind options o) o
asked_stands options o none asked =
    stands 0 (kinds_behind options) o none (above_some (is_asked options) 0 other_outputs others_rise) (in_some (is_asked options) o other_outputs asked (is_other o none))

-- what stands at a place
pub record IsBehind (options : Options) (k : ℕ) (o : OutputKind) : Type 0 where
  pub asked : is_asked options o ≡ true
  pub none : port_of o ≡ None
  pub place : place_behind options o ≡ k

pub behind_is : (options : Options) (k : ℕ) → k < length (kinds_behind options) → IsBehind options k (get_or (kinds_behind options) k output.Journal)
behind_is options k low =
    let above = above_some (is_asked options) 0 other_outputs others_rise in
    record {
      asked = filter_passes (is_asked options) other_outputs k output.Journal low;
      none = no_port (get_or (kinds_behind options) k output.Journal) (above_at 0 (kinds_behind options) k output.Journal low above);
      place = place_at 0 (kinds_behind options) k output.Journal low above;
    }

-- ---- the list while it is made
pub one_more : (b : Bool) (x : OutputKind) (before rest : List OutputKind) → (before ++ (if b then x ∷ [] else [])) ++ rest ≡ before ++ (if b then x ∷ rest else rest)
one_more true x before rest = append_assoc before (x ∷ []) rest
one_more false x before rest = ap (λ (xs : List OutputKind). xs ++ rest) (append-nil before)

fewer : (test : OutputKind → Bool) (xs : List OutputKind) → length (filter test xs) ≤ length xs
fewer test [] = omega arith
fewer test (x ∷ xs) = by_test (test x) (fewer test xs)
  where
    by_test : (b : Bool) → length (filter test xs) ≤ length xs → length (if b then x ∷ filter test xs else filter test xs) ≤ suc (length xs)
    by_test true rest = omega (arith, rest)
    by_test false rest = omega (arith, rest)

pub few_behind : (options : Options) → length (kinds_behind options) ≤ 256
few_behind options = (let few = fewer (is_asked options) other_outputs in let all : length other_outputs ≡ 3 = refl in omega (arith, few, all))

-- ---- the place while it is sought
pub place_beyond : (n : ℕ) (xs : List OutputKind) (k : ℕ) (d : OutputKind) → k < length xs → number_of (get_or xs k d) ≢ n → place_among n (drop k xs) ≡ suc (place_among n (drop (suc k) xs))
place_beyond n [] k d low other = absurd (omega (arith, low))
place_beyond n (x ∷ xs) zero d low other = rw (ne_eqb (number_of x) n other) refl
place_beyond n (x ∷ xs) (suc k) d low other = place_beyond n xs k d (omega (arith, low)) other

pub place_here : (n : ℕ) (xs : List OutputKind) (k : ℕ) (d : OutputKind) → k < length xs → number_of (get_or xs k d) ≡ n → place_among n (drop k xs) ≡ 0
place_here n [] k d low same = absurd (omega (arith, low))
place_here n (x ∷ xs) zero d low same = rw (eq-eqb (number_of x) n same) refl
place_here n (x ∷ xs) (suc k) d low same = place_here n xs k d (omega (arith, low)) same

pub place_ends : (n : ℕ) (xs : List OutputKind) (k : ℕ) → length xs ≤ k → place_among n (drop k xs) ≡ 0
place_ends n [] zero low = refl
place_ends n [] (suc k) low = refl
place_ends n (x ∷ xs) zero low = absurd (omega (arith, low))
place_ends n (x ∷ xs) (suc k) low = place_ends n xs k (omega (arith, low))

pub place_low : (n : ℕ) (xs : List OutputKind) → place_among n xs ≤ length xs
place_low n [] = omega arith
place_low n (x ∷ xs) = by_test (number_of x == n) (place_low n xs)
  where
    by_test : (b : Bool) → place_among n xs ≤ length xs → (if b then 0 else suc (place_among n xs)) ≤ suc (length xs)
    by_test true rest = omega arith
    by_test false rest = omega (arith, rest)

-- ---- the table of places
pub place_put : (kinds : List OutputKind) (places : List ℕ) (i : ℕ) → i < length places → ((n : ℕ) → n < i → slice_index places n ≡ place_among n kinds) → (n : ℕ) → n < i + 1 → slice_index (set places i (place_among i kinds)) n ≡ place_among n kinds
place_put kinds places i inside before n low = elim (cases_eq n i) [
  | inl is ↦
      ap (slice_index (set places i (place_among i kinds))) is ∙ get_or-set_same places i (place_among i kinds) 0 inside ∙ ap (λ (k : ℕ). place_among k kinds) (sym is)
  | inr other ↦ get_or-set_other places i n (place_among i kinds) 0 other ∙ before n (omega (arith, other, low))
]

pub few_places : (options : Options) (n : ℕ) → place_among n (kinds_behind options) ≤ 256
few_places options n = (let low = place_low n (kinds_behind options) in let few = few_behind options in omega (arith, low, few))
